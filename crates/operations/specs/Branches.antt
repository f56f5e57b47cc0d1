-- Branches and jumps (manual, appendix A: Bcc, JMP): ea is the address that is branched to.
-- Assumes nothing.
use Rattle.std.specs.Prelude.{ℕ, Bool, true, false, cond, not, ◌||◌}
use Rattle.registers.specs.ConditionCodes.{exclusive_or, flag}
use Rattle.registers.specs.RegisterSet.{with_pc}
use Rattle.registers.specs.declared.CCBit.TheVariants.{C, «V», Z, N}
use Rattle.registers.specs.declared.CCBits.{CCBits}
use Rattle.registers.specs.declared.Set.{Set}
use Rattle.opcodes.specs.declared.Cond.{Cond}
use Rattle.opcodes.specs.declared.Cond.TheVariants.{Ra, Rn, Hi, Ls, Cc, Cs, Ne, Eq, Vc, Vs, Pl, Mi, Ge, Lt, Gt, Le}

-- a signed comparison came out as less: N exclusive-or V
abbrev pub less : CCBits → Bool
less cc = exclusive_or (flag N cc) (flag «V» cc)

-- the manual's table of branches: when each is taken
abbrev pub condition : Cond → CCBits → Bool
condition Ra cc = true
condition Rn cc = false
condition Hi cc = not (flag C cc || flag Z cc)
condition Ls cc = flag C cc || flag Z cc
condition Cc cc = not (flag C cc)
condition Cs cc = flag C cc
condition Ne cc = not (flag Z cc)
condition Eq cc = flag Z cc
condition Vc cc = not (flag «V» cc)
condition Vs cc = flag «V» cc
condition Pl cc = not (flag N cc)
condition Mi cc = flag N cc
condition Ge cc = not (less cc)
condition Lt cc = less cc
condition Gt cc = not (flag Z cc || less cc)
condition Le cc = flag Z cc || less cc

-- PC is the address
abbrev pub jumped : Set → ℕ → Set
jumped r ea = with_pc r ea

abbrev pub branched : Cond → Set → ℕ → Set
branched c r ea = cond (condition c r.cc) (jumped r ea) r
