-- The condition code register as a whole: ANDCC and ORCC (manual, appendix A).
-- Assumes nothing.
use Rattle.std.specs.Prelude.{ℕ, bit_and, bit_or}
use Rattle.registers.specs.ConditionCodes.{coded}
use Rattle.registers.specs.declared.CCBits.{CCBits}
use Rattle.registers.specs.declared.Set.{Set}

abbrev pub with_codes : Set → CCBits → Set
with_codes r cc = record { x = r.x; y = r.y; u = r.u; s = r.s; pc = r.pc; a = r.a; b = r.b; dp = r.dp; cc = cc }

-- ANDCC: CC and the byte
abbrev pub and_codes : Set → ℕ → Set
and_codes r m = with_codes r (coded (bit_and r.cc.reg m))

-- ORCC: CC or the byte
abbrev pub or_codes : Set → ℕ → Set
or_codes r m = with_codes r (coded (bit_or r.cc.reg m))
