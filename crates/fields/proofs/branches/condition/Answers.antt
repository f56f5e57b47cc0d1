-- Eight pairs, of which the last stands for every number from 7 on.
-- Assumes nothing.
use borrow.Author.Rules.{rules}
use Prim.Native.Nat.{ℕ, ◌/◌}
use mathlib.Core.Path.{refl, ◌∙◌}
use mathlib.Core.List.{[], ◌∷◌}
use lib.ListN.{get_or}
use native.Mathlib.Omega.{arith}
use Rattle.opcodes.specs.declared.Cond.TheVariants.{Ra, Rn, Hi, Ls, Cc, Cs, Ne, Eq, Vc, Vs, Pl, Mi, Ge, Lt, Gt, Le}
use Rattle.opcodes.proofs.Rows.{down}
use Rattle.fields.specs.Named.{one_of_pair, branch_condition}
use Rattle.fields.proofs.Places.{rest}
use Rattle.fields.proofs.branches.condition.Goals as goal

pub returns-in-0 : goal.returns-in-0
unfolding branch_condition
returns-in-0 c = rw (c.one_of_pair.ensures, c.in-0.is)

pub returns-in-1 : goal.returns-in-1
unfolding branch_condition
returns-in-1 c = rw (c.one_of_pair-in-1.ensures, c.in-1.is)

pub returns-in-2 : goal.returns-in-2
unfolding branch_condition
returns-in-2 c = rw (c.one_of_pair-in-2.ensures, c.in-2.is)

pub returns-in-3 : goal.returns-in-3
unfolding branch_condition
returns-in-3 c = rw (c.one_of_pair-in-3.ensures, c.in-3.is)

pub returns-in-4 : goal.returns-in-4
unfolding branch_condition
returns-in-4 c = rw (c.one_of_pair-in-4.ensures, c.in-4.is)

pub returns-in-5 : goal.returns-in-5
unfolding branch_condition
returns-in-5 c = rw (c.one_of_pair-in-5.ensures, c.in-5.is)

pub returns-in-6 : goal.returns-in-6
unfolding branch_condition
returns-in-6 c = rw (c.one_of_pair-in-6.ensures, c.in-6.is)

pub returns-in_default : goal.returns-in_default
unfolding branch_condition
returns-in_default c =
    let x = c.args.column in
    let pair = one_of_pair x in
    c.one_of_pair-in_default.ensures
    ∙ rest (λ (k : ℕ). get_or (pair Ra Rn ∷ pair Hi Ls ∷ pair Cc Cs ∷ pair Ne Eq ∷ pair Vc Vs ∷ pair Pl Mi ∷ pair Ge Lt ∷ []) k (pair Gt Le)) (pair Gt Le) (down 7) 128 (x / 2) refl (omega arith) (search rules)
