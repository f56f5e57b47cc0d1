-- Two groups by bits 3 and 2; every other column is in the third.
-- Assumes nothing.
use borrow.Author.Rules.{rules}
use Prim.Native.Nat.{ℕ, ◌/◌}
use mathlib.Core.Path.{refl, ◌∙◌}
use mathlib.Core.List.{[], ◌∷◌}
use lib.ListN.{get_or}
use native.Mathlib.Omega.{arith}
use Rattle.opcodes.proofs.Rows.{down}
use Rattle.fields.specs.Named.{address_load, stack_transfer, by_name, row_three}
use Rattle.fields.proofs.Places.{rest}
use Rattle.fields.proofs.named.row_3.Goals as goal

pub returns-in-0 : goal.returns-in-0
unfolding row_three
returns-in-0 c = rw (c.address_load.ensures, c.in-0.is)

pub returns-in-1 : goal.returns-in-1
unfolding row_three
returns-in-1 c = rw (c.stack_transfer.ensures, c.in-1.is)

pub returns-in_default : goal.returns-in_default
unfolding row_three
returns-in_default c =
    let x = c.args.column in
    c.by_name.ensures
    ∙ rest (λ (k : ℕ). get_or (address_load x ∷ stack_transfer x ∷ []) k (by_name x)) (by_name x) (down 2) 64 (x / 4) refl (omega arith) (search rules)
