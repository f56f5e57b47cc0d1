-- Rows 8 to F by their first bit, rows 2 and 3, and no other row.
-- Assumes nothing.
use Rattle.std.specs.Prelude.{None}
use borrow.Author.Rules.{rules}
use Prim.Native.Nat.{ℕ, ◌/◌, ◌%◌}
use mathlib.Core.Path.{refl}
use mathlib.Core.List.{[], ◌∷◌}
use lib.ListN.{get_or}
use native.Mathlib.Omega.{arith}
use borrow.Author.Tests.{le-leb, lt-leb}
use Rattle.fields.specs.Named.{long_branch, software_interrupt}
use Rattle.fields.specs.Fields.{prefixed_place}
use Rattle.fields.proofs.Places.{rest}
use Rattle.fields.proofs.prefixed.Goals as goal

pub returns-then-code-ge128 : goal.returns-then-code-ge128
unfolding prefixed_place
returns-then-code-ge128 c = rw (c.place.ensures, le-leb 0x80 c.args.code c.if-code-ge128.true)

pub returns-in-2 : goal.returns-in-2
unfolding prefixed_place
returns-in-2 c = rw (c.long.ensures, lt-leb 0x80 c.args.code c.if-code-ge128.false, c.in-2.is)

pub returns-in-3 : goal.returns-in-3
unfolding prefixed_place
returns-in-3 c = rw (c.software.ensures, lt-leb 0x80 c.args.code c.if-code-ge128.false, c.in-3.is)

pub returns-in_default : goal.returns-in_default
unfolding prefixed_place
returns-in_default c =
    let x = c.args in
    let k = x.code % 16 in
    rw (lt-leb 0x80 x.code c.if-code-ge128.false)
    (rest (λ (row : ℕ). get_or (None ∷ None ∷ long_branch x.page k ∷ software_interrupt x.page k ∷ []) row None) None (3 ∷ 2 ∷ []) 16 (x.code / 16) refl (omega arith) (search rules))
