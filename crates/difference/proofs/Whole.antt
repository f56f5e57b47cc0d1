-- The laws of the differences of two machines with their memories.
-- Assumes nothing.
use Prim.Native.Nat.{ℕ}
use mathlib.Core.List.{List, [], ◌∷◌, ◌++◌, append-nil}
use mathlib.Core.Path.{◌≡◌, refl, sym, ap, ◌∙◌}
use native.Mathlib.Omega.{arith}
use lib.ListN.{length, length-append}
use Rattle.machine.specs.Record.{fields}
use Rattle.difference.specs.Differences.{Difference, fields_apart, runs, differences}
use Rattle.difference.specs.Laws.{EmptyExactly, EachFieldOnce, EachAddressOnce, RunsRise, RunsMaximal, OtherWayRound, Ceiling}
use Rattle.difference.proofs.EachAddress.{held-append, runs-rise, runs-few, runs-exchanged, runs-once, runs-maximal, equal-so, none_so, map-append}
use Rattle.difference.proofs.EachField.{entries-append, runs-apart, field-once, no-runs, fields-few, machines-same, no_fields, fields-exchanged}

both-empty : (xs ys : List Difference) → xs ++ ys ≡ [] → (xs ≡ []) × (ys ≡ [])
both-empty [] ys e = (refl, e)
both-empty (x ∷ xs) ys e = let z : ◌≡◌ {A = ℕ} 0 1 = cc in absurd (omega arith)

pub empty-exactly : EmptyExactly
unfolding differences
empty-exactly l r a b m n =
    record {
      equal = λ e. let p = both-empty (fields_apart fields l r) (runs a b) e in (machines-same l r p.0, equal-so a b m n p.1);
      empty = λ p q. rw (← p, ← q, no_fields l fields) (none_so a);
    }

pub each-field-once : EachFieldOnce
unfolding differences
each-field-once f l r a b =
    entries-append f (fields_apart fields l r) (runs a b) ∙ rw (runs-apart f 0 (runs a b) (runs-rise a b), append-nil) (field-once l r f)

pub each-address-once : EachAddressOnce
unfolding differences
each-address-once k l r a b m n =
    let none = ap length (no-runs l r k fields) in
    omega (arith, held-append k (fields_apart fields l r) (runs a b), runs-once a b m n k)

pub the-runs-rise : RunsRise
the-runs-rise a b = runs-rise a b

pub the-runs-are-maximal : RunsMaximal
the-runs-are-maximal a b m n = runs-maximal a b m n

pub other-way-round : OtherWayRound
unfolding differences
other-way-round l r a b = sym (map-append (fields_apart fields l r) (runs a b) ∙ rw (← fields-exchanged l r fields, ← runs-exchanged a b))

pub ceiling : Ceiling
unfolding differences
ceiling l r a b = rw length-append (omega (arith, fields-few l r fields, runs-few a b))
