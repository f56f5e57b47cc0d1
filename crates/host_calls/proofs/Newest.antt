-- Where the newest record stands: nowhere, or up to the end of the bytes used; and that the part is the record.
-- Assumes nothing.
use Prim.Native.Nat.{ℕ, ◌-◌, ◌≤◌}
use mathlib.Core.Path.{◌≡◌, refl, ap}
use mathlib.Core.Bool.{Bool, true, false, cond, ◌&&◌}
use mathlib.Core.List.{List, []}
use native.Mathlib.Omega.{arith}
use borrow.Author.Tests.{leb-true}
use lib.Dec.{leb, ltb}
use lib.ListN.{length, take, drop}
use Rattle.journal.specs.Undos.{last_byte, newest_at, sound_at, is_there, newest_of, newest_from}
use Rattle.journal.proofs.Answers.{and-true, Newest, sound-newest}
use Rattle.host_calls.specs.Results.{part_of, NewestPart}
use Rattle.host_calls.specs.declared.HostPart.{HostPart}

module _ (j : List ℕ) (records bytes : ℕ) where
  there : is_there j records bytes ≡ true → Newest j bytes (newest_at j bytes)
  there e =
      let a = and-true (leb bytes (length j)) _ e in
      let b = and-true (ltb 0 records) _ a.1 in
      sound-newest j bytes (leb-true bytes (length j) a.0) b.1

  -- by the length of the part that is handed back
  none-by : (b : Bool) → is_there j records bytes ≡ b → (n : ℕ) → n ≡ length (newest_of j records bytes) → n ≡ 0 → record { at = 0; count = 0 } ≡ part_of j records bytes
  unfolding part_of newest_of newest_from
  none-by true e n q z = let m = there e in let l : n ≡ length (newest_at j bytes) = rw e at q in absurd (omega (arith, m.long))
  none-by false e n q z = rw e

  some-by : (b : Bool) → is_there j records bytes ≡ b → (n : ℕ) → n ≡ length (newest_of j records bytes) → (n ≡ 0 → ⊥)
      → (n ≤ bytes) × (record { at = bytes - n; count = n } ≡ part_of j records bytes)
  unfolding part_of newest_of newest_from
  some-by true e n q z =
      let m = there e in
      let l : n ≡ length (newest_at j bytes) = rw e at q in
      let k : n ≡ last_byte j bytes = omega (arith, m.size) in
      (omega (arith, m.within-used), rw (e, ← l, ← k))
  some-by false e n q z = let l : n ≡ 0 = rw e at q in absurd (z l)

  pub no_part : (n : ℕ) → n ≡ length (newest_of j records bytes) → n ≡ 0 → record { at = 0; count = 0 } ≡ part_of j records bytes
  no_part = none-by (is_there j records bytes) refl

  pub a-part : (n : ℕ) → n ≡ length (newest_of j records bytes) → (n ≡ 0 → ⊥) → (n ≤ bytes) × (record { at = bytes - n; count = n } ≡ part_of j records bytes)
  a-part = some-by (is_there j records bytes) refl

part_by : (b : Bool) (j : List ℕ) (records bytes : ℕ) → is_there j records bytes ≡ b
    → take (length (newest_of j records bytes)) (drop (newest_from j records bytes) j) ≡ newest_of j records bytes
unfolding newest_of newest_from newest_at
part_by true j records bytes e =
    let m = there j records bytes e in
    rw e (ap (λ (n : ℕ). take n (drop (bytes - last_byte j bytes) j)) m.size)
part_by false j records bytes e = rw e

pub newest-part : NewestPart
unfolding part_of
newest-part j records bytes = part_by (is_there j records bytes) j records bytes refl
