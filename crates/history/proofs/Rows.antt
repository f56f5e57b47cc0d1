-- The journal as its records one after another: laws of ++, take, drop and sets. Rows are newest first, as the past is; their bytes lie
-- oldest first.
-- Assumes nothing.
use Prim.Native.Nat.{ℕ, zero, suc, ◌+◌, ◌-◌, ◌*◌, ◌≤◌, ◌<◌}
use mathlib.Core.Path.{◌≡◌, refl, sym, ap, ◌∙◌}
use mathlib.Core.Bool.{Bool, true, false, ◌&&◌}
use mathlib.Core.List.{List, [], ◌∷◌, ◌++◌, append_assoc, append-nil}
use native.Mathlib.Nat.{zero-add}
use native.Mathlib.Omega.{arith}
use lib.ListN.{length, get_or, take, drop, length-append, get_or-append}
use lib.Seq.{sets, sets-eq, append_snoc, get_or-append-add, get_or-append_seam, drop-append_seam, drop-append-add, take-append_seam, take_at}
use borrow.Author.Tests.{le-leb, lt-ltb}
use Rattle.machine.specs.declared.Machine.{Machine}
use Rattle.journal.specs.Record.{All, Saved, count_at, most_stored, record_length, encode, count_of, is_record}
use Rattle.journal.specs.Undos.{newest_at, sound_at}
use Rattle.journal.specs.Drops.{reach, passable, walks, moved}
use Rattle.journal.proofs.Reading.{body, ends, length-body, is-record}

unfoldable pub flat : List (List ℕ) → List ℕ
flat [] = []
flat (r ∷ rs) = flat rs ++ r

pub flat_append : (xs ys : List (List ℕ)) → flat (xs ++ ys) ≡ flat ys ++ flat xs
unfolding flat
flat_append [] ys = sym (append-nil (flat ys))
flat_append (x ∷ xs) ys = rw (flat_append xs ys) (append_assoc (flat ys) (flat xs) x)

-- ---- a record written behind the bytes used

pub appended : (p t r : List ℕ) (bytes : ℕ) → bytes ≡ length p → bytes + length r ≤ length (p ++ t) → sets (p ++ t) bytes r ≡ (p ++ r) ++ drop (length r) t
appended p t r bytes e h =
    rw e (sets-eq r (p ++ t) (length p) (omega arith) ∙ rw (take-append_seam p t, drop-append-add p t (length r)))

-- ---- the newest record, read from the end

module _ (p b t : List ℕ) (n : ℕ) (long : length b + 1 ≡ n) where
  last-is : get_or (p ++ ((b ++ (n ∷ [])) ++ t)) (length p + n - 1) 0 ≡ n
  last-is =
      let e : length p + n - 1 ≡ length p + length b = omega arith in
      rw e (get_or-append-add p ((b ++ (n ∷ [])) ++ t) (length b) 0 ∙ rw (append_snoc b n t) (get_or-append_seam b n t 0))

  newest-is : newest_at (p ++ ((b ++ (n ∷ [])) ++ t)) (length p + n) ≡ b ++ (n ∷ [])
  unfolding newest_at
  newest-is =
      let e : length p + n - n ≡ length p = omega arith in
      let l : length (b ++ (n ∷ [])) ≡ n = length-append b (n ∷ []) ∙ omega arith in
      rw (last-is, e, drop-append_seam p ((b ++ (n ∷ [])) ++ t)) (take_at (b ++ (n ∷ [])) t n l)

-- a record of a machine and entries, as undo and the view read it
module _ (j p t : List ℕ) (bytes : ℕ) (m : Machine) (es : List Saved) (lies : j ≡ p ++ (encode m es ++ t)) (is : bytes ≡ length p + record_length (length es)) where
  last-encode : get_or j (bytes - 1) 0 ≡ record_length (length es)
  last-encode = rw (lies, is, ends m es) (last-is p (body m es) t (record_length (length es)) (length-body m es))

  pub newest-encode : newest_at j bytes ≡ encode m es
  newest-encode = rw (lies, is, ends m es) (newest-is p (body m es) t (record_length (length es)) (length-body m es))

  pub sound-encode : length es ≤ most_stored → sound_at j bytes ≡ true
  unfolding sound_at
  sound-encode few =
      rw (
        last-encode,
        newest-encode,
        lt-ltb 0 bytes (omega arith),
        le-leb (record_length 0) (record_length (length es)) (omega arith),
        le-leb (record_length (length es)) bytes (omega arith),
        is-record m es few,
      )

-- ---- the walk from the front

-- what the walk sees of a record
pub record Whole (r : List ℕ) : Type 0 where
  pub few : count_of r ≤ most_stored
  pub long : length r ≡ record_length (count_of r)

count_read : (p r t : List ℕ) → Whole r → get_or (p ++ (r ++ t)) (length p + count_at) 0 ≡ count_of r
unfolding count_of
count_read p r t w = get_or-append-add p (r ++ t) count_at 0 ∙ get_or-append r t 0 count_at (omega (arith, w.long))

passable-at : (p r t : List ℕ) (bytes : ℕ) → Whole r → length p + length r ≤ bytes → passable (p ++ (r ++ t)) bytes (length p) ≡ true
unfolding passable
passable-at p r t bytes w h =
    rw (
      count_read p r t w,
      lt-ltb (length p + count_at) bytes (omega (arith, w.long)),
      le-leb (count_of r) most_stored w.few,
      le-leb (length p + record_length (count_of r)) bytes (omega (arith, w.long)),
    )

pub reach-flat : (rs : List (List ℕ)) (t : List ℕ) → All Whole rs → reach (length rs) (flat rs ++ t) ≡ length (flat rs)
unfolding flat reach
reach-flat [] t w = refl
reach-flat (r ∷ rs) t w =
    rw (append_assoc (flat rs) r t, reach-flat rs (r ++ t) w.1, count_read (flat rs) r t w.0, length-append (flat rs) r) (omega (arith, w.0.long))

pub walks-flat : (rs : List (List ℕ)) (t : List ℕ) (bytes : ℕ) → All Whole rs → length (flat rs) ≤ bytes → walks (length rs) (flat rs ++ t) bytes ≡ true
unfolding flat walks
walks-flat [] t bytes w h = refl
walks-flat (r ∷ rs) t bytes w h =
    let l = length-append (flat rs) r in
    rw (
      append_assoc (flat rs) r t,
      walks-flat rs (r ++ t) bytes w.1 (omega arith),
      reach-flat rs (r ++ t) w.1,
      passable-at (flat rs) r t bytes w.0 (omega arith),
    )

-- ---- the rest moved to the front

module _ (j old new t : List ℕ) (bytes : ℕ) (lies : j ≡ old ++ (new ++ t)) (is : bytes ≡ length old + length new) where
  pub moved-is : moved (length old) bytes j ≡ new ++ drop (length new) j
  unfolding moved
  moved-is =
      let n : bytes - length old ≡ length new = omega arith in
      let l = length-append old (new ++ t) in
      let k = length-append new t in
      rw (lies, n, drop-append_seam old (new ++ t), take-append_seam new t) (rw zero-add at (sets-eq new (old ++ (new ++ t)) 0 (omega arith)))

  pub kept-is : drop (bytes - length new) (take bytes j) ≡ new
  kept-is =
      let n : bytes - length new ≡ length old = omega arith in
      let e : take bytes j ≡ old ++ new =
      rw (lies, ← (append_assoc old new t)) (take_at (old ++ new) t bytes (length-append old new ∙ sym is)) in
      rw (n, e) (drop-append_seam old new)

-- ---- the bytes of so many records

pub flat-least : (rs : List (List ℕ)) → All Whole rs → length rs * record_length 0 ≤ length (flat rs)
unfolding flat
flat-least [] w = omega arith
flat-least (r ∷ rs) w = rw length-append (omega (arith, flat-least rs w.1, w.0.long))

pub flat-most : (rs : List (List ℕ)) → All Whole rs → length (flat rs) ≤ length rs * record_length most_stored
unfolding flat
flat-most [] w = omega arith
flat-most (r ∷ rs) w = rw length-append (omega (arith, flat-most rs w.1, w.0.long, w.0.few))
