-- What a turn of each loop does: what is counted or written so far, and what is still to come, are together what they were before.
-- Assumes nothing.
use Prim.Native.Nat.{ℕ, zero, suc, ◌+◌, ◌-◌, ◌*◌, ◌≤◌, ◌<◌}
use mathlib.Core.Bool.{Bool, true, false, cond, not}
use mathlib.Core.List.{List, [], ◌∷◌, ◌++◌, map}
use mathlib.Core.Path.{◌≡◌, refl, sym, ap, ◌∙◌}
use native.Mathlib.Numerals.{add-one}
use native.Mathlib.Omega.{arith}
use lib.Dec.{eqb, ltb}
use lib.ListN.{length, get_or, drop, length-append}
use lib.Seq.{sets, length-sets, drop-cons}
use mir.Val.{bool_byte}
use Rattle.std.specs.List.{filter, zip}
use Rattle.text.proofs.Stores.{sets-append}
use Rattle.machine.specs.Record.{Field, A, fields, rank, field_of}
use Rattle.machine.specs.declared.Machine.{Machine}
use Rattle.difference.specs.Differences.{Difference, of_field, of_run, field_apart, fields_apart, run_up_to, runs_from}
use Rattle.difference.specs.Compare.{as_entry, entry_bytes, entry_size, laid_out}
use Rattle.difference.proofs.EachAddress.{on-equal, on-apart}
use Rattle.difference.proofs.Listing.{length-entry, list_length, listed-append}

-- ---- fields

-- they stand in the order of their numbers
Ranked : ℕ → List Field → Type 0
Ranked n [] = Unit {0}
Ranked n (f ∷ fs) = (rank f ≡ n) × Ranked (suc n) fs

ranked : Ranked 0 fields
unfolding Ranked
ranked = (refl, (refl, (refl, (refl, (refl, (refl, (refl, (refl, (refl, (refl, (refl, (refl, (refl, tt)))))))))))))

rank-in : (n : ℕ) (fs : List Field) → Ranked n fs → (k : ℕ) → k < length fs → rank (get_or fs k A) ≡ n + k
unfolding Ranked
rank-in n [] r k h = absurd (omega arith)
rank-in n (f ∷ fs) r zero h = r.0 ∙ omega arith
rank-in n (f ∷ fs) r (suc k) h = rank-in (suc n) fs r.1 k (omega arith) ∙ omega arith

pub rank-at : (k : ℕ) → k < length fields → rank (get_or fields k A) ≡ k
rank-at k h = rank-in 0 fields ranked k h ∙ omega arith

-- a machine's numbers, by place
abbrev pub values : Machine → List ℕ
values m = map (λ (f : Field). field_of f m) fields

pub value_in : (m : Machine) (fs : List Field) (k : ℕ) → k < length fs → get_or (map (λ (f : Field). field_of f m) fs) k 0 ≡ field_of (get_or fs k A) m
value_in m [] k h = absurd (omega arith)
value_in m (f ∷ fs) zero h = refl
value_in m (f ∷ fs) (suc k) h = value_in m fs k (omega arith)

module _ (x y : Machine) (k : ℕ) (h : k < length fields) where
  one_more : fields_apart (drop k fields) x y ≡ field_apart (get_or fields k A) x y ++ fields_apart (drop (k + 1) fields) x y
  unfolding fields_apart
  one_more = rw (add-one k, drop-cons fields k A h)

kept : (t : Bool) (d : Difference) (p : ℕ × ℕ) (ps : List (ℕ × ℕ)) (ds : List Difference) → length ps ≡ length ds → length (cond (not t) (p ∷ ps) ps) ≡ length (cond t [] (d ∷ []) ++ ds)
kept true d p ps ds e = e
kept false d p ps ds e = ap suc e

-- pairs of values that are not equal, and fields that differ, are equally many
pub apart-counted : (fs : List Field) (x y : Machine)
    → length (filter (λ (p : ℕ × ℕ). not (eqb p.0 p.1)) (zip (map (λ (f : Field). field_of f x) fs) (map (λ (f : Field). field_of f y) fs))) ≡ length (fields_apart fs x y)
unfolding fields_apart field_apart
apart-counted [] x y = refl
apart-counted (f ∷ fs) x y =
    kept (eqb (field_of f x) (field_of f y)) (of_field f (field_of f x) (field_of f y)) (field_of f x, field_of f y) _ (fields_apart fs x y) (apart-counted fs x y)

put-either : (t : Bool) (f : Field) (k v w at : ℕ) (more : List Difference) (list : List ℕ) → rank f ≡ k
    → sets (cond t list (sets list at (entry_bytes (record { what = k; left = v; right = w })))) (at + cond t 0 entry_size) (laid_out more)
    ≡ sets list at (laid_out (cond t [] (of_field f v w ∷ []) ++ more))
unfolding laid_out
put-either true f k v w at more list r = let e : at + 0 ≡ at = omega arith in rw e
put-either false f k v w at more list r =
    rw (← r) (sym (sets-append list (entry_bytes (as_entry (of_field f v w))) (laid_out more) at ∙ rw (length-entry (as_entry (of_field f v w)))))

one-either : (t : Bool) (d : Difference) → length (cond t [] (d ∷ [])) ≡ bool_byte (not t)
one-either true d = refl
one-either false d = refl

pub one_at_most : (t : Bool) → bool_byte t ≤ 1
one_at_most true = omega arith
one_at_most false = omega arith

byte_width : (t : Bool) → cond t 0 entry_size ≡ entry_size * bool_byte (not t)
byte_width true = refl
byte_width false = refl

length-either : (t : Bool) (list new : List ℕ) → length new ≡ length list → length (cond t list new) ≡ length list
length-either true list new e = refl
length-either false list new e = e

pub up-byte : (first at : ℕ) → length (run_up_to first at) ≡ bool_byte (ltb first at)
unfolding run_up_to
up-byte first at = so (ltb first at)
  where
    so : (t : Bool) → length (cond t (of_run first (at - 1) ∷ []) []) ≡ bool_byte t
    so true = refl
    so false = refl

module _ (x y : Machine) (k : ℕ) (h : k < length fields) (vs ws : List ℕ) (ev : vs ≡ values x) (ew : ws ≡ values y) where
  left_is : get_or vs k 0 ≡ field_of (get_or fields k A) x
  left_is = rw ev (value_in x fields k h)

  right_is : get_or ws k 0 ≡ field_of (get_or fields k A) y
  right_is = rw ew (value_in y fields k h)

  pub count-field : (n : ℕ) → n + bool_byte (not (eqb (get_or vs k 0) (get_or ws k 0))) + length (fields_apart (drop (k + 1) fields) x y) ≡ n + length (fields_apart (drop k fields) x y)
  unfolding field_apart
  count-field n =
      rw (left_is, right_is, one_more x y k h, length-append)
      (omega (arith, one-either (eqb (field_of (get_or fields k A) x) (field_of (get_or fields k A) y)) (of_field (get_or fields k A) (field_of (get_or fields k A) x) (field_of (get_or fields k A) y))))

  -- the place after the entry, if there is one
  pub width-field : (at : ℕ) → at + cond (eqb (get_or vs k 0) (get_or ws k 0)) 0 entry_size + entry_size * length (fields_apart (drop (k + 1) fields) x y) ≡ at + entry_size * length (fields_apart (drop k fields) x y)
  width-field at = omega (arith, byte_width (eqb (get_or vs k 0) (get_or ws k 0)), count-field 0)

  pub put-field : (at : ℕ) (list : List ℕ)
      → sets (cond (eqb (get_or vs k 0) (get_or ws k 0)) list (sets list at (entry_bytes (record { what = k; left = get_or vs k 0; right = get_or ws k 0 })))) (at + cond (eqb (get_or vs k 0) (get_or ws k 0)) 0 entry_size) (laid_out (fields_apart (drop (k + 1) fields) x y))
      ≡ sets list at (laid_out (fields_apart (drop k fields) x y))
  unfolding field_apart
  put-field at list =
      let f = get_or fields k A in
      rw (left_is, right_is, one_more x y k h)
      (put-either (eqb (field_of f x) (field_of f y)) f k (field_of f x) (field_of f y) at (fields_apart (drop (k + 1) fields) x y) list (rank-at k h))

-- ---- runs

module _ (a b : List ℕ) (first i : ℕ) (h : i < 65536) where
  left_over : 65536 - i ≡ suc (65536 - (i + 1))
  left_over = omega arith

  module _ (e : get_or a i 0 ≡ get_or b i 0) where
    equal-on : runs_from a b (65536 - i) first i ≡ run_up_to first i ++ runs_from a b (65536 - (i + 1)) (i + 1) (i + 1)
    equal-on = rw left_over (on-equal a b (65536 - (i + 1)) first i e ∙ rw (← add-one i))

    pub count-equal : (n : ℕ) → n + bool_byte (ltb first i) + length (runs_from a b (65536 - (i + 1)) (i + 1) (i + 1)) ≡ n + length (runs_from a b (65536 - i) first i)
    count-equal n = rw (equal-on, length-append) (omega (arith, up-byte first i))

    pub put-equal : (at : ℕ) (list : List ℕ)
        → sets (sets list at (laid_out (run_up_to first i))) (at + entry_size * length (run_up_to first i)) (laid_out (runs_from a b (65536 - (i + 1)) (i + 1) (i + 1)))
        ≡ sets list at (laid_out (runs_from a b (65536 - i) first i))
    put-equal at list =
        rw (equal-on, listed-append, ← list_length (run_up_to first i)) (sym (sets-append list (laid_out (run_up_to first i)) (laid_out (runs_from a b (65536 - (i + 1)) (i + 1) (i + 1))) at))

  pub apart-on : (get_or a i 0 ≡ get_or b i 0 → ⊥) → runs_from a b (65536 - (i + 1)) first (i + 1) ≡ runs_from a b (65536 - i) first i
  apart-on e = sym (rw left_over (on-apart a b (65536 - (i + 1)) first i e ∙ rw (← add-one i)))

pub width-at-most : (t : Bool) → cond t 0 entry_size ≤ entry_size
width-at-most true = omega arith
width-at-most false = omega arith

pub length-put : (t : Bool) (at : ℕ) (list new : List ℕ) → length (cond t list (sets list at new)) ≡ length list
length-put t at list new = length-either t list (sets list at new) (length-sets list at new)
