-- The runs of two memories: each address that differs is in one of them, they rise, they are maximal, and they are not too many. Each law is of
-- n addresses from `at` on, with the run from `first` up to `at` open.
-- Assumes nothing.
use Prim.Native.Nat.{ℕ, zero, suc, ◌+◌, ◌-◌, ◌*◌, ◌≤◌, ◌<◌}
use mathlib.Core.Bool.{Bool, true, false, cond, ◌&&◌}
use mathlib.Core.List.{List, [], ◌∷◌, ◌++◌, map}
use mathlib.Core.Logic.{⊎_elim}
use mathlib.Core.Path.{◌≡◌, refl, sym, ap, ◌∙◌}
use native.Mathlib.Nat.{eq-or-lt_of_le}
use native.Mathlib.Omega.{arith}
use lib.Dec.{eqb, leb, ltb}
use lib.ListN.{length, get_or, length-append, get_or-eq_default}
use lib.Seq.{ext_get_or}
use borrow.Author.Tests.{eq-eqb, ne_eqb, lt-ltb, le-ltb, le-leb, lt-leb, ltb-true, ltb-false}
use Rattle.difference.specs.Differences.{Difference, of_field, of_run, run_up_to, runs_from, runs}
use Rattle.difference.specs.Laws.{runs_with, Rise, Maximal, exchanged}
use Rattle.difference.proofs.Tests.{same_or_not, none-so-equal}

-- ---- one run

pub up_none : (first at : ℕ) → at ≤ first → run_up_to first at ≡ []
unfolding run_up_to
up_none first at h = rw (le-ltb first at h)

pub up_one : (first at : ℕ) → first < at → run_up_to first at ≡ of_run first (at - 1) ∷ []
unfolding run_up_to
up_one first at h = rw (lt-ltb first at h)

pub up-few : (first at : ℕ) → length (run_up_to first at) ≡ cond (ltb first at) 1 0
unfolding run_up_to
up-few first at = few (ltb first at)
  where
    few : (t : Bool) → length (cond t (of_run first (at - 1) ∷ []) []) ≡ cond t 1 0
    few true = refl
    few false = refl

pub few-cond : (t : Bool) → cond t 1 0 ≤ 1
few-cond true = omega arith
few-cond false = omega arith

-- ---- a turn

module _ (a b : List ℕ) (n first at : ℕ) where
  pub on-equal : get_or a at 0 ≡ get_or b at 0 → runs_from a b (suc n) first at ≡ run_up_to first at ++ runs_from a b n (suc at) (suc at)
  unfolding runs_from
  on-equal e = rw (eq-eqb (get_or a at 0) (get_or b at 0) e)

  pub on-apart : (get_or a at 0 ≡ get_or b at 0 → ⊥) → runs_from a b (suc n) first at ≡ runs_from a b n first (suc at)
  unfolding runs_from
  on-apart e = rw (ne_eqb (get_or a at 0) (get_or b at 0) e)

-- ---- how many runs an address is in

abbrev held : ℕ → List Difference → ℕ
held k ds = length (runs_with k ds)

cond_more : (t : Bool) (m n o : ℕ) → m ≡ n + o → cond t (suc m) m ≡ cond t (suc n) n + o
cond_more true m n o e = omega arith
cond_more false m n o e = e

held-run : (t : Bool) (d : Difference) (ds : List Difference) → length (cond t (d ∷ ds) ds) ≡ cond t (suc (length ds)) (length ds)
held-run true d ds = refl
held-run false d ds = refl

pub held-append : (k : ℕ) (xs ys : List Difference) → held k (xs ++ ys) ≡ held k xs + held k ys
unfolding runs_with
held-append k [] ys = omega arith
held-append k (of_field f x y ∷ xs) ys = held-append k xs ys
held-append k (of_run x y ∷ xs) ys =
    let t = leb x k && leb k y in
    held-run t (of_run x y) (runs_with k (xs ++ ys)) ∙ cond_more t (held k (xs ++ ys)) (held k xs) (held k ys) (held-append k xs ys)
    ∙ sym (ap (λ (n : ℕ). n + held k ys) (held-run t (of_run x y) (runs_with k xs)))

in_one : (k x y : ℕ) → x ≤ k → k ≤ y → held k (of_run x y ∷ []) ≡ 1
unfolding runs_with
in_one k x y h g = rw (le-leb x k h, le-leb k y g)

not-before : (k x y : ℕ) → k < x → held k (of_run x y ∷ []) ≡ 0
unfolding runs_with
not-before k x y h = rw (lt-leb x k h)

and-false : (t : Bool) → (t && false) ≡ false
and-false true = refl
and-false false = refl

not_after : (k x y : ℕ) → y < k → held k (of_run x y ∷ []) ≡ 0
unfolding runs_with
not_after k x y h = rw (lt-leb k y h, and-false)

held_none : (k : ℕ) → held k [] ≡ 0
unfolding runs_with
held_none k = refl

up-below : (k first at : ℕ) → k < first → first ≤ at → held k (run_up_to first at) ≡ 0
up-below k first at h g =
    ⊎_elim (λ e. rw (up_none first at (omega arith)) (held_none k)) (λ l. rw (up_one first at l) (not-before k first (at - 1) h)) (eq-or-lt_of_le g)

up_above : (k first at : ℕ) → at ≤ k → first ≤ at → held k (run_up_to first at) ≡ 0
up_above k first at h g =
    ⊎_elim (λ e. rw (up_none first at (omega arith)) (held_none k)) (λ l. rw (up_one first at l) (not_after k first (at - 1) (omega arith))) (eq-or-lt_of_le g)

only-later : (k first at : ℕ) (ds : List Difference) → at ≤ k → first ≤ at → held k (run_up_to first at ++ ds) ≡ held k ds
only-later k first at ds h g = omega (arith, held-append k (run_up_to first at) ds, up_above k first at h g)

module _ (a b : List ℕ) where
  -- before the open run there is none
  below : (k n first at : ℕ) → k < first → first ≤ at → held k (runs_from a b n first at) ≡ 0
  unfolding runs_from
  below k zero first at h g = up-below k first at h g
  below k (suc n) first at h g =
      ⊎_elim
      (λ e. rw (on-equal a b n first at e) (held-append k (run_up_to first at) (runs_from a b n (suc at) (suc at)) ∙ omega (arith, up-below k first at h g, below k n (suc at) (suc at) (omega arith) (omega arith))))
      (λ e. rw (on-apart a b n first at e) (below k n first (suc at) h (omega arith)))
      (same_or_not (get_or a at 0) (get_or b at 0))

  -- an address of the open run is in that run
  within : (k n first at : ℕ) → first ≤ k → k < at → held k (runs_from a b n first at) ≡ 1
  unfolding runs_from
  within k zero first at h g = rw (up_one first at (omega arith)) (in_one k first (at - 1) h (omega arith))
  within k (suc n) first at h g =
      ⊎_elim
      (λ e. rw (on-equal a b n first at e, up_one first at (omega arith)) (held-append k (of_run first (at - 1) ∷ []) (runs_from a b n (suc at) (suc at)) ∙ omega (arith, in_one k first (at - 1) h (omega arith), below k n (suc at) (suc at) (omega arith) (omega arith))))
      (λ e. rw (on-apart a b n first at e) (within k n first (suc at) h (omega arith)))
      (same_or_not (get_or a at 0) (get_or b at 0))

  -- one that is still to come is in a run where it differs
  ahead : (k n first at : ℕ) → first ≤ at → at ≤ k → k < at + n → held k (runs_from a b n first at) ≡ cond (eqb (get_or a k 0) (get_or b k 0)) 0 1
  ahead k zero first at f h g = absurd (omega arith)
  ahead k (suc n) first at f h g =
      ⊎_elim
      (λ e.
      rw (on-equal a b n first at e)
      (only-later k first at (runs_from a b n (suc at) (suc at)) h f
      ∙ ⊎_elim
      (λ s. below k n (suc at) (suc at) (omega arith) (omega arith) ∙ sym (rw (← s, eq-eqb (get_or a at 0) (get_or b at 0) e)))
      (λ l. ahead k n (suc at) (suc at) (omega arith) l (omega arith))
      (eq-or-lt_of_le h)))
      (λ e.
      rw (on-apart a b n first at e)
      (⊎_elim
      (λ s. within k n first (suc at) (omega arith) (omega arith) ∙ sym (rw (← s, ne_eqb (get_or a at 0) (get_or b at 0) e)))
      (λ l. ahead k n first (suc at) (omega arith) l (omega arith))
      (eq-or-lt_of_le h)))
      (same_or_not (get_or a at 0) (get_or b at 0))

  -- past the addresses there is none
  past : (k n first at : ℕ) → first ≤ at → at + n ≤ k → held k (runs_from a b n first at) ≡ 0
  unfolding runs_from
  past k zero first at f h = up_above k first at (omega arith) f
  past k (suc n) first at f h =
      ⊎_elim
      (λ e. rw (on-equal a b n first at e) (held-append k (run_up_to first at) (runs_from a b n (suc at) (suc at)) ∙ omega (arith, up_above k first at (omega arith) f, past k n (suc at) (suc at) (omega arith) (omega arith))))
      (λ e. rw (on-apart a b n first at e) (past k n first (suc at) (omega arith) (omega arith)))
      (same_or_not (get_or a at 0) (get_or b at 0))

  -- ---- rising and maximal

  rise-up : (m first at : ℕ) (ds : List Difference) → m ≤ first → first ≤ at → ((k : ℕ) → k ≤ suc at → Rise k ds) → Rise m (run_up_to first at ++ ds)
  rise-up m first at ds h g lower =
      ⊎_elim
      (λ e. rw (up_none first at (omega arith)) (lower m (omega arith)))
      (λ l. rw (up_one first at l) (h, (omega arith, lower (suc (suc (at - 1))) (omega arith))))
      (eq-or-lt_of_le g)

  rise : (n first at m : ℕ) → m ≤ first → first ≤ at → Rise m (runs_from a b n first at)
  unfolding runs_from
  rise zero first at m h g =
      ⊎_elim (λ e. rw (up_none first at (omega arith)) tt) (λ l. rw (up_one first at l) (h, (omega arith, tt))) (eq-or-lt_of_le g)
  rise (suc n) first at m h g =
      ⊎_elim
      (λ e.
      rw (on-equal a b n first at e)
      (rise-up m first at (runs_from a b n (suc at) (suc at)) h g (λ k s. rise n (suc at) (suc at) k s (omega arith))))
      (λ e. rw (on-apart a b n first at e) (rise n first (suc at) m h (omega arith)))
      (same_or_not (get_or a at 0) (get_or b at 0))

  -- the byte before the open run is equal, and so is the byte after all
  maximal : (n first at : ℕ) → first ≤ at → ((k : ℕ) → suc k ≡ first → get_or a k 0 ≡ get_or b k 0) → get_or a (at + n) 0 ≡ get_or b (at + n) 0
      → Maximal a b (runs_from a b n first at)
  unfolding runs_from
  maximal zero first at g before after =
      ⊎_elim
      (λ e. rw (up_none first at (omega arith)) tt)
      (λ l. let z : at + 0 ≡ suc (at - 1) = omega arith in rw (up_one first at l) (before, (rw z at after, tt)))
      (eq-or-lt_of_le g)
  maximal (suc n) first at g before after =
      let z : at + suc n ≡ suc at + n = omega arith in
      ⊎_elim
      (λ e.
      let rest = maximal n (suc at) (suc at) (omega arith) (λ k s. let t : k ≡ at = omega arith in rw t e) (rw z at after) in
      rw (on-equal a b n first at e)
      (⊎_elim
      (λ s. rw (up_none first at (omega arith)) rest)
      (λ l. let y : at ≡ suc (at - 1) = omega arith in rw (up_one first at l) (before, (rw y at e, rest)))
      (eq-or-lt_of_le g)))
      (λ e. rw (on-apart a b n first at e) (maximal n first (suc at) (omega arith) before (rw z at after)))
      (same_or_not (get_or a at 0) (get_or b at 0))

  -- ---- how many

  few : (n first at : ℕ) → 2 * length (runs_from a b n first at) ≤ n + 1 + cond (ltb first at) 1 0
  unfolding runs_from
  few zero first at = omega (arith, up-few first at, few-cond (ltb first at))
  few (suc n) first at =
      ⊎_elim
      (λ e. rw (on-equal a b n first at e, length-append) (omega (arith, up-few first at, few-cond (ltb first at), few n (suc at) (suc at), closed)))
      (λ e. rw (on-apart a b n first at e) (omega (arith, few n first (suc at), few-cond (ltb first (suc at)), few-cond (ltb first at))))
      (same_or_not (get_or a at 0) (get_or b at 0))
    where
      closed : ◌≡◌ {A = ℕ} (cond (ltb (suc at) (suc at)) 1 0) 0
      closed = rw (le-ltb (suc at) (suc at) (omega arith))

-- ---- the other way round

up-exchanged : (first at : ℕ) → run_up_to first at ≡ map exchanged (run_up_to first at)
unfolding run_up_to
up-exchanged first at = same (ltb first at)
  where
    same : (t : Bool) → cond t (of_run first (at - 1) ∷ []) [] ≡ map exchanged (cond t (of_run first (at - 1) ∷ []) [])
    same true = refl
    same false = refl

pub map-append : (xs ys : List Difference) → map exchanged (xs ++ ys) ≡ map exchanged xs ++ map exchanged ys
map-append [] ys = refl
map-append (x ∷ xs) ys = ap (λ (l : List Difference). exchanged x ∷ l) (map-append xs ys)

from-exchanged : (a b : List ℕ) (n first at : ℕ) → runs_from b a n first at ≡ map exchanged (runs_from a b n first at)
unfolding runs_from
from-exchanged a b zero first at = up-exchanged first at
from-exchanged a b (suc n) first at =
    ⊎_elim
    (λ e. on-equal b a n first at (sym e) ∙ sym (rw (on-equal a b n first at e, map-append) (rw (← up-exchanged first at, ← from-exchanged a b n (suc at) (suc at)))))
    (λ e. on-apart b a n first at (λ s. e (sym s)) ∙ from-exchanged a b n first (suc at) ∙ sym (rw (on-apart a b n first at e)))
    (same_or_not (get_or a at 0) (get_or b at 0))

-- ---- of whole memories

module _ (a b : List ℕ) where
  pub runs-rise : Rise 0 (runs a b)
  unfolding runs
  runs-rise = rise a b 65536 0 0 0 (omega arith) (omega arith)

  pub runs-few : length (runs a b) ≤ 32768
  unfolding runs
  runs-few = omega (arith, few a b 65536 0 0, few-cond (ltb 0 0))

  pub runs-exchanged : runs b a ≡ map exchanged (runs a b)
  unfolding runs
  runs-exchanged = from-exchanged a b 65536 0 0

  module _ (m : length a ≡ 65536) (n : length b ≡ 65536) where
    past_end : (k : ℕ) → 65536 ≤ k → get_or a k 0 ≡ get_or b k 0
    past_end k h = get_or-eq_default a 0 (omega arith) ∙ sym (get_or-eq_default b 0 (omega arith))

    pub runs-once : (k : ℕ) → held k (runs a b) ≡ cond (eqb (get_or a k 0) (get_or b k 0)) 0 1
    unfolding runs
    runs-once k = by_end (ltb k 65536) refl
      where
        by_end : (t : Bool) → ltb k 65536 ≡ t → held k (runs_from a b 65536 0 0) ≡ cond (eqb (get_or a k 0) (get_or b k 0)) 0 1
        by_end true e = ahead a b k 65536 0 0 (omega arith) (omega arith) (ltb-true k 65536 e)
        by_end false e = past a b k 65536 0 0 (omega arith) (ltb-false k 65536 e) ∙ sym (rw (eq-eqb (get_or a k 0) (get_or b k 0) (past_end k (ltb-false k 65536 e))))

    pub runs-maximal : Maximal a b (runs a b)
    unfolding runs
    runs-maximal = maximal a b 65536 0 0 (omega arith) (λ k s. absurd (omega arith)) (past_end 65536 (omega arith))

    pub equal-so : runs a b ≡ [] → a ≡ b
    unfolding runs_with
    equal-so e =
        ext_get_or 0 a b (m ∙ sym n) (λ k h. none-so-equal (get_or a k 0) (get_or b k 0) (sym (ap (λ (ds : List Difference). held k ds) e) ∙ runs-once k))

none_from : (a : List ℕ) (n at : ℕ) → runs_from a a n at at ≡ []
unfolding runs_from
none_from a zero at = up_none at at (omega arith)
none_from a (suc n) at = on-equal a a n at at refl ∙ rw (up_none at at (omega arith), none_from a n (suc at))

pub none_so : (a : List ℕ) → runs a a ≡ []
unfolding runs
none_so a = none_from a 65536 0
