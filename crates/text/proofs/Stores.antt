-- Bytes stored from a place on, part by part.
-- Assumes nothing.
use Prim.Native.Nat.{ℕ, suc, ◌+◌, ◌≤◌, ◌<◌}
use mathlib.Core.Path.{◌≡◌, refl, sym, ap, ◌∙◌}
use mathlib.Core.List.{List, [], ◌∷◌, ◌++◌}
use native.Mathlib.Omega.{arith}
use native.Mathlib.Numerals.{add-one}
use lib.ListN.{length, get_or, set, take, drop, take-append-drop}
use lib.Seq.{sets, length-sets, set_out, take-suc, length-take-le}

pub sets-append : (l xs ys : List ℕ) (i : ℕ) → sets l i (xs ++ ys) ≡ sets (sets l i xs) (i + length xs) ys
sets-append l [] ys i = let e : i + 0 ≡ i = omega arith in rw e
sets-append l (x ∷ xs) ys i = sets-append (set l i x) xs ys (suc i) ∙ (let e : suc i + length xs ≡ i + suc (length xs) = omega arith in rw e)

-- past the end nothing is stored
pub sets-out : (l vs : List ℕ) (i : ℕ) → length l ≤ i → sets l i vs ≡ l
sets-out l [] i h = refl
sets-out l (v ∷ vs) i h = rw (set_out l i v h) (sets-out l vs (suc i) (omega arith))

-- what lies past the end may be left out
pub cut : (l vs : List ℕ) (i n : ℕ) → n ≤ length vs → length l ≤ i + n → sets l i (take n vs) ≡ sets l i vs
cut l vs i n h k =
    let e : i + length (take n vs) ≡ i + n = ap (λ (m : ℕ). i + m) (length-take-le n vs h) in
    let g : length (sets l i (take n vs)) ≤ i + n = rw (length-sets l i (take n vs)) k in
    sym (sets-out (sets l i (take n vs)) (drop n vs) (i + n) g) ∙ rw (← e) (sym (sets-append l (take n vs) (drop n vs) i)) ∙ ap (sets l i) (take-append-drop n vs)

pub one_more : (l vs : List ℕ) (at i : ℕ) → i < length vs → set (sets l at (take i vs)) (at + i) (get_or vs i 0) ≡ sets l at (take (i + 1) vs)
one_more l vs at i h =
    let e : length (take i vs) ≡ i = length-take-le i vs (omega arith) in
    rw (add-one, take-suc vs i 0 h, sets-append l (take i vs) (get_or vs i 0 ∷ []) at, e)
