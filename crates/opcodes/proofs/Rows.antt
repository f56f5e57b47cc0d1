-- A list given place by place; functions of a number below a bound, compared by one test that antt computes; the last arm of a match.
-- Assumes nothing.
use Prim.Native.Nat.{ℕ, zero, suc, ◌+◌, ◌<◌}
use mathlib.Core.Path.{◌≡◌, refl, sym, ap, ◌∙◌}
use mathlib.Core.Bool.{Bool, true, false, cond}
use mathlib.Core.List.{List, [], ◌∷◌}
use native.Mathlib.Decide.{ℕ_discrete}
use native.Mathlib.Nat.{add-zero, zero-add, add-suc, suc-add, le_of_suc-le-suc, not-suc-le-zero}
use native.Mathlib.Omega.{arith}
use borrow.Author.Tests.{ne_eqb}
use lib.Dec.{eqb}
use lib.ListN.{get_or}
use Rattle.opcodes.specs.Rows.{values}

-- a list, place by place
infixr 25 ◌∷≡◌
pub ◌∷≡◌ : {A : Type 0} {x y : A} {xs ys : List A} → x ≡ y → xs ≡ ys → x ∷ xs ≡ y ∷ ys
◌∷≡◌ {A} {x} {y} {xs} {ys} p q = ap (λ (a : A). a ∷ xs) p ∙ ap (λ (l : List A). y ∷ l) q

pub in-values : {A : Type 0} (f : ℕ → A) (d : A) (n i j : ℕ) → j < n → get_or (values f i n) j d ≡ f (i + j)
in-values f d zero i j h = absurd (not-suc-le-zero h)
in-values f d (suc n) i zero h = rw (add-zero i)
in-values f d (suc n) i (suc j) h = in-values f d n (suc i) j (le_of_suc-le-suc h) ∙ rw (suc-add i j, add-suc i j)

-- two functions whose values at m places antt computes to be the same are the same at each
pub alike : {A : Type 0} (f g : ℕ → A) (m : ℕ) → values f 0 m ≡ values g 0 m → (n : ℕ) → n < m → f n ≡ g n
alike f g m t n l =
    ap f (sym (zero-add n))
    ∙ sym (in-values f (f 0) m 0 n l)
    ∙ ap (λ (xs : List _). get_or xs n (f 0)) t
    ∙ in-values g (f 0) m 0 n l
    ∙ ap g (zero-add n)

-- a number that is none of these
abbrev pub NotIn : ℕ → List ℕ → Type 0
NotIn n [] = Unit
NotIn n (k ∷ ks) = NotIn n ks × (n ≡ k → ⊥)

abbrev pub is_in : ℕ → List ℕ → Bool
is_in n [] = false
is_in n (k ∷ ks) = cond (eqb n k) true (is_in n ks)

pub not_in : (n : ℕ) (ks : List ℕ) → NotIn n ks → is_in n ks ≡ false
not_in n [] h = refl
not_in n (k ∷ ks) h = rw (ne_eqb n k h.1) (not_in n ks h.0)

-- the numbers below m
abbrev pub down : ℕ → List ℕ
down zero = []
down (suc m) = m ∷ down m

none_below : (m n : ℕ) → n < m → NotIn n (down m) → ⊥
none_below zero n l h = not-suc-le-zero l
none_below (suc m) n l h = go (λ b. none_below m n b h.0) (ℕ_discrete n m)
  where
    go : (n < m → ⊥) → Dec (n ≡ m) → ⊥
    go below (yes e) = h.1 e
    go below (no d) = below (omega arith)

pub last : (m n : ℕ) → n < suc m → NotIn n (down m) → n ≡ m
last m n l h = go (ℕ_discrete n m)
  where
    go : Dec (n ≡ m) → n ≡ m
    go (yes e) = e
    go (no d) = absurd (none_below m n (omega arith) h)
