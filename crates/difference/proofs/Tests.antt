-- Numbers that are equal or not, and tests of them.
-- Assumes nothing.
use Prim.Native.Nat.{ℕ}
use mathlib.Core.Bool.{Bool, true, false, cond}
use mathlib.Core.Logic.{◌⊎◌, inl, inr, ⊎_elim}
use mathlib.Core.Path.{◌≡◌, refl, sym, ◌∙◌}
use native.Mathlib.Omega.{arith}
use lib.Dec.{eqb}
use borrow.Author.Tests.{eqb-true, eqb-false, eq-eqb, ne_eqb}

by-test : (x y : ℕ) (t : Bool) → eqb x y ≡ t → (x ≡ y) ⊎ (x ≡ y → ⊥)
by-test x y true e = inl (eqb-true x y e)
by-test x y false e = inr (eqb-false x y e)

pub same_or_not : (x y : ℕ) → (x ≡ y) ⊎ (x ≡ y → ⊥)
same_or_not x y = by-test x y _ refl

pub eqb_swap : (x y : ℕ) → eqb x y ≡ eqb y x
eqb_swap x y = ⊎_elim (λ e. eq-eqb x y e ∙ sym (eq-eqb y x (sym e))) (λ n. ne_eqb x y n ∙ sym (ne_eqb y x (λ e. n (sym e)))) (same_or_not x y)

zero-is-true : (t : Bool) → ◌≡◌ {A = ℕ} 0 (cond t 0 1) → t ≡ true
zero-is-true true e = refl
zero-is-true false e = absurd (omega arith)

-- none where there would be one
pub none-so-equal : (x y : ℕ) → ◌≡◌ {A = ℕ} 0 (cond (eqb x y) 0 1) → x ≡ y
none-so-equal x y e = eqb-true x y (zero-is-true (eqb x y) e)
