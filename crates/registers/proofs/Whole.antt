-- Whole numbers as differences of naturals, and what `signed`, `sum_out` and `diff_out` come to, over the half h of the range.
-- Assumes nothing.
use Rattle.std.proofs.Common.{◌≡◌, ℕ, zero, suc, ◌+◌, ◌-◌, ◌%◌, ◌<◌, ◌≤◌, Bool, true, false, cond, ◌||◌, ltb, leb, ◌↔◌, ℤ, pos, negsuc, ◌+ℤ◌, ◌-ℤ◌, neg_ℤ, sym, refl, ap, ◌∙◌, ap₂, mod-eq_of_lt, arith, ltb-false, ltb-true, le-leb, leb-false, leb-true}
use native.Mathlib.Nat.{add-mod_right}
use borrow.Author.Tests.{lt-leb}
use lib.IntN.{sub_ℕ}
use lib.Signed.{lt_z, le_z}
use Rattle.u8oru16.specs.Signed.{signed, outside, sum_out, diff_out}

-- two tests are equal where the facts that they test are (`ltb a b` is `leb (suc a) b`)
pub tests : (a b c d : ℕ) → (a ≤ b ↔ c ≤ d) → leb a b ≡ leb c d
tests a b c d h = go (leb a b) (leb c d) refl refl
  where
    go : (t u : Bool) → leb a b ≡ t → leb c d ≡ u → leb a b ≡ leb c d
    go true true e f = e ∙ sym f
    go false false e f = e ∙ sym f
    go true false e f = absurd (omega (arith, h.0 (leb-true a b e), leb-false c d f))
    go false true e f = absurd (omega (arith, h.1 (leb-true c d f), leb-false a b e))

-- z is a - b
abbrev pub Differs : ℤ → ℕ → ℕ → Type 0
Differs (pos n) a b = n + b ≡ a
Differs (negsuc n) a b = a + suc n ≡ b

pub record Is (z : ℤ) (a b : ℕ) : Type 0 where
  eq : Differs z a b

sub_is : (m n : ℕ) {a b : ℕ} → m + b ≡ a + n → Is (sub_ℕ m n) a b
sub_is m n {a} {b} h = go (ltb m n) refl
  where
    go : (t : Bool) → ltb m n ≡ t → Is (cond t (negsuc (n - suc m)) (pos (m - n))) a b
    go true e = omega (arith, ltb-true m n e)
    go false e = omega (arith, ltb-false m n e)

is-also : (z : ℤ) {a b : ℕ} → Is z a b → {c d : ℕ} → a + d ≡ c + b → Is z c d
is-also (pos n) i e = omega arith
is-also (negsuc n) i e = omega arith

pub pos-is : (n : ℕ) → Is (pos n) n 0
pos-is n = omega arith

pub neg-alone-is : (n : ℕ) → Is (negsuc n) 0 (suc n)
neg-alone-is n = omega arith

add_is : (x y : ℤ) {a b c d : ℕ} → Is x a b → Is y c d → Is (x +ℤ y) (a + c) (b + d)
add_is (pos m) (pos n) h k = omega arith
add_is (pos m) (negsuc n) {a} {b} {c} {d} h k = sub_is m (suc n) {a = a + c} {b = b + d} (omega arith)
add_is (negsuc m) (pos n) {a} {b} {c} {d} h k = sub_is n (suc m) {a = a + c} {b = b + d} (omega arith)
add_is (negsuc m) (negsuc n) h k = omega arith

neg_is : (x : ℤ) {a b : ℕ} → Is x a b → Is (neg_ℤ x) b a
neg_is (pos zero) h = omega arith
neg_is (pos (suc n)) h = omega arith
neg_is (negsuc n) h = omega arith

minus_is : (x y : ℤ) {a b c d : ℕ} → Is x a b → Is y c d → Is (x -ℤ y) (a + d) (b + c)
minus_is x y h k = add_is x (neg_ℤ y) h (neg_is y k)

lt-is : (x y : ℤ) {a b c d : ℕ} → Is x a b → Is y c d → lt_z x y ≡ ltb (a + d) (c + b)
lt-is (pos m) (pos n) {a} {b} {c} {d} h k = tests (suc m) n (suc (a + d)) (c + b) (omega arith)
lt-is (pos m) (negsuc n) {a} {b} {c} {d} h k = sym (lt-leb (suc (a + d)) (c + b) (omega arith))
lt-is (negsuc m) (pos n) {a} {b} {c} {d} h k = sym (le-leb (suc (a + d)) (c + b) (omega arith))
lt-is (negsuc m) (negsuc n) {a} {b} {c} {d} h k = tests (suc n) m (suc (a + d)) (c + b) (omega arith)

le_is : (x y : ℤ) {a b c d : ℕ} → Is x a b → Is y c d → le_z x y ≡ leb (a + d) (c + b)
le_is (pos m) (pos n) {a} {b} {c} {d} h k = tests m n (a + d) (c + b) (omega arith)
le_is (pos m) (negsuc n) {a} {b} {c} {d} h k = sym (lt-leb (a + d) (c + b) (omega arith))
le_is (negsuc m) (pos n) {a} {b} {c} {d} h k = sym (le-leb (a + d) (c + b) (omega arith))
le_is (negsuc m) (negsuc n) {a} {b} {c} {d} h k = tests n m (a + d) (c + b) (omega arith)

-- a number read as signed, plus h
abbrev pub lift : ℕ → ℕ → ℕ
lift h a = cond (ltb a h) (a + h) (a - h)

module _ (h : ℕ) where
  pub outside-is : (z : ℤ) {a b : ℕ} → Is z a b → outside h z ≡ (ltb (a + h) b || leb (h + b) a)
  unfolding outside
  outside-is z {a} {b} i =
      ap₂ ◌||◌ (lt-is z (neg_ℤ (pos h)) i (neg_is (pos h) (pos-is h)) ∙ tests (suc (a + h)) (0 + b) (suc (a + h)) b (omega arith))
      (le_is (pos h) z (pos-is h) i ∙ tests (h + b) (a + 0) (h + b) a (omega arith))

  signed_is : (a : ℕ) → Is (signed h a) (lift h a) h
  unfolding signed
  signed_is a = go (ltb a h) refl
    where
      go : (t : Bool) → ltb a h ≡ t → Is (cond t (pos a) (pos a -ℤ pos (h + h))) (cond t (a + h) (a - h)) h
      go true e = omega arith
      go false e = is-also (pos a -ℤ pos (h + h)) (minus_is (pos a) (pos (h + h)) (pos-is a) (pos-is (h + h))) (omega (arith, ltb-false a h e))

  pub sum-out : (a b c : ℕ) → sum_out h a b c ≡ (ltb (lift h a + lift h b + c) h || leb (h + h + h) (lift h a + lift h b + c))
  unfolding sum_out
  sum-out a b c =
      let s = lift h a + lift h b + c in
      outside-is (signed h a +ℤ signed h b +ℤ pos c) (add_is (signed h a +ℤ signed h b) (pos c) (add_is (signed h a) (signed h b) (signed_is a) (signed_is b)) (pos-is c))
      ∙ ap₂ ◌||◌ (tests (suc (s + h)) (h + h + 0) (suc s) h (omega arith)) (tests (h + (h + h + 0)) s (h + h + h) s (omega arith))

  pub diff-out : (a b c : ℕ) → diff_out h a b c ≡ (ltb (lift h a + h) (lift h b + c) || leb (h + (lift h b + c)) (lift h a))
  unfolding diff_out
  diff-out a b c =
      let x = lift h a in
      let y = lift h b in
      outside-is (signed h a -ℤ signed h b -ℤ pos c) (minus_is (signed h a -ℤ signed h b) (pos c) (minus_is (signed h a) (signed h b) (signed_is a) (signed_is b)) (pos-is c))
      ∙ ap₂ ◌||◌ (tests (suc (x + h + 0 + h)) (h + y + c) (suc (x + h)) (y + c) (omega arith)) (tests (h + (h + y + c)) (x + h + 0) (h + (y + c)) x (omega arith))

-- with the operands lifted as the code does it, and s for the sum that it made
module _ (h : ℕ) where
  lift-mod : (a : ℕ) → a < h + h → (a + h) % (h + h) ≡ lift h a
  lift-mod a l = go (ltb a h) refl
    where
      go : (t : Bool) → ltb a h ≡ t → (a + h) % (h + h) ≡ cond t (a + h) (a - h)
      go true e = mod-eq_of_lt (omega (arith, ltb-true a h e))
      go false e =
          let k = ltb-false a h e in
          let m : a + h ≡ (a - h) + (h + h) = omega arith in
          ap (λ (n : ℕ). n % (h + h)) m ∙ add-mod_right (a - h) (h + h) ∙ mod-eq_of_lt (omega arith)

  module _ (a b c : ℕ) (la : a < h + h) (lb : b < h + h) where
    pub lifted-sum : (s : ℕ) → s ≡ (a + h) % (h + h) + (b + h) % (h + h) + c → sum_out h a b c ≡ (ltb s h || leb (h + h + h) s)
    lifted-sum s e = rw (e, lift-mod a la, lift-mod b lb) (sum-out h a b c)

    pub lifted-diff : (y : ℕ) → y ≡ (b + h) % (h + h) + c → diff_out h a b c ≡ (ltb ((a + h) % (h + h) + h) y || leb (h + y) ((a + h) % (h + h)))
    lifted-diff y e = rw (e, lift-mod a la, lift-mod b lb) (diff-out h a b c)
