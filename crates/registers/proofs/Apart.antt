-- V as bought and V by the manual, of sums, differences, DEC and INC: where they differ.
-- Assumes nothing.
use Rattle.std.proofs.Common.{◌≡◌, ℕ, suc, ◌+◌, ◌-◌, ◌%◌, ◌<◌, ◌≤◌, Bool, true, false, ◌||◌, eqb, ltb, leb, ◌≢◌, ◌⊎◌, ◌↔◌, sym, refl, ◌∙◌, ap₂, inl, inr, ⊎_elim, true≢false, arith, ltb-false, ltb-true, le-ltb, lt-ltb, eq-eqb, ne_eqb, eqb-true, le-leb, leb-false, leb-true}
use borrow.Author.Tests.{lt-leb}
use Rattle.u8oru16.specs.Signed.{sum_out, diff_out}
use Rattle.registers.proofs.SettingsV.{add_v, sub_v}
use Rattle.registers.specs.declared.Flags.TheVariants.{Bought, Manual}
use Rattle.registers.proofs.Whole.{tests, lifted-sum, lifted-diff}

-- a test of two bounds
module _ (p q r t : ℕ) where
  neither : (ltb p q || leb r t) ≡ false → (q ≤ p) × (t < r)
  neither = go (ltb p q) (leb r t) refl refl
    where
      go : (x y : Bool) → ltb p q ≡ x → leb r t ≡ y → (x || y) ≡ false → (q ≤ p) × (t < r)
      go true y e f h = absurd (true≢false h)
      go false true e f h = absurd (true≢false h)
      go false false e f h = (ltb-false p q e, leb-false r t f)

  either : (ltb p q || leb r t) ≡ true → (p < q) ⊎ (r ≤ t)
  either = go (ltb p q) (leb r t) refl refl
    where
      go : (x y : Bool) → ltb p q ≡ x → leb r t ≡ y → (x || y) ≡ true → (p < q) ⊎ (r ≤ t)
      go true y e f h = inl (ltb-true p q e)
      go false true e f h = inr (leb-true r t f)
      go false false e f h = absurd (true≢false (sym h))

  pub neither-holds : q ≤ p → t < r → (ltb p q || leb r t) ≡ false
  neither-holds h k = rw (le-ltb p q h, lt-leb r t k)

  pub above : q ≤ p → r ≤ t → (ltb p q || leb r t) ≡ true
  above h k = rw (le-ltb p q h, le-leb r t k)

  pub below : p < q → (ltb p q || leb r t) ≡ true
  below h = rw (lt-ltb p q h)

-- the OR of two partial overflows x and y against the whole z
partial : (x y z : Bool) {Case : Type 0} → (x ≡ false → y ≡ z) → (x ≡ true → z ≡ false → Case) → (Case → (x ≡ true) × (z ≡ false)) → ((x || y) ≢ z) ↔ Case
partial true y true f g h = (λ n. absurd (n refl), λ k e. true≢false (h k).1)
partial true y false f g h = (λ n. g refl refl, λ k e. true≢false e)
partial false y z f g h = (λ n. absurd (n (f refl)), λ k e. true≢false (sym (h k).0))

module _ (a b c : ℕ) (la : a < 256) (lb : b < 256) (lc : c ≤ 1) where
  -- the lifted operands, and the first and the whole sum of them
  abbrev x : ℕ
  x = (a + 128) % 256

  abbrev y : ℕ
  y = (b + 128) % 256

  first-sum : sum_out 0x80 a c 0 ≡ (ltb (x + c + 128) 128 || leb 384 (x + c + 128))
  first-sum = lifted-sum 0x80 a c 0 la (omega arith) (x + c + 128) (omega arith)

  whole_sum : sum_out 0x80 a b c ≡ (ltb (x + y + c) 128 || leb 384 (x + y + c))
  whole_sum = lifted-sum 0x80 a b c la lb (x + y + c) refl

  pub add_parts : (add_v Bought a b c ≢ add_v Manual a b c) ↔ ((c ≡ 1) × (a ≡ 0x7F) × (0x80 ≤ b))
  add_parts =
      partial (sum_out 0x80 a c 0) (sum_out 0x80 ((a + c) % 256) b 0) (sum_out 0x80 a b c)
      (λ e.
      let k = neither (x + c + 128) 128 384 (x + c + 128) (sym first-sum ∙ e) in
      lifted-sum 0x80 ((a + c) % 256) b 0 (omega arith) lb (x + y + c) (kept k.1) ∙ sym whole_sum)
      (λ e f.
      let k = ⊎_elim (λ (z : x + c + 128 < 128). absurd (omega arith)) (λ (z : 384 ≤ x + c + 128). z) (either (x + c + 128) 128 384 (x + c + 128) (sym first-sum ∙ e)) in
      let m = neither (x + y + c) 128 384 (x + y + c) (sym whole_sum ∙ f) in
      omega arith)
      (λ k. (
        first-sum ∙ above (x + c + 128) 128 384 (x + c + 128) (omega arith) (omega arith),
        whole_sum ∙ neither-holds (x + y + c) 128 384 (x + y + c) (omega arith) (omega arith),
      ))
    where
      kept : x + c + 128 < 384 → x + y + c ≡ ((a + c) % 256 + 128) % 256 + y + 0
      kept k = omega arith

  first-diff : diff_out 0x80 a c 0 ≡ (ltb (x + 128) (c + 128) || leb (128 + (c + 128)) x)
  first-diff = lifted-diff 0x80 a c 0 la (omega arith) (c + 128) (omega arith)

  whole-diff : diff_out 0x80 a b c ≡ (ltb (x + 128) (y + c) || leb (128 + (y + c)) x)
  whole-diff = lifted-diff 0x80 a b c la lb (y + c) refl

  pub sub_parts : (sub_v Bought a b c ≢ sub_v Manual a b c) ↔ ((c ≡ 1) × (a ≡ 0x80) × (0x80 ≤ b))
  sub_parts =
      partial (diff_out 0x80 a c 0) (diff_out 0x80 ((a + 256 - c) % 256) b 0) (diff_out 0x80 a b c)
      (λ e.
      let k = neither (x + 128) (c + 128) (128 + (c + 128)) x (sym first-diff ∙ e) in
      lifted-diff 0x80 ((a + 256 - c) % 256) b 0 (omega arith) lb (y + 0) refl ∙ moved k.0 ∙ sym whole-diff)
      (λ e f.
      let k = ⊎_elim (λ (z : x + 128 < c + 128). z) (λ (z : 128 + (c + 128) ≤ x). absurd (omega arith)) (either (x + 128) (c + 128) (128 + (c + 128)) x (sym first-diff ∙ e)) in
      let m = neither (x + 128) (y + c) (128 + (y + c)) x (sym whole-diff ∙ f) in
      omega arith)
      (λ k. (
        first-diff ∙ below (x + 128) (c + 128) (128 + (c + 128)) x (omega arith),
        whole-diff ∙ neither-holds (x + 128) (y + c) (128 + (y + c)) x (omega arith) (omega arith),
      ))
    where
      less : c ≤ x → ((a + 256 - c) % 256 + 128) % 256 + c ≡ x
      less k = omega arith

      moved : c + 128 ≤ x + 128
          → (ltb (((a + 256 - c) % 256 + 128) % 256 + 128) (y + 0) || leb (128 + (y + 0)) (((a + 256 - c) % 256 + 128) % 256))
          ≡ (ltb (x + 128) (y + c) || leb (128 + (y + c)) x)
      moved k = both (((a + 256 - c) % 256 + 128) % 256) x (less (omega arith))
        where
          both : (z w : ℕ) → z + c ≡ w → (ltb (z + 128) (y + 0) || leb (128 + (y + 0)) z) ≡ (ltb (w + 128) (y + c) || leb (128 + (y + c)) w)
          both z w e =
              ap₂ ◌||◌ (tests (suc (z + 128)) (y + 0) (suc (w + 128)) (y + c) (omega arith)) (tests (128 + (y + 0)) z (128 + (y + c)) w (omega arith))

-- a test for m against a test for n
pub tests-part : (m n a : ℕ) → m ≢ n → (eqb a m ≢ eqb a n) ↔ ((a ≡ m) ⊎ (a ≡ n))
tests-part m n a d = (go (eqb a m) (eqb a n) refl refl, back)
  where
    go : (t u : Bool) → eqb a m ≡ t → eqb a n ≡ u → eqb a m ≢ eqb a n → (a ≡ m) ⊎ (a ≡ n)
    go true u e f h = inl (eqb-true a m e)
    go false true e f h = inr (eqb-true a n f)
    go false false e f h = absurd (h (e ∙ sym f))

    back : (a ≡ m) ⊎ (a ≡ n) → eqb a m ≢ eqb a n
    back (inl e) h = true≢false (sym (eq-eqb a m e) ∙ h ∙ ne_eqb a n (λ f. d (sym e ∙ f)))
    back (inr e) h = true≢false (sym (eq-eqb a n e) ∙ sym h ∙ ne_eqb a m (λ f. d (sym f ∙ e)))
