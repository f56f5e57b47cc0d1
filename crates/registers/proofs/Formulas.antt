-- V and H as formulas over single bits, which a reader holds beside the manual, and that they are the definitions' V and H.
-- a and m are the operands, c is the carry or borrow, r the result, which has c in it. Each law goes by cases on the three bits.
-- Assumes nothing.
use Rattle.std.proofs.Common.{◌≡◌, ℕ, ◌+◌, ◌-◌, ◌/◌, ◌%◌, ◌<◌, ◌≤◌, Bool, true, false, not, ◌&&◌, ◌||◌, eqb, ltb, leb, sym, refl, ap, ◌∙◌, arith, le-leb, leb-false, leb-true}
use borrow.Author.Tests.{lt-leb}
use Rattle.u8oru16.specs.Signed.{sum_out, diff_out}
use Rattle.registers.specs.ConditionCodes.{bit_at}
use Rattle.registers.proofs.Bits.{high_bit}
use Rattle.registers.proofs.Whole.{lifted-sum, lifted-diff}
use Rattle.registers.proofs.Apart.{neither-holds, above, below}

-- V of a sum and of a difference, H of a sum, the products in the manual's order
abbrev pub v_of_sum : Bool → Bool → Bool → Bool
v_of_sum a7 m7 r7 = (a7 && m7 && not r7) || (not a7 && not m7 && r7)

abbrev pub v_of_difference : Bool → Bool → Bool → Bool
v_of_difference a7 m7 r7 = (a7 && not m7 && not r7) || (not a7 && m7 && r7)

abbrev pub h_of_sum : Bool → Bool → Bool → Bool
h_of_sum a3 m3 r3 = (a3 && m3) || (m3 && not r3) || (not r3 && a3)

module _ (a m c r : ℕ) (la : a < 256) (lm : m < 256) (lc : c ≤ 1) where
  -- a formula over bits 7, of numbers below 256
  signs : (f : Bool → Bool → Bool → Bool) (v : Bool) → r < 256 → f (leb 128 a) (leb 128 m) (leb 128 r) ≡ v → f (bit_at 7 a) (bit_at 7 m) (bit_at 7 r) ≡ v
  signs f v lr e = rw (high_bit 7 a la, high_bit 7 m lm, high_bit 7 r lr) e

  abbrev x : ℕ
  x = (a + 128) % 256

  abbrev y : ℕ
  y = (m + 128) % 256

  pub sum-v : r ≡ (a + m + c) % 256 → v_of_sum (bit_at 7 a) (bit_at 7 m) (bit_at 7 r) ≡ sum_out 0x80 a m c
  sum-v e =
      signs v_of_sum (sum_out 0x80 a m c) (omega arith)
      (go (leb 128 a) (leb 128 m) (leb 128 r) refl refl refl ∙ sym (lifted-sum 0x80 a m c la lm (x + y + c) refl))
    where
      none : 128 ≤ x + y + c → x + y + c < 384 → false ≡ (ltb (x + y + c) 128 || leb 384 (x + y + c))
      none h k = sym (neither-holds (x + y + c) 128 384 (x + y + c) h k)

      go : (t u w : Bool) → leb 128 a ≡ t → leb 128 m ≡ u → leb 128 r ≡ w → v_of_sum t u w ≡ (ltb (x + y + c) 128 || leb 384 (x + y + c))
      go true true true f g h = none (omega (arith, leb-true, leb-false)) (omega (arith, leb-true, leb-false))
      go true true false f g h = sym (below (x + y + c) 128 384 (x + y + c) (omega (arith, leb-true, leb-false)))
      go true false w f g h = none (omega (arith, leb-true, leb-false)) (omega (arith, leb-true, leb-false))
      go false true w f g h = none (omega (arith, leb-true, leb-false)) (omega (arith, leb-true, leb-false))
      go false false true f g h = sym (above (x + y + c) 128 384 (x + y + c) (omega (arith, leb-true, leb-false)) (omega (arith, leb-true, leb-false)))
      go false false false f g h = none (omega (arith, leb-true, leb-false)) (omega (arith, leb-true, leb-false))

  pub difference-v : r ≡ (a + 256 - (m + c)) % 256 → v_of_difference (bit_at 7 a) (bit_at 7 m) (bit_at 7 r) ≡ diff_out 0x80 a m c
  difference-v e =
      signs v_of_difference (diff_out 0x80 a m c) (omega arith)
      (go (leb 128 a) (leb 128 m) (leb 128 r) refl refl refl ∙ sym (lifted-diff 0x80 a m c la lm (y + c) refl))
    where
      none : y + c ≤ x + 128 → x < 128 + (y + c) → false ≡ (ltb (x + 128) (y + c) || leb (128 + (y + c)) x)
      none h k = sym (neither-holds (x + 128) (y + c) (128 + (y + c)) x h k)

      go : (t u w : Bool) → leb 128 a ≡ t → leb 128 m ≡ u → leb 128 r ≡ w → v_of_difference t u w ≡ (ltb (x + 128) (y + c) || leb (128 + (y + c)) x)
      go true false false f g h = sym (below (x + 128) (y + c) (128 + (y + c)) x (omega (arith, leb-true, leb-false)))
      go true false true f g h = none (omega (arith, leb-true, leb-false)) (omega (arith, leb-true, leb-false))
      go true true w f g h = none (omega (arith, leb-true, leb-false)) (omega (arith, leb-true, leb-false))
      go false false w f g h = none (omega (arith, leb-true, leb-false)) (omega (arith, leb-true, leb-false))
      go false true true f g h = sym (above (x + 128) (y + c) (128 + (y + c)) x (omega (arith, leb-true, leb-false)) (omega (arith, leb-true, leb-false)))
      go false true false f g h = none (omega (arith, leb-true, leb-false)) (omega (arith, leb-true, leb-false))

-- bit 3 is the highest of the low half of a byte
low_half : (n : ℕ) → bit_at 3 n ≡ leb 8 (n % 16)
unfolding bit_at
low_half n = ap (λ (k : ℕ). eqb k 1) e ∙ high_bit 3 (n % 16) (omega arith)
  where
    e : n / 8 % 2 ≡ n % 16 / 8 % 2
    e = omega arith

pub sum-h : (a m c r : ℕ) → c ≤ 1 → r ≡ (a + m + c) % 256 → h_of_sum (bit_at 3 a) (bit_at 3 m) (bit_at 3 r) ≡ leb 16 (a % 16 + m % 16 + c)
sum-h a m c r lc e =
    rw (low_half a, low_half m, low_half r) (half (a % 16) (m % 16) c (r % 16) (omega arith) (omega arith) lc low)
  where
    low : r % 16 ≡ (a % 16 + m % 16 + c) % 16
    low = omega arith

    -- the carry out of the low halves p and q, and s their sum
    half : (p q c s : ℕ) → p < 16 → q < 16 → c ≤ 1 → s ≡ (p + q + c) % 16 → h_of_sum (leb 8 p) (leb 8 q) (leb 8 s) ≡ leb 16 (p + q + c)
    half p q c s lp lq lc e = go (leb 8 p) (leb 8 q) (leb 8 s) refl refl refl
      where
        set : 16 ≤ p + q + c → true ≡ leb 16 (p + q + c)
        set h = sym (le-leb 16 (p + q + c) h)

        clear : p + q + c < 16 → false ≡ leb 16 (p + q + c)
        clear h = sym (lt-leb 16 (p + q + c) h)

        go : (t u w : Bool) → leb 8 p ≡ t → leb 8 q ≡ u → leb 8 s ≡ w → h_of_sum t u w ≡ leb 16 (p + q + c)
        go true true w f g h = set (omega (arith, leb-true, leb-false))
        go true false true f g h = clear (omega (arith, leb-true, leb-false))
        go true false false f g h = set (omega (arith, leb-true, leb-false))
        go false true true f g h = clear (omega (arith, leb-true, leb-false))
        go false true false f g h = set (omega (arith, leb-true, leb-false))
        go false false true f g h = clear (omega (arith, leb-true, leb-false))
        go false false false f g h = clear (omega (arith, leb-true, leb-false))
