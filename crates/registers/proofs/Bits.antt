-- What the code's masks, shifts and comparisons of bytes and words come to.
-- Assumes nothing.
use Rattle.std.proofs.Common.{◌≡◌, ℕ, suc, ◌+◌, ◌*◌, ◌/◌, ◌%◌, ◌^◌, ◌<◌, ◌≤◌, Bool, true, false, eqb, leb, sym, refl, ap, ◌∙◌, lt_of_le_of_lt, le_of_lt, mul-le-mul_left, mul-lt-mul_of_pos_right, pow-suc, arith, eq-eqb, ne_eqb, leb-false, leb-true}
use native.Mathlib.Nat.{div-eq_of_lt, div-eq_of_lt-le}
use lib.Bits.{bit_and, bit_or, and_mask, or_shifted, or_shifted_r}
use Rattle.registers.specs.ConditionCodes.{bit_at}
use Rattle.registers.proofs.Masks.{and_one}

-- the highest bit is 1 from the half on
pub high_bit : (k n : ℕ) → n < 2 ^ suc k → bit_at k n ≡ leb (2 ^ k) n
unfolding bit_at
high_bit k n l = go (leb (2 ^ k) n) refl
  where
    go : (t : Bool) → leb (2 ^ k) n ≡ t → eqb (n / 2 ^ k % 2) 1 ≡ t
    go true e = rw (div-eq_of_lt-le {k = 1} (2 ^ k) {m = n} (omega (arith, leb-true (2 ^ k) n e)) (omega (arith, pow-suc 2 k)))
    go false e = rw (div-eq_of_lt {n = n} {m = 2 ^ k} (leb-false (2 ^ k) n e))

-- the lowest bit by `& 1`
pub low_bit : (n : ℕ) → eqb (bit_and n 1) 1 ≡ bit_at 0 n
unfolding bit_at
low_bit n = ap (λ (x : ℕ). eqb x 1) (and_mask n 1 ∙ e)
  where
    e : n % 2 ≡ n / 1 % 2
    e = omega arith

-- the bit that is bit 7 after a shift to the left, whatever bit c comes in
pub next_bit : (a c n : ℕ) → n ≡ a * 2 + c → c ≤ 1 → leb 0x80 (n % 256) ≡ bit_at 6 a
unfolding bit_at
next_bit a c n e k = go (leb 0x80 (n % 256)) refl
  where
    go : (t : Bool) → leb 0x80 (n % 256) ≡ t → leb 0x80 (n % 256) ≡ eqb (a / 64 % 2) 1
    go true f = f ∙ sym (eq-eqb (a / 64 % 2) 1 (omega (arith, leb-true 0x80 (n % 256) f)))
    go false f = f ∙ sym (ne_eqb (a / 64 % 2) 1 (omega (arith, leb-false 0x80 (n % 256) f)))

-- a bit that comes in at the left, and one at the right
pub into-left : (a : ℕ) → a < 256 → bit_or (a / 2) 0x80 ≡ 0x80 + a / 2
into-left a l = or_shifted_r 1 7 (a / 2) (omega arith)

pub into-right : (a : ℕ) → bit_or (a * 2 % 256) 1 ≡ (a * 2 + 1) % 256
into-right a = ap (λ (x : ℕ). bit_or x 1) e ∙ or_shifted (a % 128) 1 1 (omega arith) ∙ f
  where
    e : a * 2 % 256 ≡ a % 128 * 2
    e = omega arith

    f : a % 128 * 2 + 1 ≡ (a * 2 + 1) % 256
    f = omega arith

-- the sign kept
pub sign_kept : (a : ℕ) → a < 256 → bit_or (a / 2) (bit_and a 0x80) ≡ a / 128 * 128 + a / 2
sign_kept a l =
    ap (λ (x : ℕ). bit_or (a / 2) x) (and_one 7 a ∙ ap (λ (x : ℕ). x * 128) e) ∙ or_shifted_r (a / 128) 7 (a / 2) (omega arith)
  where
    e : a / 128 % 2 ≡ a / 128
    e = omega arith

-- a product of two bytes fits a word
pub product : (a b : ℕ) → a < 256 → b < 256 → a * b < 65536
product a b la lb = lt_of_le_of_lt (mul-le-mul_left a (le_of_lt lb)) (mul-lt-mul_of_pos_right la (omega arith))
