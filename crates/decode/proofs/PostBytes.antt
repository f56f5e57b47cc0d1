-- The masks of the post-byte: laws over all 256 bytes, each shown by one test that antt computes.
-- Assumes nothing.
use Rattle.std.proofs.Common.{◌≡◌, ℕ, ◌/◌, ◌%◌, ◌<◌, ◌≤◌, true, cond, ◌||◌, eqb, leb, [], ◌∷◌, refl, le-ltb, ne_eqb, leb-true, Err}
use borrow.Author.Tests.{lt-leb}
use lib.Bits.{bit_and, bit_or}
use Rattle.registers.specs.ConditionCodes.{bit_at}
use Rattle.answers.specs.declared.Refusal.TheVariants.{PostByte as BadPostByte}
use Rattle.opcodes.proofs.Rows.{alike, NotIn}
use Rattle.decode.specs.PostByte.{is_indirect, form_of, five_bits}

-- bits 7 and 4 by one mask
pub indirect : (n : ℕ) → n < 256 → eqb (bit_and n 0x90) 0x90 ≡ is_indirect n
unfolding is_indirect bit_at
indirect = alike (λ (n : ℕ). eqb (bit_and n 0x90) 0x90) is_indirect 256 refl

-- the register field
pub field : (n : ℕ) → n < 256 → bit_and n 0x60 / 32 ≡ n / 32 % 4
field = alike (λ (n : ℕ). bit_and n 0x60 / 32) (λ (n : ℕ). n / 32 % 4) 256 refl

-- the five bits and their sign
pub five : (n : ℕ) → n < 256 → cond (eqb (bit_and n 0x10) 0) (bit_and n 0x1F) (bit_or (bit_and n 0x1F) 0xFFE0) ≡ five_bits n
unfolding five_bits
five = alike (λ (n : ℕ). cond (eqb (bit_and n 0x10) 0) (bit_and n 0x1F) (bit_or (bit_and n 0x1F) 0xFFE0)) five_bits 256 refl

-- a low form is at most 0F or at least 80
pub low-form : (n : ℕ) → n < 256 → 0x0F < bit_and n 0x8F → 0x80 ≤ bit_and n 0x8F
low-form n l h =
    leb-true 0x80 (bit_and n 0x8F)
    (rw (lt-leb (bit_and n 0x8F) 0x0F h) at (alike (λ (n : ℕ). leb (bit_and n 0x8F) 0x0F || leb 0x80 (bit_and n 0x8F)) (λ (n : ℕ). true) 256 refl n l))

-- a low form that is none of these is refused
pub no-form : (n : ℕ) → 0x80 ≤ bit_and n 0x8F → NotIn (bit_and n 0x8F) (0x8F ∷ 0x8D ∷ 0x8C ∷ 0x8B ∷ 0x89 ∷ 0x88 ∷ 0x86 ∷ 0x85 ∷ 0x84 ∷ 0x83 ∷ 0x82 ∷ 0x81 ∷ 0x80 ∷ []) → Err BadPostByte ≡ form_of n
unfolding form_of
no-form n l r =
    rw (
      le-ltb (bit_and n 0x8F) 0x80 l,
      ne_eqb (bit_and n 0x8F) 0x80 r.0.0.0.0.0.0.0.0.0.0.0.0.1,
      ne_eqb (bit_and n 0x8F) 0x81 r.0.0.0.0.0.0.0.0.0.0.0.1,
      ne_eqb (bit_and n 0x8F) 0x82 r.0.0.0.0.0.0.0.0.0.0.1,
      ne_eqb (bit_and n 0x8F) 0x83 r.0.0.0.0.0.0.0.0.0.1,
      ne_eqb (bit_and n 0x8F) 0x84 r.0.0.0.0.0.0.0.0.1,
      ne_eqb (bit_and n 0x8F) 0x85 r.0.0.0.0.0.0.0.1,
      ne_eqb (bit_and n 0x8F) 0x86 r.0.0.0.0.0.0.1,
      ne_eqb (bit_and n 0x8F) 0x88 r.0.0.0.0.0.1,
      ne_eqb (bit_and n 0x8F) 0x89 r.0.0.0.0.1,
      ne_eqb (bit_and n 0x8F) 0x8B r.0.0.0.1,
      ne_eqb (bit_and n 0x8F) 0x8C r.0.0.1,
      ne_eqb (bit_and n 0x8F) 0x8D r.0.1,
      ne_eqb (bit_and n 0x8F) 0x8F r.1,
    )
