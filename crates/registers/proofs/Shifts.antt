-- The pages that the code works out for shifts and rotates are the manual's.
-- Assumes nothing.
use Rattle.std.proofs.Common.{◌≡◌, ℕ, ◌+◌, ◌*◌, ◌/◌, ◌%◌, ◌<◌, Bool, true, false, cond, eqb, leb, [], ◌∷◌, refl, ap, arith}
use lib.Bits.{bit_and, bit_or}
use borrow.Author.Tests.{lt-leb}
use Rattle.registers.specs.ConditionCodes.{digit, exclusive_or, flag}
use Rattle.registers.specs.Arithmetic.{ASL, ROL, ROR, ◌:=◌, Page, shifting, carry, manual}
use Rattle.registers.specs.declared.CCBit.TheVariants.{C, «V», Z, N}
use Rattle.registers.specs.declared.CCBits.{CCBits}
use Rattle.registers.proofs.Bits.{high_bit, low_bit, next_bit, into-left, into-right, sign_kept}
use Rattle.registers.proofs.Pages.{digit-le}

-- to the left and to the right, with the result r
abbrev pub left_page : ℕ → ℕ → Page
left_page a r =
    record {
      value = r;
      flags = (N := leb 0x80 r) ∷ (Z := eqb r 0) ∷ («V» := exclusive_or (leb 0x80 r) (leb 0x80 a)) ∷ (C := leb 0x80 a) ∷ [];
    }

abbrev pub right_page : ℕ → ℕ → Page
right_page a r = record { value = r; flags = (N := leb 0x80 r) ∷ (Z := eqb r 0) ∷ (C := eqb (bit_and a 1) 1) ∷ [] }

-- the results, as the code finds them
pub rolled : (v : Bool) (a : ℕ) → cond v (bit_or (a * 2 % 256) 1) (a * 2 % 256) ≡ (a * 2 + digit v) % 256
rolled true a = into-right a
rolled false a = ap (λ (n : ℕ). n % 256) (omega arith)

pub rored : (v : Bool) (a : ℕ) → a < 256 → cond v (bit_or (a / 2) 0x80) (a / 2) ≡ digit v * 128 + a / 2
rored true a l = into-left a l
rored false a l = omega arith

module _ (cc : CCBits) (a b : ℕ) (la : a < 256) where
  pub asl-page : left_page a (a * 2 % 256) ≡ manual ASL cc a b
  asl-page = rw (high_bit 7 a la, next_bit a 0 (a * 2) (omega arith) (omega arith))

  pub rol-page : (r : ℕ) → r ≡ cond (flag C cc) (bit_or (a * 2 % 256) 1) (a * 2 % 256) → left_page a r ≡ manual ROL cc a b
  rol-page r e =
      rw (e, rolled (flag C cc) a, high_bit 7 a la, next_bit a (carry cc) (a * 2 + carry cc) refl (digit-le (flag C cc)))

  pub ror-page : (r : ℕ) → r ≡ cond (flag C cc) (bit_or (a / 2) 0x80) (a / 2) → right_page a r ≡ manual ROR cc a b
  ror-page r e = rw (e, rored (flag C cc) a la, low_bit a)

  pub shr-page : (keep : Bool) (r : ℕ) → r ≡ cond keep (bit_or (a / 2) (bit_and a 0x80)) (a / 2) → right_page a r ≡ manual (shifting keep) cc a b
  shr-page true r e = rw (e, sign_kept a la, low_bit a)
  shr-page false r e = rw (e, low_bit a, lt-leb 0x80 (a / 2) (omega arith))
