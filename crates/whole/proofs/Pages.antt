-- The pages that the sums, differences and halves give are those of each setting.
-- Assumes nothing.
use mathlib.Core.Path.{◌≡◌, refl, sym, ap, ap₂, ◌∙◌}
use mathlib.Core.Bool.{Bool, true, false, ◌&&◌, ◌||◌}
use mathlib.Core.List.{[], ◌∷◌, ◌++◌}
use Prim.Native.Nat.{ℕ, suc, ◌+◌, ◌-◌, ◌*◌, ◌/◌, ◌%◌, ◌≤◌, ◌<◌}
use native.Mathlib.Nat.{add-zero}
use native.Mathlib.Omega.{arith}
use lib.Dec.{eqb, leb, ltb}
use borrow.Author.Tests.{leb-true, leb-false, lt-leb}
use Rattle.u8oru16.specs.Signed.{sum_out, diff_out}
use Rattle.registers.specs.ConditionCodes.{digit, exclusive_or, bit_at, flag}
use Rattle.registers.specs.Arithmetic.{Page, ◌:=◌, ASL, ROL, ROR, DEC, INC, NEG, negative_and_zero, carry, carry_in, adding, subtracting, shifting, manual}
use Rattle.registers.specs.Bought.{add-u8, sub-u8}
use Rattle.registers.specs.Settings.{by}
use Rattle.registers.specs.declared.CCBit.TheVariants.{C, «V», H}
use Rattle.registers.specs.declared.CCBits.{CCBits}
use Rattle.registers.specs.declared.Flags.{Flags}
use Rattle.registers.specs.declared.Flags.TheVariants.{Bought, Manual}
use Rattle.registers.proofs.Bits.{high_bit}
use Rattle.registers.proofs.Laws.{dec-overflow, inc-overflow, neg-overflow, asl-overflow}
use Rattle.registers.proofs.Lines.{reads}
use Rattle.registers.proofs.Pages.{digit-le}
use Rattle.registers.proofs.Whole.{tests, lifted-sum}
use Rattle.whole.specs.Parts.{sum_of, difference_of, sum_by, difference_by, page_of, count_page, half_page}

-- ---- sums and differences with the carry

-- the page of a sum of bytes, with its half-carry
abbrev pub add_page : Flags → ℕ → ℕ → ℕ → Page
add_page s a b c =
    let p = page_of 0x80 (sum_by s a b c) in
    record { value = p.value; flags = (H := leb 16 (a % 16 + b % 16 + c)) ∷ p.flags }

module _ (a b c : ℕ) (lc : c ≤ 1) where
  add-bought : add_page Bought a b c ≡ add-u8 a b c
  add-bought =
      rw (add-zero (a + c), add-zero ((a + c) % 256 + b), high_bit 4 (a % 16 + b % 16 + c) (omega arith), high_bit 7 (((a + c) % 256 + b) % 256) (omega arith))

  sub-bought : page_of 0x80 (difference_by Bought a b c) ≡ sub-u8 a b c
  sub-bought = rw (add-zero c, add-zero b, high_bit 7 (((a + 256 - c) % 256 + 256 - b) % 256) (omega arith))

module _ (cc : CCBits) (a b : ℕ) where
  pub add-page : (s : Flags) (w : Bool) → add_page s a b (carry_in w cc) ≡ by s (adding w) cc a b
  add-page Manual true = refl
  add-page Manual false = refl
  add-page Bought true = add-bought a b (carry_in true cc) (digit-le (flag C cc))
  add-page Bought false = add-bought a b 0 (omega arith)

  pub sub-page : (s : Flags) (w : Bool) → page_of 0x80 (difference_by s a b (carry_in w cc)) ≡ by s (subtracting w) cc a b
  sub-page Manual true = refl
  sub-page Manual false = refl
  sub-page Bought true = sub-bought a b (carry_in true cc) (digit-le (flag C cc))
  sub-page Bought false = sub-bought a b 0 (omega arith)

-- ---- INC, DEC, NEG, ASL and ROL as sums and differences: V of the manual's page is the overflow (`registers`' laws)

module _ (cc : CCBits) (a : ℕ) (la : a < 256) where
  inc-v : sum_out 0x80 a 1 0 ≡ eqb a 0x7F
  inc-v = sym (inc-overflow cc a 0 la) ∙ reads «V» cc (negative_and_zero 0x80 ((a + 1) % 256)) [] (eqb a 0x7F) refl

  dec-v : diff_out 0x80 a 1 0 ≡ eqb a 0x80
  dec-v = sym (dec-overflow cc a 0 la) ∙ reads «V» cc (negative_and_zero 0x80 ((a + 255) % 256)) [] (eqb a 0x80) refl

  neg-v : diff_out 0x80 0 a 0 ≡ eqb a 0x80
  neg-v = sym (neg-overflow cc a 0 la) ∙ reads «V» cc (negative_and_zero 0x80 ((256 - a) % 256)) ((C := ltb 0 a) ∷ []) (eqb a 0x80) refl

  pub inc-page : (s : Flags) → count_page s (sum_of 0x80 a 1 0) ≡ by s INC cc a 0
  inc-page Manual = rw (add-zero (a + 1), inc-v)
  inc-page Bought = rw (add-zero (a + 1), high_bit 7 ((a + 1) % 256) (omega arith))

  pub dec-page : (s : Flags) → count_page s (difference_of 0x80 a 1 0) ≡ by s DEC cc a 0
  dec-page Manual =
      let e : a + 256 - 1 ≡ a + 255 = omega arith in
      rw (e, dec-v)
  dec-page Bought = rw (high_bit 7 ((a + 256 - 1) % 256) (omega arith))

  pub neg-page : page_of 0x80 (difference_of 0x80 0 a 0) ≡ manual NEG cc a 0
  neg-page = rw (add-zero a, neg-v)

  -- a carry that is added to a + a changes neither V nor C
  double-v : (c : ℕ) → c ≤ 1 → sum_out 0x80 a a c ≡ exclusive_or (bit_at 6 a) (bit_at 7 a)
  double-v c l =
      let x = (a + 128) % 256 in
      lifted-sum 0x80 a a c la la (x + x + c) refl
      ∙ ap₂ ◌||◌ (tests (suc (x + x + c)) 128 (suc (x + x)) 128 (omega arith)) (tests 384 (x + x + c) 384 (x + x) (omega arith))
      ∙ sym (lifted-sum 0x80 a a 0 la la (x + x) (omega arith))
      ∙ sym (asl-overflow cc a 0 la)
      ∙ reads «V» cc (negative_and_zero 0x80 (a * 2 % 256)) ((C := bit_at 7 a) ∷ []) (exclusive_or (bit_at 6 a) (bit_at 7 a)) refl

  double-c : (c : ℕ) → c ≤ 1 → leb 256 (a + a + c) ≡ bit_at 7 a
  double-c c l = tests 256 (a + a + c) 128 a (omega arith) ∙ sym (high_bit 7 a la)

  doubled : (c r : ℕ) → c ≤ 1 → (a + a + c) % 256 ≡ r
      → page_of 0x80 (sum_of 0x80 a a c) ≡ record { value = r; flags = negative_and_zero 0x80 r ++ ((«V» := exclusive_or (bit_at 6 a) (bit_at 7 a)) ∷ (C := bit_at 7 a) ∷ []) }
  doubled c r l e = rw (e, double-v c l, double-c c l)

  pub asl-page : page_of 0x80 (sum_of 0x80 a a 0) ≡ manual ASL cc a 0
  asl-page = doubled 0 (a * 2 % 256) (omega arith) (ap (λ (n : ℕ). n % 256) (omega arith))

  pub rol-page : page_of 0x80 (sum_of 0x80 a a (carry cc)) ≡ manual ROL cc a 0
  rol-page = doubled (carry cc) ((a * 2 + carry cc) % 256) (digit-le (flag C cc)) (ap (λ (n : ℕ). n % 256) (omega arith))

  -- ---- halves

  halved : (t r : ℕ) → t ≤ 1 → t * 128 + a / 2 ≡ r → half_page a t ≡ record { value = r; flags = negative_and_zero 0x80 r ++ ((C := bit_at 0 a) ∷ []) }
  unfolding bit_at
  halved t r l e =
      let v : (256 * t + a) / 2 ≡ r = omega arith in
      let m : (256 * t + a) % 2 ≡ a / 1 % 2 = omega arith in
      rw (v, m)

  sign : digit (leb 0x80 a) * 128 + a / 2 ≡ a / 128 * 128 + a / 2
  sign = go (leb 0x80 a) refl
    where
      go : (t : Bool) → leb 0x80 a ≡ t → digit t * 128 + a / 2 ≡ a / 128 * 128 + a / 2
      go true e = omega (arith, leb-true 0x80 a e)
      go false e = omega (arith, leb-false 0x80 a e)

  pub shr-page : (keep : Bool) → half_page a (digit (keep && leb 0x80 a)) ≡ manual (shifting keep) cc a 0
  shr-page true = halved (digit (leb 0x80 a)) (a / 128 * 128 + a / 2) (digit-le (leb 0x80 a)) sign
  shr-page false = halved 0 (a / 2) (omega arith) (omega arith) ∙ rw (lt-leb 0x80 (a / 2) (omega arith))

  pub ror-page : half_page a (carry cc) ≡ manual ROR cc a 0
  ror-page = halved (carry cc) (carry cc * 128 + a / 2) (digit-le (flag C cc)) refl
