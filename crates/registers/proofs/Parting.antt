-- The two settings part in V, at the listed inputs and nowhere else.
-- Assumes nothing.
use Rattle.std.proofs.Common.{◌≡◌, ℕ, ◌+◌, ◌-◌, ◌*◌, ◌/◌, ◌%◌, ◌<◌, ◌≤◌, Bool, true, false, not, eqb, ltb, leb, ◌≢◌, ◌⊎◌, ◌↔◌, [], ◌∷◌, sym, refl, ap, ◌∙◌, subst, inl, inr, ⊎_elim, true≢false, arith, ltb-false, ltb-true, eq-eqb, ne_eqb}
use lib.Bits.{bit_and, bit_or, bit_xor, and_lt, or_lt, xor_lt}
use borrow.Author.Tests.{lt-leb}
use Rattle.registers.specs.ConditionCodes.{digit, flag}
use Rattle.registers.specs.Arithmetic.{Operation, ADD, ADC, ADDD, SUB, SBC, SUBD, DEC, INC, AND, AND16, OR, EOR, COM, NEG, ASL, LSR, ASR, ROL, ROR, MUL, ◌:=◌, Page, negative_and_zero, carry, manual}
use Rattle.registers.specs.Bought.{bought}
use Rattle.registers.proofs.SettingsV.{add_v, sub_v, dec_v, inc_v}
use Rattle.registers.specs.Settings.{Parts, dec-00, dec-80, inc-7f, inc-ff, adc, sbc, DifferInV, SettingsPart}
use Rattle.registers.specs.declared.CCBit.TheVariants.{C}
use Rattle.registers.specs.declared.CCBits.{CCBits}
use Rattle.registers.specs.declared.Flags.TheVariants.{Bought, Manual}
use Rattle.registers.proofs.Bits.{high_bit, next_bit, sign_kept}
use Rattle.registers.proofs.Lines.{part, alike}
use Rattle.registers.proofs.Apart.{add_parts, sub_parts, tests-part}
use Rattle.registers.proofs.Shifts.{rolled, rored}
use Rattle.registers.proofs.Pages.{sum_lines, sum_page, difference_page, add-page, sub-page, dec-page, inc-page, digit-le}

-- the carry as a number is 1 exactly where the flag is set
set-carry : (v : Bool) → digit v ≡ 1 → v ≡ true
set-carry true e = refl
set-carry false e = absurd (omega arith)

-- Bools that do not differ are the same
same : (u v : Bool) → (u ≢ v → ⊥) → u ≡ v
same true true n = refl
same false false n = refl
same true false n = absurd (n true≢false)
same false true n = absurd (n (λ e. true≢false (sym e)))

-- what each entry of the list says
adc-says : {cc : CCBits} {a b : ℕ} → Parts cc a b ADC → (flag C cc ≡ true) × (a ≡ 0x7F) × (0x80 ≤ b)
adc-says (adc k m l) = (k, m, l)

sbc-says : {cc : CCBits} {a b : ℕ} → Parts cc a b SBC → (flag C cc ≡ true) × (a ≡ 0x80) × (0x80 ≤ b)
sbc-says (sbc k m l) = (k, m, l)

dec-says : {cc : CCBits} {a b : ℕ} → Parts cc a b DEC → (a ≡ 0x00) ⊎ (a ≡ 0x80)
dec-says (dec-00 e) = inl e
dec-says (dec-80 e) = inr e

inc-says : {cc : CCBits} {a b : ℕ} → Parts cc a b INC → (a ≡ 0x7F) ⊎ (a ≡ 0xFF)
inc-says (inc-7f e) = inl e
inc-says (inc-ff e) = inr e

module _ (cc : CCBits) (a b : ℕ) (la : a < 256) (lb : b < 256) where
  adc-case : (add_v Bought a b (carry cc) ≢ add_v Manual a b (carry cc)) ↔ Parts cc a b ADC
  adc-case =
      let p = add_parts a b (carry cc) la lb (digit-le (flag C cc)) in (
        λ n. adc (set-carry (flag C cc) (p.0 n).0) (p.0 n).1 (p.0 n).2,
        λ k. let s = adc-says k in p.1 (ap digit s.0, s.1, s.2),
      )

  sbc-case : (sub_v Bought a b (carry cc) ≢ sub_v Manual a b (carry cc)) ↔ Parts cc a b SBC
  sbc-case =
      let p = sub_parts a b (carry cc) la lb (digit-le (flag C cc)) in (
        λ n. sbc (set-carry (flag C cc) (p.0 n).0) (p.0 n).1 (p.0 n).2,
        λ k. let s = sbc-says k in p.1 (ap digit s.0, s.1, s.2),
      )

  dec-case : (dec_v Bought a ≢ dec_v Manual a) ↔ Parts cc a b DEC
  dec-case =
      let p = tests-part 0x00 0x80 a (omega arith) in
      (λ n. ⊎_elim (λ e. dec-00 e) (λ e. dec-80 e) (p.0 n), λ k. p.1 (dec-says k))

  inc-case : (inc_v Bought a ≢ inc_v Manual a) ↔ Parts cc a b INC
  inc-case =
      let p = tests-part 0xFF 0x7F a (omega arith) in
      (λ n. ⊎_elim (λ e. inc-ff e) (λ e. inc-7f e) (p.0 n), λ k. p.1 (⊎_elim (λ e. inr e) (λ e. inl e) (inc-says k)))

  -- with no carry there is nothing to part
  add-alike : sum_page a b 0 (add_v Bought a b 0) ≡ sum_page a b 0 (add_v Manual a b 0)
  add-alike =
      ap (λ (v : Bool). sum_page a b 0 v)
      (same (add_v Bought a b 0) (add_v Manual a b 0) (λ n. let k = (add_parts a b 0 la lb (omega arith)).0 n in omega arith))

  sub_alike : difference_page a b 0 (sub_v Bought a b 0) ≡ difference_page a b 0 (sub_v Manual a b 0)
  sub_alike =
      ap (λ (v : Bool). difference_page a b 0 v)
      (same (sub_v Bought a b 0) (sub_v Manual a b 0) (λ n. let k = (sub_parts a b 0 la lb (omega arith)).0 n in omega arith))

  -- the page as bought, in the place of one that it is equal to
  parted : (o : Operation) {p : Page} → p ≡ bought o cc a b → DifferInV cc p (manual o cc a b) (Parts cc a b o) → DifferInV cc (bought o cc a b) (manual o cc a b) (Parts cc a b o)
  parted o e d = subst (λ (q : Page). DifferInV cc q (manual o cc a b) (Parts cc a b o)) e d

neg-borrow : (a : ℕ) → not (eqb a 0) ≡ ltb 0 a
neg-borrow a = go (ltb 0 a) refl
  where
    go : (t : Bool) → ltb 0 a ≡ t → not (eqb a 0) ≡ ltb 0 a
    go true e = rw (e, ne_eqb a 0 (omega (arith, ltb-true 0 a e)))
    go false e = rw (e, eq-eqb a 0 (omega (arith, ltb-false 0 a e)))

pub settings-part : SettingsPart
settings-part ADD cc a b la lb = alike cc (sym (add-page cc a b la lb Bought false) ∙ add-alike cc a b la lb) (elim [ ])
settings-part ADC cc a b la lb =
    let c = carry cc in
    parted cc a b la lb ADC (add-page cc a b la lb Bought true)
    (part cc ((a + b + c) % 256) (sum_lines a b c) ((C := leb 256 (a + b + c)) ∷ []) (add_v Bought a b c) (add_v Manual a b c) (Parts cc a b ADC) refl (adc-case cc a b la lb))
settings-part ADDD cc a b la lb =
    let e : a + b + 0 ≡ a + b = omega arith in
    alike cc (rw (e, high_bit 15 ((a + b) % 65536) (omega arith))) (elim [ ])
settings-part SUB cc a b la lb = alike cc (sym (sub-page cc a b la lb Bought false) ∙ sub_alike cc a b la lb) (elim [ ])
settings-part SBC cc a b la lb =
    let c = carry cc in
    let r = (a + 256 - (b + c)) % 256 in
    parted cc a b la lb SBC (sub-page cc a b la lb Bought true)
    (part cc r (negative_and_zero 0x80 r) ((C := ltb a (b + c)) ∷ []) (sub_v Bought a b c) (sub_v Manual a b c) (Parts cc a b SBC) refl (sbc-case cc a b la lb))
settings-part SUBD cc a b la lb =
    let e : b + 0 ≡ b = omega arith in
    alike cc (rw (e, high_bit 15 ((a + 65536 - b) % 65536) (omega arith))) (elim [ ])
settings-part DEC cc a b la lb =
    let r = (a + 255) % 256 in
    parted cc a b la lb DEC (dec-page cc a b la Bought)
    (part cc r (negative_and_zero 0x80 r) [] (dec_v Bought a) (dec_v Manual a) (Parts cc a b DEC) refl (dec-case cc a b la lb))
settings-part INC cc a b la lb =
    let r = (a + 1) % 256 in
    parted cc a b la lb INC (inc-page cc a b la Bought)
    (part cc r (negative_and_zero 0x80 r) [] (inc_v Bought a) (inc_v Manual a) (Parts cc a b INC) refl (inc-case cc a b la lb))
settings-part AND cc a b la lb = alike cc (rw (high_bit 7 (bit_and a b) (and_lt 8 a b la lb))) (elim [ ])
settings-part AND16 cc a b la lb = alike cc (rw (high_bit 15 (bit_and a b) (and_lt 16 a b la lb))) (elim [ ])
settings-part OR cc a b la lb = alike cc (rw (high_bit 7 (bit_or a b) (or_lt 8 a b la lb))) (elim [ ])
settings-part EOR cc a b la lb = alike cc (rw (high_bit 7 (bit_xor a b) (xor_lt 8 a b la lb))) (elim [ ])
settings-part COM cc a b la lb = alike cc (rw (high_bit 7 (255 - a) (omega arith))) (elim [ ])
settings-part NEG cc a b la lb = alike cc (rw (neg-borrow a, high_bit 7 ((256 - a) % 256) (omega arith))) (elim [ ])
settings-part ASL cc a b la lb =
    alike cc (rw (high_bit 7 (a * 2 % 256) (omega arith), next_bit a 0 (a * 2) (omega arith) (omega arith))) (elim [ ])
settings-part LSR cc a b la lb = alike cc (rw (high_bit 7 (a / 2) (omega arith), lt-leb 0x80 (a / 2) (omega arith))) (elim [ ])
settings-part ASR cc a b la lb = alike cc (rw (sign_kept a la, high_bit 7 (a / 128 * 128 + a / 2) (omega arith))) (elim [ ])
settings-part ROL cc a b la lb =
    let c = carry cc in
    alike cc
    (rw (rolled (flag C cc) a, high_bit 7 ((a * 2 + c) % 256) (omega arith), next_bit a c (a * 2 + c) refl (digit-le (flag C cc))))
    (elim [ ])
settings-part ROR cc a b la lb =
    alike cc (rw (rored (flag C cc) a la, high_bit 7 (carry cc * 128 + a / 2) (omega (arith, digit-le (flag C cc))))) (elim [ ])
settings-part MUL cc a b la lb = alike cc refl (elim [ ])
