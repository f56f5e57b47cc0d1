-- The laws of the arithmetic and of the register set.
-- Assumes nothing.
use Rattle.std.proofs.Common.{◌≡◌, ℕ, ◌+◌, ◌-◌, ◌*◌, ◌%◌, ◌<◌, ◌≤◌, Bool, true, false, ◌&&◌, ◌||◌, eqb, ltb, leb, ◌≢◌, ◌⊎◌, List, [], ◌∷◌, ◌++◌, sym, refl, ap, ◌∙◌, inl, inr, true≢false, arith, ltb-false, ltb-true, le-ltb, lt-ltb, eqb-true, le-leb, leb-false, leb-true}
use borrow.Author.Tests.{lt-leb, eqb-false}
use Rattle.u8oru16.specs.Signed.{sum_out, diff_out}
use Rattle.u8oru16.specs.declared.u8u16.TheVariants.{u16}
use Rattle.registers.specs.ConditionCodes.{place, digit, exclusive_or, bit_at, flag}
use Rattle.registers.specs.Arithmetic.{Operation, ADD, ADC, ADDD, SUB, SBC, SUBD, DEC, INC, AND, AND16, OR, EOR, COM, NEG, ASL, LSR, ASR, ROL, ROR, MUL, Line, ◌:=◌, negative_and_zero, carry_in}
use Rattle.registers.specs.Laws.{untouched, lists, Kept, HalfCarryKept, CarryAlone, AddWhole, SubWhole, MulFlags, DecOverflow, IncOverflow, NegOverflow, AslOverflow, ReadWritten}
use Rattle.registers.proofs.SettingsV.{add_v, sub_v}
use Rattle.registers.specs.Settings.{by, after}
use Rattle.registers.specs.declared.CCBit.{CCBit}
use Rattle.registers.specs.declared.CCBit.TheVariants.{C, «V», Z, N, H}
use Rattle.registers.specs.declared.CCBits.{CCBits}
use Rattle.registers.specs.declared.Flags.{Flags}
use Rattle.registers.specs.declared.Flags.TheVariants.{Bought, Manual}
use Rattle.registers.specs.declared.Name.TheVariants.{A, B, D, X, Y, U, S as SP, PC, DP, CC}
use Rattle.registers.proofs.Bits.{high_bit, next_bit}
use Rattle.registers.proofs.Lines.{absent, stays, reads}
use Rattle.registers.proofs.Pages.{sum_lines, add-page, sub-page, digit-le}
use Rattle.registers.proofs.Reading.{place-inj}
use Rattle.registers.proofs.Whole.{lifted-sum, lifted-diff}

pub add-whole : AddWhole
add-whole s cc a b la lb w =
    let c = carry_in w cc in
    let v = add_v s a b c in
    rw (← (add-page cc a b la lb s w), reads C cc (sum_lines a b c ++ ((«V» := v) ∷ [])) [] (leb 256 (a + b + c)) refl)
    (go (leb 256 (a + b + c)) refl (digit-le (w && flag C cc)))
  where
    go : (t : Bool) → leb 256 (a + b + carry_in w cc) ≡ t → carry_in w cc ≤ 1 → (a + b + carry_in w cc) % 256 + 256 * digit t ≡ a + b + carry_in w cc
    go true e k = omega (arith, leb-true 256 (a + b + carry_in w cc) e)
    go false e k = omega (arith, leb-false 256 (a + b + carry_in w cc) e)

pub sub-whole : SubWhole
sub-whole s cc a b la lb w =
    let c = carry_in w cc in
    let v = sub_v s a b c in
    let r = (a + 256 - (b + c)) % 256 in
    rw (← (sub-page cc a b la lb s w), reads C cc (negative_and_zero 0x80 r ++ ((«V» := v) ∷ [])) [] (ltb a (b + c)) refl)
    (go (ltb a (b + c)) refl (digit-le (w && flag C cc)))
  where
    go : (t : Bool) → ltb a (b + carry_in w cc) ≡ t → carry_in w cc ≤ 1 → (a + 256 - (b + carry_in w cc)) % 256 + b + carry_in w cc ≡ a + 256 * digit t
    go true e k = omega (arith, ltb-true a (b + carry_in w cc) e)
    go false e k = omega (arith, ltb-false a (b + carry_in w cc) e)

-- none of a list's flags has a line
abbrev silent : List CCBit → List Line → Bool
silent [] l = true
silent (f ∷ fs) l = absent f l && silent fs l

both : (t u : Bool) → (t && u) ≡ true → (t ≡ true) × (u ≡ true)
both true u e = (refl, e)
both false u e = absurd (true≢false (sym e))

-- so a listed flag has none
silent-absent : (fs : List CCBit) (l : List Line) (f : CCBit) → silent fs l ≡ true → lists fs f ≡ true → absent f l ≡ true
silent-absent [] l f e h = absurd (true≢false (sym h))
silent-absent (g ∷ fs) l f e h =
    let k = both (absent g l) (silent fs l) e in
    go (eqb (place f) (place g)) refl h k.0 (λ m. silent-absent fs l f k.1 m)
  where
    go : (t : Bool) → eqb (place f) (place g) ≡ t → (t || lists fs f) ≡ true → absent g l ≡ true → (lists fs f ≡ true → absent f l ≡ true) → absent f l ≡ true
    go true q h a later = rw (place-inj f g (eqb-true (place f) (place g) q)) a
    go false q h a later = later h

-- the pages have no line for a flag of the table
table : (s : Flags) (o : Operation) (cc : CCBits) (a b : ℕ) → silent (untouched o) (by s o cc a b).flags ≡ true
table Bought ADD cc a b = refl
table Manual ADD cc a b = refl
table Bought ADC cc a b = refl
table Manual ADC cc a b = refl
table Bought ADDD cc a b = refl
table Manual ADDD cc a b = refl
table Bought SUB cc a b = refl
table Manual SUB cc a b = refl
table Bought SBC cc a b = refl
table Manual SBC cc a b = refl
table Bought SUBD cc a b = refl
table Manual SUBD cc a b = refl
table Bought DEC cc a b = refl
table Manual DEC cc a b = refl
table Bought INC cc a b = refl
table Manual INC cc a b = refl
table Bought AND cc a b = refl
table Manual AND cc a b = refl
table Bought AND16 cc a b = refl
table Manual AND16 cc a b = refl
table Bought OR cc a b = refl
table Manual OR cc a b = refl
table Bought EOR cc a b = refl
table Manual EOR cc a b = refl
table Bought COM cc a b = refl
table Manual COM cc a b = refl
table Bought NEG cc a b = refl
table Manual NEG cc a b = refl
table Bought ASL cc a b = refl
table Manual ASL cc a b = refl
table Bought LSR cc a b = refl
table Manual LSR cc a b = refl
table Bought ASR cc a b = refl
table Manual ASR cc a b = refl
table Bought ROL cc a b = refl
table Manual ROL cc a b = refl
table Bought ROR cc a b = refl
table Manual ROR cc a b = refl
table Bought MUL cc a b = refl
table Manual MUL cc a b = refl

pub kept : Kept
kept s o cc a b f e = stays f cc (by s o cc a b).flags (silent-absent (untouched o) (by s o cc a b).flags f (table s o cc a b) e)

-- H stands in the table but for ADD and ADC
pub half-carry-kept : HalfCarryKept
half-carry-kept s o cc a b m n = kept s o cc a b H (go o m n)
  where
    go : (o : Operation) → o ≢ ADD → o ≢ ADC → lists (untouched o) H ≡ true
    go ADD m n = absurd (m refl)
    go ADC m n = absurd (n refl)
    go ADDD m n = refl
    go SUB m n = refl
    go SBC m n = refl
    go SUBD m n = refl
    go DEC m n = refl
    go INC m n = refl
    go AND m n = refl
    go AND16 m n = refl
    go OR m n = refl
    go EOR m n = refl
    go COM m n = refl
    go NEG m n = refl
    go ASL m n = refl
    go LSR m n = refl
    go ASR m n = refl
    go ROL m n = refl
    go ROR m n = refl
    go MUL m n = refl

pub carry-alone : CarryAlone
carry-alone Bought ADD cc dd a b e = refl
carry-alone Manual ADD cc dd a b e = refl
carry-alone Bought ADC cc dd a b e = rw e
carry-alone Manual ADC cc dd a b e = rw e
carry-alone Bought ADDD cc dd a b e = refl
carry-alone Manual ADDD cc dd a b e = refl
carry-alone Bought SUB cc dd a b e = refl
carry-alone Manual SUB cc dd a b e = refl
carry-alone Bought SBC cc dd a b e = rw e
carry-alone Manual SBC cc dd a b e = rw e
carry-alone Bought SUBD cc dd a b e = refl
carry-alone Manual SUBD cc dd a b e = refl
carry-alone Bought DEC cc dd a b e = refl
carry-alone Manual DEC cc dd a b e = refl
carry-alone Bought INC cc dd a b e = refl
carry-alone Manual INC cc dd a b e = refl
carry-alone Bought AND cc dd a b e = refl
carry-alone Manual AND cc dd a b e = refl
carry-alone Bought AND16 cc dd a b e = refl
carry-alone Manual AND16 cc dd a b e = refl
carry-alone Bought OR cc dd a b e = refl
carry-alone Manual OR cc dd a b e = refl
carry-alone Bought EOR cc dd a b e = refl
carry-alone Manual EOR cc dd a b e = refl
carry-alone Bought COM cc dd a b e = refl
carry-alone Manual COM cc dd a b e = refl
carry-alone Bought NEG cc dd a b e = refl
carry-alone Manual NEG cc dd a b e = refl
carry-alone Bought ASL cc dd a b e = refl
carry-alone Manual ASL cc dd a b e = refl
carry-alone Bought LSR cc dd a b e = refl
carry-alone Manual LSR cc dd a b e = refl
carry-alone Bought ASR cc dd a b e = refl
carry-alone Manual ASR cc dd a b e = refl
carry-alone Bought ROL cc dd a b e = rw e
carry-alone Manual ROL cc dd a b e = rw e
carry-alone Bought ROR cc dd a b e = rw e
carry-alone Manual ROR cc dd a b e = rw e
carry-alone Bought MUL cc dd a b e = refl
carry-alone Manual MUL cc dd a b e = refl

mul-carry : (s : Flags) (cc : CCBits) (a b : ℕ) → after C s MUL cc a b ≡ bit_at 7 (a * b)
mul-carry Bought cc a b = reads C cc ((Z := eqb (a * b) 0) ∷ []) [] _ refl
mul-carry Manual cc a b = reads C cc ((Z := eqb (a * b) 0) ∷ []) [] _ refl

pub mul-flags : MulFlags
mul-flags s cc a b = (mul-carry s cc a b, kept s MUL cc a b N refl, kept s MUL cc a b «V» refl)

-- a test that holds exactly where one of two bounds is passed
passed : (p q r t : ℕ) (v : Bool) → (v ≡ true → (p < q) ⊎ (r ≤ t)) → (v ≡ false → (q ≤ p) × (t < r)) → v ≡ (ltb p q || leb r t)
passed p q r t true f g = go (f refl) (ltb p q) refl
  where
    go : (p < q) ⊎ (r ≤ t) → (x : Bool) → ltb p q ≡ x → true ≡ (x || leb r t)
    go k true e = refl
    go (inl k) false e = absurd (omega (arith, ltb-false p q e))
    go (inr k) false e = sym (le-leb r t k)
passed p q r t false f g = rw (le-ltb p q (g refl).0, lt-leb r t (g refl).1)

module _ (a : ℕ) (la : a < 256) where
  -- a - 1 leaves the range exactly at 80
  dec-out : eqb a 0x80 ≡ diff_out 0x80 a 1 0
  dec-out =
      let x = (a + 128) % 256 in
      passed (x + 128) 129 (128 + 129) x (eqb a 0x80)
      (λ e. inl (omega (arith, eqb-true a 0x80 e)))
      (λ e. (let n = eqb-false a 0x80 e in omega arith, omega arith))
      ∙ sym (lifted-diff 0x80 a 1 0 la (omega arith) 129 refl)

  -- a + 1 leaves the range exactly at 7F
  inc_out : eqb a 0x7F ≡ sum_out 0x80 a 1 0
  inc_out =
      let s = (a + 128) % 256 + 129 in
      passed s 128 384 s (eqb a 0x7F)
      (λ e. inr (omega (arith, eqb-true a 0x7F e)))
      (λ e. (omega arith, let n = eqb-false a 0x7F e in omega arith))
      ∙ sym (lifted-sum 0x80 a 1 0 la (omega arith) s (omega arith))

  -- 0 - a leaves the range exactly at 80
  neg-out : eqb a 0x80 ≡ diff_out 0x80 0 a 0
  neg-out =
      let y = (a + 128) % 256 in
      passed (128 + 128) y (128 + y) 128 (eqb a 0x80)
      (λ e. inr (omega (arith, eqb-true a 0x80 e)))
      (λ e. (omega arith, let n = eqb-false a 0x80 e in omega arith))
      ∙ sym (lifted-diff 0x80 0 a 0 (omega arith) la y (omega arith))

  -- a + a leaves the range exactly where bits 6 and 7 differ
  asl-out : exclusive_or (bit_at 6 a) (bit_at 7 a) ≡ sum_out 0x80 a a 0
  asl-out =
      let x = (a + 128) % 256 in
      let s = x + x in
      rw (← (next_bit a 0 (a * 2) (omega arith) (omega arith)), high_bit 7 a la)
      (go (leb 0x80 (a * 2 % 256)) (leb 0x80 a) refl refl ∙ sym (lifted-sum 0x80 a a 0 la la s (omega arith)))
    where
      go : (t u : Bool) → leb 0x80 (a * 2 % 256) ≡ t → leb 0x80 a ≡ u
          → exclusive_or t u ≡ (ltb ((a + 128) % 256 + (a + 128) % 256) 128 || leb 384 ((a + 128) % 256 + (a + 128) % 256))
      go true true e f = rw (le-ltb ((a + 128) % 256 + (a + 128) % 256) 128 (omega (arith, leb-true 0x80 (a * 2 % 256) e, leb-true 0x80 a f)), lt-leb 384 ((a + 128) % 256 + (a + 128) % 256) (omega (arith, leb-true 0x80 (a * 2 % 256) e, leb-true 0x80 a f)))
      go true false e f = rw (le-ltb ((a + 128) % 256 + (a + 128) % 256) 128 (omega (arith, leb-true 0x80 (a * 2 % 256) e, leb-false 0x80 a f)), le-leb 384 ((a + 128) % 256 + (a + 128) % 256) (omega (arith, leb-true 0x80 (a * 2 % 256) e, leb-false 0x80 a f)))
      go false true e f = rw (lt-ltb ((a + 128) % 256 + (a + 128) % 256) 128 (omega (arith, leb-false 0x80 (a * 2 % 256) e, leb-true 0x80 a f)))
      go false false e f = rw (le-ltb ((a + 128) % 256 + (a + 128) % 256) 128 (omega (arith, leb-false 0x80 (a * 2 % 256) e, leb-false 0x80 a f)), lt-leb 384 ((a + 128) % 256 + (a + 128) % 256) (omega (arith, leb-false 0x80 (a * 2 % 256) e, leb-false 0x80 a f)))

-- what the page's line says of V, and that it is the signed rule
pub dec-overflow : DecOverflow
dec-overflow cc a b la = reads «V» cc (negative_and_zero 0x80 ((a + 255) % 256)) [] (eqb a 0x80) refl ∙ dec-out a la

pub inc-overflow : IncOverflow
inc-overflow cc a b la = reads «V» cc (negative_and_zero 0x80 ((a + 1) % 256)) [] (eqb a 0x7F) refl ∙ inc_out a la

pub neg-overflow : NegOverflow
neg-overflow cc a b la = reads «V» cc (negative_and_zero 0x80 ((256 - a) % 256)) ((C := ltb 0 a) ∷ []) (eqb a 0x80) refl ∙ neg-out a la

pub asl-overflow : AslOverflow
asl-overflow cc a b la =
    reads «V» cc (negative_and_zero 0x80 (a * 2 % 256)) ((C := bit_at 7 a) ∷ []) (exclusive_or (bit_at 6 a) (bit_at 7 a)) refl ∙ asl-out a la

pub read-written : ReadWritten
read-written r A v = refl
read-written r B v = refl
read-written r D v = ap u16 (omega arith)
read-written r X v = refl
read-written r Y v = refl
read-written r U v = refl
read-written r SP v = refl
read-written r PC v = refl
read-written r DP v = refl
read-written r CC v = refl
