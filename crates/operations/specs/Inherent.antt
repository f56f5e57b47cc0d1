-- Operations on accumulators and X without an operand: DAA, SEX, MUL, ABX (manual, appendix A).
-- Assumes nothing.
use Rattle.std.specs.Prelude.{ℕ, ◌+◌, ◌/◌, ◌%◌, Bool, cond, ◌&&◌, ◌||◌, leb, List, [], ◌∷◌, nat_eq, nat_le, nat_lt}
use Rattle.u8oru16.specs.Negated.{sign_extended}
use Rattle.u8oru16.specs.Value.{value_of}
use Rattle.u8oru16.specs.declared.u8u16.TheVariants.{u8}
use Rattle.registers.specs.ConditionCodes.{flag}
use Rattle.registers.specs.Arithmetic.{MUL, Line, ◌:=◌, codes, manual}
use Rattle.registers.specs.RegisterSet.{with_word}
use Rattle.registers.specs.declared.CCBit.TheVariants.{C, Z, N, H}
use Rattle.registers.specs.declared.CCBits.{CCBits}
use Rattle.registers.specs.declared.Set.{Set}
use Rattle.registers.specs.declared.Word.TheVariants.{D, X}
use Rattle.opcodes.specs.declared.Acc.TheVariants.{A}
use Rattle.operations.specs.EightBit.{with_accumulator}
use Rattle.operations.specs.Codes.{with_codes}

-- DAA: the low digit is corrected by 6 if H is set or it is above 9; the high digit if C is set, or it is above 9, or it is above 8
-- and the low digit above 9. N and Z by the result; C set if a carry is generated or was set before; V undefined
abbrev pub correction : Bool → ℕ → ℕ
correction on n = cond on n 0

unfoldable pub corrected : CCBits → ℕ → ℕ
corrected cc a =
    let low = a % 16 in
    let high = a / 16 in
    a + correction (flag H cc || nat_lt 9 low) 6 + correction ((flag C cc || nat_lt 9 high) || (nat_lt 8 high && nat_lt 9 low)) 0x60

abbrev pub daa_flags : CCBits → ℕ → List Line
daa_flags cc a =
    let sum = corrected cc a in
    (N := leb 0x80 (sum % 256)) ∷ (Z := nat_eq (sum % 256) 0) ∷ (C := flag C cc || nat_le 256 sum) ∷ []

abbrev pub daa_of : Set → Set
daa_of r = with_accumulator A (record { cc = codes r.cc (daa_flags r.cc r.a); value = corrected r.cc r.a % 256 }) r

-- SEX: B with its sign, as D; N and Z by D; V not affected
abbrev pub sex_flags : ℕ → List Line
sex_flags d = (N := leb 0x8000 d) ∷ (Z := nat_eq d 0) ∷ []

abbrev pub sex_of : Set → Set
sex_of r =
    let d = value_of (sign_extended (u8 r.b)) in
    with_word (with_codes r (codes r.cc (sex_flags d))) D d

-- MUL: A times B, unsigned, as D; Z by D, C is bit 7 of B; N and V not affected
abbrev pub mul_of : Set → Set
mul_of r =
    let p = manual MUL r.cc r.a r.b in
    with_word (with_codes r (codes r.cc p.flags)) D p.value

-- ABX: B, unsigned, is added to X; no flag
abbrev pub abx_of : Set → Set
abx_of r = with_word r X ((r.x + r.b) % 65536)
