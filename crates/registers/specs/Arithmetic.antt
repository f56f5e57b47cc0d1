-- The arithmetic by the manual, a clause for each of its pages: operands a and b, the flags in the page's order H N Z V C.
-- A page gives the result, and a line for each flag that it sets or clears. What the manual calls undefined or not affected has no line
-- and stays. Sums and differences are whole numbers. Assumes nothing.
use Rattle.std.specs.Prelude.{ℕ, ◌+◌, ◌-◌, ◌*◌, ◌/◌, ◌%◌, Bool, true, false, ◌&&◌, List, [], ◌∷◌, ◌++◌, bit_and, bit_or, bit_xor, nat_eq, nat_le, nat_lt}
use Rattle.u8oru16.specs.Signed.{sum_out, diff_out}
use Rattle.registers.specs.ConditionCodes.{digit, exclusive_or, bit_at, put, flag}
use Rattle.registers.specs.declared.CCBit.{CCBit}
use Rattle.registers.specs.declared.CCBit.TheVariants.{C, «V», Z, N, H}
use Rattle.registers.specs.declared.CCBits.{CCBits}
use Rattle.registers.specs.declared.Out.{Out}

-- the operations of this crate, by the manual's mnemonics; AND16 is AND on words, which the manual does not have
pub data Operation : Type 0 where
  ADD ADC ADDD SUB SBC SUBD DEC INC AND AND16 OR EOR COM NEG ASL LSR ASR ROL ROR MUL : Operation

-- operands and results are below 256, or below 65,536
abbrev pub top : Operation → ℕ
top ADD = 256
top ADC = 256
top ADDD = 65536
top SUB = 256
top SBC = 256
top SUBD = 65536
top DEC = 256
top INC = 256
top AND = 256
top AND16 = 65536
top OR = 256
top EOR = 256
top COM = 256
top NEG = 256
top ASL = 256
top LSR = 256
top ASR = 256
top ROL = 256
top ROR = 256
top MUL = 256

-- a flag and its new state
infix 4 ◌:=◌
pub data Line : Type 0 where
  ◌:=◌ : CCBit → Bool → Line

pub record Page : Type 0 where
  pub value : ℕ
  pub flags : List Line

-- the register after a page's lines
abbrev pub codes : CCBits → List Line → CCBits
codes cc [] = cc
codes cc ((f := v) ∷ rest) = put f v (codes cc rest)

-- the result and the register, of a byte and of a word
abbrev pub of_page : CCBits → Page → Out ℕ
of_page cc p = record { cc = codes cc p.flags; value = p.value }

-- N: set if the result is negative. Z: set if the result is zero. h is 80 for a byte, 8000 for a word
abbrev pub negative_and_zero : ℕ → ℕ → List Line
negative_and_zero h r = (N := nat_le h r) ∷ (Z := nat_eq r 0) ∷ []

-- the carry, or the borrow, as a number, and where it counts only if asked for
abbrev pub carry : CCBits → ℕ
carry cc = digit (flag C cc)

abbrev pub carry_in : Bool → CCBits → ℕ
carry_in asked cc = digit (asked && flag C cc)

-- which operation a parameter of the code chooses: with the carry, with the borrow, keeping the sign
abbrev pub adding : Bool → Operation
adding true = ADC
adding false = ADD

abbrev pub subtracting : Bool → Operation
subtracting true = SBC
subtracting false = SUB

abbrev pub shifting : Bool → Operation
shifting true = ASR
shifting false = LSR

-- ---- the pages

-- a + b + c: N and Z by the result, V set if an overflow, C set if a carry is generated
abbrev sum : ℕ → ℕ → ℕ → ℕ → Page
sum h a b c =
    let r = (a + b + c) % (h + h) in
    record { value = r; flags = negative_and_zero h r ++ ((«V» := sum_out h a b c) ∷ (C := nat_le (h + h) (a + b + c)) ∷ []) }

-- the same of bytes, H set if a half-carry is generated
abbrev sum8 : ℕ → ℕ → ℕ → Page
sum8 a b c = let p = sum 0x80 a b c in record { value = p.value; flags = (H := nat_le 16 (a % 16 + b % 16 + c)) ∷ p.flags }

-- a - b - c: N and Z by the result, V set if an overflow, C set if a borrow is generated
abbrev difference : ℕ → ℕ → ℕ → ℕ → Page
difference h a b c =
    let r = (a + (h + h) - (b + c)) % (h + h) in
    record { value = r; flags = negative_and_zero h r ++ ((«V» := diff_out h a b c) ∷ (C := nat_lt a (b + c)) ∷ []) }

-- N and Z by the result, V always cleared
abbrev pub logical : ℕ → ℕ → Page
logical h r = record { value = r; flags = negative_and_zero h r ++ ((«V» := false) ∷ []) }

abbrev pub manual : Operation → CCBits → ℕ → ℕ → Page
-- ADD (8-Bit)
manual ADD cc a b = sum8 a b 0
-- ADC
manual ADC cc a b = sum8 a b (carry cc)
-- ADD (16-Bit): H not affected
manual ADDD cc a b = sum 0x8000 a b 0
-- SUB (8-Bit), CMP (8-Bit): H undefined
manual SUB cc a b = difference 0x80 a b 0
-- SBC: H undefined
manual SBC cc a b = difference 0x80 a b (carry cc)
-- SUB (16-Bit), CMP (16-Bit)
manual SUBD cc a b = difference 0x8000 a b 0
-- DEC: V set if the original operand was 80; C not affected
manual DEC cc a b =
    let r = (a + 255) % 256 in
    record { value = r; flags = negative_and_zero 0x80 r ++ ((«V» := nat_eq a 0x80) ∷ []) }
-- INC: V set if the original operand was 7F; C not affected
manual INC cc a b =
    let r = (a + 1) % 256 in
    record { value = r; flags = negative_and_zero 0x80 r ++ ((«V» := nat_eq a 0x7F) ∷ []) }
-- AND: C not affected
manual AND cc a b = logical 0x80 (bit_and a b)
manual AND16 cc a b = logical 0x8000 (bit_and a b)
-- OR
manual OR cc a b = logical 0x80 (bit_or a b)
-- EOR
manual EOR cc a b = logical 0x80 (bit_xor a b)
-- COM: V always cleared, C always set
manual COM cc a b =
    let r = 255 - a in
    record { value = r; flags = negative_and_zero 0x80 r ++ ((«V» := false) ∷ (C := true) ∷ []) }
-- NEG: V set if the original operand was 80, C set if a borrow is generated; H undefined
manual NEG cc a b =
    let r = (256 - a) % 256 in
    record { value = r; flags = negative_and_zero 0x80 r ++ ((«V» := nat_eq a 0x80) ∷ (C := nat_lt 0 a) ∷ []) }
-- ASL, LSL: V is bit 6 exclusive-or bit 7 of the original operand, C is its bit 7; H undefined
manual ASL cc a b =
    let r = (a * 2) % 256 in
    record { value = r; flags = negative_and_zero 0x80 r ++ ((«V» := exclusive_or (bit_at 6 a) (bit_at 7 a)) ∷ (C := bit_at 7 a) ∷ []) }
-- LSR: N always cleared, C is bit 0 of the original operand; V not affected
manual LSR cc a b =
    let r = a / 2 in
    record { value = r; flags = (N := false) ∷ (Z := nat_eq r 0) ∷ (C := bit_at 0 a) ∷ [] }
-- ASR: bit 7 is held constant, C is bit 0 of the original operand; H undefined, V not affected
manual ASR cc a b =
    let r = a / 128 * 128 + a / 2 in
    record { value = r; flags = negative_and_zero 0x80 r ++ ((C := bit_at 0 a) ∷ []) }
-- ROL: V is bit 6 exclusive-or bit 7 of the original operand, C is its bit 7
manual ROL cc a b =
    let r = (a * 2 + carry cc) % 256 in
    record { value = r; flags = negative_and_zero 0x80 r ++ ((«V» := exclusive_or (bit_at 6 a) (bit_at 7 a)) ∷ (C := bit_at 7 a) ∷ []) }
-- ROR: C is bit 0 of the previous operand; V not affected
manual ROR cc a b =
    let r = carry cc * 128 + a / 2 in
    record { value = r; flags = negative_and_zero 0x80 r ++ ((C := bit_at 0 a) ∷ []) }
-- MUL: C set if bit 7 of the result is set, for rounding; N and V not affected
manual MUL cc a b = record { value = a * b; flags = (Z := nat_eq (a * b) 0) ∷ (C := bit_at 7 (a * b)) ∷ [] }
