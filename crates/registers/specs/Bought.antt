-- The arithmetic as the bought Rust computes it (registers.rs), a clause for each function: partial sums, masks and shifts.
-- The flags stand in the order of the manual's pages; the Rust sets them one by one. Assumes nothing.
use Rattle.std.specs.Prelude.{ℕ, ◌+◌, ◌-◌, ◌*◌, ◌/◌, ◌%◌, true, false, cond, not, ◌||◌, ltb, leb, [], ◌∷◌, ◌==◌, bit_and, bit_or, bit_xor, nat_eq, nat_le, nat_lt}
use Rattle.u8oru16.specs.Signed.{sum_out, diff_out}
use Rattle.registers.specs.ConditionCodes.{exclusive_or, bit_at, flag}
use Rattle.registers.specs.Arithmetic.{Operation, ADD, ADC, ADDD, SUB, SBC, SUBD, DEC, INC, AND, AND16, OR, EOR, COM, NEG, ASL, LSR, ASR, ROL, ROR, MUL, ◌:=◌, Page, carry}
use Rattle.registers.specs.declared.CCBit.TheVariants.{C, «V», Z, N, H}
use Rattle.registers.specs.declared.CCBits.{CCBits}

-- add_u8: a1 is a and the carry, then b is added; C and V where either sum wraps or leaves the signed range
abbrev pub add-u8 : ℕ → ℕ → ℕ → Page
add-u8 a b c =
    let a1 = (a + c) % 256 in
    let r = (a1 + b) % 256 in
    record {
      value = r;
      flags =
          (H := bit_at 4 (a % 16 + b % 16 + c))
          ∷ (N := bit_at 7 r)
          ∷ (Z := nat_eq r 0)
          ∷ («V» := sum_out 0x80 a c 0 || sum_out 0x80 a1 b 0)
          ∷ (C := leb 256 (a + c) || nat_le 256 (a1 + b))
          ∷ [];
    }

-- sub_u8: a1 is a less the borrow, then b is subtracted
abbrev pub sub-u8 : ℕ → ℕ → ℕ → Page
sub-u8 a b c =
    let a1 = (a + 256 - c) % 256 in
    let r = (a1 + 256 - b) % 256 in
    record {
      value = r;
      flags =
          (N := bit_at 7 r)
          ∷ (Z := nat_eq r 0)
          ∷ («V» := diff_out 0x80 a c 0 || diff_out 0x80 a1 b 0)
          ∷ (C := ltb a c || nat_lt a1 b)
          ∷ [];
    }

-- and_u8, and_u16, or_u8, xor_u8: k is the place of the sign
abbrev logic : ℕ → ℕ → Page
logic k r = record { value = r; flags = (N := bit_at k r) ∷ (Z := nat_eq r 0) ∷ («V» := false) ∷ [] }

-- shl_u8, rol_u8: V is the new sign exclusive-or the old one
abbrev left : ℕ → ℕ → Page
left a r =
    record { value = r; flags = (N := bit_at 7 r) ∷ (Z := nat_eq r 0) ∷ («V» := exclusive_or (bit_at 7 r) (bit_at 7 a)) ∷ (C := bit_at 7 a) ∷ [] }

-- shr_u8, ror_u8
abbrev right : ℕ → ℕ → Page
right a r = record { value = r; flags = (N := bit_at 7 r) ∷ (Z := nat_eq r 0) ∷ (C := bit_at 0 a) ∷ [] }

abbrev pub bought : Operation → CCBits → ℕ → ℕ → Page
bought ADD cc a b = add-u8 a b 0
bought ADC cc a b = add-u8 a b (carry cc)
bought ADDD cc a b =
    let r = (a + b) % 65536 in
    record { value = r; flags = (N := bit_at 15 r) ∷ (Z := nat_eq r 0) ∷ («V» := sum_out 0x8000 a b 0) ∷ (C := leb 65536 (a + b)) ∷ [] }
bought SUB cc a b = sub-u8 a b 0
bought SBC cc a b = sub-u8 a b (carry cc)
bought SUBD cc a b =
    let r = (a + 65536 - b) % 65536 in
    record { value = r; flags = (N := bit_at 15 r) ∷ (Z := nat_eq r 0) ∷ («V» := diff_out 0x8000 a b 0) ∷ (C := ltb a b) ∷ [] }
-- V is the borrow of a - 1, and the carry of a + 1: the unsigned rule
bought DEC cc a b =
    let r = (a + 256 - 1) % 256 in
    record { value = r; flags = (N := bit_at 7 r) ∷ (Z := nat_eq r 0) ∷ («V» := ltb a 1) ∷ [] }
bought INC cc a b =
    let r = (a + 1) % 256 in
    record { value = r; flags = (N := bit_at 7 r) ∷ (Z := nat_eq r 0) ∷ («V» := leb 256 (a + 1)) ∷ [] }
bought AND cc a b = logic 7 (bit_and a b)
bought AND16 cc a b = logic 15 (bit_and a b)
bought OR cc a b = logic 7 (bit_or a b)
bought EOR cc a b = logic 7 (bit_xor a b)
bought COM cc a b =
    let r = 255 - a in
    record { value = r; flags = (N := bit_at 7 r) ∷ (Z := nat_eq r 0) ∷ («V» := false) ∷ (C := true) ∷ [] }
bought NEG cc a b =
    let r = (256 - a) % 256 in
    record { value = r; flags = (N := bit_at 7 r) ∷ (Z := nat_eq r 0) ∷ («V» := nat_eq a 0x80) ∷ (C := not (a == 0)) ∷ [] }
bought ASL cc a b = left a ((a * 2) % 256)
bought LSR cc a b = right a (a / 2)
bought ASR cc a b = right a (bit_or (a / 2) (bit_and a 0x80))
bought ROL cc a b = left a (cond (flag C cc) (bit_or ((a * 2) % 256) 1) ((a * 2) % 256))
bought ROR cc a b = right a (cond (flag C cc) (bit_or (a / 2) 0x80) (a / 2))
bought MUL cc a b = record { value = a * b; flags = (Z := nat_eq (a * b) 0) ∷ (C := bit_at 7 (a * b)) ∷ [] }
