-- 8-bit operations: an accumulator with a byte, one byte alone, TST, and the stores of bytes. A clause for each page of the manual.
-- Assumes nothing.
use Rattle.std.specs.Prelude.{ℕ, true, false, List, [], ◌∷◌}
use Rattle.registers.specs.Arithmetic.{ADD, ADC, SUB, SBC, DEC, INC, AND, OR, EOR, COM, NEG, ASL, LSR, ASR, ROL, ROR, ◌:=◌, of_page, codes, logical, manual}
use Rattle.registers.specs.Settings.{by}
use Rattle.registers.specs.declared.CCBit.TheVariants.{C, «V», Z, N}
use Rattle.registers.specs.declared.CCBits.{CCBits}
use Rattle.registers.specs.declared.Flags.{Flags}
use Rattle.registers.specs.declared.Set.{Set}
use Rattle.memory.specs.Map.{byte_at}
use Rattle.memory.specs.Writes.{writes_of, added}
use Rattle.memory.specs.declared.writes.Writes.{Writes}
use Rattle.opcodes.specs.declared.Acc.{Acc}
use Rattle.opcodes.specs.declared.Acc.TheVariants.{A, B}
use Rattle.opcodes.specs.declared.Alu.{Alu}
use Rattle.opcodes.specs.declared.Alu.TheVariants.{Add, Adc, Sub, Sbc, Cmp, And, Bit, Or, Eor, Ld}
use Rattle.opcodes.specs.declared.Unary.{Unary}
use Rattle.opcodes.specs.declared.Unary.TheVariants.{Neg, Com, Lsr, Ror, Asr, Asl, Rol, Dec, Inc, Clr}
use Rattle.machine.specs.Effect.{stores}
use Rattle.machine.specs.declared.Effect.{Effect}
use Rattle.operations.specs.Codes.{with_codes}
use Rattle.registers.specs.declared.Out.{Out}

abbrev pub accumulator : Acc → Set → ℕ
accumulator A r = r.a
accumulator B r = r.b

-- the accumulator and the condition codes after an operation
abbrev pub with_accumulator : Acc → Out ℕ → Set → Set
with_accumulator A out r = record { x = r.x; y = r.y; u = r.u; s = r.s; pc = r.pc; a = out.value; b = r.b; dp = r.dp; cc = out.cc }
with_accumulator B out r = record { x = r.x; y = r.y; u = r.u; s = r.s; pc = r.pc; a = r.a; b = out.value; dp = r.dp; cc = out.cc }

-- the accumulator a and the byte m: the accumulator and the condition codes after it
abbrev pub alu_of : Alu → Flags → CCBits → ℕ → ℕ → Out ℕ
alu_of Add s cc a m = of_page cc (by s ADD cc a m)
alu_of Adc s cc a m = of_page cc (by s ADC cc a m)
alu_of Sub s cc a m = of_page cc (by s SUB cc a m)
alu_of Sbc s cc a m = of_page cc (by s SBC cc a m)
-- CMP: SUB whose result is not kept
alu_of Cmp s cc a m = record { cc = codes cc (manual SUB cc a m).flags; value = a }
alu_of And s cc a m = of_page cc (manual AND cc a m)
-- BIT: AND whose result is not kept
alu_of Bit s cc a m = record { cc = codes cc (manual AND cc a m).flags; value = a }
alu_of Or s cc a m = of_page cc (manual OR cc a m)
alu_of Eor s cc a m = of_page cc (manual EOR cc a m)
-- LD: N and Z by the byte, V always cleared
alu_of Ld s cc a m = of_page cc (logical 0x80 m)

-- one byte m: what it becomes, and the condition codes
abbrev pub unary_of : Unary → Flags → CCBits → ℕ → Out ℕ
unary_of Neg s cc m = of_page cc (manual NEG cc m 0)
unary_of Com s cc m = of_page cc (manual COM cc m 0)
unary_of Lsr s cc m = of_page cc (manual LSR cc m 0)
unary_of Ror s cc m = of_page cc (manual ROR cc m 0)
unary_of Asr s cc m = of_page cc (manual ASR cc m 0)
unary_of Asl s cc m = of_page cc (manual ASL cc m 0)
unary_of Rol s cc m = of_page cc (manual ROL cc m 0)
unary_of Dec s cc m = of_page cc (by s DEC cc m 0)
unary_of Inc s cc m = of_page cc (by s INC cc m 0)
-- CLR: N, V, C always cleared, Z always set
unary_of Clr s cc m = record { cc = codes cc ((N := false) ∷ (Z := true) ∷ («V» := false) ∷ (C := false) ∷ []); value = 0 }

-- on an accumulator
abbrev pub on_operand : Alu → Acc → Flags → Set → ℕ → Set
on_operand op acc s r m = with_accumulator acc (alu_of op s r.cc (accumulator acc r) m) r

abbrev pub on_accumulator : Unary → Acc → Flags → Set → Set
on_accumulator op acc s r = with_accumulator acc (unary_of op s r.cc (accumulator acc r)) r

-- TST: N and Z by the byte, V always cleared; C not affected
abbrev pub tested : Set → ℕ → Set
tested r m = with_codes r (codes r.cc (logical 0x80 m).flags)

-- one byte written by the program
abbrev pub one_write : ℕ → ℕ → Writes
one_write at b = added (writes_of []) (record { at = at; byte = b; system = false })

-- on the byte at ea, which is written back
unfoldable pub on_memory : Unary → Flags → List ℕ → Set → ℕ → Effect
on_memory op s mem r ea =
    let out = unary_of op s r.cc (byte_at mem ea) in
    stores (with_codes r out.cc) (one_write ea out.value)

-- ST (8-Bit): N and Z by the accumulator, V always cleared
abbrev pub store8 : Set → Acc → ℕ → Effect
store8 r acc ea = stores (tested r (accumulator acc r)) (one_write ea (accumulator acc r))
