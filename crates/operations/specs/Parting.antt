-- Where the two flag settings part in an operation: in V alone, at the inputs that registers/specs/Settings.antt lists.
-- Assumes nothing.
use Rattle.std.specs.Prelude.{◌≡◌, ℕ, ◌<◌, ◌≢◌, ◌↔◌, List, Err, Ok, Result}
use Rattle.answers.specs.declared.Refusal.{Refusal}
use Rattle.registers.specs.ConditionCodes.{flag}
use Rattle.registers.specs.Arithmetic.{ADC, SBC, DEC, INC}
use Rattle.registers.specs.Settings.{Parts}
use Rattle.registers.specs.declared.CCBit.{CCBit}
use Rattle.registers.specs.declared.CCBit.TheVariants.{«V»}
use Rattle.registers.specs.declared.CCBits.{CCBits}
use Rattle.registers.specs.declared.Flags.TheVariants.{Bought, Manual}
use Rattle.registers.specs.declared.Set.{Set}
use Rattle.memory.specs.Map.{byte_at}
use Rattle.machine.specs.declared.Effect.{Effect}
use Rattle.opcodes.specs.declared.Acc.{Acc}
use Rattle.opcodes.specs.declared.Alu.{Alu as Binary}
use Rattle.opcodes.specs.declared.Alu.TheVariants.{Adc, Sbc}
use Rattle.opcodes.specs.declared.RegisterOp.{RegisterOp}
use Rattle.opcodes.specs.declared.RegisterOp.TheVariants.{Alu, OnAcc}
use Rattle.opcodes.specs.declared.Unary.{Unary}
use Rattle.opcodes.specs.declared.Unary.TheVariants.{Dec, Inc}
use Rattle.operations.specs.EightBit.{accumulator, on_memory}
use Rattle.operations.specs.Change.{changed_of}

-- the same registers but for V, which differs exactly in the case named
pub record PartInV (r q : Set) (Case : Type 0) : Type 0 where
  pub a : r.a ≡ q.a
  pub b : r.b ≡ q.b
  pub dp : r.dp ≡ q.dp
  pub x : r.x ≡ q.x
  pub y : r.y ≡ q.y
  pub u : r.u ≡ q.u
  pub s : r.s ≡ q.s
  pub pc : r.pc ≡ q.pc
  pub others : (g : CCBit) → g ≢ «V» → flag g r.cc ≡ flag g q.cc
  pub exactly : (flag «V» r.cc ≢ flag «V» q.cc) ↔ Case

-- two results of an operation on registers: both done, or both refused for one reason
pub data ChangedPart (Case : Type 0) : Result Set Refusal → Result Set Refusal → Type 0 where
  both-after : {r q : Set} → PartInV r q Case → ChangedPart Case (Ok r) (Ok q)
  both-refused : {x : Refusal} → (Case → ⊥) → ChangedPart Case (Err x) (Err x)

-- two effects that write the same bytes, answer and wait alike, and leave the same registers but for V
pub record EffectsPart (e f : Effect) (Case : Type 0) : Type 0 where
  pub writes : e.writes ≡ f.writes
  pub wait : e.wait ≡ f.wait
  pub answer : e.answer ≡ f.answer
  pub registers : PartInV e.regs f.regs Case

-- the operations that part, with the condition codes cc: of an accumulator a with a byte m, and of one byte m
pub data AluParts (cc : CCBits) (a m : ℕ) : Binary → Type 0 where
  adc : Parts cc a m ADC → AluParts cc a m Adc
  sbc : Parts cc a m SBC → AluParts cc a m Sbc

pub data UnaryParts (cc : CCBits) (m : ℕ) : Unary → Type 0 where
  dec : Parts cc m 0 DEC → UnaryParts cc m Dec
  inc : Parts cc m 0 INC → UnaryParts cc m Inc

-- with the registers r and the byte m at the effective address
pub data OpParts (r : Set) (m : ℕ) : RegisterOp → Type 0 where
  with-operand : {op : Binary} {acc : Acc} → AluParts r.cc (accumulator acc r) m op → OpParts r m (Alu op acc)
  on-accumulator : {op : Unary} {acc : Acc} → UnaryParts r.cc (accumulator acc r) op → OpParts r m (OnAcc op acc)

-- the laws: as bought on the left, by the manual on the right
abbrev pub ChangesPart : Type 0
ChangesPart =
    (op : RegisterOp) (mem : List ℕ) (r : Set) (ea : ℕ) → r.a < 256 → r.b < 256 → byte_at mem ea < 256
    → ChangedPart (OpParts r (byte_at mem ea) op) (changed_of op Bought mem r ea) (changed_of op Manual mem r ea)

abbrev pub OnMemoryParts : Type 0
OnMemoryParts =
    (op : Unary) (mem : List ℕ) (r : Set) (ea : ℕ) → byte_at mem ea < 256
    → EffectsPart (on_memory op Bought mem r ea) (on_memory op Manual mem r ea) (UnaryParts r.cc (byte_at mem ea) op)
