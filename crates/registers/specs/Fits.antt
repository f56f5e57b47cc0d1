-- Registers, values, condition codes and results that fit their widths.
-- Assumes nothing.
use Rattle.std.specs.Prelude.{ℕ, ◌<◌, List}
use Rattle.u8oru16.specs.declared.u8u16.{u8u16}
use Rattle.u8oru16.specs.declared.u8u16.TheVariants.{u8, u16}
use Rattle.registers.specs.Arithmetic.{Operation, ADD, ADC, ADDD, SUB, SBC, SUBD, DEC, INC, AND, AND16, OR, EOR, COM, NEG, ASL, LSR, ASR, ROL, ROR, MUL, Line, top, codes}
use Rattle.registers.specs.RegisterSet.{written}
use Rattle.registers.specs.Settings.{by}
use Rattle.registers.specs.declared.CCBits.{CCBits}
use Rattle.registers.specs.declared.Flags.{Flags}
use Rattle.registers.specs.declared.Name.{Name}
use Rattle.registers.specs.declared.Set.{Set}

pub record Fits (r : Set) : Type 0 where
  pub x : r.x < 65536
  pub y : r.y < 65536
  pub u : r.u < 65536
  pub s : r.s < 65536
  pub pc : r.pc < 65536
  pub a : r.a < 256
  pub b : r.b < 256
  pub dp : r.dp < 256
  pub cc : r.cc.reg < 256

abbrev pub InWidth : u8u16 → Type 0
InWidth (u8 b) = b < 256
InWidth (u16 w) = w < 65536

-- a value that fits, written to a register of a set that fits
abbrev pub WrittenFits : Type 0
WrittenFits = (r : Set) → Fits r → (n : Name) (v : u8u16) → InWidth v → Fits (written r n v)

-- the condition codes after any lines
abbrev pub CodesFit : Type 0
CodesFit = (cc : CCBits) (l : List Line) → cc.reg < 256 → (codes cc l).reg < 256

-- the product of two bytes is a word; every other result is as wide as its operands
abbrev pub result_top : Operation → ℕ
result_top ADD = 256
result_top ADC = 256
result_top ADDD = 65536
result_top SUB = 256
result_top SBC = 256
result_top SUBD = 65536
result_top DEC = 256
result_top INC = 256
result_top AND = 256
result_top AND16 = 65536
result_top OR = 256
result_top EOR = 256
result_top COM = 256
result_top NEG = 256
result_top ASL = 256
result_top LSR = 256
result_top ASR = 256
result_top ROL = 256
result_top ROR = 256
result_top MUL = 65536

abbrev pub ResultFits : Type 0
ResultFits = (s : Flags) (o : Operation) (cc : CCBits) (a b : ℕ) → a < top o → b < top o → (by s o cc a b).value < result_top o
