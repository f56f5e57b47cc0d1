-- Results, condition codes and registers fit their widths.
-- Assumes nothing.
use Rattle.std.proofs.Common.{ℕ, ◌+◌, ◌-◌, ◌*◌, ◌/◌, ◌<◌, Bool, true, false, [], ◌∷◌, mod-lt, arith, lit<}
use lib.Bits.{and_lt, or_lt, xor_lt}
use Rattle.u8oru16.specs.declared.u8u16.TheVariants.{u8, u16}
use Rattle.registers.specs.ConditionCodes.{with_bit, digit, put, flag}
use Rattle.registers.specs.Fits.{Fits, InWidth, CodesFit, result_top, ResultFits, WrittenFits}
use Rattle.registers.specs.Arithmetic.{manual, Operation, ADD, ADC, ADDD, SUB, SBC, SUBD, DEC, INC, AND, AND16, OR, EOR, COM, NEG, ASL, LSR, ASR, ROL, ROR, MUL, ◌:=◌, top, codes, carry}
use Rattle.registers.specs.RegisterSet.{read}
use Rattle.registers.specs.declared.CCBit.{CCBit}
use Rattle.registers.specs.declared.CCBit.TheVariants.{C, «V», Z, N, I, H, F, E}
use Rattle.registers.specs.declared.CCBits.{CCBits}
use Rattle.registers.specs.declared.Flags.TheVariants.{Bought, Manual}
use Rattle.registers.specs.declared.Name.{Name}
use Rattle.registers.specs.declared.Name.TheVariants.{A, B, D, X, Y, U, S as SP, PC, DP, CC}
use Rattle.registers.specs.declared.Set.{Set}
use Rattle.registers.proofs.Bits.{product}
use Rattle.registers.proofs.Parting.{settings-part}

-- ---- condition codes

pub put-fits : (f : CCBit) (v : Bool) (cc : CCBits) → cc.reg < 256 → (put f v cc).reg < 256
unfolding with_bit
put-fits C true cc h = omega arith
put-fits C false cc h = omega arith
put-fits «V» true cc h = omega arith
put-fits «V» false cc h = omega arith
put-fits Z true cc h = omega arith
put-fits Z false cc h = omega arith
put-fits N true cc h = omega arith
put-fits N false cc h = omega arith
put-fits I true cc h = omega arith
put-fits I false cc h = omega arith
put-fits H true cc h = omega arith
put-fits H false cc h = omega arith
put-fits F true cc h = omega arith
put-fits F false cc h = omega arith
put-fits E true cc h = omega arith
put-fits E false cc h = omega arith

pub codes-fit : CodesFit
codes-fit cc [] h = h
codes-fit cc ((f := v) ∷ l) h = put-fits f v (codes cc l) (codes-fit cc l h)

-- ---- results

rotated : (v : Bool) (a : ℕ) → a < 256 → digit v * 128 + a / 2 < 256
rotated true a h = omega arith
rotated false a h = omega arith

manual-fits : (o : Operation) (cc : CCBits) (a b : ℕ) → a < top o → b < top o → (manual o cc a b).value < result_top o
manual-fits ADD cc a b la lb = mod-lt (a + b + 0) (lit< tt)
manual-fits ADC cc a b la lb = mod-lt (a + b + carry cc) (lit< tt)
manual-fits ADDD cc a b la lb = mod-lt (a + b + 0) (lit< tt)
manual-fits SUB cc a b la lb = mod-lt (a + 256 - (b + 0)) (lit< tt)
manual-fits SBC cc a b la lb = mod-lt (a + 256 - (b + carry cc)) (lit< tt)
manual-fits SUBD cc a b la lb = mod-lt (a + 65536 - (b + 0)) (lit< tt)
manual-fits DEC cc a b la lb = mod-lt (a + 255) (lit< tt)
manual-fits INC cc a b la lb = mod-lt (a + 1) (lit< tt)
manual-fits AND cc a b la lb = and_lt 8 a b la lb
manual-fits AND16 cc a b la lb = and_lt 16 a b la lb
manual-fits OR cc a b la lb = or_lt 8 a b la lb
manual-fits EOR cc a b la lb = xor_lt 8 a b la lb
manual-fits COM cc a b la lb = omega arith
manual-fits NEG cc a b la lb = mod-lt (256 - a) (lit< tt)
manual-fits ASL cc a b la lb = mod-lt (a * 2) (lit< tt)
manual-fits LSR cc a b la lb = omega arith
manual-fits ASR cc a b la lb = omega arith
manual-fits ROL cc a b la lb = mod-lt (a * 2 + carry cc) (lit< tt)
manual-fits ROR cc a b la lb = rotated (flag C cc) a la
manual-fits MUL cc a b la lb = product a b la lb

pub result_fits : ResultFits
result_fits Manual o cc a b la lb = manual-fits o cc a b la lb
result_fits Bought o cc a b la lb = rw (settings-part o cc a b la lb).value (manual-fits o cc a b la lb)

-- ---- registers by name

pub read_fits : (r : Set) → Fits r → (n : Name) → InWidth (read r n)
read_fits r f A = f.a
read_fits r f B = f.b
read_fits r f D = let h = f.a in let k = f.b in omega arith
read_fits r f X = f.x
read_fits r f Y = f.y
read_fits r f U = f.u
read_fits r f SP = f.s
read_fits r f PC = f.pc
read_fits r f DP = f.dp
read_fits r f CC = f.cc

pub written-fits : WrittenFits
written-fits r f A (u8 b) h = record { x = f.x; y = f.y; u = f.u; s = f.s; pc = f.pc; a = h; b = f.b; dp = f.dp; cc = f.cc }
written-fits r f A (u16 w) h = record { x = f.x; y = f.y; u = f.u; s = f.s; pc = f.pc; a = mod-lt w (lit< tt); b = f.b; dp = f.dp; cc = f.cc }
written-fits r f B (u8 b) h = record { x = f.x; y = f.y; u = f.u; s = f.s; pc = f.pc; a = f.a; b = h; dp = f.dp; cc = f.cc }
written-fits r f B (u16 w) h = record { x = f.x; y = f.y; u = f.u; s = f.s; pc = f.pc; a = f.a; b = mod-lt w (lit< tt); dp = f.dp; cc = f.cc }
written-fits r f D (u8 b) h = record { x = f.x; y = f.y; u = f.u; s = f.s; pc = f.pc; a = omega arith; b = omega arith; dp = f.dp; cc = f.cc }
written-fits r f D (u16 w) h = record { x = f.x; y = f.y; u = f.u; s = f.s; pc = f.pc; a = omega arith; b = omega arith; dp = f.dp; cc = f.cc }
written-fits r f X (u8 b) h = record { x = omega arith; y = f.y; u = f.u; s = f.s; pc = f.pc; a = f.a; b = f.b; dp = f.dp; cc = f.cc }
written-fits r f X (u16 w) h = record { x = h; y = f.y; u = f.u; s = f.s; pc = f.pc; a = f.a; b = f.b; dp = f.dp; cc = f.cc }
written-fits r f Y (u8 b) h = record { x = f.x; y = omega arith; u = f.u; s = f.s; pc = f.pc; a = f.a; b = f.b; dp = f.dp; cc = f.cc }
written-fits r f Y (u16 w) h = record { x = f.x; y = h; u = f.u; s = f.s; pc = f.pc; a = f.a; b = f.b; dp = f.dp; cc = f.cc }
written-fits r f U (u8 b) h = record { x = f.x; y = f.y; u = omega arith; s = f.s; pc = f.pc; a = f.a; b = f.b; dp = f.dp; cc = f.cc }
written-fits r f U (u16 w) h = record { x = f.x; y = f.y; u = h; s = f.s; pc = f.pc; a = f.a; b = f.b; dp = f.dp; cc = f.cc }
written-fits r f SP (u8 b) h = record { x = f.x; y = f.y; u = f.u; s = omega arith; pc = f.pc; a = f.a; b = f.b; dp = f.dp; cc = f.cc }
written-fits r f SP (u16 w) h = record { x = f.x; y = f.y; u = f.u; s = h; pc = f.pc; a = f.a; b = f.b; dp = f.dp; cc = f.cc }
written-fits r f PC (u8 b) h = record { x = f.x; y = f.y; u = f.u; s = f.s; pc = omega arith; a = f.a; b = f.b; dp = f.dp; cc = f.cc }
written-fits r f PC (u16 w) h = record { x = f.x; y = f.y; u = f.u; s = f.s; pc = h; a = f.a; b = f.b; dp = f.dp; cc = f.cc }
written-fits r f DP (u8 b) h = record { x = f.x; y = f.y; u = f.u; s = f.s; pc = f.pc; a = f.a; b = f.b; dp = h; cc = f.cc }
written-fits r f DP (u16 w) h = record { x = f.x; y = f.y; u = f.u; s = f.s; pc = f.pc; a = f.a; b = f.b; dp = mod-lt w (lit< tt); cc = f.cc }
written-fits r f CC (u8 b) h = record { x = f.x; y = f.y; u = f.u; s = f.s; pc = f.pc; a = f.a; b = f.b; dp = f.dp; cc = h }
written-fits r f CC (u16 w) h = record { x = f.x; y = f.y; u = f.u; s = f.s; pc = f.pc; a = f.a; b = f.b; dp = f.dp; cc = mod-lt w (lit< tt) }
