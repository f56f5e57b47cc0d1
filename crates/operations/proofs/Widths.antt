-- Registers that fit their widths fit them after every operation that changes registers alone.
-- Assumes nothing.
use Rattle.std.proofs.Common.{ℕ, ◌+◌, ◌/◌, ◌%◌, ◌<◌, Bool, true, false, cond, eqb, ltb, List, [], ◌∷◌, mod-lt, arith, lit<, Err, Ok}
use lib.Bits.{and_lt, or_lt}
use Rattle.answers.specs.declared.Refusal.{Refusal}
use Rattle.answers.specs.declared.Refusal.TheVariants.{TransferCode}
use Rattle.u8oru16.specs.Negated.{sign_extended}
use Rattle.u8oru16.specs.Value.{value_of}
use Rattle.u8oru16.specs.declared.u8u16.{u8u16}
use Rattle.u8oru16.specs.declared.u8u16.TheVariants.{u8, u16}
use Rattle.registers.specs.Fits.{Fits, InWidth}
use Rattle.registers.specs.Arithmetic.{manual, logical, Operation, ADD, ADC, ADDD, SUB, SBC, SUBD, DEC, INC, AND, OR, EOR, COM, NEG, ASL, LSR, ASR, ROL, ROR, MUL, Line, ◌:=◌, Page, of_page, codes}
use Rattle.registers.specs.Names.{word_name}
use Rattle.registers.specs.RegisterSet.{read, word_of, with_word}
use Rattle.registers.specs.Settings.{by}
use Rattle.registers.specs.declared.CCBit.TheVariants.{C, «V», Z, N}
use Rattle.registers.specs.declared.CCBits.{CCBits}
use Rattle.registers.specs.declared.Flags.{Flags}
use Rattle.registers.specs.declared.Flags.TheVariants.{Manual}
use Rattle.registers.specs.declared.Index.{Index}
use Rattle.registers.specs.declared.Index.TheVariants.{X as LEAX, Y as LEAY, U as LEAU, S as LEAS}
use Rattle.registers.specs.declared.Name.TheVariants.{PC}
use Rattle.registers.specs.declared.Set.{Set}
use Rattle.registers.specs.declared.Word.{Word}
use Rattle.registers.specs.declared.Word.TheVariants.{D, X, Y, U, S}
use Rattle.registers.proofs.Fits.{put-fits, codes-fit, result_fits, read_fits, written-fits}
use Rattle.memory.specs.Map.{byte_at, word_at}
use Rattle.memory.proofs.Fits.{byte_fits, word_fits}
use Rattle.opcodes.specs.declared.Acc.{Acc}
use Rattle.opcodes.specs.declared.Acc.TheVariants.{A, B}
use Rattle.opcodes.specs.declared.Alu.{Alu as Binary}
use Rattle.opcodes.specs.declared.Alu.TheVariants.{Add, Adc, Sub, Sbc, Cmp, And, Bit, Or, Eor, Ld}
use Rattle.opcodes.specs.declared.RegisterOp.TheVariants.{Alu, OnAcc, TestAcc, TestMemory, Addd, Subd, Load16, Cmp16, Lea, Branch, Jmp, Nop, Daa, Sex, Mul, Abx, Andcc, Orcc, Exg, Tfr}
use Rattle.opcodes.specs.declared.Unary.{Unary}
use Rattle.opcodes.specs.declared.Unary.TheVariants.{Neg, Com, Lsr, Ror, Asr, Asl, Rol, Dec, Inc, Clr}
use Rattle.operations.specs.Branches.{condition, jumped}
use Rattle.operations.specs.EightBit.{accumulator, with_accumulator, alu_of, unary_of}
use Rattle.operations.specs.Codes.{with_codes, and_codes, or_codes}
use Rattle.operations.specs.Inherent.{corrected, daa_flags, sex_flags}
use Rattle.operations.specs.Sound.{Given, ChangedFits, ChangesFit}
use Rattle.operations.specs.Transfers.{transferable, transfer_name, transfer, exchange}
use Rattle.operations.specs.Words.{load16, compare16, add_d, subtract_d, load_address, with_zero}
use Rattle.registers.specs.declared.Out.{Out}

value_in : (v : u8u16) → InWidth v → value_of v < 65536
value_in (u8 b) h = omega arith
value_in (u16 w) h = h

module _ (r : Set) (f : Fits r) where
  pub word_in : (w : Word) → word_of r w < 65536
  word_in w = value_in (read r (word_name w)) (read_fits r f (word_name w))

  pub word-written : (w : Word) (n : ℕ) → n < 65536 → Fits (with_word r w n)
  word-written w n h = written-fits r f (word_name w) (u16 n) h

  pub jumped-fits : (ea : ℕ) → ea < 65536 → Fits (jumped r ea)
  jumped-fits ea h = written-fits r f PC (u16 ea) h

  pub acc-fits : (acc : Acc) → accumulator acc r < 256
  acc-fits A = f.a
  acc-fits B = f.b

  pub codes-fits : (cc : CCBits) → cc.reg < 256 → Fits (with_codes r cc)
  codes-fits cc h = record { x = f.x; y = f.y; u = f.u; s = f.s; pc = f.pc; a = f.a; b = f.b; dp = f.dp; cc = h }

  -- the condition codes of a page of the manual
  pub page-fits : (l : List Line) → Fits (with_codes r (codes r.cc l))
  page-fits l = codes-fits (codes r.cc l) (codes-fit r.cc l f.cc)

  pub and-fits : (m : ℕ) → m < 256 → Fits (and_codes r m)
  and-fits m h = codes-fits _ (and_lt 8 r.cc.reg m f.cc h)

  pub or-fits : (m : ℕ) → m < 256 → Fits (or_codes r m)
  or-fits m h = codes-fits _ (or_lt 8 r.cc.reg m f.cc h)

-- ---- results of bytes

pub record OutFits (o : Out ℕ) : Type 0 where
  pub value : o.value < 256
  pub codes : o.cc.reg < 256

module _ (s : Flags) (cc : CCBits) (h : cc.reg < 256) (a : ℕ) (la : a < 256) where
  page-out : (p : Page) → p.value < 256 → OutFits (of_page cc p)
  page-out p l = record { value = l; codes = codes-fit cc p.flags h }

  -- a page whose result is not kept
  kept_out : (l : List Line) → OutFits (record { cc = codes cc l; value = a })
  kept_out l = record { value = la; codes = codes-fit cc l h }

  alu-out : (op : Binary) (m : ℕ) → m < 256 → OutFits (alu_of op s cc a m)
  alu-out Add m lm = page-out (by s ADD cc a m) (result_fits s ADD cc a m la lm)
  alu-out Adc m lm = page-out (by s ADC cc a m) (result_fits s ADC cc a m la lm)
  alu-out Sub m lm = page-out (by s SUB cc a m) (result_fits s SUB cc a m la lm)
  alu-out Sbc m lm = page-out (by s SBC cc a m) (result_fits s SBC cc a m la lm)
  alu-out Cmp m lm = kept_out (manual SUB cc a m).flags
  alu-out And m lm = page-out (manual AND cc a m) (result_fits Manual AND cc a m la lm)
  alu-out Bit m lm = kept_out (manual AND cc a m).flags
  alu-out Or m lm = page-out (manual OR cc a m) (result_fits Manual OR cc a m la lm)
  alu-out Eor m lm = page-out (manual EOR cc a m) (result_fits Manual EOR cc a m la lm)
  alu-out Ld m lm = page-out (logical 0x80 m) lm

  alone : (o : Operation) → (by Manual o cc a 0).value < 256 → OutFits (of_page cc (manual o cc a 0))
  alone o l = page-out (manual o cc a 0) l

  pub unary-out : (op : Unary) → OutFits (unary_of op s cc a)
  unary-out Neg = alone NEG (result_fits Manual NEG cc a 0 la (lit< tt))
  unary-out Com = alone COM (result_fits Manual COM cc a 0 la (lit< tt))
  unary-out Lsr = alone LSR (result_fits Manual LSR cc a 0 la (lit< tt))
  unary-out Ror = alone ROR (result_fits Manual ROR cc a 0 la (lit< tt))
  unary-out Asr = alone ASR (result_fits Manual ASR cc a 0 la (lit< tt))
  unary-out Asl = alone ASL (result_fits Manual ASL cc a 0 la (lit< tt))
  unary-out Rol = alone ROL (result_fits Manual ROL cc a 0 la (lit< tt))
  unary-out Dec = page-out (by s DEC cc a 0) (result_fits s DEC cc a 0 la (lit< tt))
  unary-out Inc = page-out (by s INC cc a 0) (result_fits s INC cc a 0 la (lit< tt))
  unary-out Clr = record { value = lit< tt; codes = codes-fit cc ((N := false) ∷ (Z := true) ∷ («V» := false) ∷ (C := false) ∷ []) h }

with-fits : (acc : Acc) (r : Set) (o : Out ℕ) → Fits r → OutFits o → Fits (with_accumulator acc o r)
with-fits A r o f k = record { x = f.x; y = f.y; u = f.u; s = f.s; pc = f.pc; a = k.value; b = f.b; dp = f.dp; cc = k.codes }
with-fits B r o f k = record { x = f.x; y = f.y; u = f.u; s = f.s; pc = f.pc; a = f.a; b = k.value; dp = f.dp; cc = k.codes }

-- ---- operations

signed-fits : (b : ℕ) → b < 256 → value_of (sign_extended (u8 b)) < 65536
signed-fits b h = go (ltb b 0x80)
  where
    go : (t : Bool) → cond t b (0xFF00 + b) < 65536
    go true = omega arith
    go false = omega arith

-- D and the codes of a page
on-d : (r : Set) → Fits r → (l : List Line) (w : ℕ) → w < 65536 → Fits (with_word (with_codes r (codes r.cc l)) D w)
on-d r f l w h = word-written _ (page-fits r f l) D w h

of_test : (t : Bool) (q : Set) (x : Refusal) → Fits q → ChangedFits (cond t (Ok q) (Err x))
of_test true q x f = f
of_test false q x f = tt

module _ (mem : List ℕ) (r : Set) (ea : ℕ) (g : Given mem r ea) where
  byte-in : byte_at mem ea < 256
  byte-in = byte_fits mem g.bytes ea

  read-in : word_at mem ea < 65536
  read-in = word_fits mem g.bytes ea

  zero-fits : Fits (with_zero r ea)
  zero-fits = codes-fits r g.registers _ (put-fits Z (eqb ea 0) r.cc g.registers.cc)

  address-fits : (i : Index) → Fits (load_address i r ea)
  address-fits LEAX = word-written (with_zero r ea) zero-fits X ea g.address
  address-fits LEAY = word-written (with_zero r ea) zero-fits Y ea g.address
  address-fits LEAU = word-written r g.registers U ea g.address
  address-fits LEAS = word-written r g.registers S ea g.address

  branch_fits : (t : Bool) → Fits (cond t (jumped r ea) r)
  branch_fits true = jumped-fits r g.registers ea g.address
  branch_fits false = g.registers

pub changes-fit : ChangesFit
unfolding load16 compare16 add_d subtract_d transfer exchange
changes-fit (Alu op acc) s mem r ea g =
    with-fits acc r _ g.registers (alu-out s r.cc g.registers.cc _ (acc-fits r g.registers acc) op _ (byte-in mem r ea g))
changes-fit (OnAcc op acc) s mem r ea g =
    with-fits acc r _ g.registers (unary-out s r.cc g.registers.cc _ (acc-fits r g.registers acc) op)
changes-fit (TestAcc acc) s mem r ea g = page-fits r g.registers (logical 0x80 (accumulator acc r)).flags
changes-fit TestMemory s mem r ea g = page-fits r g.registers (logical 0x80 (byte_at mem ea)).flags
changes-fit Addd s mem r ea g =
    let w = word_at mem ea in
    on-d r g.registers (manual ADDD r.cc (word_of r D) w).flags (manual ADDD r.cc (word_of r D) w).value (result_fits Manual ADDD r.cc (word_of r D) w (word_in r g.registers D) (read-in mem r ea g))
changes-fit Subd s mem r ea g =
    let w = word_at mem ea in
    on-d r g.registers (manual SUBD r.cc (word_of r D) w).flags (manual SUBD r.cc (word_of r D) w).value (result_fits Manual SUBD r.cc (word_of r D) w (word_in r g.registers D) (read-in mem r ea g))
changes-fit (Load16 name) s mem r ea g = word-written _ (page-fits r g.registers (logical 0x8000 (word_at mem ea)).flags) name (word_at mem ea) (read-in mem r ea g)
changes-fit (Cmp16 name) s mem r ea g = page-fits r g.registers (manual SUBD r.cc (word_of r name) (word_at mem ea)).flags
changes-fit (Lea i) s mem r ea g = address-fits mem r ea g i
changes-fit (Branch c) s mem r ea g = branch_fits mem r ea g (condition c r.cc)
changes-fit Jmp s mem r ea g = branch_fits mem r ea g true
changes-fit Nop s mem r ea g = g.registers
changes-fit Daa s mem r ea g =
    with-fits A r _ g.registers (record { value = mod-lt (corrected r.cc r.a) (lit< tt); codes = codes-fit r.cc (daa_flags r.cc r.a) g.registers.cc })
changes-fit Sex s mem r ea g = on-d r g.registers (sex_flags (value_of (sign_extended (u8 r.b)))) (value_of (sign_extended (u8 r.b))) (signed-fits r.b g.registers.b)
changes-fit Mul s mem r ea g =
    on-d r g.registers (manual MUL r.cc r.a r.b).flags (manual MUL r.cc r.a r.b).value (result_fits Manual MUL r.cc r.a r.b g.registers.a g.registers.b)
changes-fit Abx s mem r ea g = word-written r g.registers X ((r.x + r.b) % 65536) (mod-lt (r.x + r.b) (lit< tt))
changes-fit Andcc s mem r ea g = and-fits r g.registers _ (byte-in mem r ea g)
changes-fit Orcc s mem r ea g = or-fits r g.registers _ (byte-in mem r ea g)
changes-fit Exg s mem r ea g =
    let one = transfer_name (byte_at mem ea / 16) in
    let two = transfer_name (byte_at mem ea % 16) in
    of_test (transferable (byte_at mem ea)) _ TransferCode
    (written-fits _ (written-fits r g.registers one _ (read_fits r g.registers two)) two _ (read_fits r g.registers one))
changes-fit Tfr s mem r ea g =
    of_test (transferable (byte_at mem ea)) _ TransferCode
    (written-fits r g.registers (transfer_name (byte_at mem ea % 16)) _ (read_fits r g.registers (transfer_name (byte_at mem ea / 16))))
