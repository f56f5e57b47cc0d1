-- The two settings part in an operation in V alone, exactly where the law of the arithmetic says.
-- Assumes nothing.
use Rattle.std.proofs.Common.{◌≡◌, ℕ, ◌<◌, ◌≢◌, ◌↔◌, refl, ap, arith, Err, Ok, Result}
use Rattle.registers.specs.ConditionCodes.{flag}
use Rattle.registers.specs.Arithmetic.{Operation, ADD, ADC, SUB, SBC, DEC, INC, top, of_page, manual}
use Rattle.registers.specs.Bought.{bought}
use Rattle.registers.specs.Settings.{Parts}
use Rattle.registers.specs.declared.CCBit.{CCBit}
use Rattle.registers.specs.declared.CCBit.TheVariants.{«V»}
use Rattle.registers.specs.declared.CCBits.{CCBits}
use Rattle.registers.specs.declared.Flags.TheVariants.{Bought, Manual}
use Rattle.registers.specs.declared.Set.{Set}
use Rattle.registers.proofs.Parting.{settings-part}
use Rattle.memory.specs.Map.{byte_at}
use Rattle.machine.specs.declared.Effect.{Effect}
use Rattle.opcodes.specs.declared.Acc.{Acc}
use Rattle.opcodes.specs.declared.Acc.TheVariants.{A, B}
use Rattle.opcodes.specs.declared.Alu.{Alu as Binary}
use Rattle.opcodes.specs.declared.Alu.TheVariants.{Add, Adc, Sub, Sbc, Cmp, And, Bit, Or, Eor, Ld}
use Rattle.opcodes.specs.declared.RegisterOp.TheVariants.{Alu, OnAcc, TestAcc, TestMemory, Addd, Subd, Load16, Cmp16, Lea, Branch, Jmp, Nop, Daa, Sex, Mul, Abx, Andcc, Orcc, Exg, Tfr}
use Rattle.opcodes.specs.declared.Unary.{Unary}
use Rattle.opcodes.specs.declared.Unary.TheVariants.{Neg, Com, Lsr, Ror, Asr, Asl, Rol, Dec, Inc, Clr}
use Rattle.operations.specs.EightBit.{accumulator, with_accumulator, alu_of, unary_of, one_write, on_memory}
use Rattle.operations.specs.Parting.{PartInV, ChangedPart, both-after, both-refused, EffectsPart, AluParts, adc, sbc, UnaryParts, dec, inc, OpParts, with-operand, on-accumulator, ChangesPart, OnMemoryParts}
use Rattle.answers.specs.declared.Refusal.{Refusal}
use Rattle.registers.specs.declared.Out.{Out}

-- ---- what is the same in both settings

pub same-registers : {r q : Set} {Case : Type 0} → r ≡ q → (Case → ⊥) → PartInV r q Case
same-registers p n = record {
  a = ap (λ (t : Set). t.a) p;
  b = ap (λ (t : Set). t.b) p;
  dp = ap (λ (t : Set). t.dp) p;
  x = ap (λ (t : Set). t.x) p;
  y = ap (λ (t : Set). t.y) p;
  u = ap (λ (t : Set). t.u) p;
  s = ap (λ (t : Set). t.s) p;
  pc = ap (λ (t : Set). t.pc) p;
  others = λ h d. ap (λ (t : Set). flag h t.cc) p;
  exactly = (λ d. absurd (d (ap (λ (t : Set). flag «V» t.cc) p)), λ k. absurd (n k));
}

pub same-effects : {e f : Effect} {Case : Type 0} → e ≡ f → (Case → ⊥) → EffectsPart e f Case
same-effects p n = record {
  writes = ap (λ (g : Effect). g.writes) p;
  wait = ap (λ (g : Effect). g.wait) p;
  answer = ap (λ (g : Effect). g.answer) p;
  registers = same-registers (ap (λ (g : Effect). g.regs) p) n;
}

same : {Case : Type 0} (c : Result Set Refusal) → (Case → ⊥) → ChangedPart Case c c
same (Ok r) n = both-after (same-registers refl n)
same (Err x) n = both-refused n

-- ---- bytes and their condition codes

record OutsPart (o p : Out ℕ) (Case : Type 0) : Type 0 where
  value : o.value ≡ p.value
  others : (g : CCBit) → g ≢ «V» → flag g o.cc ≡ flag g p.cc
  exactly : (flag «V» o.cc ≢ flag «V» p.cc) ↔ Case

same_out : {Case : Type 0} (o : Out ℕ) → (Case → ⊥) → OutsPart o o Case
same_out o n = record { value = refl; others = λ h d. refl; exactly = (λ d. absurd (d refl), λ k. absurd (n k)) }

module _ (cc : CCBits) (a m : ℕ) where
  -- the pages of an operation, where the case is named otherwise
  pages : (o : Operation) {Case : Type 0} → a < top o → m < top o → (Parts cc a m o → Case) → (Case → Parts cc a m o) → OutsPart (of_page cc (bought o cc a m)) (of_page cc (manual o cc a m)) Case
  pages o la lm f g =
      let d = settings-part o cc a m la lm in
      record { value = d.value; others = d.others; exactly = (λ h. f (d.exactly.0 h), λ k. d.exactly.1 (g k)) }

  of-adc : AluParts cc a m Adc → Parts cc a m ADC
  of-adc (adc k) = k

  of-sbc : AluParts cc a m Sbc → Parts cc a m SBC
  of-sbc (sbc k) = k

  alu-parts : (op : Binary) → a < 256 → m < 256 → OutsPart (alu_of op Bought cc a m) (alu_of op Manual cc a m) (AluParts cc a m op)
  alu-parts Add la lm = pages ADD la lm (elim [ ]) (elim [ ])
  alu-parts Adc la lm = pages ADC la lm adc of-adc
  alu-parts Sub la lm = pages SUB la lm (elim [ ]) (elim [ ])
  alu-parts Sbc la lm = pages SBC la lm sbc of-sbc
  alu-parts Cmp la lm = same_out _ (elim [ ])
  alu-parts And la lm = same_out _ (elim [ ])
  alu-parts Bit la lm = same_out _ (elim [ ])
  alu-parts Or la lm = same_out _ (elim [ ])
  alu-parts Eor la lm = same_out _ (elim [ ])
  alu-parts Ld la lm = same_out _ (elim [ ])

module _ (cc : CCBits) (m : ℕ) where
  of-dec : UnaryParts cc m Dec → Parts cc m 0 DEC
  of-dec (dec k) = k

  of-inc : UnaryParts cc m Inc → Parts cc m 0 INC
  of-inc (inc k) = k

  unary-parts : (op : Unary) → m < 256 → OutsPart (unary_of op Bought cc m) (unary_of op Manual cc m) (UnaryParts cc m op)
  unary-parts Neg l = same_out _ (elim [ ])
  unary-parts Com l = same_out _ (elim [ ])
  unary-parts Lsr l = same_out _ (elim [ ])
  unary-parts Ror l = same_out _ (elim [ ])
  unary-parts Asr l = same_out _ (elim [ ])
  unary-parts Asl l = same_out _ (elim [ ])
  unary-parts Rol l = same_out _ (elim [ ])
  unary-parts Dec l = pages cc m 0 DEC l (omega arith) dec of-dec
  unary-parts Inc l = pages cc m 0 INC l (omega arith) inc of-inc
  unary-parts Clr l = same_out _ (elim [ ])

-- ---- operations

module _ (r : Set) (o p : Out ℕ) {Case Named : Type 0} (d : OutsPart o p Case) (f : Case → Named) (g : Named → Case) where
  in-accumulator : (acc : Acc) → PartInV (with_accumulator acc o r) (with_accumulator acc p r) Named
  in-accumulator A = record { a = d.value; b = refl; dp = refl; x = refl; y = refl; u = refl; s = refl; pc = refl; others = d.others; exactly = (λ h. f (d.exactly.0 h), λ k. d.exactly.1 (g k)) }
  in-accumulator B = record { a = refl; b = d.value; dp = refl; x = refl; y = refl; u = refl; s = refl; pc = refl; others = d.others; exactly = (λ h. f (d.exactly.0 h), λ k. d.exactly.1 (g k)) }

module _ (r : Set) (m : ℕ) where
  of-operand : (op : Binary) (acc : Acc) → OpParts r m (Alu op acc) → AluParts r.cc (accumulator acc r) m op
  of-operand op acc (with-operand k) = k

  of-accumulator : (op : Unary) (acc : Acc) → OpParts r m (OnAcc op acc) → UnaryParts r.cc (accumulator acc r) op
  of-accumulator op acc (on-accumulator k) = k

byte-in : (r : Set) → r.a < 256 → r.b < 256 → (acc : Acc) → accumulator acc r < 256
byte-in r la lb A = la
byte-in r la lb B = lb

pub changes-part : ChangesPart
changes-part (Alu op acc) mem r ea la lb l =
    both-after (in-accumulator r _ _ (alu-parts r.cc (accumulator acc r) (byte_at mem ea) op (byte-in r la lb acc) l) with-operand (of-operand r (byte_at mem ea) op acc) acc)
changes-part (OnAcc op acc) mem r ea la lb l =
    both-after (in-accumulator r _ _ (unary-parts r.cc (accumulator acc r) op (byte-in r la lb acc)) on-accumulator (of-accumulator r (byte_at mem ea) op acc) acc)
changes-part (TestAcc acc) mem r ea la lb l = same _ (elim [ ])
changes-part TestMemory mem r ea la lb l = same _ (elim [ ])
changes-part Addd mem r ea la lb l = same _ (elim [ ])
changes-part Subd mem r ea la lb l = same _ (elim [ ])
changes-part (Load16 word) mem r ea la lb l = same _ (elim [ ])
changes-part (Cmp16 word) mem r ea la lb l = same _ (elim [ ])
changes-part (Lea index) mem r ea la lb l = same _ (elim [ ])
changes-part (Branch c) mem r ea la lb l = same _ (elim [ ])
changes-part Jmp mem r ea la lb l = same _ (elim [ ])
changes-part Nop mem r ea la lb l = same _ (elim [ ])
changes-part Daa mem r ea la lb l = same _ (elim [ ])
changes-part Sex mem r ea la lb l = same _ (elim [ ])
changes-part Mul mem r ea la lb l = same _ (elim [ ])
changes-part Abx mem r ea la lb l = same _ (elim [ ])
changes-part Andcc mem r ea la lb l = same _ (elim [ ])
changes-part Orcc mem r ea la lb l = same _ (elim [ ])
changes-part Exg mem r ea la lb l = same _ (elim [ ])
changes-part Tfr mem r ea la lb l = same _ (elim [ ])

pub on-memory-parts : OnMemoryParts
unfolding on_memory
on-memory-parts op mem r ea l =
    let d = unary-parts r.cc (byte_at mem ea) op l in
    record {
      writes = ap (one_write ea) d.value;
      wait = refl;
      answer = refl;
      registers = record { a = refl; b = refl; dp = refl; x = refl; y = refl; u = refl; s = refl; pc = refl; others = d.others; exactly = d.exactly };
    }
