-- The laws of a line.
-- Assumes nothing.
use Rattle.std.proofs.Common.{◌≡◌, ℕ, ◌+◌, ◌-◌, ◌*◌, ◌<◌, ◌≤◌, Bool, true, false, cond, eqb, ltb, leb, List, ◌++◌, length, take, drop, replicate, sym, refl, ap, ◌∙◌, subst, append_assoc, arith, take_at, drop_at, leb-true, Err, Ok, Result}
use Rattle.text.specs.Hex.{hex4}
use Rattle.answers.specs.declared.Refusal.TheVariants.{MemoryLength, PastEnd, TransferCode}
use Rattle.memory.specs.Fits.{Bytes}
use Rattle.decode.specs.Decode.{decoded_at}
use Rattle.decode.specs.declared.instruction.Instruction.{Instruction}
use Rattle.operations.specs.Refusals.{code_refused}
use Rattle.disassembly.specs.Operands.{operand_text}
use Rattle.disassembly.specs.Line.{space, line_length, columns, byte_pairs, mnemonic_text, line_with, instruction_line}
use Rattle.disassembly.specs.Disassembly.{immediate_at, taken_as_step, judged_from, legible, answered, disassembled_of, written_to, line_after}
use Rattle.disassembly.specs.Laws.{TextOf48, RefusedLine, LinesApart}
use Rattle.disassembly.proofs.Spans.{one-to-five}
use Rattle.disassembly.proofs.Widths.{operand_short, mnemonic-short}
use Rattle.disassembly.proofs.Columns.{pairs-length, line-length}
use Rattle.disassembly.proofs.Apart.{same_bytes}
use Rattle.answers.specs.declared.Refusal.{Refusal}

-- ---- what is taken was decoded, and the next address is a word

judged-taken : (mem : List ℕ) (i j : Instruction) → taken_as_step mem i ≡ Ok j → (i ≡ j) × (i.next ≤ 0xFFFF)
unfolding taken_as_step
judged-taken mem i j = go (leb i.next 0xFFFF) refl (code_refused i.entry.op mem (immediate_at i.operand))
  where
    go : (s : Bool) → leb i.next 0xFFFF ≡ s → (t : Bool) → cond s (cond t (Err TransferCode) (Ok i)) (Err PastEnd) ≡ Ok j → (i ≡ j) × (i.next ≤ 0xFFFF)
    go true e true q = let z : ◌≡◌ {A = ℕ} 0 1 = cc in absurd (omega arith)
    go true e false q = (cc, leb-true i.next 0xFFFF e)
    go false e t q = let z : ◌≡◌ {A = ℕ} 0 1 = cc in absurd (omega arith)

from-taken : (mem : List ℕ) (d : Result Instruction Refusal) (j : Instruction) → judged_from mem d ≡ Ok j → (d ≡ Ok j) × (j.next ≤ 0xFFFF)
from-taken mem (Ok i) j q =
    let (e, l) = judged-taken mem i j q in
    (ap Ok e, subst (λ (k : Instruction). k.next ≤ 0xFFFF) e l)
from-taken mem (Err x) j q = let z : ◌≡◌ {A = ℕ} 0 1 = cc in absurd (omega arith)

pub legible-taken : (mem : List ℕ) (at : ℕ) (j : Instruction) → legible mem at ≡ Ok j → (decoded_at mem at ≡ Ok j) × (j.next ≤ 0xFFFF)
unfolding legible
legible-taken mem at j q = from-taken mem (decoded_at mem at) j q

-- what is known of the instruction that is written
pub record Room (at : ℕ) (i : Instruction) : Type 0 where
  pub after : at < i.next
  pub few : i.next ≤ at + 5
  pub word : i.next ≤ 0xFFFF

pub room : (mem : List ℕ) (at : ℕ) (i : Instruction) → Bytes mem → at < 65536 → legible mem at ≡ Ok i → Room at i
room mem at i h k e =
    let (d, w) = legible-taken mem at i e in
    let (a, f) = one-to-five mem at i h k d in
    record { after = a; few = f; word = w }

-- ---- the text and the line

few : (mem : List ℕ) (at : ℕ) (i : Instruction) → Bytes mem → at < 65536 → decoded_at mem at ≡ Ok i → i.next - at ≤ 5
few mem at i h k e = omega (arith, (one-to-five mem at i h k e).1)

pub text-of-48 : TextOf48
unfolding instruction_line
text-of-48 mem at i h k e =
    line-length (hex4 at) (byte_pairs (i.next - at) mem at) (mnemonic_text i.entry) (operand_text i mem) (omega arith)
    (omega (arith, few mem at i h k e, pairs-length (i.next - at) mem at)) (omega (arith, mnemonic-short i.entry)) (operand_short i mem)

pub refused-line : RefusedLine
unfolding disassembled_of line_after
refused-line mem line at x = go (eqb (length mem) 65536) (legible mem at) (ltb (length line) line_length) refl
  where
    go : (s : Bool) (d : Result Instruction Refusal) (t : Bool) → ltb (length line) line_length ≡ t
        → cond s (answered at (length line) d) (Err MemoryLength) ≡ Err x → cond s (written_to mem at line d) line ≡ line
    go false d t e q = refl
    go true (Err y) t e q = refl
    go true (Ok i) true e q = rw e
    go true (Ok i) false e q = let r = rw e at q in let z : ◌≡◌ {A = ℕ} 0 1 = cc in absurd (omega arith)

-- ---- two lines

-- a line that is written: its instruction and its length
pub record Opened (mem line : List ℕ) (at n : ℕ) : Type 0 where
  instruction : Instruction
  decoded : decoded_at mem at ≡ Ok instruction
  many : n ≡ instruction.next - at
  written : line_after mem at line ≡ instruction_line mem at instruction ++ drop line_length line

opened : (mem line : List ℕ) (at n : ℕ) → disassembled_of mem at (length line) ≡ Ok n → Opened mem line at n
unfolding disassembled_of line_after
opened mem line at n q = go (eqb (length mem) 65536) refl (legible mem at) refl (ltb (length line) line_length) refl q
  where
    go : (s : Bool) → eqb (length mem) 65536 ≡ s → (d : Result Instruction Refusal) → legible mem at ≡ d → (t : Bool) → ltb (length line) line_length ≡ t
        → cond s (answered at (length line) d) (Err MemoryLength) ≡ Ok n → Opened mem line at n
    go false a d b t e r = let z : ◌≡◌ {A = ℕ} 0 1 = cc in absurd (omega arith)
    go true a (Err y) b t e r = let z : ◌≡◌ {A = ℕ} 0 1 = cc in absurd (omega arith)
    go true a (Ok i) b true e r = let w = rw e at r in let z : ◌≡◌ {A = ℕ} 0 1 = cc in absurd (omega arith)
    go true a (Ok i) b false e r =
        let w = rw e at r in
        record { instruction = i; decoded = (legible-taken mem at i b).0; many = cc; written = rw (a, b, e) }

regrouped : (a p s t r : List ℕ) → (a ++ ((p ++ s) ++ t)) ++ r ≡ a ++ (p ++ ((s ++ t) ++ r))
regrouped a p s t r = simp append_assoc

-- the bytes' column of a text
column : (mem rest : List ℕ) (at n : ℕ) (i : Instruction) → n ≡ i.next - at → n ≤ 5 → take (3 * n) (drop 6 (instruction_line mem at i ++ rest)) ≡ byte_pairs n mem at
unfolding instruction_line line_with
column mem rest at n i e h =
    let p = byte_pairs n mem at in
    let tail = replicate (16 - length p) space ++ (columns 6 (mnemonic_text i.entry) ++ columns 20 (operand_text i mem)) in
    let parts = columns 6 (mnemonic_text i.entry) ++ columns 20 (operand_text i mem) in
    let f : instruction_line mem at i ++ rest ≡ columns 6 (hex4 at) ++ (p ++ (tail ++ rest)) =
    ap (λ (m : ℕ). (columns 6 (hex4 at) ++ (columns 16 (byte_pairs m mem at) ++ parts)) ++ rest) (sym e)
    ∙ regrouped (columns 6 (hex4 at)) p (replicate (16 - length p) space) parts rest in
    rw f (ap (take (3 * n)) (drop_at (columns 6 (hex4 at)) (p ++ (tail ++ rest)) 6 refl) ∙ take_at p (tail ++ rest) (3 * n) (pairs-length n mem at))

pub lines-apart : LinesApart
lines-apart one other line at n h k w p q e =
    let r = opened one line at n p in
    let s = opened other line at n q in
    let rest = drop line_length line in
    let l : n ≤ 5 = omega (arith, r.many, few one at r.instruction h w r.decoded) in
    let m : n ≤ 5 = omega (arith, s.many, few other at s.instruction k w s.decoded) in
    let f : instruction_line one at r.instruction ++ rest ≡ instruction_line other at s.instruction ++ rest = sym r.written ∙ (e ∙ s.written) in
    same_bytes n one other at h k
    (sym (column one rest at n r.instruction r.many l) ∙ (ap (λ (x : List ℕ). take (3 * n) (drop 6 x)) f ∙ column other rest at n s.instruction s.many m))
