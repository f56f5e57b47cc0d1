-- The line of spaces, and the four parts laid over it.
-- Assumes nothing.
use Rattle.std.proofs.Common.{◌≡◌, ◌-◌, ◌≤◌, length, drop, replicate, refl, ◌∙◌, arith}
use Rattle.text.specs.Hex.{hex4}
use Rattle.text.specs.Lines.{said}
use Rattle.text.proofs.Texts.{text-is-whole}
use Rattle.disassembly.specs.Operands.{operand_text}
use Rattle.disassembly.specs.Line.{space, line_length, byte_pairs, mnemonic_text, instruction_line}
use Rattle.disassembly.proofs.Widths.{operand_short, mnemonic-short}
use Rattle.disassembly.proofs.Columns.{pairs-length, lent-rest, whole, whole_length}
use Rattle.disassembly.proofs.write_line.Goals as goal

pub returns : goal.returns
unfolding instruction_line
returns c =
    let a = c.args in
    let t = c.byte_pairs in
    let n = a.i.next - a.at in
    let few : n ≤ 5 = omega (arith, c.requires.1.1.0) in
    let pairs = byte_pairs n a.mem.now a.at in
    let l : length pairs ≤ 33 = omega (arith, pairs-length n a.mem.now a.at) in
    let e : said t.result ≡ pairs = rw t.ensures (text-is-whole pairs l) in
    let l₁ = c.put.new.out in
    let l₂ = c.put-2.new.out in
    let l₃ = c.put-3.new.out in
    let l₄ = c.put_mnemonic.new.line in
    let e₁ = c.put.ensures in
    let e₂ = rw c.hex4.ensures at c.put-2.ensures in
    let e₃ = rw e at c.put-3.ensures.1 in
    let e₄ = c.put_mnemonic.ensures in
    let p = hex4 a.at in
    let m = mnemonic_text a.i.entry in
    let o = operand_text a.i a.mem.now in
    let r = drop line_length a.line.now in
    let k : length pairs ≤ 16 = omega (arith, pairs-length n a.mem.now a.at) in
    let n₄ = whole_length a.line.now l₁ l₂ l₃ l₄ (replicate line_length space) p pairs m e₁ e₂ e₃ e₄ in
    lent-rest l₄ c.put_operand.new.rest o (omega (arith, c.requires.0, n₄)) c.put_operand.ensures
    ∙ whole p pairs m o (omega arith) k (omega (arith, mnemonic-short a.i.entry)) (operand_short a.i a.mem.now) r a.line.now l₁ l₂ l₃ l₄ c.requires.0 refl e₁ e₂ e₃ e₄
