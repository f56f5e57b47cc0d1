-- The whole text of at most 20 bytes.
-- Assumes nothing.
use Rattle.std.proofs.Common.{◌≡◌, ◌≤◌, length, arith}
use Rattle.text.specs.Lines.{said}
use Rattle.text.proofs.Texts.{text-is-whole}
use Rattle.disassembly.specs.Operands.{operand_text}
use Rattle.disassembly.proofs.Widths.{operand_short}
use Rattle.disassembly.proofs.operands.put_operand.Goals as goal

pub returns : goal.returns
returns c =
    let a = c.args in
    let t = c.operand_text in
    let l : length (operand_text a.i a.mem.now) ≤ 33 = omega (arith, operand_short a.i a.mem.now) in
    let e : said t.result ≡ operand_text a.i a.mem.now = rw t.ensures (text-is-whole (operand_text a.i a.mem.now) l) in
    rw (← e) c.put.ensures.1
