-- The invariant: the first k bytes are written.
-- Assumes nothing.
use Rattle.std.proofs.Common.{◌≡◌, ℕ, ap, ◌∙◌, arith}
use Rattle.text.specs.Lines.{text_of}
use Rattle.disassembly.specs.Line.{byte_pairs}
use Rattle.disassembly.proofs.Growing.{no_pairs, pair-more}
use Rattle.disassembly.proofs.line.byte_pairs.Goals as goal

pub loop-k-init : goal.loop-k-init
loop-k-init c = c.empty-pairs.ensures ∙ no_pairs c.args.mem.now c.args.at

pub loop-k-preserved : goal.loop-k-preserved
loop-k-preserved c =
    let a = c.args in
    let l = c.loop-k in
    rw (c.with_byte-pairs.ensures, c.with_hex.ensures, l.invariant, c.read_u8-b.ensures) (pair-more l.k a.mem.now a.at)

pub returns : goal.returns
returns c =
    let a = c.args in
    let l = c.loop-k in
    let e : l.k ≡ a.count = omega arith in
    l.invariant ∙ ap (λ (n : ℕ). text_of (byte_pairs n a.mem.now a.at)) e
