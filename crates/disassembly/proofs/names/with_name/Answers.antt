-- The loop writes letter by letter.
-- Assumes nothing.
use Rattle.std.proofs.Common.{◌≡◌, length, ap, ◌∙◌, arith}
use Rattle.std.proofs.lemmas.List.{take_more, take_all}
use Rattle.text.specs.Lines.{grown}
use Rattle.text.proofs.Texts.{grown-grown}
use Rattle.registers.specs.Names.{register_text}
use Rattle.disassembly.specs.Names.{name_text}
use Rattle.disassembly.proofs.Growing.{grown-none}
use Rattle.disassembly.proofs.names.with_name.Goals as goal

pub loop-letter-init : goal.loop-letter-init
loop-letter-init c = grown-none c.args.text

pub loop-letter-preserved : goal.loop-letter-preserved
loop-letter-preserved c =
    let l = c.loop-letter in
    let e : c.as_bytes-letter-items.result.now ≡ register_text c.args.name = c.as_bytes-letter-items.ensures.value ∙ c.to_str.ensures in
    rw (c.with_byte-text.ensures, l.invariant, e, take_more (register_text c.args.name) l.letter-index 0 (omega (arith, ap length e, c.loop-letter-test.true)))
    (grown-grown _ _ _)

pub returns : goal.returns
unfolding name_text
returns c =
    let l = c.loop-letter in
    let n = register_text c.args.name in
    let e : c.as_bytes-letter-items.result.now ≡ n = c.as_bytes-letter-items.ensures.value ∙ c.to_str.ensures in
    let k : l.letter-index ≡ length n = omega (arith, ap length e) in
    l.invariant ∙ ap (grown c.args.text) (take_all l.letter-index n (omega arith))
