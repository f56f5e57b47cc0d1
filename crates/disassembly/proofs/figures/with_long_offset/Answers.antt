-- The number, or a minus sign and the amount.
-- Assumes nothing.
use Rattle.std.proofs.Common.{◌≡◌, ◌-◌, arith, le-ltb, lt-ltb}
use Rattle.text.proofs.Texts.{grown-grown}
use Rattle.disassembly.specs.Figures.{long_offset}
use Rattle.disassembly.proofs.figures.with_long_offset.Goals as goal

pub returns-then-n-lt32768 : goal.returns-then-n-lt32768
unfolding long_offset
returns-then-n-lt32768 c = rw (c.with_word.ensures, lt-ltb c.args.n 0x8000 c.if-n-lt32768.true)

pub returns-else-n-lt32768 : goal.returns-else-n-lt32768
unfolding long_offset
returns-else-n-lt32768 c =
    let e : c.wrapping_neg.result ≡ 65536 - c.args.n = omega arith in
    rw (c.with_word-else-n-lt32768.ensures, c.with_byte.ensures, le-ltb c.args.n 0x8000 c.if-n-lt32768.false) (simp grown-grown (rw e))
