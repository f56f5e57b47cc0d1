-- A dollar sign and four digits.
-- Assumes nothing.
use Rattle.std.proofs.Common.{◌≡◌, ◌/◌, ◌%◌, get_or, rules}
use Rattle.text.proofs.Texts.{grown-grown}
use Rattle.disassembly.proofs.figures.with_word.Goals as goal

pub returns : goal.returns
returns c =
    let w = c.args.w in
    let h : get_or c.to_be_bytes.result 0 0 ≡ w / 256 = rw c.to_be_bytes.ensures (search rules) in
    let l : get_or c.to_be_bytes.result 1 0 ≡ w % 256 = rw c.to_be_bytes.ensures (search rules) in
    rw (c.with_hex-2.ensures, c.with_hex.ensures, c.with_byte.ensures, h, l) (simp grown-grown)
