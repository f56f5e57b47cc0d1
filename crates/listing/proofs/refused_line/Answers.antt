-- Four texts over a blank line, the last in four parts.
-- Assumes nothing.
use mathlib.Core.Path.{◌≡◌}
use native.Mathlib.Omega.{arith}
use Rattle.answers.specs.Numbers.{number_of}
use Rattle.text.specs.Lines.{decimal, said}
use Rattle.text.proofs.Decimals.{at-most-twenty}
use Rattle.text.proofs.Texts.{text-is-whole}
use Rattle.listing.proofs.Lines.{refused-laid}
use Rattle.listing.proofs.refused_line.Goals as goal

pub returns : goal.returns
returns c =
    let a = c.args in
    let n = number_of a.refusal in
    let h = c.hex2-pair.ensures in
    let r = c.read_u8.ensures in
    let f : said c.decimal.result ≡ decimal n = rw (c.decimal.ensures, c.number.ensures) (text-is-whole (decimal n) (omega (arith, at-most-twenty n))) in
    refused-laid a.mem.now a.at a.refusal c.put.new.out c.put-2.new.out c.put-3.new.out c.put-7.new.out
    (rw (c.blank-line.ensures, c.hex4-address.ensures) at c.put.ensures)
    (rw (h, r) at c.put-2.ensures)
    c.put-3.ensures
    (rw (f, c.put-6.ensures, c.put-5.ensures, c.put-4.ensures, h, r) at c.put-7.ensures.1)
