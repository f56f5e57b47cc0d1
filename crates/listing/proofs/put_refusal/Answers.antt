-- The number and a line feed, whole.
-- Assumes nothing.
use mathlib.Core.Path.{◌≡◌}
use Rattle.answers.specs.Numbers.{number_of}
use Rattle.text.specs.Lines.{alone, said}
use Rattle.text.proofs.Texts.{alone-fits, text-is-whole}
use Rattle.listing.proofs.put_refusal.Goals as goal

pub returns : goal.returns
returns c =
    let x = c.args.refusal in
    let t = c.alone in
    let e : said t.result ≡ alone (number_of x) = rw (t.ensures, c.number.ensures) (text-is-whole (alone (number_of x)) (alone-fits (number_of x))) in
    rw (← e) c.put.ensures
