-- A number's line has at most 33 bytes, so its text holds all of it.
-- Assumes nothing.
use mathlib.Core.Path.{◌≡◌}
use Rattle.answers.specs.Numbers.{number_of}
use Rattle.text.specs.Lines.{said}
use Rattle.text.proofs.Texts.{alone-fits, text-is-whole}
use Rattle.player.specs.Plays.{refusal_line}
use Rattle.player.proofs.put_refusal.Goals as goal

pub returns : goal.returns
returns c =
    let x = c.args.refusal in
    let t = c.alone in
    let e : said t.result ≡ refusal_line x = rw (t.ensures, c.number.ensures) (text-is-whole (refusal_line x) (alone-fits (number_of x))) in
    rw (← e) c.put.ensures
