-- A line has at most 33 bytes, so its text holds all of it.
-- Assumes nothing.
use mathlib.Core.Path.{◌≡◌}
use Rattle.text.specs.Lines.{said}
use Rattle.text.proofs.Texts.{text-is-whole}
use Rattle.player.specs.Plays.{call_line}
use Rattle.player.proofs.Playing.{line-bound}
use Rattle.player.proofs.put_call.Goals as goal

pub returns : goal.returns
returns c =
    let a = c.args in
    let t = c.line in
    let e : said t.result ≡ call_line a.answer a.machine = rw (t.ensures, c.number.ensures) (text-is-whole (call_line a.answer a.machine) (line-bound a.answer a.machine)) in
    rw (← e) c.put.ensures
