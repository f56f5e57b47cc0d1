-- The head is judged as the definition judges it: its length, then flags.
-- Assumes nothing.
use native.Mathlib.Omega.{arith}
use Rattle.std.proofs.Common.{◌≢◌}
use Rattle.player.specs.Boots.{flag_byte}
use Rattle.player.proofs.Booting.{short-head, too_long, tail, other-flags, as-bought, by-manual}
use Rattle.player.proofs.boots.boot.Goals as goal

pub returns-then-input-lt-HEAD : goal.returns-then-input-lt-HEAD
returns-then-input-lt-HEAD c = rw (short-head c.args.input.now c.if-input-lt-HEAD.true) c.put_refusal.ensures

pub returns-then-input-gt-LONGEST : goal.returns-then-input-gt-LONGEST
returns-then-input-gt-LONGEST c = rw (too_long c.args.input.now c.if-input-lt-HEAD.false c.if-input-gt-LONGEST.true) c.put_refusal-then-input-gt-LONGEST.ensures

pub returns-in-0 : goal.returns-in-0
returns-in-0 c =
    let l = c.args.input.now in
    let h = c.if-input-lt-HEAD.false in
    rw (as-bought l h c.if-input-gt-LONGEST.false c.word-ram_top.ensures c.word-count.ensures (tail l h) c.new.ensures c.in-0.is) c.boot_text.ensures

pub returns-in-1 : goal.returns-in-1
returns-in-1 c =
    let l = c.args.input.now in
    let h = c.if-input-lt-HEAD.false in
    rw (by-manual l h c.if-input-gt-LONGEST.false c.word-ram_top.ensures c.word-count.ensures (tail l h) c.new-in-1.ensures c.in-1.is) c.boot_text-in-1.ensures

pub returns-in_default : goal.returns-in_default
returns-in_default c =
    let l = c.args.input.now in
    let f : flag_byte l ≢ 0 = omega arith in
    let g : flag_byte l ≢ 1 = omega arith in
    rw (other-flags l c.if-input-lt-HEAD.false c.if-input-gt-LONGEST.false f g) c.put_refusal-in_default.ensures
