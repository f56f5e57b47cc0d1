-- The head is judged as the definition judges it: its length, then where to begin.
-- Assumes nothing.
use native.Mathlib.Omega.{arith}
use Rattle.std.proofs.Common.{◌≢◌}
use Rattle.answers.specs.Numbers.{number_of}
use Rattle.answers.specs.declared.Refusal.TheVariants.{Malformed}
use Rattle.text.proofs.Texts.{alone-fits}
use Rattle.listing.specs.Listing.{from_byte}
use Rattle.listing.proofs.Files.{short-head, too_long, tail, other-start, from-reset, from-given}
use Rattle.listing.proofs.list.Goals as goal

pub returns-then-input-lt-HEAD : goal.returns-then-input-lt-HEAD
returns-then-input-lt-HEAD c =
    let p = c.put_refusal.ensures in
    rw (short-head c.args.input.now c.if-input-lt-HEAD.true) (p.0, (p.1, omega (arith, p.0, alone-fits (number_of Malformed))))

pub returns-then-input-gt-LONGEST : goal.returns-then-input-gt-LONGEST
returns-then-input-gt-LONGEST c =
    let p = c.put_refusal-then-input-gt-LONGEST.ensures in
    rw (too_long c.args.input.now c.if-input-lt-HEAD.false c.if-input-gt-LONGEST.true) (p.0, (p.1, omega (arith, p.0, alone-fits (number_of Malformed))))

pub returns-in-0 : goal.returns-in-0
returns-in-0 c =
    let l = c.args.input.now in
    let h = c.if-input-lt-HEAD.false in
    rw (from-reset l h c.if-input-gt-LONGEST.false c.word-at.ensures c.word-count.ensures (tail l h) c.in-0.is) c.list_text.ensures

pub returns-in-1 : goal.returns-in-1
returns-in-1 c =
    let l = c.args.input.now in
    let h = c.if-input-lt-HEAD.false in
    rw (from-given l h c.if-input-gt-LONGEST.false c.word-at.ensures c.word-count.ensures (tail l h) c.in-1.is) c.list_text-in-1.ensures

pub returns-in_default : goal.returns-in_default
returns-in_default c =
    let l = c.args.input.now in
    let f : from_byte l ≢ 0 = omega arith in
    let g : from_byte l ≢ 1 = omega arith in
    let p = c.put_refusal-in_default.ensures in
    rw (other-start l c.if-input-lt-HEAD.false c.if-input-gt-LONGEST.false f g) (p.0, (p.1, omega (arith, p.0, alone-fits (number_of Malformed))))
