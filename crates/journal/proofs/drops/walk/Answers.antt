-- After so many turns the walk is over so many records, each of which is within the bytes used.
-- Assumes nothing.
use Rattle.std.proofs.Common.{◌≡◌, ◌+◌, refl, ap, ◌∙◌, arith}
use Rattle.journal.specs.Drops.{reach, walks}
use Rattle.journal.proofs.Walking.{no-count, thirteen, too_long, one_more, broken, reach-more, walks_more, walked}
use Rattle.journal.proofs.drops.walk.Goals as goal

pub loop-init : goal.loop-init
unfolding reach walks
loop-init c = record { within = omega arith; reached = refl; walked = refl }

pub returns-then-bytes-at-lt-ENTRIES : goal.returns-then-bytes-at-lt-ENTRIES
returns-then-bytes-at-lt-ENTRIES c =
    let l = c.loop in
    let a = c.args in
    broken a.journal.now a.bytes l.counter l.at a.k c.loop-test.true l.invariant.reached
    (no-count a.journal.now a.bytes l.at l.invariant.within c.if-bytes-at-lt-ENTRIES.true)

pub returns-then-n-gt-MOST : goal.returns-then-n-gt-MOST
returns-then-n-gt-MOST c =
    let l = c.loop in
    let a = c.args in
    broken a.journal.now a.bytes l.counter l.at a.k c.loop-test.true l.invariant.reached
    (thirteen a.journal.now a.bytes l.at c.if-n-gt-MOST.true)

pub returns-then-bytes-at : goal.returns-then-bytes-at
returns-then-bytes-at c =
    let l = c.loop in
    let a = c.args in
    broken a.journal.now a.bytes l.counter l.at a.k c.loop-test.true l.invariant.reached
    (too_long a.journal.now a.bytes l.at l.invariant.within (omega (arith, c.record_length-size.ensures, c.if-bytes-at.true)))

pub loop-preserved : goal.loop-preserved
loop-preserved c =
    let l = c.loop in
    let a = c.args in
    let r = c.record_length-size.ensures in
    let w = one_more a.journal.now a.bytes l.at l.invariant.within c.if-bytes-at-lt-ENTRIES.false c.if-n-gt-MOST.false (omega (arith, r, c.if-bytes-at.false)) in
    record {
      within = omega (arith, l.invariant.within, c.if-bytes-at.false);
      reached = ap (λ n. l.at + n) r ∙ reach-more a.journal.now a.bytes l.counter l.at l.invariant.reached;
      walked = walks_more a.journal.now a.bytes l.counter l.at l.invariant.reached l.invariant.walked w;
    }

pub returns : goal.returns
returns c =
    let l = c.loop in
    let a = c.args in
    let e : l.counter ≡ a.k = omega (arith, l.auto.counter-end, c.loop-test.false) in
    walked a.journal.now a.bytes a.k l.at (rw (← e) l.invariant.reached) (rw (← e) l.invariant.walked)
