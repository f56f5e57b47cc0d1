-- Refused, full, or recorded.
-- Assumes nothing.
use mathlib.Core.Path.{◌≡◌, refl, sym, ap, ◌∙◌}
use native.Mathlib.Omega.{arith}
use Prim.Native.Nat.{◌+◌, ◌≤◌}
use lib.ListN.{length}
use Rattle.memory.specs.Writes.{listed, writes_of, reported}
use Rattle.calls.specs.Decisions.{plan_told}
use Rattle.calls.specs.declared.Plan.{Plan}
use Rattle.calls.specs.declared.Report.{Report}
use Rattle.calls.proofs.Passing.{plain-free}
use Rattle.journal.specs.Record.{most_stored, record_length}
use Rattle.journal.specs.Recorded.{in_hand, record_for, plan_answer, recorded}
use Rattle.journal.specs.Told.{CountsFor}
use Rattle.journal.proofs.Answers.{refused-leaves, record-size, plan-refused, plan-full, plan-fits, recorded-leaves}
use Rattle.journal.proofs.Laying.{placed}
use Rattle.journal.proofs.ToldEntries.{quiet_told}
use Rattle.journal.proofs.told.conclude_told.Goals as goal

pub count_told-requires : goal.count_told-requires
count_told-requires c = c.requires.0

pub record_length-size-requires : goal.record_length-size-requires
record_length-size-requires c =
    let a = c.args in
    let k = rw c.in-Ok.is at (c.count_told.ensures a.twin.machine a.mem.now) in
    k.1

pub returns-then-journal-twin : goal.returns-then-journal-twin
returns-then-journal-twin c =
    let a = c.args in
    let s = in_hand a.mem.now a.journal.now a.twin in
    let p = plan_told a.twin.machine a.settings a.mem.now a.decision in
    let k = rw c.in-Ok.is at (c.count_told.ensures a.twin.machine a.mem.now) in
    let z = record-size a.settings p s _ _ k.2 c.record_length-size.ensures in
    refused-leaves (plan_answer a.settings p s) s (recorded a.settings p s) (reported a.settings.ram_top (listed p.writes)) p.reads (length (listed p.writes)) _ c.refused-then-journal-twin.result
    (plan-full a.settings p s k.0 (omega (arith, z, c.if-journal-twin.true))) c.refused-then-journal-twin.ensures

pub write_told-requires : goal.write_told-requires
write_told-requires c =
    let a = c.args in
    let z = c.record_length-size.ensures in
    let left = c.if-journal-twin.false in
    ((c.requires.1.0, c.requires.0), ((rw c.in-Ok.is at (c.count_told.ensures a.twin.machine a.mem.now)).1, (omega arith, λ m. (rw c.in-Ok.is at (c.count_told.ensures m a.mem.now)).2)))

pub returns-in-Err : goal.returns-in-Err
returns-in-Err c =
    let a = c.args in
    let s = in_hand a.mem.now a.journal.now a.twin in
    let p = plan_told a.twin.machine a.settings a.mem.now a.decision in
    let k = rw c.in-Err.is at (c.count_told.ensures a.twin.machine a.mem.now) in
    refused-leaves (plan_answer a.settings p s) s (recorded a.settings p s) (reported a.settings.ram_top (listed p.writes)) p.reads (length (listed p.writes)) _ c.refused.result
    (plan-refused a.settings p s _ k) c.refused.ensures

pub returns : goal.returns
unfolding record_for
returns c =
    let a = c.args in
    let s = in_hand a.mem.now a.journal.now a.twin in
    let p = plan_told a.twin.machine a.settings a.mem.now a.decision in
    let k = rw c.in-Ok.is at (c.count_told.ensures a.twin.machine a.mem.now) in
    let r = c.record_length-size.ensures in
    let z = record-size a.settings p s _ _ k.2 r in
    let room : a.twin.bytes + length (record_for a.settings p s) ≤ length a.journal.now = omega (arith, z, c.if-journal-twin.false, c.requires.1.1.0) in
    let f = plain-free a.twin.machine a.settings a.mem.now a.decision c.requires.0 in
    let w = rw f at c.carry-report.ensures in
    let d = c.none.ensures ∙ ap writes_of (sym (quiet_told a.twin.machine a.settings a.mem.now a.decision c.requires.0)) in
    let m = ap (λ (x : Report). x.machine) w.0 in
    rw (c.after.ensures, m)
    (recorded-leaves a.settings p s _ _ _ _ _ _ _
    (plan-fits a.settings p s k.0 room) refl z d (ap (λ (x : Report). x.reads) w.0) (ap (λ (x : Report). x.writes) w.0) w.1
    (placed a.twin.bytes (record_length c.in-Ok.n) (record_for a.settings p s) a.journal.now c.write_told.new.rest (sym r ∙ z) (omega (arith, r, z, room)) (c.write_told.ensures a.twin.machine)))
