-- Refused, full, or recorded.
-- Assumes nothing.
use Prim.Native.Nat.{◌+◌, ◌≤◌}
use mathlib.Core.Path.{◌≡◌, refl, sym, ap, ◌∙◌}
use native.Mathlib.Omega.{arith}
use lib.ListN.{length, take, drop}
use Rattle.memory.specs.Writes.{listed, reported}
use Rattle.calls.specs.declared.Report.{Report}
use Rattle.journal.specs.Record.{most_stored, record_length}
use Rattle.journal.specs.Recorded.{in_hand, record_for, plan_answer, recorded}
use Rattle.journal.proofs.Answers.{refused-leaves, record-size, plan-refused, plan-full, plan-fits, recorded-leaves}
use Rattle.journal.proofs.Laying.{placed}
use Rattle.journal.proofs.recorded.conclude.Goals as goal

-- the record does not fit
pub returns-then-journal-twin : goal.returns-then-journal-twin
returns-then-journal-twin c =
    let a = c.args in
    let s = in_hand a.mem.now a.journal.now a.twin in
    let z = record-size a.settings a.plan s _ _ (c.count_entries-n.ensures.1 a.mem.now) c.record_length-size.ensures in
    refused-leaves (plan_answer a.settings a.plan s) s (recorded a.settings a.plan s) (reported a.settings.ram_top (listed a.plan.writes)) a.plan.reads (length (listed a.plan.writes)) _ c.refused-then-journal-twin.result
    (plan-full a.settings a.plan s c.in_default.is (omega (arith, z, c.if-journal-twin.true))) c.refused-then-journal-twin.ensures

pub write_record-requires : goal.write_record-requires
write_record-requires c =
    let a = c.args in
    let n = c.count_entries-n.ensures in
    (n.1 a.mem.now, (n.0, (omega arith, c.requires.0)))

pub returns-in-Err : goal.returns-in-Err
returns-in-Err c =
    let a = c.args in
    let s = in_hand a.mem.now a.journal.now a.twin in
    refused-leaves (plan_answer a.settings a.plan s) s (recorded a.settings a.plan s) (reported a.settings.ram_top (listed a.plan.writes)) a.plan.reads (length (listed a.plan.writes)) _ c.refused.result
    (plan-refused a.settings a.plan s _ c.in-Err.is) c.refused.ensures

pub returns : goal.returns
unfolding record_for
returns c =
    let a = c.args in
    let s = in_hand a.mem.now a.journal.now a.twin in
    let d = c.in_default.is in
    let r = c.record_length-size.ensures in
    let z = record-size a.settings a.plan s _ _ (c.count_entries-n.ensures.1 a.mem.now) r in
    let room : a.twin.bytes + length (record_for a.settings a.plan s) ≤ length a.journal.now = omega (arith, z, c.if-journal-twin.false, c.requires.1.0) in
    let w = c.carry_out-report.ensures in
    let m = ap (λ (x : Report). x.machine) w.0 in
    rw (c.after.ensures, m)
    (recorded-leaves a.settings a.plan s _ _ _ _ _ _ _
    (plan-fits a.settings a.plan s d room) refl z (ap (λ (x : Report). x.devices) w.0) (ap (λ (x : Report). x.reads) w.0) (ap (λ (x : Report). x.writes) w.0) w.1
    (placed a.twin.bytes (record_length c.count_entries-n.result) (record_for a.settings a.plan s) a.journal.now c.write_record.new.rest (sym r ∙ z) (omega (arith, r, z, room)) c.write_record.ensures))
