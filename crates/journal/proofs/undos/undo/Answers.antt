-- Refused, or the newest record, which is whole, is read back.
-- Assumes nothing.
use Rattle.std.proofs.Common.{◌≡◌, ◌<◌, length, arith, sym, ◌∙◌}
use borrow.Author.Tests.{eqb-true, eqb-false}
use Rattle.journal.specs.Record.{count_of}
use Rattle.journal.specs.Recorded.{in_hand}
use Rattle.journal.proofs.Answers.{newest-some, newest-none, undo-refused, undo-1, undo-12, undo-11, undo-record, undo-done}
use Rattle.journal.proofs.undos.undo.Goals as goal

pub returns-then-mem-ne65536-clause-leaves : goal.returns-then-mem-ne65536-clause-leaves
returns-then-mem-ne65536-clause-leaves c =
    let a = c.args in
    let s = in_hand a.mem.now a.journal.now a.twin in
    undo-refused s _ c.refused.result (undo-1 s c.if-mem-ne65536.true) c.refused.ensures

pub returns-then-twin-journal-clause-leaves : goal.returns-then-twin-journal-clause-leaves
returns-then-twin-journal-clause-leaves c =
    let a = c.args in
    let s = in_hand a.mem.now a.journal.now a.twin in
    undo-refused s _ c.refused-then-twin-journal.result (undo-12 s c.if-mem-ne65536.false c.if-twin-journal.true) c.refused-then-twin-journal.ensures

pub returns-then-twin-eq0-clause-leaves : goal.returns-then-twin-eq0-clause-leaves
returns-then-twin-eq0-clause-leaves c =
    let a = c.args in
    let s = in_hand a.mem.now a.journal.now a.twin in
    undo-refused s _ c.refused-then-twin-eq0.result (undo-11 s c.if-mem-ne65536.false c.if-twin-journal.false c.if-twin-eq0.true) c.refused-then-twin-eq0.ensures

pub returns-then-is_empty-clause-leaves : goal.returns-then-is_empty-clause-leaves
returns-then-is_empty-clause-leaves c =
    let a = c.args in
    let s = in_hand a.mem.now a.journal.now a.twin in
    let z : length c.newest-r.result.now ≡ 0 = eqb-true (length c.newest-r.result.now) 0 (sym c.is_empty.ensures ∙ c.if-is_empty.true) in
    let n = newest-none a.journal.now a.twin.bytes c.if-twin-journal.false a.twin.records (omega arith) _ c.newest-r.ensures.result_value z in
    undo-refused s _ c.refused-then-is_empty.result (undo-record s c.if-mem-ne65536.false c.if-twin-journal.false (omega arith) n) c.refused-then-is_empty.ensures

pub bounds-r-32 : goal.bounds-r-32
bounds-r-32 c =
    let a = c.args in
    let z : 0 < length c.newest-r.result.now = omega (arith, eqb-false (length c.newest-r.result.now) 0 (sym c.is_empty.ensures ∙ c.if-is_empty.false)) in
    let n = newest-some a.journal.now a.twin.bytes c.if-twin-journal.false a.twin.records (omega arith) _ c.newest-r.ensures.result_value z in
    omega (arith, n.long)

pub put_back-requires : goal.put_back-requires
unfolding count_of
put_back-requires c =
    let a = c.args in
    let z : 0 < length c.newest-r.result.now = omega (arith, eqb-false (length c.newest-r.result.now) 0 (sym c.is_empty.ensures ∙ c.if-is_empty.false)) in
    let n = newest-some a.journal.now a.twin.bytes c.if-twin-journal.false a.twin.records (omega arith) _ c.newest-r.ensures.result_value z in
    (c.if-mem-ne65536.false, (omega (arith, n.long), n.few))

pub overflow_sub-result-2 : goal.overflow_sub-result-2
overflow_sub-result-2 c =
    let a = c.args in
    let z : 0 < length c.newest-r.result.now = omega (arith, eqb-false (length c.newest-r.result.now) 0 (sym c.is_empty.ensures ∙ c.if-is_empty.false)) in
    let n = newest-some a.journal.now a.twin.bytes c.if-twin-journal.false a.twin.records (omega arith) _ c.newest-r.ensures.result_value z in
    n.within-used

pub returns-clause-leaves : goal.returns-clause-leaves
unfolding count_of
returns-clause-leaves c =
    let a = c.args in
    let s = in_hand a.mem.now a.journal.now a.twin in
    let z : 0 < length c.newest-r.result.now = omega (arith, eqb-false (length c.newest-r.result.now) 0 (sym c.is_empty.ensures ∙ c.if-is_empty.false)) in
    let n = newest-some a.journal.now a.twin.bytes c.if-twin-journal.false a.twin.records (omega arith) _ c.newest-r.ensures.result_value z in
    undo-done s c.if-mem-ne65536.false c.if-twin-journal.false (omega arith) _ _ _ c.none.result n c.machine_of.ensures c.put_back.ensures c.none.ensures
