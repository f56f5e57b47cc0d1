-- Refused, or the rest is moved from where the walk ended.
-- Assumes nothing.
use Rattle.std.proofs.Common.{sym, ◌∙◌, arith}
use Rattle.journal.specs.Recorded.{in_hand}
use Rattle.journal.proofs.Walking.{walked-within, drop-refused, drop-12, drop-26, drop-broken, drop-done}
use Rattle.journal.proofs.drops.drop.Goals as goal

pub returns-then-bytes-journal : goal.returns-then-bytes-journal
returns-then-bytes-journal c = λ memory.
    let a = c.args in
    let s = in_hand memory a.journal.now a.twin in
    drop-refused a.k s _ c.refused.result (drop-12 a.k s c.if-bytes-journal.true) c.refused.ensures

pub returns-then-k-twin : goal.returns-then-k-twin
returns-then-k-twin c = λ memory.
    let a = c.args in
    let s = in_hand memory a.journal.now a.twin in
    drop-refused a.k s _ c.refused-then-k-twin.result (drop-26 a.k s c.if-bytes-journal.false c.if-k-twin.true) c.refused-then-k-twin.ensures

pub overflow_sub-left : goal.overflow_sub-left
overflow_sub-left c =
    let a = c.args in
    walked-within a.journal.now a.twin.bytes a.k _ (sym c.in-Some.is ∙ c.walk.ensures)

pub shift-requires : goal.shift-requires
shift-requires c =
    let a = c.args in
    let h = walked-within a.journal.now a.twin.bytes a.k _ (sym c.in-Some.is ∙ c.walk.ensures) in
    omega (arith, h, c.if-bytes-journal.false)

pub returns-in_default : goal.returns-in_default
returns-in_default c = λ memory.
    let a = c.args in
    let s = in_hand memory a.journal.now a.twin in
    drop-refused a.k s _ c.refused-in_default.result (drop-broken a.k s c.if-bytes-journal.false c.if-k-twin.false (sym c.in_default.is ∙ c.walk.ensures)) c.refused-in_default.ensures

pub returns : goal.returns
returns c = λ memory.
    let a = c.args in
    let s = in_hand memory a.journal.now a.twin in
    drop-done a.k s c.if-bytes-journal.false c.if-k-twin.false _ _ c.none.result (sym c.in-Some.is ∙ c.walk.ensures) c.shift.ensures c.none.ensures
