-- The lower half as it is, the upper half less h + h (`Signed`).
-- Assumes nothing.
use Rattle.whole.proofs.Signed.{low_half, high-fit, high_half}
use Rattle.whole.proofs.numbers.signed.Goals as goal

pub overflow_sub-result : goal.overflow_sub-result
overflow_sub-result c = let x = c.args in high-fit x.half x.a c.requires.0.most c.if-a-half.false c.requires.1

pub returns-then-a-half : goal.returns-then-a-half
returns-then-a-half c =
    let x = c.args in
    let h = low_half x.half x.a c.requires.0.most c.if-a-half.true in
    record { value = h.0; result_bound = h.1 }

pub returns-else-a-half : goal.returns-else-a-half
returns-else-a-half c =
    let x = c.args in
    let h = high_half x.half x.a c.requires.0.most c.if-a-half.false c.requires.1 in
    record { value = h.0; result_bound = h.1 }
