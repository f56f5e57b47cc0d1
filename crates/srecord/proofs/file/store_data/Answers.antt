-- `store_data`: the first i data bytes are stored.
-- Assumes nothing.
use Rattle.std.proofs.Common.{take, drop, sym, ◌∙◌, arith, length-set, take_all}
use Rattle.srecord.proofs.Laying.{sets_more}
use Rattle.srecord.proofs.Bytes.{data-length, data-at}
use Rattle.srecord.specs.Line.{line_bytes}
use Rattle.srecord.proofs.file.store_data.Goals as goal

pub loop-i-preserved : goal.loop-i-preserved
loop-i-preserved c =
    let l = c.loop-i in
    let a = c.args in
    let n = data-length (line_bytes a.text.now) a.count (omega arith) in
    (simp length-set l.invariant.0, sets_more a.address l.i c.byte.result (take a.count (drop 3 (line_bytes a.text.now))) a.mem.now l.mem (omega arith) l.invariant.1 (c.byte.ensures ∙ sym (data-at (line_bytes a.text.now) a.count (omega arith) l.i (omega arith))))

pub shape_of-mem : goal.shape_of-mem
shape_of-mem c = c.loop-i.invariant.0

pub returns : goal.returns
returns c =
    let a = c.args in
    let n = data-length (line_bytes a.text.now) a.count (omega arith) in
    c.loop-i.invariant.1 ∙ rw (take_all c.loop-i.i (take a.count (drop 3 (line_bytes a.text.now))) (omega arith))
