-- `put_line`: five texts, each stored right after the one before, are the line.
-- Assumes nothing.
use Rattle.std.proofs.Common.{◌≡◌, ◌/◌, ◌%◌, get_or, rules}
use Rattle.srecord.proofs.Rows.{sum_fields, line-put}
use Rattle.srecord.proofs.written.put_line.Goals as goal

pub returns : goal.returns
returns c =
    let a = c.args in
    let h : get_or c.to_be_bytes.result 0 0 ≡ a.address / 256 = rw c.to_be_bytes.ensures (search rules) in
    let l : get_or c.to_be_bytes.result 1 0 ≡ a.address % 256 = rw c.to_be_bytes.ensures (search rules) in
    line-put a.at a.kind a.address _ a.list.now a.out.now _ _ _ _ _ c.put.ensures (rw (h, l) at c.put_pairs.ensures) c.put_pairs-2.ensures c.put_pairs-3.ensures c.put-2.ensures
    (sum_fields _ _ _ _ _ (rw (c.sum_of.ensures, c.sum_of-2.ensures, h, l)))
