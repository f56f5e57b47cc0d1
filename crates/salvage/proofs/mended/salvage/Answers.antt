-- By what is too short: the output for the kept lines, or for S9 after them, or the list; else all is written.
-- Assumes nothing.
use native.Mathlib.Omega.{arith}
use Rattle.salvage.proofs.Calls.{numbers-same, no_room, no-list, accepts}
use Rattle.salvage.proofs.mended.salvage.Goals as goal

pub returns-then-out-found : goal.returns-then-out-found
returns-then-out-found c =
    no_room _ _ c.count-found.ensures _ c.end_length-more.ensures c.args.out.now c.args.list.now (omega arith)

pub returns-then-out-found-2 : goal.returns-then-out-found-2
returns-then-out-found-2 c =
    no_room _ _ c.count-found.ensures _ c.end_length-more.ensures c.args.out.now c.args.list.now (omega arith)

pub returns-then-list-found : goal.returns-then-list-found
returns-then-list-found c =
    no-list _ _ c.count-found.ensures _ c.end_length-more.ensures c.args.out.now c.args.list.now (omega arith)

pub put_lines-requires : goal.put_lines-requires
put_lines-requires c = omega (arith, numbers-same _ _ c.count-found.ensures)

pub returns : goal.returns
returns c =
    let p = c.put_lines.ensures in
    accepts _ _ c.count-found.ensures _ c.end_length-more.ensures c.args.out.now c.args.list.now _ _ _ (omega arith) (omega arith) p.0 c.put_end.ensures p.1
