-- `read` by the answer: memory of another length, a file that is taken, a file that is refused.
-- Assumes nothing.
use Rattle.std.proofs.Common.{sym, ◌∙◌}
use Rattle.std.proofs.lemmas.Result.{err_from_is_err_and}
use Rattle.srecord.proofs.Calls.{read_length, read_done, read-refused}
use Rattle.srecord.proofs.file.read.Goals as goal

pub returns-then-mem-ne65536 : goal.returns-then-mem-ne65536
returns-then-mem-ne65536 c = read_length c.args.mem.now c.args.file.now c.if-mem-ne65536.true

pub returns-in_err-start : goal.returns-in_err-start
returns-in_err-start c =
    let p = err_from_is_err_and c.from_residual.result c.from_residual.ensures.1 in rw (p.1, p.2) (read-refused c.args.mem.now c.args.file.now c.if-mem-ne65536.false _ (sym c.in_err-start.was ∙ c.judge.ensures))

pub returns : goal.returns
returns c = let r = read_done c.args.mem.now c.args.file.now c.if-mem-ne65536.false _ (sym c.in_ok-start.was ∙ c.judge.ensures) in (r.0, c.store_lines.ensures ∙ r.1)
