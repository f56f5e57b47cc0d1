-- The post-byte is read within FFFF; its form or its refusal decides the rest.
-- Assumes nothing.
use Rattle.std.proofs.Common.{◌+◌, ap, ◌∙◌, arith, le-leb}
use Rattle.std.proofs.lemmas.Result.{err_from_is_err_and}
use borrow.Author.Tests.{lt-leb}
use Rattle.memory.specs.Map.{byte_at}
use Rattle.decode.specs.Operand.{operand_at}
use Rattle.decode.proofs.Reaching.{within}
use Rattle.decode.proofs.operand.indexed_at.Goals as goal

pub returns-then-at-gt65535 : goal.returns-then-at-gt65535
unfolding operand_at
returns-then-at-gt65535 c = rw (lt-leb (c.args.at + 1) 0x10000 (omega (arith, c.if-at-gt65535.true)))

pub returns : goal.returns
unfolding operand_at
returns c =
    let x = c.args in
    let h = c.if-at-gt65535.false in
    let e = c.byte_at-post.ensures ∙ ap (byte_at x.mem.now) (within x.at (omega arith)) in
    rw (
      c.with_form.ensures,
      le-leb (x.at + 1) 0x10000 (omega arith),
      ← e,
      ← c.form_of.ensures,
      c.in_ok-form_of.was,
    )

pub returns-in_err-form_of : goal.returns-in_err-form_of
unfolding operand_at
returns-in_err-form_of c =
    let x = c.args in
    let h = c.if-at-gt65535.false in
    let e = c.byte_at-post.ensures ∙ ap (byte_at x.mem.now) (within x.at (omega arith)) in
    let p = err_from_is_err_and c.from_residual.result c.from_residual.ensures.1 in
    rw (
      p.1,
      p.2,
      le-leb (x.at + 1) 0x10000 (omega arith),
      ← e,
      ← c.form_of.ensures,
      c.in_err-form_of.was,
    )
