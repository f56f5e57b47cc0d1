-- `write_u8u16` meets its contract.
-- Assumes nothing.
use Rattle.std.proofs.Common.{refl}
use Rattle.std.proofs.lemmas.Result.{err_from_is_err_and}
use Rattle.memory.specs.Access.{wrote_of, memory_after}
use Rattle.memory.proofs.Folds.{listed_back}
use Rattle.memory.proofs.access.write_u8u16.Goals as goal

pub returns-in_err-write_answer : goal.returns-in_err-write_answer
unfolding wrote_of memory_after
returns-in_err-write_answer c =
    let p = err_from_is_err_and c.from_residual.result c.from_residual.ensures.1 in
    rw (p.1, p.2, ← c.write_answer.ensures, c.in_err-write_answer.was) (refl, refl)

pub returns : goal.returns
unfolding wrote_of memory_after
returns c =
    rw (
      c.store_all.ensures.0,
      c.store_all.ensures.1,
      c.value_writes-listed.ensures,
      c.is_system.ensures,
      listed_back _,
      ← c.write_answer.ensures,
      c.in_ok-write_answer.was,
    )
    (refl, refl)
