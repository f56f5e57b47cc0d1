-- Two dumps and their differences; else no second part, or a part that is no dump.
-- Assumes nothing.
use mathlib.Core.Path.{sym, ◌∙◌}
use Rattle.dump.proofs.Telling.{too_short, left-malformed, right-malformed, both_told}
use Rattle.dump.proofs.tells.tell.Goals as goal
use Rattle.dump.proofs.tells.tell.Goals.{in_default-via-in-Some+then-is_dump+else-is_dump-2, in_default-via-in-Some+else-is_dump, in_default-via-in_default}

pub returns-in-Some : goal.returns-in-Some
returns-in-Some c =
    let h = c.in-Some.ensures.cases in
    rw (both_told c.args.input.now (rw h.1 at (sym c.is_dump.ensures ∙ c.if-is_dump.true)) (rw h.2 at (sym c.is_dump-then-is_dump.ensures ∙ c.if-is_dump-2.true)))
    (rw (h.1, h.2) at c.put_differences.ensures)

pub returns-in_default : goal.returns-in_default
returns-in_default c =
    elim c.in_default.branch [
      | in_default-via-in-Some+then-is_dump+else-is_dump-2 w ↦
          (let h = w.in-Some.ensures.cases in
          rw (right-malformed c.args.input.now (rw h.1 at (sym w.is_dump.ensures ∙ w.if-is_dump.true)) (rw h.2 at (sym w.is_dump-then-is_dump.ensures ∙ w.if-is_dump-2.false))) c.put_refusal.ensures)
      | in_default-via-in-Some+else-is_dump w ↦
          (let h = w.in-Some.ensures.cases in
          rw (left-malformed c.args.input.now (rw h.1 at (sym w.is_dump.ensures ∙ w.if-is_dump.false))) c.put_refusal.ensures)
      | in_default-via-in_default w ↦ rw (too_short c.args.input.now w.in_default.ensures.cases) c.put_refusal.ensures
    ]
