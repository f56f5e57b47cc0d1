-- Undos one after the other, until one is refused or a hundred thousand are accepted: more than the journal of any scene has records.
-- Assumes nothing.
use Rattle.std.specs.Prelude.{◌≡◌, ℕ, zero, suc, ◌+◌, cond, List, [], Ok, is_err}
use Rattle.journal.specs.Recorded.{State, Ended, ending, returned}
use Rattle.journal.specs.Undos.{undone}
use Rattle.scenery.specs.declared.start.Undone.{Undone}

-- how the last undo ended, and how many were accepted
pub record Undid : Type 0 where
  pub last : Ended
  pub undos : ℕ

-- at most so many undos more, after some that were accepted, the last of which ended as e; a refused undo is the last, and does not count
unfoldable pub undoing : ℕ → ℕ → Ended → Undid
undoing zero undos e = record { last = e; undos = undos }
undoing (suc n) undos e =
    let f = undone e.state in
    cond (is_err f.answer) (record { last = f; undos = undos }) (undoing n (undos + 1) f)

-- before the first nothing is refused, reported or counted
abbrev pub undone_from : State → Undid
undone_from s = undoing 100000 0 (ending (Ok tt) s s [] 0 0)

-- a result and a memory are those of undos that ended so
pub record UndosLeave (o : Undone) (memory : List ℕ) (u : Undid) : Type 0 where
  pub result : o ≡ record { last = returned u.last; undos = u.undos }
  pub memory-is : memory ≡ u.last.state.memory
