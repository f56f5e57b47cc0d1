-- For the recorded step, whose record is written from what was decided (docs/PERFORMANCE.md): the statements of its private functions. No rule of
-- the journal is here.
-- Assumes nothing.
use Rattle.std.specs.Prelude.{ℕ, zero, suc, ◌+◌, ◌-◌, ◌*◌, ◌≤◌, false, List, [], ◌∷◌, ◌≡◌, length, get_or, Err, Ok, Result}
use Rattle.std.proofs.lemmas.List.Edits.{sets}
use Rattle.registers.specs.declared.Name.{Name}
use Rattle.registers.specs.declared.Set.{Set}
use Rattle.memory.specs.Writes.{listed}
use Rattle.machine.specs.declared.Settings.{Settings}
use Rattle.stack.specs.Pushing.{chosen, pushes}
use Rattle.calls.specs.declared.Plan.{Plan}
use Rattle.journal.specs.Record.{Saved, entry_length, entries_at, entries, most_stored}
use Rattle.journal.specs.Recorded.{State, Ended, saved_for, plan_answer, concluded}
use Rattle.answers.specs.declared.Refusal.{Refusal}

-- the entries of n places from one on, rising
unfoldable pub saved_from : ℕ → ℕ → List ℕ → List Saved
saved_from at zero mem = []
saved_from at (suc n) mem = record { place = at; byte = get_or mem at 0 } ∷ saved_from (at + 1) n mem

-- a record once the registers that a post-byte names among these are saved too, of a push from a pointer that has come down to p
abbrev pub left_to_save : ℕ → Set → List ℕ → ℕ → ℕ → ℕ → List (ℕ × Name) → List ℕ → List ℕ
left_to_save top r mem pointer p mask slots rest =
    sets rest (entries_at + (pointer - p) * entry_length) (entries (saved_for top (pushes r false p (chosen mask slots)) mem))

-- a plan is refused so, or has so many entries
abbrev pub CountsFor : ℕ → List ℕ → Plan → Result ℕ Refusal → Type 0
CountsFor top mem p (Err x) = p.answer ≡ Err x
CountsFor top mem p (Ok n) = (p.answer ≡ (Ok tt)) × (n ≤ most_stored) × (n ≡ length (saved_for top (listed p.writes) mem))

-- how a call that was admitted ends with this plan
abbrev pub concluded_for : Settings → Plan → State → Ended
concluded_for t p s = concluded (plan_answer t p s) t p s
