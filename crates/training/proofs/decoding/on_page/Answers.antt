-- The place of the fields is the entry of the map.
-- Assumes nothing.
use Rattle.std.proofs.Common.{◌≡◌, refl, sym, ◌∙◌, ℕ, List, Err, None, Ok, Option, Result, Some, ok_or}
use Rattle.std.proofs.lemmas.Result.{err_from_is_err_and}
use Rattle.answers.specs.declared.Refusal.{Refusal}
use Rattle.answers.specs.declared.Refusal.TheVariants.{Opcode}
use Rattle.opcodes.specs.declared.Entry.{Entry}
use Rattle.decode.specs.Decode.{decoded_as}
use Rattle.training.proofs.decoding.on_page.Goals as goal

no-entry : (o : Option Entry) (x : Refusal) (mem : List ℕ) (at : ℕ) → ok_or o Opcode ≡ Err x → Err x ≡ decoded_as o mem at
unfolding decoded_as
no-entry None x mem at h = cc
no-entry (Some e) x mem at h = cc

pub returns-in_err-entry : goal.returns-in_err-entry
returns-in_err-entry c =
    let p = err_from_is_err_and c.from_residual.result c.from_residual.ensures.1 in
    rw (p.1, p.2, ← c.place.ensures) (no-entry _ _ _ _ (sym c.ok_or.ensures.value ∙ c.in_err-entry.was))
