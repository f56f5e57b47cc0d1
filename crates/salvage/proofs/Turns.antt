-- A turn by what `line_of` answers.
-- Assumes nothing.
use Rattle.std.specs.Prelude.{Err, None, Ok, Option, Result, Some}
use Prim.Native.Nat.{ℕ, ◌-◌}
use mathlib.Core.Path.{◌≡◌, refl, ap, ◌∙◌}
use mathlib.Core.Bool.{Bool, true, false}
use mathlib.Core.List.{List}
use lib.ListN.{take, drop}
use Rattle.srecord.specs.Line.{Meaning, heading, piece, start, refused, line_of, line_answer}
use Rattle.srecord.specs.File.{line_end}
use Rattle.srecord.specs.declared.line.Line.{Line}
use Rattle.srecord.specs.declared.line.Line.TheVariants.{Header, Data, End}
use Rattle.salvage.specs.Lines.{fate_of, is_end, passing, line_at, turn_of}
use Rattle.salvage.specs.declared.Cursor.{Cursor}
use Rattle.answers.specs.declared.Refusal.{Refusal}
use Rattle.answers.specs.declared.Refusal.TheVariants.{LineShape}

abbrev fate_by : Result Line Refusal → Option Refusal
fate_by (Ok l) = None
fate_by (Err r) = Some r

abbrev end_by : Result Line Refusal → Bool
end_by (Ok Header) = false
end_by (Ok (Data a n)) = false
end_by (Ok (End a)) = true
end_by (Err r) = false

no-end : (l : Line) → ((a : ℕ) → l ≡ End a → ⊥) → end_by (Ok l) ≡ false
no-end Header n = refl
no-end (Data a k) n = refl
no-end (End a) n = absurd (n a refl)

fate-answer : (m : Meaning) → fate_by (line_answer m) ≡ fate_of false m
fate-answer (heading d) = refl
fate-answer (piece a d) = refl
fate-answer (start a) = refl
fate-answer (refused r) = refl

end-answer : (m : Meaning) → end_by (line_answer m) ≡ is_end m
end-answer (heading d) = refl
end-answer (piece a d) = refl
end-answer (start a) = refl
end-answer (refused r) = refl

module _ (file : List ℕ) (at : Cursor) (end : ℕ) (e : end ≡ line_end file at.from) where
  pub after-end : at.ended ≡ true → passing at end (Some LineShape) true ≡ turn_of file at
  unfolding turn_of
  after-end h = rw (h, e)

  pub by_answer : (l : Result Line Refusal) → at.ended ≡ false → line_answer (line_of (take (end - at.from) (drop at.from file))) ≡ l → passing at end (fate_by l) (end_by l) ≡ turn_of file at
  unfolding turn_of
  by_answer l h a =
      rw (← a, h, ← fate-answer (line_of (line_at file at.from)), ← end-answer (line_of (line_at file at.from)), ← e)

  pub by_end : (l : Line) (a : ℕ) → l ≡ End a → at.ended ≡ false → line_answer (line_of (take (end - at.from) (drop at.from file))) ≡ Ok l → passing at end None true ≡ turn_of file at
  by_end l a q h e = by_answer (Ok (End a)) h (e ∙ ap (λ (m : Line). Ok m) q)

  pub by_line : (l : Line) → ((a : ℕ) → l ≡ End a → ⊥) → at.ended ≡ false → line_answer (line_of (take (end - at.from) (drop at.from file))) ≡ Ok l → passing at end None false ≡ turn_of file at
  by_line l n h e = rw (no-end l n) at (by_answer (Ok l) h e)
