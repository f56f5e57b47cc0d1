-- A turn of the walk over the lines.
-- Assumes nothing.
use Rattle.std.specs.Prelude.{None, Option, Some}
use Prim.Native.Nat.{ℕ, ◌+◌, ◌-◌, ◌≤◌, ◌<◌}
use native.Mathlib.Omega.{arith}
use mathlib.Core.Path.{◌≡◌, refl, ap, ◌∙◌}
use mathlib.Core.Bool.{Bool, true, false, ◌||◌}
use mathlib.Core.List.{List, [], ◌∷◌, ◌++◌}
use lib.ListN.{length, take, drop, length-drop, drop_of_length-le}
use lib.Seq.{length-take-le}
use Rattle.answers.specs.declared.Refusal.{Refusal}
use Rattle.srecord.specs.Line.{line_of}
use Rattle.srecord.specs.File.{lines_of, line_end}
use Rattle.srecord.proofs.Lines.{line-fits, next-text}
use Rattle.salvage.specs.Lines.{is_end, has_end, Sifted, sift, gathered, line_at, turn_of}
use Rattle.salvage.specs.Mended.{kept_text, dropped_number}
use Rattle.salvage.specs.declared.Cursor.{Cursor}
use Rattle.salvage.specs.declared.Turn.{Turn}

-- what no refusal drops is kept
pub kept : (fate : Option Refusal) → ((r : Refusal) → fate ≡ Some r → ⊥) → fate ≡ None
kept None n = refl
kept (Some r) n = absurd (n r refl)

-- the cursor before the first line, field by field
pub start_is : (at : Cursor) → (at.from ≡ 0) × ((at.lines ≡ 0) × (at.ended ≡ false)) → at ≡ record { from = 0; lines = 0; ended = false }
start_is at e = λ i. record { from = e.0 i; lines = e.1.0 i; ended = e.1.1 i }

-- the lines from a cursor on
abbrev pub rest : List ℕ → Cursor → List Sifted
rest file at = sift at.ended at.lines (lines_of (drop at.from file))

-- whether a good S9 stands before the cursor or after it
abbrev pub ends : List ℕ → Cursor → Bool
ends file at = at.ended || has_end (lines_of (drop at.from file))

abbrev pub here : List ℕ → Cursor → Turn → Sifted
here file at t = record { number = t.next.lines; text = take (t.next.from - at.from) (drop at.from file); fate = t.fate }

pub record Turned (file : List ℕ) (at : Cursor) (t : Turn) : Type 0 where
  pub on : at.from < t.next.from
  pub fits : t.next.from ≤ length file
  pub counts : t.next.lines ≡ at.lines + 1
  pub sifts : rest file at ≡ here file at t ∷ rest file t.next
  pub ends-too : ends file at ≡ ends file t.next

or_assoc : (a b c : Bool) → (a || (b || c)) ≡ ((a || b) || c)
or_assoc true b c = refl
or_assoc false b c = refl

pub turned : (file : List ℕ) (at : Cursor) (t : Turn) → at.from < length file → t ≡ turn_of file at → Turned file at t
unfolding turn_of sift has_end
turned file at t h e =
    rw e
    (record {
      on = (line-fits file at.from h).0;
      fits = (line-fits file at.from h).1;
      counts = refl;
      sifts = ap (sift at.ended at.lines) (next-text file at.from h (line_end file at.from) refl);
      ends-too =
          ap (λ (ls : List (List ℕ)). at.ended || has_end ls) (next-text file at.from h (line_end file at.from) refl)
          ∙ or_assoc at.ended (is_end (line_of (line_at file at.from))) (has_end (lines_of (drop (line_end file at.from) file)));
    })

module _ (file : List ℕ) (at : Cursor) (t : Turn) (w : Turned file at t) where
  pub gathers : {A : Type 0} (f : Sifted → List A) → gathered f (rest file at) ≡ f (here file at t) ++ gathered f (rest file t.next)
  unfolding gathered
  gathers f = ap (gathered f) w.sifts

  pub line-length : length (take (t.next.from - at.from) (drop at.from file)) ≡ t.next.from - at.from
  line-length =
      let d = length-drop at.from file in
      let f = w.fits in
      length-take-le (t.next.from - at.from) (drop at.from file) (omega arith)

  pub kept-text : t.fate ≡ None → gathered kept_text (rest file at) ≡ take (t.next.from - at.from) (drop at.from file) ++ gathered kept_text (rest file t.next)
  kept-text e = gathers kept_text ∙ rw e

  pub kept-number : t.fate ≡ None → gathered dropped_number (rest file at) ≡ gathered dropped_number (rest file t.next)
  kept-number e = gathers dropped_number ∙ rw e

  module _ (r : Refusal) (e : t.fate ≡ Some r) where
    pub dropped-text : gathered kept_text (rest file at) ≡ gathered kept_text (rest file t.next)
    dropped-text = gathers kept_text ∙ rw e

    pub dropped-number : gathered dropped_number (rest file at) ≡ t.next.lines ∷ gathered dropped_number (rest file t.next)
    dropped-number = gathers dropped_number ∙ rw e

-- past the last line
module _ (file : List ℕ) (at : Cursor) (h : length file ≤ at.from) where
  pub no-rest : rest file at ≡ []
  unfolding sift lines_of
  no-rest = rw (drop_of_length-le file {i = at.from} h)

  or-false : (b : Bool) → (b || false) ≡ b
  or-false true = refl
  or-false false = refl

  pub no_end : ends file at ≡ at.ended
  unfolding has_end lines_of
  no_end = rw (drop_of_length-le file {i = at.from} h) (or-false at.ended)

  pub none : {A : Type 0} (f : Sifted → List A) → gathered f (rest file at) ≡ []
  unfolding gathered
  none f = ap (gathered f) no-rest
