-- A section from its front: one piece or one operation more; and what follows the pieces.
-- Assumes nothing.
use Rattle.std.specs.Prelude.{None, Ok, Result, Some}
use Prim.Native.Nat.{ℕ, zero, suc, ◌+◌, ◌-◌, ◌≤◌, ◌<◌}
use mathlib.Core.Path.{◌≡◌, refl, sym}
use mathlib.Core.List.{List, ◌∷◌}
use native.Mathlib.Omega.{arith}
use borrow.Author.Tests.{eq-eqb, ne_eqb}
use lib.ListN.{length}
use lib.Seq.{sets}
use Rattle.runfile.specs.Format.{Read, got, missing, and_then, word_in, two_bytes_at, piece_at, pieces_at, operation_at, operations_at, Piece, RunFile, malformed, wholly, next_of, pieces_laid, loaded, placed, end_of, laid_of}
use Rattle.runfile.specs.declared.FileSettings.{FileSettings}
use Rattle.runfile.specs.declared.Operation.{Operation}
use Rattle.runfile.proofs.Reading.{word_got, word-missing, this, size, piece-missing, piece-got, operation-got}
use Rattle.runfile.proofs.Operations.{operations-length}
use Rattle.answers.specs.declared.Refusal.{Refusal}
use Rattle.runfile.specs.declared.Start.{Start}

-- one more at the front of a section ends where the section ends
one_more : {A : Type 0} (n : ℕ) (x : A) (r : Read (List A)) → end_of n (and_then r λ l end. got (x ∷ l) end) ≡ end_of n r
one_more n x (got l end) = refl
one_more n x missing = refl

module _ (file : List ℕ) where
  -- past the file no piece stands
  past : (k : ℕ) → end_of (length file) (pieces_at file k (length file + 1)) ≡ length file + 1
  unfolding pieces_at
  past zero = refl
  past (suc k) = rw (piece-missing file (length file + 1) (omega arith))

  module _ (k at : ℕ) where
    pub piece-end : end_of (length file) (pieces_at file (suc k) at) ≡ end_of (length file) (pieces_at file k (end_of (length file) (piece_at file at)))
    unfolding pieces_at
    piece-end = go (piece_at file at)
      where
        go : (r : Read Piece) → end_of (length file) (and_then r λ p next. and_then (pieces_at file k next) λ ps end. got (p ∷ ps) end)
            ≡ end_of (length file) (pieces_at file k (end_of (length file) r))
        go (got p next) = one_more (length file) p (pieces_at file k next)
        go missing = sym (past k)

    module _ (within : end_of (length file) (pieces_at file (suc k) at) ≤ length file) where
      pub piece-stands : (piece_at file at ≡ got (this file at) (at + 4 + size file at)) × (at + 4 + size file at ≤ length file)
      unfolding pieces_at
      piece-stands = go (piece_at file at) refl within
        where
          go : (r : Read Piece) → piece_at file at ≡ r → end_of (length file) (and_then r λ p next. and_then (pieces_at file k next) λ ps end. got (p ∷ ps) end) ≤ length file
              → (piece_at file at ≡ got (this file at) (at + 4 + size file at)) × (at + 4 + size file at ≤ length file)
          go (got p next) e h = piece-got file at e
          go missing e h = absurd (omega arith)

      pub piece-laid : (mem : List ℕ) → laid_of (pieces_at file (suc k) at) mem ≡ laid_of (pieces_at file k (at + 4 + size file at)) (sets mem (this file at).address (this file at).bytes)
      unfolding pieces_at
      piece-laid mem = rw piece-stands.0 (go (pieces_at file k (at + 4 + size file at)) (rw piece-stands.0 at within))
        where
          go : (r : Read (List Piece)) → end_of (length file) (and_then r λ ps end. got (this file at ∷ ps) end) ≤ length file
              → laid_of (and_then r λ ps end. got (this file at ∷ ps) end) mem ≡ laid_of r (sets mem (this file at).address (this file at).bytes)
          go (got ps end) h = refl
          go missing h = absurd (omega arith)

    pub no-operation : next_of (operation_at file at) ≡ None → end_of (length file) (operations_at file (suc k) at) ≡ length file + 1
    unfolding operations_at
    no-operation e = go (operation_at file at) e
      where
        go : (r : Read Operation) → next_of r ≡ None → end_of (length file) (and_then r λ o next. and_then (operations_at file k next) λ os end. got (o ∷ os) end) ≡ length file + 1
        go (got o next) e = cc
        go missing e = refl

    pub operation-end : {o : Operation} → next_of (operation_at file at) ≡ Some o
        → (end_of (length file) (operations_at file (suc k) at) ≡ end_of (length file) (operations_at file k (at + 1))) × (at + 1 ≤ length file)
    unfolding operations_at
    operation-end {o} e = go (operation_at file at) refl e
      where
        go : (r : Read Operation) → operation_at file at ≡ r → next_of r ≡ Some o
            → (end_of (length file) (and_then r λ o next. and_then (operations_at file k next) λ os end. got (o ∷ os) end) ≡ end_of (length file) (operations_at file k (at + 1))) × (at + 1 ≤ length file)
        go (got p next) h e = let q = operation-got file at h in (rw q.0 (one_more (length file) p (operations_at file k (at + 1))), q.1)
        go missing h e = let z : ◌≡◌ {A = ℕ} 0 1 = cc in absurd (omega arith)

-- ---- what follows the pieces

module _ (file : List ℕ) (s : FileSettings) where
  abbrev said : List Piece → List Operation → RunFile
  said ps os = record { settings = s; pieces = ps; operations = os }

  abbrev pub after_pieces : List Piece → ℕ → Read RunFile
  after_pieces ps next = and_then (two_bytes_at file next) λ m start. and_then (operations_at file m start) λ os end. got (said ps os) end

  -- the operations that are counted at a place
  abbrev pub counted : ℕ → Read (List Operation)
  counted at = operations_at file (word_in file at) (at + 2)

  -- no count
  pub short-after : (r : Read (List Piece)) → length file < end_of (length file) r + 2 → wholly (length file) (and_then r after_pieces) ≡ malformed
  short-after (got ps next) h = rw (word-missing file next h)
  short-after missing h = refl

  -- the operations do not end the file
  pub spare-after : (r : Read (List Piece)) → end_of (length file) r + 2 ≤ length file → (end_of (length file) (counted (end_of (length file) r)) ≡ length file → ⊥)
      → wholly (length file) (and_then r after_pieces) ≡ malformed
  spare-after (got ps next) l h = rw (word_got file next l) (go (counted next) h)
    where
      go : (q : Read (List Operation)) → (end_of (length file) q ≡ length file → ⊥) → wholly (length file) (and_then q λ os end. got (said ps os) end) ≡ malformed
      go (got os end) h = rw (ne_eqb end (length file) h)
      go missing h = refl
  spare-after missing l h = refl

  -- they do
  pub whole-after : (r : Read (List Piece)) (mem : List ℕ) → end_of (length file) r + 2 ≤ length file → end_of (length file) (counted (end_of (length file) r)) ≡ length file
      → (◌≡◌ {A = (Result Start Refusal)} (Ok (record { operations = end_of (length file) r + 2; settings = s })) (loaded (length file) (wholly (length file) (and_then r after_pieces))))
      × (laid_of r mem ≡ placed (wholly (length file) (and_then r after_pieces)) mem)
  whole-after (got ps next) mem l h = rw (word_got file next l) (go (counted next) refl h)
    where
      go : (q : Read (List Operation)) → counted next ≡ q → end_of (length file) q ≡ length file
          → (◌≡◌ {A = (Result Start Refusal)} (Ok (record { operations = next + 2; settings = s })) (loaded (length file) (wholly (length file) (and_then q λ os end. got (said ps os) end))))
          × (pieces_laid ps mem ≡ placed (wholly (length file) (and_then q λ os end. got (said ps os) end)) mem)
      go (got os end) e h =
          let d : next + 2 ≡ length file - length os = omega (arith, operations-length file (word_in file next) (next + 2) e) in
          rw (eq-eqb end (length file) h) (rw d refl, refl)
      go missing e h = absurd (omega arith)
  whole-after missing mem l h = absurd (omega arith)
