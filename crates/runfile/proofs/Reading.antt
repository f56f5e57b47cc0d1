-- What is read at a place: a word, a piece, an operation.
-- Assumes nothing.
use Prim.Native.Nat.{ℕ, ◌+◌, ◌-◌, ◌≤◌, ◌<◌}
use mathlib.Core.Path.{◌≡◌, refl, sym, ◌∙◌}
use mathlib.Core.Bool.{Bool, true, false, cond, ◌&&◌}
use mathlib.Core.List.{List}
use native.Mathlib.Decide.{dec_le}
use native.Mathlib.Omega.{arith}
use borrow.Author.Tests.{leb-true, leb-false, le-leb, lt-leb}
use lib.Dec.{eqb, leb}
use lib.ListN.{length, get_or, take, drop}
use Rattle.runfile.specs.Format.{file_settings, Read, got, missing, and_then, room, word_in, two_bytes_at, default_flags, flagged_at, settings_at, settled, sections_of, span_at, piece_at, operation_at, operation_numbered, Piece}
use Rattle.runfile.specs.declared.Operation.{Operation}

-- a sum that fits, and one that could wrap
pub by_difference : (a n s : ℕ) → n ≤ s → leb a (s - n) ≡ leb (a + n) s
by_difference a n s h = go (dec_le (a + n) s)
  where
    go : Dec (a + n ≤ s) → leb a (s - n) ≡ leb (a + n) s
    go (yes l) = le-leb a (s - n) (omega arith) ∙ sym (le-leb (a + n) s l)
    go (no m) = lt-leb a (s - n) (omega arith) ∙ sym (lt-leb (a + n) s (omega arith))

-- what `has` tells
module _ (file : List ℕ) (at n : ℕ) {b : Bool} (e : b ≡ room file at n) where
  pub in-room : b ≡ true → at + n ≤ length file
  in-room h = leb-true (at + n) (length file) (sym e ∙ h)

  pub no_room : b ≡ false → length file < at + n
  no_room h = leb-false (at + n) (length file) (sym e ∙ h)

pub one_byte : {at n : ℕ} → at < n → leb (at + 1) n ≡ true
one_byte {at} {n} h = le-leb (at + 1) n (omega arith)

-- the first of two things read one after the other
pub then-got : {A B : Type 0} (r : Read A) {f : A → ℕ → Read B} {b : B} {end : ℕ} → and_then r f ≡ got b end
    → (a : A) × ((next : ℕ) × ((r ≡ got a next) × (f a next ≡ got b end)))
then-got (got a next) e = (a, (next, (refl, e)))
then-got missing e = let z : ◌≡◌ {A = ℕ} 0 1 = cc in absurd (omega arith)

pub word_got : (file : List ℕ) (at : ℕ) → at + 2 ≤ length file → two_bytes_at file at ≡ got (word_in file at) (at + 2)
unfolding two_bytes_at
word_got file at h = rw (le-leb (at + 2) (length file) h)

pub word-missing : (file : List ℕ) (at : ℕ) → length file < at + 2 → two_bytes_at file at ≡ missing
unfolding two_bytes_at
word-missing file at h = rw (lt-leb (at + 2) (length file) h)

-- ---- the settings

module _ (file : List ℕ) where
  pub headed : 4 ≤ length file
      → sections_of file ≡ settled file (cond (eqb (word_in file 0) 2) (got (file_settings (word_in file 2) default_flags) 4) (cond (eqb (word_in file 0) 3) (flagged_at file (word_in file 2) 4) missing))
  unfolding sections_of settings_at
  headed h = rw (word_got file 0 (omega arith), word_got file 2 (omega arith))

  pub headless : length file < 4 → sections_of file ≡ missing
  unfolding sections_of settings_at
  headless h = go (dec_le 2 (length file))
    where
      go : Dec (2 ≤ length file) → sections_of file ≡ missing
      go (yes l) = rw (word_got file 0 l, word-missing file 2 h)
      go (no l) = rw (word-missing file 0 (omega arith))

-- ---- a piece

module _ (file : List ℕ) (at : ℕ) where
  abbrev pub size : ℕ
  size = word_in file (at + 2)

  -- its bytes are there, and none is to go past FFFF
  abbrev pub goes : Bool
  goes = room file (at + 4) size && leb (word_in file at + size) 0x10000

  abbrev pub this : Piece
  this = record { address = word_in file at; bytes = take size (drop (at + 4) file) }

  pub piece-headed : at + 4 ≤ length file → piece_at file at ≡ cond goes (got this (at + 4 + size)) missing
  unfolding piece_at span_at
  piece-headed h =
      let e : at + 2 + 2 ≡ at + 4 = omega arith in
      rw (word_got file at (omega arith), word_got file (at + 2) (omega arith), e) (go goes)
    where
      go : (t : Bool) → (and_then {A = ℕ × ℕ} (cond t (got (word_in file at, size) (at + 4)) missing) λ s from. got (record { address = s.0; bytes = take s.1 (drop from file) }) (from + s.1))
          ≡ cond t (got this (at + 4 + size)) missing
      go true = refl
      go false = refl

  pub piece-missing : length file < at + 4 → piece_at file at ≡ missing
  unfolding piece_at span_at
  piece-missing h = go (dec_le (at + 2) (length file))
    where
      go : Dec (at + 2 ≤ length file) → piece_at file at ≡ missing
      go (yes l) = rw (word_got file at l, word-missing file (at + 2) (omega arith))
      go (no l) = rw (word-missing file at (omega arith))

  pub piece-got : {p : Piece} {next : ℕ} → piece_at file at ≡ got p next → (piece_at file at ≡ got this (at + 4 + size)) × (at + 4 + size ≤ length file)
  piece-got {p} {next} e = go (dec_le (at + 4) (length file))
    where
      judged : (t : Bool) → leb (at + 4 + size) (length file) ≡ t → (u : Bool) → piece_at file at ≡ cond (t && u) (got this (at + 4 + size)) missing
          → (piece_at file at ≡ got this (at + 4 + size)) × (at + 4 + size ≤ length file)
      judged true l true h = (h, leb-true (at + 4 + size) (length file) l)
      judged true l false h = let z : ◌≡◌ {A = ℕ} 0 1 = cc in absurd (omega arith)
      judged false l u h = let z : ◌≡◌ {A = ℕ} 0 1 = cc in absurd (omega arith)

      go : Dec (at + 4 ≤ length file) → (piece_at file at ≡ got this (at + 4 + size)) × (at + 4 + size ≤ length file)
      go (yes l) = judged (leb (at + 4 + size) (length file)) refl (leb (word_in file at + size) 0x10000) (piece-headed l)
      go (no l) = let m = piece-missing (omega arith) in let z : ◌≡◌ {A = ℕ} 0 1 = cc in absurd (omega arith)

-- ---- an operation takes one byte

pub operation-got : (file : List ℕ) (at : ℕ) {o : Operation} {next : ℕ} → operation_at file at ≡ got o next → (next ≡ at + 1) × (at + 1 ≤ length file)
unfolding operation_at
operation-got file at {o} {next} e = go (leb (at + 1) (length file)) refl (leb (get_or file at 0) 5) e
  where
    go : (t : Bool) → leb (at + 1) (length file) ≡ t → (u : Bool) → cond (t && u) (got (operation_numbered (get_or file at 0)) (at + 1)) missing ≡ got o next → (next ≡ at + 1) × (at + 1 ≤ length file)
    go true l true e = (cc, leb-true (at + 1) (length file) l)
    go true l false e = let z : ◌≡◌ {A = ℕ} 0 1 = cc in absurd (omega arith)
    go false l u e = let z : ◌≡◌ {A = ℕ} 0 1 = cc in absurd (omega arith)
