-- A file that names no flags says what it says with flags by the manual named: a byte in front of a file moves each place by one, and nothing else.
-- Assumes nothing.
use Prim.Native.Nat.{ℕ, zero, suc, ◌+◌, ◌*◌}
use mathlib.Core.Path.{◌≡◌, refl, sym, ◌∙◌}
use mathlib.Core.Bool.{Bool, true, false, cond, ◌&&◌}
use mathlib.Core.List.{List, ◌∷◌}
use native.Mathlib.Omega.{arith}
use borrow.Author.Tests.{le-leb}
use lib.Dec.{leb, leb-suc-suc, eqb-suc-suc}
use lib.ListN.{length, get_or}
use Rattle.registers.specs.declared.Flags.TheVariants.{Manual}
use Rattle.runfile.specs.Format.{file_settings, Read, got, missing, and_then, room, word_in, two_bytes_at, flag_at, span_at, piece_at, pieces_at, operation_at, operation_numbered, operations_at, RunFile, after_settings, wholly, parsed, DefaultNamed}
use Rattle.runfile.specs.declared.FileSettings.{FileSettings}
use Rattle.runfile.proofs.Reading.{headed}

-- the same, read one place later
abbrev later : {A : Type 0} → Read A → Read A
later (got a at) = got a (suc at)
later missing = missing

then-later : {A B : Type 0} (r : Read A) (f g : A → ℕ → Read B) → ((a : A) (at : ℕ) → g a (suc at) ≡ later (f a at)) → and_then (later r) g ≡ later (and_then r f)
then-later (got a at) f g h = h a at
then-later missing f g h = refl

tested : {A : Type 0} (t : Bool) (a : A) (end : ℕ) → cond t (got a (suc end)) missing ≡ later (cond t (got a end) missing)
tested true a end = refl
tested false a end = refl

module _ (x : ℕ) (file : List ℕ) where
  room-later : (at n : ℕ) → room (x ∷ file) (suc at) n ≡ room file at n
  room-later at n = let e : suc at + n ≡ suc (at + n) = omega arith in rw e (leb-suc-suc (at + n) (length file))

  word-later : (at : ℕ) → two_bytes_at (x ∷ file) (suc at) ≡ later (two_bytes_at file at)
  unfolding two_bytes_at
  word-later at =
      let e : suc at + 1 ≡ suc (at + 1) = omega arith in
      let d : suc at + 2 ≡ suc (at + 2) = omega arith in
      rw (room-later at 2, e, d) (tested (room file at 2) (word_in file at) (at + 2))

  span-later : (at : ℕ) → span_at (x ∷ file) (suc at) ≡ later (span_at file at)
  unfolding span_at
  span-later at =
      rw (word-later at)
      (then-later (two_bytes_at file at) _ _ λ address next.
      rw (word-later next)
      (then-later (two_bytes_at file next) _ _ λ size from.
      rw (room-later from size) (tested (room file from size && leb (address + size) 0x10000) (address, size) from)))

  piece-later : (at : ℕ) → piece_at (x ∷ file) (suc at) ≡ later (piece_at file at)
  unfolding piece_at
  piece-later at =
      rw (span-later at)
      (then-later (span_at file at) _ _ λ s from. let e : suc from + s.1 ≡ suc (from + s.1) = omega arith in rw e refl)

  pieces-later : (n at : ℕ) → pieces_at (x ∷ file) n (suc at) ≡ later (pieces_at file n at)
  unfolding pieces_at
  pieces-later zero at = refl
  pieces-later (suc n) at =
      rw (piece-later at)
      (then-later (piece_at file at) _ _ λ p next. rw (pieces-later n next) (then-later (pieces_at file n next) _ _ λ ps end. refl))

  operation-later : (at : ℕ) → operation_at (x ∷ file) (suc at) ≡ later (operation_at file at)
  unfolding operation_at
  operation-later at =
      let e : suc at + 1 ≡ suc (at + 1) = omega arith in
      rw (room-later at 1, e) (tested (room file at 1 && leb (get_or file at 0) 5) (operation_numbered (get_or file at 0)) (at + 1))

  operations-later : (n at : ℕ) → operations_at (x ∷ file) n (suc at) ≡ later (operations_at file n at)
  unfolding operations_at
  operations-later zero at = refl
  operations-later (suc n) at =
      rw (operation-later at)
      (then-later (operation_at file at) _ _ λ o next. rw (operations-later n next) (then-later (operations_at file n next) _ _ λ os end. refl))

  sections-later : (s : FileSettings) (at : ℕ) → after_settings (x ∷ file) s (suc at) ≡ later (after_settings file s at)
  sections-later s at =
      rw (word-later at)
      (then-later (two_bytes_at file at) _ _ λ n from.
      rw (pieces-later n from)
      (then-later (pieces_at file n from) _ _ λ ps next.
      rw (word-later next)
      (then-later (two_bytes_at file next) _ _ λ m start.
      rw (operations-later m start) (then-later (operations_at file m start) _ _ λ os end. refl))))

  wholly-later : (n : ℕ) (r : Read RunFile) → wholly (suc n) (later r) ≡ wholly n r
  wholly-later n (got f end) = rw (eqb-suc-suc end n)
  wholly-later n missing = refl

  -- what the sections say
  in-front : (s : FileSettings) (at : ℕ) → wholly (length (x ∷ file)) (after_settings (x ∷ file) s (suc at)) ≡ wholly (length file) (after_settings file s at)
  in-front s at = rw (sections-later s at) (wholly-later (length file) (after_settings file s at))

four-in-front : (a b c d : ℕ) (sections : List ℕ) (s : FileSettings)
    → wholly (length (a ∷ b ∷ c ∷ d ∷ sections)) (after_settings (a ∷ b ∷ c ∷ d ∷ sections) s 4) ≡ wholly (length sections) (after_settings sections s 0)
four-in-front a b c d sections s =
    in-front a (b ∷ c ∷ d ∷ sections) s 3 ∙ (in-front b (c ∷ d ∷ sections) s 2 ∙ (in-front c (d ∷ sections) s 1 ∙ in-front d sections s 0))

pub default-named : DefaultNamed
unfolding parsed flag_at
default-named high low sections h =
    let unnamed : List ℕ = 0 ∷ 2 ∷ high ∷ low ∷ sections in
    let named : List ℕ = 0 ∷ 3 ∷ high ∷ low ∷ 1 ∷ sections in
    let s = file_settings (256 * high + low) Manual in
    rw (le-leb (length unnamed) 32768 (omega arith), le-leb (length named) 32768 (omega arith), headed unnamed (omega arith), headed named (omega arith), le-leb 5 (length named) (omega arith))
    (four-in-front 0 2 high low sections s ∙ sym (in-front 0 (3 ∷ high ∷ low ∷ 1 ∷ sections) s 4 ∙ (four-in-front 3 high low 1 sections s)))
