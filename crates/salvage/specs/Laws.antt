-- What is promised of the salvage of a file.
-- Assumes nothing.
use Rattle.std.specs.Result.{is_ok}
use Rattle.std.specs.Prelude.{ℕ, ◌+◌, ◌<◌, ◌≡◌, false, cond, List, [], ◌∷◌, ◌++◌, ◌↔◌, ◌⊎◌, true, length, Err, None, Option, Some}
use Rattle.answers.specs.declared.Refusal.{Refusal}
use Rattle.answers.specs.declared.Refusal.TheVariants.{SalvageShort}
use Rattle.srecord.specs.File.{lines_of, loaded_of}
use Rattle.salvage.specs.Lines.{Sifted, sifted, gathered}
use Rattle.salvage.specs.Mended.{end_line, is_added, mended, dropped_numbers, number_bytes, salvaged_of, output_mended, list_filled}

-- ---- the lines

abbrev pub line_if_kept : Option Refusal → List ℕ → List (List ℕ)
line_if_kept None l = l ∷ []
line_if_kept (Some r) l = []

abbrev pub kept_line : Sifted → List (List ℕ)
kept_line s = line_if_kept s.fate s.text

unfoldable pub kept_lines : List ℕ → List (List ℕ)
kept_lines file = gathered kept_line (sifted file)

-- lines after n others, parted into lines that are kept, in their order, and the numbers of the rest
pub data Parted : ℕ → List (List ℕ) → List (List ℕ) → List ℕ → Type 0 where
  over : {n : ℕ} → Parted n [] [] []
  keeps : {n : ℕ} {l : List ℕ} {ls ks : List (List ℕ)} {ns : List ℕ} → Parted (n + 1) ls ks ns → Parted n (l ∷ ls) (l ∷ ks) ns
  lists : {n : ℕ} {l : List ℕ} {ls ks : List (List ℕ)} {ns : List ℕ} → Parted (n + 1) ls ks ns → Parted n (l ∷ ls) ks ((n + 1) ∷ ns)

-- each line is kept or listed, and not both
abbrev pub LinesParted : Type 0
LinesParted = (file : List ℕ) → Parted 0 (lines_of file) (kept_lines file) (dropped_numbers file)

-- what is written has the lines that are kept, and S9 after them where it is added
abbrev pub LinesWritten : Type 0
LinesWritten = (file : List ℕ) → lines_of (mended file) ≡ kept_lines file ++ cond (is_added file) (end_line ∷ []) []

abbrev pub Rising : ℕ → List ℕ → Type 0
Rising least [] = Unit {0}
Rising least (n ∷ ns) = (least < n) × Rising n ns

abbrev pub NumbersRise : Type 0
NumbersRise = (file : List ℕ) → Rising 0 (dropped_numbers file)

-- ---- reading

-- what is written always reads
abbrev pub AlwaysReads : Type 0
AlwaysReads = (mem file : List ℕ) → length mem ≡ 65536 → is_ok (loaded_of mem (mended file)) ≡ true

-- a file that reads comes back as it is, with nothing dropped and nothing added; and conversely
pub record SoundBack (mem file : List ℕ) : Type 0 where
  pub as_is : is_ok (loaded_of mem file) ≡ true → (mended file ≡ file) × ((dropped_numbers file ≡ []) × (is_added file ≡ false))
  pub nothing-done : dropped_numbers file ≡ [] → is_added file ≡ false → is_ok (loaded_of mem file) ≡ true
  pub unchanged : mended file ≡ file → is_ok (loaded_of mem file) ≡ true

abbrev pub SoundAsIs : Type 0
SoundAsIs = (mem file : List ℕ) → length mem ≡ 65536 → SoundBack mem file

-- ---- the refusal

-- it is given exactly where the output is shorter than the text, or the list than the numbers; output and list are then as they were
pub record ShortRefused (file out list : List ℕ) : Type 0 where
  pub exactly : (salvaged_of file out list ≡ Err SalvageShort) ↔ ((length out < length (mended file)) ⊎ (length list < length (number_bytes file)))
  pub only : (r : Refusal) → salvaged_of file out list ≡ Err r → r ≡ SalvageShort
  pub output : (r : Refusal) → salvaged_of file out list ≡ Err r → output_mended file out list ≡ out
  pub numbers : (r : Refusal) → salvaged_of file out list ≡ Err r → list_filled file out list ≡ list

abbrev pub ShortExactly : Type 0
ShortExactly = (file out list : List ℕ) → ShortRefused file out list
