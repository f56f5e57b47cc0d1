-- A line of the format means what it says.
-- Assumes nothing.
use Rattle.std.proofs.Common.{◌≡◌, ℕ, zero, suc, ◌+◌, ◌-◌, ◌/◌, ◌%◌, ◌<◌, ◌≤◌, true, List, [], ◌∷◌, ◌++◌, length, take, drop, sym, refl, ap, ◌∙◌, append_assoc, arith, length-append, eq-eqb, le-leb}
use lib.Seq.{take-append_seam, get_or-append_seam}
use Rattle.text.specs.Hex.{hex2}
use Rattle.text.proofs.Digits.{glyph-is-digit, byte-of-hex2}
use Rattle.srecord.specs.Layout.{pairs, is_paired, paired_bytes, checksum, summed, line_text}
use Rattle.srecord.specs.Line.{most_data, may_hold, is_shaped, is_summed, line_bytes, line_address, data_of, meant, line_of}
use Rattle.srecord.specs.Promises.{AllBytes, LineReads}
use Rattle.srecord.proofs.Laying.{pairs-append, pairs-one}
use Rattle.srecord.proofs.Lines.{sound}
use Rattle.srecord.proofs.Shapes.{Held, in-0, in-1, in-9, held}

-- every element is a byte, one by one
abbrev pub Each : List ℕ → Type 0
Each [] = Unit {0}
Each (b ∷ l) = (b < 256) × Each l

pub each : (l : List ℕ) → AllBytes l → Each l
each [] h = tt
each (b ∷ l) h = (h 0, each l (λ i. h (suc i)))

pub each_take : (n : ℕ) (l : List ℕ) → Each l → Each (take n l)
each_take zero l h = tt
each_take (suc n) [] h = tt
each_take (suc n) (b ∷ l) h = (h.0, each_take n l h.1)

pub each-drop : (n : ℕ) (l : List ℕ) → Each l → Each (drop n l)
each-drop zero l h = h
each-drop (suc n) [] h = tt
each-drop (suc n) (b ∷ l) h = each-drop n l h.1

-- the digits of bytes are pairs of digits, and stand for the bytes
pub pairs-paired : (l : List ℕ) → Each l → is_paired (pairs l ++ (10 ∷ [])) ≡ true
unfolding is_paired pairs
pairs-paired [] h = refl
pairs-paired (b ∷ l) h = rw (glyph-is-digit (b / 16) (omega (arith, h.0)), glyph-is-digit (b % 16) (omega arith)) (pairs-paired l h.1)

pub pairs-bytes : (l : List ℕ) → Each l → paired_bytes (pairs l ++ (10 ∷ [])) ≡ l
unfolding paired_bytes pairs
pairs-bytes [] h = refl
pairs-bytes (b ∷ l) h = rw (byte-of-hex2 b h.0, pairs-bytes l h.1)

pub bytes-append : (l m : List ℕ) → Each l → Each m → Each (l ++ m)
bytes-append [] m h k = k
bytes-append (b ∷ l) m h k = (h.0, bytes-append l m h.1 k)

-- a kind is no line feed, and the data are not too many
pub hold-kinds : {kind n : ℕ} → Held n kind → (10 < kind) × (n ≤ most_data)
hold-kinds (in-0 h) = (omega arith, h)
hold-kinds (in-1 h k) = (omega arith, k)
hold-kinds (in-9 h) = (omega arith, omega arith)

-- all bytes of a line
abbrev pub all_bytes : ℕ → List ℕ → List ℕ
all_bytes a d = summed a d ++ (checksum (summed a d) ∷ [])

pub text-is : (kind a : ℕ) (d : List ℕ) → line_text kind a d ≡ 83 ∷ kind ∷ (pairs (all_bytes a d) ++ (10 ∷ []))
unfolding line_text
text-is kind a d =
    rw (pairs-append (summed a d) (checksum (summed a d) ∷ []), pairs-one (checksum (summed a d)))
    (ap (λ (l : List ℕ). 83 ∷ kind ∷ l) (sym (append_assoc (pairs (summed a d)) (hex2 (checksum (summed a d))) (10 ∷ []))))

module _ (kind a : ℕ) (d : List ℕ) (low : a < 65536) (are : Each d) (may : may_hold kind (length d) ≡ true) where
  abbrev sum : ℕ
  sum = checksum (summed a d)

  abbrev all : List ℕ
  all = all_bytes a d

  pub are-bytes : Each all
  are-bytes =
      let n = (hold-kinds (held kind (length d) may)).1 in
      (omega arith, (omega arith, (omega arith, bytes-append d (sum ∷ []) are (omega arith, tt))))

  all-length : length all ≡ length d + 4
  all-length = length-append (summed a d) (sum ∷ []) ∙ omega arith

  bytes-are : line_bytes (83 ∷ kind ∷ (pairs all ++ (10 ∷ []))) ≡ all
  bytes-are = pairs-bytes all are-bytes

  is-shaped : is_shaped (83 ∷ kind ∷ (pairs all ++ (10 ∷ []))) ≡ true
  unfolding is_shaped
  is-shaped =
      let n = all-length in
      let one : length all - 1 ≡ length d + 3 = omega arith in
      let four : length all - 4 ≡ length d = omega arith in
      rw (pairs-paired all are-bytes, bytes-are, le-leb 4 (length all) (omega arith), one, four, eq-eqb (length d + 3) (length d + 3) refl, may)

  is-summed : is_summed all ≡ true
  unfolding is_summed
  is-summed =
      let n = all-length in
      let one : length all - 1 ≡ length (summed a d) = omega arith in
      rw (one, get_or-append_seam (summed a d) sum [] 0, take-append_seam (summed a d) (sum ∷ [])) (eq-eqb sum sum refl)

  address_is : line_address all ≡ a
  address_is = omega arith

  data_is : data_of all ≡ d
  data_is =
      let n = all-length in
      let four : length all - 4 ≡ length d = omega arith in
      rw four (take-append_seam d (sum ∷ []))

  pub reads : line_of (line_text kind a d) ≡ meant kind a d
  reads =
      let s = is-shaped in
      let b = bytes-are in
      rw (text-is kind a d, sound (83 ∷ kind ∷ (pairs all ++ (10 ∷ []))) s (rw b is-summed), b, address_is, data_is)

pub line_reads : LineReads
line_reads text kind a d l = ap line_of l.exact ∙ reads kind a d l.address (each d l.values) l.count
