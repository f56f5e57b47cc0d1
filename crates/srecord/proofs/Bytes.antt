-- The bytes of a line, each at its two digits.
-- Assumes nothing.
use Rattle.std.proofs.Common.{◌≡◌, ℕ, zero, suc, ◌+◌, ◌-◌, ◌*◌, ◌/◌, ◌<◌, ◌≤◌, List, [], ◌∷◌, length, get_or, take, drop, refl, ◌∙◌, arith, length-drop, length-take-le, get_or-drop, get_or-take}
use Rattle.text.specs.Hex.{byte_of}
use Rattle.srecord.specs.Layout.{paired_bytes}
use Rattle.srecord.specs.Line.{line_bytes}

pub bytes-length : (t : List ℕ) → length (paired_bytes t) ≡ length t / 2
unfolding paired_bytes
bytes-length [] = refl
bytes-length (c ∷ []) = refl
bytes-length (a ∷ b ∷ t) = let h = bytes-length t in omega arith

bytes-get : (t : List ℕ) (i : ℕ) → 2 * i + 1 < length t → get_or (paired_bytes t) i 0 ≡ byte_of (get_or t (2 * i) 0) (get_or t (2 * i + 1) 0)
unfolding paired_bytes
bytes-get [] i h = absurd (omega arith)
bytes-get (c ∷ []) i h = absurd (omega arith)
bytes-get (a ∷ b ∷ t) zero h = refl
bytes-get (a ∷ b ∷ t) (suc i) h =
    let e : 2 * suc i ≡ suc (suc (2 * i)) = omega arith in
    let f : suc (suc (2 * i)) + 1 ≡ suc (suc (2 * i + 1)) = omega arith in
    rw (e, f) (bytes-get t i (omega arith))

pub line-bytes : (text : List ℕ) → length (line_bytes text) ≡ (length text - 2) / 2
line-bytes text = bytes-length (drop 2 text) ∙ rw (length-drop 2 text)

-- byte i of a line
pub byte-of : (text : List ℕ) (i : ℕ) → i < length (line_bytes text) → get_or (line_bytes text) i 0 ≡ byte_of (get_or text (2 + 2 * i) 0) (get_or text (3 + 2 * i) 0)
byte-of text i h =
    let n = line-bytes text in
    let d = length-drop 2 text in
    let e : 3 + 2 * i ≡ 2 + (2 * i + 1) = omega arith in
    bytes-get (drop 2 text) i (omega arith) ∙ rw (get_or-drop 2 text (2 * i) 0, get_or-drop 2 text (2 * i + 1) 0, e)

pub past_end : (l : List ℕ) (i : ℕ) → length l ≤ i → get_or l i 0 ≡ 0
past_end [] i h = refl
past_end (b ∷ l) zero h = absurd (omega arith)
past_end (b ∷ l) (suc i) h = past_end l i (omega arith)

-- the n bytes after the address
module _ (l : List ℕ) (n : ℕ) (room : 3 + n ≤ length l) where
  pub data-length : length (take n (drop 3 l)) ≡ n
  data-length = let d = length-drop 3 l in length-take-le n (drop 3 l) (omega arith)

  pub data-at : (i : ℕ) → i < n → get_or (take n (drop 3 l)) i 0 ≡ get_or l (3 + i) 0
  data-at i h = get_or-take n (drop 3 l) i 0 h ∙ get_or-drop 3 l i 0
