-- Digits laid byte by byte, and decimal numbers that end before a place.
-- Assumes nothing.
use Rattle.std.proofs.Common.{◌≡◌, ℕ, ◌+◌, ◌-◌, ◌*◌, ◌≤◌, ◌<◌, List, [], ◌∷◌, ◌++◌, length, take, get_or, refl, ap, sym, ◌∙◌, arith}
use Rattle.std.proofs.lemmas.List.{take_more}
use Rattle.std.proofs.lemmas.Grind.{flat_map-append}
use Rattle.std.proofs.lemmas.List.Edits.{sets}
use lib.Seq.{length-take-le}
use borrow.Author.Tests.{le-leb, lt-leb}
use Rattle.text.specs.Hex.{hex2}
use Rattle.text.specs.Lines.{decimal, text_of, said}
use Rattle.text.specs.declared.lines.Text.{Text}
use Rattle.text.proofs.Stores.{sets-append}
use Rattle.text.proofs.Decimals.{at-most-twenty}
use Rattle.text.proofs.Texts.{text-is-whole}
use Rattle.scenery.specs.Printed.{bytes_text, number_laid}

text-length : (l : List ℕ) → length (bytes_text l) ≡ 2 * length l
text-length [] = refl
text-length (b ∷ bs) = omega (arith, text-length bs)

text-more : (l : List ℕ) (i : ℕ) → i < length l → bytes_text (take (i + 1) l) ≡ bytes_text (take i l) ++ hex2 (get_or l i 0)
text-more l i h = ap bytes_text (take_more l i 0 h) ∙ flat_map-append hex2 (take i l) (get_or l i 0 ∷ [])

-- one byte's digits after those before it
pub turn : (out : List ℕ) (at : ℕ) (l : List ℕ) (i : ℕ) → i < length l
    → sets (sets out at (bytes_text (take i l))) (at + 2 * i) (hex2 (get_or l i 0)) ≡ sets out at (bytes_text (take (i + 1) l))
turn out at l i h =
    let e : length (bytes_text (take i l)) ≡ 2 * i = omega (arith, text-length (take i l), length-take-le i l (omega arith)) in
    rw (text-more l i h, ← e) (sym (sets-append out (bytes_text (take i l)) (hex2 (get_or l i 0)) at))

-- ---- a number's text is whole

len-is : (n : ℕ) → (text_of (decimal n)).len ≡ length (decimal n)
unfolding text_of
len-is n = omega (arith, at-most-twenty n)

said-is : (n : ℕ) → said (text_of (decimal n)) ≡ decimal n
said-is n = text-is-whole (decimal n) (omega (arith, at-most-twenty n))

module _ (out : List ℕ) (end n : ℕ) (t : Text) (e : t ≡ text_of (decimal n)) where
  long : t.len ≡ length (decimal n)
  long = ap (λ (s : Text). s.len) e ∙ len-is n

  pub with-room : t.len ≤ end → sets out (end - t.len) (said t) ≡ number_laid out end n
  with-room h =
      let s : said t ≡ decimal n = ap said e ∙ said-is n in
      rw (s, long, le-leb (length (decimal n)) end (omega (arith, long)))

  pub without-room : end < t.len → out ≡ number_laid out end n
  without-room h = rw (lt-leb (length (decimal n)) end (omega (arith, long)))
