-- What each character stands for, and the digit of each number below 16.
-- Assumes nothing.
use Prim.Native.Nat.{ℕ, zero, suc, ◌+◌, ◌-◌, ◌/◌, ◌%◌, ◌≤◌, ◌<◌}
use mathlib.Core.Path.{◌≡◌, refl, sym, ◌∙◌}
use mathlib.Core.Bool.{Bool, true, false, ◌&&◌}
use mathlib.Core.List.{List, [], ◌∷◌}
use native.Mathlib.Omega.{arith}
use native.Mathlib.Nat.{add-zero, zero-add, add-suc, suc-add}
use native.Mathlib.Decide.{dec_lt}
use borrow.Author.Tests.{le-leb, lt-leb, lt-ltb, le-ltb, leb-true}
use lib.Dec.{leb}
use lib.ListN.{get_or}
use Rattle.text.specs.Hex.{glyph, is_figure, is_capital, is_digit, digit_value, byte_of, GlyphIsDigit, ValueOfGlyph, GlyphOfValue, ByteOfHex2, Hex2OfByte}

pub value-figure : (c : ℕ) → 48 ≤ c → c < 58 → c - 48 ≡ digit_value c
unfolding digit_value
value-figure c lo hi = simp (le-leb 48 c lo, le-leb c 57 (omega arith))

pub value-capital : (c : ℕ) → 65 ≤ c → c < 71 → c - 55 ≡ digit_value c
unfolding digit_value
value-capital c lo hi = simp (le-leb 48 c (omega arith), lt-leb c 57 (omega arith), le-leb 65 c lo, le-leb c 70 (omega arith))

pub value-below : (c : ℕ) → c < 48 → 0 ≡ digit_value c
unfolding digit_value
value-below c h = simp (lt-leb 48 c h, lt-leb 65 c (omega arith))

pub value-between : (c : ℕ) → 58 ≤ c → c < 65 → 0 ≡ digit_value c
unfolding digit_value
value-between c lo hi = simp (le-leb 48 c (omega arith), lt-leb c 57 (omega arith), lt-leb 65 c hi)

pub value-above : (c : ℕ) → 71 ≤ c → 0 ≡ digit_value c
unfolding digit_value
value-above c h = simp (le-leb 48 c (omega arith), lt-leb c 57 (omega arith), le-leb 65 c (omega arith), lt-leb c 70 (omega arith))

pub value-small : (c : ℕ) → digit_value c < 16
value-small c = go (dec_lt c 48) (dec_lt c 58) (dec_lt c 65) (dec_lt c 71)
  where
    go : Dec (c < 48) → Dec (c < 58) → Dec (c < 65) → Dec (c < 71) → digit_value c < 16
    go (yes h) _ _ _ = omega (arith, value-below c h)
    go (no n) (yes h) _ _ = omega (arith, value-figure c (omega arith) h)
    go (no n) (no m) (yes h) _ = omega (arith, value-between c (omega arith) h)
    go (no n) (no m) (no k) (yes h) = omega (arith, value-capital c (omega arith) h)
    go (no n) (no m) (no k) (no l) = omega (arith, value-above c (omega arith))

pub byte_small : (a b : ℕ) → byte_of a b < 256
byte_small a b = omega (arith, value-small a, value-small b)

pub value-of-glyph : ValueOfGlyph
value-of-glyph d h = go (dec_lt d 10)
  where
    go : Dec (d < 10) → digit_value (glyph d) ≡ d
    go (yes l) = rw (lt-ltb d 10 l) (sym (value-figure (48 + d) (omega arith) (omega arith)) ∙ omega arith)
    go (no l) = rw (le-ltb d 10 (omega arith)) (sym (value-capital (55 + d) (omega arith) (omega arith)) ∙ omega arith)

pub glyph-is-digit : GlyphIsDigit
glyph-is-digit d h = go (dec_lt d 10)
  where
    go : Dec (d < 10) → is_digit (glyph d) ≡ true
    go (yes l) = simp (lt-ltb d 10 l, le-leb 48 (48 + d) (omega arith), le-leb (48 + d) 57 (omega arith))
    go (no l) = simp (le-ltb d 10 (omega arith), le-leb 48 (55 + d) (omega arith), lt-leb (55 + d) 57 (omega arith), le-leb 65 (55 + d) (omega arith), le-leb (55 + d) 70 (omega arith))

-- the digits of so many numbers from i on, and the one at j
abbrev digits_from : ℕ → ℕ → List ℕ
digits_from i zero = []
digits_from i (suc n) = glyph i ∷ digits_from (suc i) n

from : (i n j : ℕ) → j < n → get_or (digits_from i n) j 0 ≡ glyph (i + j)
from i zero j h = absurd (omega arith)
from i (suc n) zero h = rw (add-zero i)
from i (suc n) (suc j) h = from (suc i) n j (omega arith) ∙ rw (suc-add i j, add-suc i j)

-- all sixteen, as antt computes them
pub glyph-at : (d : ℕ) → d < 16 → get_or (digits_from 0 16) d 0 ≡ glyph d
glyph-at d h = from 0 16 d h ∙ rw (zero-add d)

both : (p q : Bool) → p && q ≡ true → (p ≡ true) × (q ≡ true)
both true q e = (refl, e)
both false q e = (e, cc)

pub glyph-of-value : GlyphOfValue
glyph-of-value c e = go (is_figure c) refl (is_capital c) refl
  where
    go : (u : Bool) → is_figure c ≡ u → (v : Bool) → is_capital c ≡ v → glyph (digit_value c) ≡ c
    go true p v q =
        let r = both (leb 48 c) (leb c 57) p in
        let lo = leb-true 48 c r.0 in
        let hi = leb-true c 57 r.1 in
        let n = value-figure c lo (omega arith) in
        rw (lt-ltb (digit_value c) 10 (omega arith)) (omega arith)
    go false p true q =
        let r = both (leb 65 c) (leb c 70) q in
        let lo = leb-true 65 c r.0 in
        let hi = leb-true c 70 r.1 in
        let n = value-capital c lo (omega arith) in
        rw (le-ltb (digit_value c) 10 (omega arith)) (omega arith)
    go false p false q = let z : false ≡ true = sym (rw (p, q)) ∙ e in cc

pub byte-of-hex2 : ByteOfHex2
byte-of-hex2 b h = rw (value-of-glyph (b / 16) (omega arith), value-of-glyph (b % 16) (omega arith)) (omega arith)

pub hex2-of-byte : Hex2OfByte
hex2-of-byte a b d e =
    let n = value-small b in
    let high : byte_of a b / 16 ≡ digit_value a = omega arith in
    let low : byte_of a b % 16 ≡ digit_value b = omega arith in
    rw (high, low, glyph-of-value a d, glyph-of-value b e)
