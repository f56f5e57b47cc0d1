-- Texts of 33 bytes as values, and how long a line is.
-- Assumes nothing.
use Prim.Native.Nat.{ℕ, ◌+◌, ◌≤◌, ◌<◌, min}
use mathlib.Core.Path.{◌≡◌, refl, sym, ap, ◌∙◌}
use mathlib.Core.Bool.{Bool, true, false, cond}
use mathlib.Core.List.{List, [], ◌∷◌, ◌++◌, append_assoc, append-nil}
use native.Mathlib.Omega.{arith}
use borrow.Author.Tests.{ltb-true, ltb-false, lt-ltb, le-ltb}
use lib.Dec.{ltb}
use lib.ListN.{length, set, replicate, length-append}
use lib.Seq.{sets, set_out, length-sets, sets-eq, take_at}
use Rattle.text.specs.Lines.{line, alone, text_of, grown, LineFits, TextIsWhole, TextGrows}
use Rattle.text.specs.declared.lines.Text.{Text}
use Rattle.text.proofs.Stores.{sets-append}
use Rattle.text.proofs.Decimals.{at-most-three, at-most-twenty}

module _ (l : List ℕ) (b : ℕ) where
  -- a text with room, and one byte more
  pub longer : (text_of l).len < 33 → record { bytes = set (text_of l).bytes (text_of l).len b; len = (text_of l).len + 1 } ≡ text_of (l ++ (b ∷ []))
  unfolding text_of
  longer h =
      let z : 0 + length l ≡ length l = omega arith in
      let e : min (length l) 33 ≡ length l = omega arith in
      let f : min (length l + 1) 33 ≡ length l + 1 = omega arith in
      rw (sets-append (replicate 33 0) l (b ∷ []) 0, length-append l (b ∷ []), z, e, f)

  -- a full text stays as it is
  pub full : 33 ≤ (text_of l).len → text_of l ≡ text_of (l ++ (b ∷ []))
  unfolding text_of
  full h =
      let z : 0 + length l ≡ length l = omega arith in
      let e : min (length l) 33 ≡ 33 = omega arith in
      let f : min (length l + 1) 33 ≡ 33 = omega arith in
      let g : length (sets (replicate 33 0) 0 l) ≤ length l = rw (length-sets (replicate 33 0) 0 l) (omega arith) in
      rw (sets-append (replicate 33 0) l (b ∷ []) 0, length-append l (b ∷ []), z, e, f, set_out (sets (replicate 33 0) 0 l) (length l) b g)

-- one byte, with room and without
pub with-room : (t : Text) (b : ℕ) → t.len < 33 → record { bytes = set t.bytes t.len b; len = t.len + 1 } ≡ grown t (b ∷ [])
unfolding grown
with-room t b h = rw (lt-ltb t.len 33 h)

pub without-room : (t : Text) (b : ℕ) → 33 ≤ t.len → t ≡ grown t (b ∷ [])
unfolding grown
without-room t b h = rw (le-ltb t.len 33 h)

pub grown-grown : (t : Text) (a b : List ℕ) → grown (grown t a) b ≡ grown t (a ++ b)
unfolding grown
grown-grown t [] b = refl
grown-grown t (x ∷ a) b = grown-grown (cond (ltb t.len 33) (record { bytes = set t.bytes t.len x; len = t.len + 1 }) t) a b

one : (l : List ℕ) (b : ℕ) → grown (text_of l) (b ∷ []) ≡ text_of (l ++ (b ∷ []))
one l b = go (ltb (text_of l).len 33) refl
  where
    go : (t : Bool) → ltb (text_of l).len 33 ≡ t → grown (text_of l) (b ∷ []) ≡ text_of (l ++ (b ∷ []))
    go true e = let h = ltb-true (text_of l).len 33 e in sym (with-room (text_of l) b h) ∙ longer l b h
    go false e = let h = ltb-false (text_of l).len 33 e in sym (without-room (text_of l) b h) ∙ full l b h

none : (t : Text) → grown t [] ≡ t
unfolding grown
none t = refl

pub text-grows : TextGrows
text-grows l [] = rw (append-nil l) (none (text_of l))
text-grows l (b ∷ bs) =
    sym (grown-grown (text_of l) (b ∷ []) bs)
    ∙ ap (λ (t : Text). grown t bs) (one l b)
    ∙ text-grows (l ++ (b ∷ [])) bs
    ∙ ap text_of (append_assoc l (b ∷ []) bs)

pub text-is-whole : TextIsWhole
unfolding text_of
text-is-whole l h =
    let e : min (length l) 33 ≡ length l = omega arith in
    rw (e, sets-eq l (replicate 33 0) 0 (omega arith)) (take_at l _ (length l) refl)

pub line-fits : LineFits
unfolding line
line-fits answer pc cc cycles h = simp length-append (omega (arith, at-most-three answer h, at-most-twenty cycles))

pub alone-fits : (n : ℕ) → length (alone n) ≤ 33
unfolding alone
alone-fits n = simp length-append (omega (arith, at-most-twenty n))
