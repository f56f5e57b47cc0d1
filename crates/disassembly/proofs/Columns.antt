-- Texts laid over spaces, column by column, and how long the line is.
-- Assumes nothing.
use Rattle.std.proofs.Common.{◌≡◌, ℕ, zero, suc, ◌+◌, ◌-◌, ◌*◌, ◌≤◌, List, [], ◌++◌, length, take, drop, replicate, refl, ap, ◌∙◌, append_assoc, append-nil, arith, length-append, length-drop, take_all, take_at, drop_at}
use lib.ListN.{length-replicate}
use lib.Seq.{sets, length-sets, sets-eq, drop-length, drop-append-add, drop-append-le}
use Rattle.disassembly.specs.Line.{space, line_length, columns, byte_pairs, line_with}

pub pairs-length : (n : ℕ) (mem : List ℕ) (at : ℕ) → length (byte_pairs n mem at) ≡ 3 * n
unfolding byte_pairs
pairs-length zero mem at = refl
pairs-length (suc n) mem at = rw (length-append (byte_pairs n mem at)) (omega (arith, pairs-length n mem at))

pub columns-length : (w : ℕ) (l : List ℕ) → length l ≤ w → length (columns w l) ≡ w
columns-length w l h = length-append l (replicate (w - length l) space) ∙ rw (length-replicate (w - length l) space) (omega arith)

drop-spaces : (n w : ℕ) → n ≤ w → drop n (replicate w space) ≡ replicate (w - n) space
drop-spaces zero w h = let e : w - 0 ≡ w = omega arith in rw e
drop-spaces (suc n) zero h = absurd (omega arith)
drop-spaces (suc n) (suc w) h = drop-spaces n w (omega arith) ∙ (let e : w - n ≡ suc w - suc n = omega arith in rw e)

-- a text over so many spaces, after what stands before them
pub laid : (p l rest : List ℕ) (w at : ℕ) → length p ≡ at → length l ≤ w → sets (p ++ (replicate w space ++ rest)) at l ≡ p ++ (columns w l ++ rest)
laid p l rest w at e h =
    let s = replicate w space in
    let n : length (p ++ (s ++ rest)) ≡ length p + (w + length rest) = simp (length-append, length-replicate) in
    let f : at + length l ≤ length (p ++ (s ++ rest)) = omega (arith, e) in
    let k : length l ≤ length s = rw (length-replicate w space) h in
    let d : drop (at + length l) (p ++ (s ++ rest)) ≡ replicate (w - length l) space ++ rest =
    rw (← e) (drop-append-add p (s ++ rest) (length l) ∙ drop-append-le (length l) s rest k ∙ ap (λ (x : List ℕ). x ++ rest) (drop-spaces (length l) w h)) in
    sets-eq l (p ++ (s ++ rest)) at f
    ∙ rw (d, take_at p (s ++ rest) at e) (simp append_assoc)

-- the part of a line from column 28 on, lent and written
pub lent-rest : (l last t : List ℕ) → 28 ≤ length l → last ≡ sets (take (length l - 28) (drop 28 l)) 0 t
    → take 28 l ++ (last ++ drop (length l - 28) (drop 28 l)) ≡ take 28 l ++ sets (drop 28 l) 0 t
lent-rest l last t h e =
    let n : length (drop 28 l) ≡ length l - 28 = length-drop 28 l in
    let w : take (length l - 28) (drop 28 l) ≡ drop 28 l = take_all (length l - 28) (drop 28 l) (omega arith) in
    let z : drop (length l - 28) (drop 28 l) ≡ [] = rw (← n) (drop-length (drop 28 l)) in
    rw (z, e, w, append-nil)

regrouped : (a b x y : List ℕ) → (a ++ b) ++ (x ++ y) ≡ (a ++ (b ++ x)) ++ y
regrouped a b x y = simp append_assoc

joined : (a b c d r : List ℕ) → (a ++ (b ++ c)) ++ (d ++ r) ≡ (a ++ (b ++ (c ++ d))) ++ r
joined a b c d r = simp append_assoc

parts-length : (a b c d : List ℕ) → length (a ++ (b ++ c)) ≡ 28 → length d ≡ 20 → length (a ++ (b ++ (c ++ d))) ≡ 48
parts-length a b c d h k = simp length-append (omega (arith, simp length-append at h))

-- four texts that fit their columns
module _ (p q r s : List ℕ) (hp : length p ≤ 6) (hq : length q ≤ 16) (hr : length r ≤ 6) (hs : length s ≤ 20) where
  a : List ℕ
  a = columns 6 p

  b : List ℕ
  b = columns 16 q

  c : List ℕ
  c = columns 6 r

  a-length : length a ≡ 6
  unfolding a
  a-length = columns-length 6 p hp

  ab-length : length (a ++ b) ≡ 22
  unfolding b
  ab-length = length-append a b ∙ omega (arith, a-length, columns-length 16 q hq)

  abc-length : length (a ++ (b ++ c)) ≡ 28
  unfolding c
  abc-length = rw (← (append_assoc a b c)) (length-append (a ++ b) c ∙ omega (arith, ab-length, columns-length 6 r hr))

  pub line-length : length (line_with p q r s) ≡ line_length
  unfolding line_with a b c
  line-length = parts-length a b c (columns 20 s) abc-length (columns-length 20 s hs)

  -- over a line of spaces, the last over the part after the third
  module _ (rest : List ℕ) where
    blank : List ℕ
    blank = replicate 48 space ++ rest

    after : List ℕ
    after = replicate 16 space ++ (replicate 6 space ++ (replicate 20 space ++ rest))

    with_first : sets blank 0 p ≡ a ++ after
    unfolding blank after a
    with_first = laid [] p (replicate 16 space ++ (replicate 6 space ++ (replicate 20 space ++ rest))) 6 0 refl hp

    with_second : sets (a ++ after) 6 q ≡ a ++ (b ++ (replicate 6 space ++ (replicate 20 space ++ rest)))
    unfolding after b
    with_second = laid a q (replicate 6 space ++ (replicate 20 space ++ rest)) 16 6 a-length hq

    with-third : sets (a ++ (b ++ (replicate 6 space ++ (replicate 20 space ++ rest)))) 22 r ≡ (a ++ (b ++ c)) ++ (replicate 20 space ++ rest)
    unfolding c
    with-third =
        rw (← (append_assoc a b (replicate 6 space ++ (replicate 20 space ++ rest))))
        (laid (a ++ b) r (replicate 20 space ++ rest) 6 22 ab-length hr ∙ regrouped a b (columns 6 r) (replicate 20 space ++ rest))

    with-fourth : (a ++ (b ++ c)) ++ sets (replicate 20 space ++ rest) 0 s ≡ line_with p q r s ++ rest
    unfolding line_with a b c
    with-fourth =
        ap (λ (l : List ℕ). (a ++ (b ++ c)) ++ l) (laid [] s rest 20 0 refl hs) ∙ joined a b c (columns 20 s) rest

    pub whole : (l₀ l₁ l₂ l₃ l₄ : List ℕ) → line_length ≤ length l₀ → rest ≡ drop line_length l₀
        → l₁ ≡ sets l₀ 0 (replicate line_length space) → l₂ ≡ sets l₁ 0 p → l₃ ≡ sets l₂ 6 q → l₄ ≡ sets l₃ 22 r
        → take 28 l₄ ++ sets (drop 28 l₄) 0 s ≡ line_with p q r s ++ rest
    unfolding blank
    whole l₀ l₁ l₂ l₃ l₄ h d e₁ e₂ e₃ e₄ =
        let f : l₁ ≡ blank = e₁ ∙ sets-eq (replicate 48 space) l₀ 0 (rw (length-replicate 48 space) (omega arith)) ∙ rw d in
        let g : l₄ ≡ (a ++ (b ++ c)) ++ (replicate 20 space ++ rest) = rw (e₄, e₃, e₂, f, with_first, with_second, with-third) in
        rw (g, take_at (a ++ (b ++ c)) (replicate 20 space ++ rest) 28 abc-length, drop_at (a ++ (b ++ c)) (replicate 20 space ++ rest) 28 abc-length) with-fourth

-- the length stays
pub whole_length : (l₀ l₁ l₂ l₃ l₄ x y z w : List ℕ) → l₁ ≡ sets l₀ 0 x → l₂ ≡ sets l₁ 0 y → l₃ ≡ sets l₂ 6 z → l₄ ≡ sets l₃ 22 w → length l₄ ≡ length l₀
whole_length l₀ l₁ l₂ l₃ l₄ x y z w e₁ e₂ e₃ e₄ = rw (e₄, e₃, e₂, e₁) (simp length-sets)
