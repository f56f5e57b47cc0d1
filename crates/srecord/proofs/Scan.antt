-- What a turn of each loop over characters does, and where it ends.
-- Assumes nothing.
use Rattle.std.proofs.Common.{◌≡◌, ℕ, ◌+◌, ◌-◌, ◌%◌, ◌^◌, ◌<◌, ◌≤◌, Bool, true, false, ◌&&◌, eqb, List, [], ◌∷◌, ◌++◌, length, get_or, take, drop, refl, ◌∙◌, add-one, arith, drop_of_length-le, drop-cons, take-suc, eq-eqb, ne_eqb, take_all, length-drop}
use Rattle.text.specs.Hex.{is_digit}
use Rattle.srecord.specs.Layout.{is_paired, total}
use Rattle.srecord.specs.File.{first, in_front_of, lines_of, line_end}
use Rattle.srecord.specs.Written.{is_zero}

-- one character more
pub drop-one : (l : List ℕ) (i : ℕ) → i < length l → drop i l ≡ get_or l i 0 ∷ drop (i + 1) l
drop-one l i h = drop-cons l i 0 h ∙ rw (add-one i)

pub take-one : (l : List ℕ) (i : ℕ) → i < length l → take (i + 1) l ≡ take i l ++ (get_or l i 0 ∷ [])
take-one l i h = rw (add-one i) (take-suc l i 0 h)

pub drop-two : (l : List ℕ) (i : ℕ) → i + 1 < length l → drop i l ≡ get_or l i 0 ∷ get_or l (i + 1) 0 ∷ drop (i + 2) l
drop-two l i h =
    let e : i + 2 ≡ i + 1 + 1 = omega arith in
    drop-one l i (omega arith) ∙ rw (drop-one l (i + 1) h, e)

pub drop-last : (l : List ℕ) (i : ℕ) → i + 1 ≡ length l → drop i l ≡ get_or l i 0 ∷ []
drop-last l i h = drop-one l i (omega arith) ∙ rw (drop_of_length-le l {i = i + 1} (omega arith))

-- the first two of three tests
both : (a b t r : Bool) → (a && b) ≡ r → (a && (b && t)) ≡ (r && t)
both true b t r e = rw (← e)
both false b t r e = rw (← e)

pub first-joined : (c : ℕ) (ls : List (List ℕ)) → first (in_front_of c ls) ≡ c ∷ first ls
first-joined c [] = refl
first-joined c (l ∷ ls) = refl

module _ (text : List ℕ) (i : ℕ) where
  pub paired-not : i + 1 < length text → (is_digit (get_or text i 0) && is_digit (get_or text (i + 1) 0)) ≡ false → is_paired (drop i text) ≡ false
  unfolding is_paired
  paired-not h e = rw (drop-two text i h) (both (is_digit (get_or text i 0)) (is_digit (get_or text (i + 1) 0)) (is_paired (drop (i + 2) text)) false e)

  pub paired-on : i + 1 < length text → (is_digit (get_or text i 0) && is_digit (get_or text (i + 1) 0)) ≡ true → is_paired (drop i text) ≡ is_paired (drop (i + 2) text)
  unfolding is_paired
  paired-on h e = rw (drop-two text i h) (both (is_digit (get_or text i 0)) (is_digit (get_or text (i + 1) 0)) (is_paired (drop (i + 2) text)) true e)

  pub paired-last : i + 1 ≡ length text → is_paired (drop i text) ≡ eqb (get_or text i 0) 10
  unfolding is_paired
  paired-last h = rw (drop-last text i h)

  pub paired_none : length text ≤ i → is_paired (drop i text) ≡ false
  unfolding is_paired
  paired_none h = rw (drop_of_length-le text {i = i} h)

  pub end-found : i < length text → get_or text i 0 ≡ 10 → line_end text i ≡ i + 1
  unfolding line_end lines_of
  end-found h e = rw (drop-one text i h, eq-eqb (get_or text i 0) 10 e)

  pub end_on : i < length text → (get_or text i 0 ≡ 10 → ⊥) → line_end text i ≡ line_end text (i + 1)
  unfolding line_end lines_of
  end_on h n = rw (drop-one text i h, ne_eqb (get_or text i 0) 10 n, first-joined (get_or text i 0) (lines_of (drop (i + 1) text))) (omega arith)

  pub end_none : length text ≤ i → line_end text i ≡ i
  unfolding line_end lines_of
  end_none h = rw (drop_of_length-le text {i = i} h) (omega arith)

  pub zero-not : i < length text → (get_or text i 0 ≡ 0 → ⊥) → is_zero (drop i text) ≡ false
  unfolding is_zero
  zero-not h n = rw (drop-one text i h, ne_eqb (get_or text i 0) 0 n)

  pub zero-on : i < length text → get_or text i 0 ≡ 0 → is_zero (drop i text) ≡ is_zero (drop (i + 1) text)
  unfolding is_zero
  zero-on h e = rw (drop-one text i h, eq-eqb (get_or text i 0) 0 e)

  pub zero-none : length text ≤ i → is_zero (drop i text) ≡ true
  unfolding is_zero
  zero-none h = rw (drop_of_length-le text {i = i} h)

pub total-more : (l : List ℕ) (b : ℕ) → total (l ++ (b ∷ [])) ≡ total l + b
unfolding total
total-more [] b = omega arith
total-more (a ∷ l) b = let h = total-more l b in omega arith

-- a turn of a sum's loop
pub sum_more : (l : List ℕ) (i sum b : ℕ) → i < length l → sum ≡ total (take i l) % 256 → b ≡ get_or l i 0 → (sum + b) % 2 ^ 8 ≡ total (take (i + 1) l) % 256
sum_more l i sum b h e f =
    let t = total-more (take i l) (get_or l i 0) in
    rw (take-one l i h) (omega arith)

-- what a pattern leaves of a text after its first two characters
pub rest_is : (l : List ℕ) → take (length l - 2) (drop 2 l) ≡ drop 2 l
rest_is l = take_all (length l - 2) (drop 2 l) (omega (arith, length-drop 2 l))
