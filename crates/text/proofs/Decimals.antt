-- A number's decimal digits: the last one, those before it, and how many there are.
-- Assumes nothing.
use Prim.Native.Nat.{ℕ, zero, suc, ◌+◌, ◌*◌, ◌/◌, ◌%◌, ◌^◌, ◌≤◌, ◌<◌}
use mathlib.Core.Path.{◌≡◌, sym, ap, ◌∙◌}
use mathlib.Core.Bool.{Bool, true, false, cond}
use mathlib.Core.List.{List, [], ◌∷◌, ◌++◌}
use native.Mathlib.Omega.{arith}
use native.Mathlib.Nat.{pow-succ'}
use native.Mathlib.Decide.{dec_lt}
use borrow.Author.Tests.{lt-ltb, le-ltb}
use lib.Dec.{ltb}
use lib.ListN.{length, length-append}
use Rattle.text.specs.Lines.{decimal_in, decimal}

under : (k n : ℕ) → n < 10 → decimal_in (suc k) n ≡ (48 + n) ∷ []
unfolding decimal_in
under k n h = rw (lt-ltb n 10 h)

over : (k n : ℕ) → 10 ≤ n → decimal_in (suc k) n ≡ decimal_in k (n / 10) ++ ((48 + n % 10) ∷ [])
unfolding decimal_in
over k n h = rw (le-ltb n 10 h)

tenth : (p n : ℕ) → n < 10 * p → n / 10 < p
tenth p n h = omega arith

-- one place more does not matter where there are enough
enough : (k n : ℕ) → n < 10 ^ suc k → decimal_in (suc k) n ≡ decimal_in (suc (suc k)) n
enough zero n h = let l : n < 10 = omega arith in under 0 n l ∙ sym (under 1 n l)
enough (suc k) n h = go (dec_lt n 10) (λ m l. enough k m l)
  where
    go : Dec (n < 10) → ((m : ℕ) → m < 10 ^ suc k → decimal_in (suc k) m ≡ decimal_in (suc (suc k)) m) → decimal_in (suc (suc k)) n ≡ decimal_in (suc (suc (suc k))) n
    go (yes l) ih = under (suc k) n l ∙ sym (under (suc (suc k)) n l)
    go (no m) ih =
        let g : 10 ≤ n = omega arith in
        over (suc k) n g
        ∙ ap (λ (l : List ℕ). l ++ ((48 + n % 10) ∷ [])) (ih (n / 10) (tenth (10 ^ suc k) n (rw (pow-succ' 10 (suc k)) at h)))
        ∙ sym (over (suc (suc k)) n g)

pub short : (n : ℕ) → n < 10 → decimal n ≡ (48 + n) ∷ []
unfolding decimal
short n h = under 19 n h

pub long : (n : ℕ) → 10 ≤ n → n < 2 ^ 64 → decimal n ≡ decimal (n / 10) ++ ((48 + n % 10) ∷ [])
unfolding decimal
long n h k = over 19 n h ∙ ap (λ (l : List ℕ). l ++ ((48 + n % 10) ∷ [])) (enough 18 (n / 10) (tenth (10 ^ 19) n (omega arith)))

-- there is one at least, and ten times the number has one more
pub one-or-more : (n : ℕ) → n < 2 ^ 64 → 1 ≤ length (decimal n)
one-or-more n h = go (dec_lt n 10)
  where
    go : Dec (n < 10) → 1 ≤ length (decimal n)
    go (yes l) = rw (short n l) (omega arith)
    go (no l) = rw (long n (omega arith) h) (simp length-append (omega arith))

pub one_more : (n : ℕ) → 10 ≤ n → n < 2 ^ 64 → length (decimal n) ≡ length (decimal (n / 10)) + 1
one_more n h k = rw (long n h k) (simp length-append (omega arith))

at_most : (k n : ℕ) → length (decimal_in k n) ≤ k
unfolding decimal_in
at_most zero n = omega arith
at_most (suc k) n = go (ltb n 10) (at_most k (n / 10))
  where
    go : (t : Bool) → length (decimal_in k (n / 10)) ≤ k → length (cond t ((48 + n) ∷ []) (decimal_in k (n / 10) ++ ((48 + n % 10) ∷ []))) ≤ suc k
    go true h = omega arith
    go false h = simp length-append (omega arith)

pub at-most-twenty : (n : ℕ) → length (decimal n) ≤ 20
unfolding decimal
at-most-twenty n = at_most 20 n

-- the number of a byte
pub at-most-three : (n : ℕ) → n < 256 → length (decimal n) ≤ 3
at-most-three n h = go (dec_lt n 10) (dec_lt n 100)
  where
    fits : n < 2 ^ 64
    fits = omega arith

    go : Dec (n < 10) → Dec (n < 100) → length (decimal n) ≤ 3
    go (yes l) _ = rw (short n l) (omega arith)
    go (no l) (yes m) = rw (long n (omega arith) fits, short (n / 10) (omega arith)) (omega arith)
    go (no l) (no m) = rw (long n (omega arith) fits, long (n / 10) (omega arith) (omega arith), short (n / 10 / 10) (omega arith)) (omega arith)
