-- Stores of lists one after the other.
-- Assumes nothing.
use Rattle.std.proofs.Common.{◌≡◌, ℕ, ◌+◌, ◌*◌, ◌<◌, List, [], ◌∷◌, ◌++◌, length, get_or, take, set, sym, refl, arith, length-take-le}
use lib.Seq.{sets}
use Rattle.text.specs.Hex.{hex2}
use Rattle.text.proofs.Stores.{sets-append}
use Rattle.srecord.specs.Layout.{pairs}
use Rattle.srecord.proofs.Scan.{take-one}

-- two stores, the second right after the first, are one
pub sets-two : (a b : ℕ) (d e m : List ℕ) → b ≡ a + length d → sets (sets m a d) b e ≡ sets m a (d ++ e)
sets-two a b d e m p = rw p (sym (sets-append m d e a))

one_more : (l vs : List ℕ) (at i : ℕ) → i < length vs → set (sets l at (take i vs)) (at + i) (get_or vs i 0) ≡ sets l at (take (i + 1) vs)
one_more l vs at i h =
    let e : length (take i vs) ≡ i = length-take-le i vs (omega arith) in
    rw (take-one vs i h, sets-append l (take i vs) (get_or vs i 0 ∷ []) at, e)

-- one more element of a list stored from index a on
pub sets_more : (a i v : ℕ) (l m now : List ℕ) → i < length l → now ≡ sets m a (take i l) → v ≡ get_or l i 0
    → set now (a + i) v ≡ sets m a (take (i + 1) l)
sets_more a i v l m now h e f = rw (e, f) (one_more m l a i h)

pub pairs-length : (l : List ℕ) → length (pairs l) ≡ 2 * length l
unfolding pairs
pairs-length [] = refl
pairs-length (b ∷ l) = let h = pairs-length l in omega arith

pub pairs-append : (l m : List ℕ) → pairs (l ++ m) ≡ pairs l ++ pairs m
unfolding pairs
pairs-append [] m = refl
pairs-append (b ∷ l) m = rw (pairs-append l m)

pub pairs-one : (b : ℕ) → pairs (b ∷ []) ≡ hex2 b
unfolding pairs
pairs-one b = refl

-- the digits of one more byte
pub pairs-more : (a i : ℕ) (l m now : List ℕ) → i < length l → now ≡ sets m a (pairs (take i l))
    → sets now (a + 2 * i) (hex2 (get_or l i 0)) ≡ sets m a (pairs (take (i + 1) l))
pairs-more a i l m now h e =
    let n : length (take i l) ≡ i = length-take-le i l (omega arith) in
    let s = pairs-length (take i l) in
    rw (take-one l i h, pairs-append (take i l) (get_or l i 0 ∷ []), pairs-one (get_or l i 0), e)
    (sets-two a (a + 2 * i) (pairs (take i l)) (hex2 (get_or l i 0)) m (omega arith))
