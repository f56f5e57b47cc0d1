-- Adler-32, byte by byte.
-- Assumes nothing.
use Rattle.std.proofs.Common.{◌≡◌, ℕ, ◌+◌, ◌*◌, ◌%◌, ◌≤◌, ◌<◌, List, length, drop, get_or, ap, ◌∙◌, arith}
use lib.Seq.{drop-cons}
use lib.ListN.{drop_of_length-le}
use native.Mathlib.Numerals.{add-one}
use Rattle.scenery.specs.Printed.{adler_from}

pub one-more : (low high : ℕ) (l : List ℕ) (i : ℕ) → i < length l
    → adler_from low high (drop i l) ≡ adler_from ((low + get_or l i 0) % 65521) ((high + (low + get_or l i 0) % 65521) % 65521) (drop (i + 1) l)
unfolding adler_from
one-more low high l i h = ap (adler_from low high) (drop-cons l i 0 h) ∙ rw (add-one i)

pub at-end : (low high : ℕ) (l : List ℕ) (i : ℕ) → length l ≤ i → adler_from low high (drop i l) ≡ high * 65536 + low
unfolding adler_from
at-end low high l i h = ap (adler_from low high) (drop_of_length-le l h) ∙ omega arith
