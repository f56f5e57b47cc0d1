-- How many numbers below a bound pass a test: for the counts of post-bytes that document 01 gives.
-- Assumes nothing.
use Rattle.std.specs.Prelude.{ℕ, zero, suc, ◌+◌, Bool, cond}

abbrev pub counted : ℕ → (ℕ → Bool) → ℕ
counted zero test = 0
counted (suc n) test = cond (test n) 1 0 + counted n test
