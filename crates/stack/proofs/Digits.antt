-- The bytes that a post-byte names, counted by its two digits: each fact is one test that antt computes.
-- Assumes nothing.
use Rattle.std.proofs.Common.{◌≡◌, ℕ, ◌+◌, ◌*◌, ◌/◌, ◌%◌, ◌^◌, ◌<◌, ◌≤◌, true, leb, List, [], ◌∷◌, get_or, refl, arith, leb→le}
use Rattle.opcodes.proofs.Rows.{alike}
use Rattle.stack.specs.Pushing.{bytes_pushed}

-- how many bits of a digit are set
abbrev pub bits : List ℕ
bits = 0 ∷ 1 ∷ 1 ∷ 2 ∷ 1 ∷ 2 ∷ 2 ∷ 3 ∷ 1 ∷ 2 ∷ 2 ∷ 3 ∷ 2 ∷ 3 ∷ 3 ∷ 4 ∷ []

few_bits : (n : ℕ) → n < 16 → get_or bits n 0 ≤ 4
few_bits n l = leb→le (get_or bits n 0) 4 (rw (alike (λ (n : ℕ). leb (get_or bits n 0) 4) (λ (n : ℕ). true) 16 refl n l) tt)

module _ (mask : ℕ) (l : mask < 256) where
  pub words-fit : 2 * get_or bits (mask / 16) 0 < 2 ^ 8
  words-fit = omega (arith, few_bits (mask / 16) (omega arith))

  pub bytes_fit : 2 * get_or bits (mask / 16) 0 + get_or bits (mask % 16) 0 < 2 ^ 8
  bytes_fit = omega (arith, few_bits (mask / 16) (omega arith), few_bits (mask % 16) (omega arith))

  pub by_digits : 2 * get_or bits (mask / 16) 0 + get_or bits (mask % 16) 0 ≡ bytes_pushed mask
  by_digits = alike (λ (m : ℕ). 2 * get_or bits (m / 16) 0 + get_or bits (m % 16) 0) bytes_pushed 256 refl mask l
