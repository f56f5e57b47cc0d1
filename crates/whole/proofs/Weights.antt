-- A flag of the condition code register by its weight: adding the weight sets it, taking the weight off clears it.
-- Assumes nothing.
use mathlib.Core.Path.{◌≡◌, sym, ap, ◌∙◌}
use mathlib.Core.Bool.{Bool, true, false}
use Prim.Native.Nat.{ℕ, ◌+◌, ◌-◌, ◌*◌, ◌/◌, ◌%◌, ◌^◌, ◌≤◌}
use native.Mathlib.Omega.{arith}
use borrow.Author.Tests.{eqb-true, eqb-false}
use lib.Pow.{split}
use Rattle.registers.specs.ConditionCodes.{digit, with_bit, bit_at}

module _ (k n : ℕ) where
  abbrev x : ℕ
  x = n / 2 ^ k

  is_one : bit_at k n ≡ true → x % 2 ≡ 1
  unfolding bit_at
  is_one e = eqb-true (x % 2) 1 e

  is_zero : bit_at k n ≡ false → x % 2 ≡ 0
  unfolding bit_at
  is_zero e = let h = eqb-false (x % 2) 1 e in omega arith

  whole : x * 2 ^ k + n % 2 ^ k ≡ n
  whole = split n k

  -- with the digit d, and e for what stands before it and d
  with-digit : (v : Bool) (e : ℕ) → x / 2 * 2 + digit v ≡ e → with_bit k v n ≡ e * 2 ^ k + n % 2 ^ k
  unfolding with_bit
  with-digit v e h = ap (λ (y : ℕ). y * 2 ^ k + n % 2 ^ k) h

  pub kept : (v : Bool) → bit_at k n ≡ v → n ≡ with_bit k v n
  kept true e = let d = is_one e in sym (with-digit true x (omega arith) ∙ whole)
  kept false e = let d = is_zero e in sym (with-digit false x (omega arith) ∙ whole)

  pub added : bit_at k n ≡ false → n + 2 ^ k ≡ with_bit k true n
  added e = let d = is_zero e in omega (arith, with-digit true (x + 1) (omega arith), whole)

  taken : bit_at k n ≡ true → with_bit k false n + 2 ^ k ≡ n
  taken e =
      let d = is_one e in
      let y : x ≡ x / 2 * 2 + 1 = omega arith in
      omega (arith, whole, with-digit false (x / 2 * 2) (omega arith), ap (λ (z : ℕ). z * 2 ^ k) y)

  pub taken-off : bit_at k n ≡ true → n - 2 ^ k ≡ with_bit k false n
  taken-off e = omega (arith, taken e)

  pub within : bit_at k n ≡ true → 2 ^ k ≤ n
  within e = omega (arith, taken e)
