-- DAA's test of the high digit: as the manual has it, digit by digit, and of the byte as a whole.
-- Assumes nothing.
use mathlib.Core.Path.{◌≡◌, refl}
use mathlib.Core.Bool.{Bool, true, false, ◌&&◌, ◌||◌}
use Prim.Native.Nat.{ℕ, ◌/◌, ◌%◌}
use native.Mathlib.Omega.{arith}
use lib.Dec.{ltb}
use borrow.Author.Tests.{ltb-true, ltb-false, lt-ltb, le-ltb}

pub above-99 : (u : Bool) (a : ℕ) → (u || ltb 0x99 a) ≡ ((u || ltb 9 (a / 16)) || (ltb 8 (a / 16) && ltb 9 (a % 16)))
above-99 true a = refl
above-99 false a = go (ltb 9 (a / 16)) (ltb 8 (a / 16)) (ltb 9 (a % 16)) refl refl refl
  where
    go : (t u v : Bool) → ltb 9 (a / 16) ≡ t → ltb 8 (a / 16) ≡ u → ltb 9 (a % 16) ≡ v → ltb 0x99 a ≡ (t || (u && v))
    go true u v e f g = lt-ltb 0x99 a (omega (arith, ltb-true 9 (a / 16) e))
    go false true true e f g = lt-ltb 0x99 a (omega (arith, ltb-true 8 (a / 16) f, ltb-true 9 (a % 16) g))
    go false true false e f g = le-ltb 0x99 a (omega (arith, ltb-false 9 (a / 16) e, ltb-false 9 (a % 16) g))
    go false false v e f g = le-ltb 0x99 a (omega (arith, ltb-false 8 (a / 16) f))
