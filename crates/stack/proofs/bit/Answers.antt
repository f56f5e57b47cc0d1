-- `bit` shifts and takes the lowest digit, as `bit_at` divides and takes it; a byte divided by 256 or more is 0.
-- Assumes nothing.
use Rattle.std.proofs.Common.{◌^◌, ◌<◌, ◌≤◌, refl, arith, le-ltb}
use Rattle.std.proofs.Math.Nat.{div-eq_of_lt, pow-le-pow_right}
use Rattle.registers.specs.ConditionCodes.{bit_at}
use Rattle.stack.proofs.bit.Goals as goal

pub returns-then-k-lt8 : goal.returns-then-k-lt8
unfolding bit_at
returns-then-k-lt8 c = refl

pub returns-else-k-lt8 : goal.returns-else-k-lt8
unfolding bit_at
returns-else-k-lt8 c =
    let two : 0 < 2 = omega arith in
    let high : 8 ≤ c.args.k = omega arith in
    let p : 2 ^ 8 ≤ 2 ^ c.args.k = pow-le-pow_right two high in
    let l : c.args.byte < 2 ^ c.args.k = omega (arith, p, c.ranges.byte.fits) in
    rw (div-eq_of_lt l) (le-ltb _ _ c.if-k-lt8.false)
