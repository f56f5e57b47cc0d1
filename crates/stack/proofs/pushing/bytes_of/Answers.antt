-- Twice the bits of the high digit, and those of the low one.
-- Assumes nothing.
use Rattle.stack.proofs.Digits.{words-fit, bytes_fit, by_digits}
use Rattle.stack.proofs.pushing.bytes_of.Goals as goal

pub overflow_mul-result : goal.overflow_mul-result
overflow_mul-result c = record { fits = words-fit c.args.mask c.ranges.mask.fits }

pub overflow_add-result : goal.overflow_add-result
overflow_add-result c = record { fits = bytes_fit c.args.mask c.ranges.mask.fits }

pub returns : goal.returns
returns c = by_digits c.args.mask c.ranges.mask.fits
