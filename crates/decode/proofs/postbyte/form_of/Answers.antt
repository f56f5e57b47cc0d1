-- An arm for each form; a low form past 0F that is none of them is refused.
-- Assumes nothing.
use Rattle.std.proofs.Common.{arith, rules, lt-ltb}
use Rattle.decode.proofs.PostBytes.{low-form, no-form}
use Rattle.decode.specs.PostByte.{form_of}
use lib.Bits.{bit_and}
use Rattle.decode.proofs.postbyte.form_of.Goals as goal

pub returns-in-128 : goal.returns-in-128
unfolding form_of
returns-in-128 c = rw (c.unless_indirect.ensures, c.in-128.is)

pub returns-in-129 : goal.returns-in-129
unfolding form_of
returns-in-129 c = rw c.in-129.is

pub returns-in-130 : goal.returns-in-130
unfolding form_of
returns-in-130 c = rw (c.unless_indirect-in-130.ensures, c.in-130.is)

pub returns-in-131 : goal.returns-in-131
unfolding form_of
returns-in-131 c = rw c.in-131.is

pub returns-in-132 : goal.returns-in-132
unfolding form_of
returns-in-132 c = rw c.in-132.is

pub returns-in-133 : goal.returns-in-133
unfolding form_of
returns-in-133 c = rw c.in-133.is

pub returns-in-134 : goal.returns-in-134
unfolding form_of
returns-in-134 c = rw c.in-134.is

pub returns-in-136 : goal.returns-in-136
unfolding form_of
returns-in-136 c = rw c.in-136.is

pub returns-in-137 : goal.returns-in-137
unfolding form_of
returns-in-137 c = rw c.in-137.is

pub returns-in-139 : goal.returns-in-139
unfolding form_of
returns-in-139 c = rw c.in-139.is

pub returns-in-140 : goal.returns-in-140
unfolding form_of
returns-in-140 c = rw c.in-140.is

pub returns-in-141 : goal.returns-in-141
unfolding form_of
returns-in-141 c = rw c.in-141.is

pub returns-in-143 : goal.returns-in-143
unfolding form_of
returns-in-143 c = rw (c.only_as_9f.ensures, c.in-143.is)

pub returns-in-0-to-15 : goal.returns-in-0-to-15
unfolding form_of
returns-in-0-to-15 c = rw (lt-ltb (bit_and c.args.post 0x8F) 0x80 (omega arith))

pub returns-in_default : goal.returns-in_default
unfolding form_of
returns-in_default c = let x = c.args.post in no-form x (low-form x (search rules) (omega arith)) (search rules)
