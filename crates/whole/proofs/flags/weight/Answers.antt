-- Eight places, eight powers of 2.
-- Assumes nothing.

use Rattle.whole.proofs.flags.weight.Goals as goal

pub returns-in-C : goal.returns-in-C
returns-in-C c = rw c.in-C.is

pub returns-in-V : goal.returns-in-V
returns-in-V c = rw c.in-V.is

pub returns-in-Z : goal.returns-in-Z
returns-in-Z c = rw c.in-Z.is

pub returns-in-N : goal.returns-in-N
returns-in-N c = rw c.in-N.is

pub returns-in-I : goal.returns-in-I
returns-in-I c = rw c.in-I.is

pub returns-in-H : goal.returns-in-H
returns-in-H c = rw c.in-H.is

pub returns-in-F : goal.returns-in-F
returns-in-F c = rw c.in-F.is

pub returns-in-E : goal.returns-in-E
returns-in-E c = rw c.in-E.is
