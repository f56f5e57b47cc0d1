-- An arm for each condition, and its two lengths.
-- Assumes nothing.

use Rattle.mnemonics.proofs.letters.of_branch.Goals as goal

pub returns-then-long : goal.returns-then-long
returns-then-long c = rw (c.in-Ra.is, c.if-long.true)

pub returns-else-long : goal.returns-else-long
returns-else-long c = rw (c.in-Ra.is, c.if-long.false)

pub returns-then-long-2 : goal.returns-then-long-2
returns-then-long-2 c = rw (c.in-Rn.is, c.if-long-2.true)

pub returns-else-long-2 : goal.returns-else-long-2
returns-else-long-2 c = rw (c.in-Rn.is, c.if-long-2.false)

pub returns-then-long-3 : goal.returns-then-long-3
returns-then-long-3 c = rw (c.in-Hi.is, c.if-long-3.true)

pub returns-else-long-3 : goal.returns-else-long-3
returns-else-long-3 c = rw (c.in-Hi.is, c.if-long-3.false)

pub returns-then-long-4 : goal.returns-then-long-4
returns-then-long-4 c = rw (c.in-Ls.is, c.if-long-4.true)

pub returns-else-long-4 : goal.returns-else-long-4
returns-else-long-4 c = rw (c.in-Ls.is, c.if-long-4.false)

pub returns-then-long-5 : goal.returns-then-long-5
returns-then-long-5 c = rw (c.in-Cc.is, c.if-long-5.true)

pub returns-else-long-5 : goal.returns-else-long-5
returns-else-long-5 c = rw (c.in-Cc.is, c.if-long-5.false)

pub returns-then-long-6 : goal.returns-then-long-6
returns-then-long-6 c = rw (c.in-Cs.is, c.if-long-6.true)

pub returns-else-long-6 : goal.returns-else-long-6
returns-else-long-6 c = rw (c.in-Cs.is, c.if-long-6.false)

pub returns-then-long-7 : goal.returns-then-long-7
returns-then-long-7 c = rw (c.in-Ne.is, c.if-long-7.true)

pub returns-else-long-7 : goal.returns-else-long-7
returns-else-long-7 c = rw (c.in-Ne.is, c.if-long-7.false)

pub returns-then-long-8 : goal.returns-then-long-8
returns-then-long-8 c = rw (c.in-Eq.is, c.if-long-8.true)

pub returns-else-long-8 : goal.returns-else-long-8
returns-else-long-8 c = rw (c.in-Eq.is, c.if-long-8.false)

pub returns-then-long-9 : goal.returns-then-long-9
returns-then-long-9 c = rw (c.in-Vc.is, c.if-long-9.true)

pub returns-else-long-9 : goal.returns-else-long-9
returns-else-long-9 c = rw (c.in-Vc.is, c.if-long-9.false)

pub returns-then-long-10 : goal.returns-then-long-10
returns-then-long-10 c = rw (c.in-Vs.is, c.if-long-10.true)

pub returns-else-long-10 : goal.returns-else-long-10
returns-else-long-10 c = rw (c.in-Vs.is, c.if-long-10.false)

pub returns-then-long-11 : goal.returns-then-long-11
returns-then-long-11 c = rw (c.in-Pl.is, c.if-long-11.true)

pub returns-else-long-11 : goal.returns-else-long-11
returns-else-long-11 c = rw (c.in-Pl.is, c.if-long-11.false)

pub returns-then-long-12 : goal.returns-then-long-12
returns-then-long-12 c = rw (c.in-Mi.is, c.if-long-12.true)

pub returns-else-long-12 : goal.returns-else-long-12
returns-else-long-12 c = rw (c.in-Mi.is, c.if-long-12.false)

pub returns-then-long-13 : goal.returns-then-long-13
returns-then-long-13 c = rw (c.in-Ge.is, c.if-long-13.true)

pub returns-else-long-13 : goal.returns-else-long-13
returns-else-long-13 c = rw (c.in-Ge.is, c.if-long-13.false)

pub returns-then-long-14 : goal.returns-then-long-14
returns-then-long-14 c = rw (c.in-Lt.is, c.if-long-14.true)

pub returns-else-long-14 : goal.returns-else-long-14
returns-else-long-14 c = rw (c.in-Lt.is, c.if-long-14.false)

pub returns-then-long-15 : goal.returns-then-long-15
returns-then-long-15 c = rw (c.in-Gt.is, c.if-long-15.true)

pub returns-else-long-15 : goal.returns-else-long-15
returns-else-long-15 c = rw (c.in-Gt.is, c.if-long-15.false)

pub returns-then-long-16 : goal.returns-then-long-16
returns-then-long-16 c = rw (c.in-Le.is, c.if-long-16.true)

pub returns-else-long-16 : goal.returns-else-long-16
returns-else-long-16 c = rw (c.in-Le.is, c.if-long-16.false)
