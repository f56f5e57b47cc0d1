-- Each operation is the recorded call of its name.
-- Assumes nothing.

use Rattle.player.proofs.plays.wanted_by.Goals as goal

pub returns-in-Step : goal.returns-in-Step
returns-in-Step c = rw c.in-Step.is

pub returns-in-Irq : goal.returns-in-Irq
returns-in-Irq c = rw c.in-Irq.is

pub returns-in-Firq : goal.returns-in-Firq
returns-in-Firq c = rw c.in-Firq.is

pub returns-in-Nmi : goal.returns-in-Nmi
returns-in-Nmi c = rw c.in-Nmi.is

pub returns-in-Reset : goal.returns-in-Reset
returns-in-Reset c = rw c.in-Reset.is

pub returns-in-Undo : goal.returns-in-Undo
returns-in-Undo c = rw c.in-Undo.is
