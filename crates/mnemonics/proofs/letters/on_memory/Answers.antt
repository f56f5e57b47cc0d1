-- An arm for each operation.
-- Assumes nothing.

use Rattle.mnemonics.proofs.letters.on_memory.Goals as goal

pub returns-in-Neg : goal.returns-in-Neg
returns-in-Neg c = rw c.in-Neg.is

pub returns-in-Com : goal.returns-in-Com
returns-in-Com c = rw c.in-Com.is

pub returns-in-Lsr : goal.returns-in-Lsr
returns-in-Lsr c = rw c.in-Lsr.is

pub returns-in-Ror : goal.returns-in-Ror
returns-in-Ror c = rw c.in-Ror.is

pub returns-in-Asr : goal.returns-in-Asr
returns-in-Asr c = rw c.in-Asr.is

pub returns-in-Asl : goal.returns-in-Asl
returns-in-Asl c = rw c.in-Asl.is

pub returns-in-Rol : goal.returns-in-Rol
returns-in-Rol c = rw c.in-Rol.is

pub returns-in-Dec : goal.returns-in-Dec
returns-in-Dec c = rw c.in-Dec.is

pub returns-in-Inc : goal.returns-in-Inc
returns-in-Inc c = rw c.in-Inc.is

pub returns-in-Clr : goal.returns-in-Clr
returns-in-Clr c = rw c.in-Clr.is
