-- LD and LEA by the register that they name, EXG and TFR by their post-byte.
-- Assumes nothing.
use Rattle.evaluate.proofs.arms.registers_arm.Goals as goal

pub returns-in-Load16 : goal.returns-in-Load16
returns-in-Load16 c = rw (c.is_s.ensures, c.in-Load16.is)

pub returns-in-Lea : goal.returns-in-Lea
returns-in-Lea c = rw (c.is_s-in-Lea.ensures, c.word.ensures, c.in-Lea.is)

pub returns-in-Exg : goal.returns-in-Exg
returns-in-Exg c = rw (c.exchange_arms.ensures, c.read_u8.ensures, c.in-Exg.is)

pub returns-in-Tfr : goal.returns-in-Tfr
returns-in-Tfr c = rw (c.transfer_arms.ensures, c.read_u8-in-Tfr.ensures, c.in-Tfr.is)
