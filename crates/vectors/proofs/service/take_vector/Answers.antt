-- `take_vector`: the frame refused, or barred, a zero byte, or the registers after the interrupt.
-- Assumes nothing.
use mathlib.Core.Path.{sym, ◌∙◌}
use borrow.Author.Tests.{eq-eqb, ne_eqb}
use Rattle.vectors.specs.Service.{vectored}
use Rattle.vectors.proofs.service.take_vector.Goals as goal

pub returns-then-bars : goal.returns-then-bars
unfolding vectored
returns-then-bars c = rw (c.refuses-then-bars.ensures, c.in_default.is, sym c.bars.ensures ∙ c.if-bars.true)

pub returns-in-Err : goal.returns-in-Err
unfolding vectored
returns-in-Err c = rw (c.refuses.ensures, c.in-Err.is)

pub returns-then-read_u8_after-eq0 : goal.returns-then-read_u8_after-eq0
unfolding vectored
returns-then-read_u8_after-eq0 c =
    rw (
      c.refuses-then-read_u8_after-eq0.ensures,
      c.in_default.is,
      sym c.bars.ensures ∙ c.if-bars.false,
      ← c.address.ensures,
      ← c.read_u16_after-pc.ensures,
      ← c.read_u8_after.ensures,
      eq-eqb _ 0 c.if-read_u8_after-eq0.true,
    )

pub returns : goal.returns
unfolding vectored
returns c =
    rw (
      c.stores.ensures,
      c.jump.ensures,
      c.or_codes-masked.ensures,
      c.masks.ensures,
      c.in_default.is,
      sym c.bars.ensures ∙ c.if-bars.false,
      ← c.address.ensures,
      ← c.read_u16_after-pc.ensures,
      ← c.read_u8_after.ensures,
      ne_eqb _ 0 c.if-read_u8_after-eq0.false,
    )
