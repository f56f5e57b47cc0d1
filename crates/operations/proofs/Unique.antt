-- No second answer fits a public function's contract.
-- Assumes nothing.
use Rattle.std.proofs.Common.{sym, refl, ◌∙◌}
use Rattle.answers.proofs.Determined.{Determines}
use Rattle.operations.proofs
use Rattle.operations.proofs.branches
use Rattle.operations.proofs.eight_bit
use Rattle.operations.proofs.codes
use Rattle.operations.proofs.transfers
use Rattle.operations.proofs.words

pub change : Determines 1 proofs.change.Kinds.ps proofs.change.Kinds.r proofs.change.Reads.Post
change κs a x y ws vs p q = (p ∙ sym q, refl)

pub condition : Determines 0 branches.condition.Kinds.ps branches.condition.Kinds.r branches.condition.Reads.Post
condition κs a x y ws vs p q = (p ∙ sym q, refl)

pub jump : Determines 0 branches.jump.Kinds.ps branches.jump.Kinds.r branches.jump.Reads.Post
jump κs a x y ws vs p q = (p ∙ sym q, refl)

pub on-memory : Determines 1 eight_bit.on_memory.Kinds.ps eight_bit.on_memory.Kinds.r eight_bit.on_memory.Reads.Post
on-memory κs a x y ws vs p q = (p ∙ sym q, refl)

pub store8 : Determines 0 eight_bit.store8.Kinds.ps eight_bit.store8.Kinds.r eight_bit.store8.Reads.Post
store8 κs a x y ws vs p q = (p ∙ sym q, refl)

pub and-codes : Determines 0 codes.and_codes.Kinds.ps codes.and_codes.Kinds.r codes.and_codes.Reads.Post
and-codes κs a x y ws vs p q = (p ∙ sym q, refl)

pub or-codes : Determines 0 codes.or_codes.Kinds.ps codes.or_codes.Kinds.r codes.or_codes.Reads.Post
or-codes κs a x y ws vs p q = (p ∙ sym q, refl)

pub with-codes : Determines 0 codes.with_codes.Kinds.ps codes.with_codes.Kinds.r codes.with_codes.Reads.Post
with-codes κs a x y ws vs p q = (p ∙ sym q, refl)

pub store16 : Determines 0 words.store16.Kinds.ps words.store16.Kinds.r words.store16.Reads.Post
store16 κs a x y ws vs p q = (p ∙ sym q, refl)

pub transferable : Determines 0 transfers.transferable.Kinds.ps transfers.transferable.Kinds.r transfers.transferable.Reads.Post
transferable κs a x y ws vs p q = (p ∙ sym q, refl)

pub transfer-name : Determines 0 transfers.transfer_name.Kinds.ps transfers.transfer_name.Kinds.r transfers.transfer_name.Reads.Post
transfer-name κs a x y ws vs p q = (p ∙ sym q, refl)

pub accumulator : Determines 0 eight_bit.accumulator.Kinds.ps eight_bit.accumulator.Kinds.r eight_bit.accumulator.Reads.Post
accumulator κs a x y ws vs p q = (p ∙ sym q, refl)

pub test : Determines 0 eight_bit.test.Kinds.ps eight_bit.test.Kinds.r eight_bit.test.Reads.Post
test κs a x y ws vs p q = (p ∙ sym q, refl)

pub unary : Determines 0 eight_bit.unary.Kinds.ps eight_bit.unary.Kinds.r eight_bit.unary.Reads.Post
unary κs a x y ws vs p q = (p ∙ sym q, refl)

pub test16 : Determines 0 words.test16.Kinds.ps words.test16.Kinds.r words.test16.Reads.Post
test16 κs a x y ws vs p q = (p ∙ sym q, refl)

pub transfer : Determines 0 transfers.transfer.Kinds.ps transfers.transfer.Kinds.r transfers.transfer.Reads.Post
transfer κs a x y ws vs p q = (p ∙ sym q, refl)

pub exchange : Determines 0 transfers.exchange.Kinds.ps transfers.exchange.Kinds.r transfers.exchange.Reads.Post
exchange κs a x y ws vs p q = (p ∙ sym q, refl)

pub with-accumulator : Determines 0 eight_bit.with_accumulator.Kinds.ps eight_bit.with_accumulator.Kinds.r eight_bit.with_accumulator.Reads.Post
with-accumulator κs a x y ws vs p q = (p ∙ sym q, refl)

pub one-write : Determines 0 eight_bit.one_write.Kinds.ps eight_bit.one_write.Kinds.r eight_bit.one_write.Reads.Post
one-write κs a x y ws vs p q = (p ∙ sym q, refl)
