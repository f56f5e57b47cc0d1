-- No second answer fits a public function's contract.
-- Assumes nothing.
use Rattle.std.proofs.Common.{sym, refl, ◌∙◌}
use Rattle.answers.proofs.Determined.{Determines}
use Rattle.decode.proofs

pub is-indirect : Determines 0 proofs.postbyte.is_indirect.Kinds.ps proofs.postbyte.is_indirect.Kinds.r proofs.postbyte.is_indirect.Reads.Post
is-indirect κs a x y ws vs p q = (p ∙ sym q, refl)

pub form_of : Determines 0 proofs.postbyte.form_of.Kinds.ps proofs.postbyte.form_of.Kinds.r proofs.postbyte.form_of.Reads.Post
form_of κs a x y ws vs p q = (p ∙ sym q, refl)

pub index_of : Determines 0 proofs.postbyte.index_of.Kinds.ps proofs.postbyte.index_of.Kinds.r proofs.postbyte.index_of.Reads.Post
index_of κs a x y ws vs p q = (p ∙ sym q, refl)

pub five-bits : Determines 0 proofs.postbyte.five_bits.Kinds.ps proofs.postbyte.five_bits.Kinds.r proofs.postbyte.five_bits.Reads.Post
five-bits κs a x y ws vs p q = (p ∙ sym q, refl)

pub signed-byte : Determines 0 proofs.operand.signed_byte.Kinds.ps proofs.operand.signed_byte.Kinds.r proofs.operand.signed_byte.Reads.Post
signed-byte κs a x y ws vs p q = (p ∙ sym q, refl)

pub operand_at : Determines 1 proofs.operand.operand_at.Kinds.ps proofs.operand.operand_at.Kinds.r proofs.operand.operand_at.Reads.Post
operand_at κs a x y ws vs p q = (p ∙ sym q, refl)

pub decode : Determines 1 proofs.instruction.decode.Kinds.ps proofs.instruction.decode.Kinds.r proofs.instruction.decode.Reads.Post
decode κs a x y ws vs p q = (p ∙ sym q, refl)

pub with-operand : Determines 1 proofs.instruction.with_operand.Kinds.ps proofs.instruction.with_operand.Kinds.r proofs.instruction.with_operand.Reads.Post
with-operand κs a x y ws vs p q = (p ∙ sym q, refl)
