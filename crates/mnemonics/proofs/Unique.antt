-- No second answer fits a public function's contract. A text is a reference: two answers have the same letters, wherever these lie.
-- Assumes nothing.
use mathlib.Core.Path.{refl, sym, ◌∙◌}
use Rattle.answers.proofs.Determined.{TellsOne}
use Rattle.mnemonics.proofs

pub mnemonic : TellsOne 1 proofs.mnemonic.Kinds.ps proofs.mnemonic.Kinds.r (λ κs s. s.now) proofs.mnemonic.Reads.Post
mnemonic κs a x y ws vs p q = (p ∙ sym q, refl)
