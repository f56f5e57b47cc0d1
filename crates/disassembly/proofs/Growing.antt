-- Texts that grow by a name or by a pair of digits.
-- Assumes nothing.
use Rattle.std.proofs.Common.{◌≡◌, ℕ, ◌+◌, ◌%◌, List, [], ◌∷◌, refl, append_assoc, add-one}
use Rattle.text.specs.Hex.{hex2}
use Rattle.text.specs.Lines.{text_of, grown}
use Rattle.text.specs.declared.lines.Text.{Text}
use Rattle.text.proofs.Texts.{text-grows}
use Rattle.memory.specs.Map.{byte_at}
use Rattle.disassembly.specs.Line.{space, byte_pairs}

pub grown-none : (t : Text) → t ≡ grown t []
unfolding grown
grown-none t = refl

-- no pair, and one pair more
pub no_pairs : (mem : List ℕ) (at : ℕ) → text_of [] ≡ text_of (byte_pairs 0 mem at)
unfolding byte_pairs
no_pairs mem at = refl

pub pair-more : (k : ℕ) (mem : List ℕ) (at : ℕ)
    → grown (grown (text_of (byte_pairs k mem at)) (hex2 (byte_at mem ((at + k) % 65536)))) (space ∷ []) ≡ text_of (byte_pairs (k + 1) mem at)
unfolding byte_pairs
pair-more k mem at = rw (add-one k) (simp (text-grows, append_assoc))
