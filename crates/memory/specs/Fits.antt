-- A memory of bytes, and writes that fit their widths.
-- Assumes nothing.
use Rattle.std.specs.Prelude.{ℕ, ◌<◌, List, [], ◌∷◌, slice_index}
use Rattle.memory.specs.declared.writes.Write.{Write}

-- every element is a byte
abbrev pub Bytes : List ℕ → Type 0
Bytes mem = (i : ℕ) → slice_index mem i < 256

pub record WriteFits (w : Write) : Type 0 where
  pub address : w.at < 65536
  pub value : w.byte < 256

abbrev pub AllFit : List Write → Type 0
AllFit [] = Unit {0}
AllFit (w ∷ ws) = WriteFits w × AllFit ws
