-- A place that saturates lies past an end, as the sum does.
-- Assumes nothing.
use Rattle.std.proofs.Common.{◌≡◌, ℕ, ◌+◌, ◌-◌, ◌*◌, ◌^◌, ◌≤◌, ◌<◌, min, List, length, get_or, ap, sym, ◌∙◌, arith}
use native.Mathlib.Decide.{dec_le}
use Rattle.std.proofs.lemmas.List.{get_or_past}
use Rattle.std.proofs.lemmas.List.Edits.{sets}
use Rattle.text.proofs.Stores.{sets-out}
use Rattle.text.specs.Hex.{byte_of}
use Rattle.scenery.specs.Line.{byte_in, word_in}

-- what is one value at every place from an end on
saturated : {A : Type 0} (f : ℕ → A) (v : A) (end a b : ℕ) → end < 2 ^ 64 → ((p : ℕ) → end ≤ p → f p ≡ v) → f (min (a + b) (2 ^ 64 - 1)) ≡ f (a + b)
saturated f v end a b h past = go (dec_le (a + b) (2 ^ 64 - 1))
  where
    go : Dec (a + b ≤ 2 ^ 64 - 1) → f (min (a + b) (2 ^ 64 - 1)) ≡ f (a + b)
    go (yes k) = ap f (omega arith)
    go (no k) = past (min (a + b) (2 ^ 64 - 1)) (omega arith) ∙ sym (past (a + b) (omega arith))

module _ (l : List ℕ) (a b : ℕ) (h : length l < 2 ^ 64) where
  pub read : get_or l (min (a + b) (2 ^ 64 - 1)) 0 ≡ get_or l (a + b) 0
  read = saturated (λ p. get_or l p 0) 0 (length l) a b h (λ p k. get_or_past l p 0 k)

  byte-past : (p : ℕ) → length l ≤ p → byte_in l p ≡ byte_of 0 0
  byte-past p k = rw (get_or_past l p 0 k, get_or_past l (p + 1) 0 (omega arith))

  pub byte : byte_in l (min (a + b) (2 ^ 64 - 1)) ≡ byte_in l (a + b)
  byte = saturated (byte_in l) (byte_of 0 0) (length l) a b h byte-past

  pub word : word_in l (min (a + b) (2 ^ 64 - 1)) ≡ word_in l (a + b)
  word = saturated (word_in l) (256 * byte_of 0 0 + byte_of 0 0) (length l) a b h (λ p k. rw (byte-past p k, byte-past (p + 2) (omega arith)))

  -- past the end nothing is laid
  pub laid : (vs : List ℕ) → sets l (min (a + b) (2 ^ 64 - 1)) vs ≡ sets l (a + b) vs
  laid vs = saturated (λ p. sets l p vs) l (length l) a b h (λ p k. sets-out l vs p k)
