-- Two memories that agree at a list of addresses, and what they have in common: the bytes of a range, a word, a byte after writes.
-- Assumes nothing.
use Prim.Native.Nat.{ℕ, zero, suc, ◌+◌, ◌%◌, ◌≤◌, ◌<◌}
use mathlib.Core.List.{List, [], ◌∷◌, ◌++◌}
use mathlib.Core.Path.{◌≡◌, sym, ap, ◌∙◌}
use native.Mathlib.Decide.{ℕ_discrete}
use native.Mathlib.Omega.{arith}
use lib.ListN.{length}
use Rattle.memory.specs.Map.{place_of, byte_at, low_at, word_at}
use Rattle.memory.specs.Writes.{stored}
use Rattle.memory.specs.declared.writes.Write.{Write}
use Rattle.memory.proofs.Folds.{after_all, read-stored}
use Rattle.bus.specs.Reads.{bytes_from}
use Rattle.traffic.specs.Laws.{AgreeAt}

module _ (mem other : List ℕ) where
  pub agree_left : (l k : List ℕ) → AgreeAt mem other (l ++ k) → AgreeAt mem other l
  agree_left [] k h = tt
  agree_left (a ∷ l) k h = (h.0, agree_left l k h.1)

  pub agree_right : (l k : List ℕ) → AgreeAt mem other (l ++ k) → AgreeAt mem other k
  agree_right [] k h = h
  agree_right (a ∷ l) k h = agree_right l k h.1

  -- the same bytes from one address up to another
  abbrev pub Same : ℕ → ℕ → Type 0
  Same from end = (a : ℕ) → from ≤ a → a < end → byte_at other a ≡ byte_at mem a

  pub agree-within : (n at : ℕ) → at + n ≤ 65536 → AgreeAt mem other (bytes_from at n) → Same at (at + n)
  unfolding bytes_from
  agree-within zero at l h a p q = absurd (omega arith)
  agree-within (suc n) at l h a p q = go (agree-within n (at + 1)) (ℕ_discrete a at)
    where
      go : (at + 1 + n ≤ 65536 → AgreeAt mem other (bytes_from (at + 1) n) → Same (at + 1) (at + 1 + n)) → Dec (a ≡ at) → byte_at other a ≡ byte_at mem a
      go rest (yes e) = rw e h.0
      go rest (no d) =
          let e : (at + 1) % 65536 ≡ at + 1 = omega arith in
          rest (omega arith) (rw e at h.1) a (omega arith) (omega arith)

  pub within-agree : (n at end : ℕ) → at + n ≤ end → end ≤ 65536 → Same at end → AgreeAt mem other (bytes_from at n)
  unfolding bytes_from
  within-agree zero at end l k h = tt
  within-agree (suc zero) at end l k h = (h at (omega arith) (omega arith), tt)
  within-agree (suc (suc n)) at end l k h =
      let e : (at + 1) % 65536 ≡ at + 1 = omega arith in
      (h at (omega arith) (omega arith), rw e (within-agree (suc n) (at + 1) end (omega arith) k (λ a p q. h a (omega arith) q)))

  pub byte-agrees : (at : ℕ) → AgreeAt mem other (bytes_from at 1) → byte_at other at ≡ byte_at mem at
  unfolding bytes_from
  byte-agrees at h = h.0

  pub word-agrees : (at : ℕ) → AgreeAt mem other (bytes_from at 2) → word_at other at ≡ word_at mem at
  unfolding word_at bytes_from
  word-agrees at h = rw (h.0, h.1.0)

  -- after the same writes
  module _ (top : ℕ) (ws : List Write) (l : length other ≡ length mem) where
    pub stored-agrees : (at : ℕ) → byte_at other at ≡ byte_at mem at → byte_at (stored top ws other) at ≡ byte_at (stored top ws mem) at
    stored-agrees at e =
        read-stored top ws other at
        ∙ (ap (λ (b : ℕ). after_all top ws b (place_of at) (length other)) e
        ∙ (ap (λ (n : ℕ). after_all top ws (byte_at mem at) (place_of at) n) l
        ∙ sym (read-stored top ws mem at)))

    pub stored-word-agrees : (at : ℕ) → AgreeAt mem other (bytes_from at 2) → word_at (stored top ws other) at ≡ word_at (stored top ws mem) at
    unfolding word_at bytes_from
    stored-word-agrees at h = rw (stored-agrees at h.0, stored-agrees (low_at at) h.1.0)
