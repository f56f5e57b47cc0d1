-- The frame may overwrite the vector: the vector is read after stacking.
-- Assumes nothing.
use Rattle.std.specs.Prelude.{Ok}
use Prim.Native.Nat.{ℕ, ◌+◌, ◌*◌, ◌/◌, ◌%◌}
use mathlib.Core.Path.{◌≡◌, refl}
use mathlib.Core.Bool.{Bool, true, false, ◌&&◌}
use mathlib.Core.List.{List}
use native.Mathlib.Omega.{arith}
use borrow.Author.Tests.{ne_eqb}
use lib.ListN.{length}
use Rattle.registers.specs.ConditionCodes.{bit_at}
use Rattle.registers.specs.declared.Set.{Set}
use Rattle.memory.specs.Map.{place_of, byte_at, word_at, landing_of}
use Rattle.memory.specs.Writes.{twelve, listed, stored}
use Rattle.memory.specs.declared.writes.Write.{Write}
use Rattle.memory.proofs.Folds.{after_all, read-stored}
use Rattle.stack.specs.Frames.{framed}
use Rattle.stack.specs.Pushing.{chosen, pushes, pushed}
use Rattle.vectors.specs.Laws.{at_vector, FrameOverVector}
use Rattle.vectors.specs.Service.{vectored}

unfoldable frame : Set → List Write
frame r = listed (framed (at_vector r) true).writes

-- System writes are stored whatever ram_top is
clear : (b : Bool) → (b && false) ≡ false
clear true = refl
clear false = refl

module _ (top : ℕ) (r : Set) (b : ℕ) where
  high : after_all top (frame r) b 0xBFF8 65536 ≡ r.pc / 256
  unfolding frame framed pushed pushes chosen twelve bit_at landing_of place_of
  high = simp clear

  low : after_all top (frame r) b 0xBFF9 65536 ≡ r.pc % 256
  unfolding frame framed pushed pushes chosen twelve bit_at landing_of place_of
  low = simp clear

-- the vector as it is after stacking
vector : (top : ℕ) (r : Set) (mem : List ℕ) → length mem ≡ 65536 → word_at (stored top (frame r) mem) 0xFFF8 ≡ r.pc
unfolding place_of word_at
vector top r mem l =
    let e : 256 * (r.pc / 256) + r.pc % 256 ≡ r.pc = omega arith in
    rw (read-stored top (frame r) mem 0xFFF8, read-stored top (frame r) mem 0xFFF9, l, high top r (byte_at mem 0xFFF8), low top r (byte_at mem 0xFFF9), e)

stacked : (r : Set) → (framed (at_vector r) true).answer ≡ (Ok tt)
unfolding framed pushed
stacked r = refl

pub frame-over-vector : FrameOverVector
unfolding vectored frame
frame-over-vector mem s r l f n =
    rw (stacked r, f, vector s.ram_top r mem l, ne_eqb (byte_at (stored s.ram_top (frame r) mem) r.pc) 0 n) (refl, refl)
