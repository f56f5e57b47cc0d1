-- What is known of every interrupt that is served and of the waits: what is refused, and that all fits its width.
-- Assumes nothing.
use Rattle.std.specs.Prelude.{ℕ, ◌+◌, ◌*◌, true, false, cond, List, ◌≢◌, ◌≡◌, eqb, ltb, length, Ok}
use Rattle.answers.specs.Numbers.{number_of_answer}
use Rattle.registers.specs.RegisterSet.{with_word}
use Rattle.registers.specs.declared.Set.{Set}
use Rattle.registers.specs.declared.Word.TheVariants.{S}
use Rattle.memory.specs.Map.{byte_at, word_at}
use Rattle.memory.specs.Writes.{listed, stored}
use Rattle.machine.specs.Effect.{changes}
use Rattle.machine.specs.Fence.{bars}
use Rattle.machine.specs.declared.Settings.{Settings}
use Rattle.machine.specs.declared.Wait.TheVariants.{Running, Cwai, Sync}
use Rattle.operations.specs.Sound.{Sound, Given}
use Rattle.stack.specs.Frames.{framed}
use Rattle.vectors.specs.Table.{address_of, is_entire}
use Rattle.vectors.specs.Service.{vectored, served}
use Rattle.vectors.specs.Waits.{waiting, synchronized}
use Rattle.vectors.specs.declared.table.Vector.{Vector}
use Rattle.vectors.specs.declared.table.Vector.TheVariants.{Irq}

-- no vector is a word at FFFF: none wraps
abbrev pub NoVectorWraps : Type 0
NoVectorWraps = (mem : List ℕ) (v : Vector) → word_at mem (address_of v) ≡ 256 * byte_at mem (address_of v) + byte_at mem (address_of v + 1)

-- 9 if the byte that a vector leads to is zero
abbrev pub zero_number : List ℕ → Vector → ℕ
zero_number mem v = cond (eqb (byte_at mem (word_at mem (address_of v))) 0) 9 0

-- 8 exactly where S is smaller than the frame, of 12 bytes or of 3; then 28 exactly where the fence bars the frame; then 9 exactly where the
-- vector, after stacking, leads to a zero byte. In CWAI nothing is stacked, and neither S nor the fence is tested
pub record VectorsRefuseExactly : Type 0 where
  pub running : (mem : List ℕ) (s : Settings) (r : Set) (v : Vector)
      → number_of_answer (served mem s r v).answer
      ≡ cond (ltb r.s (cond (is_entire v) 12 3)) 8
      (cond (bars s (listed (framed r (is_entire v)).writes)) 28 (zero_number (stored s.ram_top (listed (framed r (is_entire v)).writes) mem) v))
  pub in_cwai : (mem : List ℕ) (s : Settings) (r : Set) (v : Vector) → number_of_answer (vectored mem s r (changes r) v).answer ≡ zero_number mem v
  pub cwai : (r : Set) (m : ℕ) → number_of_answer (waiting r m).answer ≡ cond (ltb r.s 12) 8 0
  pub sync : (r : Set) → number_of_answer (synchronized r).answer ≡ 0

-- each is sound: a refusal leaves the registers that came, and registers and writes fit where those that came do
pub record VectorsSound (mem : List ℕ) (s : Settings) (r : Set) (ea : ℕ) : Type 0 where
  pub running : (v : Vector) → Sound (Given mem r ea) r Running (served mem s r v)
  pub in_cwai : (v : Vector) → Sound (Given mem r ea) r Running (vectored mem s r (changes r) v)
  pub cwai : Sound (Given mem r ea) r Cwai (waiting r (byte_at mem ea))
  pub sync : Sound (Given mem r ea) r Sync (synchronized r)

-- an IRQ with S at FFFA stacks PC on FFF8 and FFF9, which is the vector that it then takes: where the fence lets the frame pass and PC does
-- not lead to a zero byte after stacking, the interrupt is served at the PC that it stacked
abbrev pub at_vector : Set → Set
at_vector r = with_word r S 0xFFFA

abbrev pub FrameOverVector : Type 0
FrameOverVector =
    (mem : List ℕ) (s : Settings) (r : Set) → length mem ≡ 65536 → bars s (listed (framed (at_vector r) true).writes) ≡ false
    → byte_at (stored s.ram_top (listed (framed (at_vector r) true).writes) mem) r.pc ≢ 0
    → ((served mem s (at_vector r) Irq).answer ≡ (Ok tt)) × ((served mem s (at_vector r) Irq).regs.pc ≡ r.pc)
