-- What is known of every operation: registers and writes fit their widths. A sound effect lists at most twelve writes and leaves the wait
-- state that is named, and a refusal changes nothing.
-- Assumes nothing.
use Rattle.std.specs.Prelude.{◌≡◌, ℕ, ◌<◌, List, length, Err, Ok, Result}
use Rattle.answers.specs.declared.Refusal.{Refusal}
use Rattle.registers.specs.Fits.{Fits}
use Rattle.registers.specs.declared.Flags.{Flags}
use Rattle.registers.specs.declared.Set.{Set}
use Rattle.memory.specs.Fits.{Bytes, AllFit}
use Rattle.machine.specs.Effect.{refuses}
use Rattle.machine.specs.declared.Effect.{Effect}
use Rattle.machine.specs.declared.Wait.{Wait}
use Rattle.opcodes.specs.declared.RegisterOp.{RegisterOp}
use Rattle.operations.specs.Change.{changed_of}

-- the effect e on registers r, which leaves the wait state w; P is what the widths rest on
pub record Sound (P : Type 0) (r : Set) (w : Wait) (e : Effect) : Type 0 where
  pub few : length e.writes.list ≡ 12
  pub waits : e.answer ≡ (Ok tt) → e.wait ≡ w
  pub refused : (x : Refusal) → e.answer ≡ Err x → e ≡ refuses r x
  pub registers : P → Fits e.regs
  pub widths : P → AllFit e.writes.list

-- what is given to an operation: registers that fit, a memory of bytes, an address
pub record Given (mem : List ℕ) (r : Set) (ea : ℕ) : Type 0 where
  pub registers : Fits r
  pub bytes : Bytes mem
  pub address : ea < 65536

-- the registers after a change fit; a refusal has none
abbrev pub ChangedFits : Result Set Refusal → Type 0
ChangedFits (Ok r) = Fits r
ChangedFits (Err x) = Unit {0}

-- the law: whatever an operation that changes registers alone leaves in them fits
abbrev pub ChangesFit : Type 0
ChangesFit = (op : RegisterOp) (s : Flags) (mem : List ℕ) (r : Set) (ea : ℕ) → Given mem r ea → ChangedFits (changed_of op s mem r ea)
