-- What is known of every push and pull: what is refused, that no write is lost, that CC stays where it is not named, and that
-- all fits its width.
-- Assumes nothing.
use Rattle.std.specs.Prelude.{◌≡◌, ℕ, ◌≤◌, Bool, false, cond, List, length, nat_lt}
use Rattle.answers.specs.Numbers.{number_of_answer}
use Rattle.registers.specs.ConditionCodes.{bit_at}
use Rattle.registers.specs.Fits.{Fits}
use Rattle.registers.specs.Names.{stack_word}
use Rattle.registers.specs.RegisterSet.{word_of}
use Rattle.registers.specs.declared.Set.{Set}
use Rattle.registers.specs.declared.Stack.{Stack}
use Rattle.memory.specs.Writes.{listed}
use Rattle.machine.specs.declared.Wait.TheVariants.{Running}
use Rattle.operations.specs.Sound.{Sound, Given}
use Rattle.stack.specs.Pushing.{registers_named, bytes_pushed, pushes, pushed, jumped_to_subroutine}
use Rattle.stack.specs.Frames.{framed}
use Rattle.stack.specs.Pulling.{pulled, returned_from_interrupt}

-- a push writes a byte for each that the post-byte counts, at most twelve; unless it is refused all of them are listed, from just below
-- the pointer down to where it ends
pub record NoneDropped : Type 0 where
  pub bytes : (r : Set) (stack : Stack) (mask pointer : ℕ) (system : Bool) → length (pushes r system pointer (registers_named stack mask)) ≡ bytes_pushed mask
  pub few : (mask : ℕ) → bytes_pushed mask ≤ 12
  pub listed : (r : Set) (stack : Stack) (mask : ℕ) (system : Bool)
      → bytes_pushed mask ≤ word_of r (stack_word stack)
      → listed (pushed r stack mask system).writes ≡ pushes r system (word_of r (stack_word stack)) (registers_named stack mask)

-- 8 exactly where the pointer is smaller than the bytes to push (a frame has 12 or 3). A pull gives registers, and no refusal
pub record StackRefusesExactly : Type 0 where
  pub push : (r : Set) (stack : Stack) (mask : ℕ) (system : Bool)
      → number_of_answer (pushed r stack mask system).answer ≡ cond (nat_lt (word_of r (stack_word stack)) (bytes_pushed mask)) 8 0
  pub jsr : (r : Set) (ea : ℕ) → number_of_answer (jumped_to_subroutine r ea).answer ≡ cond (nat_lt r.s 2) 8 0
  pub frame : (r : Set) (entire : Bool) → number_of_answer (framed r entire).answer ≡ cond (nat_lt r.s (cond entire 12 3)) 8 0

-- a pull whose post-byte does not name CC, by bit 0, leaves CC
abbrev pub PullKeepsCodes : Type 0
PullKeepsCodes = (mem : List ℕ) (r : Set) (stack : Stack) (mask : ℕ) → bit_at 0 mask ≡ false → (pulled mem r stack mask).cc ≡ r.cc

-- each is sound: a refusal leaves the registers that came, and registers and writes fit where those that came do. Of a pull the registers fit
pub record StackSound (mem : List ℕ) (r : Set) (ea : ℕ) : Type 0 where
  pub push : (stack : Stack) (mask : ℕ) (system : Bool) → Sound (Given mem r ea) r Running (pushed r stack mask system)
  pub jsr : Sound (Given mem r ea) r Running (jumped_to_subroutine r ea)
  pub frame : (entire : Bool) → Sound (Given mem r ea) r Running (framed r entire)
  pub pull : (stack : Stack) (mask : ℕ) → Given mem r ea → Fits (pulled mem r stack mask)
  pub rti : Given mem r ea → Fits (returned_from_interrupt mem r)
