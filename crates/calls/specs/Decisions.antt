-- What an instruction does, told by a small value: the effect that it stands for. It is a form of a plan between functions, not a rule of the machine.
-- Assumes nothing.
use Rattle.std.specs.Prelude.{◌≡◌, ℕ, ◌+◌, ◌%◌, Bool, true, false, ◌&&◌, List, [], ◌∷◌, nat_le, nat_lt, Ok}
use Rattle.answers.specs.declared.Refusal.{Refusal}
use Rattle.answers.specs.declared.Refusal.TheVariants.{Opcode}
use Rattle.u8oru16.specs.declared.u8u16.TheVariants.{u8, u16}
use Rattle.registers.specs.Names.{stack_word}
use Rattle.registers.specs.RegisterSet.{word_of}
use Rattle.registers.specs.declared.Set.{Set}
use Rattle.registers.specs.declared.Stack.{Stack}
use Rattle.registers.specs.declared.Stack.TheVariants.{S}
use Rattle.memory.specs.Writes.{writes_of, value_writes}
use Rattle.machine.specs.Effect.{changes, stores, refuses}
use Rattle.machine.specs.declared.Effect.{Effect}
use Rattle.machine.specs.declared.Machine.{Machine}
use Rattle.machine.specs.declared.Settings.{Settings}
use Rattle.machine.specs.declared.Wait.TheVariants.{Running}
use Rattle.machine.specs.declared.fence.Range.{Range}
use Rattle.opcodes.specs.declared.MemoryOp.{MemoryOp}
use Rattle.opcodes.specs.declared.MemoryOp.TheVariants.{Sync}
use Rattle.stack.specs.Pushing.{pushed}
use Rattle.evaluate.specs.Evaluate.{memory_of}
use Rattle.calls.specs.Steps.{after_instruction, finished}
use Rattle.calls.specs.declared.Plan.{Plan}
use Rattle.calls.specs.declared.Report.{Report}
use Rattle.calls.specs.declared.decisions.Decision.{Decision}
use Rattle.calls.specs.declared.decisions.Kind.{Kind}
use Rattle.calls.specs.declared.decisions.Kind.TheVariants.{Refused, Change, Byte, Word, Push, Rest}

-- ---- the values that are told

abbrev pub told : Kind → Set → ℕ → ℕ → Decision
told kind r at value =
    record { regs = r; cycles = 0; reads = 0; at = at; value = value; mask = 0; arms = false; own = S; refusal = Opcode; op = Sync; kind = kind }

abbrev pub refusal_told : Refusal → Set → Decision
refusal_told x r =
    record { regs = r; cycles = 0; reads = 0; at = 0; value = 0; mask = 0; arms = false; own = S; refusal = x; op = Sync; kind = Refused }

abbrev pub push_told : Set → Stack → ℕ → Decision
push_told r own mask =
    record { regs = r; cycles = 0; reads = 0; at = 0; value = 0; mask = mask; arms = false; own = own; refusal = Opcode; op = Sync; kind = Push }

abbrev pub left_over : MemoryOp → Set → ℕ → Decision
left_over op r ea =
    record { regs = r; cycles = 0; reads = 0; at = ea; value = 0; mask = 0; arms = false; own = S; refusal = Opcode; op = op; kind = Rest }

-- the same with what it costs and reads, and whether it arms NMI
abbrev pub billed : Decision → ℕ → ℕ → Bool → Decision
billed d cycles reads arms =
    record { regs = d.regs; cycles = cycles; reads = reads; at = d.at; value = d.value; mask = d.mask; arms = arms; own = d.own; refusal = d.refusal; op = d.op; kind = d.kind }

-- ---- what they stand for

abbrev pub effect_as : Kind → Settings → List ℕ → Decision → Effect
effect_as Refused s mem d = refuses d.regs d.refusal
effect_as Change s mem d = changes d.regs
effect_as Byte s mem d = stores d.regs (writes_of (value_writes d.at (u8 (d.value % 256)) false))
effect_as Word s mem d = stores d.regs (writes_of (value_writes d.at (u16 d.value) false))
effect_as Push s mem d = pushed d.regs d.own d.mask false
effect_as Rest s mem d = memory_of d.op s mem d.regs d.at

abbrev pub effect_told : Settings → List ℕ → Decision → Effect
effect_told s mem d = effect_as d.kind s mem d

-- its plan, before the fence
abbrev pub plan_told : Machine → Settings → List ℕ → Decision → Plan
plan_told m s mem d = finished m d.cycles d.arms d.reads (effect_told s mem d)

-- what is reported where so many bytes were written and none of them to a device
abbrev pub met_no_device : Machine → ℕ → Bool → ℕ → ℕ → Set → Report
met_no_device m cycles arms reads writes r =
    record { devices = writes_of []; machine = after_instruction m cycles arms r Running; reads = reads; writes = writes; answer = (Ok tt) }

-- ---- where it lies

-- the first range of a profile
abbrev pub first_range : List Range → Range
first_range [] = record { first = 1; last = 0 }
first_range (g ∷ gs) = g

-- a byte below the devices, at or below ram_top and in the range g; both bytes of a word
abbrev pub is_below : ℕ → Range → ℕ → Bool
is_below top g at = ((nat_lt at 0xFF00 && nat_le at top) && nat_le g.first at) && nat_le at g.last

abbrev pub is_word_below : ℕ → Range → ℕ → Bool
is_word_below top g at = ((nat_lt at 0xFEFF && nat_lt at top) && nat_le g.first at) && nat_lt at g.last

-- all that is told as stored lies there, and a push has room there for every register: nothing but the stores is to be done
abbrev pub is_plain_as : Kind → ℕ → Range → Decision → Bool
is_plain_as Refused top g d = true
is_plain_as Change top g d = true
is_plain_as Byte top g d = is_below top g d.at
is_plain_as Word top g d = is_word_below top g d.at
is_plain_as Push top g d = nat_lt (g.first + 11) (word_of d.regs (stack_word d.own)) && is_below top g (word_of d.regs (stack_word d.own))
is_plain_as Rest top g d = false

-- in the first range of the profile: with all allowed that is every place
abbrev pub is_plain : Settings → Decision → Bool
is_plain s d = is_plain_as d.kind s.ram_top (first_range s.profile) d

-- ---- the statement of the operation

pub record Decides (s : Settings) (mem : List ℕ) (n k : ℕ) (b : Bool) (e : Effect) (d : Decision) : Type 0 where
  pub effect : effect_told s mem d ≡ e
  pub cycles : d.cycles ≡ n
  pub reads : d.reads ≡ k
  pub arms : d.arms ≡ b
