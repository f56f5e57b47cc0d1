-- The table of checked examples that are proved, and what it is for a row to hold.
-- Assumes nothing.
use Rattle.std.specs.Prelude.{ℕ, ◌<◌, ◌≡◌, List, [], ◌∷◌, true, false, ◌≢◌, length, Err, Ok, Result}
use Rattle.registers.specs.ConditionCodes.{flag}
use Rattle.registers.specs.Arithmetic.{Operation, ADC, SBC, DEC, INC, MUL, Line, ◌:=◌, codes}
use Rattle.registers.specs.Settings.{by}
use Rattle.registers.specs.declared.CCBit.TheVariants.{C, «V»}
use Rattle.registers.specs.declared.CCBits.{CCBits}
use Rattle.registers.specs.declared.Flags.{Flags}
use Rattle.registers.specs.declared.Flags.TheVariants.{Bought, Manual}
use Rattle.registers.specs.declared.Set.{Set}
use Rattle.answers.specs.Numbers.{number_of, number_of_answer}
use Rattle.memory.specs.Map.{is_system, byte_at, landing_of}
use Rattle.memory.specs.declared.AccessType.TheVariants.{Program, System}
use Rattle.memory.specs.declared.Landing.TheVariants.{Stored, Ignored}
use Rattle.opcodes.specs.declared.Mode.TheVariants.{Indexed}
use Rattle.decode.specs.Operand.{operand_at}
use Rattle.addressing.specs.Address.{at_address, effective_of}
use Rattle.machine.specs.declared.Wait.TheVariants.{Cwai}
use Rattle.machine.specs.declared.Machine.{Machine}
use Rattle.machine.specs.declared.Settings.{Settings}
use Rattle.calls.specs.Interrupts.{is_held_off, interrupt_of}
use Rattle.calls.specs.declared.InterruptType.{InterruptType}
use Rattle.calls.specs.declared.InterruptType.TheVariants.{Irq}
use Rattle.addressing.specs.declared.Addressed.{Addressed}
use Rattle.answers.specs.declared.Refusal.{Refusal}
use Rattle.decode.specs.declared.operand.Operand.{Operand}

pub data Example : Type 0 where
  -- an operation on a and b: the result, flags as bought, flags by the manual; whatever the condition codes were
  of : Operation → ℕ → ℕ → ℕ → List Line → List Line → Example
  -- the same with the carry, or the borrow, set
  carrying : Operation → ℕ → ℕ → ℕ → List Line → List Line → Example
  -- a post-byte and X: the effective address
  post_byte : ℕ → ℕ → ℕ → Example
  -- a post-byte: the number of its refusal
  bad_post_byte : ℕ → ℕ → Example
  -- a System write at an address: its place, whatever ram_top is
  system_write : ℕ → ℕ → Example
  -- a program's write at an address, with ram_top: ignored
  ignored_write : ℕ → ℕ → Example
  -- an interrupt that is not masked, outside CWAI, and S: the number of its refusal
  refused_interrupt : InterruptType → ℕ → ℕ → Example

-- each flag named is as its line says
abbrev pub Shown : CCBits → List Line → Type 0
Shown cc [] = Unit
Shown cc ((f := v) ∷ rest) = (flag f cc ≡ v) × Shown cc rest

abbrev pub Gives : Flags → Operation → CCBits → ℕ → ℕ → ℕ → List Line → Type 0
Gives s o cc a b r lines = let p = by s o cc a b in (p.value ≡ r) × Shown (codes cc p.flags) lines

-- the effective address of an indexed operand whose post-byte stands at `at`
abbrev pub effective_of_read : List ℕ → Set → Result (Operand × ℕ) Refusal → Result Addressed Refusal
effective_of_read mem r (Ok (operand, next)) = Ok (effective_of operand mem r next)
effective_of_read mem r (Err x) = Err x

abbrev pub number_of_resolved : Result Addressed Refusal → ℕ
number_of_resolved (Ok a) = 0
number_of_resolved (Err x) = number_of x

abbrev pub Holds : Example → Type 0
Holds (of o a b r bought manual) = (cc : CCBits) → Gives Bought o cc a b r bought × Gives Manual o cc a b r manual
Holds (carrying o a b r bought manual) =
    (cc : CCBits) → flag C cc ≡ true → Gives Bought o cc a b r bought × Gives Manual o cc a b r manual
Holds (post_byte p x a) =
    (mem : List ℕ) (at : ℕ) (r : Set) → at < 65536 → byte_at mem at ≡ p → r.x ≡ x → effective_of_read mem r (operand_at Indexed mem at) ≡ Ok (at_address r a)
Holds (bad_post_byte p n) =
    (mem : List ℕ) (at : ℕ) (r : Set) → at < 65536 → byte_at mem at ≡ p → number_of_resolved (effective_of_read mem r (operand_at Indexed mem at)) ≡ n
Holds (system_write at p) = (top : ℕ) → landing_of at top (is_system System) ≡ Stored p
Holds (ignored_write at top) = landing_of at top (is_system Program) ≡ Ignored
Holds (refused_interrupt i sp n) =
    (mem : List ℕ) (m : Machine) (s : Settings) → length mem ≡ 65536 → is_held_off i m ≡ false → m.wait ≢ Cwai → m.regs.s ≡ sp
    → number_of_answer (interrupt_of mem m s i).answer ≡ n

-- every row holds
abbrev pub Every : List Example → Type 0
Every [] = Unit
Every (x ∷ xs) = Holds x × Every xs

-- document 01, "Checked examples", the rows marked P
abbrev pub examples : List Example
examples =
    of DEC 0x00 0 0xFF ((«V» := true) ∷ []) ((«V» := false) ∷ [])
    ∷ of DEC 0x80 0 0x7F ((«V» := false) ∷ []) ((«V» := true) ∷ [])
    ∷ of INC 0x7F 0 0x80 ((«V» := false) ∷ []) ((«V» := true) ∷ [])
    ∷ of INC 0xFF 0 0x00 ((«V» := true) ∷ []) ((«V» := false) ∷ [])
    ∷ carrying ADC 0x7F 0xFF 0x7F ((C := true) ∷ («V» := true) ∷ []) ((C := true) ∷ («V» := false) ∷ [])
    ∷ carrying SBC 0x80 0xFF 0x80 ((C := true) ∷ («V» := true) ∷ []) ((C := true) ∷ («V» := false) ∷ [])
    ∷ of MUL 0x10 0x08 0x0080 ((C := true) ∷ []) ((C := true) ∷ [])
    ∷ post_byte 0x1F 0x0000 0xFFFF
    ∷ bad_post_byte 0x92 5
    ∷ system_write 0xFFE0 0xBFE0
    ∷ ignored_write 0x8000 0x7FFF
    ∷ refused_interrupt Irq 0x000B 8
    ∷ []
