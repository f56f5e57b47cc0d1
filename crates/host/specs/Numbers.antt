-- The numbers of a host in another language: what they name, and where they name nothing.
-- Assumes nothing.
use Rattle.std.specs.Prelude.{ℕ, zero, suc, ◌<◌, Bool, ◌&&◌, ◌≡◌, ltb, eqb, Result, ⊤}
use Rattle.answers.specs.Numbers.{number_of_answer}
use Rattle.registers.specs.declared.Flags.{Flags}
use Rattle.registers.specs.declared.Flags.TheVariants.{Bought, Manual}
use Rattle.calls.specs.declared.InterruptType.{InterruptType}
use Rattle.calls.specs.declared.InterruptType.TheVariants.{Irq, Firq, Nmi}
use Rattle.host.specs.declared.HostSettings.{HostSettings}
use Rattle.host.specs.declared.HostTwin.{HostTwin}
use Rattle.answers.specs.declared.Refusal.{Refusal}

-- 0 as bought, 1 by the manual
unfoldable pub flags_of : ℕ → Flags
flags_of zero = Bought
flags_of (suc n) = Manual

abbrev pub flags_number : Flags → ℕ
flags_number Bought = 0
flags_number Manual = 1

-- 0 IRQ, 1 FIRQ, 2 NMI
unfoldable pub interrupt_type_of : ℕ → InterruptType
interrupt_type_of zero = Irq
interrupt_type_of (suc zero) = Firq
interrupt_type_of (suc (suc n)) = Nmi

abbrev pub interrupt_number : InterruptType → ℕ
interrupt_number Irq = 0
interrupt_number Firq = 1
interrupt_number Nmi = 2

-- wait is 0 to 2 and armed 0 or 1 (the record's numbers, crate machine); any counts will do
abbrev pub is_twin : HostTwin → Bool
is_twin t = ltb t.wait 3 && ltb t.armed 2

-- flags is 0 or 1 and the spare field is 0
abbrev pub is_settings : HostSettings → Bool
is_settings s = ltb s.flags 2 && eqb s.spare 0

-- a step's and a reset's numbers; an interrupt's, 0 to 2, beside them
abbrev pub is_named : HostTwin → HostSettings → Bool
is_named t s = is_twin t && is_settings s

abbrev pub is_interrupt : HostTwin → HostSettings → ℕ → Bool
is_interrupt t s which = is_named t s && ltb which 3

-- the answer where they name nothing
abbrev pub unnamed_number : ℕ
unnamed_number = 64

-- the laws: no answer of a call has that number, nor one above it; the numbers of flags and interrupts go there and back
abbrev pub UnnamedApart : Type 0
UnnamedApart = (a : Result ⊤ Refusal) → number_of_answer a < unnamed_number

pub record NumbersBack : Type 0 where
  pub flags : (n : ℕ) → n < 2 → flags_number (flags_of n) ≡ n
  pub flags-named : (f : Flags) → flags_of (flags_number f) ≡ f
  pub interrupt : (n : ℕ) → n < 3 → interrupt_number (interrupt_type_of n) ≡ n
  pub interrupt-named : (i : InterruptType) → interrupt_type_of (interrupt_number i) ≡ i
