-- The machine (document 01, section "The machine"; document 02, [5]): registers, wait state, armed mark and two counters of 64 bits.
-- Assumes nothing.
use Rattle.std.specs.Prelude.{ℕ, ◌^◌, ◌<◌, Bool, false, List}
use Rattle.registers.specs.Fits.{Fits}
use Rattle.registers.specs.RegisterSet.{after_reset}
use Rattle.registers.specs.declared.Flags.{Flags}
use Rattle.registers.specs.declared.Set.{Set}
use Rattle.machine.specs.Fence.{everywhere}
use Rattle.machine.specs.declared.Machine.{Machine}
use Rattle.machine.specs.declared.Settings.{Settings}
use Rattle.machine.specs.declared.Wait.{Wait}
use Rattle.machine.specs.declared.fence.Range.{Range}
use Rattle.machine.specs.declared.Wait.TheVariants.{Running}

-- a fresh machine: running and unarmed, counters and all registers 0, CC 50
abbrev pub fresh : Machine
fresh = record { cycles = 0; instructions = 0; regs = after_reset; wait = Running; armed = false }

-- a machine with other registers and another wait state: neither counter nor the mark moves
abbrev pub with_registers : Machine → Set → Wait → Machine
with_registers m r w = record { cycles = m.cycles; instructions = m.instructions; regs = r; wait = w; armed = m.armed }

-- a machine with another mark
abbrev pub marked : Machine → Bool → Machine
marked m a = record { cycles = m.cycles; instructions = m.instructions; regs = m.regs; wait = m.wait; armed = a }

abbrev pub settings_with : ℕ → Flags → List Range → Settings
settings_with top f ranges = record { ram_top = top; profile = ranges; flags = f }

-- settings that allow all stores
abbrev pub settings_of : ℕ → Flags → Settings
settings_of top f = settings_with top f everywhere

-- each register and counter fits its width
pub record MachineFits (m : Machine) : Type 0 where
  pub registers : Fits m.regs
  pub cycles : m.cycles < 2 ^ 64
  pub instructions : m.instructions < 2 ^ 64
