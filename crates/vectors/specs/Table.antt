-- The table of vectors and masks (document 01, section "Interrupts, SWI, reset").
-- Assumes nothing.
use Rattle.std.specs.Prelude.{ℕ, Bool, true, false}
use Rattle.opcodes.specs.declared.Software.{Software}
use Rattle.opcodes.specs.declared.Software.TheVariants.{Swi as SWI, Swi2 as SWI2, Swi3 as SWI3}
use Rattle.vectors.specs.declared.table.Vector.{Vector}
use Rattle.vectors.specs.declared.table.Vector.TheVariants.{Swi3, Swi2, Firq, Irq, Swi, Nmi, Reset}

-- where the address of the service routine stands
abbrev pub address_of : Vector → ℕ
address_of Swi3 = 0xFFF2
address_of Swi2 = 0xFFF4
address_of Firq = 0xFFF6
address_of Irq = 0xFFF8
address_of Swi = 0xFFFA
address_of Nmi = 0xFFFC
address_of Reset = 0xFFFE

-- what is ORed into CC after stacking; reset sets CC to it
abbrev pub masks_of : Vector → ℕ
masks_of Swi3 = 0
masks_of Swi2 = 0
masks_of Firq = 0x50
masks_of Irq = 0x10
masks_of Swi = 0x50
masks_of Nmi = 0x50
masks_of Reset = 0x50

-- all registers are stacked, with E set; FIRQ stacks PC and CC, with E clear. Reset stacks nothing, and is not served
abbrev pub is_entire : Vector → Bool
is_entire Swi3 = true
is_entire Swi2 = true
is_entire Firq = false
is_entire Irq = true
is_entire Swi = true
is_entire Nmi = true
is_entire Reset = false

-- the software interrupts
abbrev pub software_vector : Software → Vector
software_vector SWI = Swi
software_vector SWI2 = Swi2
software_vector SWI3 = Swi3
