-- PULS and PULU, and RTI (manual, appendix A): the registers after them. RTS pulls PC alone.
-- Assumes nothing.
use Rattle.std.specs.Prelude.{ℕ, ◌+◌, ◌%◌, List, [], ◌∷◌, reverse, ◌==◌}
use Rattle.registers.specs.ConditionCodes.{coded, flag}
use Rattle.registers.specs.Names.{register_size, stack_word}
use Rattle.registers.specs.RegisterSet.{word_of, written, with_word}
use Rattle.registers.specs.declared.CCBit.TheVariants.{E}
use Rattle.registers.specs.declared.Name.{Name}
use Rattle.registers.specs.declared.Set.{Set}
use Rattle.registers.specs.declared.Stack.{Stack}
use Rattle.registers.specs.declared.Stack.TheVariants.{S}
use Rattle.memory.specs.Map.{byte_at, value_at}
use Rattle.stack.specs.Pushing.{order, chosen}
use Rattle.stack.specs.Frames.{stacked_by}
use Rattle.stack.specs.declared.pulling.Pulled.{Pulled}

-- the registers and the pointer so far
abbrev pub pulled_to : Set → ℕ → Pulled
pulled_to r pointer = record { regs = r; pointer = pointer }

-- a register is pulled: its byte or word is read at the pointer; then the pointer is raised, and wraps
abbrev pub pulled_into : List ℕ → Name → Pulled → Pulled
pulled_into mem name p =
    pulled_to (written p.regs name (value_at mem p.pointer (register_size name == 2))) ((p.pointer + register_size name) % 65536)

-- one register after the other
unfoldable pub pulls : List ℕ → List Name → Pulled → Pulled
pulls mem [] p = p
pulls mem (name ∷ rest) p = pulls mem rest (pulled_into mem name p)

-- PULS, PULU: the registers that the post-byte names, in the reverse of the order of pushing; the pointer in use is written last
unfoldable pub pulled : List ℕ → Set → Stack → ℕ → Set
pulled mem r stack mask =
    let p = pulls mem (chosen mask (reverse (order stack))) (pulled_to r (word_of r (stack_word stack))) in
    with_word p.regs (stack_word stack) p.pointer

-- RTI: E of the CC on the stack says whether all registers are pulled, or CC and PC alone
unfoldable pub returned_from_interrupt : List ℕ → Set → Set
returned_from_interrupt mem r = pulled mem r S (stacked_by (flag E (coded (byte_at mem r.s))))
