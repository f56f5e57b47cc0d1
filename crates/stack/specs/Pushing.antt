-- PSHS and PSHU, and JSR and BSR, which push PC (manual, appendix A).
-- Assumes nothing.
use Rattle.std.specs.Prelude.{ℕ, ◌+◌, ◌-◌, ◌*◌, ◌/◌, ◌%◌, Bool, false, cond, List, [], ◌∷◌, ◌++◌, nat_lt, Err, Ok, Result, ⊤}
use Rattle.answers.specs.declared.Refusal.TheVariants.{StackTooSmall}
use Rattle.registers.specs.ConditionCodes.{bit_at}
use Rattle.registers.specs.Names.{register_size, word_name, stack_word, other_stack}
use Rattle.registers.specs.RegisterSet.{read, word_of, with_word}
use Rattle.registers.specs.declared.Name.{Name}
use Rattle.registers.specs.declared.Name.TheVariants.{A, B, X, Y, PC, DP, CC}
use Rattle.registers.specs.declared.Set.{Set}
use Rattle.registers.specs.declared.Stack.{Stack}
use Rattle.registers.specs.declared.Stack.TheVariants.{S}
use Rattle.memory.specs.Writes.{writes_of, value_writes}
use Rattle.memory.specs.declared.writes.Write.{Write}
use Rattle.machine.specs.Effect.{stores, refuses}
use Rattle.machine.specs.declared.Effect.{Effect}
use Rattle.operations.specs.Branches.{jumped}
use Rattle.answers.specs.declared.Refusal.{Refusal}

-- the registers in the order of pushing, each with the bit of the post-byte that names it
abbrev pub order : Stack → List (ℕ × Name)
order stack = (7, PC) ∷ (6, word_name (stack_word (other_stack stack))) ∷ (5, Y) ∷ (4, X) ∷ (3, DP) ∷ (2, B) ∷ (1, A) ∷ (0, CC) ∷ []

-- those of a list whose bit is set
unfoldable pub chosen : ℕ → List (ℕ × Name) → List Name
chosen mask [] = []
chosen mask (slot ∷ rest) = cond (bit_at slot.0 mask) (slot.1 ∷ chosen mask rest) (chosen mask rest)

-- the registers that a post-byte names
abbrev pub registers_named : Stack → ℕ → List Name
registers_named stack mask = chosen mask (order stack)

-- how many bytes they are: two for each of the four high bits, one for each of the low ones
abbrev pub bytes_pushed : ℕ → ℕ
bytes_pushed mask =
    2 * (mask / 128 % 2 + mask / 64 % 2 + mask / 32 % 2 + mask / 16 % 2) + (mask / 8 % 2 + mask / 4 % 2 + mask / 2 % 2 + mask % 2)

-- what is written: for each register the pointer is lowered by its size, and its byte or word lies there, a word's high byte first
unfoldable pub pushes : Set → Bool → ℕ → List Name → List Write
pushes r system pointer [] = []
pushes r system pointer (name ∷ rest) =
    let at = pointer - register_size name in
    value_writes at (read r name) system ++ pushes r system at rest

-- PSHS, PSHU: 8 where the pointer is smaller than the bytes, so that it does not wrap
unfoldable pub pushed : Set → Stack → ℕ → Bool → Effect
pushed r stack mask system =
    let pointer = word_of r (stack_word stack) in
    cond (nat_lt pointer (bytes_pushed mask)) (refuses r StackTooSmall)
    (stores (with_word r (stack_word stack) (pointer - bytes_pushed mask)) (writes_of (pushes r system pointer (registers_named stack mask))))

-- what follows a push; where the push was refused, nothing, and the registers are those that came
abbrev pub once_pushed : Set → Result ⊤ Refusal → Effect → Effect
once_pushed r (Ok u) e = e
once_pushed r (Err x) e = refuses r x

-- JSR, BSR: the return address is pushed on S, and is no System write; PC is the address
unfoldable pub jumped_to_subroutine : Set → ℕ → Effect
jumped_to_subroutine r ea =
    let p = pushed r S 0x80 false in
    once_pushed r p.answer (stores (jumped p.regs ea) p.writes)
