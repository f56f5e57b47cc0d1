-- By which numbers an address is refused, from the operand's first byte on.
-- Assumes nothing.
use Rattle.std.specs.Prelude.{ℕ, ◌||◌, List, ◌≡◌, T, eqb, Err, Ok, Result}
use Rattle.answers.specs.Numbers.{number_of}
use Rattle.answers.specs.declared.Refusal.{Refusal}
use Rattle.registers.specs.declared.Set.{Set}
use Rattle.opcodes.specs.declared.Mode.{Mode}
use Rattle.decode.specs.Operand.{operand_at}
use Rattle.addressing.specs.Address.{resolved_of}
use Rattle.addressing.specs.declared.Addressed.{Addressed}
use Rattle.decode.specs.declared.operand.Operand.{Operand}

-- the operand that was read gives an address and the next one
abbrev pub resolved_from : List ℕ → Set → Result (Operand × ℕ) Refusal → Result Addressed Refusal
resolved_from mem r (Ok (o, next)) = resolved_of mem r o next
resolved_from mem r (Err x) = Err x

-- 4 for a byte or the next address past FFFF, 5 or 24 for the post-byte, and no other
abbrev pub OfAddressing : Refusal → Type 0
OfAddressing x = T (eqb (number_of x) 4 || (eqb (number_of x) 5 || eqb (number_of x) 24))

abbrev pub AddressRefuses : Type 0
AddressRefuses =
    (mode : Mode) (mem : List ℕ) (r : Set) (at : ℕ) (x : Refusal) → resolved_from mem r (operand_at mode mem at) ≡ Err x → OfAddressing x
