-- The rows on post-bytes and writes, from tests of their numbers.
-- Assumes nothing.
use Rattle.std.specs.Prelude.{Err, Ok, Result}
use Prim.Native.Nat.{ℕ, ◌+◌, ◌/◌, ◌%◌, ◌≤◌, ◌<◌}
use mathlib.Core.Path.{◌≡◌, refl, sym, ap, ◌∙◌}
use mathlib.Core.Bool.{Bool, true, false, ◌&&◌}
use mathlib.Core.List.{List}
use mathlib.Core.Logic.{◌⊎◌, inl}
use native.Mathlib.Omega.{arith}
use borrow.Author.Tests.{le-leb, lt-ltb}
use lib.Bits.{bit_and, and_le_l}
use lib.Dec.{T, ltb}
use Rattle.registers.specs.ConditionCodes.{bit_at}
use Rattle.registers.specs.declared.Index.TheVariants.{X}
use Rattle.registers.specs.declared.Set.{Set}
use Rattle.memory.specs.Map.{place_of, byte_at, landing_of}
use Rattle.memory.specs.declared.Landing.TheVariants.{Stored, Ignored}
use Rattle.memory.proofs.Ranges.{above, kept}
use Rattle.answers.specs.Numbers.{number_of}
use Rattle.opcodes.specs.declared.Mode.TheVariants.{Indexed}
use Rattle.decode.specs.PostByte.{is_indirect, form_of, is_refused, index_of, five_bits}
use Rattle.decode.specs.Operand.{with_form, operand_of, operand_at}
use Rattle.decode.specs.declared.postbyte.Form.TheVariants.{Offset5}
use Rattle.addressing.specs.Address.{at_address, indexed_address}
use Rattle.checked.specs.Rows.{effective_of_read, number_of_resolved}
use Rattle.answers.specs.declared.Refusal.{Refusal}
use Rattle.decode.specs.declared.postbyte.Form.{Form}

-- decoding reads the post-byte, which lies within memory's addresses
decoded : (mem : List ℕ) (at post : ℕ) → at < 65536 → byte_at mem at ≡ post → operand_at Indexed mem at ≡ operand_of Indexed mem at post (at + 1)
unfolding operand_at
decoded mem at post l e = rw (le-leb (at + 1) 0x10000 (omega arith), e)

-- bit 7 clear: a five-bit offset, and no indirection
five : (post : ℕ) → post < 0x80 → form_of post ≡ Ok Offset5
unfolding form_of
five post l = rw (lt-ltb (bit_and post 0x8F) 0x80 (omega (arith, and_le_l post 0x8F)))

direct : (post : ℕ) → post < 0x80 → is_indirect post ≡ false
unfolding is_indirect bit_at
direct post l = let e : post / 128 % 2 ≡ 0 = omega arith in rw e

names-x : (post : ℕ) → post / 32 % 4 ≡ 0 → index_of post ≡ X
unfolding index_of
names-x post e = rw e

pub offset-row : (p x a : ℕ) → p < 0x80 → p / 32 % 4 ≡ 0 → (x + five_bits p) % 65536 ≡ a
    → (mem : List ℕ) (at : ℕ) (r : Set) → at < 65536 → byte_at mem at ≡ p → r.x ≡ x → effective_of_read mem r (operand_at Indexed mem at) ≡ Ok (at_address r a)
unfolding indexed_address with_form
offset-row p x a l f e mem at r h b g = rw (decoded mem at p h b, five p l, direct p l, names-x p f, g, e)

-- a refused form
abbrev pub number_of_form : Result Form Refusal → ℕ
number_of_form (Ok form) = 0
number_of_form (Err x) = number_of x

pub refused-row : (p : ℕ) (q : Result Form Refusal) → form_of p ≡ q → T (is_refused q)
    → (mem : List ℕ) (at : ℕ) (r : Set) → at < 65536 → byte_at mem at ≡ p → number_of_resolved (effective_of_read mem r (operand_at Indexed mem at)) ≡ number_of_form q
refused-row p (Ok form) e t mem at r h b = absurd t
refused-row p (Err x) e t mem at r h b = rw (decoded mem at p h b, e)

-- a System write is stored whatever ram_top is, and a program's above it is not
pub system-row : (at p : ℕ) → (at < 0xFF00) ⊎ (0xFFE0 ≤ at) → place_of at ≡ p → (top : ℕ) → landing_of at top true ≡ Stored p
system-row at p w e top = sym (kept at top true w (no-mark (ltb top at))) ∙ ap Stored e
  where
    no-mark : (t : Bool) → (t && false) ≡ false
    no-mark true = refl
    no-mark false = refl

pub ignored-row : (at top : ℕ) → at < 0xFF00 → top < at → landing_of at top false ≡ Ignored
ignored-row at top l h = sym (above at top false (inl l) (rw (lt-ltb top at h)))
