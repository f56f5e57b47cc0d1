-- What the fields give is what the manual's rows give; and the last arm of a match on a number.
-- Assumes nothing.
use Prim.Native.Nat.{ℕ, ◌<◌}
use mathlib.Core.Path.{◌≡◌, refl, sym}
use mathlib.Core.Bool.{cond}
use mathlib.Core.List.{List}
use Rattle.registers.specs.ConditionCodes.{bit_at}
use Rattle.opcodes.specs.Manual.{entry_of}
use Rattle.opcodes.specs.Rows.{values}
use Rattle.opcodes.specs.declared.Page.{Page}
use Rattle.opcodes.specs.declared.Page.TheVariants.{Plain, Ten, Eleven}
use Rattle.opcodes.proofs.Rows.{alike, NotIn, is_in, not_in}
use Rattle.fields.specs.OneOperand.{one_operand, in_accumulator, in_memory}
use Rattle.fields.specs.TwoOperands.{two_operands, with_byte, store_byte, word_place, two_operand_place}
use Rattle.fields.specs.Named.{row_one, branch_condition, row_three}
use Rattle.fields.specs.Fields.{plain_place, prefixed_place, place_of, FieldsGiveTheRows}

-- the one test, of all 768 places
same : (page : Page) → values (place_of page) 0 256 ≡ values (entry_of page) 0 256
unfolding entry_of bit_at one_operand in_accumulator in_memory two_operands with_byte store_byte word_place two_operand_place row_one branch_condition row_three plain_place prefixed_place
same Plain = refl
same Ten = refl
same Eleven = refl

pub by-fields : FieldsGiveTheRows
by-fields page code l = alike (place_of page) (entry_of page) 256 (same page) code l

-- the last arm of a match on a number below m, with the keys ks before it: one test of m numbers shows that f is d at each other number
pub rest : {A : Type 0} (f : ℕ → A) (d : A) (ks : List ℕ) (m n : ℕ) → values (λ (h : ℕ). cond (is_in h ks) d (f h)) 0 m ≡ values (λ (h : ℕ). d) 0 m → n < m → NotIn n ks → d ≡ f n
rest f d ks m n t l h = sym (rw (not_in n ks h) at (alike (λ (h : ℕ). cond (is_in h ks) d (f h)) (λ (h : ℕ). d) m t n l))
