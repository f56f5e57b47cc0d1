-- Operations on words: LD, ST, CMP (16-Bit), ADDD, SUBD, LEA. A clause for each page of the manual.
-- Assumes nothing.
use Rattle.std.specs.Prelude.{ℕ, false, List, [], ◌==◌}
use Rattle.registers.specs.ConditionCodes.{put}
use Rattle.registers.specs.Arithmetic.{ADDD, SUBD, Page, codes, logical, manual}
use Rattle.registers.specs.RegisterSet.{word_of, with_word}
use Rattle.registers.specs.declared.CCBit.TheVariants.{Z as zero}
use Rattle.registers.specs.declared.Index.{Index}
use Rattle.registers.specs.declared.Index.TheVariants.{X as LEAX, Y as LEAY, U as LEAU, S as LEAS}
use Rattle.registers.specs.declared.Set.{Set}
use Rattle.registers.specs.declared.Word.{Word}
use Rattle.registers.specs.declared.Word.TheVariants.{D, X, Y, U, S}
use Rattle.memory.specs.Map.{word_at}
use Rattle.memory.specs.Writes.{writes_of, added_all, word_writes}
use Rattle.machine.specs.Effect.{stores}
use Rattle.machine.specs.declared.Effect.{Effect}
use Rattle.operations.specs.Codes.{with_codes}

-- N and Z by the word, V always cleared
abbrev pub tested16 : Set → ℕ → Set
tested16 r w = with_codes r (codes r.cc (logical 0x8000 w).flags)

-- LD (16-Bit)
unfoldable pub load16 : List ℕ → Set → Word → ℕ → Set
load16 mem r name ea = let w = word_at mem ea in with_word (tested16 r w) name w

-- ST (16-Bit)
unfoldable pub store16 : Set → Word → ℕ → Effect
store16 r name ea = stores (tested16 r (word_of r name)) (added_all (writes_of []) (word_writes ea (word_of r name) false))

-- CMP (16-Bit): SUBD whose result is not kept
unfoldable pub compare16 : List ℕ → Set → Word → ℕ → Set
compare16 mem r name ea = with_codes r (codes r.cc (manual SUBD r.cc (word_of r name) (word_at mem ea)).flags)

-- ADD and SUB (16-Bit)
abbrev on_d : Set → Page → Set
on_d r p = with_word (with_codes r (codes r.cc p.flags)) D p.value

unfoldable pub add_d : List ℕ → Set → ℕ → Set
add_d mem r ea = on_d r (manual ADDD r.cc (word_of r D) (word_at mem ea))

unfoldable pub subtract_d : List ℕ → Set → ℕ → Set
subtract_d mem r ea = on_d r (manual SUBD r.cc (word_of r D) (word_at mem ea))

-- LEA: Z by the address for X and Y, no flag for S and U
abbrev pub with_zero : Set → ℕ → Set
with_zero r ea = with_codes r (put zero (ea == 0) r.cc)

abbrev pub load_address : Index → Set → ℕ → Set
load_address LEAX r ea = with_word (with_zero r ea) X ea
load_address LEAY r ea = with_word (with_zero r ea) Y ea
load_address LEAU r ea = with_word r U ea
load_address LEAS r ea = with_word r S ea
