-- The laws of the effective address: it is refused by 4 alone, and when; and what fits its width.
-- Assumes nothing.
use Rattle.std.specs.Prelude.{◌≡◌, ℕ, ◌<◌, ◌↔◌, List, Err, Ok, Result}
use Rattle.registers.specs.Fits.{Fits}
use Rattle.registers.specs.declared.Set.{Set}
use Rattle.memory.specs.Fits.{Bytes}
use Rattle.answers.specs.declared.Refusal.{Refusal}
use Rattle.answers.specs.declared.Refusal.TheVariants.{PastEnd}
use Rattle.decode.specs.Laws.{OperandFits}
use Rattle.decode.specs.declared.operand.Operand.{Operand}
use Rattle.addressing.specs.Address.{effective_of, resolved_of}
use Rattle.addressing.specs.declared.Addressed.{Addressed}

-- 4, and no other
abbrev pub ResolveRefuses : Type 0
ResolveRefuses = (mem : List ℕ) (r : Set) (o : Operand) (next : ℕ) (x : Refusal) → resolved_of mem r o next ≡ Err x → x ≡ PastEnd

-- exactly where the next address lies past FFFF, whatever the operand is
abbrev pub NextRefused : Type 0
NextRefused = (mem : List ℕ) (r : Set) (o : Operand) (next : ℕ) → (resolved_of mem r o next ≡ Err PastEnd) ↔ (0xFFFF < next)

-- the registers and the effective address fit their widths
pub record AddressedFits (a : Addressed) : Type 0 where
  pub registers : Fits a.regs
  pub address : a.ea < 65536

abbrev pub ResolvedFits : Result Addressed Refusal → Type 0
ResolvedFits (Ok a) = AddressedFits a
ResolvedFits (Err x) = Unit {0}

abbrev pub EffectiveFits : Type 0
EffectiveFits =
    (mem : List ℕ) → Bytes mem → (r : Set) → Fits r → (o : Operand) (next : ℕ) → OperandFits o → AddressedFits (effective_of o mem r next)

abbrev pub ResolveFits : Type 0
ResolveFits =
    (mem : List ℕ) → Bytes mem → (r : Set) → Fits r → (o : Operand) (next : ℕ) → OperandFits o → ResolvedFits (resolved_of mem r o next)
