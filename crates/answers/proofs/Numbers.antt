-- No refusal is numbered 0, none is numbered 6 any more or above 63, and no two refusals have one number.
-- Assumes nothing.
use Prim.Native.Nat.{ℕ}
use mathlib.Core.List.{[], ◌∷◌}
use mathlib.Core.Path.{◌≡◌, refl, sym, ap, ◌∙◌}
use native.Mathlib.Omega.{arith}
use lib.ListN.{get_or}
use Rattle.answers.specs.Numbers.{number_of, RefusedByANumber, SixWithdrawn, NumbersApart, NumbersSmall}
use Rattle.answers.specs.declared.Refusal.{Refusal}
use Rattle.answers.specs.declared.Refusal.TheVariants.{MemoryLength, Waiting, Opcode, PastEnd, PostByte, TransferCode, StackTooSmall, ZeroAtVector, JournalFull, NoRecord, JournalLength, DivisionByZero, LeftByte, NoRoom, Malformed, OutputShort, LineShape, Checksum, PastTop, NoEnd, PostByte8F, TooFewRecords, Fenced, SalvageShort, ListShort, LineShort}

pub refused-by-a-number : RefusedByANumber
refused-by-a-number MemoryLength = omega arith
refused-by-a-number Waiting = omega arith
refused-by-a-number Opcode = omega arith
refused-by-a-number PastEnd = omega arith
refused-by-a-number PostByte = omega arith
refused-by-a-number TransferCode = omega arith
refused-by-a-number StackTooSmall = omega arith
refused-by-a-number ZeroAtVector = omega arith
refused-by-a-number JournalFull = omega arith
refused-by-a-number NoRecord = omega arith
refused-by-a-number JournalLength = omega arith
refused-by-a-number DivisionByZero = omega arith
refused-by-a-number LeftByte = omega arith
refused-by-a-number NoRoom = omega arith
refused-by-a-number Malformed = omega arith
refused-by-a-number OutputShort = omega arith
refused-by-a-number LineShape = omega arith
refused-by-a-number Checksum = omega arith
refused-by-a-number PastTop = omega arith
refused-by-a-number NoEnd = omega arith
refused-by-a-number PostByte8F = omega arith
refused-by-a-number LineShort = omega arith
refused-by-a-number TooFewRecords = omega arith
refused-by-a-number ListShort = omega arith
refused-by-a-number Fenced = omega arith
refused-by-a-number SalvageShort = omega arith

pub numbers-small : NumbersSmall
numbers-small MemoryLength = omega arith
numbers-small Waiting = omega arith
numbers-small Opcode = omega arith
numbers-small PastEnd = omega arith
numbers-small PostByte = omega arith
numbers-small TransferCode = omega arith
numbers-small StackTooSmall = omega arith
numbers-small ZeroAtVector = omega arith
numbers-small JournalFull = omega arith
numbers-small NoRecord = omega arith
numbers-small JournalLength = omega arith
numbers-small DivisionByZero = omega arith
numbers-small LeftByte = omega arith
numbers-small NoRoom = omega arith
numbers-small Malformed = omega arith
numbers-small OutputShort = omega arith
numbers-small LineShape = omega arith
numbers-small Checksum = omega arith
numbers-small PastTop = omega arith
numbers-small NoEnd = omega arith
numbers-small PostByte8F = omega arith
numbers-small LineShort = omega arith
numbers-small TooFewRecords = omega arith
numbers-small ListShort = omega arith
numbers-small Fenced = omega arith
numbers-small SalvageShort = omega arith

-- the refusal of a number, by the table's places; 6, 18 and 19 are not used
abbrev refusal_of : ℕ → Refusal
refusal_of n =
    get_or
    (SalvageShort ∷ MemoryLength ∷ Waiting ∷ Opcode ∷ PastEnd ∷ PostByte ∷ SalvageShort ∷ TransferCode ∷ StackTooSmall ∷ ZeroAtVector ∷ JournalFull ∷ NoRecord ∷ JournalLength ∷ DivisionByZero ∷ LeftByte ∷ NoRoom ∷ Malformed ∷ OutputShort ∷ SalvageShort ∷ SalvageShort ∷ LineShape ∷ Checksum ∷ PastTop ∷ NoEnd ∷ PostByte8F ∷ LineShort ∷ TooFewRecords ∷ ListShort ∷ Fenced ∷ [])
    n SalvageShort

back : (x : Refusal) → refusal_of (number_of x) ≡ x
back MemoryLength = refl
back Waiting = refl
back Opcode = refl
back PastEnd = refl
back PostByte = refl
back TransferCode = refl
back StackTooSmall = refl
back ZeroAtVector = refl
back JournalFull = refl
back NoRecord = refl
back JournalLength = refl
back DivisionByZero = refl
back LeftByte = refl
back NoRoom = refl
back Malformed = refl
back OutputShort = refl
back LineShape = refl
back Checksum = refl
back PastTop = refl
back NoEnd = refl
back PostByte8F = refl
back LineShort = refl
back TooFewRecords = refl
back Fenced = refl
back SalvageShort = refl
back ListShort = refl

pub numbers_apart : NumbersApart
numbers_apart x y e = sym (back x) ∙ (ap refusal_of e ∙ back y)

pub six-withdrawn : SixWithdrawn
six-withdrawn x e =
    let d : x ≡ SalvageShort = sym (back x) ∙ ap refusal_of e in
    let f : ◌≡◌ {A = ℕ} 6 29 = sym e ∙ ap number_of d in
    omega arith
