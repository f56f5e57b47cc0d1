-- The laws of the arithmetic and of the register set. `after f s o cc a b` is the flag f after operation o in the setting s.
-- Assumes nothing.
use Rattle.std.specs.Prelude.{◌≡◌, ℕ, ◌+◌, ◌*◌, ◌<◌, Bool, true, false, ◌||◌, ◌≢◌, List, [], ◌∷◌, ◌==◌}
use Rattle.u8oru16.specs.Signed.{sum_out, diff_out}
use Rattle.u8oru16.specs.declared.u8u16.{u8u16}
use Rattle.registers.specs.ConditionCodes.{place, digit, bit_at, flag}
use Rattle.registers.specs.Arithmetic.{Operation, ADD, ADC, ADDD, SUB, SBC, SUBD, DEC, INC, AND, AND16, OR, EOR, COM, NEG, ASL, LSR, ASR, ROL, ROR, MUL, carry_in, adding, subtracting}
use Rattle.registers.specs.Settings.{by, after}
use Rattle.registers.specs.RegisterSet.{read, written, in_size}
use Rattle.registers.specs.declared.CCBit.{CCBit}
use Rattle.registers.specs.declared.CCBit.TheVariants.{C, «V», N, I, H, F, E}
use Rattle.registers.specs.declared.CCBits.{CCBits}
use Rattle.registers.specs.declared.Flags.{Flags}
use Rattle.registers.specs.declared.Flags.TheVariants.{Manual}
use Rattle.registers.specs.declared.Name.{Name}
use Rattle.registers.specs.declared.Set.{Set}

-- ---- the flags that stay

-- of the manual's columns H N Z V C those that a page does not affect; where a page calls H undefined, it stays too
abbrev pub leaves : Operation → List CCBit
leaves ADD = []
leaves ADC = []
leaves ADDD = H ∷ []
leaves SUB = H ∷ []
leaves SBC = H ∷ []
leaves SUBD = H ∷ []
leaves DEC = H ∷ C ∷ []
leaves INC = H ∷ C ∷ []
leaves AND = H ∷ C ∷ []
leaves AND16 = H ∷ C ∷ []
leaves OR = H ∷ C ∷ []
leaves EOR = H ∷ C ∷ []
leaves COM = H ∷ []
leaves NEG = H ∷ []
leaves ASL = H ∷ []
leaves LSR = H ∷ «V» ∷ []
leaves ASR = H ∷ «V» ∷ []
leaves ROL = H ∷ []
leaves ROR = H ∷ «V» ∷ []
leaves MUL = H ∷ N ∷ «V» ∷ []

-- E, F and I stay in every operation
abbrev pub untouched : Operation → List CCBit
untouched o = E ∷ F ∷ I ∷ leaves o

abbrev pub lists : List CCBit → CCBit → Bool
lists [] f = false
lists (g ∷ rest) f = place f == place g || lists rest f

-- a flag of the table is what it was, in both settings
abbrev pub Kept : Type 0
Kept = (s : Flags) (o : Operation) (cc : CCBits) (a b : ℕ) (f : CCBit) → lists (untouched o) f ≡ true → after f s o cc a b ≡ flag f cc

-- H is changed by ADD and ADC alone
abbrev pub HalfCarryKept : Type 0
HalfCarryKept = (s : Flags) (o : Operation) (cc : CCBits) (a b : ℕ) → o ≢ ADD → o ≢ ADC → after H s o cc a b ≡ flag H cc

-- of the condition codes an operation reads C alone
abbrev pub CarryAlone : Type 0
CarryAlone = (s : Flags) (o : Operation) (cc dd : CCBits) (a b : ℕ) → flag C cc ≡ flag C dd → by s o cc a b ≡ by s o dd a b

-- ---- C: sums and differences are whole

-- result + 256·C = a + b + carry, with the carry (ADC) and without it (ADD)
abbrev pub AddWhole : Type 0
AddWhole =
    (s : Flags) (cc : CCBits) (a b : ℕ) → a < 256 → b < 256 → (carry : Bool)
    → (by s (adding carry) cc a b).value + 256 * digit (after C s (adding carry) cc a b) ≡ a + b + carry_in carry cc

-- result + b + borrow = a + 256·C, with the borrow (SBC) and without it (SUB)
abbrev pub SubWhole : Type 0
SubWhole =
    (s : Flags) (cc : CCBits) (a b : ℕ) → a < 256 → b < 256 → (borrow : Bool)
    → (by s (subtracting borrow) cc a b).value + b + carry_in borrow cc ≡ a + 256 * digit (after C s (subtracting borrow) cc a b)

-- MUL's C is bit 7 of the product, and N and V stay
abbrev pub MulFlags : Type 0
MulFlags =
    (s : Flags) (cc : CCBits) (a b : ℕ)
    → (after C s MUL cc a b ≡ bit_at 7 (a * b)) × (after N s MUL cc a b ≡ flag N cc) × (after «V» s MUL cc a b ≡ flag «V» cc)

-- ---- V: by the manual's page it is set exactly where the signed result leaves -128 .. 127

-- a - 1, a + 1, 0 - a, a + a
abbrev pub DecOverflow : Type 0
DecOverflow = (cc : CCBits) (a b : ℕ) → a < 256 → after «V» Manual DEC cc a b ≡ diff_out 0x80 a 1 0

abbrev pub IncOverflow : Type 0
IncOverflow = (cc : CCBits) (a b : ℕ) → a < 256 → after «V» Manual INC cc a b ≡ sum_out 0x80 a 1 0

abbrev pub NegOverflow : Type 0
NegOverflow = (cc : CCBits) (a b : ℕ) → a < 256 → after «V» Manual NEG cc a b ≡ diff_out 0x80 0 a 0

abbrev pub AslOverflow : Type 0
AslOverflow = (cc : CCBits) (a b : ℕ) → a < 256 → after «V» Manual ASL cc a b ≡ sum_out 0x80 a a 0

-- ---- the register set

-- a register that was written holds what was written, in its own size
abbrev pub ReadWritten : Type 0
ReadWritten = (r : Set) (n : Name) (v : u8u16) → read (written r n v) n ≡ in_size n v
