-- The machine at the front of a journal's record (document 01, section "Journal"; document 02, [5]): its fields in the record's order, each
-- in so many bytes, high byte first. The order and the widths are data: what is written and where it is read back follow from them.
-- Assumes nothing.
use Rattle.std.specs.Prelude.{ℕ, zero, suc, ◌+◌, ◌*◌, ◌/◌, ◌%◌, ◌^◌, ◌<◌, Bool, true, false, List, [], ◌∷◌, ◌++◌, ◌≡◌, eqb, get_or, take}
use Rattle.registers.specs.declared.Set.{Set}
use Rattle.machine.specs.Machine.{MachineFits}
use Rattle.machine.specs.declared.Machine.{Machine}
use Rattle.machine.specs.declared.Wait.{Wait}
use Rattle.machine.specs.declared.Wait.TheVariants.{Running, Cwai, Sync}

-- ---- numbers

-- the low n bytes of a number, high byte first
unfoldable pub bytes : ℕ → ℕ → List ℕ
bytes zero x = []
bytes (suc n) x = x / 256 ^ n % 256 ∷ bytes n x

-- the number of the n bytes from a place on; a byte past the end is 0
unfoldable pub number_at : List ℕ → ℕ → ℕ → ℕ
number_at r at zero = 0
number_at r at (suc n) = get_or r at 0 * 256 ^ n + number_at r (suc at) n

-- ---- the fields

pub data Field : Type 0 where
  A B X Y U S PC DP CC Waiting Armed Cycles Instructions : Field

-- the record's order
abbrev pub fields : List Field
fields = A ∷ B ∷ X ∷ Y ∷ U ∷ S ∷ PC ∷ DP ∷ CC ∷ Waiting ∷ Armed ∷ Cycles ∷ Instructions ∷ []

-- a field's place in that order
abbrev pub rank : Field → ℕ
rank A = 0
rank B = 1
rank X = 2
rank Y = 3
rank U = 4
rank S = 5
rank PC = 6
rank DP = 7
rank CC = 8
rank Waiting = 9
rank Armed = 10
rank Cycles = 11
rank Instructions = 12

-- its bytes
abbrev pub width : Field → ℕ
width A = 1
width B = 1
width X = 2
width Y = 2
width U = 2
width S = 2
width PC = 2
width DP = 1
width CC = 1
width Waiting = 1
width Armed = 1
width Cycles = 8
width Instructions = 8

-- running 0, CWAI 1, SYNC 2; undo refuses a byte above 2 before it is read back
abbrev pub wait_byte : Wait → ℕ
wait_byte Running = 0
wait_byte Cwai = 1
wait_byte Sync = 2

unfoldable pub wait_of : ℕ → Wait
wait_of zero = Running
wait_of (suc zero) = Cwai
wait_of (suc (suc n)) = Sync

-- unarmed 0, armed 1; undo refuses a byte above 1 before it is read back
abbrev pub mark_byte : Bool → ℕ
mark_byte false = 0
mark_byte true = 1

unfoldable pub mark_of : ℕ → Bool
mark_of n = eqb n 1

-- what the machine has in a field
abbrev pub field_of : Field → Machine → ℕ
field_of A m = m.regs.a
field_of B m = m.regs.b
field_of X m = m.regs.x
field_of Y m = m.regs.y
field_of U m = m.regs.u
field_of S m = m.regs.s
field_of PC m = m.regs.pc
field_of DP m = m.regs.dp
field_of CC m = m.regs.cc.reg
field_of Waiting m = wait_byte m.wait
field_of Armed m = mark_byte m.armed
field_of Cycles m = m.cycles
field_of Instructions m = m.instructions

-- ---- written, and read back

abbrev pub laid : List Field → Machine → List ℕ
laid [] m = []
laid (f ∷ fs) m = bytes (width f) (field_of f m) ++ laid fs m

unfoldable pub header : Machine → List ℕ
header m = laid fields m

-- the fields before the counters
unfoldable pub front : Machine → List ℕ
front m = laid (take (rank Cycles) fields) m

-- a counter's bytes
unfoldable pub counter : ℕ → List ℕ
counter n = bytes (width Cycles) n

-- the bytes of some fields
abbrev pub widths : List Field → ℕ
widths [] = 0
widths (f ∷ fs) = width f + widths fs

-- a field stands after those before it
abbrev pub offset : Field → ℕ
offset f = widths (take (rank f) fields)

abbrev pub header_length : ℕ
header_length = widths fields

abbrev pub held : Field → List ℕ → ℕ
held f r = number_at r (offset f) (width f)

abbrev pub registers_of : List ℕ → Set
registers_of r =
    record {
      x = held X r;
      y = held Y r;
      u = held U r;
      s = held S r;
      pc = held PC r;
      a = held A r;
      b = held B r;
      dp = held DP r;
      cc = record { reg = held CC r };
    }

unfoldable pub machine_of : List ℕ → Machine
machine_of r =
    record {
      cycles = held Cycles r;
      instructions = held Instructions r;
      regs = registers_of r;
      wait = wait_of (held Waiting r);
      armed = mark_of (held Armed r);
    }

-- the laws: the header is the fields before the counters and the two counters; what is read back is what was written, whatever follows it
abbrev pub HeaderInParts : Type 0
HeaderInParts = (m : Machine) → (front m ++ counter m.cycles) ++ counter m.instructions ≡ header m

abbrev pub HeaderBack : Type 0
HeaderBack = (m : Machine) (rest : List ℕ) → MachineFits m → machine_of (header m ++ rest) ≡ m

abbrev pub CounterBack : Type 0
CounterBack = (n : ℕ) (rest : List ℕ) → n < 2 ^ 64 → number_at (counter n ++ rest) 0 (width Cycles) ≡ n
