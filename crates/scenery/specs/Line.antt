-- What a line says: numbers in hexadecimal digits, and letters; and the bytes that are put into memory.
-- Assumes nothing.
use Rattle.std.specs.Prelude.{ℕ, zero, suc, ◌+◌, ◌*◌, ◌%◌, ◌^◌, cond, List, eqb, get_or, set}
use Rattle.text.specs.Hex.{byte_of}
use Rattle.registers.specs.declared.Flags.{Flags}
use Rattle.registers.specs.declared.Flags.TheVariants.{Bought, Manual}
use Rattle.registers.specs.declared.Set.{Set}
use Rattle.machine.specs.declared.Wait.{Wait}
use Rattle.machine.specs.declared.Wait.TheVariants.{Running, Cwai, Sync}
use Rattle.calls.specs.declared.InterruptType.{InterruptType}
use Rattle.calls.specs.declared.InterruptType.TheVariants.{Irq, Firq, Nmi}

-- two digits, four and sixteen, high digit first
abbrev pub byte_in : List ℕ → ℕ → ℕ
byte_in l at = byte_of (get_or l at 0) (get_or l (at + 1) 0)

abbrev pub word_in : List ℕ → ℕ → ℕ
word_in l at = 256 * byte_in l at + byte_in l (at + 2)

abbrev pub long_in : List ℕ → ℕ → ℕ
long_in l at =
    2 ^ 56 * byte_in l at + 2 ^ 48 * byte_in l (at + 2) + 2 ^ 40 * byte_in l (at + 4) + 2 ^ 32 * byte_in l (at + 6)
    + 2 ^ 24 * byte_in l (at + 8) + 2 ^ 16 * byte_in l (at + 10) + 2 ^ 8 * byte_in l (at + 12) + byte_in l (at + 14)

-- five digits, the first of them 0 or 1
abbrev pub length_in : List ℕ → ℕ → ℕ
length_in l at = cond (eqb (get_or l at 0) 49) 65536 (word_in l (at + 1))

-- B, or any other letter
abbrev pub flags_in : ℕ → Flags
flags_in letter = cond (eqb letter 66) Bought Manual

-- 0, 1, or any other letter
abbrev pub wait_in : ℕ → Wait
wait_in letter = cond (eqb letter 48) Running (cond (eqb letter 49) Cwai Sync)

-- I, F, or any other letter
abbrev pub interrupt_in : ℕ → InterruptType
interrupt_in letter = cond (eqb letter 73) Irq (cond (eqb letter 70) Firq Nmi)

-- CC A B DP X Y U S from a place on
abbrev pub registers_in : List ℕ → ℕ → ℕ → Set
registers_in l at pc =
    record {
      x = word_in l (at + 12);
      y = word_in l (at + 17);
      u = word_in l (at + 22);
      s = word_in l (at + 27);
      pc = pc;
      a = byte_in l (at + 3);
      b = byte_in l (at + 6);
      dp = byte_in l (at + 9);
      cc = record { reg = byte_in l at };
    }

-- so many bytes of the line put into memory from a place on, around its end; past the end of a shorter one nothing is put
abbrev pub filled : List ℕ → ℕ → List ℕ → ℕ → ℕ → List ℕ
filled mem at l from zero = mem
filled mem at l from (suc n) = set (filled mem at l from n) ((at + n) % 65536) (byte_in l (from + 2 * n))
