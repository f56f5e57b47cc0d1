-- A dump: the machine's fields in the record's order, numbers high byte first, and then the 65,536 bytes of memory (docs/COMPARE.md).
-- Assumes nothing.
use Rattle.std.specs.Prelude.{ℕ, ◌+◌, Bool, true, cond, ◌&&◌, List, ◌++◌, ◌≡◌, Result, Err, Ok, eqb, ltb, length, drop}
use Rattle.std.proofs.lemmas.List.Edits.{sets}
use Rattle.answers.specs.declared.Refusal.{Refusal}
use Rattle.answers.specs.declared.Refusal.TheVariants.{MemoryLength, Malformed, OutputShort}
use Rattle.machine.specs.Machine.{MachineFits}
use Rattle.machine.specs.Record.{Waiting, Armed, header, header_length, held, machine_of}
use Rattle.machine.specs.declared.Machine.{Machine}

unfoldable pub dump_of : Machine → List ℕ → List ℕ
dump_of m mem = header m ++ mem

abbrev pub dump_length : ℕ
dump_length = header_length + 65536

-- it has its length, a wait state of 0 to 2 and a mark of 0 or 1
unfoldable pub is_dump : List ℕ → Bool
is_dump d = eqb (length d) dump_length && (ltb (held Waiting d) 3 && ltb (held Armed d) 2)

-- its machine is `machine_of`; its memory
abbrev pub memory_in : List ℕ → List ℕ
memory_in d = drop header_length d

-- ---- written: the answer, which is how many bytes are written, and the output afterwards

unfoldable pub dumped : List ℕ → List ℕ → Result ℕ Refusal
dumped mem out =
    cond (eqb (length mem) 65536)
    (cond (ltb (length out) dump_length) (Err OutputShort) (Ok dump_length))
    (Err MemoryLength)

unfoldable pub output_dumped : Machine → List ℕ → List ℕ → List ℕ
output_dumped m mem out =
    cond (eqb (length mem) 65536) (cond (ltb (length out) dump_length) out (sets out 0 (dump_of m mem))) out

-- ---- read: the answer, which is the machine, and memory afterwards

unfoldable pub undumped : List ℕ → List ℕ → Result Machine Refusal
undumped d mem =
    cond (eqb (length mem) 65536)
    (cond (is_dump d) (Ok (machine_of d)) (Err Malformed))
    (Err MemoryLength)

unfoldable pub memory_undumped : List ℕ → List ℕ → List ℕ
memory_undumped d mem = cond (eqb (length mem) 65536) (cond (is_dump d) (memory_in d) mem) mem

-- ---- the law: what is written is a dump, and reads back

pub record ReadsBackAs (m : Machine) (mem d : List ℕ) : Type 0 where
  pub sound : is_dump d ≡ true
  pub machine-is : machine_of d ≡ m
  pub memory-is : memory_in d ≡ mem

abbrev pub DumpBack : Type 0
DumpBack = (m : Machine) (mem : List ℕ) → MachineFits m → length mem ≡ 65536 → ReadsBackAs m mem (dump_of m mem)
