-- Laws of the cycles: how much an instruction can cost, and what each post-byte adds.
-- Assumes nothing.
use Rattle.std.specs.Prelude.{ℕ, ◌≤◌, ◌<◌, true, false, cond, List, [], ◌∷◌, ◌≡◌, eqb, ltb, Err, Ok, Result}
use Rattle.std.proofs.Math.Option.{Option, some, none}
use Rattle.std.specs.Int.Bits.{bit_and}
use Rattle.answers.specs.Counting.{counted}
use Rattle.memory.specs.Fits.{Bytes}
use Rattle.registers.specs.declared.Set.{Set}
use Rattle.decode.specs.Decode.{decoded_at}
use Rattle.decode.specs.PostByte.{is_indirect, is_refused, form_of}
use Rattle.decode.specs.declared.instruction.Instruction.{Instruction}
use Rattle.cycles.specs.Cycles.{form_extra, extra_of, cycles_of}
use Rattle.answers.specs.declared.Refusal.{Refusal}
use Rattle.decode.specs.declared.postbyte.Form.{Form}

-- ---- how much

-- a form adds at most 8, RTI 9, a push or pull 12, and no instruction has two of them: an extra is at most 12, and the sum a byte
pub record Bounded (mem : List ℕ) (i : Instruction) (r : Set) (ea : ℕ) : Type 0 where
  pub extra : extra_of i mem r ea ≤ 12
  pub whole : cycles_of i mem r ea ≤ 20

-- an instruction that was decoded, whatever the registers and the effective address
abbrev pub BoundedAt : List ℕ → Result Instruction Refusal → Type 0
BoundedAt mem (Ok i) = (r : Set) (ea : ℕ) → Bounded mem i r ea
BoundedAt mem (Err x) = Unit {0}

abbrev pub InstructionBounded : Type 0
InstructionBounded = (mem : List ℕ) (pc : ℕ) → Bytes mem → BoundedAt mem (decoded_at mem pc)

-- ---- post-bytes

-- the manual's table once more, by the post-byte that it prints: 1RR00100 stands as 84, and RR is any register
abbrev pub indexed_table : List (ℕ × ℕ)
indexed_table =
    (0x84, 0) ∷ (0x94, 3) ∷ (0x88, 1) ∷ (0x98, 4) ∷ (0x89, 4) ∷ (0x99, 7)
    ∷ (0x86, 1) ∷ (0x96, 4) ∷ (0x85, 1) ∷ (0x95, 4) ∷ (0x8B, 4) ∷ (0x9B, 7)
    ∷ (0x80, 2) ∷ (0x81, 3) ∷ (0x91, 6) ∷ (0x82, 2) ∷ (0x83, 3) ∷ (0x93, 6)
    ∷ (0x8C, 1) ∷ (0x9C, 4) ∷ (0x8D, 5) ∷ (0x9D, 8)
    ∷ []

abbrev pub found_in : List (ℕ × ℕ) → ℕ → Option ℕ
found_in [] n = none
found_in (row ∷ rows) n = cond (eqb n row.0) (some row.1) (found_in rows n)

-- 0RRnnnnn adds 1, 10011111 adds 5
abbrev pub post_byte_extra : ℕ → Option ℕ
post_byte_extra post = cond (ltb post 0x80) (some 1) (cond (eqb post 0x9F) (some 5) (found_in indexed_table (bit_and post 0x9F)))

-- what a post-byte adds by its form
abbrev pub by_form : Result Form Refusal → ℕ → Option ℕ
by_form (Ok form) post = some (form_extra form (is_indirect post))
by_form (Err x) post = none

-- each post-byte that is taken adds what the table says, and the table has nothing for those that are refused; 217 are taken
pub record PostByteExtras : Type 0 where
  pub each : (post : ℕ) → post < 256 → by_form (form_of post) post ≡ post_byte_extra post
  pub taken : counted 256 (λ post. cond (is_refused (form_of post)) false true) ≡ 217
