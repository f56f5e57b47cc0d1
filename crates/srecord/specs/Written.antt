-- The text that is written of a memory and a start.
-- Assumes nothing.
use Rattle.std.specs.Prelude.{ℕ, zero, suc, ◌*◌, Bool, true, cond, ◌&&◌, List, [], ◌∷◌, ◌++◌, length, take, drop, ◌==◌, nat_lt, Err, Ok, Result}
use Rattle.std.proofs.lemmas.List.Edits.{sets}
use Rattle.srecord.specs.Layout.{kind1, kind9, line_text}
use Rattle.answers.specs.declared.Refusal.{Refusal}
use Rattle.answers.specs.declared.Refusal.TheVariants.{MemoryLength, OutputShort}

-- the k-th 32 bytes of memory
abbrev pub bytes_of_row : List ℕ → ℕ → List ℕ
bytes_of_row mem k = take 32 (drop (32 * k) mem)

unfoldable pub is_zero : List ℕ → Bool
is_zero [] = true
is_zero (b ∷ bs) = b == 0 && is_zero bs

-- an S1 line, or nothing if its bytes are all zero
unfoldable pub row_text : List ℕ → ℕ → List ℕ
row_text mem k = cond (is_zero (bytes_of_row mem k)) [] (line_text kind1 (32 * k) (bytes_of_row mem k))

-- the first k rows, upwards
unfoldable pub rows_text : List ℕ → ℕ → List ℕ
rows_text mem zero = []
rows_text mem (suc k) = rows_text mem k ++ row_text mem k

-- all 2,048 rows, and S9
unfoldable pub text_for : List ℕ → ℕ → List ℕ
text_for mem a = rows_text mem 2048 ++ line_text kind9 a []

-- how many bytes are written, and the output afterwards: the text at its front and the rest as it was; if refused, all as it was
unfoldable pub output_written : List ℕ → ℕ → List ℕ → Result ℕ Refusal
output_written mem a out =
    cond (length mem == 65536)
    (cond (nat_lt (length out) (length (text_for mem a))) (Err OutputShort) (Ok (length (text_for mem a))))
    (Err MemoryLength)

unfoldable pub output_after : List ℕ → ℕ → List ℕ → List ℕ
output_after mem a out =
    cond (length mem == 65536)
    (cond (nat_lt (length out) (length (text_for mem a))) out (sets out 0 (text_for mem a)))
    out
