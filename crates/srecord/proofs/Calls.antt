-- What the two calls answer, case by case.
-- Assumes nothing.
use Rattle.std.proofs.Common.{◌≡◌, ℕ, zero, suc, ◌+◌, ◌*◌, ◌<◌, ◌≤◌, Bool, true, false, cond, List, [], length, drop, sym, refl, ◌∙◌, arith, length-append, length-take, le-ltb, lt-ltb, eq-eqb, ne_eqb, Err, Ok}
use lib.Seq.{sets}
use Rattle.srecord.specs.Layout.{line_text}
use Rattle.srecord.specs.File.{meanings_of, judged, landed, loaded_of, memory_loaded}
use Rattle.srecord.specs.Written.{bytes_of_row, is_zero, row_text, rows_text, text_for, output_written, output_after}
use Rattle.answers.specs.declared.Refusal.{Refusal}
use Rattle.answers.specs.declared.Refusal.TheVariants.{MemoryLength, OutputShort}
use Rattle.srecord.proofs.Laying.{sets-two}
use Rattle.srecord.proofs.Rows.{text-length}

module _ (mem file : List ℕ) where
  pub read_length : (length mem ≡ 65536 → ⊥) → (Err MemoryLength ≡ loaded_of mem file) × (mem ≡ memory_loaded mem file)
  unfolding loaded_of memory_loaded
  read_length n = rw (ne_eqb (length mem) 65536 n) (refl, refl)

  module _ (e : length mem ≡ 65536) where
    loaded : loaded_of mem file ≡ judged (meanings_of file)
    unfolding loaded_of
    loaded = rw (eq-eqb (length mem) 65536 e)

    pub read_done : (a : ℕ) → Ok a ≡ judged (meanings_of file) → (Ok a ≡ loaded_of mem file) × (landed (meanings_of file) mem ≡ memory_loaded mem file)
    unfolding memory_loaded
    read_done a j = let l = loaded ∙ sym j in (sym l, rw l)

    pub read-refused : (r : Refusal) → Err r ≡ judged (meanings_of file) → (Err r ≡ loaded_of mem file) × (mem ≡ memory_loaded mem file)
    unfolding memory_loaded
    read-refused r j = let l = loaded ∙ sym j in (sym l, rw l)

row-bound : (mem : List ℕ) (k : ℕ) → length (row_text mem k) ≤ 75
unfolding row_text
row-bound mem k = go (is_zero (bytes_of_row mem k)) refl
  where
    go : (w : Bool) → is_zero (bytes_of_row mem k) ≡ w → length (cond (is_zero (bytes_of_row mem k)) [] (line_text 49 (32 * k) (bytes_of_row mem k))) ≤ 75
    go true e = rw e (omega arith)
    go false e =
        let n = text-length 49 (32 * k) (bytes_of_row mem k) in
        let m = length-take 32 (drop (32 * k) mem) in
        rw e (omega arith)

pub rows_bound : (mem : List ℕ) (k : ℕ) → length (rows_text mem k) ≤ 75 * k
unfolding rows_text
rows_bound mem zero = omega arith
rows_bound mem (suc k) =
    let h = rows_bound mem k in
    let r = row-bound mem k in
    simp length-append (omega arith)

module _ (mem : List ℕ) (a : ℕ) (out : List ℕ) where
  pub write-length : (length mem ≡ 65536 → ⊥) → (Err MemoryLength ≡ output_written mem a out) × (out ≡ output_after mem a out)
  unfolding output_written output_after
  write-length n = rw (ne_eqb (length mem) 65536 n) (refl, refl)

  all-length : length (text_for mem a) ≡ length (rows_text mem 2048) + 11
  unfolding text_for
  all-length = length-append (rows_text mem 2048) (line_text 57 a []) ∙ rw (text-length 57 a [])

  module _ (e : length mem ≡ 65536) where
    pub write-short : length out < length (rows_text mem 2048) + 11 → (Err OutputShort ≡ output_written mem a out) × (out ≡ output_after mem a out)
    unfolding output_written output_after
    write-short h =
        let n = all-length in
        rw (eq-eqb (length mem) 65536 e, lt-ltb (length out) (length (text_for mem a)) (omega arith)) (refl, refl)

    pub write_done : (size at : ℕ) (mid new : List ℕ) → size ≡ length (rows_text mem 2048) + 11 → size ≤ length out → at ≡ length (rows_text mem 2048)
        → mid ≡ sets out 0 (rows_text mem 2048) → new ≡ sets mid at (line_text 57 a [])
        → (Ok size ≡ output_written mem a out) × (new ≡ output_after mem a out)
    unfolding output_written output_after text_for
    write_done size at mid new s h p f g =
        let n = all-length in
        let t = text-length 57 a [] in
        let k : size ≡ length (text_for mem a) = omega arith in
        let o : new ≡ sets out 0 (text_for mem a) =
        g ∙ rw f (sets-two 0 at (rows_text mem 2048) (line_text 57 a []) out (omega arith)) in
        rw (eq-eqb (length mem) 65536 e, le-ltb (length out) (length (text_for mem a)) (omega arith), k) (refl, o)
