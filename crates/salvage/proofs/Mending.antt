-- What `mend` writes, by the answer; and that it fits the program's buffers.
-- Assumes nothing.
use Rattle.std.specs.Prelude.{Err, None, Option, Result, Some}
use Prim.Native.Nat.{ℕ, ◌+◌, ◌*◌, ◌≤◌, ◌<◌}
use native.Mathlib.Omega.{arith}
use mathlib.Core.Path.{◌≡◌, refl, sym, ◌∙◌}
use mathlib.Core.Bool.{Bool, true, false, cond, ◌||◌}
use mathlib.Core.List.{List, [], ◌∷◌}
use lib.Dec.{leb, ltb}
use lib.ListN.{length, replicate, length-append, length-replicate}
use lib.Seq.{sets}
use borrow.Author.Tests.{le-leb, lt-leb, ltb-false}
use Rattle.answers.specs.Numbers.{number_of}
use Rattle.answers.specs.declared.Refusal.TheVariants.{SalvageShort, Malformed}
use Rattle.text.specs.Lines.{alone}
use Rattle.salvage.specs.Lines.{Sifted, sifted, gathered}
use Rattle.salvage.specs.Mended.{is_added, mended, dropped_number, dropped_numbers, number_bytes, is_short, salvaged_of, output_mended}
use Rattle.salvage.specs.Printed.{longest, dropped_text, report_text, no_numbers, mend_answer, output_printed, error_text, text_length, printed_of, PrintedFits, MendFits}
use Rattle.salvage.specs.declared.mended.Salvaged.{Salvaged}
use Rattle.salvage.specs.declared.printed.Printed.{Printed}
use Rattle.salvage.proofs.Laying.{eight-each}
use Rattle.salvage.proofs.Telling.{alone-short, added-short, line-fits}
use Rattle.answers.specs.declared.Refusal.{Refusal}

-- ---- by the answer

module _ (file out report : List ℕ) where
  -- the result, the output and the report at exit
  abbrev Prints : ℕ → ℕ → List ℕ → List ℕ → Type 0
  Prints t k o new =
      (◌≡◌ {A = Printed} (record { text = t; report = k }) (printed_of file out))
      × ((o ≡ output_printed file out) × (new ≡ sets report 0 (error_text (mend_answer file out) file)))

  printed-by : (a : Result Salvaged Refusal) (o new : List ℕ) (t k : ℕ) → a ≡ mend_answer file out → o ≡ output_printed file out → t ≡ text_length a
      → k ≡ length (error_text a file) → new ≡ sets report 0 (error_text a file)
      → Prints t k o new
  unfolding printed_of
  printed-by a o new t k p h b m n = rw (b, m, p) (refl, (h, rw p at n))

  module _ (h : longest < length file) where
    answer-long : Err Malformed ≡ mend_answer file out
    unfolding mend_answer
    answer-long = rw (lt-leb (length file) longest h)

    output-long : out ≡ output_printed file out
    unfolding output_printed
    output-long = rw (lt-leb (length file) longest h)

    pub too_long : (new : List ℕ) (k : ℕ) → (k ≡ length (alone (number_of Malformed))) × (new ≡ sets report 0 (alone (number_of Malformed)))
        → Prints 0 k out new
    too_long new k p = printed-by (Err Malformed) out new 0 k answer-long output-long refl p.0 p.1

  module _ (h : length file ≤ longest) (list : List ℕ) (l : list ≡ no_numbers) (a : Result Salvaged Refusal) (o : List ℕ) (p : a ≡ salvaged_of file out list) (q : o ≡ output_mended file out list) where
    answer-is : a ≡ mend_answer file out
    unfolding mend_answer
    answer-is = p ∙ rw (l, le-leb (length file) longest h)

    output-is : o ≡ output_printed file out
    unfolding output_printed
    output-is = q ∙ rw (l, le-leb (length file) longest h)

    pub told : (new : List ℕ) (k : ℕ) → (k ≡ length (error_text a file)) × (new ≡ sets report 0 (error_text a file))
        → Prints (text_length a) k o new
    told new k m = printed-by a o new (text_length a) k answer-is output-is refl m.0 m.1

-- ---- it fits

-- the length of an array that is too long to be counted
pub counted : (n : ℕ) → n ≡ length {A = ℕ} (replicate n 0)
counted n = sym (length-replicate n 0)

told-short : (ss : List Sifted) → length (gathered dropped_text ss) ≤ 50 * length (gathered dropped_number ss)
unfolding gathered
told-short [] = omega arith
told-short (s ∷ ss) = go s.fate refl (told-short ss)
  where
    go : (f : Option Refusal) → s.fate ≡ f → length (gathered dropped_text ss) ≤ 50 * length (gathered dropped_number ss)
        → length (gathered dropped_text (s ∷ ss)) ≤ 50 * length (gathered dropped_number (s ∷ ss))
    go None e h = rw e h
    go (Some r) e h = rw e (simp length-append (omega (arith, line-fits s.number r _ refl)))

or_left : (a b : Bool) → (a || b) ≡ false → a ≡ false
or_left true b e = e
or_left false b e = refl

or_right : (a b : Bool) → (a || b) ≡ false → b ≡ false
or_right true b e = absurd (let z : ◌≡◌ {A = ℕ} 0 1 = cc in omega arith)
or_right false b e = e

module _ (file out : List ℕ) where
  not_short : is_short file out no_numbers ≡ false → (length (mended file) ≤ length out) × (length (number_bytes file) ≤ length no_numbers)
  unfolding is_short
  not_short e = (
    ltb-false _ _ (or_left (ltb (length out) (length (mended file))) (ltb (length no_numbers) (length (number_bytes file))) e),
    ltb-false _ _ (or_right (ltb (length out) (length (mended file))) (ltb (length no_numbers) (length (number_bytes file))) e),
  )

  report-short : length (number_bytes file) ≤ length no_numbers → length (report_text file) ≤ 50 * 0x8000 + 17
  unfolding report_text number_bytes dropped_numbers no_numbers
  report-short h =
      simp length-append
      (omega (arith, told-short (sifted file), added-short (is_added file), eight-each (gathered dropped_number (sifted file)), length-replicate {A = ℕ} (8 * 0x8000) 0))

  answer-fits : (b : Bool) → is_short file out no_numbers ≡ b → (text_length (salvaged_of file out no_numbers) ≤ length out) × (length (error_text (salvaged_of file out no_numbers) file) ≤ 50 * 0x8000 + 17)
  unfolding salvaged_of
  answer-fits true e = rw e (omega arith, omega (arith, alone-short (number_of SalvageShort)))
  answer-fits false e = let n = not_short e in rw e (n.0, report-short n.1)

  by_length : (b : Bool) → (text_length (salvaged_of file out no_numbers) ≤ length out) × (length (error_text (salvaged_of file out no_numbers) file) ≤ 50 * 0x8000 + 17)
      → (text_length (cond b (salvaged_of file out no_numbers) (Err Malformed)) ≤ length out)
      × (length (error_text (cond b (salvaged_of file out no_numbers) (Err Malformed)) file) ≤ 50 * 0x8000 + 17)
  by_length true h = h
  by_length false h = (omega arith, omega (arith, alone-short (number_of Malformed)))

  fit : PrintedFits file out
  unfolding printed_of mend_answer
  fit = let h = by_length (leb (length file) longest) (answer-fits (is_short file out no_numbers) refl) in record { text = h.0; report = h.1 }

pub mend-fits : MendFits
mend-fits file out = fit file out
