-- The lines of a report, one after the other.
-- Assumes nothing.
use Rattle.std.specs.Prelude.{None, Some}
use Prim.Native.Nat.{ℕ, ◌+◌, ◌*◌, ◌≤◌}
use native.Mathlib.Omega.{arith}
use mathlib.Core.Path.{◌≡◌, refl, sym, ap, ◌∙◌}
use mathlib.Core.Bool.{Bool, true, false, not}
use mathlib.Core.List.{List, ◌++◌}
use lib.ListN.{length, length-append}
use lib.Seq.{sets, length-sets}
use Rattle.answers.specs.Numbers.{number_of}
use Rattle.answers.specs.declared.Refusal.{Refusal}
use Rattle.registers.specs.ConditionCodes.{ascii}
use Rattle.srecord.specs.Layout.{pairs, line_text}
use Rattle.srecord.specs.File.{lines_of}
use Rattle.srecord.proofs.Laying.{sets-two}
use Rattle.text.specs.Lines.{decimal, alone, text_of, said}
use Rattle.text.specs.declared.lines.Text.{Text}
use Rattle.text.proofs.Decimals.{at-most-twenty}
use Rattle.text.proofs.Texts.{text-is-whole, alone-fits}
use Rattle.salvage.specs.Lines.{has_end, gathered, sifted}
use Rattle.salvage.specs.Mended.{is_added}
use Rattle.salvage.specs.Printed.{dropped_line, dropped_text, added_if, report_text}
use Rattle.salvage.specs.declared.Cursor.{Cursor}
use Rattle.salvage.specs.declared.Turn.{Turn}
use Rattle.salvage.proofs.Walk.{rest, ends, Turned, gathers, none, no_end}

-- ---- texts that are whole

pub said-decimal : (n : ℕ) (t : Text) → t ≡ text_of (decimal n) → said t ≡ decimal n
said-decimal n t e = rw e (text-is-whole (decimal n) (omega (arith, at-most-twenty n)))

pub said-alone : (x : Refusal) (k : ℕ) (t : Text) → k ≡ number_of x → t ≡ text_of (alone k) → said t ≡ alone (number_of x)
said-alone x k t d e = rw (e, d) (text-is-whole (alone (number_of x)) (alone-fits (number_of x)))

pub added-short : (b : Bool) → length (added_if b) ≤ 17
unfolding line_text pairs
added-short true = omega arith
added-short false = omega arith

-- ---- the line of a dropped line

pub alone-short : (n : ℕ) → length (alone n) ≤ 21
unfolding alone
alone-short n = simp length-append (omega (arith, at-most-twenty n))

module _ (n : ℕ) (x : Refusal) where
  line-length : length (dropped_line n x) ≡ 8 + (length (decimal n) + (1 + length (alone (number_of x))))
  unfolding dropped_line
  line-length = simp length-append (omega arith)

  line-short : length (dropped_line n x) ≤ 50
  line-short = omega (arith, line-length, at-most-twenty n, alone-short (number_of x))

  pub line-fits : (k : ℕ) → k ≡ length (dropped_line n x) → k ≤ 50
  line-fits k e = omega (arith, line-short)

  pub dropped-put : (out one two three four : List ℕ) (at digits last : ℕ) → one ≡ sets out at (ascii "dropped ")
      → digits ≡ length (decimal n) → two ≡ sets one (at + 8) (decimal n) → three ≡ sets two (at + 8 + digits) (ascii " ")
      → last ≡ length (alone (number_of x)) → four ≡ sets three (at + 8 + digits + 1) (alone (number_of x))
      → (digits + 9 + last ≡ length (dropped_line n x)) × (four ≡ sets out at (dropped_line n x))
  unfolding dropped_line
  dropped-put out one two three four at digits last p d q r k s =
      let l = line-length in (
        omega arith,
        s
            ∙ ap (λ (m : List ℕ). sets m (at + 8 + digits + 1) (alone (number_of x))) r
            ∙ sets-two (at + 8 + digits) (at + 8 + digits + 1) (ascii " ") (alone (number_of x)) two refl
            ∙ ap (λ (m : List ℕ). sets m (at + 8 + digits) (ascii " " ++ alone (number_of x))) q
            ∙ sets-two (at + 8) (at + 8 + digits) (decimal n) (ascii " " ++ alone (number_of x)) one (omega arith)
            ∙ ap (λ (m : List ℕ). sets m (at + 8) (decimal n ++ (ascii " " ++ alone (number_of x)))) p
            ∙ sets-two at (at + 8) (ascii "dropped ") (decimal n ++ (ascii " " ++ alone (number_of x))) out refl,
      )

-- ---- the report

pub record Told (file out₀ : List ℕ) (at : Cursor) (used : ℕ) (out : List ℕ) : Type 0 where
  pub within : at.from ≤ length file
  pub few : at.lines ≤ at.from
  pub small : used ≤ 50 * at.lines
  pub same : length out ≡ length out₀
  pub length-is : used + length (gathered dropped_text (rest file at)) ≡ length (gathered dropped_text (sifted file))
  pub out-is : sets out used (gathered dropped_text (rest file at)) ≡ sets out₀ 0 (gathered dropped_text (sifted file))
  pub ends-are : ends file at ≡ has_end (lines_of file)

pub at_first : (file out : List ℕ) (at : Cursor) → at ≡ record { from = 0; lines = 0; ended = false } → Told file out at 0 out
at_first file out at e = rw e (record { within = omega arith; few = omega arith; small = omega arith; same = refl; length-is = omega arith; out-is = refl; ends-are = refl })

module _ (file out₀ : List ℕ) (at : Cursor) (t : Turn) (used : ℕ) (out : List ℕ) (w : Turned file at t) (k : Told file out₀ at used out) where
  pub keeps : t.fate ≡ None → Told file out₀ t.next used out
  keeps e =
      let o = w.on in
      let n = w.counts in
      let g : gathered dropped_text (rest file at) ≡ gathered dropped_text (rest file t.next) = gathers file at t w dropped_text ∙ rw e in
      record {
        within = w.fits;
        few = omega (arith, k.few);
        small = omega (arith, k.small);
        same = k.same;
        length-is = rw g at k.length-is;
        out-is = rw g at k.out-is;
        ends-are = sym w.ends-too ∙ k.ends-are;
      }

  pub drops : (x : Refusal) (new : List ℕ) (more : ℕ) → t.fate ≡ Some x → more ≡ length (dropped_line t.next.lines x)
      → new ≡ sets out used (dropped_line t.next.lines x) → Told file out₀ t.next (used + more) new
  drops x new more e m s =
      let o = w.on in
      let n = w.counts in
      let line = dropped_line t.next.lines x in
      let left = gathered dropped_text (rest file t.next) in
      let g : gathered dropped_text (rest file at) ≡ line ++ left = gathers file at t w dropped_text ∙ rw e in
      let h = ap length g ∙ length-append line left in
      let b = line-short t.next.lines x in
      record {
        within = w.fits;
        few = omega (arith, k.few);
        small = omega (arith, k.small);
        same = ap length s ∙ length-sets out used line ∙ k.same;
        length-is = omega (arith, k.length-is);
        out-is =
            ap (λ (l : List ℕ). sets l (used + more) left) s
            ∙ sets-two used (used + more) line left out (omega arith)
            ∙ ap (sets out used) (sym g)
            ∙ k.out-is;
        ends-are = sym w.ends-too ∙ k.ends-are;
      }

pub at_last : (file out₀ : List ℕ) (at : Cursor) (used : ℕ) (out : List ℕ) → Told file out₀ at used out → length file ≤ at.from
    → (more : ℕ) (new : List ℕ) → more ≡ length (added_if (not at.ended)) → new ≡ sets out used (added_if (not at.ended))
    → (used + more ≡ length (report_text file)) × (new ≡ sets out₀ 0 (report_text file))
unfolding report_text is_added
at_last file out₀ at used out k h more new m s =
    let z : at.ended ≡ has_end (lines_of file) = sym (no_end file at h) ∙ k.ends-are in
    let g = gathered dropped_text (sifted file) in
    let a = added_if (not (has_end (lines_of file))) in
    let u : used ≡ length g = (let q = ap length (none file at h dropped_text) in omega (arith, k.length-is)) in
    let o : out ≡ sets out₀ 0 g = rw (none file at h dropped_text) at k.out-is in
    let n : more ≡ length a = rw z at m in
    let r : new ≡ sets out used a = rw z at s in
    (omega (arith, length-append g a), r ∙ rw o (sets-two 0 used g a out₀ (omega arith)))
