-- What `put_lines` has laid before a cursor, and what is left.
-- Assumes nothing.
use Rattle.std.specs.Prelude.{None, Some}
use Prim.Native.Nat.{ℕ, ◌+◌, ◌-◌, ◌*◌, ◌≤◌}
use native.Mathlib.Omega.{arith}
use mathlib.Core.Path.{◌≡◌, refl, sym, ap, ◌∙◌}
use mathlib.Core.Bool.{false}
use mathlib.Core.List.{List, [], ◌∷◌}
use lib.ListN.{length, take, drop, length-append}
use lib.Seq.{sets, length-sets}
use Rattle.answers.specs.declared.Refusal.{Refusal}
use Rattle.machine.specs.Record.{bytes as low_bytes, counter}
use Rattle.srecord.proofs.Laying.{sets-two}
use Rattle.salvage.specs.Lines.{gathered}
use Rattle.salvage.specs.Mended.{kept_text, dropped_number, kept_of, dropped_numbers, in_bytes, number_bytes}
use Rattle.salvage.specs.declared.Cursor.{Cursor}
use Rattle.salvage.specs.declared.Turn.{Turn}
use Rattle.salvage.proofs.Walk.{rest, Turned, line-length, kept-text, kept-number, dropped-text, dropped-number, none}

pub record Laid (file out₀ list₀ : List ℕ) (at : Cursor) (bytes listed : ℕ) (out list : List ℕ) : Type 0 where
  pub within : at.from ≤ length file
  pub few : at.lines ≤ at.from
  pub less : bytes ≤ at.from
  pub room : listed + length (in_bytes (gathered dropped_number (rest file at))) ≤ length list₀
  pub out-same : length out ≡ length out₀
  pub list_same : length list ≡ length list₀
  pub out-is : sets out bytes (gathered kept_text (rest file at)) ≡ sets out₀ 0 (kept_of file)
  pub list-is : sets list listed (in_bytes (gathered dropped_number (rest file at))) ≡ sets list₀ 0 (number_bytes file)

pub at_first : (file out list : List ℕ) (at : Cursor) → at ≡ record { from = 0; lines = 0; ended = false } → length (number_bytes file) ≤ length list → Laid file out list at 0 0 out list
unfolding kept_of dropped_numbers number_bytes
at_first file out list at e h = rw e (record { within = omega arith; few = omega arith; less = omega arith; room = omega arith; out-same = refl; list_same = refl; out-is = refl; list-is = refl })

eight : (n : ℕ) → length (low_bytes 8 n) ≡ 8
unfolding low_bytes
eight n = refl

in-eight : (n : ℕ) → counter n ≡ low_bytes 8 n
unfolding counter
in-eight n = refl

pub eight-each : (ns : List ℕ) → length (in_bytes ns) ≡ 8 * length ns
eight-each [] = refl
eight-each (n ∷ ns) = length-append (low_bytes 8 n) (in_bytes ns) ∙ omega (arith, eight n, eight-each ns)

module _ (file out₀ list₀ : List ℕ) (at : Cursor) (t : Turn) (bytes listed : ℕ) (out list : List ℕ) (w : Turned file at t)
    (k : Laid file out₀ list₀ at bytes listed out list) where
  pub keeps : (new : List ℕ) → t.fate ≡ None → new ≡ sets out bytes (take (t.next.from - at.from) (drop at.from file))
      → Laid file out₀ list₀ t.next (bytes + (t.next.from - at.from)) listed new list
  keeps new e s =
      let o = w.on in
      let n = w.counts in
      let d = line-length file at t w in
      let line = take (t.next.from - at.from) (drop at.from file) in
      let left = gathered kept_text (rest file t.next) in
      let q = kept-number file at t w e in
      record {
        within = w.fits;
        few = omega (arith, k.few);
        less = omega (arith, k.less);
        room = rw q at k.room;
        out-same = ap length s ∙ length-sets out bytes line ∙ k.out-same;
        list_same = k.list_same;
        out-is =
            ap (λ (l : List ℕ). sets l (bytes + (t.next.from - at.from)) left) s
            ∙ sets-two bytes (bytes + (t.next.from - at.from)) line left out (omega arith)
            ∙ ap (sets out bytes) (sym (kept-text file at t w e))
            ∙ k.out-is;
        list-is = rw q at k.list-is;
      }

  pub room-left : (r : Refusal) → t.fate ≡ Some r → listed + 8 ≤ length list₀
  room-left r e =
      let q = dropped-number file at t w r e in
      let a = eight-each (gathered dropped_number (rest file at)) in
      let l = ap length q in
      omega (arith, k.room)

  pub drops : (new : List ℕ) (r : Refusal) → t.fate ≡ Some r → new ≡ sets list listed (counter t.next.lines)
      → Laid file out₀ list₀ t.next bytes (listed + 8) out new
  drops new r e s =
      let o = w.on in
      let n = w.counts in
      let q = dropped-number file at t w r e in
      let z = dropped-text file at t w r e in
      let number = low_bytes 8 t.next.lines in
      let left = in_bytes (gathered dropped_number (rest file t.next)) in
      let a = eight-each (gathered dropped_number (rest file at)) in
      let b = eight-each (gathered dropped_number (rest file t.next)) in
      let l = ap length q in
      let i : new ≡ sets list listed number = s ∙ rw (in-eight t.next.lines) in
      let f = eight t.next.lines in
      record {
        within = w.fits;
        few = omega (arith, k.few);
        less = omega (arith, k.less);
        room = omega (arith, k.room);
        out-same = k.out-same;
        list_same = ap length i ∙ length-sets list listed number ∙ k.list_same;
        out-is = rw z at k.out-is;
        list-is =
            ap (λ (m : List ℕ). sets m (listed + 8) left) i
            ∙ sets-two listed (listed + 8) number left list (omega arith)
            ∙ ap (λ (ns : List ℕ). sets list listed (in_bytes ns)) (sym q)
            ∙ k.list-is;
      }

pub at_last : (file out₀ list₀ : List ℕ) (at : Cursor) (bytes listed : ℕ) (out list : List ℕ) → Laid file out₀ list₀ at bytes listed out list
    → length file ≤ at.from → (out ≡ sets out₀ 0 (kept_of file)) × (list ≡ sets list₀ 0 (number_bytes file))
at_last file out₀ list₀ at bytes listed out list k h =
    (rw (none file at h kept_text) at k.out-is, rw (none file at h dropped_number) at k.list-is)
