-- What `count` has counted before a cursor, and what is left.
-- Assumes nothing.
use Rattle.std.specs.Prelude.{None, Some}
use Prim.Native.Nat.{ℕ, ◌+◌, ◌-◌, ◌≤◌}
use native.Mathlib.Omega.{arith}
use mathlib.Core.Path.{◌≡◌, refl, sym, ap, ◌∙◌}
use mathlib.Core.Bool.{false}
use mathlib.Core.List.{List}
use lib.ListN.{length, take, drop, length-append}
use Rattle.answers.specs.declared.Refusal.{Refusal}
use Rattle.srecord.specs.File.{lines_of}
use Rattle.salvage.specs.Lines.{has_end, gathered}
use Rattle.salvage.specs.Mended.{kept_text, dropped_number, kept_of, dropped_numbers, tally_of}
use Rattle.salvage.specs.declared.Cursor.{Cursor}
use Rattle.salvage.specs.declared.Turn.{Turn}
use Rattle.salvage.proofs.Walk.{rest, ends, Turned, line-length, kept-text, kept-number, dropped-text, dropped-number, none, no_end}

pub record Counted (file : List ℕ) (at : Cursor) (bytes numbers : ℕ) : Type 0 where
  pub within : at.from ≤ length file
  pub few : at.lines ≤ at.from
  pub less : bytes ≤ at.from
  pub fewer : numbers ≤ at.lines
  pub bytes-are : bytes + length (gathered kept_text (rest file at)) ≡ length (kept_of file)
  pub numbers-are : numbers + length (gathered dropped_number (rest file at)) ≡ length (dropped_numbers file)
  pub ends-are : ends file at ≡ has_end (lines_of file)

pub at_first : (file : List ℕ) (at : Cursor) → at ≡ record { from = 0; lines = 0; ended = false } → Counted file at 0 0
unfolding kept_of dropped_numbers
at_first file at e = rw e (record { within = omega arith; few = omega arith; less = omega arith; fewer = omega arith; bytes-are = omega arith; numbers-are = omega arith; ends-are = refl })

module _ (file : List ℕ) (at : Cursor) (t : Turn) (bytes numbers : ℕ) (w : Turned file at t) (k : Counted file at bytes numbers) where
  pub keeps : t.fate ≡ None → Counted file t.next (bytes + (t.next.from - at.from)) numbers
  keeps e =
      let o = w.on in
      let n = w.counts in
      let d = line-length file at t w in
      let l = length-append (take (t.next.from - at.from) (drop at.from file)) (gathered kept_text (rest file t.next)) in
      let s = ap length (kept-text file at t w e) in
      let q = ap length (kept-number file at t w e) in
      record {
        within = w.fits;
        few = omega (arith, k.few);
        less = omega (arith, k.less);
        fewer = omega (arith, k.fewer);
        bytes-are = omega (arith, k.bytes-are);
        numbers-are = omega (arith, k.numbers-are);
        ends-are = sym w.ends-too ∙ k.ends-are;
      }

  pub drops : (r : Refusal) → t.fate ≡ Some r → Counted file t.next bytes (numbers + 1)
  drops r e =
      let o = w.on in
      let n = w.counts in
      let s = ap length (dropped-text file at t w r e) in
      let q = ap length (dropped-number file at t w r e) in
      record {
        within = w.fits;
        few = omega (arith, k.few);
        less = omega (arith, k.less);
        fewer = omega (arith, k.fewer);
        bytes-are = omega (arith, k.bytes-are);
        numbers-are = omega (arith, k.numbers-are);
        ends-are = sym w.ends-too ∙ k.ends-are;
      }

pub at_last : (file : List ℕ) (at : Cursor) (bytes numbers : ℕ) → Counted file at bytes numbers → length file ≤ at.from
    → record { bytes = bytes; numbers = numbers; ended = at.ended } ≡ tally_of file
unfolding tally_of
at_last file at bytes numbers k h =
    let s = ap length (none file at h kept_text) in
    let q = ap length (none file at h dropped_number) in
    let x : bytes ≡ length (kept_of file) = omega (arith, k.bytes-are) in
    let y : numbers ≡ length (dropped_numbers file) = omega (arith, k.numbers-are) in
    let z : at.ended ≡ has_end (lines_of file) = sym (no_end file at h) ∙ k.ends-are in
    rw (x, y, z)
