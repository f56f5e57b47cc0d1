-- The lines that are left to go.
-- Assumes nothing.
use Prim.Native.Nat.{ℕ, suc, ◌+◌, ◌-◌, ◌*◌, ◌%◌, ◌≤◌, ◌<◌}
use mathlib.Core.Path.{◌≡◌, refl, sym, ap, ◌∙◌}
use mathlib.Core.Bool.{Bool, true, false, cond}
use mathlib.Core.List.{List, [], ◌∷◌, ◌++◌}
use native.Mathlib.Omega.{arith}
use borrow.Author.Tests.{leb-true}
use lib.Dec.{leb}
use lib.ListN.{length, length-append}
use lib.Seq.{sets, length-sets}
use Rattle.text.specs.Lines.{line_feed}
use Rattle.text.proofs.Stores.{sets-append}
use Rattle.memory.specs.Fits.{Bytes}
use Rattle.disassembly.specs.Disassembly.{legible}
use Rattle.listing.specs.Listing.{line_from, next_from, left_after, listing}
use Rattle.listing.proofs.Lines.{line-of-49}

-- with n lines to go: they, laid after what is written so far, make the whole text
pub record ToGo (mem out₀ whole : List ℕ) (n used : ℕ) (out : List ℕ) (at : ℕ) : Type 0 where
  pub count : used + length (listing n mem at) ≡ length whole
  pub laid : sets out used (listing n mem at) ≡ sets out₀ 0 whole
  pub room : used + 49 * n ≤ 49 * 65535
  pub long : length out ≡ length out₀

pub fewer : (n next : ℕ) → left_after n next ≤ n - 1
fewer n next = go (leb next 0xFFFF)
  where
    go : (t : Bool) → cond t (n - 1) 0 ≤ n - 1
    go true = omega arith
    go false = omega arith

module _ (mem : List ℕ) (h : length mem ≡ 65536) (b : Bytes mem) where
  abbrev line_at : ℕ → List ℕ
  line_at at = line_from mem at (legible mem at) ++ (line_feed ∷ [])

  abbrev next_at : ℕ → ℕ
  next_at at = next_from at (legible mem at)

  -- a line and the rest, with the address as it is computed
  one_more : (n at : ℕ) → 0 < n → listing n mem at ≡ line_at at ++ listing (left_after n (next_at at)) mem (next_at at % 65536)
  unfolding listing
  one_more n at l = let e : n ≡ suc (n - 1) = omega arith in rw e (ap (λ (x : List ℕ). line_at at ++ x) (go (leb (next_at at) 0xFFFF) refl))
    where
      go : (t : Bool) → leb (next_at at) 0xFFFF ≡ t → cond t (listing (n - 1) mem (next_at at)) [] ≡ listing (cond t (suc (n - 1) - 1) 0) mem (next_at at % 65536)
      go true e =
          let k = leb-true (next_at at) 0xFFFF e in
          let m : next_at at % 65536 ≡ next_at at = omega arith in
          let f : suc (n - 1) - 1 ≡ n - 1 = omega arith in
          rw (m, f)
      go false e = refl

  module _ (out₀ whole : List ℕ) where
    pub turn : (n used : ℕ) (out : List ℕ) (at : ℕ) → at < 65536 → ToGo mem out₀ whole n used out at → 0 < n
        → {line new : List ℕ} {next left : ℕ} → line ≡ line_at at → next ≡ next_at at → new ≡ sets out used line → left ≡ left_after n next
        → ToGo mem out₀ whole left (used + 49) new (next % 65536)
    turn n used out at l g p {line} {new} {next} {left} el en eo ef =
        let e = one_more n at p in
        let k = line-of-49 mem at h b l in
        let rest = listing (left_after n (next_at at)) mem (next_at at % 65536) in
        let m : used + length (line_at at) ≡ used + 49 = omega (arith, k) in
        let s : left_after n (next_at at) ≤ n - 1 = fewer n (next_at at) in
        record {
          count = rw (ef, en) (omega (arith, g.count, ap length e, length-append (line_at at) rest, k));
          laid = rw (eo, el, ef, en) (sym (rw m at (sets-append out (line_at at) rest used)) ∙ (ap (sets out used) (sym e) ∙ g.laid));
          room = rw (ef, en) (omega (arith, g.room, s));
          long = rw eo (length-sets out used line ∙ g.long);
        }

none : (mem : List ℕ) (at : ℕ) → listing 0 mem at ≡ []
unfolding listing
none mem at = refl

pub finished : (mem out₀ whole : List ℕ) (n used : ℕ) (out : List ℕ) (at : ℕ) → ToGo mem out₀ whole n used out at → n ≤ 0 → (used ≡ length whole) × (out ≡ sets out₀ 0 whole)
finished mem out₀ whole n used out at g p =
    let e : n ≡ 0 = omega arith in
    let z : listing n mem at ≡ [] = ap (λ (k : ℕ). listing k mem at) e ∙ none mem at in
    (omega (arith, g.count, ap length z), ap (sets out used) (sym z) ∙ g.laid)

pub at_first : (mem out : List ℕ) (n at : ℕ) → n < 65536 → ToGo mem out (listing n mem at) n 0 out at
at_first mem out n at l = record { count = omega arith; laid = refl; room = omega arith; long = refl }
