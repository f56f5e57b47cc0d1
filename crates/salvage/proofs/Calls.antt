-- `salvage` by what is too short.
-- Assumes nothing.
use Rattle.std.specs.Prelude.{Err, Ok, Result}
use Prim.Native.Nat.{ℕ, ◌+◌, ◌*◌, ◌≤◌, ◌<◌}
use native.Mathlib.Omega.{arith}
use mathlib.Core.Path.{◌≡◌, refl, ap, ◌∙◌}
use mathlib.Core.Bool.{Bool, true, false, not, ◌||◌}
use mathlib.Core.List.{List}
use lib.Dec.{ltb}
use lib.ListN.{length, length-append}
use lib.Seq.{sets}
use borrow.Author.Tests.{lt-ltb, le-ltb}
use Rattle.answers.specs.declared.Refusal.{Refusal}
use Rattle.answers.specs.declared.Refusal.TheVariants.{SalvageShort}
use Rattle.srecord.proofs.Laying.{sets-two}
use Rattle.salvage.specs.Mended.{kept_of, end_if, is_added, mended, dropped_numbers, number_bytes, tally_of, is_short, salvaged_of, output_mended, list_filled}
use Rattle.salvage.specs.declared.mended.Salvaged.{Salvaged}
use Rattle.salvage.specs.declared.mended.Tally.{Tally}
use Rattle.salvage.proofs.Laying.{eight-each}

or-true : (b : Bool) → (b || true) ≡ true
or-true true = refl
or-true false = refl

module _ (file : List ℕ) (found : Tally) (f : found ≡ tally_of file) where
  end_same : end_if (not found.ended) ≡ end_if (is_added file)
  unfolding tally_of is_added
  end_same = rw f

  pub numbers-same : length (number_bytes file) ≡ 8 * found.numbers
  unfolding tally_of number_bytes
  numbers-same = rw f (eight-each (dropped_numbers file))

  bytes_same : found.bytes ≡ length (kept_of file)
  unfolding tally_of
  bytes_same = rw f

  module _ (more : ℕ) (m : more ≡ length (end_if (not found.ended))) where
    mended-length : length (mended file) ≡ found.bytes + more
    unfolding mended
    mended-length =
        let b = bytes_same in
        let e = ap length end_same in
        length-append (kept_of file) (end_if (is_added file)) ∙ omega arith

    module _ (out list : List ℕ) where
      abbrev Unwritten : Type 0
      Unwritten = (Err SalvageShort ≡ salvaged_of file out list) × ((out ≡ output_mended file out list) × (list ≡ list_filled file out list))

      refuses : is_short file out list ≡ true → Unwritten
      unfolding salvaged_of output_mended list_filled
      refuses e = rw e (refl, (refl, refl))

      short-out : length out < found.bytes + more → is_short file out list ≡ true
      unfolding is_short
      short-out h = let n = mended-length in rw (lt-ltb (length out) (length (mended file)) (omega arith))

      short-list : length list < 8 * found.numbers → is_short file out list ≡ true
      unfolding is_short
      short-list h = let n = numbers-same in rw (lt-ltb (length list) (length (number_bytes file)) (omega arith)) (or-true (ltb (length out) (length (mended file))))

      pub no_room : length out < found.bytes + more → Unwritten
      no_room h = refuses (short-out h)

      pub no-list : length list < 8 * found.numbers → Unwritten
      no-list h = refuses (short-list h)

      long : found.bytes + more ≤ length out → 8 * found.numbers ≤ length list → is_short file out list ≡ false
      unfolding is_short
      long h k =
          let n = mended-length in
          let q = numbers-same in
          rw (le-ltb (length out) (length (mended file)) (omega arith), le-ltb (length list) (length (number_bytes file)) (omega arith))

      whole : is_short file out list ≡ false
          → ◌≡◌ {A = Result Salvaged Refusal} (Ok (record { bytes = found.bytes + more; numbers = found.numbers; added = not found.ended })) (salvaged_of file out list)
      unfolding salvaged_of tally_of is_added
      whole e = let n = mended-length in rw (e, n, f)

      out-whole : is_short file out list ≡ false → (mid new : List ℕ) → mid ≡ sets out 0 (kept_of file) → new ≡ sets mid found.bytes (end_if (not found.ended))
          → new ≡ output_mended file out list
      unfolding output_mended mended
      out-whole e mid new p q =
          let b = bytes_same in
          q ∙ rw (e, p, end_same) (sets-two 0 found.bytes (kept_of file) (end_if (is_added file)) out (omega arith))

      list-whole : is_short file out list ≡ false → (new : List ℕ) → new ≡ sets list 0 (number_bytes file) → new ≡ list_filled file out list
      unfolding list_filled
      list-whole e new p = rw e p

      pub accepts : (mid new filled : List ℕ) → found.bytes + more ≤ length out → 8 * found.numbers ≤ length list
          → mid ≡ sets out 0 (kept_of file) → new ≡ sets mid found.bytes (end_if (not found.ended)) → filled ≡ sets list 0 (number_bytes file)
          → (◌≡◌ {A = Result Salvaged Refusal} (Ok (record { bytes = found.bytes + more; numbers = found.numbers; added = not found.ended })) (salvaged_of file out list))
          × ((new ≡ output_mended file out list) × (filled ≡ list_filled file out list))
      accepts mid new filled h k p q s = let e = long h k in (whole e, (out-whole e mid new p q, list-whole e filled s))
