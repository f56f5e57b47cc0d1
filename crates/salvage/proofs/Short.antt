-- The call is refused exactly where something is too short, and then nothing is written.
-- Assumes nothing.
use Rattle.std.specs.Prelude.{Err, Ok}
use Prim.Native.Nat.{ℕ, ◌<◌}
use native.Mathlib.Omega.{arith}
use mathlib.Core.Path.{◌≡◌, refl}
use mathlib.Core.Bool.{Bool, true, false, ◌||◌}
use mathlib.Core.List.{List}
use mathlib.Core.Logic.{◌⊎◌, inl, inr}
use lib.Dec.{ltb}
use lib.ListN.{length}
use borrow.Author.Tests.{lt-ltb, ltb-true}
use Rattle.answers.specs.declared.Refusal.{Refusal}
use Rattle.answers.specs.declared.Refusal.TheVariants.{SalvageShort}
use Rattle.salvage.specs.Mended.{is_added, mended, dropped_numbers, number_bytes, is_short, salvaged_of, output_mended, list_filled}
use Rattle.salvage.specs.Laws.{ShortExactly}

module _ (file out list : List ℕ) where
  answer-short : is_short file out list ≡ true → salvaged_of file out list ≡ Err SalvageShort
  unfolding salvaged_of
  answer-short e = rw e

  answer-long : is_short file out list ≡ false → salvaged_of file out list ≡ Ok (record { bytes = length (mended file); numbers = length (dropped_numbers file); added = is_added file })
  unfolding salvaged_of
  answer-long e = rw e

  is-short : (r : Refusal) → salvaged_of file out list ≡ Err r → is_short file out list ≡ true
  is-short r h = go (is_short file out list) refl
    where
      go : (b : Bool) → is_short file out list ≡ b → is_short file out list ≡ true
      go true e = e
      go false e = let d = answer-long e in let z : ◌≡◌ {A = ℕ} 0 1 = cc in absurd (omega arith)

  by-refusal : (r : Refusal) → salvaged_of file out list ≡ Err r → r ≡ SalvageShort
  by-refusal r h = let d = answer-short (is-short r h) in cc

  out-kept : is_short file out list ≡ true → output_mended file out list ≡ out
  unfolding output_mended
  out-kept e = rw e

  list-kept : is_short file out list ≡ true → list_filled file out list ≡ list
  unfolding list_filled
  list-kept e = rw e

  which : is_short file out list ≡ true → (length out < length (mended file)) ⊎ (length list < length (number_bytes file))
  unfolding is_short
  which = go (ltb (length out) (length (mended file))) refl
    where
      go : (b : Bool) → ltb (length out) (length (mended file)) ≡ b → (b || ltb (length list) (length (number_bytes file))) ≡ true
          → (length out < length (mended file)) ⊎ (length list < length (number_bytes file))
      go true e h = inl (ltb-true _ _ e)
      go false e h = inr (ltb-true _ _ h)

  or-true : (b : Bool) → (b || true) ≡ true
  or-true true = refl
  or-true false = refl

  either : (length out < length (mended file)) ⊎ (length list < length (number_bytes file)) → is_short file out list ≡ true
  unfolding is_short
  either (inl h) = rw (lt-ltb (length out) (length (mended file)) h)
  either (inr h) = rw (lt-ltb (length list) (length (number_bytes file)) h) (or-true (ltb (length out) (length (mended file))))

pub short-exactly : ShortExactly
short-exactly file out list =
    record {
      exactly = ((λ e. which file out list (is-short file out list SalvageShort e)), (λ h. answer-short file out list (either file out list h)));
      only = by-refusal file out list;
      output = λ r e. out-kept file out list (is-short file out list r e);
      numbers = λ r e. list-kept file out list (is-short file out list r e);
    }
