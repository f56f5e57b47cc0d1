-- A file that is loaded, and the head before it.
-- Assumes nothing.
use Rattle.std.specs.Prelude.{Result, Ok, Err}
use Prim.Native.Nat.{ℕ, ◌-◌, ◌≤◌, ◌<◌}
use mathlib.Core.Path.{◌≡◌}
use mathlib.Core.Bool.{Bool, true, false, cond}
use mathlib.Core.List.{List}
use native.Mathlib.Omega.{arith}
use borrow.Author.Tests.{le-leb, lt-leb, le-ltb}
use lib.ListN.{length, take, drop, length-drop}
use lib.Seq.{take_all}
use Rattle.answers.specs.Numbers.{number_of}
use Rattle.answers.specs.declared.Refusal.{Refusal}
use Rattle.answers.specs.declared.Refusal.TheVariants.{Malformed}
use Rattle.text.specs.Lines.{alone}
use Rattle.memory.specs.Map.{word_at}
use Rattle.srecord.specs.File.{loaded_of, memory_loaded}
use Rattle.listing.specs.Listing.{listing, empty_memory, file_listing, head_word, from_byte, list_printed}

module _ (given : Bool) (at n : ℕ) (file : List ℕ) {blank : List ℕ} (eb : blank ≡ empty_memory) {l : Result ℕ Refusal} (el : l ≡ loaded_of blank file) where
  pub refused-file : {x : Refusal} → l ≡ Err x → file_listing given at n file ≡ alone (number_of x)
  unfolding file_listing
  refused-file ea = rw (← eb, ← el, ea)

  pub sound-file : {mem : List ℕ} → mem ≡ memory_loaded blank file → {a : ℕ} → l ≡ Ok a → file_listing given at n file ≡ listing n mem (cond given at (word_at mem 0xFFFE))
  unfolding file_listing
  sound-file em ea = rw (em, ← eb, ← el, ea)

module _ (input : List ℕ) where
  pub short-head : length input < 5 → list_printed input ≡ alone (number_of Malformed)
  unfolding list_printed
  short-head h = rw (lt-leb 5 (length input) h)

  module _ (h : 5 ≤ length input) where
    pub too_long : 0x100005 < length input → list_printed input ≡ alone (number_of Malformed)
    unfolding list_printed
    too_long k = rw (le-leb 5 (length input) h, lt-leb (length input) 0x100005 k)

    pub tail : take (length input - 5) (drop 5 input) ≡ drop 5 input
    tail = take_all (length input - 5) (drop 5 input) (simp length-drop (omega arith))

    module _ (k : length input ≤ 0x100005) where
      pub other-start : (from_byte input ≡ 0 → ⊥) → (from_byte input ≡ 1 → ⊥) → list_printed input ≡ alone (number_of Malformed)
      unfolding list_printed
      other-start f g = rw (le-leb 5 (length input) h, le-leb (length input) 0x100005 k, le-ltb (from_byte input) 2 (omega arith))

      module _ {at n : ℕ} {file : List ℕ} (ea : at ≡ head_word 0 input) (en : n ≡ head_word 3 input) (ef : file ≡ drop 5 input) where
        pub from-reset : from_byte input ≡ 0 → list_printed input ≡ file_listing false at n file
        unfolding list_printed
        from-reset f = rw (ea, en, ef, le-leb 5 (length input) h, le-leb (length input) 0x100005 k, f)

        pub from-given : from_byte input ≡ 1 → list_printed input ≡ file_listing true at n file
        unfolding list_printed
        from-given f = rw (ea, en, ef, le-leb 5 (length input) h, le-leb (length input) 0x100005 k, f)
