-- What is told of two dumps: their differences fit the list, and the list's entries are theirs.
-- Assumes nothing.
use Rattle.std.specs.Prelude.{Result, Err, Ok}
use Prim.Native.Nat.{ℕ, ◌-◌, ◌*◌, ◌≤◌, ◌<◌}
use mathlib.Core.Bool.{true, false}
use mathlib.Core.List.{List}
use mathlib.Core.Path.{◌≡◌, sym, ◌∙◌}
use native.Mathlib.Omega.{arith}
use lib.ListN.{length, take, drop, length-take, length-drop}
use lib.Seq.{sets, take_all}
use borrow.Author.Tests.{eq-eqb, le-ltb}
use Rattle.answers.specs.Numbers.{number_of}
use Rattle.answers.specs.declared.Refusal.{Refusal}
use Rattle.answers.specs.declared.Refusal.TheVariants.{Malformed}
use Rattle.text.specs.Lines.{alone}
use Rattle.memory.specs.Fits.{Bytes}
use Rattle.machine.specs.Record.{machine_of}
use Rattle.machine.specs.declared.Machine.{Machine}
use Rattle.difference.specs.Compare.{laid_out, compared, list_after}
use Rattle.difference.proofs.Whole.{ceiling}
use Rattle.difference.proofs.ReadBack.{entries-back}
use Rattle.dump.specs.Dumps.{dump_length, is_dump, memory_in}
use Rattle.dump.specs.Told.{list_lines, told_lines, left_dump, right_dump, dump_differences, differences_told}
use Rattle.dump.proofs.Writing.{not-whole, dump-length, machine-fits}
use Rattle.dump.proofs.Listed.{all_lines}

-- the memory of a dump, as a part of it
pub memory-part : (d : List ℕ) → is_dump d ≡ true → take (length d - 32) (drop 32 d) ≡ memory_in d
memory-part d h = take_all (length d - 32) (drop 32 d) (rw length-drop (omega arith))

module _ (l r list : List ℕ) (dl : is_dump l ≡ true) (dr : is_dump r ≡ true) (room : 17 * 32781 ≡ length list) where
  few : length (dump_differences l r) ≤ 32781
  few = ceiling (machine_of l) (machine_of r) (memory_in l) (memory_in r)

  left-memory : length (memory_in l) ≡ 65536
  left-memory = length-drop 32 l ∙ omega (arith, dump-length l dl)

  right-memory : length (memory_in r) ≡ 65536
  right-memory = length-drop 32 r ∙ omega (arith, dump-length r dr)

  counted : compared (machine_of l) (memory_in l) (machine_of r) (memory_in r) list ≡ Ok (length (dump_differences l r))
  unfolding compared
  counted =
      rw (eq-eqb (length (memory_in l)) 65536 left-memory, eq-eqb (length (memory_in r)) 65536 right-memory, le-ltb (length list) (17 * length (dump_differences l r)) (omega (arith, few)))

  listing : list_after (machine_of l) (memory_in l) (machine_of r) (memory_in r) list ≡ sets list 0 (laid_out (dump_differences l r))
  unfolding list_after
  listing =
      rw (eq-eqb (length (memory_in l)) 65536 left-memory, eq-eqb (length (memory_in r)) 65536 right-memory, le-ltb (length list) (17 * length (dump_differences l r)) (omega (arith, few)))

  module _ (m n : Machine) (a b : List ℕ) (em : m ≡ machine_of l) (en : n ≡ machine_of r) (ea : a ≡ memory_in l) (eb : b ≡ memory_in r) where
    all-counted : compared m a n b list ≡ Ok (length (dump_differences l r))
    all-counted = rw (em, en, ea, eb) counted

    pub not-refused : (x : Refusal) → Err x ≡ compared m a n b list → ⊥
    not-refused x e = let f : ◌≡◌ {A = Result ℕ Refusal} (Err x) (Ok (length (dump_differences l r))) = e ∙ all-counted in cc

    module _ (count : ℕ) (new : List ℕ) (ec : Ok count ≡ compared m a n b list) (el : new ≡ list_after m a n b list) where
      count-is : count ≡ length (dump_differences l r)
      count-is = let f : ◌≡◌ {A = Result ℕ Refusal} (Ok count) (Ok (length (dump_differences l r))) = ec ∙ all-counted in cc

      pub count-few : count ≤ 32781
      count-few = omega (arith, count-is, few)

      pub lines-told : Bytes l → Bytes r → list_lines new count 0 ≡ told_lines (dump_differences l r)
      lines-told bl br =
          rw (count-is, el, em, en, ea, eb, listing)
          (all_lines (sets list 0 (laid_out (dump_differences l r))) (dump_differences l r) (λ j h. entries-back (machine_of l) (machine_of r) (memory_in l) (memory_in r) list j (machine-fits l bl) (machine-fits r br) (omega (arith, few)) h))

module _ (input : List ℕ) where
  pub left-malformed : is_dump (left_dump input) ≡ false → differences_told input ≡ alone (number_of Malformed)
  unfolding differences_told
  left-malformed h = rw h

  pub too_short : length input < dump_length → differences_told input ≡ alone (number_of Malformed)
  too_short h = left-malformed (sym (not-whole (left_dump input) (λ e. omega (arith, e, length-take dump_length input))))

  pub right-malformed : is_dump (left_dump input) ≡ true → is_dump (right_dump input) ≡ false → differences_told input ≡ alone (number_of Malformed)
  unfolding differences_told
  right-malformed h g = rw (h, g)

  pub both_told : is_dump (left_dump input) ≡ true → is_dump (right_dump input) ≡ true → differences_told input ≡ told_lines (dump_differences (left_dump input) (right_dump input))
  unfolding differences_told
  both_told h g = rw (h, g)

  -- the part from the second dump on
  pub right-part : take (length input - dump_length) (drop dump_length input) ≡ right_dump input
  right-part = take_all (length input - dump_length) (drop dump_length input) (rw length-drop (omega arith))
