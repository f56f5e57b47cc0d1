-- A dump is written in four parts, judged by its length, wait state and mark, and reads back.
-- Assumes nothing.
use Rattle.std.specs.Prelude.{Result, Err, Ok}
use Prim.Native.Nat.{ℕ, suc, ◌+◌, ◌-◌, ◌*◌, ◌/◌, ◌%◌, ◌^◌, ◌≤◌, ◌<◌}
use mathlib.Core.Bool.{Bool, true, false, ◌&&◌}
use mathlib.Core.List.{List, ◌++◌, append-nil}
use mathlib.Core.Path.{◌≡◌, refl, sym, ◌∙◌}
use native.Mathlib.Omega.{arith}
use lib.Dec.{ltb}
use lib.ListN.{length, get_or, take, drop, length-append, length-drop, drop_of_length-le}
use lib.Seq.{sets, sets-eq, take_all, drop_at}
use borrow.Author.Tests.{eq-eqb, ne_eqb, lt-ltb, le-ltb, eqb-true}
use Rattle.answers.specs.declared.Refusal.{Refusal}
use Rattle.answers.specs.declared.Refusal.TheVariants.{MemoryLength, Malformed, OutputShort}
use Rattle.text.proofs.Stores.{sets-append}
use Rattle.memory.specs.Fits.{Bytes}
use Rattle.machine.specs.Machine.{MachineFits}
use Rattle.machine.specs.Record.{wait_byte, mark_byte, bytes, number_at, header, front, counter, header_length, machine_of}
use Rattle.machine.specs.declared.Machine.{Machine}
use Rattle.machine.specs.declared.Wait.{Wait}
use Rattle.machine.specs.declared.Wait.TheVariants.{Running, Cwai, Sync}
use Rattle.machine.proofs.Header.{single, header-in-parts, length_front, length-counter, length-header, header-back}
use Rattle.dump.specs.Dumps.{dump_of, dump_length, is_dump, memory_in, dumped, output_dumped, undumped, memory_undumped, DumpBack}

-- ---- written

module _ (m : Machine) (mem out : List ℕ) where
  in_four : sets out 0 (dump_of m mem) ≡ sets (sets (sets (sets out 0 (front m)) 16 (counter m.cycles)) 24 (counter m.instructions)) 32 mem
  unfolding dump_of
  in_four =
      let f = front m in
      let c = counter m.cycles in
      let i = counter m.instructions in
      let p : length (f ++ c) ≡ 24 = length-append f c ∙ rw (length_front m, length-counter m.cycles) in
      rw (← header-in-parts m, sets-append out ((f ++ c) ++ i) mem 0, sets-append out (f ++ c) i 0, sets-append out f c 0, length-append (f ++ c) i, p, length_front m, length-counter m.instructions)

  pub dump-parts : (a b c d : List ℕ) → a ≡ sets out 0 (front m) → b ≡ sets a 16 (counter m.cycles) → c ≡ sets b 24 (counter m.instructions) → d ≡ sets c 32 mem
      → d ≡ sets out 0 (dump_of m mem)
  dump-parts a b c d p q r s = s ∙ rw (r, q, p) (sym in_four)

  abbrev Ended : Result ℕ Refusal → List ℕ → Type 0
  Ended r new = (r ≡ dumped mem out) × (new ≡ output_dumped m mem out)

  pub write-length : (length mem ≡ 65536 → ⊥) → Ended (Err MemoryLength) out
  unfolding dumped output_dumped
  write-length h = rw (ne_eqb (length mem) 65536 h) (refl, refl)

  pub write-short : length mem ≡ 65536 → length out < dump_length → Ended (Err OutputShort) out
  unfolding dumped output_dumped
  write-short h g = rw (eq-eqb (length mem) 65536 h, lt-ltb (length out) dump_length g) (refl, refl)

  pub write_done : length mem ≡ 65536 → dump_length ≤ length out → (new : List ℕ) → new ≡ sets out 0 (dump_of m mem) → Ended (Ok dump_length) new
  unfolding dumped output_dumped
  write_done h g new e = rw (eq-eqb (length mem) 65536 h, le-ltb (length out) dump_length g) (refl, e)

-- ---- judged

pub not-whole : (d : List ℕ) → (length d ≡ dump_length → ⊥) → false ≡ is_dump d
unfolding is_dump
not-whole d h = rw (ne_eqb (length d) dump_length h)

pub judged : (d : List ℕ) → length d ≡ dump_length → (ltb (get_or d 14 0) 3 && ltb (get_or d 15 0) 2) ≡ is_dump d
unfolding is_dump
judged d h = rw (eq-eqb (length d) dump_length h, single d 14, single d 15)

and_left : (a b : Bool) → (a && b) ≡ true → a ≡ true
and_left true b e = refl
and_left false b e = e

pub dump-length : (d : List ℕ) → is_dump d ≡ true → length d ≡ dump_length
unfolding is_dump
dump-length d h = eqb-true (length d) dump_length (and_left _ _ h)

-- ---- read

module _ (d mem : List ℕ) where
  abbrev Read : Result Machine Refusal → List ℕ → Type 0
  Read r new = (r ≡ undumped d mem) × (new ≡ memory_undumped d mem)

  pub read_length : (length mem ≡ 65536 → ⊥) → Read (Err MemoryLength) mem
  unfolding undumped memory_undumped
  read_length h = rw (ne_eqb (length mem) 65536 h) (refl, refl)

  pub read-malformed : length mem ≡ 65536 → is_dump d ≡ false → Read (Err Malformed) mem
  unfolding undumped memory_undumped
  read-malformed h g = rw (eq-eqb (length mem) 65536 h, g) (refl, refl)

  -- the part of a dump from its memory on, which takes the place of all bytes
  over : length d ≡ dump_length → length mem ≡ 65536 → sets mem 0 (take (length d - 32) (drop 32 d)) ≡ memory_in d
  over h g =
      let w : take (length d - 32) (drop 32 d) ≡ drop 32 d = take_all (length d - 32) (drop 32 d) (rw length-drop (omega arith)) in
      let n : length (drop 32 d) ≡ 65536 = length-drop 32 d ∙ omega arith in
      rw (w, sets-eq (drop 32 d) mem 0 (omega arith), drop_of_length-le mem {i = 0 + length (drop 32 d)} (omega arith), append-nil)

  pub read_done : length mem ≡ 65536 → is_dump d ≡ true → (m : Machine) (new : List ℕ) → m ≡ machine_of d → new ≡ sets mem 0 (take (length d - 32) (drop 32 d))
      → Read (Ok m) new
  unfolding undumped memory_undumped
  read_done h g m new p q = rw (eq-eqb (length mem) 65536 h, g, p) (refl, q ∙ over (dump-length d g) h)

-- ---- what is written reads back

-- the wait state and the mark of a header are in range
states : (w : Wait) (b : Bool) → (ltb (wait_byte w / 1 % 256 * 1 + 0) 3 && ltb (mark_byte b / 1 % 256 * 1 + 0) 2) ≡ true
states Running true = refl
states Running false = refl
states Cwai true = refl
states Cwai false = refl
states Sync true = refl
states Sync false = refl

memory-back : (m : Machine) (mem : List ℕ) → memory_in (header m ++ mem) ≡ mem
memory-back m mem = drop_at (header m) mem header_length (length-header m)

pub dump-back : DumpBack
unfolding dump_of is_dump header bytes number_at
dump-back m mem f h =
    let b = header-back m mem f in
    let n : length (header m ++ mem) ≡ dump_length = length-append (header m) mem ∙ rw (length-header m, h) in
    record {
      sound = rw (eq-eqb (length (header m ++ mem)) dump_length n) (states m.wait m.armed);
      machine-is = b;
      memory-is = memory-back m mem;
    }

-- ---- a machine that is read from bytes fits its widths

module _ (r : List ℕ) (h : Bytes r) where
  one_below : (at : ℕ) → number_at r at 1 < 256
  unfolding number_at
  one_below at = omega (arith, h at)

  two-below : (at : ℕ) → number_at r at 2 < 65536
  unfolding number_at
  two-below at = omega (arith, h at, h (suc at))

  eight-below : (at : ℕ) → number_at r at 8 < 2 ^ 64
  unfolding number_at
  eight-below at = omega (arith, h at, h (suc at), h (suc (suc at)), h (suc (suc (suc at))), h (suc (suc (suc (suc at)))), h (suc (suc (suc (suc (suc at))))), h (suc (suc (suc (suc (suc (suc at)))))), h (suc (suc (suc (suc (suc (suc (suc at))))))))

  pub machine-fits : MachineFits (machine_of r)
  unfolding machine_of
  machine-fits =
      record {
        registers =
            record {
              x = two-below 2;
              y = two-below 4;
              u = two-below 6;
              s = two-below 8;
              pc = two-below 10;
              a = one_below 0;
              b = one_below 1;
              dp = one_below 12;
              cc = one_below 13;
            };
        cycles = eight-below 16;
        instructions = eight-below 24;
      }
