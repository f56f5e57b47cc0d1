-- Calls that are not recorded, one after the other; a file that is loaded; and the head before it.
-- Assumes nothing.
use Rattle.std.specs.Prelude.{Err, Ok, Result}
use Prim.Native.Nat.{ℕ, suc, ◌+◌, ◌-◌, ◌*◌, ◌≤◌, ◌<◌}
use mathlib.Core.Path.{◌≡◌, refl, sym, ◌∙◌}
use mathlib.Core.List.{List}
use native.Mathlib.Omega.{arith}
use borrow.Author.Tests.{le-leb, lt-leb, ne_eqb}
use lib.ListN.{length, take, drop, length-append, length-drop}
use lib.Seq.{sets, take_all}
use Rattle.registers.specs.declared.Flags.TheVariants.{Bought, Manual}
use Rattle.srecord.specs.File.{loaded_of, memory_loaded}
use Rattle.answers.specs.declared.Refusal.{Refusal}
use Rattle.answers.specs.declared.Refusal.TheVariants.{Malformed}
use Rattle.text.proofs.Stores.{sets-append}
use Rattle.machine.specs.Machine.{fresh, settings_of}
use Rattle.calls.specs.Steps.{step_of, memory_after_step}
use Rattle.machine.specs.declared.Machine.{Machine}
use Rattle.machine.specs.declared.Settings.{Settings}
use Rattle.calls.specs.declared.Report.{Report}
use Rattle.calls.specs.Resets.{reset_of, memory_after_reset}
use Rattle.player.specs.Plays.{refusal_line, zeros}
use Rattle.player.specs.Boots.{ram_top, flag_byte, steps, text, report_line, step_lines, run_lines, boot_lines, boot_printed}
use Rattle.player.proofs.Playing.{line-bound}

-- ---- the steps

-- with n steps to go: their lines, laid after what is printed so far, make the whole text
pub record ToGo (t : Settings) (out₀ : List ℕ) (at : ℕ) (whole : List ℕ) (n used : ℕ) (out mem : List ℕ) (m : Machine) : Type 0 where
  pub count : used + length (step_lines t n mem m) ≡ at + length whole
  pub laid : sets out used (step_lines t n mem m) ≡ sets out₀ at whole
  pub room : used + 33 * n ≤ 33 * 65536

module _ (t : Settings) (out₀ : List ℕ) (at : ℕ) where
  pub at_first : (n : ℕ) (mem : List ℕ) (m : Machine) → at + 33 * n ≤ 33 * 65536 → ToGo t out₀ at (step_lines t n mem m) n at out₀ mem m
  at_first n mem m h = record { count = refl; laid = refl; room = h }

  module _ (whole : List ℕ) where
    one_less : (n used : ℕ) (out mem : List ℕ) (m : Machine) → ToGo t out₀ at whole (suc n) used out mem m
        → {r : Report} → r ≡ step_of mem m t → {new : List ℕ} → new ≡ memory_after_step mem m t
        → {size : ℕ} {text : List ℕ} → size ≡ length (report_line r) → text ≡ sets out used (report_line r)
        → ToGo t out₀ at whole n (used + size) text new r.machine
    unfolding step_lines
    one_less n used out mem m h {r} er {new} en {size} {text} ee et =
        let x = report_line (step_of mem m t) in
        let y = step_lines t n (memory_after_step mem m t) (step_of mem m t).machine in
        let b = line-bound r.answer r.machine in
        record {
          count = rw (ee, en, er) (omega (arith, h.count, length-append x y));
          laid = rw (et, ee, en, er) (sym (sets-append out x y used) ∙ h.laid);
          room = omega (arith, h.room);
        }

    pub turn : (n used : ℕ) (out mem : List ℕ) (m : Machine) → ToGo t out₀ at whole n used out mem m → 0 < n
        → {r : Report} → r ≡ step_of mem m t → {new : List ℕ} → new ≡ memory_after_step mem m t
        → {size : ℕ} {text : List ℕ} → size ≡ length (report_line r) → text ≡ sets out used (report_line r)
        → ToGo t out₀ at whole (n - 1) (used + size) text new r.machine
    turn n used out mem m h p er en ee et = let e : n ≡ suc (n - 1) = omega arith in one_less (n - 1) used out mem m (rw e at h) er en ee et

    pub finished : (n used : ℕ) (out mem : List ℕ) (m : Machine) → ToGo t out₀ at whole n used out mem m → n ≤ 0
        → (used ≡ at + length whole) × (out ≡ sets out₀ at whole)
    unfolding step_lines
    finished n used out mem m h p = let e : n ≡ 0 = omega arith in none (rw e at h)
      where
        none : ToGo t out₀ at whole 0 used out mem m → (used ≡ at + length whole) × (out ≡ sets out₀ at whole)
        none g = (omega (arith, g.count), g.laid)

-- ---- the reset before them

module _ (t : Settings) (n : ℕ) (mem out₀ : List ℕ) where
  pub reset-first : {m : Machine} → m ≡ fresh → {r : Report} → r ≡ reset_of mem m t → {new : List ℕ} → new ≡ memory_after_reset mem m t
      → {at : ℕ} {out : List ℕ} → at ≡ length (report_line r) → out ≡ sets out₀ 0 (report_line r)
      → {end : ℕ} {done : List ℕ} → end ≡ at + length (step_lines t n new r.machine) → done ≡ sets out at (step_lines t n new r.machine)
      → (end ≡ length (run_lines t n mem)) × (done ≡ sets out₀ 0 (run_lines t n mem))
  unfolding run_lines
  reset-first em er en ea eo ee ed =
      let x = report_line (reset_of mem fresh t) in
      let y = step_lines t n (memory_after_reset mem fresh t) (reset_of mem fresh t).machine in
      let z : 0 + length x ≡ length x = omega arith in
      (rw (ee, ea, en, er, em) (omega (arith, length-append x y)), rw (ed, eo, ea, en, er, em) (sym (rw z at (sets-append out₀ x y 0))))

-- ---- the file

module _ (t : Settings) (n : ℕ) (file : List ℕ) {blank : List ℕ} (eb : blank ≡ zeros 65536) {l : Result ℕ Refusal} (el : l ≡ loaded_of blank file) where
  pub refused-file : {x : Refusal} → l ≡ Err x → boot_lines t n file ≡ refusal_line x
  unfolding boot_lines
  refused-file ea = rw (← eb, ← el, ea)

  pub sound-file : {mem : List ℕ} → mem ≡ memory_loaded blank file → {a : ℕ} → l ≡ Ok a → boot_lines t n file ≡ run_lines t n mem
  unfolding boot_lines
  sound-file em ea = rw (em, ← eb, ← el, ea)

-- ---- the head

module _ (input : List ℕ) where
  pub short-head : length input < 5 → boot_printed input ≡ refusal_line Malformed
  unfolding boot_printed
  short-head h = rw (lt-leb 5 (length input) h)

  module _ (h : 5 ≤ length input) where
    pub too_long : 0x100005 < length input → boot_printed input ≡ refusal_line Malformed
    unfolding boot_printed
    too_long k = rw (le-leb 5 (length input) h, lt-leb (length input) 0x100005 k)

    pub tail : take (length input - 5) (drop 5 input) ≡ text input
    tail = take_all (length input - 5) (drop 5 input) (simp length-drop (omega arith))

    module _ (k : length input ≤ 0x100005) where
      pub other-flags : (flag_byte input ≡ 0 → ⊥) → (flag_byte input ≡ 1 → ⊥) → boot_printed input ≡ refusal_line Malformed
      unfolding boot_printed
      other-flags f g = rw (le-leb 5 (length input) h, le-leb (length input) 0x100005 k, ne_eqb (flag_byte input) 0 f, ne_eqb (flag_byte input) 1 g)

      module _ {t : Settings} {top n : ℕ} {file : List ℕ} (et : top ≡ ram_top input) (en : n ≡ steps input) (ef : file ≡ text input) where
        pub as-bought : t ≡ settings_of top Bought → flag_byte input ≡ 0 → boot_printed input ≡ boot_lines t n file
        unfolding boot_printed
        as-bought es f = rw (es, et, en, ef, le-leb 5 (length input) h, le-leb (length input) 0x100005 k, f)

        pub by-manual : t ≡ settings_of top Manual → flag_byte input ≡ 1 → boot_printed input ≡ boot_lines t n file
        unfolding boot_printed
        by-manual es f = rw (es, et, en, ef, le-leb 5 (length input) h, le-leb (length input) 0x100005 k, f)
