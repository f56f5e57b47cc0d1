-- No text is longer than the buffer of its program, and how long a buffer is.
-- Assumes nothing.
use Rattle.std.specs.Prelude.{Err, Ok, Result}
use Prim.Native.Nat.{ℕ, zero, suc, ◌*◌, ◌≤◌, ◌<◌}
use mathlib.Core.Path.{◌≡◌, refl, sym}
use mathlib.Core.Bool.{Bool, true, false, cond}
use mathlib.Core.List.{List}
use native.Mathlib.Omega.{arith}
use lib.Dec.{eqb}
use lib.ListN.{length, replicate, length-append, length-replicate}
use Rattle.registers.specs.declared.Flags.TheVariants.{Bought, Manual}
use Rattle.answers.specs.Numbers.{number_of}
use Rattle.answers.specs.declared.Refusal.TheVariants.{Malformed}
use Rattle.text.proofs.Texts.{alone-fits}
use Rattle.machine.specs.Machine.{fresh, settings_of}
use Rattle.srecord.specs.File.{loaded_of, memory_loaded}
use Rattle.calls.specs.Steps.{step_of, memory_after_step}
use Rattle.machine.specs.declared.Machine.{Machine}
use Rattle.machine.specs.declared.Settings.{Settings}
use Rattle.calls.specs.Resets.{reset_of, memory_after_reset}
use Rattle.journal.specs.Recorded.{fresh_twin, in_hand}
use Rattle.runfile.specs.Format.{Parsed, says, malformed, parsed, placed}
use Rattle.runfile.proofs.Operations.{they-fit, not-longer}
use Rattle.player.specs.Plays.{zeros, journal_length, run_settings, played, printed, PlayFits}
use Rattle.player.specs.Boots.{ram_top, flag_byte, steps, text, is_whole, step_lines, run_lines, loaded_lines, boot_lines, boot_printed, BootFits}
use Rattle.player.proofs.Playing.{line-bound, lines-bound}
use Rattle.answers.specs.declared.Refusal.{Refusal}

pub play-fits : PlayFits
unfolding printed
play-fits file = go (parsed file) refl
  where
    go : (p : Parsed) → parsed file ≡ p → length (played p (in_hand (placed p (zeros 65536)) (zeros journal_length) fresh_twin)) ≤ 33 * 32768
    go (says f) e =
        let s = in_hand (placed (says f) (zeros 65536)) (zeros journal_length) fresh_twin in
        omega (arith, lines-bound (run_settings f.settings) f.operations s, they-fit file f e, not-longer file f e)
    go malformed e = omega (arith, alone-fits (number_of Malformed))

module _ (t : Settings) where
  steps-bound : (n : ℕ) (mem : List ℕ) (m : Machine) → length (step_lines t n mem m) ≤ 33 * n
  unfolding step_lines
  steps-bound zero mem m = omega arith
  steps-bound (suc n) mem m =
      let r = step_of mem m t in
      simp length-append (omega (arith, line-bound r.answer r.machine, steps-bound n (memory_after_step mem m t) r.machine))

  file-fits : (n : ℕ) → n < 65536 → (file : List ℕ) → length (boot_lines t n file) ≤ 33 * 65536
  unfolding boot_lines run_lines
  file-fits n h file = go (loaded_of (zeros 65536) file) (memory_loaded (zeros 65536) file)
    where
      go : (a : Result ℕ Refusal) (mem : List ℕ) → length (loaded_lines a t n mem) ≤ 33 * 65536
      go (Ok u) mem =
          let r = reset_of mem fresh t in
          simp length-append (omega (arith, line-bound r.answer r.machine, steps-bound n (memory_after_reset mem fresh t) r.machine))
      go (Err x) mem = omega (arith, alone-fits (number_of x))

either : (b : Bool) (k : ℕ) (x y : List ℕ) → length x ≤ k → length y ≤ k → length (cond b x y) ≤ k
either true k x y p q = p
either false k x y p q = q

pub boot-fits : BootFits
unfolding boot_printed
boot-fits input b =
    let h : steps input < 65536 = omega (arith, b 3, b 4) in
    let p = file-fits (settings_of (ram_top input) Bought) (steps input) h (text input) in
    let q = file-fits (settings_of (ram_top input) Manual) (steps input) h (text input) in
    let r = alone-fits (number_of Malformed) in
    either (is_whole input) _ _ _ (either (eqb (flag_byte input) 0) _ _ _ p (either (eqb (flag_byte input) 1) _ _ _ q (omega arith))) (omega arith)

-- the length of an array that is too long to be counted
pub counted : (n : ℕ) → n ≡ length {A = ℕ} (replicate n 0)
counted n = sym (length-replicate n 0)
