-- What is printed of firmware that arrives as S-records. The input is a head of five bytes, ram_top, flags and the count of steps, and then
-- the text of the S-record file.
-- Assumes nothing.
use Rattle.std.specs.Prelude.{ℕ, zero, suc, ◌+◌, ◌*◌, ◌≤◌, ◌<◌, ◌≡◌, Bool, cond, ◌&&◌, List, [], ◌∷◌, ◌++◌, eqb, leb, length, get_or, drop, replicate, Err, Ok, Result}
use Rattle.answers.specs.declared.Refusal.TheVariants.{Malformed}
use Rattle.srecord.specs.File.{loaded_of, memory_loaded}
use Rattle.memory.specs.Fits.{Bytes}
use Rattle.registers.specs.declared.Flags.TheVariants.{Bought, Manual}
use Rattle.machine.specs.Machine.{fresh, settings_of}
use Rattle.machine.specs.declared.Machine.{Machine}
use Rattle.machine.specs.declared.Settings.{Settings}
use Rattle.calls.specs.Steps.{step_of, memory_after_step}
use Rattle.calls.specs.Resets.{reset_of, memory_after_reset}
use Rattle.calls.specs.declared.Report.{Report}
use Rattle.journal.specs.Recorded.{fresh_twin, in_hand}
use Rattle.runfile.specs.Format.{word_in}
use Rattle.runfile.specs.declared.Operation.TheVariants.{Step, Reset}
use Rattle.player.specs.Plays.{call_line, refusal_line, lines, zeros, journal_length}
use Rattle.answers.specs.declared.Refusal.{Refusal}

-- ---- the head

abbrev pub ram_top : List ℕ → ℕ
ram_top input = word_in input 0

-- 0 as bought, 1 by the manual
abbrev pub flag_byte : List ℕ → ℕ
flag_byte input = get_or input 2 0

abbrev pub steps : List ℕ → ℕ
steps input = word_in input 3

abbrev pub text : List ℕ → List ℕ
text input = drop 5 input

-- a whole head, and at most 1 MiB of text
abbrev pub is_whole : List ℕ → Bool
is_whole input = leb 5 (length input) && leb (length input) (5 + 0x100000)

-- ---- the run

-- the line of a call that is not recorded
abbrev pub report_line : Report → List ℕ
report_line r = call_line r.answer r.machine

-- n steps, a line for each
unfoldable pub step_lines : Settings → ℕ → List ℕ → Machine → List ℕ
step_lines t zero mem m = []
step_lines t (suc n) mem m = report_line (step_of mem m t) ++ step_lines t n (memory_after_step mem m t) (step_of mem m t).machine

-- a reset of a fresh machine, and then n steps
unfoldable pub run_lines : Settings → ℕ → List ℕ → List ℕ
run_lines t n mem = report_line (reset_of mem fresh t) ++ step_lines t n (memory_after_reset mem fresh t) (reset_of mem fresh t).machine

-- by the answer to the file: a refused file prints the number of its refusal, a sound one is run in the memory that it left
abbrev pub loaded_lines : Result ℕ Refusal → Settings → ℕ → List ℕ → List ℕ
loaded_lines (Err x) t n mem = refusal_line x
loaded_lines (Ok a) t n mem = run_lines t n mem

-- the file's data are laid in zeroed memory
unfoldable pub boot_lines : Settings → ℕ → List ℕ → List ℕ
boot_lines t n file = loaded_lines (loaded_of (zeros 65536) file) t n (memory_loaded (zeros 65536) file)

-- a malformed head prints its number, 16
unfoldable pub boot_printed : List ℕ → List ℕ
boot_printed input =
    cond (is_whole input)
    (cond (eqb (flag_byte input) 0) (boot_lines (settings_of (ram_top input) Bought) (steps input) (text input))
    (cond (eqb (flag_byte input) 1) (boot_lines (settings_of (ram_top input) Manual) (steps input) (text input))
    (refusal_line Malformed)))
    (refusal_line Malformed)

-- ---- the laws

-- while the journal has room, whatever the calls store, the same calls recorded print the same: a reset and up to 931 steps
abbrev pub AsRecorded : Type 0
AsRecorded =
    (t : Settings) (n : ℕ) (mem : List ℕ) → length mem ≡ 65536 → n < 932
    → run_lines t n mem ≡ lines t (Reset ∷ replicate n Step) (in_hand mem (zeros journal_length) fresh_twin)

-- at most 65,536 lines of at most 33 bytes
abbrev pub BootFits : Type 0
BootFits = (input : List ℕ) → Bytes input → length (boot_printed input) ≤ 33 * 65536
