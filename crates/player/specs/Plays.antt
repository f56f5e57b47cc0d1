-- What the run program prints of a run file (document 01, section "The run program").
-- Assumes nothing.
use Rattle.std.specs.Prelude.{ℕ, ◌*◌, ◌≤◌, List, [], ◌∷◌, ◌++◌, ◌≡◌, length, replicate, Result, ⊤}
use Rattle.answers.specs.Numbers.{number_of, number_of_answer}
use Rattle.answers.specs.declared.Refusal.{Refusal}
use Rattle.answers.specs.declared.Refusal.TheVariants.{Malformed}
use Rattle.text.specs.Lines.{line, alone}
use Rattle.machine.specs.Machine.{settings_of}
use Rattle.machine.specs.declared.Machine.{Machine}
use Rattle.machine.specs.declared.Settings.{Settings}
use Rattle.calls.specs.declared.InterruptType.TheVariants.{Irq as IRQ, Firq as FIRQ, Nmi as NMI}
use Rattle.journal.specs.Recorded.{State, Ended, fresh_twin, in_hand, stepped, interrupted, was_reset}
use Rattle.journal.specs.Undos.{undone}
use Rattle.journal.specs.declared.CallType.TheVariants.{Step as StepCall, Interrupt as InterruptCall, Reset as ResetCall}
use Rattle.journal.specs.declared.Outcome.{Outcome}
use Rattle.runfile.specs.Format.{Parsed, says, malformed, parsed, placed}
use Rattle.runfile.specs.declared.FileSettings.{FileSettings}
use Rattle.runfile.specs.declared.Operation.{Operation}
use Rattle.runfile.specs.declared.Operation.TheVariants.{Step, Irq, Firq, Nmi, Reset, Undo}
use Rattle.player.specs.declared.plays.Shown.{Shown}
use Rattle.player.specs.declared.plays.Wanted.{Wanted}
use Rattle.player.specs.declared.plays.Wanted.TheVariants.{Call as Calling, Undo as Undoing}

-- each operation is a recorded call
abbrev pub acted : Settings → Operation → State → Ended
acted t Step s = stepped t s
acted t Irq s = interrupted t IRQ s
acted t Firq s = interrupted t FIRQ s
acted t Nmi s = interrupted t NMI s
acted t Reset s = was_reset t s
acted t Undo s = undone s

-- the same, as the code makes them: a recorded call of a type, or undo
abbrev pub wanted_by : Operation → Wanted
wanted_by Step = Calling StepCall
wanted_by Irq = Calling (InterruptCall IRQ)
wanted_by Firq = Calling (InterruptCall FIRQ)
wanted_by Nmi = Calling (InterruptCall NMI)
wanted_by Reset = Calling ResetCall
wanted_by Undo = Undoing

-- what is printed of a call, and a call that leaves so
abbrev pub shown_of : Outcome → Shown
shown_of o = record { twin = o.twin; answer = o.answer }

pub record LeavesShown (r : Shown) (memory journal : List ℕ) (e : Ended) : Type 0 where
  pub result : r ≡ record { twin = e.state.twin; answer = e.answer }
  pub memory-is : memory ≡ e.state.memory
  pub journal-is : journal ≡ e.state.journal

-- the line of a call, from its answer and the machine after it
abbrev pub call_line : Result ⊤ Refusal → Machine → List ℕ
call_line a m = line (number_of_answer a) m.regs.pc m.regs.cc.reg m.cycles

-- the one line of a refused input
abbrev pub refusal_line : Refusal → List ℕ
refusal_line x = alone (number_of x)

-- the line of a recorded call
abbrev pub line_for : Ended → List ℕ
line_for e = call_line e.answer e.state.twin.machine

-- a line for each operation, in order
unfoldable pub lines : Settings → List Operation → State → List ℕ
lines t [] s = []
lines t (o ∷ os) s = line_for (acted t o s) ++ lines t os (acted t o s).state

-- a run allows all stores
abbrev pub run_settings : FileSettings → Settings
run_settings g = settings_of g.ram_top g.flags

-- a sound file's operations are played from the state s on; a malformed file prints its number, 16
abbrev pub played : Parsed → State → List ℕ
played (says f) s = lines (run_settings f.settings) f.operations s
played malformed s = refusal_line Malformed

unfoldable pub zeros : ℕ → List ℕ
zeros n = replicate n 0

-- 65,280 bytes, in which document 01's 960 records of 68 bytes had room; 1,920 of 34 bytes, 932 of 70
abbrev pub journal_length : ℕ
journal_length = 65280

-- memory is zeroed before the pieces are laid
unfoldable pub printed : List ℕ → List ℕ
printed file = played (parsed file) (in_hand (placed (parsed file) (zeros 65536)) (zeros journal_length) fresh_twin)

-- the law: a line has at most 33 bytes, and a file no more operations than its 32,768 bytes
abbrev pub PlayFits : Type 0
PlayFits = (file : List ℕ) → length (printed file) ≤ 33 * 32768
