-- Single cases that document 01 decides, each of them one that a likely slip would answer otherwise. For each, an edit of must-fail/ says what
-- the slip would give.
-- Assumes nothing.
use Rattle.std.specs.Prelude.{ℕ, ◌+◌, ◌-◌, ◌*◌, ◌%◌, ◌^◌, ◌≤◌, ◌<◌, ◌≡◌, true, false, List, [], ◌∷◌, ◌≢◌, eqb, length, Err, None, Ok, Some}
use Rattle.answers.specs.Numbers.{number_of, number_of_answer}
use Rattle.answers.specs.declared.Refusal.{Refusal}
use Rattle.text.specs.Lines.{alone}
use Rattle.srecord.specs.Layout.{kind1}
use Rattle.srecord.specs.Line.{may_hold}
use Rattle.srecord.specs.File.{loaded_of, memory_loaded}
use Rattle.memory.specs.Fits.{Bytes}
use Rattle.memory.specs.Writes.{writes_of, word_writes}
use Rattle.registers.specs.Arithmetic.{MUL}
use Rattle.registers.specs.ConditionCodes.{coded, bit_at, flag, put}
use Rattle.registers.specs.Settings.{after}
use Rattle.registers.specs.declared.CCBit.TheVariants.{N, Z, C}
use Rattle.registers.specs.declared.CCBits.{CCBits}
use Rattle.registers.specs.declared.Flags.{Flags}
use Rattle.registers.specs.declared.Index.TheVariants.{X as LEAX, S as LEAS}
use Rattle.registers.specs.declared.Set.{Set}
use Rattle.registers.specs.declared.Stack.TheVariants.{S}
use Rattle.machine.specs.Machine.{fresh, with_registers}
use Rattle.machine.specs.declared.Machine.{Machine}
use Rattle.machine.specs.declared.Settings.{Settings}
use Rattle.machine.specs.declared.Wait.TheVariants.{Running, Cwai, Sync}
use Rattle.opcodes.specs.declared.Op.TheVariants.{Registers}
use Rattle.opcodes.specs.declared.RegisterOp.TheVariants.{Lea}
use Rattle.decode.specs.Decode.{located}
use Rattle.decode.specs.Laws.{Unnamed}
use Rattle.stack.specs.Pushing.{pushed}
use Rattle.evaluate.specs.Evaluate.{evaluate_of}
use Rattle.calls.specs.Interrupts.{is_held_off, interrupt_of}
use Rattle.calls.specs.Resets.{reset_of}
use Rattle.calls.specs.Steps.{step_of}
use Rattle.calls.specs.declared.InterruptType.{InterruptType}
use Rattle.calls.specs.declared.InterruptType.TheVariants.{Nmi}
use Rattle.refusals.specs.Steps.{Runs}
use Rattle.runfile.specs.Format.{next_of, operation_at}
use Rattle.runfile.specs.declared.Operation.TheVariants.{Step, Undo}
use Rattle.player.specs.Boots.{report_line, boot_lines}
use Rattle.player.specs.Plays.{zeros}

pub record Facts : Type 0 where
  -- "Interrupts, SWI, reset": a reset leaves CC 50
  pub reset-codes : (mem : List ℕ) (m : Machine) (s : Settings) → length mem ≡ 65536 → (reset_of mem m s).machine.regs.cc ≡ coded 0x50
  -- NMI is never masked: once S is loaded it is served with every bit of CC set, so that 8 is met where S is below 12
  pub nmi : (mem : List ℕ) (m : Machine) (s : Settings) → length mem ≡ 65536 → m.armed ≡ true → m.wait ≢ Cwai → m.regs.cc ≡ coded 0xFF → m.regs.s < 12
      → number_of_answer (interrupt_of mem m s Nmi).answer ≡ 8
  -- document 02, [5]: before S is loaded an NMI is answered 0, wherever S points and the vector leads; it ends SYNC, and changes nothing else
  pub unarmed-in-sync : (mem : List ℕ) (m : Machine) (s : Settings) → length mem ≡ 65536 → m.armed ≡ false → m.wait ≡ Sync
      → (number_of_answer (interrupt_of mem m s Nmi).answer ≡ 0) × ((interrupt_of mem m s Nmi).machine ≡ with_registers m m.regs Running)
  -- a masked interrupt ends SYNC, and changes nothing else
  pub masked-in-sync : (mem : List ℕ) (m : Machine) (s : Settings) (i : InterruptType) → length mem ≡ 65536 → is_held_off i m ≡ true → m.wait ≡ Sync
      → (interrupt_of mem m s i).machine ≡ with_registers m m.regs Running
  -- "Numbers returned", 2: a step in SYNC
  pub step-in-sync : (mem : List ℕ) (m : Machine) (s : Settings) → length mem ≡ 65536 → m.wait ≡ Sync
      → number_of_answer (step_of mem m s).answer ≡ 2
  -- an accepted step counts one instruction, also after the first
  pub counts : (mem : List ℕ) (m : Machine) (s : Settings) → 0 < m.instructions → (step_of mem m s).answer ≡ (Ok tt)
      → (step_of mem m s).machine.instructions ≡ (m.instructions + 1) % 2 ^ 64
  -- 3: an opcode that no row of the manual has
  pub no_row : (mem : List ℕ) (m : Machine) (s : Settings) → Bytes mem → m.regs.pc < 65536 → Runs mem m → Unnamed (located mem m.regs.pc)
      → number_of_answer (step_of mem m s).answer ≡ 3
  -- the manual's page of MUL: C is bit 7 of the product, N is not affected
  pub mul : (s : Flags) (cc : CCBits) (a b : ℕ) → (after C s MUL cc a b ≡ bit_at 7 (a * b)) × (after N s MUL cc a b ≡ flag N cc)
  -- that of LEA: LEAX sets Z by the address, LEAS affects no flag
  pub leax : (s : Settings) (mem : List ℕ) (r : Set) (ea : ℕ) → (evaluate_of (Registers (Lea LEAX)) s mem r ea).regs.cc ≡ put Z (eqb ea 0) r.cc
  pub leas : (s : Settings) (mem : List ℕ) (r : Set) (ea : ℕ) → (evaluate_of (Registers (Lea LEAS)) s mem r ea).regs.cc ≡ r.cc
  -- that of PSHS: bit 6 of the post-byte names U
  pub pshs : (r : Set) → 2 ≤ r.s → (pushed r S 0x40 false).writes ≡ writes_of (word_writes (r.s - 2) r.u false)
  -- "S-records": an S1 line has at most 252 data bytes
  pub data-bytes : (may_hold kind1 252 ≡ true) × (may_hold kind1 253 ≡ false)
  -- "The run program": the operations are 0 to 5, a step the first and undo the last
  pub first-operation : next_of (operation_at (0 ∷ []) 0) ≡ Some Step
  pub last-operation : next_of (operation_at (5 ∷ []) 0) ≡ Some Undo
  pub past-the-last : next_of (operation_at (6 ∷ []) 0) ≡ None
  -- firmware as S-records: a refused file prints the number of its refusal; with no step asked for, a sound one prints the reset's line alone
  pub refused-file : (t : Settings) (n : ℕ) (file : List ℕ) (x : Refusal) → loaded_of (zeros 65536) file ≡ Err x
      → boot_lines t n file ≡ alone (number_of x)
  pub no_step : (t : Settings) (file : List ℕ) (at : ℕ) → loaded_of (zeros 65536) file ≡ Ok at
      → boot_lines t 0 file ≡ report_line (reset_of (memory_loaded (zeros 65536) file) fresh t)
