-- Every operation is sound: operations/specs/Sound.antt says how.
-- Assumes nothing.
use Rattle.std.specs.Prelude.{ℕ, List}
use Rattle.registers.specs.declared.Set.{Set}
use Rattle.machine.specs.declared.Settings.{Settings}
use Rattle.opcodes.specs.declared.Op.{Op}
use Rattle.operations.specs.Sound.{Sound, Given}
use Rattle.evaluate.specs.Evaluate.{evaluate_of}
use Rattle.evaluate.specs.Waits.{wait_after}

abbrev pub EvaluatedSound : Type 0
EvaluatedSound = (op : Op) (s : Settings) (mem : List ℕ) (r : Set) (ea : ℕ) → Sound (Given mem r ea) r (wait_after op) (evaluate_of op s mem r ea)
