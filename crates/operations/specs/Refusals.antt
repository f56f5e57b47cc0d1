-- What an operation on registers refuses: 7 where the post-byte of TFR or EXG names no two registers of one size, and nothing else.
-- Assumes nothing.
use Rattle.std.specs.Prelude.{◌≡◌, ℕ, Bool, true, false, cond, not, ◌&&◌, List, Err, Ok, Result}
use Rattle.answers.specs.Numbers.{number_of}
use Rattle.registers.specs.declared.Flags.{Flags}
use Rattle.registers.specs.declared.Set.{Set}
use Rattle.memory.specs.Map.{byte_at}
use Rattle.opcodes.specs.declared.Op.{Op}
use Rattle.opcodes.specs.declared.Op.TheVariants.{Registers, Memory}
use Rattle.opcodes.specs.declared.RegisterOp.{RegisterOp}
use Rattle.opcodes.specs.declared.RegisterOp.TheVariants.{Alu, OnAcc, TestAcc, TestMemory, Addd, Subd, Load16, Cmp16, Lea, Branch, Jmp, Nop, Daa, Sex, Mul, Abx, Andcc, Orcc, Exg, Tfr}
use Rattle.operations.specs.Change.{changed_of}
use Rattle.operations.specs.Transfers.{transferable}
use Rattle.answers.specs.declared.Refusal.{Refusal}

abbrev pub number_of_changed : Result Set Refusal → ℕ
number_of_changed (Ok r) = 0
number_of_changed (Err x) = number_of x

abbrev pub names_two : RegisterOp → Bool
names_two (Alu op acc) = false
names_two (OnAcc op acc) = false
names_two (TestAcc acc) = false
names_two TestMemory = false
names_two Addd = false
names_two Subd = false
names_two (Load16 word) = false
names_two (Cmp16 word) = false
names_two (Lea index) = false
names_two (Branch c) = false
names_two Jmp = false
names_two Nop = false
names_two Daa = false
names_two Sex = false
names_two Mul = false
names_two Abx = false
names_two Andcc = false
names_two Orcc = false
names_two Exg = true
names_two Tfr = true

-- 7: the post-byte of TFR or EXG, which stands at ea, names no two registers of one size
abbrev pub code_refused : Op → List ℕ → ℕ → Bool
code_refused (Registers op) mem ea = names_two op && not (transferable (byte_at mem ea))
code_refused (Memory op) mem ea = false

-- the law: the byte at the effective address is the post-byte of TFR and EXG
abbrev pub ChangeRefusesExactly : Type 0
ChangeRefusesExactly =
    (op : RegisterOp) (s : Flags) (mem : List ℕ) (r : Set) (ea : ℕ)
    → number_of_changed (changed_of op s mem r ea) ≡ cond (names_two op && not (transferable (byte_at mem ea))) 7 0
