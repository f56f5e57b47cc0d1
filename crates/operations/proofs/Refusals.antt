-- An operation on registers is refused with 7 exactly where it is said, and else done.
-- Assumes nothing.
use Rattle.std.proofs.Common.{◌≡◌, Bool, true, false, cond, not, refl, Err, Ok}
use Rattle.answers.specs.declared.Refusal.TheVariants.{TransferCode}
use Rattle.registers.specs.declared.Set.{Set}
use Rattle.memory.specs.Map.{byte_at}
use Rattle.opcodes.specs.declared.RegisterOp.TheVariants.{Alu, OnAcc, TestAcc, TestMemory, Addd, Subd, Load16, Cmp16, Lea, Branch, Jmp, Nop, Daa, Sex, Mul, Abx, Andcc, Orcc, Exg, Tfr}
use Rattle.operations.specs.Refusals.{number_of_changed, ChangeRefusesExactly}
use Rattle.operations.specs.Transfers.{transferable, transfer, exchange}

of_test : (b : Bool) (q : Set) → number_of_changed (cond b (Ok q) (Err TransferCode)) ≡ cond (not b) 7 0
of_test true q = refl
of_test false q = refl

pub change-refuses-exactly : ChangeRefusesExactly
unfolding transfer exchange
change-refuses-exactly (Alu op acc) s mem r ea = refl
change-refuses-exactly (OnAcc op acc) s mem r ea = refl
change-refuses-exactly (TestAcc acc) s mem r ea = refl
change-refuses-exactly TestMemory s mem r ea = refl
change-refuses-exactly Addd s mem r ea = refl
change-refuses-exactly Subd s mem r ea = refl
change-refuses-exactly (Load16 name) s mem r ea = refl
change-refuses-exactly (Cmp16 name) s mem r ea = refl
change-refuses-exactly (Lea index) s mem r ea = refl
change-refuses-exactly (Branch c) s mem r ea = refl
change-refuses-exactly Jmp s mem r ea = refl
change-refuses-exactly Nop s mem r ea = refl
change-refuses-exactly Daa s mem r ea = refl
change-refuses-exactly Sex s mem r ea = refl
change-refuses-exactly Mul s mem r ea = refl
change-refuses-exactly Abx s mem r ea = refl
change-refuses-exactly Andcc s mem r ea = refl
change-refuses-exactly Orcc s mem r ea = refl
change-refuses-exactly Exg s mem r ea = of_test (transferable (byte_at mem ea)) _
change-refuses-exactly Tfr s mem r ea = of_test (transferable (byte_at mem ea)) _
