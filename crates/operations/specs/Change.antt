-- The operations that change registers alone, a clause for each: flags s, memory, the registers r with PC at the next instruction, the
-- effective address ea.
-- Assumes nothing.
use Rattle.std.specs.Prelude.{ℕ, List, Ok, Result}
use Rattle.registers.specs.declared.Flags.{Flags}
use Rattle.registers.specs.declared.Set.{Set}
use Rattle.memory.specs.Map.{byte_at}
use Rattle.opcodes.specs.declared.RegisterOp.{RegisterOp}
use Rattle.opcodes.specs.declared.RegisterOp.TheVariants.{Alu, OnAcc, TestAcc, TestMemory, Addd, Subd, Load16, Cmp16, Lea, Branch, Jmp, Nop, Daa, Sex, Mul, Abx, Andcc, Orcc, Exg, Tfr}
use Rattle.operations.specs.Branches.{branched, jumped}
use Rattle.operations.specs.EightBit.{accumulator, on_operand, on_accumulator, tested}
use Rattle.operations.specs.Codes.{and_codes, or_codes}
use Rattle.operations.specs.Inherent.{daa_of, sex_of, mul_of, abx_of}
use Rattle.operations.specs.Transfers.{transfer, exchange}
use Rattle.operations.specs.Words.{load16, compare16, add_d, subtract_d, load_address}
use Rattle.answers.specs.declared.Refusal.{Refusal}

abbrev pub changed_of : RegisterOp → Flags → List ℕ → Set → ℕ → Result Set Refusal
changed_of (Alu op acc) s mem r ea = Ok (on_operand op acc s r (byte_at mem ea))
changed_of (OnAcc op acc) s mem r ea = Ok (on_accumulator op acc s r)
changed_of (TestAcc acc) s mem r ea = Ok (tested r (accumulator acc r))
changed_of TestMemory s mem r ea = Ok (tested r (byte_at mem ea))
changed_of Addd s mem r ea = Ok (add_d mem r ea)
changed_of Subd s mem r ea = Ok (subtract_d mem r ea)
changed_of (Load16 word) s mem r ea = Ok (load16 mem r word ea)
changed_of (Cmp16 word) s mem r ea = Ok (compare16 mem r word ea)
changed_of (Lea index) s mem r ea = Ok (load_address index r ea)
changed_of (Branch c) s mem r ea = Ok (branched c r ea)
changed_of Jmp s mem r ea = Ok (jumped r ea)
changed_of Nop s mem r ea = Ok r
changed_of Daa s mem r ea = Ok (daa_of r)
changed_of Sex s mem r ea = Ok (sex_of r)
changed_of Mul s mem r ea = Ok (mul_of r)
changed_of Abx s mem r ea = Ok (abx_of r)
changed_of Andcc s mem r ea = Ok (and_codes r (byte_at mem ea))
changed_of Orcc s mem r ea = Ok (or_codes r (byte_at mem ea))
changed_of Exg s mem r ea = exchange r (byte_at mem ea)
changed_of Tfr s mem r ea = transfer r (byte_at mem ea)
