-- The table of worked examples: for each family of the manual's map, mode by mode, what an instruction reads and writes, counted by hand. Then the
-- interrupts in each wait state, and reset.
-- Assumes nothing.
use Rattle.std.specs.Prelude.{ℕ, ◌+◌, ◌-◌, Bool, true, false, List, [], ◌∷◌, ◌++◌, map, ◌≡◌, length, replicate}
use Prim.Native.String.{String}
use Rattle.registers.specs.ConditionCodes.{coded}
use Rattle.registers.specs.declared.Flags.TheVariants.{Manual}
use Rattle.machine.specs.Machine.{settings_of}
use Rattle.machine.specs.declared.Machine.{Machine}
use Rattle.machine.specs.declared.Settings.{Settings}
use Rattle.machine.specs.declared.Wait.{Wait}
use Rattle.machine.specs.declared.Wait.TheVariants.{Running, Cwai, Sync}
use Rattle.calls.specs.Steps.{decoded_to}
use Rattle.calls.specs.Calls.{Call, step, interrupt, reset}
use Rattle.calls.specs.declared.InterruptType.TheVariants.{Irq, Firq, Nmi}
use Rattle.traffic.specs.Counts.{counts_at, counts_of}

-- program bytes, the pointer's, then the operand's, the pulled or the vector's with the byte that it leads to; and bytes written
pub data Worked : Type 0 where
  -- an instruction, its bytes and those after it
  executed : String → List ℕ → ℕ → ℕ → ℕ → ℕ → Worked
  -- another call, in a wait state, armed or not, with a CC
  offered : String → Call → Wait → Bool → ℕ → ℕ → ℕ → Worked

abbrev settings : Settings
settings = settings_of 0x7FFF Manual

abbrev pub worked : List Worked
worked =
    -- inherent
    executed "NOP" (0x12 ∷ []) 1 0 0 0
    ∷ executed "DECA" (0x4A ∷ []) 1 0 0 0
    ∷ executed "MUL" (0x3D ∷ []) 1 0 0 0
    ∷ executed "SYNC" (0x13 ∷ []) 1 0 0 0
    ∷ executed "RTS" (0x39 ∷ []) 1 0 2 0
    ∷ executed "RTI, E clear" (0x3B ∷ []) 1 0 3 0
    ∷ executed "RTI, E set" (0x3B ∷ replicate 15 0 ++ (0x80 ∷ [])) 1 0 12 0
    ∷ executed "SWI" (0x3F ∷ []) 1 0 3 12
    ∷ executed "SWI2" (0x10 ∷ 0x3F ∷ []) 2 0 3 12
    ∷ executed "SWI3" (0x11 ∷ 0x3F ∷ []) 2 0 3 12
    -- immediate: the operand is a part of the program
    ∷ executed "LDA #12" (0x86 ∷ 0x12 ∷ []) 2 0 0 0
    ∷ executed "BITB #12" (0xC5 ∷ 0x12 ∷ []) 2 0 0 0
    ∷ executed "ANDCC #FF" (0x1C ∷ 0xFF ∷ []) 2 0 0 0
    ∷ executed "CWAI #FF" (0x3C ∷ 0xFF ∷ []) 2 0 0 12
    ∷ executed "LDX #1234" (0x8E ∷ 0x12 ∷ 0x34 ∷ []) 3 0 0 0
    ∷ executed "ADDD #1234" (0xC3 ∷ 0x12 ∷ 0x34 ∷ []) 3 0 0 0
    ∷ executed "LDS #1234" (0x10 ∷ 0xCE ∷ 0x12 ∷ 0x34 ∷ []) 4 0 0 0
    ∷ executed "CMPU #1234" (0x11 ∷ 0x83 ∷ 0x12 ∷ 0x34 ∷ []) 4 0 0 0
    -- direct
    ∷ executed "JMP <20" (0x0E ∷ 0x20 ∷ []) 2 0 0 0
    ∷ executed "STA <20" (0x97 ∷ 0x20 ∷ []) 2 0 0 1
    ∷ executed "STX <20" (0x9F ∷ 0x20 ∷ []) 2 0 0 2
    ∷ executed "JSR <20" (0x9D ∷ 0x20 ∷ []) 2 0 0 2
    ∷ executed "LDA <20" (0x96 ∷ 0x20 ∷ []) 2 0 1 0
    ∷ executed "TST <20" (0x0D ∷ 0x20 ∷ []) 2 0 1 0
    ∷ executed "CLR <20" (0x0F ∷ 0x20 ∷ []) 2 0 1 1
    ∷ executed "INC <20" (0x0C ∷ 0x20 ∷ []) 2 0 1 1
    ∷ executed "LDX <20" (0x9E ∷ 0x20 ∷ []) 2 0 2 0
    ∷ executed "STY <20" (0x10 ∷ 0x9F ∷ 0x20 ∷ []) 3 0 0 2
    ∷ executed "CMPD <20" (0x10 ∷ 0x93 ∷ 0x20 ∷ []) 3 0 2 0
    -- indexed
    ∷ executed "JMP ,X" (0x6E ∷ 0x84 ∷ []) 2 0 0 0
    ∷ executed "LEAX 5,X" (0x30 ∷ 0x05 ∷ []) 2 0 0 0
    ∷ executed "LEAS [0020,X]" (0x32 ∷ 0x99 ∷ 0x00 ∷ 0x20 ∷ []) 4 2 0 0
    ∷ executed "JMP [0020]" (0x6E ∷ 0x9F ∷ 0x00 ∷ 0x20 ∷ []) 4 2 0 0
    ∷ executed "STA ,X+" (0xA7 ∷ 0x80 ∷ []) 2 0 0 1
    ∷ executed "STX [,Y++]" (0xAF ∷ 0xB1 ∷ []) 2 2 0 2
    ∷ executed "JSR 20,X" (0xAD ∷ 0x88 ∷ 0x20 ∷ []) 3 0 0 2
    ∷ executed "LDA ,X" (0xA6 ∷ 0x84 ∷ []) 2 0 1 0
    ∷ executed "LDA [20,X]" (0xA6 ∷ 0x98 ∷ 0x20 ∷ []) 3 2 1 0
    ∷ executed "LDA [0020]" (0xA6 ∷ 0x9F ∷ 0x00 ∷ 0x20 ∷ []) 4 2 1 0
    ∷ executed "LDA 20,PCR" (0xA6 ∷ 0x8C ∷ 0x20 ∷ []) 3 0 1 0
    ∷ executed "SUBB [0020,PCR]" (0xE0 ∷ 0x9D ∷ 0x00 ∷ 0x20 ∷ []) 4 2 1 0
    ∷ executed "TST D,X" (0x6D ∷ 0x8B ∷ []) 2 0 1 0
    ∷ executed "CLR ,-X" (0x6F ∷ 0x82 ∷ []) 2 0 1 1
    ∷ executed "ROL [,X]" (0x69 ∷ 0x94 ∷ []) 2 2 1 1
    ∷ executed "LDX B,X" (0xAE ∷ 0x85 ∷ []) 2 0 2 0
    ∷ executed "ADDD [A,X]" (0xE3 ∷ 0x96 ∷ []) 2 2 2 0
    ∷ executed "STY 0020,X" (0x10 ∷ 0xAF ∷ 0x89 ∷ 0x00 ∷ 0x20 ∷ []) 5 0 0 2
    ∷ executed "STS [0020,X]" (0x10 ∷ 0xEF ∷ 0x99 ∷ 0x00 ∷ 0x20 ∷ []) 5 2 0 2
    ∷ executed "CMPD [0020,X]" (0x10 ∷ 0xA3 ∷ 0x99 ∷ 0x00 ∷ 0x20 ∷ []) 5 2 2 0
    -- extended
    ∷ executed "JMP 0020" (0x7E ∷ 0x00 ∷ 0x20 ∷ []) 3 0 0 0
    ∷ executed "STB 0020" (0xF7 ∷ 0x00 ∷ 0x20 ∷ []) 3 0 0 1
    ∷ executed "STD 0020" (0xFD ∷ 0x00 ∷ 0x20 ∷ []) 3 0 0 2
    ∷ executed "JSR 0020" (0xBD ∷ 0x00 ∷ 0x20 ∷ []) 3 0 0 2
    ∷ executed "CMPA 0020" (0xB1 ∷ 0x00 ∷ 0x20 ∷ []) 3 0 1 0
    ∷ executed "CLR 0020" (0x7F ∷ 0x00 ∷ 0x20 ∷ []) 3 0 1 1
    ∷ executed "LDU 0020" (0xFE ∷ 0x00 ∷ 0x20 ∷ []) 3 0 2 0
    ∷ executed "STS 0020" (0x10 ∷ 0xFF ∷ 0x00 ∷ 0x20 ∷ []) 4 0 0 2
    ∷ executed "CMPY 0020" (0x10 ∷ 0xBC ∷ 0x00 ∷ 0x20 ∷ []) 4 0 2 0
    -- a word at FFFF; writes above ram_top, which are ignored, and to devices
    ∷ executed "LDX FFFF" (0xBE ∷ 0xFF ∷ 0xFF ∷ []) 3 0 2 0
    ∷ executed "STA 9000" (0xB7 ∷ 0x90 ∷ 0x00 ∷ []) 3 0 0 1
    ∷ executed "STA FF00" (0xB7 ∷ 0xFF ∷ 0x00 ∷ []) 3 0 0 1
    ∷ executed "STX FEFF" (0xBF ∷ 0xFE ∷ 0xFF ∷ []) 3 0 0 2
    -- branches, taken or not
    ∷ executed "BRA" (0x20 ∷ 0x10 ∷ []) 2 0 0 0
    ∷ executed "BEQ, not taken" (0x27 ∷ 0x10 ∷ []) 2 0 0 0
    ∷ executed "BSR" (0x8D ∷ 0x10 ∷ []) 2 0 0 2
    ∷ executed "LBRA" (0x16 ∷ 0x00 ∷ 0x10 ∷ []) 3 0 0 0
    ∷ executed "LBSR" (0x17 ∷ 0x00 ∷ 0x10 ∷ []) 3 0 0 2
    ∷ executed "LBNE, taken" (0x10 ∷ 0x26 ∷ 0x00 ∷ 0x10 ∷ []) 4 0 0 0
    ∷ executed "LBEQ, not taken" (0x10 ∷ 0x27 ∷ 0x00 ∷ 0x10 ∷ []) 4 0 0 0
    -- post-bytes
    ∷ executed "TFR X,Y" (0x1F ∷ 0x12 ∷ []) 2 0 0 0
    ∷ executed "EXG A,B" (0x1E ∷ 0x89 ∷ []) 2 0 0 0
    ∷ executed "PSHS nothing" (0x34 ∷ 0x00 ∷ []) 2 0 0 0
    ∷ executed "PSHS A,X" (0x34 ∷ 0x12 ∷ []) 2 0 0 3
    ∷ executed "PSHS all" (0x34 ∷ 0xFF ∷ []) 2 0 0 12
    ∷ executed "PSHU all" (0x36 ∷ 0xFF ∷ []) 2 0 0 12
    ∷ executed "PULS nothing" (0x35 ∷ 0x00 ∷ []) 2 0 0 0
    ∷ executed "PULU A,X" (0x37 ∷ 0x12 ∷ []) 2 0 3 0
    ∷ executed "PULS all" (0x35 ∷ 0xFF ∷ []) 2 0 12 0
    ∷ executed "PULU all" (0x37 ∷ 0xFF ∷ []) 2 0 12 0
    -- refused: by 3, 5, 24, 7
    ∷ executed "no opcode" (0x01 ∷ []) 0 0 0 0
    ∷ executed "LDA, post-byte 87" (0xA6 ∷ 0x87 ∷ []) 0 0 0 0
    ∷ executed "LDA, post-byte 8F" (0xA6 ∷ 0x8F ∷ []) 0 0 0 0
    ∷ executed "TFR D,A" (0x1F ∷ 0x08 ∷ []) 0 0 0 0
    -- other calls
    ∷ offered "step in SYNC, refused" (step settings) Sync true 0x50 0 0
    ∷ offered "IRQ" (interrupt settings Irq) Running true 0x40 3 12
    ∷ offered "IRQ in SYNC" (interrupt settings Irq) Sync true 0x40 3 12
    ∷ offered "IRQ in CWAI" (interrupt settings Irq) Cwai true 0x40 3 0
    ∷ offered "IRQ masked" (interrupt settings Irq) Running true 0x10 0 0
    ∷ offered "IRQ masked in SYNC" (interrupt settings Irq) Sync true 0x10 0 0
    ∷ offered "IRQ masked in CWAI" (interrupt settings Irq) Cwai true 0x10 0 0
    ∷ offered "FIRQ" (interrupt settings Firq) Running true 0x10 3 3
    ∷ offered "FIRQ in CWAI" (interrupt settings Firq) Cwai true 0x10 3 0
    ∷ offered "FIRQ masked" (interrupt settings Firq) Running true 0x40 0 0
    ∷ offered "NMI" (interrupt settings Nmi) Running true 0x50 3 12
    ∷ offered "NMI in CWAI" (interrupt settings Nmi) Cwai true 0x50 3 0
    ∷ offered "NMI unarmed" (interrupt settings Nmi) Running false 0x50 0 0
    ∷ offered "NMI unarmed in SYNC" (interrupt settings Nmi) Sync false 0x50 0 0
    ∷ offered "NMI unarmed in CWAI" (interrupt settings Nmi) Cwai false 0x50 0 0
    ∷ offered "reset" (reset settings) Running true 0x50 2 0
    ∷ offered "reset in CWAI" (reset settings) Cwai true 0x50 2 0
    ∷ []

-- X, Y, U and S are 0010, so that up to 16 bytes can be pushed. PC is 0000, and so is every vector: it leads to the byte at 0000
abbrev machine_in : Wait → Bool → ℕ → Machine
machine_in w armed cc =
    record { cycles = 0; instructions = 0; regs = record { x = 0x10; y = 0x10; u = 0x10; s = 0x10; pc = 0; a = 0; b = 0; dp = 0; cc = coded cc }; wait = w; armed = armed }

-- some bytes from 0000 on, and then zeros
abbrev memory_from : List ℕ → List ℕ
memory_from bytes = bytes ++ replicate (65536 - length bytes) 0

-- what the definition counts. Of an instruction by what is reached in a memory of its bytes alone, where a byte past them reads as 0: a step
-- is that, once it has judged 1 and 2 (StepCounts, in Laws.antt)
abbrev pub by_definition : Worked → ℕ × ℕ
by_definition (executed text bytes p q d w) = counts_at bytes (machine_in Running true 0x50) settings (decoded_to bytes (machine_in Running true 0x50).regs)
by_definition (offered text call wait armed codes d w) = counts_of call (memory_from (0x12 ∷ [])) (machine_in wait armed codes)

-- what was counted by hand
abbrev pub by_hand : Worked → ℕ × ℕ
by_hand (executed text bytes p q d w) = (p + q + d, w)
by_hand (offered text call wait armed codes d w) = (d, w)

abbrev pub EachWorked : Type 0
EachWorked = map by_definition worked ≡ map by_hand worked

-- the ceilings are reached: by PULS and PSHS of everything, SWI2 and IRQ
pub record CeilingsReached : Type 0 where
  pub reads : counts_of (step settings) (memory_from (0x35 ∷ 0xFF ∷ [])) (machine_in Running true 0x50) ≡ (14, 0)
  pub writes : counts_of (step settings) (memory_from (0x34 ∷ 0xFF ∷ [])) (machine_in Running true 0x50) ≡ (2, 12)
  pub together : counts_of (step settings) (memory_from (0x10 ∷ 0x3F ∷ [])) (machine_in Running true 0x50) ≡ (5, 12)
  pub interrupt : counts_of (interrupt settings Irq) (memory_from (0x12 ∷ [])) (machine_in Running true 0x40) ≡ (3, 12)
