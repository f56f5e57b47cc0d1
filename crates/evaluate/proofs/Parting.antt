-- The two settings part in a whole instruction in V alone, exactly where they part in its operation.
-- Assumes nothing.
use Rattle.std.specs.Prelude.{Result}
use Prim.Native.Nat.{ℕ}
use mathlib.Core.Path.{refl}
use Rattle.registers.specs.declared.Set.{Set}
use Rattle.memory.specs.Map.{byte_at}
use Rattle.machine.specs.declared.Effect.{Effect}
use Rattle.opcodes.specs.declared.MemoryOp.TheVariants.{OnMemory, Store8, Store16, Bsr, Jsr, Rts, Rti, Swi, Cwai, Sync, Push, Pull}
use Rattle.opcodes.specs.declared.Op.TheVariants.{Registers, Memory}
use Rattle.opcodes.specs.declared.RegisterOp.{RegisterOp}
use Rattle.opcodes.specs.declared.Unary.{Unary}
use Rattle.operations.specs.Parting.{PartInV, ChangedPart, both-after, both-refused, EffectsPart, UnaryParts, OpParts}
use Rattle.operations.proofs.Parting.{same-effects, changes-part, on-memory-parts}
use Rattle.vectors.specs.Service.{vectored}
use Rattle.evaluate.specs.Evaluate.{effect_of}
use Rattle.evaluate.specs.Parting.{InstructionParts, on-registers, on-memory, InstructionsPart}
use Rattle.answers.specs.declared.Refusal.{Refusal}

-- the same parting, where the case is named otherwise
pub renamed : {r q : Set} {C D : Type 0} → PartInV r q C → (C → D) → (D → C) → PartInV r q D
renamed p f g = record {
  a = p.a;
  b = p.b;
  dp = p.dp;
  x = p.x;
  y = p.y;
  u = p.u;
  s = p.s;
  pc = p.pc;
  others = p.others;
  exactly = (λ h. f (p.exactly.0 h), λ k. p.exactly.1 (g k));
}

of-change : {C D : Type 0} (r : Set) (c d : Result Set Refusal) → ChangedPart C c d → (C → D) → (D → C) → EffectsPart (effect_of r c) (effect_of r d) D
of-change r c d (both-after p) f g = record { writes = refl; wait = refl; answer = refl; registers = renamed p f g }
of-change r c d (both-refused n) f g = same-effects refl (λ k. n (g k))

of-effect : {C D : Type 0} (e h : Effect) → EffectsPart e h C → (C → D) → (D → C) → EffectsPart e h D
of-effect e h p f g = record { writes = p.writes; wait = p.wait; answer = p.answer; registers = renamed p.registers f g }

module _ (r : Set) (m : ℕ) where
  of-registers : (op : RegisterOp) → InstructionParts r m (Registers op) → OpParts r m op
  of-registers op (on-registers k) = k

  of-memory : (op : Unary) → InstructionParts r m (Memory (OnMemory op)) → UnaryParts r.cc m op
  of-memory op (on-memory k) = k

pub instructions-part : InstructionsPart
unfolding vectored
instructions-part (Registers op) top ranges mem r ea la lb l = of-change r _ _ (changes-part op mem r ea la lb l) on-registers (of-registers r (byte_at mem ea) op)
instructions-part (Memory (OnMemory op)) top ranges mem r ea la lb l = of-effect _ _ (on-memory-parts op mem r ea l) on-memory (of-memory r (byte_at mem ea) op)
instructions-part (Memory (Store8 acc)) top ranges mem r ea la lb l = same-effects refl (elim [ ])
instructions-part (Memory (Store16 word)) top ranges mem r ea la lb l = same-effects refl (elim [ ])
instructions-part (Memory Bsr) top ranges mem r ea la lb l = same-effects refl (elim [ ])
instructions-part (Memory Jsr) top ranges mem r ea la lb l = same-effects refl (elim [ ])
instructions-part (Memory Rts) top ranges mem r ea la lb l = same-effects refl (elim [ ])
instructions-part (Memory Rti) top ranges mem r ea la lb l = same-effects refl (elim [ ])
instructions-part (Memory (Swi which)) top ranges mem r ea la lb l = same-effects refl (elim [ ])
instructions-part (Memory Cwai) top ranges mem r ea la lb l = same-effects refl (elim [ ])
instructions-part (Memory Sync) top ranges mem r ea la lb l = same-effects refl (elim [ ])
instructions-part (Memory (Push own)) top ranges mem r ea la lb l = same-effects refl (elim [ ])
instructions-part (Memory (Pull own)) top ranges mem r ea la lb l = same-effects refl (elim [ ])
