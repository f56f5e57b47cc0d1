-- CWAI alone begins its wait, and SYNC alone its own.
-- Assumes nothing.
use Prim.Native.Nat.{ℕ}
use mathlib.Core.Path.{◌≡◌, refl, sym, ap, ◌∙◌}
use mathlib.Core.Logic.{◌↔◌}
use native.Mathlib.Omega.{arith}
use Rattle.machine.specs.declared.Wait.{Wait}
use Rattle.machine.specs.declared.Wait.TheVariants.{Running, Cwai as InCwai, Sync as InSync}
use Rattle.opcodes.specs.declared.MemoryOp.TheVariants.{OnMemory, Store8, Store16, Bsr, Jsr, Rts, Rti, Swi, Cwai, Sync, Push, Pull}
use Rattle.opcodes.specs.declared.Op.{Op}
use Rattle.opcodes.specs.declared.Op.TheVariants.{Registers, Memory}
use Rattle.evaluate.specs.Waits.{wait_after, CwaiAlone, SyncAlone}

-- an operation begins one of the two waits, or none
data Begins : Op → Type 0 where
  cwai : Begins (Memory Cwai)
  sync : Begins (Memory Sync)
  none : {op : Op} → wait_after op ≡ Running → Begins op

begins : (op : Op) → Begins op
begins (Registers op) = none refl
begins (Memory (OnMemory op)) = none refl
begins (Memory (Store8 acc)) = none refl
begins (Memory (Store16 word)) = none refl
begins (Memory Bsr) = none refl
begins (Memory Jsr) = none refl
begins (Memory Rts) = none refl
begins (Memory Rti) = none refl
begins (Memory (Swi which)) = none refl
begins (Memory Cwai) = cwai
begins (Memory Sync) = sync
begins (Memory (Push own)) = none refl
begins (Memory (Pull own)) = none refl

-- an operation that leaves another wait state is another operation
apart : (op one : Op) (v w : Wait) → wait_after op ≡ v → wait_after one ≡ w → (v ≡ w → ⊥) → (wait_after op ≡ w) ↔ (op ≡ one)
apart op one v w p q n = (λ k. absurd (n (sym p ∙ k)), λ e. absurd (n (sym p ∙ (ap wait_after e ∙ q))))

pub cwai-alone : CwaiAlone
cwai-alone op = go op (begins op)
  where
    go : (op : Op) → Begins op → (wait_after op ≡ InCwai) ↔ (op ≡ Memory Cwai)
    go op cwai = (λ k. refl, λ k. refl)
    go op sync = apart (Memory Sync) (Memory Cwai) InSync InCwai refl refl (λ k. let z : ◌≡◌ {A = ℕ} 0 1 = cc in omega arith)
    go op (none p) = apart op (Memory Cwai) Running InCwai p refl (λ k. let z : ◌≡◌ {A = ℕ} 0 1 = cc in omega arith)

pub sync-alone : SyncAlone
sync-alone op = go op (begins op)
  where
    go : (op : Op) → Begins op → (wait_after op ≡ InSync) ↔ (op ≡ Memory Sync)
    go op cwai = apart (Memory Cwai) (Memory Sync) InCwai InSync refl refl (λ k. let z : ◌≡◌ {A = ℕ} 0 1 = cc in omega arith)
    go op sync = (λ k. refl, λ k. refl)
    go op (none p) = apart op (Memory Sync) Running InSync p refl (λ k. let z : ◌≡◌ {A = ℕ} 0 1 = cc in omega arith)
