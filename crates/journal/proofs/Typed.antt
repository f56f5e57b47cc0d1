-- What owning a twin and a slice of bytes tells, as `Typed`: the relation that the logic generates of `Twin` holds each number to its width.
-- Assumes nothing.
use Prim.Native.Nat.{ℕ, ◌^◌, ◌<◌}
use mathlib.Core.List.{List, [], ◌∷◌}
use lib.ListN.{get_or}
use mir.Val.{Val}
use denote.Laws.{Is}
use denote.Struct.Laws as LL
use Rattle.registers.specs.Fits.{Fits}
use Rattle.registers.specs.declared.CCBits.{CCBits}
use Rattle.registers.specs.declared.Set.{Set}
use Rattle.registers.specs.contracts.CCBits as C
use Rattle.registers.proofs.CCBits.TheLaws as C'
use Rattle.registers.specs.contracts.Set as R
use Rattle.registers.proofs.Set.TheLaws as R'
use Rattle.machine.specs.Machine.{MachineFits}
use Rattle.machine.specs.declared.Machine.{Machine}
use Rattle.machine.specs.contracts.Machine as M
use Rattle.machine.proofs.Machine.TheLaws as M'
use Rattle.journal.specs.Recorded.{in_hand, Typed}
use Rattle.journal.specs.declared.Twin.{Twin}
use Rattle.journal.specs.contracts.Twin as T
use Rattle.journal.proofs.Twin.TheLaws as T'

set-fits : (r : Set) (w : Val) → Is R.the_row r (w ∷ []) → Fits r
set-fits r w p =
    let o = LL.owed R.the_type R'.the_laws r _ p in
    let c = LL.owed C.the_type C'.the_laws r.cc _ o.1.1.1.1.1.1.1.1.0 in
    record {
      x = o.0.1;
      y = o.1.0.1;
      u = o.1.1.0.1;
      s = o.1.1.1.0.1;
      pc = o.1.1.1.1.0.1;
      a = o.1.1.1.1.1.0.1;
      b = o.1.1.1.1.1.1.0.1;
      dp = o.1.1.1.1.1.1.1.0.1;
      cc = c.0.1;
    }

machine-fits : (m : Machine) (w : Val) → Is M.the_row m (w ∷ []) → MachineFits m
machine-fits m w p =
    let o = LL.owed M.the_type M'.the_laws m _ p in
    record { registers = set-fits m.regs _ o.1.1.0; cycles = o.0.1; instructions = o.1.0.1 }

pub typed : (memory journal : List ℕ) (t : Twin) (w : Val) → Is T.the_row t (w ∷ []) → ((i : ℕ) → get_or memory i 0 < 2 ^ 8) → Typed (in_hand memory journal t)
typed memory journal t w p h = record { machine = machine-fits t.machine _ (LL.owed T.the_type T'.the_laws t _ p).0; memory = h }
