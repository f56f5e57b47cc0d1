-- Four turns, one for each byte.
-- Assumes nothing.
use mathlib.Core.Path.{◌≡◌, refl, sym, ap, ◌∙◌}
use native.Mathlib.Omega.{arith}
use Prim.Native.Nat.{◌+◌, ◌*◌, ◌/◌, ◌%◌}
use lib.ListN.{drop}
use Rattle.registers.specs.declared.Name.TheVariants.{DP, B, A, CC}
use Rattle.stack.specs.Pushing.{order}
use Rattle.calls.proofs.PlainWrites.{below, lowest}
use Rattle.journal.proofs.ToldEntries.{turn, single, all_saved, last-room, bit-fits}
use Rattle.journal.proofs.told.save_bytes.Goals as goal

pub save_below-requires : goal.save_below-requires
save_below-requires c =
    let a = c.args in
    let pre = c.requires in
    let e1 : c.save_below-dp.result + a.mask / 8 % 2 ≡ a.p = rw c.from.ensures at c.save_below-dp.ensures.0 in
    let e2 : c.save_below-b.result + a.mask / 4 % 2 ≡ c.save_below-dp.result = rw c.from-2.ensures at c.save_below-b.ensures.0 in
    let e3 : c.save_below-a.result + a.mask / 2 % 2 ≡ c.save_below-b.result = rw c.from-3.ensures at c.save_below-a.ensures.0 in
    let k = last-room a.pointer a.p (a.mask / 8 % 2) (a.mask / 4 % 2) (a.mask / 2 % 2) (a.mask % 2) _ _ _ _ e1 e2 e3 pre.0.1.1 pre.1.0 pre.1.1 in
    let l = c.save_below-a.auto.rest ∙ (c.save_below-b.auto.rest ∙ c.save_below-dp.auto.rest) in
    rw c.from-4.ensures ((bit-fits a.mask, k.0), (k.1, (rw l k.2, pre.0.0)))

pub returns : goal.returns
returns c =
    let a = c.args in
    let pre = c.requires in
    let e1 : c.save_below-dp.result + (a.mask / 8 % 2) ≡ a.p = rw c.from.ensures at c.save_below-dp.ensures.0 in
    let e2 : c.save_below-b.result + (a.mask / 4 % 2) ≡ c.save_below-dp.result = rw c.from-2.ensures at c.save_below-b.ensures.0 in
    let e3 : c.save_below-a.result + (a.mask / 2 % 2) ≡ c.save_below-b.result = rw c.from-3.ensures at c.save_below-a.ensures.0 in
    let e4 : c.save_below.result + (a.mask % 2) ≡ c.save_below-a.result = rw c.from-4.ensures at c.save_below.ensures.0 in
    let l1 = below _ _ _ a.pointer e1 pre.0.1.1 in
    let l2 = below _ _ _ a.pointer e2 l1 in
    let l3 = below _ _ _ a.pointer e3 l2 in
    λ regs own top h.
    sym
    (turn top a.mem.now regs a.mask a.pointer 3 DP (drop 5 (order own)) a.p c.save_below-dp.result (a.mask / 8 % 2) _ _ (single _) e1 pre.0.1.1 pre.0.1.0 h (rw c.from.ensures at c.save_below-dp.ensures.1)
    ∙ (turn top a.mem.now regs a.mask a.pointer 2 B (drop 6 (order own)) c.save_below-dp.result c.save_below-b.result (a.mask / 4 % 2) _ _ (single _) e2 l1 pre.0.1.0 h (rw c.from-2.ensures at c.save_below-b.ensures.1)
    ∙ (turn top a.mem.now regs a.mask a.pointer 1 A (drop 7 (order own)) c.save_below-b.result c.save_below-a.result (a.mask / 2 % 2) _ _ (single _) e3 l2 pre.0.1.0 h (rw c.from-3.ensures at c.save_below-a.ensures.1)
    ∙ (turn top a.mem.now regs a.mask a.pointer 0 CC (drop 8 (order own)) c.save_below-a.result c.save_below.result (a.mask % 2) _ _ (lowest a.mask ∙ single _) e4 l3 pre.0.1.0 h (rw c.from-4.ensures at c.save_below.ensures.1)
    ∙ all_saved top a.mem.now regs a.mask a.pointer _ _))))
