-- Four turns, one for each word.
-- Assumes nothing.
use mathlib.Core.Path.{◌≡◌, refl, sym, ap, ◌∙◌}
use native.Mathlib.Omega.{arith}
use Prim.Native.Nat.{◌+◌, ◌*◌, ◌/◌, ◌%◌}
use lib.ListN.{drop}
use Rattle.registers.specs.Names.{stack_word, word_name, other_stack}
use Rattle.registers.specs.declared.Name.TheVariants.{PC, Y, X}
use Rattle.stack.specs.Pushing.{order}
use Rattle.calls.proofs.PlainWrites.{below, other-size}
use Rattle.journal.proofs.ToldEntries.{turn, down, twice, double}
use Rattle.journal.proofs.told.save_words.Goals as goal

pub returns : goal.returns
returns c =
    let a = c.args in
    let pre = c.requires in
    let e1 : c.save_below-pc.result + 2 * (a.mask / 128 % 2) ≡ a.pointer = rw c.from.ensures at c.save_below-pc.ensures.0 in
    let e2 : c.save_below-us.result + 2 * (a.mask / 64 % 2) ≡ c.save_below-pc.result = rw c.from-2.ensures at c.save_below-us.ensures.0 in
    let e3 : c.save_below-y.result + 2 * (a.mask / 32 % 2) ≡ c.save_below-us.result = rw c.from-3.ensures at c.save_below-y.ensures.0 in
    let e4 : c.save_below.result + 2 * (a.mask / 16 % 2) ≡ c.save_below-y.result = rw c.from-4.ensures at c.save_below.ensures.0 in
    let l1 = below _ _ _ a.pointer e1 (omega arith) in
    let l2 = below _ _ _ a.pointer e2 l1 in
    let l3 = below _ _ _ a.pointer e3 l2 in (
      rw (← (twice (a.mask / 128 % 2) (a.mask / 64 % 2) (a.mask / 32 % 2) (a.mask / 16 % 2))) (down _ _ _ _ _ _ _ _ _ e1 e2 e3 e4),
      λ regs own top h.
          turn top a.mem.now regs a.mask a.pointer 7 PC (drop 1 (order own)) a.pointer c.save_below-pc.result (2 * (a.mask / 128 % 2)) _ _ (double _) e1 (omega arith) pre.0.1 h (rw c.from.ensures at c.save_below-pc.ensures.1)
          ∙ (turn top a.mem.now regs a.mask a.pointer 6 (word_name (stack_word (other_stack own))) (drop 2 (order own)) c.save_below-pc.result c.save_below-us.result (2 * (a.mask / 64 % 2)) _ _ (rw (other-size own) (double _)) e2 l1 pre.0.1 h (rw c.from-2.ensures at c.save_below-us.ensures.1)
          ∙ (turn top a.mem.now regs a.mask a.pointer 5 Y (drop 3 (order own)) c.save_below-us.result c.save_below-y.result (2 * (a.mask / 32 % 2)) _ _ (double _) e3 l2 pre.0.1 h (rw c.from-3.ensures at c.save_below-y.ensures.1)
          ∙ turn top a.mem.now regs a.mask a.pointer 4 X (drop 4 (order own)) c.save_below-y.result c.save_below.result (2 * (a.mask / 16 % 2)) _ _ (double _) e4 l3 pre.0.1 h (rw c.from-4.ensures at c.save_below.ensures.1))),
    )
