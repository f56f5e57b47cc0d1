-- The registers are stored, and the pointer is lowered.
-- Assumes nothing.
use Rattle.std.proofs.Common.{◌≡◌, ℕ, ◌-◌, false, length, sym, ap, ◌∙◌, arith, rules}
use Rattle.registers.specs.Names.{stack_word}
use Rattle.registers.specs.RegisterSet.{word_of, with_word}
use Rattle.registers.specs.declared.Set.{Set}
use Rattle.machine.specs.declared.Effect.{Effect}
use Rattle.stack.specs.Pushing.{registers_named, bytes_pushed, pushes}
use Rattle.stack.proofs.Laws.{none_dropped}
use Rattle.calls.specs.Plans.{carried_out, memory_with}
use Rattle.calls.specs.Steps.{finished}
use Rattle.calls.specs.Decisions.{met_no_device}
use Rattle.calls.proofs.PlainWrites.{less}
use Rattle.calls.proofs.Decided.{plain_done, pushed-as, fallen, twelve-at-most}
use Rattle.calls.proofs.steps.carry_push.Goals as goal

pub push-pointer-requires : goal.push-pointer-requires
push-pointer-requires c =
    let a = c.args in
    let d = a.decision in
    let e : c.word-top.result ≡ word_of d.regs (stack_word d.own) = c.word-top.ensures ∙ ap (word_of d.regs) c.word-word.ensures in
    rw e ((search rules, c.requires.1.0), c.requires.1.1)

pub overflow_sub-writes : goal.overflow_sub-writes
overflow_sub-writes c = let h = c.push-pointer.ensures.0 in omega arith

pub overflow_cast-writes : goal.overflow_cast-writes
overflow_cast-writes c = let h = c.push-pointer.ensures.0 in omega (arith, twelve-at-most c.args.decision.mask)

pub returns : goal.returns
returns c = λ s h.
    let a = c.args in
    let d = a.decision in
    let top = word_of d.regs (stack_word d.own) in
    let room = c.requires.1.1 in
    let after = with_word d.regs (stack_word d.own) (top - bytes_pushed d.mask) in
    let listed = pushes d.regs false top (registers_named d.own d.mask) in
    let e : c.word-top.result ≡ top = c.word-top.ensures ∙ ap (word_of d.regs) c.word-word.ensures in
    let q : c.with_word.result ≡ after =
    c.with_word.ensures ∙ rw (c.word-word.ensures, less c.push-pointer.result (bytes_pushed d.mask) top (c.push-pointer.ensures.0 ∙ e)) in
    let n : c.word-top.result - c.push-pointer.result ≡ length listed =
    fallen c.push-pointer.result (bytes_pushed d.mask) c.word-top.result c.push-pointer.ensures.0 ∙ sym (none_dropped.bytes d.regs d.own d.mask top false) in
    let k = rw e at c.push-pointer.ensures.1 in
    let done = plain_done s a.machine d.cycles d.arms d.reads after listed _ _ (k s.ram_top h).0 (k s.ram_top h).1 in
    let f = pushed-as d.regs d.own d.mask room in (
      c.did.ensures ∙ (ap (λ (r : Set). met_no_device a.machine d.cycles d.arms d.reads (c.word-top.result - c.push-pointer.result) r) q
          ∙ (ap (λ (w : ℕ). met_no_device a.machine d.cycles d.arms d.reads w after) n
          ∙ (done.report ∙ sym (ap (λ (x : Effect). carried_out s (finished a.machine d.cycles d.arms d.reads x)) f)))),
      done.memory ∙ sym (ap (λ (x : Effect). memory_with s (finished a.machine d.cycles d.arms d.reads x) a.mem.now) f),
    )
