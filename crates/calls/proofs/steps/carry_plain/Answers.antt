-- By the kind.
-- Assumes nothing.
use Rattle.std.proofs.Common.{◌%◌, ◌∙◌, inl, inr, arith, rules}
use Rattle.memory.specs.Writes.{stored}
use Rattle.calls.specs.Steps.{finished}
use Rattle.calls.proofs.Decided.{as-told, plain_byte, plain_word, plain_push, not-rest, nothing-done, byte-done, word-done}
use Rattle.calls.proofs.steps.carry_plain.Goals as goal

pub put-requires : goal.put-requires
put-requires c = (search rules, omega arith)

pub put-requires-in-Word : goal.put-requires-in-Word
put-requires-in-Word c =
    let a = c.args in
    let q = plain_word a.settings a.decision c.in-Word.is c.requires.1 in
    let h = q.0 in
    (search rules, omega arith)

pub carry_push-requires : goal.carry_push-requires
carry_push-requires c =
    let a = c.args in
    let q = plain_push a.settings a.decision c.in-Push.is c.requires.1 in
    (search rules, (q.0, q.2))

pub returns-in-Refused : goal.returns-in-Refused
unfolding finished stored
returns-in-Refused c =
    let a = c.args in
    let d = a.decision in
    let e = c.in-Refused.is in
    let t = as-told a.machine a.settings a.mem.now d e in
    (c.refuse.ensures a.settings ∙ t.0, t.1)

pub returns-in-Change : goal.returns-in-Change
returns-in-Change c =
    let a = c.args in
    let d = a.decision in
    elim c.in-Change.is [
      | inl e ↦
          let t = as-told a.machine a.settings a.mem.now d e in
          let k = nothing-done a.settings a.machine d.cycles d.arms d.reads d.regs a.mem.now in
          (c.did.ensures ∙ (k.report ∙ t.0), k.memory ∙ t.1)
      | inr e ↦ absurd (not-rest a.settings d e c.requires.1)
    ]

pub returns-in-Byte : goal.returns-in-Byte
returns-in-Byte c =
    let a = c.args in
    let d = a.decision in
    let e = c.in-Byte.is in
    let t = as-told a.machine a.settings a.mem.now d e in
    let q = plain_byte a.settings d e c.requires.1 in
    let k = byte-done a.settings a.machine d.cycles d.arms d.reads d.regs d.at (d.value % 256) a.mem.now q.0 q.1 in
    (c.did-in-Byte.ensures ∙ (k.report ∙ t.0), c.put.ensures ∙ (k.memory ∙ t.1))

pub returns-in-Word : goal.returns-in-Word
returns-in-Word c =
    let a = c.args in
    let d = a.decision in
    let e = c.in-Word.is in
    let t = as-told a.machine a.settings a.mem.now d e in
    let q = plain_word a.settings d e c.requires.1 in
    let k = word-done a.settings a.machine d.cycles d.arms d.reads d.regs d.at d.value a.mem.now q.0 q.1 in
    (c.did-in-Word.ensures ∙ (k.report ∙ t.0), c.put-in-Word.ensures ∙ (k.memory ∙ t.1))

pub returns-in-Push : goal.returns-in-Push
returns-in-Push c =
    let a = c.args in
    let d = a.decision in
    let e = c.in-Push.is in
    let t = as-told a.machine a.settings a.mem.now d e in
    let q = plain_push a.settings d e c.requires.1 in
    let k = c.carry_push.ensures a.settings q.1 in
    (k.0 ∙ t.0, k.1 ∙ t.1)
