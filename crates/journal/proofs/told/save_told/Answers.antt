-- By the kind.
-- Assumes nothing.
use mathlib.Core.Path.{◌≡◌, refl, sym, ap, ◌∙◌}
use native.Mathlib.Omega.{arith}
use Prim.Native.Nat.{ℕ, ◌+◌, ◌-◌, ◌*◌, ◌≤◌}
use mathlib.Core.List.{List}
use lib.ListN.{length}
use lib.Seq.{sets}
use Rattle.machine.specs.Machine.{fresh}
use Rattle.memory.specs.Writes.{listed}
use Rattle.calls.specs.Decisions.{plan_told}
use Rattle.registers.specs.Names.{stack_word}
use Rattle.registers.specs.RegisterSet.{word_of}
use Rattle.stack.specs.Pushing.{bytes_pushed}
use Rattle.calls.proofs.Decided.{plain_byte, plain_word, plain_push, not-rest}
use Rattle.calls.proofs.PlainWrites.{below, room_after}
use Rattle.journal.specs.Record.{Saved, entries, entries_at, entry_length}
use Rattle.journal.specs.Recorded.{saved_for}
use Rattle.journal.proofs.ToldEntries.{length-saved, saves-refused, saves-nothing, saves-byte, saves-word, saves-push, count-push, entries-room, room-first, bytes-room, less_one, whole-push}
use Rattle.journal.proofs.told.save_told.Goals as goal

pub overflow_add-at : goal.overflow_add-at
overflow_add-at c = let a = c.args in omega (arith, (plain_byte a.settings a.decision c.in-Byte.is c.requires.0.1).0)

pub overflow_add-at-in-Byte : goal.overflow_add-at-in-Byte
overflow_add-at-in-Byte c = let a = c.args in omega (arith, (plain_byte a.settings a.decision c.in-Byte.is c.requires.0.1).0)

pub save_below-requires : goal.save_below-requires
save_below-requires c =
    let a = c.args in
    let n = ap length (saves-byte fresh a.settings a.mem.now a.decision c.requires.0.1 c.in-Byte.is) ∙ length-saved a.decision.at 1 a.mem.now in
    let room = c.requires.1 fresh in
    ((omega arith, omega arith), (omega arith, (omega (arith, n, room), c.requires.0.0)))

pub overflow_add-at-in-Word : goal.overflow_add-at-in-Word
overflow_add-at-in-Word c = let a = c.args in omega (arith, (plain_word a.settings a.decision c.in-Word.is c.requires.0.1).0)

pub overflow_add-at-in-Word-2 : goal.overflow_add-at-in-Word-2
overflow_add-at-in-Word-2 c = let a = c.args in omega (arith, (plain_word a.settings a.decision c.in-Word.is c.requires.0.1).0)

pub save_below-requires-in-Word : goal.save_below-requires-in-Word
save_below-requires-in-Word c =
    let a = c.args in
    let n = ap length (saves-word fresh a.settings a.mem.now a.decision c.requires.0.1 c.in-Word.is) ∙ length-saved a.decision.at 2 a.mem.now in
    let room = c.requires.1 fresh in
    ((omega arith, omega arith), (omega arith, (omega (arith, n, room), c.requires.0.0)))

pub save_words-p-requires : goal.save_words-p-requires
save_words-p-requires c =
    let a = c.args in
    let k = c.in-Push.is in
    let q = plain_push a.settings a.decision k c.requires.0.1 in
    let e : c.word-pointer.result ≡ word_of a.decision.regs (stack_word a.decision.own) = c.word-pointer.ensures ∙ ap (word_of a.decision.regs) c.word.ensures in
    let n = count-push fresh a.settings a.mem.now a.decision c.requires.0.1 k in
    let r = entries-room _ _ _ _ (c.requires.1 fresh) n in
    rw e ((c.requires.0.0, q.0), (room-first _ _ _ q.2, r.0))

pub save_bytes-requires : goal.save_bytes-requires
save_bytes-requires c =
    let a = c.args in
    let k = c.in-Push.is in
    let q = plain_push a.settings a.decision k c.requires.0.1 in
    let e : c.word-pointer.result ≡ word_of a.decision.regs (stack_word a.decision.own) = c.word-pointer.ensures ∙ ap (word_of a.decision.regs) c.word.ensures in
    let n = count-push fresh a.settings a.mem.now a.decision c.requires.0.1 k in
    let r = entries-room _ _ _ _ (c.requires.1 fresh) n in
    let w = c.save_words-p.ensures.0 in
    let b = below _ _ _ c.word-pointer.result w (omega arith) in
    let l = c.save_words-p.auto.rest in
    ((c.requires.0.0, (rw e q.0, b)), (room_after _ _ _ _ (w ∙ e) q.2, bytes-room _ _ _ _ _ w (rw l r.1)))

pub returns-in-Refused : goal.returns-in-Refused
unfolding entries
returns-in-Refused c = λ m. let a = c.args in rw (saves-refused m a.settings a.mem.now a.decision c.in-Refused.is) refl

pub returns-in-Change : goal.returns-in-Change
unfolding entries
returns-in-Change c = λ m. let a = c.args in rw (saves-nothing m a.settings a.mem.now a.decision c.in-Change.is) refl

pub returns-in-Byte : goal.returns-in-Byte
returns-in-Byte c =
    let a = c.args in
    λ m.
    let z : c.save_below.result ≡ a.decision.at = less_one _ _ _ c.save_below.ensures.0 in
    let o : a.decision.at + 1 - (a.decision.at + 1) ≡ 0 = omega arith in
    c.save_below.ensures.1 ∙ rw (saves-byte m a.settings a.mem.now a.decision c.requires.0.1 c.in-Byte.is, z, o) refl

pub returns-in-Word : goal.returns-in-Word
returns-in-Word c =
    let a = c.args in
    λ m.
    let z : c.save_below-in-Word.result ≡ a.decision.at = less_one _ _ _ c.save_below-in-Word.ensures.0 in
    let o : a.decision.at + 2 - (a.decision.at + 2) ≡ 0 = omega arith in
    c.save_below-in-Word.ensures.1 ∙ rw (saves-word m a.settings a.mem.now a.decision c.requires.0.1 c.in-Word.is, z, o) refl

pub returns-in-Push : goal.returns-in-Push
returns-in-Push c =
    let a = c.args in
    let k = c.in-Push.is in
    let q = plain_push a.settings a.decision k c.requires.0.1 in
    let e : c.word-pointer.result ≡ word_of a.decision.regs (stack_word a.decision.own) = c.word-pointer.ensures ∙ ap (word_of a.decision.regs) c.word.ensures in
    λ m.
    let h : c.word-pointer.result ≤ a.settings.ram_top = rw e q.1 in
    let w = c.save_words-p.ensures.1 a.decision.regs a.decision.own a.settings.ram_top h in
    let b = c.save_bytes.ensures a.decision.regs a.decision.own a.settings.ram_top h in
    b ∙ (sym w ∙ whole-push a.settings.ram_top a.decision.regs a.mem.now c.word-pointer.result (word_of a.decision.regs (stack_word a.decision.own)) a.decision.mask a.decision.own a.rest.now _ e (sym (saves-push m a.settings a.mem.now a.decision c.requires.0.1 k)))

pub returns-in-Rest : goal.returns-in-Rest
returns-in-Rest c = λ m. let a = c.args in absurd (not-rest a.settings a.decision c.in-Rest.is c.requires.0.1)
