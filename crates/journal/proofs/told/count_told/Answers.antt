-- By the kind.
-- Assumes nothing.
use mathlib.Core.Path.{◌≡◌, refl, sym, ap, ◌∙◌}
use native.Mathlib.Omega.{arith}
use lib.ListN.{length}
use Rattle.calls.proofs.Decided.{not-rest, twelve-at-most}
use Rattle.journal.proofs.ToldEntries.{length-saved, told-refused, told-nothing, told-byte, told-word, told_push, saves-nothing, saves-byte, saves-word, count-push}
use Rattle.journal.proofs.told.count_told.Goals as goal

pub returns-in-Refused : goal.returns-in-Refused
returns-in-Refused c = λ m mem. let a = c.args in told-refused m a.settings mem a.decision c.in-Refused.is

pub returns-in-Change : goal.returns-in-Change
returns-in-Change c = λ m mem. let a = c.args in let k = c.in-Change.is in ((told-nothing m a.settings mem a.decision k).answer, omega arith, sym (ap length (saves-nothing m a.settings mem a.decision k)))

pub returns-in-Byte : goal.returns-in-Byte
returns-in-Byte c = λ m mem. let a = c.args in let k = c.in-Byte.is in ((told-byte m a.settings mem a.decision c.requires k).answer, omega arith, sym (ap length (saves-byte m a.settings mem a.decision c.requires k) ∙ length-saved a.decision.at 1 mem))

pub returns-in-Word : goal.returns-in-Word
returns-in-Word c = λ m mem. let a = c.args in let k = c.in-Word.is in ((told-word m a.settings mem a.decision c.requires k).answer, omega arith, sym (ap length (saves-word m a.settings mem a.decision c.requires k) ∙ length-saved a.decision.at 2 mem))

pub returns-in-Push : goal.returns-in-Push
returns-in-Push c =
    let a = c.args in
    let k = c.in-Push.is in
    λ m mem. ((told_push m a.settings mem a.decision c.requires k).answer, omega (arith, twelve-at-most a.decision.mask, c.bytes_of.ensures), c.bytes_of.ensures ∙ sym (count-push m a.settings mem a.decision c.requires k))

pub returns-in-Rest : goal.returns-in-Rest
returns-in-Rest c = λ m mem. let a = c.args in absurd (not-rest a.settings a.decision c.in-Rest.is c.requires)
