-- By the kind.
-- Assumes nothing.
use Rattle.std.proofs.Common.{◌≡◌, length, ap, ◌∙◌, inl, inr}
use Rattle.machine.specs.declared.fence.Range.{Range}
use Rattle.calls.specs.Decisions.{is_below, is_word_below}
use Rattle.calls.proofs.Decided.{is-plain-by, first_of}
use borrow.Author.Rules.{rules}
use Rattle.calls.proofs.decisions.is_plain.Goals as goal

pub returns-in-Refused : goal.returns-in-Refused
returns-in-Refused c = let a = c.args in elim c.in-Refused.is [ inl e ↦ is-plain-by a.settings a.decision e | inr e ↦ is-plain-by a.settings a.decision e ]

pub returns-in-Byte : goal.returns-in-Byte
returns-in-Byte c =
    let a = c.args in
    let full : length a.settings.profile ≡ 8 = search rules in
    c.is_below.ensures ∙ (ap (λ (g : Range). is_below a.settings.ram_top g a.decision.at) (first_of a.settings.profile _ full) ∙ is-plain-by a.settings a.decision c.in-Byte.is)

pub returns-in-Word : goal.returns-in-Word
returns-in-Word c =
    let a = c.args in
    let full : length a.settings.profile ≡ 8 = search rules in
    c.is_word_below.ensures ∙ (ap (λ (g : Range). is_word_below a.settings.ram_top g a.decision.at) (first_of a.settings.profile _ full) ∙ is-plain-by a.settings a.decision c.in-Word.is)

pub returns-in-Push : goal.returns-in-Push
returns-in-Push c =
    let a = c.args in
    let full : length a.settings.profile ≡ 8 = search rules in
    rw (c.is_below-in-Push.ensures, c.has_room.ensures, c.word-top.ensures, c.word.ensures, first_of a.settings.profile _ full)
    (is-plain-by a.settings a.decision c.in-Push.is)

pub returns-in-Rest : goal.returns-in-Rest
returns-in-Rest c = let a = c.args in is-plain-by a.settings a.decision c.in-Rest.is
