-- The fields of each page give the manual's rows (`by-fields`).
-- Assumes nothing.
use Rattle.std.proofs.Common.{◌∙◌, inl, inr, rules}
use Rattle.opcodes.specs.declared.Page.TheVariants.{Plain, Ten, Eleven}
use Rattle.fields.proofs.Places.{by-fields}
use Rattle.fields.proofs.place.Goals as goal

pub returns-in-Plain : goal.returns-in-Plain
returns-in-Plain c = rw c.in-Plain.is (c.plain.ensures ∙ by-fields Plain c.args.code (search rules))

pub returns-in-Ten : goal.returns-in-Ten
returns-in-Ten c =
    elim c.in-Ten.is [
      | inl e ↦ rw e (rw e at c.prefixed.ensures ∙ by-fields Ten c.args.code (search rules))
      | inr e ↦ rw e (rw e at c.prefixed.ensures ∙ by-fields Eleven c.args.code (search rules))
    ]
