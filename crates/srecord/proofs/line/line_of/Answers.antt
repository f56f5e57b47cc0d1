-- `line_of` tests shape, then checksum; the commonest S9 line is computed.
-- Assumes nothing.
use Rattle.std.proofs.Common.{◌≡◌, ℕ, List, sym, ap, ◌∙◌}
use Rattle.std.proofs.lemmas.Slice.Eq.{slice_eq-Decides}
use Rattle.std.proofs.lemmas.Bool.Decides.{Decides-eqb}
use Rattle.srecord.proofs.Lines.{sound}
use Rattle.text.specs.Hex.{digit_value}
use Rattle.srecord.specs.Layout.{is_paired, paired_bytes, total}
use Rattle.srecord.specs.Line.{is_shaped, is_summed, line_of, line_answer}
use Rattle.srecord.proofs.line.line_of.Goals as goal

pub returns-then-eq : goal.returns-then-eq
unfolding line_of is_shaped is_summed is_paired paired_bytes digit_value total
returns-then-eq c =
    let e : c.args.text.now ≡ c.as_slice.result.now = (slice_eq-Decides Decides-eqb _ _ _ c.eq.ensures).0 c.if-eq.true in
    sym (ap (λ (l : List ℕ). line_answer (line_of l)) (e ∙ c.as_slice.ensures))

pub returns-then-not-shaped : goal.returns-then-not-shaped
unfolding line_of
returns-then-not-shaped c = rw (sym c.shaped.ensures ∙ c.if-not-shaped.true)

pub returns-then-not-summed : goal.returns-then-not-summed
unfolding line_of
returns-then-not-summed c = rw (sym c.shaped.ensures ∙ c.if-not-shaped.false, sym c.summed.ensures ∙ c.if-not-summed.true)

pub returns : goal.returns
returns c =
    c.meaning.ensures
    ∙ ap line_answer (sym (sound c.args.text.now (sym c.shaped.ensures ∙ c.if-not-shaped.false) (sym c.summed.ensures ∙ c.if-not-summed.false)))
