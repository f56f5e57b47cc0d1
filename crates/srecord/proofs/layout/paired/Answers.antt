-- `paired`: the characters before the rest are pairs of digits, so that the answer is that of the rest.
-- Assumes nothing.
use Rattle.std.proofs.Common.{◌≡◌, ◌&&◌, get_or, sym, ◌∙◌, arith, eq-eqb, ne_eqb}
use Rattle.srecord.proofs.Scan.{paired-not, paired-on, paired-last, paired_none, rest_is}
use Rattle.text.specs.Hex.{is_digit}
use Rattle.srecord.proofs.layout.paired.Goals as goal
use Rattle.srecord.proofs.layout.paired.Goals.{then-is_digit, else-is_digit}

pub returns-then-not-is_digit : goal.returns-then-not-is_digit
returns-then-not-is_digit c =
    let r = c.loop-rest.rest.now in
    let t : (is_digit (get_or r 0 0) && is_digit (get_or r 1 0)) ≡ c.if-is_digit.value =
    elim c.if-is_digit.branch [
      | then-is_digit w ↦ rw (sym c.is_digit.ensures ∙ w.if-is_digit.true) (sym (w.value-is ∙ w.is_digit-then-is_digit.ensures))
      | else-is_digit w ↦ rw (sym c.is_digit.ensures ∙ w.if-is_digit.false) (sym (w.value-is ∙ w.if-is_digit.false))
    ] in
    sym (paired-not r 0 (omega arith) (t ∙ c.if-not-is_digit.true)) ∙ c.loop-rest.invariant

pub loop-rest-preserved : goal.loop-rest-preserved
loop-rest-preserved c =
    let r = c.loop-rest.rest.now in
    let t : (is_digit (get_or r 0 0) && is_digit (get_or r 1 0)) ≡ c.if-is_digit.value =
    elim c.if-is_digit.branch [
      | then-is_digit w ↦ rw (sym c.is_digit.ensures ∙ w.if-is_digit.true) (sym (w.value-is ∙ w.is_digit-then-is_digit.ensures))
      | else-is_digit w ↦ rw (sym c.is_digit.ensures ∙ w.if-is_digit.false) (sym (w.value-is ∙ w.if-is_digit.false))
    ] in
    rw (rest_is r) (sym (paired-on r 0 (omega arith) (t ∙ c.if-not-is_digit.false)) ∙ c.loop-rest.invariant)

pub returns-in-10 : goal.returns-in-10
returns-in-10 c = let r = c.loop-rest.rest.now in sym (paired-last r 0 (omega arith) ∙ eq-eqb (get_or r 0 0) 10 (omega arith)) ∙ c.loop-rest.invariant

pub returns-in_default-matches : goal.returns-in_default-matches
returns-in_default-matches c = sym (paired_none c.loop-rest.rest.now 0 (omega arith)) ∙ c.loop-rest.invariant

pub returns-in_default-matches-2 : goal.returns-in_default-matches-2
returns-in_default-matches-2 c =
    let r = c.loop-rest.rest.now in
    sym (paired-last r 0 (omega arith) ∙ ne_eqb (get_or r 0 0) 10 (λ e. omega arith)) ∙ c.loop-rest.invariant
