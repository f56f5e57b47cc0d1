-- Six numbers, one operation each; no operation from 6 on, or past the end.
-- Assumes nothing.
use Prim.Native.Nat.{◌+◌}
use mathlib.Core.Path.{◌≡◌, sym}
use borrow.Author.Rules.{rules}
use native.Mathlib.Omega.{arith}
use borrow.Author.Tests.{lt-leb, ltb-true, ltb-false}
use lib.ListN.{length, get_or}
use Rattle.runfile.specs.Format.{operation_at}
use Rattle.runfile.proofs.Reading.{one_byte}
use Rattle.runfile.proofs.operation_at.Goals as goal

pub returns-in_err-get : goal.returns-in_err-get
unfolding operation_at
returns-in_err-get c =
    let h = ltb-false _ _ (sym c.in_err-get.ensures.lookup.0) in
    rw (c.from_residual.ensures, lt-leb (c.args.at + 1) (length c.args.file.now) (omega arith))

pub returns-in-0 : goal.returns-in-0
unfolding operation_at
returns-in-0 c =
    let h = ltb-true _ _ (sym c.in_ok-get.ensures.lookup.0) in
    let b : get_or c.args.file.now c.args.at 0 ≡ 0 = search rules in
    rw (one_byte h, b)

pub returns-in-1 : goal.returns-in-1
unfolding operation_at
returns-in-1 c =
    let h = ltb-true _ _ (sym c.in_ok-get.ensures.lookup.0) in
    let b : get_or c.args.file.now c.args.at 0 ≡ 1 = search rules in
    rw (one_byte h, b)

pub returns-in-2 : goal.returns-in-2
unfolding operation_at
returns-in-2 c =
    let h = ltb-true _ _ (sym c.in_ok-get.ensures.lookup.0) in
    let b : get_or c.args.file.now c.args.at 0 ≡ 2 = search rules in
    rw (one_byte h, b)

pub returns-in-3 : goal.returns-in-3
unfolding operation_at
returns-in-3 c =
    let h = ltb-true _ _ (sym c.in_ok-get.ensures.lookup.0) in
    let b : get_or c.args.file.now c.args.at 0 ≡ 3 = search rules in
    rw (one_byte h, b)

pub returns-in-4 : goal.returns-in-4
unfolding operation_at
returns-in-4 c =
    let h = ltb-true _ _ (sym c.in_ok-get.ensures.lookup.0) in
    let b : get_or c.args.file.now c.args.at 0 ≡ 4 = search rules in
    rw (one_byte h, b)

pub returns-in-5 : goal.returns-in-5
unfolding operation_at
returns-in-5 c =
    let h = ltb-true _ _ (sym c.in_ok-get.ensures.lookup.0) in
    let b : get_or c.args.file.now c.args.at 0 ≡ 5 = search rules in
    rw (one_byte h, b)

pub returns-in_default : goal.returns-in_default
unfolding operation_at
returns-in_default c =
    let a = c.args in
    let h = ltb-true _ _ (sym c.in_ok-get.ensures.lookup.0) in
    let b : get_or a.file.now a.at 0 ≡ c.in_ok-get.field-0.now = search rules in
    rw (one_byte h, lt-leb (get_or a.file.now a.at 0) 5 (omega arith))
