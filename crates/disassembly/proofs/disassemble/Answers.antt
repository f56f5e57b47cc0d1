-- 1, what the instruction is refused by, 25, and the line.
-- Assumes nothing.
use Rattle.std.proofs.Common.{length, sym, ◌∙◌, arith, le-ltb, lt-ltb, eq-eqb, ne_eqb}
use Rattle.std.proofs.lemmas.Result.{err_from_is_err_and}
use Rattle.disassembly.specs.Disassembly.{disassembled_of, line_after}
use Rattle.disassembly.proofs.Laws.{room}
use Rattle.disassembly.proofs.disassemble.Goals as goal

pub returns-then-mem-ne65536 : goal.returns-then-mem-ne65536
unfolding disassembled_of line_after
returns-then-mem-ne65536 c = let e = ne_eqb (length c.args.mem.now) 65536 c.if-mem-ne65536.true in (rw e, rw e)

pub returns-then-line-lt-LINE : goal.returns-then-line-lt-LINE
unfolding disassembled_of line_after
returns-then-line-lt-LINE c =
    let a = c.args in
    let e = eq-eqb (length a.mem.now) 65536 c.if-mem-ne65536.false in
    let g = sym c.read.ensures ∙ c.in_ok-i.was in
    let s = lt-ltb (length a.line.now) 48 c.if-line-lt-LINE.true in
    (rw (e, g, s), rw (e, g, s))

pub write_line-requires : goal.write_line-requires
write_line-requires c =
    let a = c.args in
    let b = room a.mem.now a.at c.in_ok-i.i (λ k. omega (arith, c.type_inv.mem k)) (omega arith) (sym c.read.ensures ∙ c.in_ok-i.was) in
    (omega (arith, c.if-line-lt-LINE.false), (omega (arith, b.after), (b.few, b.word)))

pub overflow_cast-result : goal.overflow_cast-result
overflow_cast-result c =
    let a = c.args in
    let b = room a.mem.now a.at c.in_ok-i.i (λ k. omega (arith, c.type_inv.mem k)) (omega arith) (sym c.read.ensures ∙ c.in_ok-i.was) in
    omega (arith, b.word)

pub overflow_sub-result : goal.overflow_sub-result
overflow_sub-result c =
    let a = c.args in
    let b = room a.mem.now a.at c.in_ok-i.i (λ k. omega (arith, c.type_inv.mem k)) (omega arith) (sym c.read.ensures ∙ c.in_ok-i.was) in
    omega (arith, b.after)

pub returns-in_err-i : goal.returns-in_err-i
unfolding disassembled_of line_after
returns-in_err-i c =
    let a = c.args in
    let e = eq-eqb (length a.mem.now) 65536 c.if-mem-ne65536.false in
    let g = sym c.read.ensures ∙ c.in_err-i.was in
    let p = err_from_is_err_and c.from_residual.result c.from_residual.ensures.1 in
    (rw (p.1, p.2, e, g), rw (e, g))

pub returns : goal.returns
unfolding disassembled_of line_after
returns c =
    let a = c.args in
    let e = eq-eqb (length a.mem.now) 65536 c.if-mem-ne65536.false in
    let g = sym c.read.ensures ∙ c.in_ok-i.was in
    let s = le-ltb (length a.line.now) 48 c.if-line-lt-LINE.false in
    (rw (e, g, s), rw (e, g, s) c.write_line.ensures)
