-- What the disassembly told, or the line of its refusal.
-- Assumes nothing.
use mathlib.Core.Path.{refl, sym, ◌∙◌}
use native.Mathlib.Omega.{arith}
use Rattle.listing.proofs.Lines.{told_line, told-refusal}
use Rattle.listing.proofs.line_at.Goals as goal

pub returns-in-Ok : goal.returns-in-Ok
returns-in-Ok c =
    let d = c.disassemble in
    let b = c.blank-line.ensures in
    let q = sym (rw b at d.ensures.0) ∙ c.in-Ok.is in
    let t = told_line c.args.mem.now c.args.at c.requires (λ k. omega (arith, c.type_inv.mem k)) (omega arith) c.in-Ok.n q in
    (rw b at d.ensures.1 ∙ t.0, t.1)

pub returns-in-Err : goal.returns-in-Err
returns-in-Err c =
    let d = c.disassemble in
    let q = sym (rw c.blank-line.ensures at d.ensures.0) ∙ c.in-Err.is in
    let e = told-refusal c.args.mem.now c.args.at c.requires c.in-Err.refusal q in
    rw e (c.refused_line.ensures, refl)
