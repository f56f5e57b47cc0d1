-- The invariant: the pieces that are left stand in the file, and laid after those that were laid they give what all give.
-- Assumes nothing.
-- one piece, whose end is `end`
use Prim.Native.Nat.{ℕ, suc, ◌+◌, ◌-◌, ◌≤◌, ◌<◌}
use mathlib.Core.Path.{◌≡◌, refl, sym, ap, ◌∙◌}
use native.Mathlib.Omega.{arith}
use mathlib.Core.List.{List}
use lib.ListN.{length, take, drop}
use lib.Seq.{sets, length-sets}
use Rattle.runfile.specs.Format.{got, word_in, piece_at, pieces_at, end_of, laid_of}
use Rattle.runfile.proofs.Reading.{this, size}
use Rattle.runfile.proofs.Sections.{piece-end, piece-stands, piece-laid}
use Rattle.runfile.proofs.place.Goals as goal

module _ (file : List ℕ) (left next end : ℕ) (more : 0 < left) (within : end_of (length file) (pieces_at file left next) ≤ length file) (e : end ≡ end_of (length file) (piece_at file next)) where
  some : left ≡ suc (left - 1)
  some = omega arith

  stands : (piece_at file next ≡ got (this file next) (next + 4 + size file next)) × (next + 4 + size file next ≤ length file)
  stands = piece-stands file (left - 1) next (rw some at within)

  ends : end ≡ next + 4 + size file next
  ends = e ∙ ap (end_of (length file)) stands.0

  rest : end_of (length file) (pieces_at file (left - 1) end) ≤ length file
  rest = rw (e, ← piece-end file (left - 1) next, ← some) within

  turn : (mem after : List ℕ) → after ≡ sets mem (word_in file next) (take (end - (next + 4)) (drop (next + 4) file))
      → laid_of (pieces_at file (left - 1) end) after ≡ laid_of (pieces_at file left next) mem
  turn mem after h =
      let n : end - (next + 4) ≡ size file next = omega (arith, ends) in
      rw (h, n, ends) (sym (piece-laid file (left - 1) next (rw some at within) mem) ∙ rw (← some))

pub loop-passed-init : goal.loop-passed-init
loop-passed-init c = let z : c.args.count - 0 ≡ c.args.count = omega arith in rw z (c.requires, (refl, refl))

pub overflow_add-from : goal.overflow_add-from
overflow_add-from c =
    let f = c.args.file.now in
    let l = c.loop-passed in
    let left = c.args.count - l._passed in
    omega (arith, (stands f left l.next _ (omega arith) l.invariant.0 refl).1)

pub slice_bounds-put-count : goal.slice_bounds-put-count
slice_bounds-put-count c =
    let f = c.args.file.now in
    let l = c.loop-passed in
    let left = c.args.count - l._passed in
    omega (arith, ends f left l.next c.piece_end-end.result (omega arith) l.invariant.0 c.piece_end-end.ensures)

pub slice_bounds-put-start : goal.slice_bounds-put-start
slice_bounds-put-start c =
    let f = c.args.file.now in
    let l = c.loop-passed in
    let left = c.args.count - l._passed in
    omega (arith, ends f left l.next c.piece_end-end.result (omega arith) l.invariant.0 c.piece_end-end.ensures)

pub slice_bounds-put-end : goal.slice_bounds-put-end
slice_bounds-put-end c =
    let f = c.args.file.now in
    let l = c.loop-passed in
    let left = c.args.count - l._passed in
    omega (arith, ends f left l.next c.piece_end-end.result (omega arith) l.invariant.0 c.piece_end-end.ensures, (stands f left l.next _ (omega arith) l.invariant.0 refl).1)

pub loop-passed-preserved : goal.loop-passed-preserved
loop-passed-preserved c =
    let f = c.args.file.now in
    let l = c.loop-passed in
    let left = c.args.count - l._passed in
    let w = c.word-address.ensures in
    let p = c.put.ensures in
    let r = c.piece_end-end.result in
    let o : c.args.count - (l._passed + 1) ≡ left - 1 = omega arith in
    rw o (
      rest f left l.next r (omega arith) l.invariant.0 c.piece_end-end.ensures,
      (
        turn f left l.next r (omega arith) l.invariant.0 c.piece_end-end.ensures l.mem c.put.new.out (rw w at p) ∙ l.invariant.1.0,
        ap length p ∙ length-sets l.mem c.word-address.result (take (r - (l.next + 4)) (drop (l.next + 4) f)) ∙ l.invariant.1.1,
      ),
    )

pub shape_of-mem : goal.shape_of-mem
shape_of-mem c = c.loop-passed.invariant.1.1

pub returns : goal.returns
unfolding pieces_at
returns c =
    let l = c.loop-passed in
    let left = c.args.count - l._passed in
    let z : left ≡ 0 = omega arith in
    rw z at l.invariant.1.0
