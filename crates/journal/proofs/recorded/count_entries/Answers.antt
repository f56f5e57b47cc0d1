-- After so many turns the entries of so many writes are counted.
-- Assumes nothing.
use Rattle.std.proofs.Common.{◌≡◌, ℕ, ◌+◌, ◌≤◌, List, [], length, take, ap, refl, sym, ◌∙◌, arith, take_all}
use Rattle.journal.specs.Record.{most_stored}
use Rattle.journal.specs.Recorded.{saved_for}
use Rattle.journal.proofs.Laying.{saved-few, saved-first, turn-count}
use Rattle.journal.proofs.recorded.count_entries.Goals as goal

pub loop-one-init : goal.loop-one-init
unfolding saved_for
loop-one-init c = λ mem. refl

-- whatever memory is
pub overflow_add-n : goal.overflow_add-n
overflow_add-n c =
    let l = c.loop-one in
    let a = c.args in
    let ws = c.as_slice-one-items.result.now in
    let e : l.n + c.entries_for-n.result ≡ length (saved_for a.ram_top (take (l.one-index + 1) ws) []) =
    ap (λ (k : ℕ). l.n + k) (c.entries_for-n.ensures [])
    ∙ turn-count a.ram_top ws l.one-index _ c.loop-one-test.true [] l.n (l.invariant []) in
    omega (arith, e, saved-first a.ram_top ws (l.one-index + 1) [], c.as_slice-one-items.ensures.few)

pub loop-one-preserved : goal.loop-one-preserved
loop-one-preserved c =
    let l = c.loop-one in
    λ mem.
    ap (λ (k : ℕ). l.n + k) (c.entries_for-n.ensures mem)
    ∙ turn-count c.args.ram_top c.as_slice-one-items.result.now l.one-index _ c.loop-one-test.true mem l.n (l.invariant mem)

pub returns : goal.returns
returns c =
    let l = c.loop-one in
    let a = c.args in
    let ws = c.as_slice-one-items.result.now in
    let t : take l.one-index ws ≡ ws = take_all l.one-index ws c.loop-one-test.false in
    let k : (mem : List ℕ) → l.n ≡ length (saved_for a.ram_top ws mem) = λ mem. rw t at (l.invariant mem) in
    rw (← c.as_slice-one-items.ensures.writes) (omega (arith, k [], saved-few a.ram_top ws [], c.as_slice-one-items.ensures.few), k)
