-- After k turns the last k of the n entries are put back.
-- Assumes nothing.
use Rattle.std.proofs.Common.{◌≡◌, ◌+◌, ◌-◌, ◌*◌, refl, ◌∙◌, arith, get_or}
use native.Mathlib.Nat.{sub_self}
use Rattle.journal.specs.Record.{entries_at, entry_length, read_entries}
use Rattle.journal.specs.Undos.{put_back}
use Rattle.journal.proofs.Parts.{put-more}
use Rattle.journal.proofs.undos.put_back.Goals as goal

pub loop-k-init : goal.loop-k-init
unfolding put_back read_entries
loop-k-init c = refl

pub loop-k-preserved : goal.loop-k-preserved
loop-k-preserved c =
    let l = c.loop-k in
    let a = c.args in
    let at = entries_at + (a.n - (l.k + 1)) * entry_length in
    let e : c.from_be_bytes-place.result ≡ 256 * get_or a.r.now at 0 + get_or a.r.now (at + 1) 0 = omega (arith, c.from_be_bytes-place.ensures) in
    rw (e, l.invariant) (put-more a.mem.now a.r.now a.n l.k c.loop-k-test.true)
