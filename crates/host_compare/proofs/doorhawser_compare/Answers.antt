-- Where the numbers of both twins are named, the call on their machines; else 64.
-- Assumes nothing.
use mathlib.Core.Bool.{◌&&◌}
use Rattle.difference.specs.Compare.{compared, list_after}
use Rattle.host.specs.Numbers.{is_twin}
use Rattle.host.specs.Structs.{machine_from}
use Rattle.host_compare.specs.Results.{unnamed_count, host_counted}
use Rattle.host_compare.proofs.Named.{refuses, passes}
use Rattle.host_compare.proofs.doorhawser_compare.Goals as goal

pub returns-then-is_twin : goal.returns-then-is_twin
returns-then-is_twin c =
    let a = c.args in
    let e = rw (c.from.ensures, c.from-then-is_twin.ensures) at c.compare-compared.ensures in
    passes (is_twin a.left && is_twin a.right)
    (host_counted (compared (machine_from a.left) a.left_mem.now (machine_from a.right) a.right_mem.now a.list.now))
    unnamed_count
    (list_after (machine_from a.left) a.left_mem.now (machine_from a.right) a.right_mem.now a.list.now)
    a.list.now _ _
    (rw (c.is_twin.ensures, c.is_twin-2.ensures) at c.if-is_twin.true)
    (rw (c.counted.ensures, e.0))
    e.1

pub returns : goal.returns
returns c =
    let a = c.args in
    refuses (is_twin a.left && is_twin a.right)
    (host_counted (compared (machine_from a.left) a.left_mem.now (machine_from a.right) a.right_mem.now a.list.now))
    unnamed_count
    (list_after (machine_from a.left) a.left_mem.now (machine_from a.right) a.right_mem.now a.list.now)
    a.list.now _
    (rw (c.is_twin.ensures, c.is_twin-2.ensures) at c.if-is_twin.false)
    c.unnamed_count.ensures
