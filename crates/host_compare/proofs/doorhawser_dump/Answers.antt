-- Where the twin's numbers are named, the call on its machine; else 64.
-- Assumes nothing.
use mathlib.Core.Path.{sym, ◌∙◌}
use Rattle.dump.specs.Dumps.{dumped, output_dumped}
use Rattle.host.specs.Numbers.{is_twin}
use Rattle.host.specs.Structs.{machine_from}
use Rattle.host_compare.specs.Results.{unnamed_count, host_counted}
use Rattle.host_compare.proofs.Named.{refuses, passes}
use Rattle.host_compare.proofs.doorhawser_dump.Goals as goal

pub returns-then-is_twin : goal.returns-then-is_twin
returns-then-is_twin c =
    let a = c.args in
    let e = rw c.from.ensures at c.write.ensures in
    passes (is_twin a.twin) (host_counted (dumped a.mem.now a.out.now)) unnamed_count (output_dumped (machine_from a.twin) a.mem.now a.out.now) a.out.now _ _
    (sym c.is_twin.ensures ∙ c.if-is_twin.true)
    (rw (c.counted.ensures, e.0))
    e.1

pub returns : goal.returns
returns c =
    let a = c.args in
    refuses (is_twin a.twin) (host_counted (dumped a.mem.now a.out.now)) unnamed_count (output_dumped (machine_from a.twin) a.mem.now a.out.now) a.out.now _
    (sym c.is_twin.ensures ∙ c.if-is_twin.false)
    c.unnamed_count.ensures
