-- A host's twin is made of a twin.
-- Assumes nothing.
use Rattle.host.specs.Structs.{host_twin}
use Rattle.host.proofs.HostTwinFromTwin.from.Goals as goal

pub returns : goal.returns
unfolding host_twin
returns c = rw (c.mark_byte.ensures, c.wait_byte.ensures)
