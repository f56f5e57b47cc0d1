-- The digits of the bytes before the index are laid.
-- Assumes nothing.
use Rattle.std.proofs.Common.{◌≡◌, take}
use Rattle.std.proofs.lemmas.List.Edits.{sets}
use Rattle.scenery.specs.Printed.{bytes_text}
use Rattle.scenery.proofs.printed.put_bytes.Given as goal

abbrev pub invariant-loop-i : goal.invariant-loop-i
invariant-loop-i l = l.out ≡ sets l.initial.out l.at (bytes_text (take l.i l.bytes))
