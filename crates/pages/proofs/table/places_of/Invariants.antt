-- The loop fills the page from its start: `code` places are written.
-- Assumes nothing.
use Rattle.std.proofs.Common.{◌≡◌}
use Rattle.pages.proofs.Reading.{filled}
use Rattle.pages.proofs.table.places_of.Given as goal

abbrev pub invariant-loop-code : goal.invariant-loop-code
invariant-loop-code l = l.place-items ≡ filled l.page l.code
