-- The digits of the eight bytes.
-- Assumes nothing.
use Rattle.std.proofs.Common.{ap, ◌∙◌}
use Rattle.std.proofs.lemmas.List.Edits.{sets}
use Rattle.scenery.specs.Printed.{bytes_text}
use Rattle.scenery.proofs.printed.put_long.Goals as goal

pub returns : goal.returns
returns c = c.put_bytes.ensures ∙ ap (λ l. sets c.args.out.now c.args.at (bytes_text l)) c.to_be_bytes.ensures
