-- `serve` takes the vector with the frame that it stacks.
-- Assumes nothing.

use Rattle.vectors.proofs.service.serve.Goals as goal

pub returns : goal.returns
returns c = rw (c.take_vector.ensures, c.frame-frame.ensures, c.is_entire.ensures)
