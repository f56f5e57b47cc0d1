-- No second answer fits a public function's contract.
-- Assumes nothing.
use mathlib.Core.Path.{refl, sym, ◌∙◌}
use Rattle.answers.proofs.Determined.{Determines}
use Rattle.vectors.proofs.service
use Rattle.vectors.proofs.table.Vector
use Rattle.vectors.proofs.waits

pub of-software : Determines 0 Vector.of_software.Kinds.ps Vector.of_software.Kinds.r Vector.of_software.Reads.Post
of-software κs a x y ws vs p q = (p ∙ sym q, refl)

pub address : Determines 0 Vector.address.Kinds.ps Vector.address.Kinds.r Vector.address.Reads.Post
address κs a x y ws vs p q = (p ∙ sym q, refl)

pub masks : Determines 0 Vector.masks.Kinds.ps Vector.masks.Kinds.r Vector.masks.Reads.Post
masks κs a x y ws vs p q = (p ∙ sym q, refl)

pub is-entire : Determines 0 Vector.is_entire.Kinds.ps Vector.is_entire.Kinds.r Vector.is_entire.Reads.Post
is-entire κs a x y ws vs p q = (p ∙ sym q, refl)

pub take-vector : Determines 1 service.take_vector.Kinds.ps service.take_vector.Kinds.r service.take_vector.Reads.Post
take-vector κs a x y ws vs p q = (p ∙ sym q, refl)

pub serve : Determines 1 service.serve.Kinds.ps service.serve.Kinds.r service.serve.Reads.Post
serve κs a x y ws vs p q = (p ∙ sym q, refl)

pub wait-for-interrupt : Determines 0 waits.wait_for_interrupt.Kinds.ps waits.wait_for_interrupt.Kinds.r waits.wait_for_interrupt.Reads.Post
wait-for-interrupt κs a x y ws vs p q = (p ∙ sym q, refl)

pub synchronize : Determines 0 waits.synchronize.Kinds.ps waits.synchronize.Kinds.r waits.synchronize.Reads.Post
synchronize κs a x y ws vs p q = (p ∙ sym q, refl)
