-- How many post-bytes of TFR and EXG arm: counts that antt computes.
-- Assumes nothing.
use mathlib.Core.Path.{refl}
use Rattle.operations.specs.Transfers.{transferable}
use Rattle.evaluate.specs.Arming.{ArmingPostBytes}

pub arming-post-bytes : ArmingPostBytes
unfolding transferable
arming-post-bytes = record { tfr = refl; exg = refl }
