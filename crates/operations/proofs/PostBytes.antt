-- TFR and EXG take exactly 52 post-bytes: a count that antt computes.
-- Assumes nothing.
use Rattle.std.proofs.Common.{refl}
use Rattle.operations.specs.Transfers.{transferable, TransferPostBytes}

pub transfer-post-bytes : TransferPostBytes
unfolding transferable
transfer-post-bytes = refl
