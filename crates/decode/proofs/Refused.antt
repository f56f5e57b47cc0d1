-- How many post-bytes are refused, and which by 24: counts and a test over all 256 that antt computes.
-- Assumes nothing.
use Rattle.std.proofs.Common.{ℕ, not, ◌&&◌, eqb, refl}
use lib.Bits.{bit_and}
use Rattle.registers.specs.ConditionCodes.{bit_at}
use Rattle.opcodes.proofs.Rows.{alike}
use Rattle.decode.specs.PostByte.{is_indirect, form_of, is_refused_by, RefusedPostBytes, WhichSeven}

pub refused-post-bytes : RefusedPostBytes
unfolding form_of is_indirect bit_at
refused-post-bytes = record { all = refl; five = refl; twenty_four = refl }

pub which-seven : WhichSeven
unfolding form_of is_indirect bit_at
which-seven = alike (λ (post : ℕ). is_refused_by 24 (form_of post)) (λ (post : ℕ). eqb (bit_and post 0x8F) 0x8F && not (eqb post 0x9F)) 256 refl
