-- V in each setting, where they part: after a sum, a difference, DEC and INC. `Pages` has that it is the V of the setting's page.
-- Assumes nothing.
use Rattle.std.proofs.Common.{ℕ, ◌+◌, ◌-◌, ◌%◌, Bool, ◌||◌, eqb}
use Rattle.u8oru16.specs.Signed.{sum_out, diff_out}
use Rattle.registers.specs.declared.Flags.{Flags}
use Rattle.registers.specs.declared.Flags.TheVariants.{Bought, Manual}

abbrev pub add_v : Flags → ℕ → ℕ → ℕ → Bool
add_v Manual a b c = sum_out 0x80 a b c
add_v Bought a b c = sum_out 0x80 a c 0 || sum_out 0x80 ((a + c) % 256) b 0

abbrev pub sub_v : Flags → ℕ → ℕ → ℕ → Bool
sub_v Manual a b c = diff_out 0x80 a b c
sub_v Bought a b c = diff_out 0x80 a c 0 || diff_out 0x80 ((a + 256 - c) % 256) b 0

abbrev pub dec_v : Flags → ℕ → Bool
dec_v Manual a = eqb a 0x80
dec_v Bought a = eqb a 0

abbrev pub inc_v : Flags → ℕ → Bool
inc_v Manual a = eqb a 0x7F
inc_v Bought a = eqb a 0xFF
