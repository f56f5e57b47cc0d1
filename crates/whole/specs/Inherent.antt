-- What DAA leaves in A and SEX in D, with the condition codes after it, by the definitions of the first engine (operations/specs/Inherent.antt).
-- Assumes nothing.
use Rattle.std.specs.Prelude.{ℕ, ◌%◌}
use Rattle.u8oru16.specs.Negated.{sign_extended}
use Rattle.u8oru16.specs.Value.{value_of}
use Rattle.u8oru16.specs.declared.u8u16.TheVariants.{u8}
use Rattle.registers.specs.Arithmetic.{codes}
use Rattle.registers.specs.declared.CCBits.{CCBits}
use Rattle.operations.specs.Inherent.{corrected, daa_flags, sex_flags}
use Rattle.registers.specs.declared.Out.{Out}

abbrev pub decimal_of : CCBits → ℕ → Out ℕ
decimal_of cc a = record { cc = codes cc (daa_flags cc a); value = corrected cc a % 256 }

abbrev pub extended_of : CCBits → ℕ → Out ℕ
extended_of cc b =
    let d = value_of (sign_extended (u8 b)) in
    record { cc = codes cc (sex_flags d); value = d }
