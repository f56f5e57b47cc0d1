-- `i16` meets its contract.
-- Assumes nothing.
use Rattle.std.proofs.Common.{◌∙◌, to_z-of_z, w16, rules}
use mir.Facts.{sfits_to_z}
use Rattle.u8oru16.proofs.Signed.{to-signed, extended-signed}
use Rattle.u8oru16.proofs.u8u16.i16.Goals as goal

pub returns : goal.returns
returns c =
    let n = c.u16.result in
    to_z-of_z {w = w16} (rw c.cast_signed.ensures (sfits_to_z {n = n} (search rules)))
    ∙ c.cast_signed.ensures
    ∙ to-signed n (search rules)
    ∙ rw (c.u16.ensures, c.sign_extended.ensures) (extended-signed c.args.self)
