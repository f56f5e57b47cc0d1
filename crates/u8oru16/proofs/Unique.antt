-- No second answer, and no second buffer, fits a public function's contract.
-- Assumes nothing.
use Rattle.std.proofs.Common.{ℕ, List, sym, refl, ap, ◌∙◌}
use Rattle.answers.proofs.Determined.{Determines}
use Rattle.u8oru16.proofs.u8u16

pub new : Determines 0 u8u16.new.Kinds.ps u8u16.new.Kinds.r u8u16.new.Reads.Post
new κs a x y ws vs p q = (p ∙ sym q, refl)

pub size : Determines 0 u8u16.size.Kinds.ps u8u16.size.Kinds.r u8u16.size.Reads.Post
size κs a x y ws vs p q = (p ∙ sym q, refl)

pub from-u16-shrink : Determines 0 u8u16.from_u16_shrink.Kinds.ps u8u16.from_u16_shrink.Kinds.r u8u16.from_u16_shrink.Reads.Post
from-u16-shrink κs a x y ws vs p q = (p ∙ sym q, refl)

pub is-u8 : Determines 0 u8u16.is_u8.Kinds.ps u8u16.is_u8.Kinds.r u8u16.is_u8.Reads.Post
is-u8 κs a x y ws vs p q = (p ∙ sym q, refl)

pub u16 : Determines 0 u8u16.u16.Kinds.ps u8u16.u16.Kinds.r u8u16.u16.Reads.Post
u16 κs a x y ws vs p q = (p ∙ sym q, refl)

pub u8 : Determines 0 u8u16.u8.Kinds.ps u8u16.u8.Kinds.r u8u16.u8.Reads.Post
u8 κs a x y ws vs p q = (p ∙ sym q, refl)

pub lsb : Determines 0 u8u16.lsb.Kinds.ps u8u16.lsb.Kinds.r u8u16.lsb.Reads.Post
lsb κs a x y ws vs p q = (p ∙ sym q, refl)

pub msb : Determines 0 u8u16.msb.Kinds.ps u8u16.msb.Kinds.r u8u16.msb.Reads.Post
msb κs a x y ws vs p q = (p ∙ sym q, refl)

pub i16 : Determines 0 u8u16.i16.Kinds.ps u8u16.i16.Kinds.r u8u16.i16.Reads.Post
i16 κs a x y ws vs p q = (p ∙ sym q, refl)

pub twos-complement : Determines 0 u8u16.twos_complement.Kinds.ps u8u16.twos_complement.Kinds.r u8u16.twos_complement.Reads.Post
twos-complement κs a x y ws vs p q = (p ∙ sym q, refl)

pub overflowing-negate : Determines 0 u8u16.overflowing_negate.Kinds.ps u8u16.overflowing_negate.Kinds.r u8u16.overflowing_negate.Reads.Post
overflowing-negate κs a x y ws vs p q = (p ∙ sym q, refl)

pub force-signed : Determines 0 u8u16.force_signed.Kinds.ps u8u16.force_signed.Kinds.r u8u16.force_signed.Reads.Post
force-signed κs a x y ws vs p q = (p ∙ sym q, refl)

pub sign_extended : Determines 0 u8u16.sign_extended.Kinds.ps u8u16.sign_extended.Kinds.r u8u16.sign_extended.Reads.Post
sign_extended κs a x y ws vs p q = (p ∙ sym q, refl)

pub signed-offset : Determines 0 u8u16.signed_offset.Kinds.ps u8u16.signed_offset.Kinds.r u8u16.signed_offset.Reads.Post
signed-offset κs a x y ws vs p q = (p ∙ sym q, refl)

pub div : Determines 0 u8u16.div.Kinds.ps u8u16.div.Kinds.r u8u16.div.Reads.Post
div κs a x y ws vs p q = (p ∙ sym q, refl)

pub modulo : Determines 0 u8u16.modulo.Kinds.ps u8u16.modulo.Kinds.r u8u16.modulo.Reads.Post
modulo κs a x y ws vs p q = (p ∙ sym q, refl)

-- the answer, and the buffer at exit
pub get-as-bytes : Determines 1 u8u16.get_as_bytes.Kinds.ps u8u16.get_as_bytes.Kinds.r u8u16.get_as_bytes.Reads.Post
get-as-bytes κs a x y ws vs p q = (p.0 ∙ sym q.0, ap (λ (l : List ℕ). (tt, (l, tt))) (p.1 ∙ sym q.1))
