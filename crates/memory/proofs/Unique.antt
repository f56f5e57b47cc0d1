-- No second answer, and no second memory, fits a public function's contract.
-- Assumes nothing.
use Rattle.std.proofs.Common.{ℕ, List, sym, refl, ap, ◌∙◌}
use Rattle.answers.proofs.Determined.{Determines, TellsOne}
use Rattle.memory.proofs.AccessType
use Rattle.memory.proofs.access
use Rattle.memory.proofs.map
use Rattle.memory.proofs.writes
use Rattle.memory.proofs.writes.Writes

pub is-system : Determines 0 AccessType.is_system.Kinds.ps AccessType.is_system.Kinds.r AccessType.is_system.Reads.Post
is-system κs a x y ws vs p q = (p ∙ sym q, refl)

pub none : Determines 0 Writes.none.Kinds.ps Writes.none.Kinds.r Writes.none.Reads.Post
none κs a x y ws vs p q = (p ∙ sym q, refl)

pub as-slice : TellsOne 1 Writes.as_slice.Kinds.ps Writes.as_slice.Kinds.r (λ κs s. s.now) Writes.as_slice.Reads.Post
as-slice κs a x y ws vs p q = (p.0 ∙ sym q.0, refl)

pub add : Determines 0 Writes.add.Kinds.ps Writes.add.Kinds.r Writes.add.Reads.Post
add κs a x y ws vs p q = (p ∙ sym q, refl)

pub add-word : Determines 0 Writes.add_word.Kinds.ps Writes.add_word.Kinds.r Writes.add_word.Reads.Post
add-word κs a x y ws vs p q = (p ∙ sym q, refl)

pub place : Determines 0 map.place.Kinds.ps map.place.Kinds.r map.place.Reads.Post
place κs a x y ws vs p q = (p ∙ sym q, refl)

pub lands : Determines 0 map.lands.Kinds.ps map.lands.Kinds.r map.lands.Reads.Post
lands κs a x y ws vs p q = (p ∙ sym q, refl)

pub read-u8 : Determines 1 map.read_u8.Kinds.ps map.read_u8.Kinds.r map.read_u8.Reads.Post
read-u8 κs a x y ws vs p q = (p ∙ sym q, refl)

pub read-u16 : Determines 1 map.read_u16.Kinds.ps map.read_u16.Kinds.r map.read_u16.Reads.Post
read-u16 κs a x y ws vs p q = (p ∙ sym q, refl)

pub read-u8u16 : Determines 1 map.read_u8u16.Kinds.ps map.read_u8u16.Kinds.r map.read_u8u16.Reads.Post
read-u8u16 κs a x y ws vs p q = (p ∙ sym q, refl)

pub read-u8-after : Determines 1 writes.read_u8_after.Kinds.ps writes.read_u8_after.Kinds.r writes.read_u8_after.Reads.Post
read-u8-after κs a x y ws vs p q = (p ∙ sym q, refl)

pub read-u16-after : Determines 1 writes.read_u16_after.Kinds.ps writes.read_u16_after.Kinds.r writes.read_u16_after.Reads.Post
read-u16-after κs a x y ws vs p q = (p ∙ sym q, refl)

-- the answer, and memory at exit

pub store-all : Determines 1 writes.store_all.Kinds.ps writes.store_all.Kinds.r writes.store_all.Reads.Post
store-all κs a x y ws vs p q = (p.0 ∙ sym q.0, ap (λ (l : List ℕ). (l, (tt, (tt, tt)))) (p.1 ∙ sym q.1))

pub write-u8u16 : Determines 1 access.write_u8u16.Kinds.ps access.write_u8u16.Kinds.r access.write_u8u16.Reads.Post
write-u8u16 κs a x y ws vs p q = (p.0 ∙ sym q.0, ap (λ (l : List ℕ). (l, (tt, (tt, (tt, (tt, tt)))))) (p.1 ∙ sym q.1))

pub write-u8 : Determines 1 access.write_u8.Kinds.ps access.write_u8.Kinds.r access.write_u8.Reads.Post
write-u8 κs a x y ws vs p q = (p.0 ∙ sym q.0, ap (λ (l : List ℕ). (l, (tt, (tt, (tt, (tt, tt)))))) (p.1 ∙ sym q.1))
