-- The origin of a decoded instruction.
-- Assumes nothing.
use Rattle.std.proofs.Common.{◌≡◌, ℕ, ◌<◌, List, refl, Err, None, Ok, Option, Result, Some}
use Rattle.opcodes.specs.Manual.{entry_of}
use Rattle.opcodes.specs.declared.Entry.{Entry}
use Rattle.opcodes.specs.declared.Page.{Page}
use Rattle.decode.specs.Decode.{located, with_operand, decoded_as, from_located, decoded_at}
use Rattle.decode.specs.Operand.{operand_at}
use Rattle.decode.specs.Origin.{OriginOf, DecodeOrigin}
use Rattle.decode.proofs.Laws.{LocatedSo, located-so}
use Rattle.answers.specs.declared.Refusal.{Refusal}
use Rattle.decode.specs.declared.operand.Operand.{Operand}

module _ (mem : List ℕ) (page : Page) (code at : ℕ) (l : code < 256) where
  of-read : (e : Entry) → entry_of page code ≡ Some e → (r : Result (Operand × ℕ) Refusal) → operand_at e.mode mem at ≡ r → OriginOf mem (with_operand e r)
  of-read e p (Ok (o, next)) q = record { page = page; code = code; after = at; byte = l; entry = p; operand = q }
  of-read e p (Err x) q = tt

  of-place : (p : Option Entry) → entry_of page code ≡ p → OriginOf mem (decoded_as p mem at)
  unfolding decoded_as
  of-place (Some e) p = of-read e p (operand_at e.mode mem at) refl
  of-place None p = tt

pub decode-origin : DecodeOrigin
unfolding decoded_at
decode-origin mem pc b = go (located mem pc) (located-so mem pc)
  where
    go : (l : Result (Page × ℕ × ℕ) Refusal) → LocatedSo mem pc l → OriginOf mem (from_located l mem)
    go (Ok (page, code, at)) s = of-place mem page code at (s.byte b) (entry_of page code) refl
    go (Err x) s = tt
