-- The laws of decoding: 3, 4, 5 or 24 alone, 3 exactly, and what fits.
-- Assumes nothing.
use Rattle.std.proofs.Common.{◌≡◌, ℕ, ◌+◌, ◌<◌, ◌≤◌, Bool, true, false, cond, ◌&&◌, ◌||◌, T, eqb, ltb, leb, ◌⊎◌, ◌↔◌, List, [], ◌∷◌, refl, inl, inr, arith, ltb-true, eqb-true, le-leb, leb-true, Err, None, Ok, Option, Result, Some}
use Rattle.answers.specs.Numbers.{number_of}
use Rattle.answers.specs.declared.Refusal.{Refusal}
use Rattle.answers.specs.declared.Refusal.TheVariants.{Opcode, PastEnd}
use Rattle.memory.specs.Fits.{Bytes}
use Rattle.memory.specs.Map.{byte_at, low_at}
use Rattle.memory.proofs.Fits.{byte_fits}
use Rattle.opcodes.specs.Manual.{rows, prefix, entry_of}
use Rattle.opcodes.specs.Places.{named, Stands, documented, undocumented}
use Rattle.opcodes.specs.declared.Entry.{Entry}
use Rattle.opcodes.specs.declared.Page.{Page}
use Rattle.opcodes.specs.declared.Page.TheVariants.{Plain, Ten, Eleven}
use Rattle.opcodes.proofs.Places.{each-place}
use Rattle.decode.specs.Operand.{operand_bytes, operand_at}
use Rattle.decode.specs.Decode.{second_byte, located, with_operand, decoded_as, from_located, decoded_at}
use Rattle.decode.specs.Laws.{OfDecoding, RefusedSo, DecodeRefuses, Unnamed, OpcodeRefused, prefix_bytes, SizedAt, DecodedFits, DecodeFits}
use Rattle.decode.proofs.Sizes.{entry-sizes}
use Rattle.decode.proofs.Sound.{OfOperand, SoundRead, or_right, operand_sound}
use Rattle.decode.specs.declared.operand.Operand.{Operand}

-- ---- the opcode's bytes

pub record OpcodeSo (mem : List ℕ) (pc : ℕ) (page : Page) (code at : ℕ) : Type 0 where
  pub byte : Bytes mem → code < 256
  pub after : at ≡ pc + prefix_bytes page + 1
  pub within : pc < 65536 → at ≤ 0x10000

abbrev pub LocatedSo : List ℕ → ℕ → Result (Page × ℕ × ℕ) Refusal → Type 0
LocatedSo mem pc (Ok (page, code, at)) = OpcodeSo mem pc page code at
LocatedSo mem pc (Err x) = x ≡ PastEnd

module _ (mem : List ℕ) (pc : ℕ) where
  second : (page : Page) → prefix_bytes page ≡ 1 → LocatedSo mem pc (second_byte page mem pc)
  second page p = go (ltb pc 0xFFFF) refl
    where
      go : (t : Bool) → ltb pc 0xFFFF ≡ t → LocatedSo mem pc (cond t (Ok (page, byte_at mem (low_at pc), pc + 2)) (Err PastEnd))
      go true e =
          let l = ltb-true pc 0xFFFF e in
          record { byte = λ h. byte_fits mem h (low_at pc); after = omega (arith, p); within = λ k. omega arith }
      go false e = refl

  pub located-so : LocatedSo mem pc (located mem pc)
  unfolding located
  located-so = go (eqb (byte_at mem pc) 0x10) (eqb (byte_at mem pc) 0x11)
    where
      go : (t u : Bool) → LocatedSo mem pc (cond t (second_byte Ten mem pc) (cond u (second_byte Eleven mem pc) (Ok (Plain, byte_at mem pc, pc + 1))))
      go true u = second Ten refl
      go false true = second Eleven refl
      go false false = record { byte = λ h. byte_fits mem h pc; after = omega arith; within = λ k. omega arith }

-- ---- by which numbers

wider : (x : Refusal) → OfOperand x → OfDecoding x
wider x h = go (leb 4 (number_of x)) refl h
  where
    go : (t : Bool) → leb 4 (number_of x) ≡ t → T ((t && leb (number_of x) 5) || eqb (number_of x) 24) → OfDecoding x
    go true e t = let l = leb-true 4 (number_of x) e in rw (le-leb 3 (number_of x) (omega arith)) t
    go false e t = or_right (leb 3 (number_of x) && leb (number_of x) 5) (eqb (number_of x) 24) t

-- the same of the number: for those who tell it from others
pub decoding-number : (x : Refusal) → OfDecoding x → ((3 ≤ number_of x) × (number_of x ≤ 5)) ⊎ (number_of x ≡ 24)
decoding-number x k = go (leb 3 (number_of x)) refl (leb (number_of x) 5) refl (eqb (number_of x) 24) refl k
  where
    go : (a : Bool) → leb 3 (number_of x) ≡ a → (b : Bool) → leb (number_of x) 5 ≡ b → (c : Bool) → eqb (number_of x) 24 ≡ c → T ((a && b) || c)
        → ((3 ≤ number_of x) × (number_of x ≤ 5)) ⊎ (number_of x ≡ 24)
    go true d true e c f k = inl (leb-true 3 (number_of x) d, leb-true (number_of x) 5 e)
    go true d false e true f k = inr (eqb-true (number_of x) 24 f)
    go true d false e false f k = absurd k
    go false d b e true f k = inr (eqb-true (number_of x) 24 f)
    go false d b e false f k = absurd k

module _ (mem : List ℕ) where
  operand-so : (e : Entry) (at : ℕ) (r : Result (Operand × ℕ) Refusal) → SoundRead mem at (operand_bytes e.mode) r → RefusedSo (with_operand e r)
  operand-so e at (Ok (o, next)) s = tt
  operand-so e at (Err x) s = wider x s

  place-so : (p : Option Entry) (at : ℕ) → RefusedSo (decoded_as p mem at)
  unfolding decoded_as
  place-so (Some e) at = operand-so e at (operand_at e.mode mem at) (operand_sound mem e.mode at)
  place-so None at = tt

  opcode-so : (pc : ℕ) (l : Result (Page × ℕ × ℕ) Refusal) → LocatedSo mem pc l → RefusedSo (from_located l mem)
  opcode-so pc (Ok (page, code, at)) s = place-so (entry_of page code) at
  opcode-so pc (Err x) s = rw s tt

pub decode-refuses : DecodeRefuses
unfolding decoded_at
decode-refuses mem pc = opcode-so mem pc (located mem pc) (located-so mem pc)

-- ---- 3 exactly

not-opcode : {A : Type 0} (e : Entry) (r : Result (Operand × ℕ) Refusal) (mem : List ℕ) (at n : ℕ) → SoundRead mem at n r → with_operand e r ≡ Err Opcode → A
not-opcode e (Ok (o, next)) mem at n s q = let z : ◌≡◌ {A = ℕ} 0 1 = cc in absurd (omega arith)
not-opcode e (Err x) mem at n s q =
    let d : x ≡ Opcode = cc in
    absurd (rw d at s)

named_some : {A : Type 0} {e : Entry} {l : List Entry} → l ≡ e ∷ [] → l ≡ [] → A
named_some p q = let z : ◌≡◌ {A = ℕ} 0 1 = cc in absurd (omega arith)

exactly : (mem : List ℕ) (page : Page) (code at : ℕ) → Stands page code → (decoded_as (entry_of page code) mem at ≡ Err Opcode) ↔ (named (prefix page + code) rows ≡ [])
unfolding decoded_as
exactly mem page code at (documented e n f z) =
    rw f (λ q. not-opcode e (operand_at e.mode mem at) mem at (operand_bytes e.mode) (operand_sound mem e.mode at) q, λ q. named_some n q)
exactly mem page code at (undocumented n f) = rw f (λ q. n, λ q. refl)

pub opcode-refused : OpcodeRefused
unfolding decoded_at
opcode-refused mem pc h = go (located mem pc) (located-so mem pc)
  where
    go : (l : Result (Page × ℕ × ℕ) Refusal) → LocatedSo mem pc l → (from_located l mem ≡ Err Opcode) ↔ Unnamed l
    go (Ok (page, code, at)) s = exactly mem page code at (each-place page code (s.byte h))
    go (Err x) s = (λ q. let z : ◌≡◌ {A = ℕ} 0 1 = cc in absurd (omega arith), λ q. absurd q)

-- ---- what fits

module _ (mem : List ℕ) (pc : ℕ) (h : Bytes mem) (k : pc < 65536) where
  operand-fits : (page : Page) (e : Entry) (at : ℕ) → at ≡ pc + prefix_bytes page + 1 → at ≤ 0x10000 → e.size ≡ prefix_bytes page + 1 + operand_bytes e.mode
      → (r : Result (Operand × ℕ) Refusal) → SoundRead mem at (operand_bytes e.mode) r → DecodedFits pc (with_operand e r)
  operand-fits page e at a l z (Ok (o, next)) s = record { operand = s.fits h (omega arith); next = s.within l; length = omega (arith, s.length) }
  operand-fits page e at a l z (Err x) s = tt

  place-fits : (page : Page) (p : Option Entry) (at : ℕ) → at ≡ pc + prefix_bytes page + 1 → at ≤ 0x10000 → SizedAt page p → DecodedFits pc (decoded_as p mem at)
  unfolding decoded_as
  place-fits page (Some e) at a l z = operand-fits page e at a l z (operand_at e.mode mem at) (operand_sound mem e.mode at)
  place-fits page None at a l z = tt

  opcode-fits : (l : Result (Page × ℕ × ℕ) Refusal) → LocatedSo mem pc l → DecodedFits pc (from_located l mem)
  opcode-fits (Ok (page, code, at)) s = place-fits page (entry_of page code) at s.after (s.within k) (entry-sizes page code (s.byte h))
  opcode-fits (Err x) s = tt

pub decode-fits : DecodeFits
unfolding decoded_at
decode-fits mem pc h k = opcode-fits mem pc h k (located mem pc) (located-so mem pc)
