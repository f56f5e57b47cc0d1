-- What is so of an operand that is read: it fits its width, the next address is as far on as its bytes are many, and it is refused by 4,
-- 5 or 24 alone.
-- Assumes nothing.
use Rattle.std.proofs.Common.{◌≡◌, ℕ, ◌+◌, ◌*◌, ◌%◌, ◌<◌, ◌≤◌, Bool, true, false, cond, ◌&&◌, ◌||◌, T, eqb, ltb, leb, List, [], ◌∷◌, refl, arith, lit<, eqb-true, leb-true, Err, Ok, Result}
use lib.Bits.{bit_and}
use Rattle.answers.specs.Numbers.{number_of}
use Rattle.answers.specs.declared.Refusal.{Refusal}
use Rattle.answers.specs.declared.Refusal.TheVariants.{PastEnd, PostByte as BadPostByte, PostByte8F}
use Rattle.memory.specs.Fits.{Bytes}
use Rattle.memory.specs.Map.{byte_at}
use Rattle.memory.proofs.Fits.{byte_fits}
use Rattle.opcodes.specs.declared.Mode.{Mode}
use Rattle.opcodes.specs.declared.Mode.TheVariants.{Inherent, Immediate8, Immediate16, Direct, Indexed, Extended, Relative8, Relative16}
use Rattle.decode.specs.PostByte.{is_indirect, unless_indirect, only_as_9f, form_of, five_bits, offset_bytes}
use Rattle.decode.specs.Operand.{signed_byte, indexed_by, with_form, after_post_byte, operand_bytes, operand_at}
use Rattle.decode.specs.Laws.{OfPostByte, offset_bytes_of, OperandFits}
use Rattle.decode.specs.declared.postbyte.Form.{Form}
use Rattle.decode.specs.declared.postbyte.Form.TheVariants.{Offset5, Increment1, Increment2, Decrement1, Decrement2, NoOffset, OffsetB, OffsetA, Offset8, Offset16, OffsetD, Program8, Program16, Address}
use Rattle.decode.specs.declared.operand.Operand.{Operand}

-- 4, 5 or 24
abbrev pub OfOperand : Refusal → Type 0
OfOperand x = T ((leb 4 (number_of x) && leb (number_of x) 5) || eqb (number_of x) 24)

-- an operand o of n bytes from `at` on, and the address after it and its offset bytes
pub record Sound (mem : List ℕ) (at n : ℕ) (o : Operand) (next : ℕ) : Type 0 where
  pub fits : Bytes mem → at < 0x10001 → OperandFits o
  pub length : next ≡ at + n + offset_bytes_of o
  pub within : at ≤ 0x10000 → next ≤ 0x10000

abbrev pub SoundRead : List ℕ → ℕ → ℕ → Result (Operand × ℕ) Refusal → Type 0
SoundRead mem at n (Ok (o, next)) = Sound mem at n o next
SoundRead mem at n (Err x) = OfOperand x

-- ---- post-bytes

-- a refused one is refused by 5 or 24
abbrev pub FormSo : Result Form Refusal → Type 0
FormSo (Ok f) = Unit {0}
FormSo (Err x) = OfPostByte x

-- the first whose test holds
chosen : List (Bool × (Result Form Refusal)) → Result Form Refusal
chosen [] = Err BadPostByte
chosen (c ∷ l) = cond c.0 c.1 (chosen l)

AllSo : List (Bool × (Result Form Refusal)) → Type 0
AllSo [] = Unit {0}
AllSo (c ∷ l) = FormSo c.1 × AllSo l

chosen-so : (l : List (Bool × (Result Form Refusal))) → AllSo l → FormSo (chosen l)
unfolding chosen AllSo
chosen-so [] h = tt
chosen-so ((true, p) ∷ l) h = h.0
chosen-so ((false, p) ∷ l) h = chosen-so l h.1

unless-so : (post : ℕ) (f : Form) → FormSo (unless_indirect post f)
unless-so post f = go (is_indirect post)
  where
    go : (t : Bool) → FormSo (cond t (Err BadPostByte) (Ok f))
    go true = tt
    go false = tt

only_so : (post : ℕ) → FormSo (only_as_9f post)
only_so post = go (eqb post 0x9F)
  where
    go : (t : Bool) → FormSo (cond t (Ok Address) (Err PostByte8F))
    go true = tt
    go false = tt

pub form-so : (post : ℕ) → FormSo (form_of post)
unfolding form_of chosen AllSo
form-so post =
    let is : ℕ → Bool = eqb (bit_and post 0x8F) in
    chosen-so
    ((ltb (bit_and post 0x8F) 0x80, Ok Offset5)
    ∷ (is 0x80, unless_indirect post Increment1)
    ∷ (is 0x81, Ok Increment2)
    ∷ (is 0x82, unless_indirect post Decrement1)
    ∷ (is 0x83, Ok Decrement2)
    ∷ (is 0x84, Ok NoOffset)
    ∷ (is 0x85, Ok OffsetB)
    ∷ (is 0x86, Ok OffsetA)
    ∷ (is 0x88, Ok Offset8)
    ∷ (is 0x89, Ok Offset16)
    ∷ (is 0x8B, Ok OffsetD)
    ∷ (is 0x8C, Ok Program8)
    ∷ (is 0x8D, Ok Program16)
    ∷ (is 0x8F, only_as_9f post)
    ∷ [])
    (tt, (unless-so post Increment1, (tt, (unless-so post Decrement1, (tt, (tt, (tt, (tt, (tt, (tt, (tt, (tt, (tt, (only_so post, tt))))))))))))))

five-fits : (post : ℕ) → five_bits post < 65536
unfolding five_bits
five-fits post = go (ltb (post % 32) 16)
  where
    go : (t : Bool) → cond t (post % 32) (0xFFE0 + post % 32) < 65536
    go true = omega arith
    go false = omega arith

pub signed-fits : (b : ℕ) → b < 256 → signed_byte b < 65536
signed-fits b h = go (ltb b 0x80)
  where
    go : (t : Bool) → cond t b (0xFF00 + b) < 65536
    go true = omega arith
    go false = omega arith

pub or_right : (s t : Bool) → T t → T (s || t)
or_right true t k = tt
or_right false t k = k

of-post-byte : (x : Refusal) → OfPostByte x → OfOperand x
of-post-byte x s = go (eqb (number_of x) 5) refl s
  where
    go : (t : Bool) → eqb (number_of x) 5 ≡ t → T (t || eqb (number_of x) 24) → OfOperand x
    go true e k = rw (eqb-true (number_of x) 5 e) tt
    go false e k = or_right (leb 4 (number_of x) && leb (number_of x) 5) (eqb (number_of x) 24) k

-- ---- reading

module _ (mem : List ℕ) where
  -- a test that may refuse by 4
  tested : (at n k : ℕ) (r : Result (Operand × ℕ) Refusal) → (at + k ≤ 0x10000 → SoundRead mem at n r) → SoundRead mem at n (cond (leb (at + k) 0x10000) r (Err PastEnd))
  tested at n k r h = go (leb (at + k) 0x10000) refl
    where
      go : (t : Bool) → leb (at + k) 0x10000 ≡ t → SoundRead mem at n (cond t r (Err PastEnd))
      go true e = h (leb-true (at + k) 0x10000 e)
      go false e = tt

  word : (at : ℕ) → Bytes mem → 256 * byte_at mem at + byte_at mem (at + 1) < 65536
  word at h = omega (arith, byte_fits mem h at, byte_fits mem h (at + 1))

  -- by the number of offset bytes
  module _ (post at : ℕ) (l : Bytes mem → post < 256) (f : Form) where
    no_bytes : (n : ℕ) → n < 65536 → offset_bytes f ≡ 0 → SoundRead mem at 0 (Ok (indexed_by f post n, at))
    no_bytes n k e = record { fits = λ h a. (k, l h); length = omega (arith, e); within = λ a. a }

    one_byte : offset_bytes f ≡ 1 → SoundRead mem at 0 (cond (leb (at + 1) 0x10000) (Ok (indexed_by f post (signed_byte (byte_at mem at)), at + 1)) (Err PastEnd))
    one_byte e = tested at 0 1 _ (λ k. record { fits = λ h a. (signed-fits (byte_at mem at) (byte_fits mem h at), l h); length = omega (arith, e); within = λ a. k })

    two_bytes : offset_bytes f ≡ 2 → SoundRead mem at 0 (cond (leb (at + 2) 0x10000) (Ok (indexed_by f post (256 * byte_at mem at + byte_at mem (at + 1)), at + 2)) (Err PastEnd))
    two_bytes e = tested at 0 2 _ (λ k. record { fits = λ h a. (word at h, l h); length = omega (arith, e); within = λ a. k })

  module _ (post at : ℕ) (l : Bytes mem → post < 256) where
    formed : (f : Form) → SoundRead mem at 0 (with_form f mem post at)
    unfolding with_form
    formed Offset5 = no_bytes post at l Offset5 (five_bits post) (five-fits post) refl
    formed Increment1 = no_bytes post at l Increment1 0 (lit< tt) refl
    formed Increment2 = no_bytes post at l Increment2 0 (lit< tt) refl
    formed Decrement1 = no_bytes post at l Decrement1 0 (lit< tt) refl
    formed Decrement2 = no_bytes post at l Decrement2 0 (lit< tt) refl
    formed NoOffset = no_bytes post at l NoOffset 0 (lit< tt) refl
    formed OffsetB = no_bytes post at l OffsetB 0 (lit< tt) refl
    formed OffsetA = no_bytes post at l OffsetA 0 (lit< tt) refl
    formed Offset8 = one_byte post at l Offset8 refl
    formed Offset16 = two_bytes post at l Offset16 refl
    formed OffsetD = no_bytes post at l OffsetD 0 (lit< tt) refl
    formed Program8 = one_byte post at l Program8 refl
    formed Program16 = two_bytes post at l Program16 refl
    formed Address = two_bytes post at l Address refl

    after-post : (p : Result Form Refusal) → FormSo p → SoundRead mem at 0 (after_post_byte p mem post at)
    after-post (Ok f) s = formed f
    after-post (Err x) s = of-post-byte x s

  -- a read after one byte is one from that byte on
  from : (at : ℕ) (r : Result (Operand × ℕ) Refusal) → at + 1 ≤ 0x10000 → SoundRead mem (at + 1) 0 r → SoundRead mem at 1 r
  from at (Ok (o, next)) k s = record { fits = λ h a. s.fits h (omega arith); length = omega (arith, s.length); within = λ a. s.within k }
  from at (Err x) k s = s

  pub operand_sound : (mode : Mode) (at : ℕ) → SoundRead mem at (operand_bytes mode) (operand_at mode mem at)
  unfolding operand_at
  operand_sound Inherent at = record { fits = λ h a. tt; length = omega arith; within = λ a. a }
  operand_sound Immediate8 at = tested at 1 1 _ (λ k. record { fits = λ h a. omega arith; length = omega arith; within = λ a. k })
  operand_sound Immediate16 at = tested at 2 2 _ (λ k. record { fits = λ h a. omega arith; length = omega arith; within = λ a. k })
  operand_sound Direct at = tested at 1 1 _ (λ k. record { fits = λ h a. byte_fits mem h at; length = omega arith; within = λ a. k })
  operand_sound Indexed at =
      let post = byte_at mem at in
      tested at 1 1 _
      (λ k. from at (after_post_byte (form_of post) mem post (at + 1)) k (after-post post (at + 1) (λ h. byte_fits mem h at) (form_of post) (form-so post)))
  operand_sound Extended at = tested at 2 2 _ (λ k. record { fits = λ h a. word at h; length = omega arith; within = λ a. k })
  operand_sound Relative8 at = tested at 1 1 _ (λ k. record { fits = λ h a. signed-fits (byte_at mem at) (byte_fits mem h at); length = omega arith; within = λ a. k })
  operand_sound Relative16 at = tested at 2 2 _ (λ k. record { fits = λ h a. word at h; length = omega arith; within = λ a. k })
