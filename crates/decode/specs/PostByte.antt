-- The post-byte of indexed addressing (manual, table "Indexed Addressing Mode"; document 01, section Addressing).
-- Assumes nothing.
use Rattle.std.specs.Prelude.{◌≡◌, ℕ, ◌+◌, ◌/◌, ◌%◌, ◌<◌, Bool, true, false, cond, not, ◌&&◌, ◌==◌, bit_and, nat_lt, Err, Ok, Result}
use Rattle.registers.specs.ConditionCodes.{bit_at}
use Rattle.registers.specs.declared.Index.{Index}
use Rattle.registers.specs.declared.Index.TheVariants.{X, Y, U, S}
use Rattle.answers.specs.Counting.{counted}
use Rattle.answers.specs.Numbers.{number_of}
use Rattle.answers.specs.declared.Refusal.TheVariants.{PostByte as BadPostByte, PostByte8F}
use Rattle.decode.specs.declared.postbyte.Form.{Form}
use Rattle.decode.specs.declared.postbyte.Form.TheVariants.{Offset5, Increment1, Increment2, Decrement1, Decrement2, NoOffset, OffsetB, OffsetA, Offset8, Offset16, OffsetD, Program8, Program16, Address}
use Rattle.answers.specs.declared.Refusal.{Refusal}

-- bits 7 and 4 both set
unfoldable pub is_indirect : ℕ → Bool
is_indirect post = bit_at 7 post && bit_at 4 post

abbrev pub unless_indirect : ℕ → Form → Result Form Refusal
unless_indirect post form = cond (is_indirect post) (Err BadPostByte) (Ok form)

-- an address: the manual has it with indirection and register bits 00 alone, 9F (document 02, request [2])
abbrev pub only_as_9f : ℕ → Result Form Refusal
only_as_9f post = cond (post == 0x9F) (Ok Address) (Err PostByte8F)

-- bit 7 clear: a five-bit offset. Otherwise the low form, the post-byte masked with 8F, decides; 87, 8A, 8E and
-- indirect ,R+ and ,-R are refused by 5, 8F but for 9F by 24
abbrev form_of_low : ℕ → ℕ → Result Form Refusal
form_of_low post low =
    cond (nat_lt low 0x80) (Ok Offset5)
    (cond (low == 0x80) (unless_indirect post Increment1)
    (cond (low == 0x81) (Ok Increment2)
    (cond (low == 0x82) (unless_indirect post Decrement1)
    (cond (low == 0x83) (Ok Decrement2)
    (cond (low == 0x84) (Ok NoOffset)
    (cond (low == 0x85) (Ok OffsetB)
    (cond (low == 0x86) (Ok OffsetA)
    (cond (low == 0x88) (Ok Offset8)
    (cond (low == 0x89) (Ok Offset16)
    (cond (low == 0x8B) (Ok OffsetD)
    (cond (low == 0x8C) (Ok Program8)
    (cond (low == 0x8D) (Ok Program16)
    (cond (low == 0x8F) (only_as_9f post)
    (Err BadPostByte))))))))))))))

unfoldable pub form_of : ℕ → Result Form Refusal
form_of post = form_of_low post (bit_and post 0x8F)

-- bits 5 and 6 name X, Y, U, S
abbrev index_named : ℕ → Index
index_named field = cond (field == 0) X (cond (field == 1) Y (cond (field == 2) U S))

unfoldable pub index_of : ℕ → Index
index_of post = index_named (post / 32 % 4)

-- the low five bits read as signed, as a word
unfoldable pub five_bits : ℕ → ℕ
five_bits post = cond (nat_lt (post % 32) 16) (post % 32) (0xFFE0 + post % 32)

-- how many offset bytes follow the post-byte
abbrev pub offset_bytes : Form → ℕ
offset_bytes Offset5 = 0
offset_bytes Increment1 = 0
offset_bytes Increment2 = 0
offset_bytes Decrement1 = 0
offset_bytes Decrement2 = 0
offset_bytes NoOffset = 0
offset_bytes OffsetB = 0
offset_bytes OffsetA = 0
offset_bytes Offset8 = 1
offset_bytes Offset16 = 2
offset_bytes OffsetD = 0
offset_bytes Program8 = 1
offset_bytes Program16 = 2
offset_bytes Address = 2

abbrev pub is_refused : Result Form Refusal → Bool
is_refused (Ok form) = false
is_refused (Err x) = true

abbrev pub is_refused_by : ℕ → Result Form Refusal → Bool
is_refused_by n (Ok form) = false
is_refused_by n (Err x) = number_of x == n

-- the laws: exactly 39 of the 256 post-bytes are refused, 32 of them by 5 and 7 by 24
pub record RefusedPostBytes : Type 0 where
  pub all : counted 256 (λ post. is_refused (form_of post)) ≡ 39
  pub five : counted 256 (λ post. is_refused_by 5 (form_of post)) ≡ 32
  pub twenty_four : counted 256 (λ post. is_refused_by 24 (form_of post)) ≡ 7

-- which seven: by 24 exactly those that masked with 8F are 8F, but for 9F
abbrev pub WhichSeven : Type 0
WhichSeven = (post : ℕ) → post < 256 → is_refused_by 24 (form_of post) ≡ (bit_and post 0x8F == 0x8F && not (post == 0x9F))
