-- The condition code register: eight flags, a place for each (manual, section "Condition Code Register").
-- Assumes nothing.
use Rattle.std.specs.Prelude.{ℕ, ◌+◌, ◌*◌, ◌/◌, ◌%◌, ◌^◌, Bool, true, false, not, List, [], ◌∷◌, ◌==◌}
use Prim.Native.Char.{Char, code}
use Prim.Native.String.{String, [] as no_text, ◌∷◌ as ◌then◌}
use Rattle.std.specs.Bool.{beq}
use Rattle.registers.specs.declared.CCBit.{CCBit}
use Rattle.registers.specs.declared.CCBit.TheVariants.{C, «V», Z, N, I, H, F, E}
use Rattle.registers.specs.declared.CCBits.{CCBits}
use Rattle.registers.specs.declared.CCInfo.{CCInfo}

-- the place of each flag, 0 the lowest
abbrev pub place : CCBit → ℕ
place C = 0
place «V» = 1
place Z = 2
place N = 3
place I = 4
place H = 5
place F = 6
place E = 7

abbrev pub digit : Bool → ℕ
digit true = 1
digit false = 0

-- n with v at place k: the digits above k as they were, v, the digits below k as they were
unfoldable pub with_bit : ℕ → Bool → ℕ → ℕ
with_bit k v n = (n / 2 ^ k / 2 * 2 + digit v) * 2 ^ k + n % 2 ^ k

-- the digit at place k is 1
unfoldable pub bit_at : ℕ → ℕ → Bool
bit_at k n = n / 2 ^ k % 2 == 1

abbrev pub exclusive_or : Bool → Bool → Bool
exclusive_or a b = not (beq a b)

-- the register of eight given bits
abbrev pub coded : ℕ → CCBits
coded n = record { reg = n }

-- the register with a flag set or cleared, and a flag read
abbrev pub put : CCBit → Bool → CCBits → CCBits
put f v cc = coded (with_bit (place f) v cc.reg)

abbrev pub flag : CCBit → CCBits → Bool
flag f cc = bit_at (place f) cc.reg

-- the codes of a text's letters
abbrev pub ascii : String → List ℕ
ascii no_text = []
ascii (letter then rest) = code letter ∷ ascii rest

-- what is known of a flag: its mask, its letter, and its name, wherever the name's text lies
pub record Info : Type 0 where
  pub mask : ℕ
  pub short : ℕ
  pub name : List ℕ

abbrev pub told : CCInfo → Info
told i = record { mask = i.mask; short = i.short; name = i.name.now }

abbrev info : ℕ → Char → String → Info
info mask letter name = record { mask = mask; short = code letter; name = ascii name }

-- the mask, the letter and the name of each flag
abbrev pub info_of : CCBit → Info
info_of C = info 0x01 "C" "carry"
info_of «V» = info 0x02 "V" "overflow"
info_of Z = info 0x04 "Z" "zero"
info_of N = info 0x08 "N" "negative"
info_of I = info 0x10 "I" "IRQ mask"
info_of H = info 0x20 "H" "half carry"
info_of F = info 0x40 "F" "FIRQ mask"
info_of E = info 0x80 "E" "entire flag"
