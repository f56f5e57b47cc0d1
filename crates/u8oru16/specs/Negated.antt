-- Negation and sign extension.
-- Assumes nothing.
use Rattle.std.specs.Prelude.{◌+◌, ◌-◌, ◌%◌, Bool, true, false, cond, nat_lt}
use Rattle.u8oru16.specs.declared.u8u16.{u8u16}
use Rattle.u8oru16.specs.declared.u8u16.TheVariants.{u8, u16}
use Rattle.u8oru16.specs.declared.Negated.{Negated}

-- the two's complement: 0 less the number, kept to its own size
abbrev pub negated : u8u16 → u8u16
negated (u8 b) = u8 ((256 - b) % 256)
negated (u16 w) = u16 ((65536 - w) % 65536)

-- 0 less the number, read unsigned, and whether that is below -128 or -32768. A byte above 80 gives a word
abbrev pub negated_wide : u8u16 → Negated
negated_wide (u8 b) =
    cond (nat_lt 0x80 b)
    (record { value = negated (u16 b); overflow = true })
    (record { value = negated (u8 b); overflow = false })
negated_wide (u16 w) = record { value = negated (u16 w); overflow = nat_lt 0x8000 w }

-- the negation where it is asked for, else the value itself; the negation's overflow in both cases
abbrev pub forced : u8u16 → Bool → Negated
forced v negative = record { value = cond negative (negated_wide v).value v; overflow = (negated_wide v).overflow }

-- a word with the sign of the byte in its high byte
abbrev pub sign_extended : u8u16 → u8u16
sign_extended (u8 b) = u16 (cond (nat_lt b 0x80) b (0xFF00 + b))
sign_extended (u16 w) = u16 w
