-- Sums and differences in whole numbers: the result, and whether it left the unsigned and the signed range. h is half the range: 80 for
-- bytes, 8000 for words.
-- Assumes nothing.
use Rattle.std.specs.Prelude.{ℕ, ◌+◌, ◌-◌, ◌*◌, ◌/◌, ◌%◌, ◌<◌, ◌≤◌, Bool, ◌||◌, [], ◌∷◌, ◌++◌, eqb, leb, ltb}
use Rattle.u8oru16.specs.Signed.{sum_out, diff_out}
use Rattle.registers.specs.Arithmetic.{Page, ◌:=◌, negative_and_zero}
use Rattle.registers.specs.declared.CCBit.TheVariants.{C, «V»}
use Rattle.registers.specs.declared.Flags.{Flags}
use Rattle.registers.specs.declared.Flags.TheVariants.{Bought, Manual}
use Rattle.whole.specs.declared.numbers.Parts.{Parts}

pub record Width (h : ℕ) : Type 0 where
  pub some : 0 < h
  pub most : h ≤ 0x8000

pub record Operands (h a b c : ℕ) : Type 0 where
  pub width : Width h
  pub first : a < h + h
  pub second : b < h + h
  pub carry : c ≤ 1

-- a + b + c
abbrev pub sum_of : ℕ → ℕ → ℕ → ℕ → Parts
sum_of h a b c = record { value = (a + b + c) % (h + h); carry = leb (h + h) (a + b + c); overflow = sum_out h a b c }

-- a - b - c
abbrev pub difference_of : ℕ → ℕ → ℕ → ℕ → Parts
difference_of h a b c = record { value = (a + (h + h) - (b + c)) % (h + h); carry = ltb a (b + c); overflow = diff_out h a b c }

-- of bytes in each setting: by the manual at once; as bought the carry first, then b, a flag being raised where either step raises it
abbrev pub joined : Parts → Parts → Parts
joined p q = record { value = q.value; carry = p.carry || q.carry; overflow = p.overflow || q.overflow }

abbrev pub sum_by : Flags → ℕ → ℕ → ℕ → Parts
sum_by Manual a b c = sum_of 0x80 a b c
sum_by Bought a b c = let p = sum_of 0x80 a c 0 in joined p (sum_of 0x80 p.value b 0)

abbrev pub difference_by : Flags → ℕ → ℕ → ℕ → Parts
difference_by Manual a b c = difference_of 0x80 a b c
difference_by Bought a b c = let p = difference_of 0x80 a c 0 in joined p (difference_of 0x80 p.value b 0)

-- the page of a result: N and Z by the value, V and C as they came out
abbrev pub page_of : ℕ → Parts → Page
page_of h p = record { value = p.value; flags = negative_and_zero h p.value ++ ((«V» := p.overflow) ∷ (C := p.carry) ∷ []) }

-- INC and DEC: C not affected; V by the manual the overflow, as bought the carry
abbrev pub count_v : Flags → Parts → Bool
count_v Manual p = p.overflow
count_v Bought p = p.carry

abbrev pub count_page : Flags → Parts → Page
count_page s p = record { value = p.value; flags = negative_and_zero 0x80 p.value ++ ((«V» := count_v s p) ∷ []) }

-- half of 256·t + m: C is what is left over; V not affected
abbrev pub half_page : ℕ → ℕ → Page
half_page m t =
    let r = (256 * t + m) / 2 in
    record { value = r; flags = negative_and_zero 0x80 r ++ ((C := eqb ((256 * t + m) % 2) 1) ∷ []) }
