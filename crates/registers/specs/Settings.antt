-- The two flag settings, and where they part (document 01, section Flags).
-- Assumes nothing.
use Rattle.std.specs.Prelude.{◌≡◌, ℕ, ◌<◌, ◌≤◌, Bool, true, ◌≢◌, ◌↔◌}
use Rattle.registers.specs.ConditionCodes.{flag}
use Rattle.registers.specs.Arithmetic.{Operation, ADC, SBC, DEC, INC, top, Page, codes, manual}
use Rattle.registers.specs.Bought.{bought}
use Rattle.registers.specs.declared.CCBit.{CCBit}
use Rattle.registers.specs.declared.CCBit.TheVariants.{C, «V»}
use Rattle.registers.specs.declared.CCBits.{CCBits}
use Rattle.registers.specs.declared.Flags.{Flags}
use Rattle.registers.specs.declared.Flags.TheVariants.{Bought, Manual}

-- what an operation gives with flags by the manual and as bought
abbrev pub by : Flags → Operation → CCBits → ℕ → ℕ → Page
by Manual = manual
by Bought = bought

-- a flag after an operation
abbrev pub after : CCBit → Flags → Operation → CCBits → ℕ → ℕ → Bool
after f s o cc a b = flag f (codes cc (by s o cc a b).flags)

-- the inputs at which the settings part: with the first operand a and the second b
pub data Parts (cc : CCBits) (a b : ℕ) : Operation → Type 0 where
  dec-00 : a ≡ 0x00 → Parts cc a b DEC
  dec-80 : a ≡ 0x80 → Parts cc a b DEC
  inc-7f : a ≡ 0x7F → Parts cc a b INC
  inc-ff : a ≡ 0xFF → Parts cc a b INC
  adc : flag C cc ≡ true → a ≡ 0x7F → 0x80 ≤ b → Parts cc a b ADC
  sbc : flag C cc ≡ true → a ≡ 0x80 → 0x80 ≤ b → Parts cc a b SBC

-- two pages differ exactly in the case named, and then in V alone
pub record DifferInV (cc : CCBits) (p q : Page) (Case : Type 0) : Type 0 where
  pub value : p.value ≡ q.value
  pub others : (f : CCBit) → f ≢ «V» → flag f (codes cc p.flags) ≡ flag f (codes cc q.flags)
  pub exactly : (flag «V» (codes cc p.flags) ≢ flag «V» (codes cc q.flags)) ↔ Case

-- the law: as bought and by the manual agree in the result and in every flag but V, and part in V exactly at those inputs
abbrev pub SettingsPart : Type 0
SettingsPart = (o : Operation) (cc : CCBits) (a b : ℕ) → a < top o → b < top o → DifferInV cc (bought o cc a b) (manual o cc a b) (Parts cc a b o)
