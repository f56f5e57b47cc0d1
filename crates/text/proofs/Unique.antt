-- No second answer, and no second text at exit, fits.
-- Assumes nothing.
use mathlib.Core.Path.{refl, sym, ap, ◌∙◌}
use mathlib.Core.List.{List}
use Prim.Native.Nat.{ℕ}
use Rattle.answers.proofs.Determined.{Determines}
use Rattle.text.proofs.hex
use Rattle.text.proofs.lines
use Rattle.text.proofs.put

pub hex2 : Determines 0 hex.hex2.Kinds.ps hex.hex2.Kinds.r hex.hex2.Reads.Post
hex2 κs a x y ws vs p q = (p ∙ sym q, refl)

pub hex4 : Determines 0 hex.hex4.Kinds.ps hex.hex4.Kinds.r hex.hex4.Reads.Post
hex4 κs a x y ws vs p q = (p ∙ sym q, refl)

pub is_digit : Determines 0 hex.is_digit.Kinds.ps hex.is_digit.Kinds.r hex.is_digit.Reads.Post
is_digit κs a x y ws vs p q = (p ∙ sym q, refl)

pub value : Determines 0 hex.value.Kinds.ps hex.value.Kinds.r hex.value.Reads.Post
value κs a x y ws vs p q = (p.0 ∙ sym q.0, refl)

pub byte : Determines 0 hex.byte.Kinds.ps hex.byte.Kinds.r hex.byte.Reads.Post
byte κs a x y ws vs p q = (p ∙ sym q, refl)

pub decimal : Determines 0 lines.decimal.Kinds.ps lines.decimal.Kinds.r lines.decimal.Reads.Post
decimal κs a x y ws vs p q = (p ∙ sym q, refl)

pub alone : Determines 0 lines.alone.Kinds.ps lines.alone.Kinds.r lines.alone.Reads.Post
alone κs a x y ws vs p q = (p ∙ sym q, refl)

pub line : Determines 0 lines.line.Kinds.ps lines.line.Kinds.r lines.line.Reads.Post
line κs a x y ws vs p q = (p ∙ sym q, refl)

pub empty : Determines 0 lines.Text.empty.Kinds.ps lines.Text.empty.Kinds.r lines.Text.empty.Reads.Post
empty κs a x y ws vs p q = (p ∙ sym q, refl)

pub with_byte : Determines 0 lines.Text.with_byte.Kinds.ps lines.Text.with_byte.Kinds.r lines.Text.with_byte.Reads.Post
with_byte κs a x y ws vs p q = (p ∙ sym q, refl)

pub with-hex : Determines 0 lines.Text.with_hex.Kinds.ps lines.Text.with_hex.Kinds.r lines.Text.with_hex.Reads.Post
with-hex κs a x y ws vs p q = (p ∙ sym q, refl)

pub with-decimal : Determines 0 lines.Text.with_decimal.Kinds.ps lines.Text.with_decimal.Kinds.r lines.Text.with_decimal.Reads.Post
with-decimal κs a x y ws vs p q = (p ∙ sym q, refl)

pub text-put : Determines 1 lines.Text.put.Kinds.ps lines.Text.put.Kinds.r lines.Text.put.Reads.Post
text-put κs a x y ws vs p q = (p.0 ∙ sym q.0, ap (λ (l : List ℕ). (tt, (l, (tt, tt)))) (p.1 ∙ sym q.1))

pub puts : Determines 2 put.Kinds.ps put.Kinds.r put.Reads.Post
puts κs a x y ws vs p q = (refl, ap (λ (l : List ℕ). (l, (tt, (tt, tt)))) (p ∙ sym q))
