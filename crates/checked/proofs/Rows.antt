-- Every row of the table of checked examples holds: a test that antt computes, and a law from the test to the row.
-- Assumes nothing.
use Prim.Native.Nat.{ℕ, ◌+◌, ◌/◌, ◌%◌, ◌≤◌, ◌<◌}
use mathlib.Core.Path.{◌≡◌, refl, sym, ◌∙◌}
use mathlib.Core.Bool.{Bool, true, false, not, cond, ◌||◌}
use mathlib.Core.Logic.{◌⊎◌, inl, inr}
use mathlib.Core.List.{List, [], ◌∷◌}
use borrow.Author.Tests.{eqb-true, eqb-false, ltb-true}
use lib.Dec.{T, eqb, eqb→eq, leb, leb→le, ltb, ltb→lt}
use Rattle.u8oru16.specs.Signed.{signed, outside, sum_out, diff_out}
use Rattle.registers.specs.ConditionCodes.{place, bit_at, coded, flag}
use Rattle.registers.specs.Arithmetic.{Operation, Line, ◌:=◌, Page, codes}
use Rattle.registers.specs.Settings.{by}
use Rattle.registers.specs.declared.CCBit.{CCBit}
use Rattle.registers.specs.declared.CCBit.TheVariants.{C}
use Rattle.registers.specs.declared.CCBits.{CCBits}
use Rattle.registers.specs.declared.Flags.{Flags}
use Rattle.registers.specs.declared.Flags.TheVariants.{Bought, Manual}
use Rattle.registers.proofs.Laws.{carry-alone}
use Rattle.registers.proofs.Reading.{flag_same, flag-far, place-inj}
use Rattle.memory.specs.Map.{place_of}
use Rattle.decode.specs.PostByte.{is_indirect, form_of, is_refused, five_bits}
use Rattle.stack.specs.Frames.{stacked_by}
use Rattle.stack.specs.Pushing.{bytes_pushed}
use Rattle.vectors.specs.Table.{is_entire}
use Rattle.calls.specs.Interrupts.{vector_of}
use Rattle.calls.proofs.Room.{small-interrupt}
use Rattle.checked.proofs.Addresses.{offset-row, number_of_form, refused-row, system-row, ignored-row}
use Rattle.checked.specs.Rows.{Example, of, carrying, post_byte, bad_post_byte, system_write, ignored_write, refused_interrupt, Shown, Gives, Holds, Every, examples}

-- two tests as one
abbrev both : Bool → Bool → Bool
both true b = b
both false b = false

both-T : (a b : Bool) → T (both a b) → T a × T b
both-T true b t = (tt, t)
both-T false b t = absurd t

agree : Bool → Bool → Bool
agree true b = b
agree false b = not b

agree→eq : (a b : Bool) → T (agree a b) → a ≡ b
unfolding agree
agree→eq true true t = refl
agree→eq true false t = absurd t
agree→eq false true t = absurd t
agree→eq false false t = refl

-- the first line of a flag says v
says : CCBit → Bool → List Line → Bool
unfolding agree
says f v [] = false
says f v ((g := w) ∷ rest) = cond (eqb (place f) (place g)) (agree w v) (says f v rest)

says→flag : (f : CCBit) (v : Bool) (cc : CCBits) (l : List Line) → T (says f v l) → flag f (codes cc l) ≡ v
unfolding says
says→flag f v cc [] t = absurd t
says→flag f v cc ((g := w) ∷ rest) t = go (λ u. says→flag f v cc rest u) (eqb (place f) (place g)) refl t
  where
    go : (T (says f v rest) → flag f (codes cc rest) ≡ v) → (x : Bool) → eqb (place f) (place g) ≡ x → T (cond x (agree w v) (says f v rest))
        → flag f (codes cc ((g := w) ∷ rest)) ≡ v
    go later true e t = rw (place-inj f g (eqb-true (place f) (place g) e)) (flag_same g w (codes cc rest) ∙ agree→eq w v t)
    go later false e t = flag-far f g w (codes cc rest) (eqb-false (place f) (place g) e) ∙ later t

all_say : List Line → List Line → Bool
unfolding says
all_say l [] = true
all_say l ((f := v) ∷ rest) = both (says f v l) (all_say l rest)

shown : (cc : CCBits) (l lines : List Line) → T (all_say l lines) → Shown (codes cc l) lines
unfolding all_say
shown cc l [] t = tt
shown cc l ((f := v) ∷ rest) t = let (e, g) = both-T (says f v l) _ t in (says→flag f v cc l e, shown cc l rest g)

-- a page's test, and what it shows whatever the register was
page : Page → ℕ → List Line → Bool
unfolding all_say
page p r lines = both (eqb p.value r) (all_say p.flags lines)

-- the condition codes with the carry clear and with it set
with-carry : Bool → CCBits
with-carry true = coded 1
with-carry false = coded 0

carried : (v : Bool) → flag C (with-carry v) ≡ v
unfolding with-carry bit_at
carried true = refl
carried false = refl

gives : (s : Flags) (o : Operation) (cc : CCBits) (a b r : ℕ) (lines : List Line) (v : Bool) → flag C cc ≡ v → T (page (by s o (with-carry v) a b) r lines) → Gives s o cc a b r lines
unfolding page
gives s o cc a b r lines v e t =
    let p = carry-alone s o cc (with-carry v) a b (e ∙ sym (carried v)) in
    let (x, y) = both-T (eqb (by s o (with-carry v) a b).value r) _ t in
    rw p (eqb→eq _ r x, shown cc (by s o (with-carry v) a b).flags lines y)

settings : Operation → ℕ → ℕ → ℕ → List Line → List Line → Bool → Bool
unfolding page
settings o a b r bought manual v =
    both (page (by Bought o (with-carry v) a b) r bought) (page (by Manual o (with-carry v) a b) r manual)

holds_at : (o : Operation) (a b r : ℕ) (bought manual : List Line) (v : Bool) → T (settings o a b r bought manual v)
    → (cc : CCBits) → flag C cc ≡ v → Gives Bought o cc a b r bought × Gives Manual o cc a b r manual
unfolding settings
holds_at o a b r bought manual v t cc e =
    let (x, y) = both-T (page (by Bought o (with-carry v) a b) r bought) _ t in
    (gives Bought o cc a b r bought v e x, gives Manual o cc a b r manual v e y)

either : (at : ℕ) (t : Bool) → ltb at 0xFF00 ≡ t → T (t || leb 0xFFE0 at) → (at < 0xFF00) ⊎ (0xFFE0 ≤ at)
either at true e h = inl (ltb-true at 0xFF00 e)
either at false e h = inr (leb→le 0xFFE0 at h)

right : Example → Bool
unfolding settings
right (of o a b r bought manual) = both (settings o a b r bought manual true) (settings o a b r bought manual false)
right (carrying o a b r bought manual) = settings o a b r bought manual true
right (post_byte p x a) = both (ltb p 0x80) (both (eqb (p / 32 % 4) 0) (eqb ((x + five_bits p) % 65536) a))
right (bad_post_byte p n) = both (is_refused (form_of p)) (eqb (number_of_form (form_of p)) n)
right (system_write at p) = both (ltb at 0xFF00 || leb 0xFFE0 at) (eqb (place_of at) p)
right (ignored_write at top) = both (ltb at 0xFF00) (ltb top at)
right (refused_interrupt i sp n) = both (ltb sp (bytes_pushed (stacked_by (is_entire (vector_of i))))) (eqb 8 n)

holds : (x : Example) → T (right x) → Holds x
unfolding right
holds (of o a b r bought manual) t =
    let (set, clear) = both-T (settings o a b r bought manual true) _ t in
    λ cc. go cc set clear (flag C cc) refl
  where
    go : (cc : CCBits) → T (settings o a b r bought manual true) → T (settings o a b r bought manual false) → (v : Bool) → flag C cc ≡ v
        → Gives Bought o cc a b r bought × Gives Manual o cc a b r manual
    go cc set clear true e = holds_at o a b r bought manual true set cc e
    go cc set clear false e = holds_at o a b r bought manual false clear cc e
holds (carrying o a b r bought manual) t = holds_at o a b r bought manual true t
holds (post_byte p x a) t =
    let (l, u) = both-T (ltb p 0x80) _ t in
    let (f, e) = both-T (eqb (p / 32 % 4) 0) _ u in
    offset-row p x a (ltb→lt p 0x80 l) (eqb→eq _ 0 f) (eqb→eq _ a e)
holds (bad_post_byte p n) t =
    let (f, e) = both-T (is_refused (form_of p)) _ t in
    λ mem at r h b. refused-row p (form_of p) refl f mem at r h b ∙ eqb→eq (number_of_form (form_of p)) n e
holds (system_write at p) t =
    let (w, e) = both-T (ltb at 0xFF00 || leb 0xFFE0 at) _ t in
    system-row at p (either at (ltb at 0xFF00) refl w) (eqb→eq _ p e)
holds (ignored_write at top) t = let (l, h) = both-T (ltb at 0xFF00) _ t in ignored-row at top (ltb→lt at 0xFF00 l) (ltb→lt top at h)
holds (refused_interrupt i sp n) t =
    let (l, e) = both-T (ltb sp (bytes_pushed (stacked_by (is_entire (vector_of i))))) _ t in
    λ mem m s size k w q. small-interrupt mem m s i size k w (rw q (ltb→lt sp (bytes_pushed (stacked_by (is_entire (vector_of i)))) l)) ∙ eqb→eq 8 n e

all_right : List Example → Bool
unfolding right
all_right [] = true
all_right (x ∷ xs) = both (right x) (all_right xs)

all_hold : (xs : List Example) → T (all_right xs) → Every xs
unfolding all_right
all_hold [] t = tt
all_hold (x ∷ xs) t = let (e, f) = both-T (right x) _ t in (holds x e, all_hold xs f)

pub every-row-holds : Every examples
unfolding all_right right settings page all_say says agree with-carry bit_at sum_out diff_out outside signed five_bits form_of is_indirect place_of
every-row-holds = all_hold examples tt
