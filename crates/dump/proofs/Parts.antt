-- The parts of a line, each written right after the one before, and how long they are.
-- Assumes nothing.
use Prim.Native.Nat.{ℕ, zero, suc, ◌+◌, ◌-◌, ◌*◌, ◌≤◌, ◌<◌}
use mathlib.Core.Bool.{Bool, true, false, cond}
use mathlib.Core.List.{List, [], ◌∷◌, ◌++◌, append_assoc, append-nil}
use mathlib.Core.Path.{◌≡◌, refl, sym, ap, subst, ◌∙◌}
use native.Mathlib.Omega.{arith}
use lib.Dec.{ltb}
use lib.ListN.{length, get_or, take, drop, length-append, length-drop}
use lib.Seq.{take_all}
use Rattle.std.proofs.lemmas.List.{take_more}
use Rattle.text.specs.Hex.{hex2}
use Rattle.text.specs.Lines.{line_feed}
use Rattle.text.proofs.Stores.{sets-append}
use Rattle.machine.specs.Record.{Field, A, B, X, Y, U, S, PC, DP, CC, Waiting, Armed, Cycles, Instructions, bytes, counter}
use Rattle.machine.proofs.Header.{length-counter}
use Rattle.difference.specs.declared.entries.Entry.{Entry}
use Rattle.registers.specs.ConditionCodes.{ascii}
use Rattle.dump.specs.declared.lines.Shown.{Shown}
use Rattle.dump.specs.declared.lines.Shown.TheVariants.{Byte, Word, Counter, WaitState, Mark}
use Rattle.dump.specs.Told.{field_text, wait_text, mark_text, hex_bytes, hex_of, value_text, spaced_line, field_at, entry_line, Wrote, name_text, shown_as, shown_at, shown_text}

-- ---- one after the other

pub put-then : {out one two xs ys : List ℕ} {at middle end : ℕ} → Wrote out at xs middle one → Wrote one middle ys end two → Wrote out at (xs ++ ys) end two
put-then {out} {one} {two} {xs} {ys} {at} {middle} {end} p q =
    record {
      ends = q.ends ∙ rw (p.ends, length-append xs ys) (omega arith);
      laid = q.laid ∙ rw (p.ends, p.laid) (sym (sets-append out xs ys at));
    }

pub part-is : {out new xs ys : List ℕ} {at end : ℕ} → xs ≡ ys → Wrote out at xs end new → Wrote out at ys end new
part-is {out} {new} {xs} {ys} {at} {end} e p = subst (λ (l : List ℕ). Wrote out at l end new) e p

-- ---- hexadecimal

pub hex-length : (l : List ℕ) → length (hex_bytes l) ≡ 2 * length l
unfolding hex_bytes
hex-length [] = refl
hex-length (b ∷ bs) = omega (arith, hex-length bs)

bytes-length : (n x : ℕ) → length (bytes n x) ≡ n
unfolding bytes
bytes-length zero x = refl
bytes-length (suc n) x = ap suc (bytes-length n x)

pub hex-of-length : (n x : ℕ) → length (hex_of n x) ≡ 2 * n
unfolding hex_of
hex-of-length n x = hex-length (bytes n x) ∙ rw (bytes-length n x)

-- the low bytes are the last ones
last-bytes : (k n x : ℕ) → drop k (bytes (k + n) x) ≡ bytes n x
unfolding bytes
last-bytes zero n x = let e : 0 + n ≡ n = omega arith in rw e
last-bytes (suc k) n x = let e : suc k + n ≡ suc (k + n) = omega arith in rw e (last-bytes k n x)

pub low-bytes : (n x : ℕ) → n ≤ 8 → hex_bytes (drop (8 - n) (counter x)) ≡ hex_of n x
unfolding counter hex_of
low-bytes n x h = let e : 8 ≡ 8 - n + n = omega arith in ap hex_bytes (ap (λ (m : ℕ). drop (8 - n) (bytes m x)) e ∙ last-bytes (8 - n) n x)

-- the last bytes of a counter
pub low-part : (n x : ℕ) (b : List ℕ) → b ≡ counter x → n ≤ 8 → hex_bytes (take n (drop (8 - n) b)) ≡ hex_of n x
low-part n x b e h =
    let z : length b ≡ 8 = ap length e ∙ length-counter x in
    rw (take_all n (drop (8 - n) b) (rw length-drop (omega arith)), e) (low-bytes n x h)

hex-append : (xs ys : List ℕ) → hex_bytes (xs ++ ys) ≡ hex_bytes xs ++ hex_bytes ys
unfolding hex_bytes
hex-append [] ys = refl
hex-append (x ∷ xs) ys = rw (hex-append xs ys) (sym (append_assoc (hex2 x) (hex_bytes xs) (hex_bytes ys)))

-- a byte more
pub hex-more : (l : List ℕ) (k : ℕ) → k < length l → hex_bytes (take k l) ++ hex2 (get_or l k 0) ≡ hex_bytes (take (k + 1) l)
unfolding hex_bytes
hex-more l k h = rw (take_more l k 0 h, hex-append (take k l) (get_or l k 0 ∷ []), append-nil)

-- ---- fields

pub armed-is : (n : ℕ) → (n ≡ 0 → ⊥) → ascii "armed" ≡ mark_text n
unfolding mark_text
armed-is zero h = absurd (h refl)
armed-is (suc n) h = refl

pub sync-is : (n : ℕ) → (n ≡ 0 → ⊥) → (n ≡ 1 → ⊥) → ascii "SYNC" ≡ wait_text n
unfolding wait_text
sync-is zero h g = absurd (h refl)
sync-is (suc zero) h g = absurd (g refl)
sync-is (suc (suc n)) h g = refl

-- a value is shown by its field
shown-is : (f : Field) (n : ℕ) → shown_text (shown_as f) n ≡ value_text f n
unfolding shown_text value_text
shown-is A n = refl
shown-is B n = refl
shown-is X n = refl
shown-is Y n = refl
shown-is U n = refl
shown-is S n = refl
shown-is PC n = refl
shown-is DP n = refl
shown-is CC n = refl
shown-is Waiting n = refl
shown-is Armed n = refl
shown-is Cycles n = refl
shown-is Instructions n = refl

name-short : (f : Field) → length (field_text f) ≤ 12
name-short A = omega arith
name-short B = omega arith
name-short X = omega arith
name-short Y = omega arith
name-short U = omega arith
name-short S = omega arith
name-short PC = omega arith
name-short DP = omega arith
name-short CC = omega arith
name-short Waiting = omega arith
name-short Armed = omega arith
name-short Cycles = omega arith
name-short Instructions = omega arith

wait-short : (n : ℕ) → length (wait_text n) ≤ 7
unfolding wait_text
wait-short zero = omega arith
wait-short (suc zero) = omega arith
wait-short (suc (suc n)) = omega arith

mark-short : (n : ℕ) → length (mark_text n) ≤ 7
unfolding mark_text
mark-short zero = omega arith
mark-short (suc n) = omega arith

pub shown-short : (s : Shown) (n : ℕ) → length (shown_text s n) ≤ 16
unfolding shown_text
shown-short Byte n = omega (arith, hex-of-length 1 n)
shown-short Word n = omega (arith, hex-of-length 2 n)
shown-short Counter n = omega (arith, hex-of-length 8 n)
shown-short WaitState n = omega (arith, wait-short n)
shown-short Mark n = omega (arith, mark-short n)

either-short : (t : Bool) (a b : List ℕ) → length a ≤ 12 → length b ≤ 12 → length (cond t a b) ≤ 12
either-short true a b p q = p
either-short false a b p q = q

pub named-short : (what : ℕ) → length (name_text what) ≤ 12
named-short what = either-short (ltb what 13) (field_text (field_at what)) (ascii "memory") (name-short (field_at what)) (omega arith)

-- ---- an entry's line

by-kind : (t : Bool) (f : Field) (x y : ℕ)
    → spaced_line (cond t (field_text f) (ascii "memory")) (shown_text (cond t (shown_as f) Word) x) (shown_text (cond t (shown_as f) Word) y)
    ≡ cond t (spaced_line (field_text f) (value_text f x) (value_text f y)) (spaced_line (ascii "memory") (hex_of 2 x) (hex_of 2 y))
unfolding shown_text
by-kind true f x y = ap (λ (l : List ℕ). spaced_line (field_text f) l (shown_text (shown_as f) y)) (shown-is f x) ∙ ap (λ (l : List ℕ). spaced_line (field_text f) (value_text f x) l) (shown-is f y)
by-kind false f x y = refl

pub line-is : (e : Entry) → spaced_line (name_text e.what) (shown_text (shown_at e.what) e.left) (shown_text (shown_at e.what) e.right) ≡ entry_line e
unfolding entry_line
line-is e = by-kind (ltb e.what 13) (field_at e.what) e.left e.right

with-short : (name left right : List ℕ) → length name ≤ 12 → length left ≤ 16 → length right ≤ 16 → length (spaced_line name left right) ≤ 48
unfolding spaced_line
with-short name left right p q r = rw (length-append name (32 ∷ left ++ (32 ∷ right ++ (line_feed ∷ []))), length-append left (32 ∷ right ++ (line_feed ∷ [])), length-append right (line_feed ∷ [])) (omega arith)

pub line-short : (e : Entry) → length (entry_line e) ≤ 48
line-short e =
    let s = shown_at e.what in
    rw (← line-is e) (with-short (name_text e.what) (shown_text s e.left) (shown_text s e.right) (named-short e.what) (shown-short s e.left) (shown-short s e.right))
