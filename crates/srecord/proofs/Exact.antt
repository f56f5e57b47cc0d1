-- A line that is taken is a line of the format, and the one text of its kind, address and data.
-- Assumes nothing.
use Rattle.std.proofs.Common.{◌≡◌, ℕ, zero, suc, ◌+◌, ◌-◌, ◌*◌, ◌/◌, ◌%◌, ◌<◌, ◌≤◌, Bool, true, false, ◌&&◌, leb, List, [], ◌∷◌, ◌++◌, length, get_or, take, drop, sym, refl, ap, ◌∙◌, arith, length-take-le, eqb-true}
use lib.Seq.{take-length}
use Rattle.text.specs.Hex.{is_digit}
use Rattle.text.proofs.Digits.{byte_small, hex2-of-byte}
use Rattle.srecord.specs.Layout.{pairs, is_paired, paired_bytes, checksum, summed, line_text}
use Rattle.srecord.specs.Line.{Meaning, is_summed, line_bytes, line_address, data_of, meant, line_of}
use Rattle.srecord.specs.Promises.{AllBytes, IsLine, StandsFor, LineExact}
use Rattle.srecord.proofs.Bools.{and_parts}
use Rattle.srecord.proofs.Scan.{take-one}
use Rattle.srecord.proofs.Shapes.{Held, in-0, in-1, in-9, Shaped, may-hold}
use Rattle.srecord.proofs.Lines.{Found, bad, good, found}
use Rattle.srecord.proofs.Sound.{Each, each_take, each-drop, text-is}

-- pairs of digits and a line feed are the text of their bytes
paired-exact : (t : List ℕ) → is_paired t ≡ true → t ≡ pairs (paired_bytes t) ++ (10 ∷ [])
unfolding is_paired paired_bytes pairs
paired-exact [] e = cc
paired-exact (c ∷ []) e = rw (eqb-true c 10 e)
paired-exact (a ∷ b ∷ t) e =
    let p = and_parts (is_digit a) (is_digit b && is_paired t) e in
    let q = and_parts (is_digit b) (is_paired t) p.1 in
    ap (λ (l : List ℕ). a ∷ b ∷ l) (paired-exact t q.1) ∙ ap (λ (l : List ℕ). l ++ (pairs (paired_bytes t) ++ (10 ∷ []))) (sym (hex2-of-byte a b p.0 q.0))

each-byte : (t : List ℕ) → Each (paired_bytes t)
unfolding paired_bytes
each-byte [] = tt
each-byte (c ∷ []) = tt
each-byte (a ∷ b ∷ t) = (byte_small a b, each-byte t)

are-bytes : (l : List ℕ) → Each l → AllBytes l
are-bytes [] h i = omega arith
are-bytes (b ∷ l) h zero = h.0
are-bytes (b ∷ l) h (suc i) = are-bytes l h.1 i

empty : (l : List ℕ) → length l ≡ 0 → l ≡ []
empty [] e = refl
empty (b ∷ l) e = absurd (omega arith)

-- all but the last, and the last
last_one : (l : List ℕ) → 0 < length l → l ≡ take (length l - 1) l ++ (get_or l (length l - 1) 0 ∷ [])
last_one l h =
    let n : length l - 1 + 1 ≡ length l = omega arith in
    sym (take-length l) ∙ ap (λ (k : ℕ). take k l) (sym n) ∙ take-one l (length l - 1) (omega arith)

whole : (c h l s : ℕ) (d : List ℕ) → c ≡ length d + 3 → l < 256 → s ≡ checksum (c ∷ h ∷ l ∷ d)
    → c ∷ h ∷ l ∷ (d ++ (s ∷ [])) ≡ summed (256 * h + l) d ++ (checksum (summed (256 * h + l) d) ∷ [])
whole c h l s d e small f =
    let a : (256 * h + l) / 256 ≡ h = omega arith in
    let b : (256 * h + l) % 256 ≡ l = omega arith in
    rw (a, b, f, e)

-- the bytes of a line, by its count and its checksum
all-bytes : (bs : List ℕ) → Each bs → 4 ≤ length bs → get_or bs 0 0 ≡ length bs - 1 → is_summed bs ≡ true
    → bs ≡ summed (line_address bs) (data_of bs) ++ (checksum (summed (line_address bs) (data_of bs)) ∷ [])
unfolding is_summed
all-bytes [] are h c s = absurd (omega arith)
all-bytes (b ∷ []) are h c s = absurd (omega arith)
all-bytes (b ∷ d ∷ []) are h c s = absurd (omega arith)
all-bytes (b ∷ d ∷ e ∷ bs) are h c s =
    let n : suc (suc (suc (length bs))) - 4 ≡ length bs - 1 = omega arith in
    let m : suc (suc (suc (length bs))) - 1 ≡ suc (suc (suc (length bs - 1))) = omega arith in
    let k : length (take (length bs - 1) bs) ≡ length bs - 1 = length-take-le (length bs - 1) bs (omega arith) in
    let f = eqb-true (get_or bs (length bs - 1) 0) (checksum (b ∷ d ∷ e ∷ take (length bs - 1) bs)) (rw m at s) in
    let w = whole b d e (get_or bs (length bs - 1) 0) (take (length bs - 1) bs) (omega arith) are.1.1.0 f in
    rw n (ap (λ (l : List ℕ). b ∷ d ∷ e ∷ l) (last_one bs (omega arith)) ∙ w)

text-exact : (text : List ℕ) → Shaped text → is_summed (line_bytes text) ≡ true
    → text ≡ line_text (get_or text 1 0) (line_address (line_bytes text)) (data_of (line_bytes text))
text-exact [] s f = absurd (omega (arith, s.size))
text-exact (c ∷ []) s f = absurd (omega (arith, s.size))
text-exact (c ∷ k ∷ t) s f =
    let p = paired-exact t s.paired in
    let b = all-bytes (paired_bytes t) (each-byte t) s.room s.count f in
    ap (λ (n : ℕ). n ∷ k ∷ t) s.first
    ∙ ap (λ (l : List ℕ). 83 ∷ k ∷ l) (p ∙ ap (λ (bs : List ℕ). pairs bs ++ (10 ∷ [])) b)
    ∙ sym (text-is k (line_address (paired_bytes t)) (data_of (paired_bytes t)))

is-line : (text : List ℕ) → Shaped text → is_summed (line_bytes text) ≡ true → IsLine text (get_or text 1 0) (line_address (line_bytes text)) (data_of (line_bytes text))
is-line text s f =
    let are = each-byte (drop 2 text) in
    let h = are-bytes (line_bytes text) are 1 in
    let l = are-bytes (line_bytes text) are 2 in
    record {
      address = omega arith;
      values = are-bytes (data_of (line_bytes text)) (each_take (length (line_bytes text) - 4) (drop 3 (line_bytes text)) (each-drop 3 (line_bytes text) are));
      count = rw s.width (may-hold s.may);
      exact = text-exact text s f;
    }

stands : (text : List ℕ) (kind a : ℕ) (d : List ℕ) → IsLine text kind a d → Held (length d) kind → StandsFor text (meant kind a d)
stands text _ a d l (in-0 h) = (a, l)
stands text _ a d l (in-9 e) = rw (empty d e) at l
stands text _ a d l (in-1 h k) = go (leb (a + length d) 65536) refl
  where
    go : (w : Bool) → leb (a + length d) 65536 ≡ w → StandsFor text (meant 49 a d)
    go true r = rw r l
    go false r = rw r tt

pub line-exact : LineExact
line-exact text = go (line_of text) (found text)
  where
    go : (m : Meaning) → Found text m → StandsFor text m
    go _ (bad r) = tt
    go _ (good s q) = stands text (get_or text 1 0) (line_address (line_bytes text)) (data_of (line_bytes text)) (is-line text s q) (rw s.width s.may)
