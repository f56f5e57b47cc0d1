-- The bytes' column tells the bytes: two lists of pairs that are the same are of the same bytes.
-- Assumes nothing.
use Rattle.std.proofs.Common.{◌≡◌, ℕ, zero, suc, ◌+◌, ◌*◌, ◌/◌, ◌%◌, ◌<◌, List, [], ◌∷◌, ◌++◌, get_or, take, drop, sym, refl, ap, ◌∙◌, take_at, drop_at}
use Rattle.text.specs.Hex.{glyph, hex2, byte_of}
use Rattle.text.proofs.Digits.{byte-of-hex2}
use Rattle.memory.specs.Fits.{Bytes}
use Rattle.memory.specs.Map.{byte_at}
use Rattle.memory.proofs.Fits.{byte_fits}
use Rattle.disassembly.specs.Line.{space, byte_pairs}
use Rattle.disassembly.specs.Laws.{instruction_bytes}
use Rattle.disassembly.proofs.Columns.{pairs-length}

-- two digits determine a byte
same_byte : (x y : ℕ) → x < 256 → y < 256 → hex2 x ++ (space ∷ []) ≡ hex2 y ++ (space ∷ []) → x ≡ y
same_byte x y h k e =
    let p : glyph (x / 16) ≡ glyph (y / 16) = ap (λ (l : List ℕ). get_or l 0 0) e in
    let q : glyph (x % 16) ≡ glyph (y % 16) = ap (λ (l : List ℕ). get_or l 1 0) e in
    sym (byte-of-hex2 x h) ∙ (ap (λ (d : ℕ). byte_of d (glyph (x % 16))) p ∙ ap (λ (d : ℕ). byte_of (glyph (y / 16)) d) q) ∙ byte-of-hex2 y k

pub same_bytes : (n : ℕ) (one other : List ℕ) (at : ℕ) → Bytes one → Bytes other → byte_pairs n one at ≡ byte_pairs n other at → instruction_bytes n one at ≡ instruction_bytes n other at
unfolding byte_pairs instruction_bytes
same_bytes zero one other at h k e = refl
same_bytes (suc n) one other at h k e =
    let l = byte_pairs n one at in
    let m = byte_pairs n other at in
    let x = byte_at one ((at + n) % 65536) in
    let y = byte_at other ((at + n) % 65536) in
    let t : l ≡ m =
    sym (take_at l (hex2 x ++ (space ∷ [])) (3 * n) (pairs-length n one at)) ∙ (ap (take (3 * n)) e ∙ take_at m (hex2 y ++ (space ∷ [])) (3 * n) (pairs-length n other at)) in
    let d : hex2 x ++ (space ∷ []) ≡ hex2 y ++ (space ∷ []) =
    sym (drop_at l (hex2 x ++ (space ∷ [])) (3 * n) (pairs-length n one at)) ∙ (ap (drop (3 * n)) e ∙ drop_at m (hex2 y ++ (space ∷ [])) (3 * n) (pairs-length n other at)) in
    let b : x ≡ y = same_byte x y (byte_fits one h ((at + n) % 65536)) (byte_fits other k ((at + n) % 65536)) d in
    let i = same_bytes n one other at h k t in
    ap (λ (z : List ℕ). z ++ (x ∷ [])) i ∙ ap (λ (z : ℕ). instruction_bytes n other at ++ (z ∷ [])) b
