-- The line of an address: of an instruction, and of a refusal laid over spaces.
-- Assumes nothing.
use Rattle.std.specs.Prelude.{Err, Ok, Result}
use Prim.Native.Nat.{ℕ, ◌+◌, ◌-◌, ◌≤◌, ◌<◌}
use Prim.Native.Char.{code}
use mathlib.Core.Path.{◌≡◌, refl, sym, ap, ◌∙◌}
use mathlib.Core.List.{List, [], ◌∷◌, ◌++◌, append_assoc}
use native.Mathlib.Omega.{arith}
use borrow.Author.Tests.{eq-eqb}
use lib.ListN.{length, replicate, length-append}
use lib.Seq.{sets}
use Rattle.answers.specs.Numbers.{number_of}
use Rattle.answers.specs.declared.Refusal.{Refusal}
use Rattle.answers.proofs.Numbers.{numbers-small}
use Rattle.text.specs.Hex.{hex2, hex4}
use Rattle.text.specs.Lines.{decimal, line_feed}
use Rattle.text.proofs.Decimals.{at-most-three}
use Rattle.text.proofs.Stores.{sets-append}
use Rattle.memory.specs.Fits.{Bytes}
use Rattle.memory.specs.Map.{byte_at}
use Rattle.registers.specs.ConditionCodes.{ascii}
use Rattle.disassembly.specs.Figures.{byte_text}
use Rattle.disassembly.specs.Line.{space, columns, line_with, instruction_line}
use Rattle.disassembly.specs.Disassembly.{legible, answered, disassembled_of, written_to, line_after}
use Rattle.disassembly.proofs.Columns.{columns-length, laid, line-length}
use Rattle.disassembly.proofs.Laws.{room, legible-taken, text-of-48}
use Rattle.listing.specs.Listing.{refused_text, refused_at, line_from, next_from}
use Rattle.decode.specs.declared.instruction.Instruction.{Instruction}

-- ---- four texts over a blank line

third : (a b r rest : List ℕ) → length (a ++ b) ≡ 22 → length r ≤ 6 → sets (a ++ (b ++ (replicate 6 space ++ rest))) 22 r ≡ (a ++ b) ++ (columns 6 r ++ rest)
third a b r rest h k = rw (← (append_assoc a b (replicate 6 space ++ rest))) (laid (a ++ b) r rest 6 22 h k)

fourth : (d c s rest : List ℕ) → length (d ++ c) ≡ 28 → length s ≤ 20 → sets (d ++ (c ++ (replicate 20 space ++ rest))) 28 s ≡ (d ++ c) ++ (columns 20 s ++ rest)
fourth d c s rest h k = rw (← (append_assoc d c (replicate 20 space ++ rest))) (laid (d ++ c) s rest 20 28 h k)

regrouped : (a b c d rest : List ℕ) → ((a ++ b) ++ c) ++ (d ++ rest) ≡ (a ++ (b ++ (c ++ d))) ++ rest
regrouped a b c d rest = simp append_assoc

module _ (p q r s rest : List ℕ) (hp : length p ≤ 6) (hq : length q ≤ 16) (hr : length r ≤ 6) (hs : length s ≤ 20) where
  over-blank : (l₁ l₂ l₃ l₄ : List ℕ) → l₁ ≡ sets (replicate 48 space ++ rest) 0 p → l₂ ≡ sets l₁ 6 q → l₃ ≡ sets l₂ 22 r → l₄ ≡ sets l₃ 28 s → l₄ ≡ line_with p q r s ++ rest
  unfolding line_with
  over-blank l₁ l₂ l₃ l₄ e₁ e₂ e₃ e₄ =
      let a = columns 6 p in
      let b = columns 16 q in
      let c = columns 6 r in
      let last = replicate 20 space ++ rest in
      let la = columns-length 6 p hp in
      let lab : length (a ++ b) ≡ 22 = length-append a b ∙ omega (arith, columns-length 16 q hq) in
      let labc : length ((a ++ b) ++ c) ≡ 28 = length-append (a ++ b) c ∙ omega (arith, columns-length 6 r hr) in
      let f₁ : l₁ ≡ a ++ (replicate 16 space ++ (replicate 6 space ++ last)) = e₁ ∙ laid [] p (replicate 16 space ++ (replicate 6 space ++ last)) 6 0 refl hp in
      let f₂ : l₂ ≡ a ++ (b ++ (replicate 6 space ++ last)) = e₂ ∙ (ap (λ (l : List ℕ). sets l 6 q) f₁ ∙ laid a q (replicate 6 space ++ last) 16 6 la hq) in
      let f₃ : l₃ ≡ (a ++ b) ++ (c ++ last) = e₃ ∙ (ap (λ (l : List ℕ). sets l 22 r) f₂ ∙ third a b r last lab hr) in
      e₄ ∙ (ap (λ (l : List ℕ). sets l 28 s) f₃ ∙ (fourth (a ++ b) c s rest labc hs ∙ regrouped a b c (columns 20 s) rest))

-- the operand of a refusal, written in four parts
parts : (l n : List ℕ) (b : ℕ) → sets (sets (sets (sets l 28 (code "$" ∷ [])) 29 (hex2 b)) 31 (ascii "  REFUSED BY ")) 44 n ≡ sets l 28 (byte_text b ++ (ascii "  REFUSED BY " ++ n))
parts l n b =
    let t = ascii "  REFUSED BY " in
    sym (sets-append l (code "$" ∷ []) (hex2 b ++ (t ++ n)) 28 ∙ (sets-append (sets l 28 (code "$" ∷ [])) (hex2 b) (t ++ n) 29 ∙ sets-append (sets (sets l 28 (code "$" ∷ [])) 29 (hex2 b)) t n 31))

refused-short : (b : ℕ) (x : Refusal) → length (refused_text b x) ≤ 20
refused-short b x = rw (length-append (ascii "  REFUSED BY ") (decimal (number_of x))) (omega (arith, at-most-three (number_of x) (omega (arith, numbers-small x))))

module _ (mem : List ℕ) (at : ℕ) (x : Refusal) where
  pub refused-laid : (l₁ l₂ l₃ l₄ : List ℕ) → l₁ ≡ sets (replicate 48 space ++ (line_feed ∷ [])) 0 (hex4 at) → l₂ ≡ sets l₁ 6 (hex2 (byte_at mem at)) → l₃ ≡ sets l₂ 22 (ascii "FCB")
      → l₄ ≡ sets (sets (sets (sets l₃ 28 (code "$" ∷ [])) 29 (hex2 (byte_at mem at))) 31 (ascii "  REFUSED BY ")) 44 (decimal (number_of x)) → l₄ ≡ refused_at mem at x ++ (line_feed ∷ [])
  unfolding refused_at
  refused-laid l₁ l₂ l₃ l₄ e₁ e₂ e₃ e₄ =
      over-blank (hex4 at) (hex2 (byte_at mem at)) (ascii "FCB") (refused_text (byte_at mem at) x) (line_feed ∷ []) (omega arith) (omega arith) (omega arith) (refused-short (byte_at mem at) x) l₁ l₂ l₃ l₄ e₁ e₂ e₃
      (e₄ ∙ parts l₃ (decimal (number_of x)) (byte_at mem at))

-- ---- what a disassembly told

abbrev blank_line : List ℕ
blank_line = replicate 48 space ++ (line_feed ∷ [])

module _ (mem : List ℕ) (at : ℕ) (h : length mem ≡ 65536) where
  -- in a line of 49 bytes
  answer-is : disassembled_of mem at 49 ≡ answered at 49 (legible mem at)
  unfolding disassembled_of
  answer-is = rw (eq-eqb (length mem) 65536 h)

  line-is : line_after mem at blank_line ≡ written_to mem at blank_line (legible mem at)
  unfolding line_after
  line-is = rw (eq-eqb (length mem) 65536 h)

  pub told_line : Bytes mem → at < 65536 → (n : ℕ) → disassembled_of mem at 49 ≡ Ok n
      → (line_after mem at blank_line ≡ line_from mem at (legible mem at) ++ (line_feed ∷ [])) × (at + n ≡ next_from at (legible mem at))
  told_line b l n q = go (legible mem at) refl (sym answer-is ∙ q)
    where
      go : (d : Result Instruction Refusal) → legible mem at ≡ d → answered at 49 d ≡ Ok n
          → (line_after mem at blank_line ≡ line_from mem at d ++ (line_feed ∷ [])) × (at + n ≡ next_from at d)
      go (Err x) e r = let z : ◌≡◌ {A = ℕ} 0 1 = cc in absurd (omega arith)
      go (Ok i) e r =
          let k : n ≡ i.next - at = cc in
          let m = room mem at i b l e in
          (line-is ∙ ap (written_to mem at blank_line) e, omega (arith, k, m.after))

  pub told-refusal : (x : Refusal) → disassembled_of mem at 49 ≡ Err x → legible mem at ≡ Err x
  told-refusal x q = go (legible mem at) (sym answer-is ∙ q)
    where
      go : (d : Result Instruction Refusal) → answered at 49 d ≡ Err x → d ≡ Err x
      go (Err y) r = let z : y ≡ x = cc in ap Err z
      go (Ok i) r = let z : ◌≡◌ {A = ℕ} 0 1 = cc in absurd (omega arith)

  -- a line has 49 bytes
  pub line-of-49 : Bytes mem → at < 65536 → length (line_from mem at (legible mem at) ++ (line_feed ∷ [])) ≡ 49
  unfolding refused_at
  line-of-49 b l = go (legible mem at) refl
    where
      go : (d : Result Instruction Refusal) → legible mem at ≡ d → length (line_from mem at d ++ (line_feed ∷ [])) ≡ 49
      go (Ok i) e = length-append (instruction_line mem at i) (line_feed ∷ []) ∙ omega (arith, text-of-48 mem at i b l (legible-taken mem at i e).0)
      go (Err x) e =
          length-append (refused_at mem at x) (line_feed ∷ [])
          ∙ omega (arith, line-length (hex4 at) (hex2 (byte_at mem at)) (ascii "FCB") (refused_text (byte_at mem at) x) (omega arith) (omega arith) (omega arith) (refused-short (byte_at mem at) x))
