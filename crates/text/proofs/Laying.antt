-- A line laid part by part: the answer, what stands between it and the cycles, the cycles, a line feed.
-- Assumes nothing.
use Prim.Native.Nat.{ℕ, ◌+◌}
use mathlib.Core.Path.{◌≡◌, refl, sym, ◌∙◌}
use mathlib.Core.List.{List, [], ◌∷◌, ◌++◌}
use native.Mathlib.Omega.{arith}
use lib.ListN.{length, get_or, set, length-append}
use lib.Seq.{sets}
use Rattle.text.specs.Hex.{hex2, hex4}
use Rattle.text.specs.Lines.{decimal, line}
use Rattle.text.proofs.Stores.{sets-append}

-- PC and CC in their digits, with a space before, between and after
abbrev between : List ℕ → List ℕ → List ℕ
between p c = 32 ∷ get_or p 0 0 ∷ get_or p 1 0 ∷ get_or p 2 0 ∷ get_or p 3 0 ∷ 32 ∷ get_or c 0 0 ∷ get_or c 1 0 ∷ 32 ∷ []

parts : (answer pc cc cycles : ℕ) → line answer pc cc cycles ≡ decimal answer ++ (between (hex4 pc) (hex2 cc) ++ (decimal cycles ++ (10 ∷ [])))
unfolding line
parts answer pc cc cycles = refl

module _ (out : List ℕ) (at : ℕ) (answer pc cc cycles : ℕ) where
  pub end-of-line : {m last : ℕ} → m ≡ at + length (decimal answer) → last ≡ m + 9 + length (decimal cycles) → last + 1 ≡ at + length (line answer pc cc cycles)
  end-of-line e f = rw (parts answer pc cc cycles) (simp length-append (omega arith))

  pub laid : {m last : ℕ} {out₁ out₂ out₃ p c : List ℕ}
      → m ≡ at + length (decimal answer) → out₁ ≡ sets out at (decimal answer)
      → p ≡ hex4 pc → c ≡ hex2 cc → out₂ ≡ sets out₁ m (between p c)
      → last ≡ m + 9 + length (decimal cycles) → out₃ ≡ sets out₂ (m + 9) (decimal cycles)
      → set out₃ last 10 ≡ sets out at (line answer pc cc cycles)
  laid e₁ x₁ ep ec x₂ e₂ x₃ =
      rw (x₃, x₂, x₁, e₂, e₁, ep, ec, parts answer pc cc cycles)
      (sym (sets-append out (decimal answer) (between (hex4 pc) (hex2 cc) ++ (decimal cycles ++ (10 ∷ []))) at
      ∙ sets-append (sets out at (decimal answer)) (between (hex4 pc) (hex2 cc)) (decimal cycles ++ (10 ∷ [])) (at + length (decimal answer))
      ∙ sets-append (sets (sets out at (decimal answer)) (at + length (decimal answer)) (between (hex4 pc) (hex2 cc))) (decimal cycles) (10 ∷ []) (at + length (decimal answer) + 9)))
