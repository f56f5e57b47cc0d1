-- The lines of a page: what is read of a flag after them, and two pages that differ in the line of V.
-- Assumes nothing.
use Rattle.std.proofs.Common.{◌≡◌, ℕ, Bool, true, false, not, ◌&&◌, eqb, ◌≢◌, ◌↔◌, List, [], ◌∷◌, ◌++◌, sym, refl, ap, ◌∙◌, true≢false}
use borrow.Author.Tests.{eqb-false}
use Rattle.registers.specs.ConditionCodes.{place, flag}
use Rattle.registers.specs.Arithmetic.{Line, ◌:=◌, Page, codes}
use Rattle.registers.specs.Settings.{DifferInV}
use Rattle.registers.specs.declared.CCBit.{CCBit}
use Rattle.registers.specs.declared.CCBit.TheVariants.{«V»}
use Rattle.registers.specs.declared.CCBits.{CCBits}
use Rattle.registers.proofs.Reading.{flag_same, flag-far, flag-other, flag-kept}

-- a flag with no line
abbrev pub absent : CCBit → List Line → Bool
absent f [] = true
absent f ((g := v) ∷ rest) = not (eqb (place f) (place g)) && absent f rest

-- the first line names another flag, and so do the others
first : (t u : Bool) → (not t && u) ≡ true → t ≡ false
first true u e = absurd (true≢false (sym e))
first false u e = refl

rest : (t u : Bool) → (not t && u) ≡ true → u ≡ true
rest true u e = absurd (true≢false (sym e))
rest false u e = e

-- a flag with no line stays
pub stays : (f : CCBit) (cc : CCBits) (l : List Line) → absent f l ≡ true → flag f (codes cc l) ≡ flag f cc
stays f cc [] e = refl
stays f cc ((g := v) ∷ l) e =
    flag-far f g v (codes cc l) (eqb-false (place f) (place g) (first (eqb (place f) (place g)) (absent f l) e))
    ∙ stays f cc l (rest (eqb (place f) (place g)) (absent f l) e)

-- a flag is what its first line says
pub reads : (f : CCBit) (cc : CCBits) (l r : List Line) (v : Bool) → absent f l ≡ true → flag f (codes cc (l ++ ((f := v) ∷ r))) ≡ v
reads f cc [] r v e = flag_same f v (codes cc r)
reads f cc ((g := w) ∷ l) r v e =
    flag-far f g w (codes cc (l ++ ((f := v) ∷ r))) (eqb-false (place f) (place g) (first (eqb (place f) (place g)) (absent f l) e))
    ∙ reads f cc l r v (rest (eqb (place f) (place g)) (absent f l) e)

others : (f : CCBit) (cc : CCBits) (l r : List Line) (u v : Bool) → f ≢ «V»
    → flag f (codes cc (l ++ ((«V» := u) ∷ r))) ≡ flag f (codes cc (l ++ ((«V» := v) ∷ r)))
others f cc [] r u v n = flag-other f «V» u (codes cc r) n ∙ sym (flag-other f «V» v (codes cc r) n)
others f cc ((g := w) ∷ l) r u v n = flag-kept f g w _ _ (others f cc l r u v n)

-- two pages alike but for V
pub part : (cc : CCBits) (n : ℕ) (l r : List Line) (u v : Bool) (Case : Type 0) → absent «V» l ≡ true → ((u ≢ v) ↔ Case)
    → DifferInV cc (record { value = n; flags = l ++ ((«V» := u) ∷ r) }) (record { value = n; flags = l ++ ((«V» := v) ∷ r) }) Case
part cc n l r u v Case e c = record {
  value = refl;
  others = λ f h. others f cc l r u v h;
  exactly = rw (reads «V» cc l r u e, reads «V» cc l r v e) c;
}

-- two pages that are the same
pub alike : (cc : CCBits) {p q : Page} {Case : Type 0} → p ≡ q → (Case → ⊥) → DifferInV cc p q Case
alike cc e n = record {
  value = ap (λ (p : Page). p.value) e;
  others = λ f h. ap (λ (p : Page). flag f (codes cc p.flags)) e;
  exactly = (λ d. absurd (d (ap (λ (p : Page). flag «V» (codes cc p.flags)) e)), λ k. absurd (n k));
}
