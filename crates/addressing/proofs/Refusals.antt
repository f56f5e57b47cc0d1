-- An address is refused by 4 alone, exactly where the next one lies past FFFF.
-- Assumes nothing.
use Rattle.std.proofs.Common.{◌≡◌, ℕ, ◌<◌, Bool, true, false, cond, leb, ◌↔◌, refl, arith, leb-false, leb-true, Err, Ok, Result}
use Rattle.answers.specs.declared.Refusal.{Refusal}
use Rattle.answers.specs.declared.Refusal.TheVariants.{PastEnd}
use Rattle.addressing.specs.Address.{effective_of, advanced, resolved_of}
use Rattle.addressing.specs.Laws.{ResolveRefuses, NextRefused}
use Rattle.addressing.specs.declared.Addressed.{Addressed}

not_found : {A : Type 0} {x : Result Addressed Refusal} {a : Addressed} {y : Refusal} → x ≡ Ok a → x ≡ Err y → A
not_found p q = let z : ◌≡◌ {A = ℕ} 0 1 = cc in absurd (omega arith)

pub resolve-refuses : ResolveRefuses
unfolding resolved_of
resolve-refuses mem r o next x = go (leb next 0xFFFF) _
  where
    go : (t : Bool) (a : Addressed) → cond t (Ok a) (Err PastEnd) ≡ Err x → x ≡ PastEnd
    go true a e = not_found refl e
    go false a e = cc

pub next-refused : NextRefused
unfolding resolved_of
next-refused mem r o next = go (leb next 0xFFFF) refl
  where
    go : (t : Bool) → leb next 0xFFFF ≡ t → (advanced (effective_of o mem r next) next ≡ Err PastEnd) ↔ (0xFFFF < next)
    go true e = let l = leb-true next 0xFFFF e in rw e (λ q. not_found refl q, λ h. absurd (omega arith))
    go false e = let l = leb-false next 0xFFFF e in rw e (λ q. omega arith, λ h. refl)
