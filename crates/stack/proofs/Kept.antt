-- A pull that does not name CC leaves it.
-- Assumes nothing.
use Rattle.std.proofs.Common.{◌≡◌, ℕ, Bool, true, false, cond, List, [], ◌∷◌, sym, refl, ◌∙◌, true≢false}
use Rattle.u8oru16.specs.declared.u8u16.{u8u16}
use Rattle.registers.specs.ConditionCodes.{bit_at}
use Rattle.registers.specs.RegisterSet.{written}
use Rattle.registers.specs.declared.CCBits.{CCBits}
use Rattle.registers.specs.declared.Name.{Name}
use Rattle.registers.specs.declared.Name.TheVariants.{A, B, D, X, Y, U as US, S as SP, PC, DP, CC}
use Rattle.registers.specs.declared.Set.{Set}
use Rattle.registers.specs.declared.Stack.TheVariants.{S, U}
use Rattle.stack.specs.Pushing.{chosen}
use Rattle.stack.specs.Pulling.{pulled_to, pulled_into, pulls, pulled}
use Rattle.stack.specs.Laws.{PullKeepsCodes}
use Rattle.stack.specs.declared.pulling.Pulled.{Pulled}

-- every register but CC
abbrev pub is_other : Name → Bool
is_other A = true
is_other B = true
is_other D = true
is_other X = true
is_other Y = true
is_other US = true
is_other SP = true
is_other PC = true
is_other DP = true
is_other CC = false

pub other-written : (r : Set) (n : Name) (v : u8u16) → is_other n ≡ true → (written r n v).cc ≡ r.cc
other-written r A v e = refl
other-written r B v e = refl
other-written r D v e = refl
other-written r X v e = refl
other-written r Y v e = refl
other-written r US v e = refl
other-written r SP v e = refl
other-written r PC v e = refl
other-written r DP v e = refl
other-written r CC v e = absurd (true≢false (sym e))

-- ---- a list of other registers

abbrev Others : List Name → Type 0
Others [] = Unit {0}
Others (n ∷ l) = (is_other n ≡ true) × Others l

abbrev OtherSlots : List (ℕ × Name) → Type 0
OtherSlots [] = Unit {0}
OtherSlots (slot ∷ l) = (is_other slot.1 ≡ true) × OtherSlots l

chosen-others : (mask : ℕ) (l : List (ℕ × Name)) → OtherSlots l → Others (chosen mask l)
unfolding chosen
chosen-others mask [] h = tt
chosen-others mask (slot ∷ l) h = go (bit_at slot.0 mask) (chosen-others mask l h.1)
  where
    go : (b : Bool) → Others (chosen mask l) → Others (cond b (slot.1 ∷ chosen mask l) (chosen mask l))
    go true k = (h.0, k)
    go false k = k

-- ---- what they leave

module _ (mem : List ℕ) (cc : CCBits) where
  pulls-hold : (l : List Name) → Others l → (p : Pulled) → p.regs.cc ≡ cc → (pulls mem l p).regs.cc ≡ cc
  unfolding pulls
  pulls-hold [] k p h = h
  pulls-hold (n ∷ l) k p h = pulls-hold l k.1 (pulled_into mem n p) (other-written p.regs n _ k.0 ∙ h)

-- the registers after CC in the order of pulling, where n is the other stack pointer
abbrev without : Name → List (ℕ × Name)
without n = (1, A) ∷ (2, B) ∷ (3, DP) ∷ (4, X) ∷ (5, Y) ∷ (6, n) ∷ (7, PC) ∷ []

module _ (mem : List ℕ) (r : Set) (mask pointer : ℕ) where
  all_hold : (n : Name) → is_other n ≡ true → (pulls mem (chosen mask (without n)) (pulled_to r pointer)).regs.cc ≡ r.cc
  all_hold n e =
      pulls-hold mem r.cc (chosen mask (without n)) (chosen-others mask (without n) (refl, (refl, (refl, (refl, (refl, (e, (refl, tt)))))))) (pulled_to r pointer) refl

pub pull-keeps-codes : PullKeepsCodes
unfolding pulled chosen
pull-keeps-codes mem r S mask e = rw e (all_hold mem r mask r.s US refl)
pull-keeps-codes mem r U mask e = rw e (all_hold mem r mask r.u SP refl)
