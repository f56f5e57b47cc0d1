-- What is still to be pulled, register by register from the end of the order of pushing.
-- Assumes nothing.
use Rattle.std.proofs.Common.{◌≡◌, ℕ, zero, suc, ◌+◌, ◌-◌, ◌<◌, ◌≤◌, true, false, cond, List, ◌∷◌, reverse, get_or, drop, sym, refl, ◌∙◌, add-one, arith, drop-cons}
use Rattle.registers.specs.ConditionCodes.{bit_at}
use Rattle.registers.specs.Names.{register_size}
use Rattle.registers.specs.declared.Name.{Name}
use Rattle.registers.specs.declared.Name.TheVariants.{A, B, D, X, Y, U, S, PC, DP, CC}
use Rattle.registers.specs.declared.Stack.{Stack}
use Rattle.stack.specs.Pushing.{order, chosen}
use Rattle.stack.specs.Pulling.{pulled_into, pulls}
use Rattle.stack.specs.declared.pulling.Pulled.{Pulled}
use Rattle.stack.proofs.Filling.{bit-of}

-- what is pulled at place k is what is pushed at place 7 - k
reversed : (stack : Stack) (k : ℕ) → k < 8 → get_or (reverse (order stack)) k (0, CC) ≡ get_or (order stack) (7 - k) (0, CC)
reversed stack zero h = refl
reversed stack (suc zero) h = refl
reversed stack (suc (suc zero)) h = refl
reversed stack (suc (suc (suc zero))) h = refl
reversed stack (suc (suc (suc (suc zero)))) h = refl
reversed stack (suc (suc (suc (suc (suc zero))))) h = refl
reversed stack (suc (suc (suc (suc (suc (suc zero)))))) h = refl
reversed stack (suc (suc (suc (suc (suc (suc (suc zero))))))) h = refl
reversed stack (suc (suc (suc (suc (suc (suc (suc (suc k)))))))) h = absurd (omega arith)

abbrev name_at : Stack → ℕ → Name
name_at stack k = (get_or (order stack) (7 - k) (0, CC)).1

pub size_small : (n : Name) → register_size n ≤ 2
size_small A = omega arith
size_small B = omega arith
size_small D = omega arith
size_small X = omega arith
size_small Y = omega arith
size_small U = omega arith
size_small S = omega arith
size_small PC = omega arith
size_small DP = omega arith
size_small CC = omega arith

module _ (mem : List ℕ) (stack : Stack) (mask : ℕ) where
  -- the pull from bit k on
  abbrev pub from : ℕ → Pulled → Pulled
  from k p = pulls mem (chosen mask (drop k (reverse (order stack)))) p

  pub all-pulled : (p : Pulled) → p ≡ from 8 p
  unfolding chosen pulls
  all-pulled p = refl

  -- a turn of the loop: bit k
  module _ (k : ℕ) (h : k < 8) where
    split : drop k (reverse (order stack)) ≡ get_or (order stack) (7 - k) (0, CC) ∷ drop (k + 1) (reverse (order stack))
    split = rw (add-one, ← (reversed stack k h)) (drop-cons (reverse (order stack)) k (0, CC) h)

    one : (p : Pulled) → from k p ≡ pulls mem (cond (bit_at k mask) (name_at stack k ∷ chosen mask (drop (k + 1) (reverse (order stack)))) (chosen mask (drop (k + 1) (reverse (order stack))))) p
    unfolding chosen
    one p =
        let e : 7 - (7 - k) ≡ k = omega arith in
        rw (split, bit-of stack (7 - k) (omega arith), e)

    pub turn-off : bit_at k mask ≡ false → (p : Pulled) → from (k + 1) p ≡ from k p
    turn-off b p = sym (one p ∙ rw b)

    pub turn-on : bit_at k mask ≡ true → (p : Pulled) → from (k + 1) (pulled_into mem (name_at stack k) p) ≡ from k p
    unfolding pulls
    turn-on b p = sym (one p ∙ rw b)
