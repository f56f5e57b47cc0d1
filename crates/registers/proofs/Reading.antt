-- What a caller needs of `put` and `flag`: a flag that was set is read, the others stay, and the register stays a byte.
-- Assumes nothing.
use Rattle.std.proofs.Common.{◌≡◌, ℕ, zero, suc, ◌<◌, Bool, ◌≢◌, sym, refl, ap, ◌∙◌}
use native.Mathlib.Decide.{ℕ_discrete}
use Rattle.registers.specs.ConditionCodes.{place, put, flag}
use Rattle.registers.specs.declared.CCBits.{CCBits}
use Rattle.registers.specs.declared.CCBit.{CCBit}
use Rattle.registers.specs.declared.CCBit.TheVariants.{C, «V», Z, N, I, H, F, E}
use Rattle.registers.proofs.Masks.{same, other, stays-byte, place-lt}

-- no two flags have one place
flag_at : ℕ → CCBit
flag_at zero = C
flag_at (suc zero) = «V»
flag_at (suc (suc zero)) = Z
flag_at (suc (suc (suc zero))) = N
flag_at (suc (suc (suc (suc zero)))) = I
flag_at (suc (suc (suc (suc (suc zero))))) = H
flag_at (suc (suc (suc (suc (suc (suc zero)))))) = F
flag_at (suc (suc (suc (suc (suc (suc (suc n))))))) = E

at_place : (f : CCBit) → flag_at (place f) ≡ f
unfolding flag_at
at_place C = refl
at_place «V» = refl
at_place Z = refl
at_place N = refl
at_place I = refl
at_place H = refl
at_place F = refl
at_place E = refl

pub place-inj : (f g : CCBit) → place f ≡ place g → f ≡ g
place-inj f g e = sym (at_place f) ∙ ap flag_at e ∙ at_place g

pub flag_same : (f : CCBit) (v : Bool) (cc : CCBits) → flag f (put f v cc) ≡ v
flag_same f v cc = same (place f) cc.reg v

pub flag-other : (f g : CCBit) (v : Bool) (cc : CCBits) → f ≢ g → flag f (put g v cc) ≡ flag f cc
flag-other f g v cc h = other (place f) (place g) cc.reg v (λ e. h (place-inj f g e))

-- the same by the places, which `omega arith` tells apart where the flags are written out
pub flag-far : (f g : CCBit) (v : Bool) (cc : CCBits) → place f ≢ place g → flag f (put g v cc) ≡ flag f cc
flag-far f g v cc h = other (place f) (place g) cc.reg v h

pub put_byte : (f : CCBit) (v : Bool) (cc : CCBits) → cc.reg < 256 → (put f v cc).reg < 256
put_byte f v cc h = stays-byte (place f) cc.reg v (place-lt f) h

-- whatever is set, a flag that two registers agree on they agree on afterwards
pub flag-kept : (f g : CCBit) (v : Bool) (x y : CCBits) → flag f x ≡ flag f y → flag f (put g v x) ≡ flag f (put g v y)
flag-kept f g v x y e = go (ℕ_discrete (place f) (place g))
  where
    go : Dec (place f ≡ place g) → flag f (put g v x) ≡ flag f (put g v y)
    go (yes p) = rw (place-inj f g p) (flag_same g v x ∙ sym (flag_same g v y))
    go (no n) = other (place f) (place g) x.reg v n ∙ e ∙ sym (other (place f) (place g) y.reg v n)
