-- An address is refused by 4, 5 or 24 alone.
-- Assumes nothing.
use Rattle.std.specs.Prelude.{Err, Ok, Result}
use Prim.Native.Nat.{ℕ, ◌≤◌}
use mathlib.Core.Bool.{Bool, true, false, ◌&&◌, ◌||◌}
use mathlib.Core.Path.{◌≡◌, refl}
use native.Mathlib.Decide.{ℕ_discrete}
use native.Mathlib.Omega.{arith}
use borrow.Author.Tests.{eqb-true, leb-true}
use lib.Dec.{T, eqb, leb}
use Rattle.answers.specs.Numbers.{number_of}
use Rattle.decode.specs.Operand.{operand_bytes, operand_at}
use Rattle.decode.proofs.Sound.{SoundRead, operand_sound}
use Rattle.addressing.proofs.Refusals.{resolve-refuses}
use Rattle.refusals.specs.Addresses.{resolved_from, OfAddressing, AddressRefuses}
use Rattle.answers.specs.declared.Refusal.{Refusal}
use Rattle.decode.specs.declared.operand.Operand.{Operand}

four : (n : ℕ) → n ≡ 4 → T (eqb n 4 || (eqb n 5 || eqb n 24))
four n e = rw e tt

five : (n : ℕ) → n ≡ 5 → T (eqb n 4 || (eqb n 5 || eqb n 24))
five n e = rw e tt

last : (n : ℕ) → n ≡ 24 → T (eqb n 4 || (eqb n 5 || eqb n 24))
last n e = rw e tt

one_of : (n : ℕ) → T ((leb 4 n && leb n 5) || eqb n 24) → T (eqb n 4 || (eqb n 5 || eqb n 24))
one_of n t = go (leb 4 n) refl (leb n 5) refl (eqb n 24) refl t
  where
    between : 4 ≤ n → n ≤ 5 → Dec (n ≡ 4) → T (eqb n 4 || (eqb n 5 || eqb n 24))
    between l h (yes e) = four n e
    between l h (no d) = five n (omega arith)

    go : (a : Bool) → leb 4 n ≡ a → (b : Bool) → leb n 5 ≡ b → (c : Bool) → eqb n 24 ≡ c → T ((a && b) || c) → T (eqb n 4 || (eqb n 5 || eqb n 24))
    go true p true q c s k = between (leb-true 4 n p) (leb-true n 5 q) (ℕ_discrete n 4)
    go true p false q true s k = last n (eqb-true n 24 s)
    go true p false q false s k = absurd k
    go false p b q true s k = last n (eqb-true n 24 s)
    go false p b q false s k = absurd k

pub address-refuses : AddressRefuses
address-refuses mode mem r at x = go (operand_at mode mem at) (operand_sound mem mode at)
  where
    go : (d : Result (Operand × ℕ) Refusal) → SoundRead mem at (operand_bytes mode) d → resolved_from mem r d ≡ Err x → OfAddressing x
    go (Ok (o, next)) k e = rw (resolve-refuses mem r o next x e) tt
    go (Err y) k e = let d : y ≡ x = cc in rw (← d) (one_of (number_of y) k)
