-- A number's digits written from the last one on.
-- Assumes nothing.
use Prim.Native.Nat.{ℕ, suc, ◌+◌, ◌-◌, ◌/◌, ◌%◌, ◌^◌, ◌≤◌, ◌<◌}
use mathlib.Core.Path.{◌≡◌, refl, sym, ap, ◌∙◌}
use mathlib.Core.List.{List, [], ◌∷◌, ◌++◌, append_assoc, append-nil}
use native.Mathlib.Omega.{arith}
use native.Mathlib.Numerals.{add-one}
use lib.ListN.{length, set, length-append}
use lib.Seq.{sets, set_comm, length-sets}
use Rattle.text.specs.Lines.{decimal}
use Rattle.text.proofs.Decimals.{short, long, one_more, one-or-more}

-- a byte before others is stored first or last
before : (l vs : List ℕ) (i j v : ℕ) → i < j → set (sets l j vs) i v ≡ sets (set l i v) j vs
before l [] i j v h = refl
before l (x ∷ vs) i j v h = before (set l j x) vs i (suc j) v (omega arith) ∙ ap (λ (m : List ℕ). sets m (suc j) vs) (set_comm l j i x v (λ e. omega (arith, e)))

-- the digits after those of `rest` are written; the last one of `rest` goes to i
pub record Filled (out₀ : List ℕ) (at n : ℕ) (out : List ℕ) (rest i : ℕ) : Type 0 where
  pub last : List ℕ
  pub digits_are : decimal n ≡ decimal rest ++ last
  pub place_is : i + 1 ≡ at + length (decimal rest)
  pub text-is : out ≡ sets out₀ (i + 1) last

module _ (out₀ : List ℕ) (at n : ℕ) where
  pub at_first : n < 2 ^ 64 → {end : ℕ} → end ≡ at + length (decimal n) → Filled out₀ at n out₀ n (end - 1)
  at_first h e = record { last = []; digits_are = sym (append-nil (decimal n)); place_is = omega (arith, one-or-more n h); text-is = refl }

  module _ (out : List ℕ) (rest i : ℕ) (f : Filled out₀ at n out rest i) where
    pub same_size : length out ≡ length out₀
    same_size = ap length f.text-is ∙ length-sets out₀ (i + 1) f.last

    pub inside : at + length (decimal n) ≤ length out₀ → i < length out
    inside h = omega (arith, same_size, f.place_is, ap length f.digits_are ∙ length-append (decimal rest) f.last)

    stored : (v : ℕ) → set out i v ≡ sets out₀ i (v ∷ f.last)
    stored v = rw (f.text-is, add-one i) (before out₀ f.last i (suc i) v (omega arith))

    pub turn : 10 ≤ rest → rest < 2 ^ 64 → Filled out₀ at n (set out i (48 + rest % 10)) (rest / 10) (i - 1)
    turn h k =
        let b = one-or-more (rest / 10) (omega arith) in
        let e : i - 1 + 1 ≡ i = omega (arith, f.place_is, one_more rest h k) in
        record {
          last = (48 + rest % 10) ∷ f.last;
          digits_are = f.digits_are ∙ rw (long rest h k) (append_assoc (decimal (rest / 10)) ((48 + rest % 10) ∷ []) f.last);
          place_is = omega (arith, f.place_is, one_more rest h k);
          text-is = rw e (stored (48 + rest % 10));
        }

    pub done : rest < 10 → set out i (48 + rest) ≡ sets out₀ at (decimal n)
    done h =
        let e : i ≡ at = omega (arith, f.place_is, ap length (short rest h)) in
        stored (48 + rest) ∙ rw (f.digits_are, short rest h, e)
