-- A twin is judged first: where its numbers name something the call is made, else the count is 0 and every byte stays.
-- Assumes nothing.
use Prim.Native.Nat.{ℕ}
use mathlib.Core.Bool.{Bool, true, false, cond}
use mathlib.Core.List.{List}
use mathlib.Core.Path.{◌≡◌, refl}
use Rattle.host_compare.specs.declared.HostCounted.{HostCounted}

module _ (named : Bool) (x y : HostCounted) (after before : List ℕ) (r : HostCounted) where
  pub refuses : named ≡ false → r ≡ y → (r ≡ cond named x y) × (before ≡ cond named after before)
  refuses h p = (rw h p, rw h refl)

  pub passes : (us : List ℕ) → named ≡ true → r ≡ x → us ≡ after → (r ≡ cond named x y) × (us ≡ cond named after before)
  passes us h p q = (rw h p, rw h q)
