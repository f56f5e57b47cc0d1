-- Reading within FFFF: an address there is its own remainder, so it does not matter that the code wraps before it tests.
-- Assumes nothing.
use Rattle.std.proofs.Common.{◌≡◌, ℕ, ◌+◌, ◌%◌, ◌<◌, ◌≤◌, Bool, true, false, cond, leb, refl, arith, leb-true}

pub within : (at : ℕ) → at ≤ 0xFFFF → at % 0x10000 ≡ at
within at h = omega arith

module _ {A : Type 0} (f : ℕ → A) (x : A) (n at : ℕ) (l : 0 < n) where
  pub unwrapped : cond (leb (at + n) 0x10000) (f (at % 0x10000)) x ≡ cond (leb (at + n) 0x10000) (f at) x
  unwrapped = go (leb (at + n) 0x10000) refl
    where
      go : (t : Bool) → leb (at + n) 0x10000 ≡ t → cond t (f (at % 0x10000)) x ≡ cond t (f at) x
      go true e =
          let h = leb-true (at + n) 0x10000 e in
          let d : at % 0x10000 ≡ at = omega arith in
          rw d
      go false e = refl

module _ {A : Type 0} (f : ℕ → ℕ → A) (x : A) (at : ℕ) where
  pub both-unwrapped : cond (leb (at + 2) 0x10000) (f (at % 0x10000) ((at + 1) % 0x10000)) x ≡ cond (leb (at + 2) 0x10000) (f at (at + 1)) x
  both-unwrapped = go (leb (at + 2) 0x10000) refl
    where
      go : (t : Bool) → leb (at + 2) 0x10000 ≡ t → cond t (f (at % 0x10000) ((at + 1) % 0x10000)) x ≡ cond t (f at (at + 1)) x
      go true e =
          let h = leb-true (at + 2) 0x10000 e in
          let d : at % 0x10000 ≡ at = omega arith in
          let k : (at + 1) % 0x10000 ≡ at + 1 = omega arith in
          rw (d, k)
      go false e = refl
