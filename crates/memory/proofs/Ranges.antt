-- Where an address lands, by the range that it lies in.
-- Assumes nothing.
use Rattle.std.proofs.Common.{◌≡◌, ℕ, ◌-◌, ◌<◌, ◌≤◌, Bool, true, false, cond, not, ◌&&◌, ltb, ◌⊎◌, sym, ap, ◌∙◌, ⊎_elim, arith, le-leb}
use borrow.Author.Tests.{lt-leb}
use Rattle.memory.specs.Map.{place_of, landing_of}
use Rattle.memory.specs.declared.Landing.TheVariants.{Stored, Device, Ignored}

pub place-high : (at : ℕ) → 0xFFE0 ≤ at → at < 0x10000 → at - 0x4000 ≡ place_of at
unfolding place_of
place-high at lo hi = simp (le-leb 0xFFE0 at lo, le-leb at 0xFFFF (omega arith))

pub place-low : (at : ℕ) → at < 0xFFE0 → at ≡ place_of at
unfolding place_of
place-low at h = simp (lt-leb 0xFFE0 at h)

module _ (at top : ℕ) (system : Bool) where
  pub first-devices : 0xFF00 ≤ at → at < 0xFF40 → Device ≡ landing_of at top system
  unfolding landing_of
  first-devices lo hi = simp (le-leb 0xFF00 at lo, le-leb at 0xFF3F (omega arith))

  pub unused : 0xFF40 ≤ at → at < 0xFFC0 → Ignored ≡ landing_of at top system
  unfolding landing_of
  unused lo hi =
      simp (le-leb 0xFF00 at (omega arith), lt-leb at 0xFF3F (omega arith), lt-leb 0xFFC0 at hi, le-leb 0xFF40 at lo, le-leb at 0xFFBF (omega arith))

  pub second-devices : 0xFFC0 ≤ at → at < 0xFFE0 → Device ≡ landing_of at top system
  unfolding landing_of
  second-devices lo hi =
      simp (le-leb 0xFF00 at (omega arith), lt-leb at 0xFF3F (omega arith), le-leb 0xFFC0 at lo, le-leb at 0xFFDF (omega arith))

  -- below the devices and at the vectors ram_top decides
  program : (at < 0xFF00) ⊎ (0xFFE0 ≤ at) → landing_of at top system ≡ cond (ltb top at && not system) Ignored (Stored (place_of at))
  unfolding landing_of
  program w =
      ⊎_elim (λ l. simp (lt-leb 0xFF00 at l, lt-leb 0xFFC0 at (omega arith), lt-leb 0xFF40 at (omega arith)))
      (λ l.
      simp (
        le-leb 0xFF00 at (omega arith),
        lt-leb at 0xFF3F (omega arith),
        le-leb 0xFFC0 at (omega arith),
        lt-leb at 0xFFDF (omega arith),
        le-leb 0xFF40 at (omega arith),
        lt-leb at 0xFFBF (omega arith),
      ))
      w

  pub above : (at < 0xFF00) ⊎ (0xFFE0 ≤ at) → ltb top at && not system ≡ true → Ignored ≡ landing_of at top system
  above w h = sym (program w ∙ ap (λ (b : Bool). cond b Ignored (Stored (place_of at))) h)

  pub kept : (at < 0xFF00) ⊎ (0xFFE0 ≤ at) → ltb top at && not system ≡ false → Stored (place_of at) ≡ landing_of at top system
  kept w h = sym (program w ∙ ap (λ (b : Bool). cond b Ignored (Stored (place_of at))) h)
