-- Signed numbers of the code: what is stored is read back, and the sums and differences of small ones fit.
-- Assumes nothing.
use mathlib.Core.Path.{◌≡◌, refl, sym, ◌∙◌}
use mathlib.Core.Bool.{Bool, true, false, cond, ◌||◌}
use Prim.Native.Nat.{ℕ, zero, suc, ◌+◌, ◌-◌, ◌≤◌, ◌<◌}
use native.Mathlib.Nat.{not-suc-le-zero}
use native.Mathlib.Omega.{arith}
use lib.Dec.{leb, ltb}
use borrow.Author.Tests.{ltb-true, ltb-false, lt-ltb, le-ltb, lt-leb, le-leb}
use lib.IntN.{ℤ, pos, negsuc, sub_ℕ, neg_ℤ, ◌+ℤ◌, ◌-ℤ◌, +ℤ_idl}
use lib.Signed.{mag, lt_z, le_z}
use mir.Syntax.{w32}
use mir.Val.{SFits, to_z, of_z}
use mir.ValLaws.{to_z_pos, to_z-of_z}
use Rattle.u8oru16.specs.Signed.{signed, outside}

-- 2 to the 31st
abbrev pub limit : ℕ
limit = 0x80000000

pub up : (n : ℕ) → n < limit → to_z w32 n ≡ pos n
up n l = to_z_pos w32 n l

pub back : (z : ℤ) → mag z < limit → to_z w32 (of_z w32 z) ≡ z
back z l = to_z-of_z w32 z (record { sfits = l })

mag-sub : (m n : ℕ) → mag (sub_ℕ m n) ≤ m + n
mag-sub m n = go (ltb m n) refl
  where
    go : (t : Bool) → ltb m n ≡ t → mag (cond t (negsuc (n - suc m)) (pos (m - n))) ≤ m + n
    go true e = omega arith
    go false e = omega arith

pub mag-add : (x y : ℤ) → mag (x +ℤ y) ≤ mag x + mag y + 1
mag-add (pos m) (pos n) = omega arith
mag-add (pos m) (negsuc n) = omega (arith, mag-sub m (suc n))
mag-add (negsuc m) (pos n) = omega (arith, mag-sub n (suc m))
mag-add (negsuc m) (negsuc n) = omega arith

pub mag-neg : (x : ℤ) → mag (neg_ℤ x) ≤ mag x + 1
mag-neg (pos zero) = omega arith
mag-neg (pos (suc n)) = omega arith
mag-neg (negsuc n) = omega arith

pub mag_same : (x : ℤ) → mag x ≤ mag x + 1
mag_same x = omega arith

-- x + f y + f c, where f keeps the sign or turns it: sums and differences. Each step fits, and what is stored is what the definition has
module _ (f : ℤ → ℤ) (small : (z : ℤ) → mag (f z) ≤ mag z + 1) (h c : ℕ) (x y : ℤ) (w : h ≤ 0x8000) (lx : mag x < h) (ly : mag y < h) (lc : c ≤ 1) where
  two-lt : mag (x +ℤ f y) < 0x20000
  two-lt = omega (arith, mag-add x (f y), small y)

  three-lt : mag (x +ℤ f y +ℤ f (pos c)) < limit
  three-lt = omega (arith, two-lt, mag-add (x +ℤ f y) (f (pos c)), small (pos c))

  back-x : to_z w32 (of_z w32 x) ≡ x
  back-x = back x (omega arith)

  back-y : to_z w32 (of_z w32 y) ≡ y
  back-y = back y (omega arith)

  pub two-fit : SFits w32 (to_z w32 (of_z w32 x) +ℤ f (to_z w32 (of_z w32 y)))
  two-fit = rw (back-x, back-y) (record { sfits = omega (arith, two-lt) })

  two_back : to_z w32 (of_z w32 (to_z w32 (of_z w32 x) +ℤ f (to_z w32 (of_z w32 y)))) ≡ x +ℤ f y
  two_back = rw (back-x, back-y) (back (x +ℤ f y) (omega (arith, two-lt)))

  pub three-fit : SFits w32 (to_z w32 (of_z w32 (to_z w32 (of_z w32 x) +ℤ f (to_z w32 (of_z w32 y)))) +ℤ f (to_z w32 c))
  three-fit = rw (two_back, up c (omega arith)) (record { sfits = three-lt })

  abbrev stored : ℤ
  stored = to_z w32 (of_z w32 (to_z w32 (of_z w32 (to_z w32 (of_z w32 x) +ℤ f (to_z w32 (of_z w32 y)))) +ℤ f (to_z w32 c)))

  pub three_back : (stored ≡ x +ℤ f y +ℤ f (pos c)) × (mag stored < limit)
  three_back = rw (two_back, up c (omega arith), back (x +ℤ f y +ℤ f (pos c)) three-lt) (refl, three-lt)

-- a number below h + h, read as signed
mag-below : (a n : ℕ) → a < n → mag (pos a -ℤ pos n) ≡ n - suc a
mag-below a zero l = absurd (not-suc-le-zero l)
mag-below a (suc n) l = rw (lt-ltb a (suc n) l)

module _ (h a : ℕ) (w : h ≤ 0x8000) where
  pub low_half : a < h → (to_z w32 a ≡ signed h a) × (mag (to_z w32 a) < h)
  unfolding signed
  low_half l = rw (up a (omega arith), lt-ltb a h l) (refl, l)

  module _ (k : h ≤ a) (l : a < h + h) where
    abbrev z : ℤ
    z = pos a -ℤ pos (h + h)

    less : mag z < h
    less = rw (mag-below a (h + h) l) (omega arith)

    pub high-fit : SFits w32 (to_z w32 a -ℤ to_z w32 (h + h))
    high-fit = rw (up a (omega arith), up (h + h) (omega arith)) (record { sfits = omega (arith, less) })

    pub high_half : (to_z w32 (of_z w32 (to_z w32 a -ℤ to_z w32 (h + h))) ≡ signed h a) × (mag (to_z w32 (of_z w32 (to_z w32 a -ℤ to_z w32 (h + h)))) < h)
    unfolding signed
    high_half = rw (up a (omega arith), up (h + h) (omega arith), back z (omega (arith, less)), le-ltb a h k) (refl, less)

-- the test of the range
module _ (h : ℕ) (w : h ≤ 0x8000) where
  turned : pos 0 -ℤ to_z w32 h ≡ neg_ℤ (pos h)
  turned = rw (up h (omega arith)) (+ℤ_idl (neg_ℤ (pos h)))

  less-than-limit : mag (neg_ℤ (pos h)) < limit
  less-than-limit = omega (arith, mag-neg (pos h))

  pub turned-fit : SFits w32 (pos 0 -ℤ to_z w32 h)
  turned-fit = rw turned (record { sfits = less-than-limit })

  pub out_of_range : (z : ℤ) → SFits w32 z → (lt_z (to_z w32 (of_z w32 z)) (to_z w32 (of_z w32 (pos 0 -ℤ to_z w32 h))) || le_z (to_z w32 h) (to_z w32 (of_z w32 z))) ≡ outside h z
  unfolding outside
  out_of_range z f = rw (to_z-of_z w32 z f, turned, back (neg_ℤ (pos h)) less-than-limit, up h (omega arith))

below-zero : (a n : ℕ) → a < n → lt_z (pos a -ℤ pos n) (pos 0) ≡ true
below-zero a zero l = absurd (not-suc-le-zero l)
below-zero a (suc n) l = rw (lt-ltb a (suc n) l)

-- the sign is that of the half
pub negative : (h a : ℕ) → a < h + h → lt_z (signed h a) (pos 0) ≡ leb h a
unfolding signed
negative h a l = go (ltb a h) refl
  where
    go : (t : Bool) → ltb a h ≡ t → lt_z (cond t (pos a) (pos a -ℤ pos (h + h))) (pos 0) ≡ leb h a
    go true e = le-ltb a 0 (omega arith) ∙ sym (lt-leb h a (ltb-true a h e))
    go false e = below-zero a (h + h) l ∙ sym (le-leb h a (ltb-false a h e))
