-- What the library says of an overflow, said by `sum_out`, `diff_out` and the carry.
-- Assumes nothing.
use Rattle.std.proofs.Common.{◌≡◌, ℕ, suc, ◌+◌, ◌-◌, ◌^◌, ◌<◌, ◌≤◌, Bool, true, false, ◌||◌, ltb, leb, ℤ, pos, negsuc, ◌+ℤ◌, ◌-ℤ◌, sym, refl, ap, ◌∙◌, arith, le-ltb, lt-ltb, ltb-false, ltb-true, le-leb, w8, w16, to_z, of_z, to_z-of_z, Fits, SFits}
use mir.Facts.{sfits_to_z}
use Rattle.std.specs.Bool.{FalseIff}
use borrow.Author.Tests.{lt-leb}
use lib.Signed.{mag}
use mir.Syntax.{Width}
use mir.Val.{sel, hbits}
use Rattle.u8oru16.specs.Signed.{signed, outside, sum_out, diff_out}
use Rattle.u8oru16.proofs.Signed.{signed_low, signed_high, to-signed}
use Rattle.registers.proofs.Whole.{tests, outside-is, pos-is, neg-alone-is}

-- a test that fails exactly where n is below k
pub carries : (n k : ℕ) (v : Bool) → FalseIff v (n < k) → v ≡ leb k n
carries n k true f = sym (le-leb k n (omega (arith, f)))
carries n k false f = sym (lt-leb k n f)

pub borrows : (a b : ℕ) (v : Bool) → FalseIff v (b ≤ a) → v ≡ ltb a b
borrows a b true f = sym (lt-ltb a b (omega (arith, f)))
borrows a b false f = sym (le-ltb a b f)

or-none : (t : Bool) → (t || false) ≡ t
or-none true = refl
or-none false = refl

-- z leaves the range exactly where its size does not fit
outside-size : (h : ℕ) (z : ℤ) → outside h z ≡ leb h (mag z)
outside-size h (pos n) =
    outside-is h (pos n) (pos-is n) ∙ rw (le-ltb (n + h) 0 (omega arith)) (ap (λ (k : ℕ). leb k n) (omega arith))
outside-size h (negsuc n) =
    outside-is h (negsuc n) (neg-alone-is n) ∙ rw (lt-leb (h + suc n) 0 (omega arith)) (or-none (ltb (0 + h) (suc n)) ∙ tests (suc (0 + h)) (suc n) h n (omega arith))

add-none : (x : ℤ) → x +ℤ pos 0 ≡ x
add-none (pos n) = ap pos (omega arith)
add-none (negsuc n) = rw (lt-ltb 0 (suc n) (omega arith)) (ap negsuc (omega arith))

leaves : (w : Width) (h : ℕ) → 2 ^ hbits w ≡ h → (z : ℤ) (v : Bool) → FalseIff v (SFits w z) → v ≡ outside h z
leaves w h e z v f = carries (mag z) h v (sized v f) ∙ sym (outside-size h z)
  where
    sized : (v : Bool) → FalseIff v (SFits w z) → FalseIff v (mag z < h)
    sized true f = λ l. f (record { sfits = rw e l })
    sized false f = rw e at f.sfits

to-signed-byte : (n : ℕ) → n < 256 → to_z w8 n ≡ signed 0x80 n
to-signed-byte n l = go (ltb n 128) refl
  where
    go : (t : Bool) → ltb n 128 ≡ t → sel t (pos n) (negsuc (256 - suc n)) ≡ signed 0x80 n
    go true e = sym (signed_low 0x80 n (ltb-true n 128 e))
    go false e = sym (signed_high 0x80 n (ltb-false n 128 e) l)

module _ (w : Width) (h a b : ℕ) (e : 2 ^ hbits w ≡ h) (x y : ℤ) (v : Bool) (p : x ≡ signed h a) (q : y ≡ signed h b) where
  sum-leaves : FalseIff v (SFits w (x +ℤ y)) → v ≡ sum_out h a b 0
  unfolding sum_out
  sum-leaves f = leaves w h e (x +ℤ y) v f ∙ rw (p, q) (ap (outside h) (sym (add-none (signed h a +ℤ signed h b))))

  difference-leaves : FalseIff v (SFits w (x -ℤ y)) → v ≡ diff_out h a b 0
  unfolding diff_out
  difference-leaves f = leaves w h e (x -ℤ y) v f ∙ rw (p, q) (ap (outside h) (sym (add-none (signed h a -ℤ signed h b))))

-- a signed number goes through its bits
through : (w : Width) (n : ℕ) (x : ℤ) → Fits w n → x ≡ to_z w n → to_z w (of_z w x) ≡ to_z w n
through w n x f p = to_z-of_z {w = w} (rw p (sfits_to_z {w = w} {n = n} f)) ∙ p

module _ (a b : ℕ) (x y : ℤ) (v : Bool) where
  pub byte-sum : a < 256 → b < 256 → x ≡ to_z w8 a → y ≡ to_z w8 b → FalseIff v (SFits w8 (to_z w8 (of_z w8 x) +ℤ to_z w8 (of_z w8 y))) → v ≡ sum_out 0x80 a b 0
  byte-sum la lb p q = sum-leaves w8 0x80 a b refl (to_z w8 (of_z w8 x)) (to_z w8 (of_z w8 y)) v (through w8 a x (record { fits = la }) p ∙ to-signed-byte a la) (through w8 b y (record { fits = lb }) q ∙ to-signed-byte b lb)

  pub byte-difference : a < 256 → b < 256 → x ≡ to_z w8 a → y ≡ to_z w8 b → FalseIff v (SFits w8 (to_z w8 (of_z w8 x) -ℤ to_z w8 (of_z w8 y))) → v ≡ diff_out 0x80 a b 0
  byte-difference la lb p q = difference-leaves w8 0x80 a b refl (to_z w8 (of_z w8 x)) (to_z w8 (of_z w8 y)) v (through w8 a x (record { fits = la }) p ∙ to-signed-byte a la) (through w8 b y (record { fits = lb }) q ∙ to-signed-byte b lb)

  pub word-sum : a < 65536 → b < 65536 → x ≡ to_z w16 a → y ≡ to_z w16 b → FalseIff v (SFits w16 (to_z w16 (of_z w16 x) +ℤ to_z w16 (of_z w16 y))) → v ≡ sum_out 0x8000 a b 0
  word-sum la lb p q = sum-leaves w16 0x8000 a b refl (to_z w16 (of_z w16 x)) (to_z w16 (of_z w16 y)) v (through w16 a x (record { fits = la }) p ∙ to-signed a la) (through w16 b y (record { fits = lb }) q ∙ to-signed b lb)

  pub word-difference : a < 65536 → b < 65536 → x ≡ to_z w16 a → y ≡ to_z w16 b → FalseIff v (SFits w16 (to_z w16 (of_z w16 x) -ℤ to_z w16 (of_z w16 y))) → v ≡ diff_out 0x8000 a b 0
  word-difference la lb p q = difference-leaves w16 0x8000 a b refl (to_z w16 (of_z w16 x)) (to_z w16 (of_z w16 y)) v (through w16 a x (record { fits = la }) p ∙ to-signed a la) (through w16 b y (record { fits = lb }) q ∙ to-signed b lb)
