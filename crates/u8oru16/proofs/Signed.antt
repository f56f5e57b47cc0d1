-- A number read as signed: from h on it is less by 2h, sign extension keeps it, and it is what 16 bits hold in two's complement.
-- Assumes nothing.
use Rattle.std.proofs.Common.{◌≡◌, ℕ, zero, suc, ◌+◌, ◌-◌, ◌<◌, ◌≤◌, Bool, true, false, cond, ltb, pos, negsuc, ◌-ℤ◌, sym, refl, ap, ◌∙◌, arith, w16, to_z, ltb-false, ltb-true, le-ltb, lt-ltb}
use mir.Val.{sel}
use Rattle.u8oru16.specs.Signed.{signed}
use Rattle.u8oru16.specs.Value.{value_of, signed_of}
use Rattle.u8oru16.specs.Negated.{sign_extended}
use Rattle.u8oru16.specs.declared.u8u16.{u8u16}
use Rattle.u8oru16.specs.declared.u8u16.TheVariants.{u8, u16}

pub signed_low : (h a : ℕ) → a < h → signed h a ≡ pos a
unfolding signed
signed_low h a l = rw (lt-ltb a h l)

pub signed_high : (h a : ℕ) → h ≤ a → a < h + h → signed h a ≡ negsuc (h + h - suc a)
unfolding signed
signed_high h a l u = rw (le-ltb a h l) (less (h + h) u)
  where
    less : (n : ℕ) → a < n → pos a -ℤ pos n ≡ negsuc (n - suc a)
    less zero v = absurd (omega arith)
    less (suc n) v = rw (lt-ltb a (suc n) v)

pub to-signed : (n : ℕ) → n < 65536 → to_z w16 n ≡ signed 0x8000 n
to-signed n l = go (ltb n 32768) refl
  where
    go : (t : Bool) → ltb n 32768 ≡ t → sel t (pos n) (negsuc (65536 - suc n)) ≡ signed 0x8000 n
    go true e = sym (signed_low 0x8000 n (ltb-true n 32768 e))
    go false e = sym (signed_high 0x8000 n (ltb-false n 32768 e) l)

-- a byte and its extension to a word are one signed number
extended-byte : (b : ℕ) → signed 0x8000 (cond (ltb b 0x80) b (0xFF00 + b)) ≡ signed 0x80 b
unfolding signed
extended-byte b = go (ltb b 0x80) (ltb b 256) refl refl
  where
    go : (t u : Bool) → ltb b 0x80 ≡ t → ltb b 256 ≡ u → signed 0x8000 (cond t b (0xFF00 + b)) ≡ cond t (pos b) (pos b -ℤ pos 256)
    go true u e f = signed_low 0x8000 b (omega (arith, ltb-true b 0x80 e))
    go false true e f =
        signed_high 0x8000 (0xFF00 + b) (omega (arith, ltb-false b 0x80 e)) (omega (arith, ltb-true b 256 f)) ∙ rw f (ap negsuc (omega arith))
    go false false e f =
        rw (le-ltb (0xFF00 + b) 0x8000 (omega arith), le-ltb (0xFF00 + b) 65536 (omega (arith, ltb-false b 256 f)), f) (ap pos (omega arith))

pub extended-signed : (v : u8u16) → signed 0x8000 (value_of (sign_extended v)) ≡ signed_of v
extended-signed (u8 b) = extended-byte b
extended-signed (u16 w) = refl
