-- Masks of one bit: `n | 2^k`, `n & 2^k` and `n & !2^k`, and the laws of setting and reading a flag.
-- Assumes nothing.
use Rattle.std.proofs.Common.{◌≡◌, ℕ, zero, suc, ◌+◌, ◌-◌, ◌*◌, ◌/◌, ◌%◌, ◌^◌, ◌<◌, min, Bool, true, false, not, eqb, ◌≢◌, sym, refl, ap, ◌∙◌, subst, ap₂, lt_of_le_of_lt, mod-lt, pow-suc, arith, lit<, pow_pos, shr-shr, eq-eqb, ne_eqb}
use native.Mathlib.Decide.{dec_lt}
use lib.Pow.{split, high, low, field, mod-mod-pow, pow-lt}
use lib.Bits.{bit_and, bit_or, or_block, and_block, or_step, and_step, or_zero_r, and_zero_r, and_mask, or_lt, and_le_l}
use Rattle.registers.specs.ConditionCodes.{place, digit, with_bit, bit_at, put}
use Rattle.registers.specs.declared.CCBits.{CCBits}
use Rattle.registers.specs.declared.CCBit.{CCBit}
use Rattle.registers.specs.declared.CCBit.TheVariants.{C, «V», Z, N, I, H, F, E}

pub place-lt : (f : CCBit) → place f < 8
place-lt C = lit< tt
place-lt «V» = lit< tt
place-lt Z = lit< tt
place-lt N = lit< tt
place-lt I = lit< tt
place-lt H = lit< tt
place-lt F = lit< tt
place-lt E = lit< tt

-- ---- the three masks

or-one : (m : ℕ) → bit_or m 1 ≡ m / 2 * 2 + 1
or-one m =
    let z : bit_or (m / 2) 0 ≡ m / 2 = or_zero_r (m / 2) in
    omega (arith, or_step m 1)

pub or-mask : (k n : ℕ) → bit_or n (2 ^ k) ≡ with_bit k true n
unfolding with_bit
or-mask k n =
    let e : 2 ^ k ≡ 1 * 2 ^ k + 0 = omega arith in
    ap₂ bit_or (sym (split n k)) e
    ∙ or_block k (n / 2 ^ k) 1 (n % 2 ^ k) 0 (mod-lt n (pow_pos k)) (pow_pos k)
    ∙ ap₂ (λ (x y : ℕ). x * 2 ^ k + y) (or-one (n / 2 ^ k)) (or_zero_r (n % 2 ^ k))

pub and_one : (k n : ℕ) → bit_and n (2 ^ k) ≡ n / 2 ^ k % 2 * 2 ^ k
and_one k n =
    let e : 2 ^ k ≡ 1 * 2 ^ k + 0 = omega arith in
    let f : n / 2 ^ k % 2 * 2 ^ k + 0 ≡ n / 2 ^ k % 2 * 2 ^ k = omega arith in
    ap₂ bit_and (sym (split n k)) e
    ∙ and_block k (n / 2 ^ k) 1 (n % 2 ^ k) 0 (mod-lt n (pow_pos k)) (pow_pos k)
    ∙ ap₂ (λ (x y : ℕ). x * 2 ^ k + y) (and_mask (n / 2 ^ k) 1) (and_zero_r (n % 2 ^ k))
    ∙ f

-- a mask and its complement take a number apart
digits-add : (q r x y n m : ℕ) → q + r ≡ n / 2 → x ≡ q * 2 + min (n % 2) (m % 2) → y ≡ r * 2 + min (n % 2) (1 - m % 2) → x + y ≡ n
digits-add q r x y n m e f g = omega arith

pub and-not : (w n m : ℕ) → n < 2 ^ w → m < 2 ^ w → bit_and n m + bit_and n ((2 ^ w - 1) - m) ≡ n
and-not zero n m hn hm =
    let z : n ≡ 0 = omega arith in
    subst (λ (x : ℕ). bit_and x m + bit_and x (0 - m) ≡ x) (sym z) refl
and-not (suc w) n m hn hm =
    let p = pow-suc 2 w in
    let h : ((2 ^ suc w - 1) - m) / 2 ≡ (2 ^ w - 1) - m / 2 = omega arith in
    let l : ((2 ^ suc w - 1) - m) % 2 ≡ 1 - m % 2 = omega arith in
    digits-add (bit_and (n / 2) (m / 2)) (bit_and (n / 2) ((2 ^ w - 1) - m / 2)) _ _ n m (and-not w (n / 2) (m / 2) (omega arith) (omega arith))
    (and_step n m)
    (and_step n ((2 ^ suc w - 1) - m) ∙ ap₂ (λ (x y : ℕ). bit_and (n / 2) x * 2 + min (n % 2) y) h l)

pub and-clear : (k n : ℕ) → k < 8 → n < 256 → bit_and n (255 - 2 ^ k) ≡ with_bit k false n
unfolding with_bit
and-clear k n hk hn =
    let a : bit_and n (2 ^ k) + bit_and n (255 - 2 ^ k) ≡ n = and-not 8 n (2 ^ k) hn (pow-lt hk) in
    cleared (n / 2 ^ k) (2 ^ k) (n % 2 ^ k) (bit_and n (2 ^ k)) (bit_and n (255 - 2 ^ k)) n (and_one k n) a (split n k)
  where
    cleared : (h p l x y n : ℕ) → x ≡ h % 2 * p → x + y ≡ n → h * p + l ≡ n → y ≡ (h / 2 * 2 + 0) * p + l
    cleared h p l x y n e a s =
        let d : (h / 2 * 2 + h % 2) * p ≡ h * p = ap (λ (z : ℕ). z * p) (omega arith) in
        omega arith

-- what `set` does in each of its arms, with the mask m that it was handed
pub set_on : (f : CCBit) (v : Bool) (cc : CCBits) (m : ℕ) → m ≡ 2 ^ place f → v ≡ true → ◌≡◌ {A = CCBits} (record { reg = bit_or cc.reg m }) (put f v cc)
set_on f v cc m e h = ap (λ (r : ℕ). record { reg = r }) (rw (e, h) (or-mask (place f) cc.reg))

pub set-off : (f : CCBit) (v : Bool) (cc : CCBits) (m : ℕ) → cc.reg < 256 → m ≡ 2 ^ place f → v ≡ false → ◌≡◌ {A = CCBits} (record { reg = bit_and cc.reg (255 - m) }) (put f v cc)
set-off f v cc m b e h = ap (λ (r : ℕ). record { reg = r }) (rw (e, h) (and-clear (place f) cc.reg (place-lt f) b))

-- the test of a mask is the flag
pub test-mask : (k n : ℕ) → not (eqb (bit_and n (2 ^ k)) 0) ≡ bit_at k n
unfolding bit_at
test-mask k n = go (n / 2 ^ k % 2) refl (pow_pos k) (and_one k n)
  where
    go : (x : ℕ) → n / 2 ^ k % 2 ≡ x → 0 < 2 ^ k → bit_and n (2 ^ k) ≡ x * 2 ^ k → not (eqb (bit_and n (2 ^ k)) 0) ≡ eqb x 1
    go zero e p a = rw (eq-eqb (bit_and n (2 ^ k)) 0 (omega arith))
    go (suc zero) e p a = rw (ne_eqb (bit_and n (2 ^ k)) 0 (omega arith))
    go (suc (suc x)) e p a = absurd (omega arith)

-- ---- the laws of setting and reading a flag

digit-odd : (x : ℕ) (v : Bool) → eqb ((x / 2 * 2 + digit v) % 2) 1 ≡ v
digit-odd x true = eq-eqb ((x / 2 * 2 + 1) % 2) 1 (omega arith)
digit-odd x false = ne_eqb ((x / 2 * 2 + 0) % 2) 1 (omega arith)

digit-half : (x : ℕ) (v : Bool) → (x / 2 * 2 + digit v) / 2 ≡ x / 2
digit-half x true = omega arith
digit-half x false = omega arith

pub same : (k n : ℕ) (v : Bool) → bit_at k (with_bit k v n) ≡ v
unfolding bit_at with_bit
same k n v = rw (high (n / 2 ^ k / 2 * 2 + digit v) k (mod-lt n (pow_pos k))) (digit-odd (n / 2 ^ k) v)

-- a place below k and a place above k
low_bit : (d j n : ℕ) → n / 2 ^ j % 2 ≡ n % 2 ^ (d + (1 + j)) % 2 ^ (1 + j) / 2 ^ j
low_bit d j n = rw mod-mod-pow (sym (field n 1 j))

below : (d j n : ℕ) (v : Bool) → bit_at j (with_bit (d + (1 + j)) v n) ≡ bit_at j n
unfolding bit_at with_bit
below d j n v =
    ap (λ (x : ℕ). eqb x 1)
    (low_bit d j _ ∙ ap (λ (x : ℕ). x % 2 ^ (1 + j) / 2 ^ j) (low _ (d + (1 + j)) (mod-lt n (pow_pos (d + (1 + j))))) ∙ sym (low_bit d j n))

high_bit : (d k n : ℕ) → n / 2 ^ (k + (1 + d)) ≡ n / 2 ^ k / 2 / 2 ^ d
high_bit d k n = sym (shr-shr n k (1 + d)) ∙ sym (shr-shr (n / 2 ^ k) 1 d)

above : (d k n : ℕ) (v : Bool) → bit_at (k + (1 + d)) (with_bit k v n) ≡ bit_at (k + (1 + d)) n
unfolding bit_at with_bit
above d k n v =
    ap (λ (x : ℕ). eqb (x % 2) 1)
    (high_bit d k _ ∙ ap (λ (x : ℕ). x / 2 ^ d) (ap (λ (x : ℕ). x / 2) (high _ k (mod-lt n (pow_pos k))) ∙ digit-half (n / 2 ^ k) v) ∙ sym (high_bit d k n))

pub other : (j k n : ℕ) (v : Bool) → j ≢ k → bit_at j (with_bit k v n) ≡ bit_at j n
other j k n v h = go (dec_lt j k)
  where
    go : Dec (j < k) → bit_at j (with_bit k v n) ≡ bit_at j n
    go (yes p) = subst (λ (x : ℕ). bit_at j (with_bit x v n) ≡ bit_at j n) (omega arith) (below (k - (1 + j)) j n v)
    go (no p) = subst (λ (x : ℕ). bit_at x (with_bit k v n) ≡ bit_at x n) (omega arith) (above (j - (1 + k)) k n v)

pub stays-byte : (k n : ℕ) (v : Bool) → k < 8 → n < 256 → with_bit k v n < 256
stays-byte k n true hk hn = rw (← or-mask k n) (or_lt 8 n (2 ^ k) hn (pow-lt hk))
stays-byte k n false hk hn = rw (← and-clear k n hk hn) (lt_of_le_of_lt (and_le_l n (255 - 2 ^ k)) hn)
