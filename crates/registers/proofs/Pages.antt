-- The page that the code works out in each setting, and that it is the setting's.
-- Assumes nothing.
use Rattle.std.proofs.Common.{◌≡◌, ℕ, ◌+◌, ◌-◌, ◌*◌, ◌/◌, ◌%◌, ◌<◌, ◌≤◌, Bool, true, false, ◌||◌, eqb, ltb, leb, List, [], ◌∷◌, ◌++◌, sym, refl, ap, ◌∙◌, arith, ltb-false, ltb-true, le-ltb, lt-ltb, eq-eqb, ne_eqb, le-leb, leb-false, leb-true}
use native.Mathlib.Nat.{mod-add-mod, mod-add-div'}
use borrow.Author.Tests.{lt-leb}
use Rattle.registers.specs.ConditionCodes.{digit, flag}
use Rattle.registers.specs.Arithmetic.{DEC, INC, Line, ◌:=◌, Page, negative_and_zero, carry_in, adding, subtracting}
use Rattle.registers.specs.Bought.{add-u8, sub-u8}
use Rattle.registers.proofs.SettingsV.{add_v, sub_v, dec_v, inc_v}
use Rattle.registers.specs.Settings.{by, after}
use Rattle.registers.specs.declared.CCBit.TheVariants.{C, «V», Z, N, H}
use Rattle.registers.specs.declared.CCBits.{CCBits}
use Rattle.registers.specs.declared.Flags.{Flags}
use Rattle.registers.specs.declared.Flags.TheVariants.{Bought, Manual}
use Rattle.registers.proofs.Bits.{high_bit}
use Rattle.registers.proofs.Lines.{reads}

-- a sum and a difference of bytes with the carry c, V being v
abbrev pub sum_lines : ℕ → ℕ → ℕ → List Line
sum_lines a b c =
    let r = (a + b + c) % 256 in
    (H := leb 16 (a % 16 + b % 16 + c)) ∷ (N := leb 0x80 r) ∷ (Z := eqb r 0) ∷ []

abbrev pub sum_page : ℕ → ℕ → ℕ → Bool → Page
sum_page a b c v = record { value = (a + b + c) % 256; flags = sum_lines a b c ++ ((«V» := v) ∷ (C := leb 256 (a + b + c)) ∷ []) }

abbrev pub difference_page : ℕ → ℕ → ℕ → Bool → Page
difference_page a b c v =
    let r = (a + 256 - (b + c)) % 256 in
    record { value = r; flags = negative_and_zero 0x80 r ++ ((«V» := v) ∷ (C := ltb a (b + c)) ∷ []) }

-- DEC and INC: the sum with k, which is 255 or 1
abbrev pub step_page : ℕ → ℕ → Bool → Page
step_page k a v = let r = (a + k) % 256 in record { value = r; flags = negative_and_zero 0x80 r ++ ((«V» := v) ∷ []) }

pub digit-le : (v : Bool) → digit v ≤ 1
digit-le true = omega arith
digit-le false = omega arith

-- two ways to test one thing
or-tests : (t u v : Bool) → (t ≡ true → v ≡ true) → (u ≡ true → v ≡ true) → (t ≡ false → u ≡ false → v ≡ false) → (t || u) ≡ v
or-tests true u v f g h = sym (f refl)
or-tests false true v f g h = sym (g refl)
or-tests false false v f g h = sym (h refl refl)

module _ (a b c : ℕ) (la : a < 256) (lb : b < 256) (lc : c ≤ 1) where
  add-result : ((a + c) % 256 + b) % 256 ≡ (a + b + c) % 256
  add-result = mod-add-mod (a + c) 256 b ∙ ap (λ (n : ℕ). n % 256) (omega arith)

  add-carry : (leb 256 (a + c) || leb 256 ((a + c) % 256 + b)) ≡ leb 256 (a + b + c)
  add-carry =
      or-tests (leb 256 (a + c)) (leb 256 ((a + c) % 256 + b)) (leb 256 (a + b + c))
      (λ e. le-leb 256 (a + b + c) (omega (arith, leb-true 256 (a + c) e)))
      (λ e. le-leb 256 (a + b + c) (omega (arith, leb-true 256 ((a + c) % 256 + b) e)))
      (λ e f. lt-leb 256 (a + b + c) (omega (arith, leb-false 256 (a + c) e, leb-false 256 ((a + c) % 256 + b) f)))

  add-bought : add-u8 a b c ≡ sum_page a b c (add_v Bought a b c)
  add-bought =
      rw (add-result, add-carry, high_bit 4 (a % 16 + b % 16 + c) (omega arith), high_bit 7 ((a + b + c) % 256) (omega arith))

  sub-result : ((a + 256 - c) % 256 + 256 - b) % 256 ≡ (a + 256 - (b + c)) % 256
  sub-result =
      let q : (a + 256 - c) % 256 + (a + 256 - c) / 256 * 256 ≡ a + 256 - c = mod-add-div' (a + 256 - c) 256 in
      omega arith

  sub-borrow : (ltb a c || ltb ((a + 256 - c) % 256) b) ≡ ltb a (b + c)
  sub-borrow =
      or-tests (ltb a c) (ltb ((a + 256 - c) % 256) b) (ltb a (b + c))
      (λ e. lt-ltb a (b + c) (omega (arith, ltb-true a c e)))
      (λ e. lt-ltb a (b + c) (omega (arith, ltb-true ((a + 256 - c) % 256) b e)))
      (λ e f. le-ltb a (b + c) (omega (arith, ltb-false a c e, ltb-false ((a + 256 - c) % 256) b f)))

  sub-bought : sub-u8 a b c ≡ difference_page a b c (sub_v Bought a b c)
  sub-bought = rw (sub-result, sub-borrow, high_bit 7 ((a + 256 - (b + c)) % 256) (omega arith))

module _ (cc : CCBits) (a b : ℕ) (la : a < 256) (lb : b < 256) where
  pub add-page : (s : Flags) (w : Bool) → sum_page a b (carry_in w cc) (add_v s a b (carry_in w cc)) ≡ by s (adding w) cc a b
  add-page Manual true = refl
  add-page Manual false = refl
  add-page Bought true = sym (add-bought a b (carry_in true cc) la lb (digit-le (flag C cc)))
  add-page Bought false = sym (add-bought a b 0 la lb (omega arith))

  pub sub-page : (s : Flags) (w : Bool) → difference_page a b (carry_in w cc) (sub_v s a b (carry_in w cc)) ≡ by s (subtracting w) cc a b
  sub-page Manual true = refl
  sub-page Manual false = refl
  sub-page Bought true = sym (sub-bought a b (carry_in true cc) la lb (digit-le (flag C cc)))
  sub-page Bought false = sym (sub-bought a b 0 la lb (omega arith))

dec-borrow : (a : ℕ) → ltb a 1 ≡ eqb a 0
dec-borrow a = go (ltb a 1) refl
  where
    go : (t : Bool) → ltb a 1 ≡ t → ltb a 1 ≡ eqb a 0
    go true e = e ∙ sym (eq-eqb a 0 (omega (arith, ltb-true a 1 e)))
    go false e = e ∙ sym (ne_eqb a 0 (omega (arith, ltb-false a 1 e)))

inc-carry : (a : ℕ) → a < 256 → leb 256 (a + 1) ≡ eqb a 0xFF
inc-carry a l = go (leb 256 (a + 1)) refl
  where
    go : (t : Bool) → leb 256 (a + 1) ≡ t → leb 256 (a + 1) ≡ eqb a 0xFF
    go true e = e ∙ sym (eq-eqb a 0xFF (omega (arith, leb-true 256 (a + 1) e)))
    go false e = e ∙ sym (ne_eqb a 0xFF (omega (arith, leb-false 256 (a + 1) e)))

module _ (cc : CCBits) (a b : ℕ) (la : a < 256) where
  pub dec-page : (s : Flags) → step_page 255 a (dec_v s a) ≡ by s DEC cc a b
  dec-page Manual = refl
  dec-page Bought =
      let e : a + 256 - 1 ≡ a + 255 = omega arith in
      rw (e, dec-borrow a, high_bit 7 ((a + 255) % 256) (omega arith))

  pub inc-page : (s : Flags) → step_page 1 a (inc_v s a) ≡ by s INC cc a b
  inc-page Manual = refl
  inc-page Bought = rw (inc-carry a la, high_bit 7 ((a + 1) % 256) (omega arith))

-- ---- V and H of the setting's page

module _ (cc : CCBits) (a b : ℕ) (la : a < 256) (lb : b < 256) where
  pub add-after : (s : Flags) (w : Bool) → add_v s a b (carry_in w cc) ≡ after «V» s (adding w) cc a b
  add-after s w =
      let c = carry_in w cc in
      rw (← (add-page cc a b la lb s w)) (sym (reads «V» cc (sum_lines a b c) ((C := leb 256 (a + b + c)) ∷ []) (add_v s a b c) refl))

  pub sum-value : (s : Flags) (w : Bool) → (by s (adding w) cc a b).value ≡ (a + b + carry_in w cc) % 256
  sum-value s w = sym (ap (λ (p : Page). p.value) (add-page cc a b la lb s w))

  -- H is the same in both settings
  pub half-after : (s : Flags) (w : Bool) → leb 16 (a % 16 + b % 16 + carry_in w cc) ≡ after H s (adding w) cc a b
  half-after s w =
      let c = carry_in w cc in
      let r = (a + b + c) % 256 in
      rw (← (add-page cc a b la lb s w))
      (sym (reads H cc [] ((N := leb 0x80 r) ∷ (Z := eqb r 0) ∷ («V» := add_v s a b c) ∷ (C := leb 256 (a + b + c)) ∷ []) (leb 16 (a % 16 + b % 16 + c)) refl))

  pub sub-after : (s : Flags) (w : Bool) → sub_v s a b (carry_in w cc) ≡ after «V» s (subtracting w) cc a b
  sub-after s w =
      let c = carry_in w cc in
      let r = (a + 256 - (b + c)) % 256 in
      rw (← (sub-page cc a b la lb s w)) (sym (reads «V» cc (negative_and_zero 0x80 r) ((C := ltb a (b + c)) ∷ []) (sub_v s a b c) refl))

module _ (cc : CCBits) (a b : ℕ) (la : a < 256) where
  pub dec-after : (s : Flags) → dec_v s a ≡ after «V» s DEC cc a b
  dec-after s = rw (← (dec-page cc a b la s)) (sym (reads «V» cc (negative_and_zero 0x80 ((a + 255) % 256)) [] (dec_v s a) refl))

  pub inc-after : (s : Flags) → inc_v s a ≡ after «V» s INC cc a b
  inc-after s = rw (← (inc-page cc a b la s)) (sym (reads «V» cc (negative_and_zero 0x80 ((a + 1) % 256)) [] (inc_v s a) refl))
