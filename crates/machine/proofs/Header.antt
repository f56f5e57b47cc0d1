-- What is read back from a record's header is what was written; its numbers byte by byte.
-- Assumes nothing.
use mathlib.Core.Path.{◌≡◌, refl, sym, ap, ◌∙◌}
use mathlib.Core.Bool.{Bool, true, false}
use mathlib.Core.List.{List, [], ◌∷◌}
use Prim.Native.Nat.{ℕ, zero, suc, ◌+◌, ◌*◌, ◌/◌, ◌%◌, ◌^◌, ◌≤◌, ◌<◌}
use native.Mathlib.Nat.{mod-one, mod-eq_of_lt, pow-succ', one-le-pow}
use native.Mathlib.Numerals.{add-one}
use native.Mathlib.Omega.{arith}
use lib.Arith.{mod-mul}
use lib.Dec.{lit<, lit≤}
use lib.ListN.{length, get_or, drop, get_or-eq_default}
use lib.Seq.{get_or-drop}
use Rattle.registers.specs.Fits.{Fits}
use Rattle.machine.specs.Record.{bytes, number_at, Cycles, wait_byte, wait_of, mark_byte, mark_of, width, offset, header, front, counter, machine_of, header_length, HeaderInParts, HeaderBack, CounterBack}
use Rattle.machine.specs.declared.Machine.{Machine}
use Rattle.machine.specs.declared.Wait.{Wait}
use Rattle.machine.specs.declared.Wait.TheVariants.{Running, Cwai, Sync}

-- ---- numbers

-- the bytes of a number, written out
pub two : (x : ℕ) → x < 65536 → bytes 2 x ≡ x / 256 ∷ x % 256 ∷ []
unfolding bytes
two x h =
    let a : x / 256 % 256 ≡ x / 256 = omega arith in
    let b : x / 1 % 256 ≡ x % 256 = omega arith in
    λ i. a i ∷ b i ∷ []

pub two-be : (x : ℕ) → bytes 2 x ≡ x / 256 % 256 ∷ x % 256 ∷ []
unfolding bytes
two-be x = let b : x / 1 % 256 ≡ x % 256 = omega arith in λ i. x / 256 % 256 ∷ b i ∷ []

pub one : (x : ℕ) → x < 256 → bytes 1 x ≡ x ∷ []
unfolding bytes
one x h = let b : x / 1 % 256 ≡ x = omega arith in λ i. b i ∷ []

pub eight : (x : ℕ)
    → counter x ≡ x / 0x100_0000_0000_0000 % 256 ∷ x / 0x1_0000_0000_0000 % 256 ∷ x / 0x100_0000_0000 % 256 ∷ x / 0x1_0000_0000 % 256 ∷ x / 0x100_0000 % 256 ∷ x / 0x1_0000 % 256 ∷ x / 0x100 % 256 ∷ x % 256 ∷ []
unfolding counter bytes
eight x =
    let b : x / 1 % 256 ≡ x % 256 = omega arith in
    λ i. x / 0x100_0000_0000_0000 % 256 ∷ x / 0x1_0000_0000_0000 % 256 ∷ x / 0x100_0000_0000 % 256 ∷ x / 0x1_0000_0000 % 256 ∷ x / 0x100_0000 % 256 ∷ x / 0x1_0000 % 256 ∷ x / 0x100 % 256 ∷ b i ∷ []

-- the number that bytes stand for
number : List ℕ → ℕ
number [] = 0
number (b ∷ bs) = b * 256 ^ length bs + number bs

length-bytes : (n x : ℕ) → length (bytes n x) ≡ n
unfolding bytes
length-bytes zero x = refl
length-bytes (suc n) x = ap suc (length-bytes n x)

number-bytes : (n x : ℕ) → number (bytes n x) ≡ x % 256 ^ n
unfolding bytes number
number-bytes zero x = sym (mod-one x)
number-bytes (suc n) x = rw (length-bytes n x, number-bytes n x, pow-succ') (sym (mod-mul x {m = 256} {c = 256 ^ n} (lit< tt) (one-le-pow n 256 (lit< tt))))

number-back : (n x : ℕ) → x < 256 ^ n → number (bytes n x) ≡ x
number-back n x h = number-bytes n x ∙ mod-eq_of_lt h

-- the number of two bytes, and of eight
pub number_two : (r : List ℕ) (at : ℕ) → number_at r at 2 ≡ get_or r at 0 * 256 + get_or r (at + 1) 0
unfolding number_at
number_two r at = rw (add-one) (omega arith)

pub number_eight : (r : List ℕ) (at : ℕ)
    → number_at r at 8
    ≡ get_or r at 0 * 0x100_0000_0000_0000 + get_or r (at + 1) 0 * 0x1_0000_0000_0000 + get_or r (at + 2) 0 * 0x100_0000_0000 + get_or r (at + 3) 0 * 0x1_0000_0000 + get_or r (at + 4) 0 * 0x100_0000 + get_or r (at + 5) 0 * 0x1_0000 + get_or r (at + 6) 0 * 0x100 + get_or r (at + 7) 0
unfolding number_at
number_eight r at =
    let one : at + 1 ≡ suc at = omega arith in
    let two : at + 2 ≡ suc (suc at) = omega arith in
    let three : at + 3 ≡ suc (suc (suc at)) = omega arith in
    let four : at + 4 ≡ suc (suc (suc (suc at))) = omega arith in
    let five : at + 5 ≡ suc (suc (suc (suc (suc at)))) = omega arith in
    let six : at + 6 ≡ suc (suc (suc (suc (suc (suc at))))) = omega arith in
    let seven : at + 7 ≡ suc (suc (suc (suc (suc (suc (suc at)))))) = omega arith in
    rw (one, two, three, four, five, six, seven) (omega arith)

-- two bytes, read back
pub two_back : (x : ℕ) → x < 65536 → x / 256 % 256 * 256 + (x / 1 % 256 * 1 + 0) ≡ x
two_back x h = omega arith

-- in a part from a place on, and past the end
pub number-drop : (r : List ℕ) (at i n : ℕ) → number_at (drop at r) i n ≡ number_at r (at + i) n
unfolding number_at
number-drop r at i zero = refl
number-drop r at i (suc n) =
    let e : at + suc i ≡ suc (at + i) = omega arith in
    rw (get_or-drop at r i 0, number-drop r at (suc i) n, e)

pub number_past : (r : List ℕ) (at n : ℕ) → length r ≤ at → number_at r at n ≡ 0
unfolding number_at
number_past r at zero h = refl
number_past r at (suc n) h = rw (get_or-eq_default r 0 {n = at} h, number_past r (suc at) n (omega arith)) (omega arith)

-- a single byte
pub single : (r : List ℕ) (at : ℕ) → number_at r at 1 ≡ get_or r at 0
unfolding number_at
single r at = omega arith

-- ---- the wait state

wait-back : (w : Wait) → wait_of (wait_byte w) ≡ w
unfolding wait_of
wait-back Running = refl
wait-back Cwai = refl
wait-back Sync = refl

pub wait-small : (w : Wait) → wait_byte w ≤ 2
wait-small Running = lit≤ tt
wait-small Cwai = lit≤ tt
wait-small Sync = lit≤ tt

pub wait-rest : (b : ℕ) → (b ≡ 0 → ⊥) → (b ≡ 1 → ⊥) → Sync ≡ wait_of b
unfolding wait_of
wait-rest zero h k = absurd (h refl)
wait-rest (suc zero) h k = absurd (k refl)
wait-rest (suc (suc n)) h k = refl

-- ---- the mark

mark-back : (a : Bool) → mark_of (mark_byte a) ≡ a
unfolding mark_of
mark-back true = refl
mark-back false = refl

pub mark-small : (a : Bool) → mark_byte a ≤ 1
mark-small true = lit≤ tt
mark-small false = lit≤ tt

-- ---- the header

-- byte by byte
pub spelled : (m : Machine) → Fits m.regs
    → front m
    ≡ let r = m.regs in
    r.a ∷ r.b ∷ r.x / 256 % 256 ∷ r.x % 256 ∷ r.y / 256 % 256 ∷ r.y % 256 ∷ r.u / 256 % 256 ∷ r.u % 256 ∷ r.s / 256 % 256 ∷ r.s % 256 ∷ r.pc / 256 % 256 ∷ r.pc % 256 ∷ r.dp ∷ r.cc.reg ∷ wait_byte m.wait ∷ mark_byte m.armed ∷ []
unfolding front
spelled m f =
    let r = m.regs in
    rw (
      one r.a f.a,
      one r.b f.b,
      two-be r.x,
      two-be r.y,
      two-be r.u,
      two-be r.s,
      two-be r.pc,
      one r.dp f.dp,
      one r.cc.reg f.cc,
      one (wait_byte m.wait) (omega (arith, wait-small m.wait)),
      one (mark_byte m.armed) (omega (arith, mark-small m.armed)),
    )

pub header-in-parts : HeaderInParts
unfolding header front counter bytes
header-in-parts m = refl

pub length_front : (m : Machine) → length (front m) ≡ offset Cycles
unfolding front bytes
length_front m = refl

pub length-counter : (n : ℕ) → length (counter n) ≡ width Cycles
unfolding counter bytes
length-counter n = refl

pub length-header : (m : Machine) → length (header m) ≡ header_length
unfolding header bytes
length-header m = refl

pub header-back : HeaderBack
unfolding machine_of header bytes number_at number
header-back m rest f = λ i. record {
  cycles = number-back 8 m.cycles f.cycles i;
  instructions = number-back 8 m.instructions f.instructions i;
  regs = record {
    x = number-back 2 m.regs.x f.registers.x i;
    y = number-back 2 m.regs.y f.registers.y i;
    u = number-back 2 m.regs.u f.registers.u i;
    s = number-back 2 m.regs.s f.registers.s i;
    pc = number-back 2 m.regs.pc f.registers.pc i;
    a = number-back 1 m.regs.a f.registers.a i;
    b = number-back 1 m.regs.b f.registers.b i;
    dp = number-back 1 m.regs.dp f.registers.dp i;
    cc = record { reg = number-back 1 m.regs.cc.reg f.registers.cc i };
  };
  wait = (ap wait_of (number-back 1 (wait_byte m.wait) (omega (arith, wait-small m.wait))) ∙ wait-back m.wait) i;
  armed = (ap mark_of (number-back 1 (mark_byte m.armed) (omega (arith, mark-small m.armed))) ∙ mark-back m.armed) i;
}

pub counter-back : CounterBack
unfolding counter bytes number_at number
counter-back n rest h = number-back 8 n h
