-- What is plain passes the fence; a plan that is refused passes it, so that one which it refuses was accepted before.
-- Assumes nothing.
use Rattle.std.proofs.Common.{◌≡◌, ℕ, ◌+◌, ◌-◌, ◌%◌, ◌<◌, ◌≤◌, Bool, true, false, cond, not, ◌&&◌, ltb, List, [], ◌∷◌, ◌++◌, sym, refl, ap, ◌∙◌, inl, arith, le-ltb, le-leb, Err, Ok, Result}
use Rattle.std.specs.Prelude.{⊤}
use Rattle.u8oru16.specs.declared.u8u16.TheVariants.{u8, u16}
use Rattle.answers.specs.declared.Refusal.{Refusal}
use Rattle.answers.specs.declared.Refusal.TheVariants.{Fenced}
use Rattle.registers.specs.Names.{register_size, stack_word}
use Rattle.registers.specs.RegisterSet.{read, word_of}
use Rattle.registers.specs.declared.Name.{Name}
use Rattle.registers.specs.declared.Name.TheVariants.{A, B, D, X, Y, U, S, PC, DP, CC}
use Rattle.registers.specs.declared.Set.{Set}
use Rattle.memory.specs.Map.{landing_of}
use Rattle.memory.specs.Writes.{listed, value_writes}
use Rattle.memory.specs.declared.Landing.TheVariants.{Stored}
use Rattle.memory.specs.declared.writes.Write.{Write}
use Rattle.memory.proofs.Folds.{listed_back}
use Rattle.memory.proofs.Ranges.{place-low, kept}
use Rattle.machine.specs.Fence.{allows, barred_at, barred, bars}
use Rattle.machine.specs.declared.Machine.{Machine}
use Rattle.machine.specs.declared.Settings.{Settings}
use Rattle.machine.specs.declared.fence.Range.{Range}
use Rattle.stack.specs.Pushing.{registers_named, bytes_pushed, pushes}
use Rattle.stack.proofs.Filling.{size, named-size}
use Rattle.calls.specs.Plans.{refused_with, fenced}
use Rattle.calls.specs.Steps.{finished}
use Rattle.calls.specs.Decisions.{plan_told, first_range, is_plain}
use Rattle.calls.specs.declared.Plan.{Plan}
use Rattle.calls.specs.declared.decisions.Decision.{Decision}
use Rattle.calls.specs.declared.decisions.Kind.{Kind}
use Rattle.calls.specs.declared.decisions.Kind.TheVariants.{Refused as Told, Change, Byte, Word, Push, Rest}
use Rattle.calls.proofs.Decided.{plan-as, Low, low_byte, low_word, low-push, not-rest, pushed-as, twelve-at-most}

-- ---- what the first range has, the profile allows

first-allows : (rs : List Range) (p : ℕ) → (first_range rs).first ≤ p → p ≤ (first_range rs).last → allows rs p ≡ true
unfolding allows
first-allows [] p f l = absurd (omega arith)
first-allows (g ∷ gs) p f l = rw (le-leb g.first p f, le-leb p g.last l)

-- each write of a list lies from one address to another
abbrev Between : ℕ → ℕ → List Write → Type 0
Between from to [] = Unit {0}
Between from to (w ∷ ws) = ((from ≤ w.at) × (w.at ≤ to)) × Between from to ws

module _ (s : Settings) (from to : ℕ) (low : Low s.ram_top (first_range s.profile) from to) where
  one_passes : (at : ℕ) (system : Bool) → from ≤ at → at ≤ to → barred_at s.profile (landing_of at s.ram_top system) ≡ false
  one_passes at system f t =
      let b = low.below in
      let r = low.reached in
      let g = low.first in
      let l = low.last in
      let w : ltb s.ram_top at ≡ false = le-ltb s.ram_top at (omega arith) in
      let e : landing_of at s.ram_top system ≡ Stored at =
      sym (kept at s.ram_top system (inl (omega arith)) (ap (λ (b : Bool). b && not system) w)) ∙ ap Stored (sym (place-low at (omega arith))) in
      ap (barred_at s.profile) e ∙ ap not (first-allows s.profile at (omega arith) (omega arith))

  passes : (ws : List Write) → Between from to ws → bars s ws ≡ false
  unfolding barred
  passes [] k = refl
  passes (w ∷ ws) k = rw (one_passes w.at w.system k.0.0 k.0.1) (passes ws k.1)

-- ---- a push writes below its pointer, and no lower than the registers need

both : (from to : ℕ) (l m : List Write) → Between from to l → Between from to m → Between from to (l ++ m)
both from to [] m h k = k
both from to (w ∷ l) m h k = (h.0, both from to l m h.1 k)

wider : (from to top : ℕ) (l : List Write) → to ≤ top → Between from to l → Between from top l
wider from to top [] h k = tt
wider from to top (w ∷ l) h k = let a = k.0.1 in ((k.0.0, omega arith), wider from to top l h k.1)

module _ (r : Set) (from : ℕ) where
  of-name : (n : Name) (p : ℕ) → from + register_size n ≤ p → p < 0xFF00 → Between from p (value_writes (p - register_size n) (read r n) false)
  of-name A p h l = ((omega arith, omega arith), tt)
  of-name B p h l = ((omega arith, omega arith), tt)
  of-name D p h l = ((omega arith, omega arith), ((omega arith, omega arith), tt))
  of-name X p h l = ((omega arith, omega arith), ((omega arith, omega arith), tt))
  of-name Y p h l = ((omega arith, omega arith), ((omega arith, omega arith), tt))
  of-name U p h l = ((omega arith, omega arith), ((omega arith, omega arith), tt))
  of-name S p h l = ((omega arith, omega arith), ((omega arith, omega arith), tt))
  of-name PC p h l = ((omega arith, omega arith), ((omega arith, omega arith), tt))
  of-name DP p h l = ((omega arith, omega arith), tt)
  of-name CC p h l = ((omega arith, omega arith), tt)

  of-names : (names : List Name) (p : ℕ) → from + size names ≤ p → p < 0xFF00 → Between from p (pushes r false p names)
  unfolding pushes
  of-names [] p h l = tt
  of-names (n ∷ names) p h l =
      both from p (value_writes (p - register_size n) (read r n) false) (pushes r false (p - register_size n) names) (of-name n p (omega arith) l)
      (wider from (p - register_size n) p (pushes r false (p - register_size n) names) (omega arith) (of-names names (p - register_size n) (omega arith) (omega arith)))

-- ---- what is plain passes

abbrev judged_by : Settings → Plan → Bool
judged_by s p = bars s (listed p.writes)

plain_passes : (m : Machine) (s : Settings) (mem : List ℕ) (d : Decision) → is_plain s d ≡ true → bars s (listed (plan_told m s mem d).writes) ≡ false
unfolding finished barred
plain_passes m s mem d p = go d.kind refl
  where
    go : (k : Kind) → d.kind ≡ k → judged_by s (plan_told m s mem d) ≡ false
    go Told e = ap (judged_by s) (plan-as m s mem d e)
    go Change e = ap (judged_by s) (plan-as m s mem d e)
    go Byte e =
        ap (judged_by s) (plan-as m s mem d e)
        ∙ (ap (bars s) (listed_back (value_writes d.at (u8 (d.value % 256)) false))
        ∙ passes s d.at d.at (low_byte s d e p) (value_writes d.at (u8 (d.value % 256)) false) ((omega arith, omega arith), tt))
    go Word e =
        let l = low_word s d e p in
        let b = l.below in
        ap (judged_by s) (plan-as m s mem d e)
        ∙ (ap (bars s) (listed_back (value_writes d.at (u16 d.value) false))
        ∙ passes s d.at (d.at + 1) l (value_writes d.at (u16 d.value) false) ((omega arith, omega arith), ((omega arith, omega arith), tt)))
    go Push e =
        let top = word_of d.regs (stack_word d.own) in
        let l = low-push s d e p in
        let r = l.1 in
        let room : bytes_pushed d.mask ≤ top = omega (arith, twelve-at-most d.mask) in
        let fits : top - 12 + size (registers_named d.own d.mask) ≤ top = rw (named-size d.mask d.own) (omega (arith, twelve-at-most d.mask)) in
        ap (judged_by s) (plan-as m s mem d e ∙ ap (finished m d.cycles d.arms d.reads) (pushed-as d.regs d.own d.mask room))
        ∙ (ap (bars s) (listed_back (pushes d.regs false top (registers_named d.own d.mask)))
        ∙ passes s (top - 12) top l.0 (pushes d.regs false top (registers_named d.own d.mask))
        (of-names d.regs (top - 12) (registers_named d.own d.mask) top fits l.0.below))
    go Rest e = absurd (not-rest s d e p)

pub plain-free : (m : Machine) (s : Settings) (mem : List ℕ) (d : Decision) → is_plain s d ≡ true → fenced s m (plan_told m s mem d) ≡ plan_told m s mem d
plain-free m s mem d p = ap (λ (b : Bool). cond b (refused_with m Fenced) (plan_told m s mem d)) (plain_passes m s mem d p)

-- ---- a refused plan passes

pub refused-free : (s : Settings) (m : Machine) (x : Refusal) → fenced s m (refused_with m x) ≡ refused_with m x
unfolding barred
refused-free s m x = refl

-- the fence refuses what was accepted
pub barred-done : (s : Settings) (m : Machine) (p : Plan) → ((x : Refusal) → p.answer ≡ Err x → p ≡ refused_with m x) → bars s (listed p.writes) ≡ true → p.answer ≡ (Ok tt)
unfolding barred
barred-done s m p h b = go p.answer refl
  where
    go : (a : Result ⊤ Refusal) → p.answer ≡ a → a ≡ (Ok tt)
    go (Ok u) e = refl
    go (Err x) e =
        let n : bars s (listed p.writes) ≡ false = ap (λ (q : Plan). bars s (listed q.writes)) (h x e) in
        let z : ◌≡◌ {A = ℕ} 0 1 = cc in
        absurd (omega arith)

-- what the fence accepts is as it was
pub free-done : (s : Settings) (m : Machine) (p : Plan) → (fenced s m p).answer ≡ (Ok tt) → fenced s m p ≡ p
free-done s m p = go (bars s (listed p.writes))
  where
    go : (b : Bool) → (cond b (refused_with m Fenced) p).answer ≡ (Ok tt) → cond b (refused_with m Fenced) p ≡ p
    go true e = let z : ◌≡◌ {A = ℕ} 0 1 = cc in absurd (omega arith)
    go false e = refl
