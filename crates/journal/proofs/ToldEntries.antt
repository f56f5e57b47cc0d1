-- The entries of what is told, where it is plain.
-- Assumes nothing.
use Rattle.std.specs.Prelude.{Err, Ok}
use Prim.Native.Nat.{ℕ, zero, suc, ◌+◌, ◌-◌, ◌*◌, ◌/◌, ◌%◌, ◌^◌, ◌≤◌, ◌<◌}
use mathlib.Core.Bool.{Bool, true, false, cond}
use mathlib.Core.List.{List, [], ◌∷◌, ◌++◌, append_assoc, append-nil}
use mathlib.Core.Path.{◌≡◌, refl, sym, ap, ◌∙◌}
use native.Mathlib.Omega.{arith}
use lib.Dec.{eqb}
use lib.ListN.{length, length-append}
use lib.Seq.{sets}
use Rattle.u8oru16.specs.Value.{size_of}
use Rattle.u8oru16.specs.declared.u8u16.{u8u16}
use Rattle.u8oru16.specs.declared.u8u16.TheVariants.{u8, u16}
use Rattle.registers.specs.ConditionCodes.{bit_at}
use Rattle.registers.specs.Names.{register_size, stack_word}
use Rattle.registers.specs.RegisterSet.{read, word_of}
use Rattle.registers.specs.declared.Name.{Name}
use Rattle.registers.specs.declared.Name.TheVariants.{A, B, D, X, Y, U, S, PC, DP, CC}
use Rattle.registers.specs.declared.Set.{Set}
use Rattle.registers.specs.declared.Stack.{Stack}
use Rattle.memory.specs.Writes.{listed, reported, value_writes}
use Rattle.memory.specs.declared.writes.Write.{Write}
use Rattle.memory.proofs.Folds.{listed_back}
use Rattle.machine.specs.declared.Machine.{Machine}
use Rattle.machine.specs.declared.Settings.{Settings}
use Rattle.stack.specs.Pushing.{order, chosen, registers_named, bytes_pushed, pushes}
use Rattle.stack.proofs.Filling.{size, named-size}
use Rattle.calls.specs.Decisions.{effect_as, plan_told, is_plain}
use Rattle.calls.specs.Steps.{finished}
use Rattle.calls.specs.declared.Plan.{Plan}
use Rattle.calls.specs.declared.decisions.Decision.{Decision}
use Rattle.calls.specs.declared.decisions.Kind.{Kind}
use Rattle.calls.specs.declared.decisions.Kind.TheVariants.{Refused, Change, Byte, Word, Push, Rest}
use Rattle.calls.proofs.Decided.{plan-as, plain_byte, plain_word, plain_push, not-rest, pushed-as}
use Rattle.calls.proofs.PlainWrites.{lands}
use Rattle.journal.specs.Record.{Saved, entries, entries_at, entry_length}
use Rattle.memory.specs.declared.Landing.TheVariants.{Stored}
use Rattle.journal.specs.Recorded.{saved_at, saved_for}
use Rattle.journal.specs.Told.{saved_from, left_to_save}
use Rattle.journal.proofs.Laying.{sets_more, entries-append}
use Rattle.journal.proofs.Reading.{length-entries}

pub length-saved : (at n : ℕ) (mem : List ℕ) → length (saved_from at n mem) ≡ n
unfolding saved_from
length-saved at zero mem = refl
length-saved at (suc n) mem = ap suc (length-saved (at + 1) n mem)

-- a register's value is as wide as its name says
value-size : (r : Set) (name : Name) → size_of (read r name) ≡ register_size name
value-size r A = refl
value-size r B = refl
value-size r D = refl
value-size r X = refl
value-size r Y = refl
value-size r U = refl
value-size r S = refl
value-size r PC = refl
value-size r DP = refl
value-size r CC = refl

module _ (top : ℕ) (mem : List ℕ) where
  -- a value, before other writes
  saved-value : (v : u8u16) (at : ℕ) (ws : List Write) → at + size_of v ≤ 0xFF00 → at + size_of v ≤ top + 1
      → saved_for top (value_writes at v false ++ ws) mem ≡ saved_from at (size_of v) mem ++ saved_for top ws mem
  unfolding saved_for saved_from
  saved-value (u8 b) at ws h g = rw (lands top at (omega arith) (omega arith))
  saved-value (u16 w) at ws h g =
      let e : (at + 1) % 65536 ≡ at + 1 = omega arith in
      rw (e, lands top at (omega arith) (omega arith), lands top (at + 1) (omega arith) (omega arith))

  quiet-value : (v : u8u16) (at : ℕ) (ws : List Write) → at + size_of v ≤ 0xFF00 → at + size_of v ≤ top + 1 → reported top (value_writes at v false ++ ws) ≡ reported top ws
  unfolding reported
  quiet-value (u8 b) at ws h g = rw (lands top at (omega arith) (omega arith))
  quiet-value (u16 w) at ws h g =
      let e : (at + 1) % 65536 ≡ at + 1 = omega arith in
      rw (e, lands top at (omega arith) (omega arith), lands top (at + 1) (omega arith) (omega arith))

  -- values that stand alone
  pub saved-alone : (v : u8u16) (at : ℕ) → at + size_of v ≤ 0xFF00 → at + size_of v ≤ top + 1 → saved_for top (value_writes at v false) mem ≡ saved_from at (size_of v) mem
  unfolding saved_for
  saved-alone v at h g =
      ap (λ (ws : List Write). saved_for top ws mem) (sym (append-nil (value_writes at v false)))
      ∙ (saved-value v at [] h g ∙ append-nil (saved_from at (size_of v) mem))

  pub quiet-alone : (v : u8u16) (at : ℕ) → at + size_of v ≤ 0xFF00 → at + size_of v ≤ top + 1 → reported top (value_writes at v false) ≡ []
  unfolding reported
  quiet-alone v at h g = ap (reported top) (sym (append-nil (value_writes at v false))) ∙ quiet-value v at [] h g

  module _ (r : Set) where
    saved-register : (name : Name) (p : ℕ) (ws : List Write) → register_size name ≤ p → p ≤ 0xFF00 → p ≤ top
        → saved_for top (value_writes (p - register_size name) (read r name) false ++ ws) mem ≡ saved_from (p - register_size name) (register_size name) mem ++ saved_for top ws mem
    saved-register name p ws s h g =
        let e = value-size r name in
        ap (λ (n : ℕ). saved_for top (value_writes (p - n) (read r name) false ++ ws) mem) (sym e)
        ∙ (saved-value (read r name) (p - size_of (read r name)) ws (omega arith) (omega arith)
        ∙ ap (λ (n : ℕ). saved_from (p - n) n mem ++ saved_for top ws mem) e)

    -- registers pushed from p down
    pub quiet-pushes : (l : List Name) (p : ℕ) → size l ≤ p → p ≤ 0xFF00 → p ≤ top → reported top (pushes r false p l) ≡ []
    unfolding pushes reported
    quiet-pushes [] p s h g = refl
    quiet-pushes (name ∷ l) p s h g =
        let e = value-size r name in
        quiet-value (read r name) (p - register_size name) (pushes r false (p - register_size name) l) (omega arith) (omega arith)
        ∙ quiet-pushes l (p - register_size name) (omega arith) (omega arith) (omega arith)

    pub count-pushes : (l : List Name) (p : ℕ) → size l ≤ p → p ≤ 0xFF00 → p ≤ top → length (saved_for top (pushes r false p l) mem) ≡ size l
    unfolding pushes saved_for
    count-pushes [] p s h g = refl
    count-pushes (name ∷ l) p s h g =
        let rest = pushes r false (p - register_size name) l in
        ap length (saved-register name p rest (omega arith) h g)
        ∙ (length-append (saved_from (p - register_size name) (register_size name) mem) (saved_for top rest mem)
        ∙ rw (length-saved (p - register_size name) (register_size name) mem, count-pushes l (p - register_size name) (omega arith) (omega arith) (omega arith)))

    module _ (mask : ℕ) where
      -- the next register of a post-byte, where its bit is set
      next : (k : ℕ) (name : Name) (slots : List (ℕ × Name)) (p q n : ℕ) → n ≡ mask / 2 ^ k % 2 * register_size name → q + n ≡ p → p ≤ 0xFF00 → p ≤ top
          → saved_for top (pushes r false p (chosen mask ((k, name) ∷ slots))) mem ≡ saved_from q n mem ++ saved_for top (pushes r false q (chosen mask slots)) mem
      unfolding chosen bit_at pushes saved_from
      next k name slots p q n e f h g = go (mask / 2 ^ k % 2) (omega arith) e
        where
          go : (d : ℕ) → d < 2 → n ≡ d * register_size name
              → saved_for top (pushes r false p (cond (eqb d 1) (name ∷ chosen mask slots) (chosen mask slots))) mem ≡ saved_from q n mem ++ saved_for top (pushes r false q (chosen mask slots)) mem
          go zero b z = let n0 : n ≡ 0 = omega arith in let qp : q ≡ p = omega arith in rw (n0, qp)
          go (suc zero) b z =
              let ns : n ≡ register_size name = omega arith in
              let qp : q ≡ p - register_size name = omega arith in
              rw (qp, ns) (saved-register name p (pushes r false (p - register_size name) (chosen mask slots)) (omega arith) h g)
          go (suc (suc d)) b z = absurd (omega arith)

      -- its entries, after those of the registers before it
      pub turn : (pointer k : ℕ) (name : Name) (slots : List (ℕ × Name)) (p q n : ℕ) (rest after : List ℕ) → n ≡ mask / 2 ^ k % 2 * register_size name → q + n ≡ p → p ≤ pointer
          → pointer ≤ 0xFF00 → pointer ≤ top → after ≡ sets rest (entries_at + (pointer - p) * entry_length) (entries (saved_from q n mem))
          → left_to_save top r mem pointer p mask ((k, name) ∷ slots) rest ≡ left_to_save top r mem pointer q mask slots after
      turn pointer k name slots p q n rest after e f b h g z =
          let l = length-entries (saved_from q n mem) in
          let s = length-saved q n mem in
          let more = saved_for top (pushes r false q (chosen mask slots)) mem in
          ap (λ (es : List Saved). sets rest (entries_at + (pointer - p) * entry_length) (entries es)) (next k name slots p q n e f (omega arith) (omega arith))
          ∙ (ap (sets rest (entries_at + (pointer - p) * entry_length)) (entries-append (saved_from q n mem) more)
          ∙ (sym (sets_more rest (entries (saved_from q n mem)) (entries more) (entries_at + (pointer - p) * entry_length) (entries_at + (pointer - q) * entry_length) (omega arith))
          ∙ ap (λ (x : List ℕ). sets x (entries_at + (pointer - q) * entry_length) (entries more)) (sym z)))

-- ---- by the kind: what a plain decision writes

pub record Plainly (top : ℕ) (p : Plan) (ws : List Write) : Type 0 where
  pub answer : p.answer ≡ (Ok tt)
  pub writes : listed p.writes ≡ ws
  pub quiet : reported top ws ≡ []

module _ (m : Machine) (s : Settings) (mem : List ℕ) (d : Decision) where
  pub told-refused : d.kind ≡ Refused → (plan_told m s mem d).answer ≡ Err d.refusal
  unfolding finished
  told-refused e = ap (λ (p : Plan). p.answer) (plan-as m s mem d e)

  pub told-nothing : d.kind ≡ Change → Plainly s.ram_top (plan_told m s mem d) []
  unfolding finished reported
  told-nothing e = let p = plan-as m s mem d e in record { answer = ap (λ (x : Plan). x.answer) p; writes = ap (λ (x : Plan). listed x.writes) p; quiet = refl }

  module _ (h : is_plain s d ≡ true) where
    pub told-byte : d.kind ≡ Byte → Plainly s.ram_top (plan_told m s mem d) (value_writes d.at (u8 (d.value % 256)) false)
    unfolding finished
    told-byte e =
        let p = plan-as m s mem d e in
        let b = plain_byte s d e h in
        let l = b.0 in
        let t = b.1 in
        record {
          answer = ap (λ (x : Plan). x.answer) p;
          writes = ap (λ (x : Plan). listed x.writes) p ∙ listed_back (value_writes d.at (u8 (d.value % 256)) false);
          quiet = quiet-alone s.ram_top mem (u8 (d.value % 256)) d.at (omega arith) (omega arith);
        }

    pub told-word : d.kind ≡ Word → Plainly s.ram_top (plan_told m s mem d) (value_writes d.at (u16 d.value) false)
    unfolding finished
    told-word e =
        let p = plan-as m s mem d e in
        let b = plain_word s d e h in
        let l = b.0 in
        let t = b.1 in
        record {
          answer = ap (λ (x : Plan). x.answer) p;
          writes = ap (λ (x : Plan). listed x.writes) p ∙ listed_back (value_writes d.at (u16 d.value) false);
          quiet = quiet-alone s.ram_top mem (u16 d.value) d.at (omega arith) (omega arith);
        }

    pub told_push : d.kind ≡ Push → Plainly s.ram_top (plan_told m s mem d) (pushes d.regs false (word_of d.regs (stack_word d.own)) (registers_named d.own d.mask))
    unfolding finished
    told_push e =
        let b = plain_push s d e h in
        let pointer = word_of d.regs (stack_word d.own) in
        let p = plan-as m s mem d e ∙ ap (finished m d.cycles d.arms d.reads) (pushed-as d.regs d.own d.mask b.2) in
        let n = named-size d.mask d.own in
        let room = b.2 in
        record {
          answer = ap (λ (x : Plan). x.answer) p;
          writes = ap (λ (x : Plan). listed x.writes) p ∙ listed_back (pushes d.regs false pointer (registers_named d.own d.mask));
          quiet = quiet-pushes s.ram_top mem d.regs (registers_named d.own d.mask) pointer (omega arith) b.0 b.1;
        }

-- ---- entries of one and of two places

pub one-laid : (d mem : List ℕ) (at q : ℕ) → sets d at (entries (saved_at mem (Stored q))) ≡ sets d at (entries (saved_from q 1 mem))
unfolding saved_from
one-laid d mem at q = refl

pub two-laid : (d mem : List ℕ) (at q : ℕ)
    → sets (sets d at (entries (saved_at mem (Stored q)))) (at + entry_length) (entries (saved_at mem (Stored (q + 1)))) ≡ sets d at (entries (saved_from q 2 mem))
unfolding saved_from
two-laid d mem at q =
    let l = length-entries (saved_at mem (Stored q)) in
    sets_more d (entries (saved_at mem (Stored q))) (entries (saved_at mem (Stored (q + 1)))) at (at + entry_length) (omega arith)
    ∙ ap (sets d at) (sym (entries-append (saved_at mem (Stored q)) (saved_at mem (Stored (q + 1)))))

pub none-laid : (d mem : List ℕ) (at q : ℕ) → d ≡ sets d at (entries (saved_from q 0 mem))
unfolding saved_from entries
none-laid d mem at q = refl

-- ---- four numbers that go down

pub down : (p a b c d q r s t : ℕ) → q + a ≡ p → r + b ≡ q → s + c ≡ r → t + d ≡ s → t + (a + b + c + d) ≡ p
down p a b c d q r s t e f g h = omega arith

pub twice : (a b c d : ℕ) → 2 * a + 2 * b + 2 * c + 2 * d ≡ 2 * (a + b + c + d)
twice a b c d = omega arith

pub double : (d : ℕ) → 2 * d ≡ d * 2
double d = omega arith

pub single : (d : ℕ) → d ≡ d * 1
single d = omega arith

pub all_saved : (top : ℕ) (mem : List ℕ) (r : Set) (mask pointer p : ℕ) (rest : List ℕ) → left_to_save top r mem pointer p mask [] rest ≡ rest
unfolding chosen pushes saved_for entries
all_saved top mem r mask pointer p rest = refl

-- ---- the entries of a plain decision

module _ (m : Machine) (s : Settings) (mem : List ℕ) (d : Decision) where
  abbrev saves : List Saved
  saves = saved_for s.ram_top (listed (plan_told m s mem d).writes) mem

  pub saves-refused : d.kind ≡ Refused → saves ≡ []
  unfolding finished saved_for
  saves-refused e = ap (λ (p : Plan). saved_for s.ram_top (listed p.writes) mem) (plan-as m s mem d e)

  quiet-refused : d.kind ≡ Refused → reported s.ram_top (listed (plan_told m s mem d).writes) ≡ []
  unfolding finished reported
  quiet-refused e = ap (λ (p : Plan). reported s.ram_top (listed p.writes)) (plan-as m s mem d e)

  pub saves-nothing : d.kind ≡ Change → saves ≡ []
  unfolding saved_for
  saves-nothing e = ap (λ (ws : List Write). saved_for s.ram_top ws mem) (told-nothing m s mem d e).writes

  module _ (h : is_plain s d ≡ true) where
    pub saves-byte : d.kind ≡ Byte → saves ≡ saved_from d.at 1 mem
    saves-byte e =
        let b = plain_byte s d e h in
        let l = b.0 in
        let t = b.1 in
        ap (λ (ws : List Write). saved_for s.ram_top ws mem) (told-byte m s mem d h e).writes
        ∙ saved-alone s.ram_top mem (u8 (d.value % 256)) d.at (omega arith) (omega arith)

    pub saves-word : d.kind ≡ Word → saves ≡ saved_from d.at 2 mem
    saves-word e =
        let b = plain_word s d e h in
        let l = b.0 in
        let t = b.1 in
        ap (λ (ws : List Write). saved_for s.ram_top ws mem) (told-word m s mem d h e).writes
        ∙ saved-alone s.ram_top mem (u16 d.value) d.at (omega arith) (omega arith)

    pub saves-push : d.kind ≡ Push → saves ≡ saved_for s.ram_top (pushes d.regs false (word_of d.regs (stack_word d.own)) (registers_named d.own d.mask)) mem
    saves-push e = ap (λ (ws : List Write). saved_for s.ram_top ws mem) (told_push m s mem d h e).writes

    pub count-push : d.kind ≡ Push → length saves ≡ bytes_pushed d.mask
    count-push e =
        let b = plain_push s d e h in
        let n = named-size d.mask d.own in
        let room = b.2 in
        ap length (saves-push e)
        ∙ (count-pushes s.ram_top mem d.regs (registers_named d.own d.mask) (word_of d.regs (stack_word d.own)) (omega arith) b.0 b.1 ∙ n)

    -- no write is a device's
    pub quiet_told : reported s.ram_top (listed (plan_told m s mem d).writes) ≡ []
    quiet_told = by_kind d.kind refl
      where
        heard : (ws : List Write) → Plainly s.ram_top (plan_told m s mem d) ws → reported s.ram_top (listed (plan_told m s mem d).writes) ≡ []
        heard ws p = ap (reported s.ram_top) p.writes ∙ p.quiet

        by_kind : (k : Kind) → d.kind ≡ k → reported s.ram_top (listed (plan_told m s mem d).writes) ≡ []
        by_kind Refused e = quiet-refused e
        by_kind Change e = heard _ (told-nothing m s mem d e)
        by_kind Byte e = heard _ (told-byte m s mem d h e)
        by_kind Word e = heard _ (told-word m s mem d h e)
        by_kind Push e = heard _ (told_push m s mem d h e)
        by_kind Rest e = absurd (not-rest s d e h)

-- ---- room for the entries of a push

-- of w words and b bytes, n in all
pub entries-room : (w b n size : ℕ) → entries_at + n * entry_length ≤ size → n ≡ 2 * w + b → (entries_at + 2 * w * entry_length ≤ size) × (entries_at + (2 * w + b) * entry_length ≤ size)
entries-room w b n size h e = (omega arith, omega arith)

pub room-first : (w b p : ℕ) → 2 * w + b ≤ p → 2 * w ≤ p
room-first w b p h = omega arith

pub bytes-room : (w b p q size : ℕ) → q + 2 * w ≡ p → entries_at + (2 * w + b) * entry_length ≤ size → entries_at + (p - q + b) * entry_length ≤ size
bytes-room w b p q size e h = omega arith

pub less_one : (q n at : ℕ) → q + n ≡ at + n → q ≡ at
less_one q n at e = omega arith

-- all of a push, from its pointer on
pub whole-push : (top : ℕ) (r : Set) (mem : List ℕ) (p pointer mask : ℕ) (own : Stack) (rest : List ℕ) (es : List Saved) → p ≡ pointer
    → saved_for top (pushes r false pointer (registers_named own mask)) mem ≡ es → left_to_save top r mem p p mask (order own) rest ≡ sets rest entries_at (entries es)
whole-push top r mem p pointer mask own rest es e f =
    let z : entries_at + (pointer - pointer) * entry_length ≡ entries_at = omega arith in
    rw (e, f, z)

-- what is left for the last of four
pub last-room : (pointer p a b c d q r s size : ℕ) → q + a ≡ p → r + b ≡ q → s + c ≡ r → p ≤ pointer → a + b + c + d ≤ p → entries_at + (pointer - p + (a + b + c + d)) * entry_length ≤ size
    → (d ≤ s) × (s ≤ pointer) × (entries_at + (pointer - s + d) * entry_length ≤ size)
last-room pointer p a b c d q r s size e f g h i j = (omega arith, omega arith, omega arith)

pub bit-fits : (n : ℕ) → n % 2 ≤ 2
bit-fits n = omega arith
