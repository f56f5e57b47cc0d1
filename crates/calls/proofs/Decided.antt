-- What a decision stands for, kind by kind; and what it does where its writes are plain.
-- Assumes nothing.
use Rattle.std.proofs.Common.{◌≡◌, ℕ, suc, ◌+◌, ◌-◌, ◌/◌, ◌%◌, ◌<◌, ◌≤◌, Bool, true, false, ◌&&◌, ltb, leb, List, [], ◌∷◌, length, get_or, set, sym, refl, ap, ◌∙◌, subst, arith, length-take, ltb-true, le-ltb, lt-ltb, leb-true, Err, Ok, Result}
use Rattle.std.specs.Prelude.{⊤}
use Rattle.answers.specs.declared.Refusal.{Refusal}
use Rattle.machine.specs.Machine.{with_registers}
use Rattle.u8oru16.specs.declared.u8u16.TheVariants.{u8, u16}
use Rattle.answers.specs.declared.Refusal.TheVariants.{StackTooSmall}
use Rattle.registers.specs.Names.{stack_word}
use Rattle.registers.specs.RegisterSet.{word_of, with_word}
use Rattle.registers.specs.declared.Set.{Set}
use Rattle.registers.specs.ConditionCodes.{bit_at}
use Rattle.registers.specs.declared.Stack.{Stack}
use Rattle.registers.specs.declared.Word.TheVariants.{S}
use Rattle.memory.specs.Writes.{writes_of, listed, stored, reported, value_writes}
use Rattle.memory.specs.declared.writes.Write.{Write}
use Rattle.memory.specs.declared.writes.Writes.{Writes}
use Rattle.memory.proofs.Folds.{listed_back}
use Rattle.machine.specs.Effect.{changes, stores, refuses}
use Rattle.machine.specs.declared.Effect.{Effect}
use Rattle.machine.specs.declared.Machine.{Machine}
use Rattle.machine.specs.declared.Settings.{Settings}
use Rattle.machine.specs.declared.Wait.{Wait}
use Rattle.machine.specs.declared.Wait.TheVariants.{Running, Cwai, Sync}
use Rattle.machine.specs.declared.fence.Range.{Range}
use Rattle.operations.specs.Branches.{jumped}
use Rattle.stack.specs.Pushing.{chosen, registers_named, bytes_pushed, pushes, pushed, jumped_to_subroutine}
use Rattle.stack.specs.Frames.{framed}
use Rattle.vectors.specs.Table.{is_entire}
use Rattle.vectors.specs.declared.table.Vector.{Vector}
use Rattle.calls.specs.Plans.{ended_by, carried_out, memory_with}
use Rattle.calls.specs.Interrupts.{taken_reads, of_effect}
use Rattle.calls.specs.Steps.{after_instruction, finished_as, finished}
use Rattle.bus.specs.Reads.{operand_taken, instruction_reads}
use Rattle.bus.specs.Sums.{pointer_count, operand_count, fetched_count}
use Rattle.bus.proofs.Sums.{vector-length, reads-summed}
use Rattle.bus.proofs.Small.{pointer-small, operations-small}
use Rattle.opcodes.specs.declared.Mode.{Mode}
use Rattle.opcodes.specs.declared.Op.{Op}
use Rattle.decode.specs.declared.operand.Operand.{Operand}
use Rattle.decode.specs.declared.instruction.Instruction.{Instruction}
use Rattle.calls.specs.Decisions.{billed, effect_as, effect_told, plan_told, first_range, met_no_device, is_below, is_word_below, is_plain_as, is_plain, Decides}
use Rattle.calls.specs.declared.Plan.{Plan}
use Rattle.calls.specs.declared.Report.{Report}
use Rattle.calls.specs.declared.decisions.Decision.{Decision}
use Rattle.calls.specs.declared.decisions.Kind.{Kind}
use Rattle.calls.specs.declared.decisions.Kind.TheVariants.{Refused, Change, Byte, Word, Push, Rest}
use Rattle.calls.proofs.PlainWrites.{outcome, byte-first, word_first, nothing}

-- ---- a bill does not change the effect

module _ (s : Settings) (mem : List ℕ) (d : Decision) (cycles reads : ℕ) (arms : Bool) where
  effect-as : (k : Kind) → effect_as k s mem (billed d cycles reads arms) ≡ effect_as k s mem d
  effect-as Refused = refl
  effect-as Change = refl
  effect-as Byte = refl
  effect-as Word = refl
  effect-as Push = refl
  effect-as Rest = refl

  pub billed-effect : effect_told s mem (billed d cycles reads arms) ≡ effect_told s mem d
  billed-effect = effect-as d.kind

-- ---- an effect's answer

pub ended-step : (a : Result ⊤ Refusal) (m : Machine) (cycles : ℕ) (arms : Bool) (reads : ℕ) (e : Effect) → ended_by a m e.writes (after_instruction m cycles arms e.regs e.wait) reads ≡ finished_as a m cycles arms reads e
ended-step (Ok u) m cycles arms reads e = refl
ended-step (Err x) m cycles arms reads e = refl

pub ended-interrupt : (a : Result ⊤ Refusal) (m : Machine) (reads : ℕ) (e : Effect) → ended_by a m e.writes (with_registers m e.regs Running) reads ≡ of_effect m reads e a
ended-interrupt (Ok u) m reads e = refl
ended-interrupt (Err x) m reads e = refl

-- ---- by the kind

pub plan-as : (m : Machine) (s : Settings) (mem : List ℕ) (d : Decision) {k : Kind} → d.kind ≡ k → plan_told m s mem d ≡ finished m d.cycles d.arms d.reads (effect_as k s mem d)
plan-as m s mem d e = ap (λ (k : Kind). finished m d.cycles d.arms d.reads (effect_as k s mem d)) e

-- ---- where it is plain

pub is-plain-by : (s : Settings) (d : Decision) {k : Kind} → d.kind ≡ k → is_plain_as k s.ram_top (first_range s.profile) d ≡ is_plain s d
is-plain-by s d e = sym (ap (λ (k : Kind). is_plain_as k s.ram_top (first_range s.profile) d) e)

-- the first of eight ranges
pub first_of : (rs : List Range) (none : Range) {n : ℕ} → length rs ≡ suc n → get_or rs 0 none ≡ first_range rs
first_of [] none e = absurd (omega arith)
first_of (g ∷ gs) none e = refl

and-true : (a b : Bool) → (a && b) ≡ true → (a ≡ true) × (b ≡ true)
and-true true b e = (refl, e)
and-true false b e = let z : ◌≡◌ {A = ℕ} 0 1 = cc in absurd (omega arith)

-- from one address to another all lies below the devices, at or below ram_top, and in the range g
pub record Low (top : ℕ) (g : Range) (from to : ℕ) : Type 0 where
  pub below : to < 0xFF00
  pub reached : to ≤ top
  pub first : g.first ≤ from
  pub last : to ≤ g.last

below-facts : (top : ℕ) (g : Range) (at : ℕ) → is_below top g at ≡ true → Low top g at at
below-facts top g at e =
    let l = and-true ((ltb at 0xFF00 && leb at top) && leb g.first at) (leb at g.last) e in
    let f = and-true (ltb at 0xFF00 && leb at top) (leb g.first at) l.0 in
    let b = and-true (ltb at 0xFF00) (leb at top) f.0 in
    record { below = ltb-true at 0xFF00 b.0; reached = leb-true at top b.1; first = leb-true g.first at f.1; last = leb-true at g.last l.1 }

word-facts : (top : ℕ) (g : Range) (at : ℕ) → is_word_below top g at ≡ true → Low top g at (at + 1)
word-facts top g at e =
    let l = and-true ((ltb at 0xFEFF && ltb at top) && leb g.first at) (ltb at g.last) e in
    let f = and-true (ltb at 0xFEFF && ltb at top) (leb g.first at) l.0 in
    let b = and-true (ltb at 0xFEFF) (ltb at top) f.0 in
    let h = ltb-true at 0xFEFF b.0 in
    let i = ltb-true at top b.1 in
    let j = ltb-true at g.last l.1 in
    record { below = omega arith; reached = omega arith; first = leb-true g.first at f.1; last = omega arith }

pub twelve-at-most : (mask : ℕ) → bytes_pushed mask ≤ 12
twelve-at-most mask = omega arith

module _ (s : Settings) (d : Decision) where
  abbrev range : Range
  range = first_range s.profile

  abbrev pointer : ℕ
  pointer = word_of d.regs (stack_word d.own)

  plain-as : {k : Kind} → d.kind ≡ k → is_plain s d ≡ true → is_plain_as k s.ram_top range d ≡ true
  plain-as e p = subst (λ (k : Kind). is_plain_as k s.ram_top range d ≡ true) e p

  pub low_byte : d.kind ≡ Byte → is_plain s d ≡ true → Low s.ram_top range d.at d.at
  low_byte e p = below-facts s.ram_top range d.at (plain-as e p)

  pub low_word : d.kind ≡ Word → is_plain s d ≡ true → Low s.ram_top range d.at (d.at + 1)
  low_word e p = word-facts s.ram_top range d.at (plain-as e p)

  pub low-push : d.kind ≡ Push → is_plain s d ≡ true → Low s.ram_top range (pointer - 12) pointer × (12 ≤ pointer)
  low-push e p =
      let f = and-true (ltb (range.first + 11) pointer) (is_below s.ram_top range pointer) (plain-as e p) in
      let l = below-facts s.ram_top range pointer f.1 in
      let k = ltb-true (range.first + 11) pointer f.0 in
      (record { below = l.below; reached = l.reached; first = omega arith; last = l.last }, omega arith)

  pub plain_byte : d.kind ≡ Byte → is_plain s d ≡ true → (d.at < 0xFF00) × (d.at ≤ s.ram_top)
  plain_byte e p = let l = low_byte e p in (l.below, l.reached)

  pub plain_word : d.kind ≡ Word → is_plain s d ≡ true → (d.at + 1 < 0xFF00) × (d.at + 1 ≤ s.ram_top)
  plain_word e p = let l = low_word e p in (l.below, l.reached)

  pub plain_push : d.kind ≡ Push → is_plain s d ≡ true → (pointer ≤ 0xFF00) × (pointer ≤ s.ram_top) × (bytes_pushed d.mask ≤ pointer)
  plain_push e p =
      let l = low-push e p in
      let h = l.0.below in
      let k = l.1 in
      (omega arith, l.0.reached, omega (arith, twelve-at-most d.mask))

  pub not-rest : d.kind ≡ Rest → is_plain s d ≡ true → ⊥
  not-rest e p = let q = plain-as e p in let z : ◌≡◌ {A = ℕ} 0 1 = cc in omega arith

pub as-told : (m : Machine) (s : Settings) (mem : List ℕ) (d : Decision) {k : Kind} → d.kind ≡ k
    → (carried_out s (finished m d.cycles d.arms d.reads (effect_as k s mem d)) ≡ carried_out s (plan_told m s mem d))
    × (memory_with s (finished m d.cycles d.arms d.reads (effect_as k s mem d)) mem ≡ memory_with s (plan_told m s mem d) mem)
as-told m s mem d e = (sym (ap (carried_out s) (plan-as m s mem d e)), sym (ap (λ (p : Plan). memory_with s p mem) (plan-as m s mem d e)))

pub decides-plan : (m : Machine) (s : Settings) (mem : List ℕ) (d : Decision) {cycles reads : ℕ} {arms : Bool} {e : Effect} → Decides s mem cycles reads arms e d → plan_told m s mem d ≡ finished m cycles arms reads e
decides-plan m s mem d {cycles} {reads} {arms} {e} h =
    ap (λ (n : ℕ). finished m n d.arms d.reads (effect_told s mem d)) h.cycles
    ∙ (ap (λ (b : Bool). finished m cycles b d.reads (effect_told s mem d)) h.arms
    ∙ (ap (λ (n : ℕ). finished m cycles arms n (effect_told s mem d)) h.reads ∙ ap (finished m cycles arms reads) h.effect))

-- ---- what an instruction reads: its own bytes and the pointer first, then what the operation takes

pub reads-told : (i : Instruction) (mem : List ℕ) (s : Settings) (was r : Set) (ea program : ℕ) → program ≡ (i.next - was.pc) + pointer_count i.operand
    → program + (operand_count i.entry.mode (operand_taken i.entry.op) + fetched_count i.entry.op mem r ea) ≡ length (instruction_reads i mem s was r ea)
reads-told i mem s was r ea program e = let k = reads-summed i mem s was r ea in omega arith

pub operand-most : (op : Op) (mode : Mode) {n : ℕ} → n ≡ operand_count mode (operand_taken op) → n ≤ 2
operand-most op mode e = rw e ((operations-small op).operand mode)

pub fetched-most : (op : Op) (mem : List ℕ) (r : Set) (ea : ℕ) {n : ℕ} → n ≡ fetched_count op mem r ea → n ≤ 12
fetched-most op mem r ea e = rw e ((operations-small op).fetched mem r ea)

pub pointer-most : (o : Operand) {n : ℕ} → n ≡ pointer_count o → n ≤ 2
pointer-most o e = rw e (pointer-small o)

-- an operation on registers fetches nothing
pub fetches-none : (program n : ℕ) → program + n ≡ program + (n + 0)
fetches-none program n = omega arith

-- ---- a push: as many bytes as the pointer fell

pub fallen : (p n top : ℕ) → p + n ≡ top → top - p ≡ n
fallen p n top e = omega arith

-- ---- how many bytes are listed

pub listed-few : (w : Writes) → length w.list ≡ 12 → w.count < 12 → w.count ≡ length (listed w)
listed-few w f h = simp length-take (omega arith)

pub listed-most : (w : Writes) → length w.list ≡ 12 → 12 ≤ w.count → 12 ≡ length (listed w)
listed-most w f h = simp length-take (omega arith)

-- ---- an interrupt reads its vector and the byte that it leads to

pub taken-reads : (mem : List ℕ) (s : Settings) (r : Set) (w : Wait) (v : Vector) → length (taken_reads w mem s r v) ≡ 3
taken-reads mem s r Running v = vector-length mem s (framed r (is_entire v)) v
taken-reads mem s r Sync v = vector-length mem s (framed r (is_entire v)) v
taken-reads mem s r Cwai v = vector-length mem s (changes r) v

-- ---- writes that are stored and not reported

pub record Done-plain (s : Settings) (m : Machine) (cycles : ℕ) (arms : Bool) (reads writes : ℕ) (r : Set) (e : Effect) (mem after : List ℕ) : Type 0 where
  pub report : met_no_device m cycles arms reads writes r ≡ carried_out s (finished m cycles arms reads e)
  pub memory : after ≡ memory_with s (finished m cycles arms reads e) mem

module _ (s : Settings) (m : Machine) (cycles : ℕ) (arms : Bool) (reads : ℕ) (r : Set) where
  abbrev left : List Write → ℕ → Report
  left devices writes = record { devices = writes_of devices; machine = after_instruction m cycles arms r Running; reads = reads; writes = writes; answer = (Ok tt) }

  whole : (ws : List Write) → carried_out s (finished m cycles arms reads (stores r (writes_of ws))) ≡ left (reported s.ram_top ws) (length ws)
  unfolding finished
  whole ws = rw (listed_back ws)

  memory-whole : (ws : List Write) (mem : List ℕ) → memory_with s (finished m cycles arms reads (stores r (writes_of ws))) mem ≡ stored s.ram_top ws mem
  unfolding finished
  memory-whole ws mem = rw (listed_back ws)

  pub plain_done : (ws : List Write) (mem after : List ℕ) → after ≡ stored s.ram_top ws mem → reported s.ram_top ws ≡ []
      → Done-plain s m cycles arms reads (length ws) r (stores r (writes_of ws)) mem after
  plain_done ws mem after kept quiet =
      record { report = ap (λ (l : List Write). left l (length ws)) (sym quiet) ∙ sym (whole ws); memory = kept ∙ sym (memory-whole ws mem) }

  by-outcome : (ws : List Write) (mem after : List ℕ) → outcome s.ram_top ws mem ≡ (after, []) → Done-plain s m cycles arms reads (length ws) r (stores r (writes_of ws)) mem after
  by-outcome ws mem after e = plain_done ws mem after (sym (ap (λ (o : List ℕ × List Write). o.0) e)) (ap (λ (o : List ℕ × List Write). o.1) e)

  pub nothing-done : (mem : List ℕ) → Done-plain s m cycles arms reads 0 r (changes r) mem mem
  nothing-done mem = by-outcome [] mem mem (nothing s.ram_top mem)

  pub byte-done : (at v : ℕ) (mem : List ℕ) → at < 0xFF00 → at ≤ s.ram_top → Done-plain s m cycles arms reads 1 r (stores r (writes_of (value_writes at (u8 v) false))) mem (set mem at v)
  byte-done at v mem h g = by-outcome (value_writes at (u8 v) false) mem (set mem at v) (byte-first s.ram_top at v [] mem h g ∙ nothing s.ram_top (set mem at v))

  pub word-done : (at w : ℕ) (mem : List ℕ) → at + 1 < 0xFF00 → at + 1 ≤ s.ram_top
      → Done-plain s m cycles arms reads 2 r (stores r (writes_of (value_writes at (u16 w) false))) mem (set (set mem at (w / 256)) (at + 1) (w % 256))
  word-done at w mem h g =
      by-outcome (value_writes at (u16 w) false) mem (set (set mem at (w / 256)) (at + 1) (w % 256))
      (word_first s.ram_top at w [] mem h g ∙ nothing s.ram_top (set (set mem at (w / 256)) (at + 1) (w % 256)))

-- ---- a push that has room

pub pushed-as : (r : Set) (own : Stack) (mask : ℕ) → bytes_pushed mask ≤ word_of r (stack_word own)
    → pushed r own mask false
    ≡ stores (with_word r (stack_word own) (word_of r (stack_word own) - bytes_pushed mask)) (writes_of (pushes r false (word_of r (stack_word own)) (registers_named own mask)))
unfolding pushed
pushed-as r own mask h = rw (le-ltb _ _ h)

-- ---- JSR and BSR, with room and without

pub called : (r : Set) (ea : ℕ) → 1 < r.s → jumped_to_subroutine r ea ≡ stores (jumped (with_word r S (r.s - 2)) ea) (writes_of (value_writes (r.s - 2) (u16 r.pc) false))
unfolding jumped_to_subroutine pushed chosen pushes bit_at
called r ea h = let g : 2 ≤ r.s = omega arith in rw (le-ltb r.s 2 g)

pub no_room : (r : Set) (ea : ℕ) → r.s < 2 → jumped_to_subroutine r ea ≡ refuses r StackTooSmall
unfolding jumped_to_subroutine pushed
no_room r ea h = rw (lt-ltb r.s 2 h)
