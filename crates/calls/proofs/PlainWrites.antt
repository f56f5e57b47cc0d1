-- Writes below the devices and at or below ram_top: each is a store at its address, and none is reported.
-- Assumes nothing.
use Rattle.std.proofs.Common.{◌≡◌, ℕ, ◌+◌, ◌-◌, ◌*◌, ◌/◌, ◌%◌, ◌^◌, ◌<◌, ◌≤◌, Bool, true, false, not, ◌&&◌, ltb, List, [], ◌∷◌, ◌++◌, length, drop, set, sym, refl, ap, ◌∙◌, inl, arith, le-ltb, length-set}
use Rattle.u8oru16.specs.Value.{size_of}
use Rattle.u8oru16.specs.declared.u8u16.{u8u16}
use Rattle.u8oru16.specs.declared.u8u16.TheVariants.{u8, u16}
use Rattle.registers.specs.ConditionCodes.{bit_at}
use Rattle.registers.specs.Names.{register_size, word_name, stack_word, other_stack}
use Rattle.registers.specs.RegisterSet.{read}
use Rattle.registers.specs.declared.Name.{Name}
use Rattle.registers.specs.declared.Set.{Set}
use Rattle.registers.specs.declared.Stack.{Stack}
use Rattle.registers.specs.declared.Stack.TheVariants.{S as on_s, U as on_u}
use Rattle.memory.specs.Map.{landing_of}
use Rattle.memory.specs.Writes.{stored, reported, value_writes}
use Rattle.memory.specs.declared.Landing.TheVariants.{Stored}
use Rattle.memory.specs.declared.writes.Write.{Write}
use Rattle.memory.proofs.Ranges.{place-low, kept}
use Rattle.stack.specs.Pushing.{order, chosen, registers_named, bytes_pushed, pushes}
use Rattle.stack.proofs.Filling.{size, name_at, read-size, named-size, chosen-from}
use Rattle.calls.specs.Plain.{put}

pub less : (q n p : ℕ) → q + n ≡ p → q ≡ p - n
less q n p e = omega arith

pub below : (q n p m : ℕ) → q + n ≡ p → p ≤ m → q ≤ m
below q n p m e h = omega arith

pub room_after : (q w b p : ℕ) → q + 2 * w ≡ p → 2 * w + b ≤ p → b ≤ q
room_after q w b p e h = omega arith

pub lowest : (n : ℕ) → n % 2 ≡ n / 2 ^ 0 % 2
lowest n = omega arith

-- what a list of writes comes to: memory, and the writes that are reported
abbrev pub outcome : ℕ → List Write → List ℕ → List ℕ × List Write
outcome top ws mem = (stored top ws mem, reported top ws)

module _ (top : ℕ) where
  pub lands : (at : ℕ) → at < 0xFF00 → at ≤ top → landing_of at top false ≡ Stored at
  lands at h g =
      let w : ltb top at ≡ false = le-ltb _ _ g in
      sym (kept at top false (inl h) (ap (λ (b : Bool). b && not false) w)) ∙ ap Stored (sym (place-low at (omega arith)))

  -- one write, before others
  pub first : (at b : ℕ) (ws : List Write) (mem : List ℕ) → at < 0xFF00 → at ≤ top
      → outcome top (record { at = at; byte = b; system = false } ∷ ws) mem ≡ outcome top ws (set mem at b)
  unfolding stored reported
  first at b ws mem h g = rw (lands at h g)

  pub byte-first : (at b : ℕ) (ws : List Write) (mem : List ℕ) → at < 0xFF00 → at ≤ top
      → outcome top (value_writes at (u8 b) false ++ ws) mem ≡ outcome top ws (set mem at b)
  byte-first at b ws mem h g = first at b ws mem h g

  pub word_first : (at w : ℕ) (ws : List Write) (mem : List ℕ) → at + 1 < 0xFF00 → at + 1 ≤ top
      → outcome top (value_writes at (u16 w) false ++ ws) mem ≡ outcome top ws (set (set mem at (w / 256)) (at + 1) (w % 256))
  word_first at w ws mem h g =
      let e : (at + 1) % 65536 ≡ at + 1 = omega arith in
      first at (w / 256) (record { at = (at + 1) % 65536; byte = w % 256; system = false } ∷ ws) mem (omega arith) (omega arith)
      ∙ rw e (first (at + 1) (w % 256) ws (set mem at (w / 256)) h g)

  pub nothing : (mem : List ℕ) → outcome top [] mem ≡ (mem, [])
  unfolding stored reported
  nothing mem = refl

  -- a value, before others
  put-first : (at : ℕ) (v : u8u16) (ws : List Write) (mem : List ℕ) → at + size_of v ≤ 0xFF00 → at + size_of v ≤ top
      → outcome top (value_writes at v false ++ ws) mem ≡ outcome top ws (put at v mem)
  put-first at (u8 b) ws mem h g = byte-first at b ws mem (omega arith) (omega arith)
  put-first at (u16 w) ws mem h g = word_first at w ws mem (omega arith) (omega arith)

put-length : (at : ℕ) (v : u8u16) (mem : List ℕ) → length (put at v mem) ≡ length mem
put-length at (u8 b) mem = simp length-set
put-length at (u16 w) mem = simp length-set

-- ---- pushes, register by register in the order of pushing

module _ (r : Set) (own : Stack) (mask pointer : ℕ) (before : List ℕ) where
  -- what is left to push from bit k - 1 down
  abbrev rest : ℕ → List Name
  rest k = chosen mask (drop (8 - k) (order own))

  abbrev left : ℕ → ℕ → ℕ → List ℕ → List ℕ × List Write
  left top k p mem = outcome top (pushes r false p (rest k)) mem

  -- it comes to what the whole push comes to
  pub record Pushing (k p : ℕ) (mem : List ℕ) : Type 0 where
    pub full : length mem ≡ 65536
    pub reached : p ≤ pointer
    pub low : p + bytes_pushed mask ≡ pointer + size (rest k)
    pub same : (top : ℕ) → pointer ≤ top → left top k p mem ≡ left top 8 pointer before

  pub all-left : length before ≡ 65536 → Pushing 8 pointer before
  all-left f = record { full = f; reached = omega arith; low = omega (arith, named-size mask own); same = λ top h. refl }

  pub none-left : (p : ℕ) (mem : List ℕ) → Pushing 0 p mem
      → (p + bytes_pushed mask ≡ pointer) × ((top : ℕ) → pointer ≤ top → (mem ≡ stored top (pushes r false pointer (registers_named own mask)) before) × (reported top (pushes r false pointer (registers_named own mask)) ≡ []))
  unfolding chosen pushes
  none-left p mem i = (
    omega (arith, i.low),
    λ top h.
        let e : (mem, []) ≡ left top 8 pointer before = sym (nothing top mem) ∙ i.same top h in
        (ap (λ (o : List ℕ × List Write). o.0) e, sym (ap (λ (o : List ℕ × List Write). o.1) e)),
  )

  module _ (k p : ℕ) (mem : List ℕ) (i : Pushing k p mem) (low : 0 < k) (high : k ≤ 8) where
    pub turn-off : bit_at (k - 1) mask ≡ false → Pushing (k - 1) p mem
    turn-off b =
        let e : rest k ≡ rest (k - 1) = chosen-from mask own k low high ∙ rw b in
        record { full = i.full; reached = i.reached; low = rw e at i.low; same = λ top h. rw e at (i.same top h) }

    module _ (b : bit_at (k - 1) mask ≡ true) (fits : bytes_pushed mask ≤ pointer) (v : u8u16) (is : v ≡ read r (name_at own (7 - (k - 1)))) (z : ℕ) (s : z ≡ size_of v) where
      abbrev name : Name
      name = name_at own (7 - (k - 1))

      named : rest k ≡ name ∷ rest (k - 1)
      named = chosen-from mask own k low high ∙ rw b

      sized : z ≡ register_size name
      sized = s ∙ rw is (read-size r name)

      pub turn-room : z ≤ p
      turn-room = omega (arith, i.low, ap size named, sized)

      pub turn-on : pointer ≤ 0xFF00 → Pushing (k - 1) (p - z) (put (p - z) v mem)
      unfolding pushes
      turn-on plain =
          let at : p - register_size name ≡ p - z = omega (arith, sized) in
          let back : p - z + size_of v ≡ p = omega (arith, s, turn-room) in
          record {
            full = put-length (p - z) v mem ∙ i.full;
            reached = omega (arith, i.reached);
            low = omega (arith, i.low, ap size named, sized, turn-room);
            same = λ top h.
                let one : left top k p mem ≡ outcome top (value_writes (p - z) v false ++ pushes r false (p - z) (rest (k - 1))) mem = rw (named, at, is) in
                sym (put-first top (p - z) v (pushes r false (p - z) (rest (k - 1))) mem (omega (arith, back, i.reached)) (omega (arith, back, i.reached))) ∙ (sym one ∙ i.same top h);
          }

-- the other stack pointer is a word
pub other-size : (own : Stack) → register_size (word_name (stack_word (other_stack own))) ≡ 2
other-size on_s = refl
other-size on_u = refl
