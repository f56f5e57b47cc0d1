-- Pushes and pulls are sound.
-- Assumes nothing.
use Rattle.std.proofs.Common.{◌≡◌, ℕ, zero, suc, ◌-◌, ◌<◌, ◌≤◌, Bool, true, false, eqb, ltb, List, [], ◌∷◌, ◌++◌, reverse, length, replicate, refl, ap, mod-lt, arith, lit<, length-append, Err, Ok, Result}
use Rattle.std.specs.Prelude.{⊤}
use Rattle.u8oru16.specs.declared.u8u16.{u8u16}
use Rattle.u8oru16.specs.declared.u8u16.TheVariants.{u8, u16}
use Rattle.answers.specs.declared.Refusal.TheVariants.{StackTooSmall}
use Rattle.registers.specs.ConditionCodes.{coded, flag, put}
use Rattle.registers.specs.Fits.{Fits, InWidth}
use Rattle.registers.specs.Names.{register_size, stack_word}
use Rattle.registers.specs.RegisterSet.{read, word_of, with_word}
use Rattle.registers.specs.declared.CCBit.TheVariants.{E}
use Rattle.registers.specs.declared.Name.{Name}
use Rattle.registers.specs.declared.Set.{Set}
use Rattle.registers.specs.declared.Stack.{Stack}
use Rattle.registers.specs.declared.Stack.TheVariants.{S}
use Rattle.registers.proofs.Fits.{put-fits, read_fits, written-fits}
use Rattle.memory.specs.Fits.{Bytes, AllFit}
use Rattle.memory.specs.Map.{byte_at, value_at}
use Rattle.memory.specs.Writes.{twelve, writes_of, value_writes}
use Rattle.memory.specs.declared.writes.Write.{Write}
use Rattle.memory.proofs.Fits.{byte_fits, word_fits, word-writes-fit}
use Rattle.memory.proofs.Twelve.{Full}
use Rattle.machine.specs.Effect.{stores}
use Rattle.machine.specs.declared.Effect.{Effect}
use Rattle.machine.specs.declared.Wait.{Wait}
use Rattle.machine.specs.declared.Wait.TheVariants.{Running}
use Rattle.operations.specs.Branches.{jumped}
use Rattle.operations.specs.Codes.{with_codes}
use Rattle.operations.specs.Sound.{Sound, Given}
use Rattle.operations.proofs.Sound.{done-sound, stored-sound, refused-sound, either-sound}
use Rattle.operations.proofs.Widths.{word_in, word-written, jumped-fits, codes-fits}
use Rattle.stack.specs.Pushing.{order, chosen, registers_named, bytes_pushed, pushes, pushed, once_pushed, jumped_to_subroutine}
use Rattle.stack.specs.Frames.{stacked_by, framed}
use Rattle.stack.specs.Pulling.{pulled_to, pulled_into, pulls, pulled, returned_from_interrupt}
use Rattle.stack.specs.Laws.{StackSound}
use Rattle.stack.specs.declared.pulling.Pulled.{Pulled}
use Rattle.stack.proofs.Laws.{none_dropped}
use Rattle.answers.specs.declared.Refusal.{Refusal}

-- ---- widths of writes

append-fits : (l m : List Write) → AllFit l → AllFit m → AllFit (l ++ m)
append-fits [] m f g = g
append-fits (w ∷ l) m f g = (f.0, append-fits l m f.1 g)

zeros-fit : (n : ℕ) → AllFit (replicate n (record { at = 0; byte = 0; system = false }))
zeros-fit zero = tt
zeros-fit (suc n) = (record { address = lit< tt; value = lit< tt }, zeros-fit n)

twelve-fit : (l : List Write) → AllFit l → AllFit (twelve l)
unfolding twelve
twelve-fit l f = append-fits l _ f (zeros-fit (12 - length l))

zeros-length : (n : ℕ) (w : Write) → length (replicate n w) ≡ n
zeros-length zero w = refl
zeros-length (suc n) w = ap suc (zeros-length n w)

twelve-full : (l : List Write) → length l ≤ 12 → Full (writes_of l)
unfolding twelve
twelve-full l h =
    let n : Write = record { at = 0; byte = 0; system = false } in
    record { places = omega (arith, length-append l (replicate (12 - length l) n), zeros-length (12 - length l) n) }

value-fits : (at : ℕ) (v : u8u16) (system : Bool) → at < 65536 → InWidth v → AllFit (value_writes at v system)
value-fits at (u8 b) system h k = (record { address = h; value = k }, tt)
value-fits at (u16 w) system h k = word-writes-fit at w system h k

module _ (r : Set) (f : Fits r) (system : Bool) where
  pushes-fit : (pointer : ℕ) (l : List Name) → pointer < 65536 → AllFit (pushes r system pointer l)
  unfolding pushes
  pushes-fit pointer [] h = tt
  pushes-fit pointer (n ∷ l) h =
      let at : pointer - register_size n < 65536 = omega arith in
      append-fits (value_writes (pointer - register_size n) (read r n) system) (pushes r system (pointer - register_size n) l)
      (value-fits (pointer - register_size n) (read r n) system at (read_fits r f n)) (pushes-fit (pointer - register_size n) l at)

-- ---- what follows a push

module _ {P : Type 0} (r : Set) (h : P → Fits r) where
  pub once-sound : {w : Wait} (a : Result ⊤ Refusal) (e : Effect) → Sound P r w e → Sound P r w (once_pushed r a e)
  once-sound (Ok u) e s = s
  once-sound (Err x) e s = refused-sound r h x

  -- a push of other registers q, handed on
  pub handed-on : {Q : Type 0} (q : Set) {w : Wait} (p : Effect) → (P → Q) → Sound Q q w p → Sound P r w (once_pushed r p.answer p)
  handed-on q {w} p k s = go p.answer refl
    where
      go : (a : Result ⊤ Refusal) → p.answer ≡ a → Sound P r w (once_pushed r a p)
      go (Ok u) e = done-sound r p e (s.waits e) (record { places = s.few }) (λ g. s.registers (k g)) (λ g. s.widths (k g))
      go (Err x) e = refused-sound r h x

-- ---- pulls

record PulledFits (p : Pulled) : Type 0 where
  registers : Fits p.regs
  pointer : p.pointer < 65536

module _ (mem : List ℕ) (bytes : Bytes mem) where
  value_in : (at : ℕ) (wide : Bool) → InWidth (value_at mem at wide)
  unfolding value_at
  value_in at false = byte_fits mem bytes at
  value_in at true = word_fits mem bytes at

  into-fits : (n : Name) (p : Pulled) → PulledFits p → PulledFits (pulled_into mem n p)
  into-fits n p f = record {
    registers = written-fits p.regs f.registers n _ (value_in p.pointer (eqb (register_size n) 2));
    pointer = mod-lt _ (lit< tt);
  }

  pulls-fit : (l : List Name) (p : Pulled) → PulledFits p → PulledFits (pulls mem l p)
  unfolding pulls
  pulls-fit [] p f = f
  pulls-fit (n ∷ l) p f = pulls-fit l (pulled_into mem n p) (into-fits n p f)

-- ---- the laws

module _ (mem : List ℕ) (r : Set) (ea : ℕ) where
  push-sound : (stack : Stack) (mask : ℕ) (system : Bool) → Sound (Given mem r ea) r Running (pushed r stack mask system)
  unfolding pushed
  push-sound stack mask system =
      let own = stack_word stack in
      let pointer = word_of r own in
      let l = pushes r system pointer (registers_named stack mask) in
      let few : length l ≤ 12 = omega (arith, none_dropped.bytes r stack mask pointer system, none_dropped.few mask) in
      either-sound r (ltb pointer (bytes_pushed mask)) _ _ (refused-sound r (λ g. g.registers) StackTooSmall)
      (stored-sound r (with_word r own (pointer - bytes_pushed mask)) (writes_of l) (twelve-full l few)
      (λ g. word-written r g.registers own (pointer - bytes_pushed mask) (omega (arith, word_in r g.registers own)))
      (λ g. twelve-fit l (pushes-fit r g.registers system pointer (registers_named stack mask) (word_in r g.registers own))))

  pull-fits : (stack : Stack) (mask : ℕ) → Given mem r ea → Fits (pulled mem r stack mask)
  unfolding pulled
  pull-fits stack mask g =
      let own = stack_word stack in
      let start : PulledFits (pulled_to r (word_of r own)) = record { registers = g.registers; pointer = word_in r g.registers own } in
      let f = pulls-fit mem g.bytes (chosen mask (reverse (order stack))) (pulled_to r (word_of r own)) start in
      word-written _ f.registers own _ f.pointer

  jsr-sound : Sound (Given mem r ea) r Running (jumped_to_subroutine r ea)
  unfolding jumped_to_subroutine
  jsr-sound =
      let p = pushed r S 0x80 false in
      let s = push-sound S 0x80 false in
      once-sound r (λ g. g.registers) p.answer (stores (jumped p.regs ea) p.writes)
      (stored-sound r (jumped p.regs ea) p.writes (record { places = s.few }) (λ g. jumped-fits p.regs (s.registers g) ea g.address) s.widths)

pub stack-sound : (mem : List ℕ) (r : Set) (ea : ℕ) → StackSound mem r ea
unfolding framed returned_from_interrupt
stack-sound mem r ea = record {
  push = push-sound mem r ea;
  jsr = jsr-sound mem r ea;
  frame = λ entire.
      let q = with_codes r (put E entire r.cc) in
      handed-on r (λ g. g.registers) q _ (λ g. record { registers = codes-fits r g.registers (put E entire r.cc) (put-fits E entire r.cc g.registers.cc); bytes = g.bytes; address = g.address })
      (push-sound mem q ea S (stacked_by entire) true);
  pull = pull-fits mem r ea;
  rti = pull-fits mem r ea S (stacked_by (flag E (coded (byte_at mem r.s))));
}
