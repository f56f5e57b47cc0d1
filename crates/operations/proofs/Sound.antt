-- Effects that change registers, store, or refuse are sound; so are the operations that store a byte or a word.
-- Assumes nothing.
use Rattle.std.proofs.Common.{◌≡◌, ℕ, Bool, true, false, cond, List, [], sym, refl, ap, ◌∙◌, arith, Err, Ok}
use Rattle.answers.specs.declared.Refusal.{Refusal}
use Rattle.registers.specs.Fits.{Fits}
use Rattle.registers.specs.Arithmetic.{logical}
use Rattle.registers.specs.RegisterSet.{word_of}
use Rattle.registers.specs.declared.Flags.{Flags}
use Rattle.registers.specs.declared.Set.{Set}
use Rattle.registers.specs.declared.Word.{Word}
use Rattle.memory.specs.Fits.{AllFit}
use Rattle.memory.specs.Map.{byte_at}
use Rattle.memory.specs.Writes.{writes_of, word_writes}
use Rattle.memory.specs.declared.writes.Writes.{Writes}
use Rattle.memory.proofs.Fits.{byte_fits, none-fit, added-fit, all_fit, word-writes-fit}
use Rattle.memory.proofs.Twelve.{Full, none-full, added_full, all-full}
use Rattle.machine.specs.Effect.{stores, changes, refuses}
use Rattle.machine.specs.declared.Effect.{Effect}
use Rattle.machine.specs.declared.Wait.{Wait}
use Rattle.machine.specs.declared.Wait.TheVariants.{Running}
use Rattle.opcodes.specs.declared.Acc.{Acc}
use Rattle.opcodes.specs.declared.Unary.{Unary}
use Rattle.operations.specs.EightBit.{accumulator, unary_of, on_memory, store8}
use Rattle.operations.specs.Sound.{Sound, Given}
use Rattle.operations.specs.Words.{store16}
use Rattle.operations.proofs.Widths.{word_in, acc-fits, codes-fits, page-fits, OutFits, unary-out}

module _ {P : Type 0} (r : Set) where
  pub done-sound : {w : Wait} (e : Effect) → e.answer ≡ (Ok tt) → e.wait ≡ w → Full e.writes → (P → Fits e.regs) → (P → AllFit e.writes.list) → Sound P r w e
  done-sound e d v f h k = record {
    few = f.places;
    waits = λ a. v;
    refused = λ x n. let t : Err x ≡ (Ok tt) = sym n ∙ d in let z : ◌≡◌ {A = ℕ} 0 1 = cc in absurd (omega arith);
    registers = h;
    widths = k;
  }

  pub changed-sound : (q : Set) → (P → Fits q) → Sound P r Running (changes q)
  changed-sound q h = done-sound (changes q) refl refl none-full h (λ g. none-fit)

  pub stored-sound : (q : Set) (ws : Writes) → Full ws → (P → Fits q) → (P → AllFit ws.list) → Sound P r Running (stores q ws)
  stored-sound q ws f h k = done-sound (stores q ws) refl refl f h k

  pub refused-sound : (P → Fits r) → {w : Wait} (x : Refusal) → Sound P r w (refuses r x)
  refused-sound h x = record {
    few = none-full.places;
    waits = λ d. let z : ◌≡◌ {A = ℕ} 0 1 = cc in absurd (omega arith);
    refused = λ y e. let d : x ≡ y = cc in ap (refuses r) d;
    registers = h;
    widths = λ g. none-fit;
  }

  pub either-sound : {w : Wait} (t : Bool) (e f : Effect) → Sound P r w e → Sound P r w f → Sound P r w (cond t e f)
  either-sound true e f p q = p
  either-sound false e f p q = q

module _ (mem : List ℕ) (r : Set) (ea : ℕ) where
  pub on-memory-sound : (op : Unary) (s : Flags) → Sound (Given mem r ea) r Running (on_memory op s mem r ea)
  unfolding on_memory
  on-memory-sound op s =
      stored-sound r _ _ (added_full (writes_of []) _ none-full) (λ g. codes-fits r g.registers _ (out g).codes)
      (λ g. added-fit (writes_of []) _ none-fit (record { address = g.address; value = (out g).value }))
    where
      out : Given mem r ea → OutFits (unary_of op s r.cc (byte_at mem ea))
      out g = unary-out s r.cc g.registers.cc (byte_at mem ea) (byte_fits mem g.bytes ea) op

  pub store8-sound : (acc : Acc) → Sound (Given mem r ea) r Running (store8 r acc ea)
  store8-sound acc =
      stored-sound r _ _ (added_full (writes_of []) _ none-full) (λ g. page-fits r g.registers (logical 0x80 (accumulator acc r)).flags)
      (λ g. added-fit (writes_of []) _ none-fit (record { address = g.address; value = acc-fits r g.registers acc }))

  pub store16-sound : (w : Word) → Sound (Given mem r ea) r Running (store16 r w ea)
  unfolding store16
  store16-sound w =
      stored-sound r _ _ (all-full (writes_of []) (word_writes ea (word_of r w) false) none-full) (λ g. page-fits r g.registers (logical 0x8000 (word_of r w)).flags)
      (λ g. all_fit (writes_of []) (word_writes ea (word_of r w) false) none-fit (word-writes-fit ea (word_of r w) false g.address (word_in r g.registers w)))
