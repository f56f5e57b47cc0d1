-- No write is lost, and 8 is given exactly where it should be.
-- Assumes nothing.
use Rattle.std.proofs.Common.{◌≡◌, ℕ, Bool, true, false, cond, ltb, refl, ap, ◌∙◌, le-ltb, Err, Ok, Result}
use Rattle.std.specs.Prelude.{⊤}
use Rattle.answers.specs.Numbers.{number_of_answer}
use Rattle.answers.specs.declared.Refusal.TheVariants.{StackTooSmall}
use Rattle.registers.specs.ConditionCodes.{put}
use Rattle.registers.specs.Names.{stack_word}
use Rattle.registers.specs.RegisterSet.{word_of}
use Rattle.registers.specs.declared.CCBit.TheVariants.{E}
use Rattle.registers.specs.declared.Set.{Set}
use Rattle.registers.specs.declared.Stack.{Stack}
use Rattle.registers.specs.declared.Stack.TheVariants.{S}
use Rattle.memory.specs.declared.writes.Writes.{Writes}
use Rattle.memory.proofs.Folds.{listed_back}
use Rattle.machine.specs.Effect.{stores, refuses}
use Rattle.machine.specs.declared.Effect.{Effect}
use Rattle.operations.specs.Codes.{with_codes}
use Rattle.stack.specs.Pushing.{registers_named, bytes_pushed, pushes, pushed, once_pushed, jumped_to_subroutine}
use Rattle.stack.specs.Frames.{framed}
use Rattle.stack.specs.Laws.{NoneDropped, StackRefusesExactly}
use Rattle.stack.proofs.Filling.{pushes-length, few-bytes, named-size}
use Rattle.answers.specs.declared.Refusal.{Refusal}

pub none_dropped : NoneDropped
unfolding pushed
none_dropped = record {
  bytes = λ r stack mask pointer system. pushes-length r system pointer (registers_named stack mask) ∙ named-size mask stack;
  few = few-bytes;
  listed = λ r stack mask system h. rw (le-ltb _ _ h) (listed_back (pushes r system (word_of r (stack_word stack)) (registers_named stack mask)));
}

-- ---- refusals

push-number : (r : Set) (stack : Stack) (mask : ℕ) (system : Bool) → number_of_answer (pushed r stack mask system).answer ≡ cond (ltb (word_of r (stack_word stack)) (bytes_pushed mask)) 8 0
unfolding pushed
push-number r stack mask system = go (ltb (word_of r (stack_word stack)) (bytes_pushed mask)) _ _
  where
    go : (b : Bool) (after : Set) (ws : Writes) → number_of_answer (cond b (refuses r StackTooSmall) (stores after ws)).answer ≡ cond b 8 0
    go true after ws = refl
    go false after ws = refl

-- what follows a push is refused where the push is, if it is not itself
pub once-number : (r : Set) (a : Result ⊤ Refusal) (e : Effect) → number_of_answer e.answer ≡ 0 → number_of_answer (once_pushed r a e).answer ≡ number_of_answer a
once-number r (Ok u) e h = h
once-number r (Err x) e h = refl

-- a push handed on
same_number : (r : Set) (p : Effect) (a : Result ⊤ Refusal) → p.answer ≡ a → number_of_answer (once_pushed r a p).answer ≡ number_of_answer a
same_number r p (Ok u) e = ap number_of_answer e
same_number r p (Err x) e = refl

frame-number : (r : Set) (entire : Bool) → number_of_answer (framed r entire).answer ≡ cond (ltb r.s (cond entire 12 3)) 8 0
unfolding framed
frame-number r true = let p = pushed (with_codes r (put E true r.cc)) S 0xFF true in same_number r p p.answer refl ∙ push-number (with_codes r (put E true r.cc)) S 0xFF true
frame-number r false = let p = pushed (with_codes r (put E false r.cc)) S 0x81 true in same_number r p p.answer refl ∙ push-number (with_codes r (put E false r.cc)) S 0x81 true

pub stack-refuses-exactly : StackRefusesExactly
unfolding jumped_to_subroutine
stack-refuses-exactly = record {
  push = push-number;
  jsr = λ r ea. once-number r (pushed r S 0x80 false).answer _ refl ∙ push-number r S 0x80 false;
  frame = frame-number;
}
