-- The single cases hold: each by the law or the definition of its subject.
-- Assumes nothing.
use Prim.Native.Nat.{ℕ, ◌+◌, ◌%◌, ◌^◌}
use mathlib.Core.Path.{◌≡◌, refl, ap, ◌∙◌}
use mathlib.Core.Bool.{not}
use mathlib.Core.List.{List, append-nil}
use native.Mathlib.Omega.{arith}
use borrow.Author.Tests.{le-ltb}
use Rattle.answers.specs.Numbers.{number_of_answer}
use Rattle.registers.specs.ConditionCodes.{bit_at}
use Rattle.registers.proofs.Laws.{mul-flags}
use Rattle.machine.specs.Machine.{with_registers}
use Rattle.machine.specs.declared.Machine.{Machine}
use Rattle.machine.specs.declared.Wait.{Wait}
use Rattle.stack.specs.Pushing.{chosen, pushes, pushed}
use Rattle.calls.specs.Interrupts.{after_held_off}
use Rattle.calls.specs.Moves.{MovedBy}
use Rattle.calls.specs.Steps.{Reached, At, NotReached, reached, step_plan}
use Rattle.calls.specs.declared.Plan.{Plan}
use Rattle.calls.specs.declared.InterruptType.TheVariants.{Nmi}
use Rattle.calls.proofs.Accepted.{waits-refused, masked-stays, reset-accepted}
use Rattle.calls.proofs.Laws.{step-moves}
use Rattle.calls.proofs.Room.{small-interrupt}
use Rattle.refusals.proofs.Steps.{steps-refused}
use Rattle.runfile.specs.Format.{operation_at}
use Rattle.player.specs.Boots.{step_lines, run_lines, boot_lines}
use Rattle.checked.specs.Facts.{Facts}

one_more : (mem : List ℕ) (x : Reached) (m n : Machine) → MovedBy mem x m n → n.instructions ≡ (m.instructions + 1) % 2 ^ 64
one_more mem (At i r ea) m n h = h.instructions
one_more mem (NotReached x) m n h = absurd h

pub facts : Facts
unfolding pushed pushes chosen bit_at operation_at boot_lines run_lines step_lines
facts = record {
  reset-codes = λ mem m s size. ap (λ (p : Plan). p.machine.regs.cc) (reset-accepted mem m size);
  nmi = λ mem m s size a w e l. small-interrupt mem m s Nmi size (ap not a) w l;
  unarmed-in-sync = λ mem m s size a w. (
    ap (λ (p : Plan). number_of_answer p.answer) (masked-stays mem m s Nmi size (ap not a)),
    ap (λ (p : Plan). p.machine) (masked-stays mem m s Nmi size (ap not a)) ∙ ap (λ (v : Wait). with_registers m m.regs (after_held_off v)) w,
  );
  masked-in-sync = λ mem m s i size k w. ap (λ (p : Plan). p.machine) (masked-stays mem m s i size k) ∙ ap (λ (v : Wait). with_registers m m.regs (after_held_off v)) w;
  step-in-sync = λ mem m s size w.
      ap (λ (p : Plan). number_of_answer p.answer) (waits-refused mem m s size (λ r. let z : ◌≡◌ {A = ℕ} 0 1 = cc in absurd (omega arith)));
  counts = λ mem m s more d. one_more mem (reached mem m) m (step_plan mem m s).machine (step-moves mem m s d);
  no_row = λ mem m s b p r u. (steps-refused mem m s b p).three.1 (r, u);
  mul = λ s cc a b. ((mul-flags s cc a b).0, (mul-flags s cc a b).1);
  leax = λ s mem r ea. refl;
  leas = λ s mem r ea. refl;
  pshs = λ r h. rw (le-ltb r.s 2 h) refl;
  data-bytes = (refl, refl);
  first-operation = refl;
  last-operation = refl;
  past-the-last = refl;
  refused-file = λ t n file x e. rw e refl;
  no_step = λ t file at e. rw e (append-nil _);
}
