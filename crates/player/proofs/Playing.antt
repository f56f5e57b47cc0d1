-- One operation more: its line, and what is in hand after it.
-- Assumes nothing.
use Rattle.std.specs.Prelude.{Err, Ok, Result, Some, ⊤}
use Prim.Native.Nat.{ℕ, ◌+◌, ◌-◌, ◌*◌, ◌≤◌, ◌<◌}
use mathlib.Core.Path.{◌≡◌, refl, sym, ap, ◌∙◌, subst}
use mathlib.Core.List.{List, [], ◌∷◌, ◌++◌, append_assoc, append-nil}
use native.Mathlib.Omega.{arith}
use native.Mathlib.Numerals.{add-one}
use lib.ListN.{length, get_or, take, length-append}
use lib.Seq.{sets, take-suc, take_all, length-take-le}
use Rattle.answers.specs.Numbers.{number_of_answer}
use Rattle.answers.specs.declared.Refusal.{Refusal}
use Rattle.answers.specs.declared.Refusal.TheVariants.{Malformed}
use Rattle.answers.proofs.Numbers.{numbers-small}
use Rattle.text.proofs.Stores.{sets-append}
use Rattle.text.proofs.Texts.{line-fits}
use Rattle.machine.specs.declared.Machine.{Machine}
use Rattle.machine.specs.declared.Settings.{Settings}
use Rattle.journal.specs.declared.Outcome.{Outcome}
use Rattle.journal.specs.Recorded.{State, Ended, in_hand, Leaves, call, call_of}
use Rattle.journal.specs.Undos.{undone}
use Rattle.runfile.specs.Format.{Parsed, says, malformed, parsed, operation_at, loaded, next_of}
use Rattle.runfile.specs.declared.Operation.{Operation}
use Rattle.runfile.specs.declared.Operation.TheVariants.{Step, Irq, Firq, Nmi, Reset, Undo}
use Rattle.runfile.specs.declared.Start.{Start}
use Rattle.runfile.proofs.Operations.{in_order, they-fit, not-longer}
use Rattle.player.specs.Plays.{acted, wanted_by, shown_of, LeavesShown, call_line, refusal_line, line_for, lines, played, run_settings}
use Rattle.player.specs.declared.plays.Shown.{Shown}
use Rattle.player.specs.declared.plays.Wanted.{Wanted}
use Rattle.player.specs.declared.plays.Wanted.TheVariants.{Call as Calling, Undo as Undoing}

-- an answer's number is a byte
number_fits : (a : Result ⊤ Refusal) → number_of_answer a < 256
number_fits (Ok u) = omega arith
number_fits (Err x) = omega (arith, numbers-small x)

pub line-bound : (a : Result ⊤ Refusal) (m : Machine) → length (call_line a m) ≤ 33
line-bound a m = line-fits (number_of_answer a) m.regs.pc m.regs.cc.reg m.cycles (number_fits a)

-- an operation is the call that is wanted by it
abbrev wanted_ends : Settings → Wanted → State → Ended
wanted_ends t (Calling w) s = call (call_of w t) s
wanted_ends t Undoing s = undone s

acted-by : (t : Settings) (o : Operation) (s : State) → wanted_ends t (wanted_by o) s ≡ acted t o s
acted-by t Step s = refl
acted-by t Irq s = refl
acted-by t Firq s = refl
acted-by t Nmi s = refl
acted-by t Reset s = refl
acted-by t Undo s = refl

pub acts : (t : Settings) (o : Operation) (s : State) (w : Wanted) (q : Outcome) (r : Shown) (mem j : List ℕ) → w ≡ wanted_by o → Leaves q mem j (wanted_ends t w s) → r ≡ shown_of q
    → LeavesShown r mem j (acted t o s)
acts t o s w q r mem j e l p =
    let x : wanted_ends t w s ≡ acted t o s = ap (λ (v : Wanted). wanted_ends t v s) e ∙ acted-by t o s in
    subst (LeavesShown r mem j) x (record { result = p ∙ ap shown_of l.result; memory-is = l.memory-is; journal-is = l.journal-is })

-- what is in hand after some operations
unfoldable pub after : Settings → List Operation → State → State
after t [] s = s
after t (o ∷ os) s = after t os (acted t o s).state

module _ (t : Settings) where
  lines_more : (os : List Operation) (o : Operation) (s : State) → lines t (os ++ (o ∷ [])) s ≡ lines t os s ++ line_for (acted t o (after t os s))
  unfolding lines after
  lines_more [] o s = append-nil (line_for (acted t o s))
  lines_more (p ∷ os) o s =
      ap (λ (l : List ℕ). line_for (acted t p s) ++ l) (lines_more os o (acted t p s).state)
      ∙ sym (append_assoc (line_for (acted t p s)) (lines t os (acted t p s).state) (line_for (acted t o (after t os (acted t p s).state))))

  after_more : (os : List Operation) (o : Operation) (s : State) → after t (os ++ (o ∷ [])) s ≡ (acted t o (after t os s)).state
  unfolding after
  after_more [] o s = refl
  after_more (p ∷ os) o s = after_more os o (acted t p s).state

  pub lines-bound : (os : List Operation) (s : State) → length (lines t os s) ≤ 33 * length os
  unfolding lines
  lines-bound [] s = omega arith
  lines-bound (o ∷ os) s = simp length-append (omega (arith, line-bound (acted t o s).answer (acted t o s).state.twin.machine, lines-bound os (acted t o s).state))

-- what the first i operations have left: so many bytes of text, and a state
pub record Sofar (t : Settings) (os : List Operation) (s₀ : State) (out₀ : List ℕ) (i used : ℕ) (out : List ℕ) (s : State) : Type 0 where
  pub count : used ≡ length (lines t (take i os) s₀)
  pub text : out ≡ sets out₀ 0 (lines t (take i os) s₀)
  pub state : s ≡ after t (take i os) s₀

module _ (t : Settings) (os : List Operation) (s₀ : State) (out₀ : List ℕ) where
  pub at_first : Sofar t os s₀ out₀ 0 0 out₀ s₀
  unfolding lines after
  at_first = record { count = refl; text = refl; state = refl }

  pub turn : (i used : ℕ) (out : List ℕ) (s : State) → Sofar t os s₀ out₀ i used out s → i < length os
      → {o : Operation} → o ≡ get_or os i Step → {r : Shown} {mem journal : List ℕ} → LeavesShown r mem journal (acted t o s)
      → {size : ℕ} {out' : List ℕ} → size ≡ length (call_line r.answer r.twin.machine) → out' ≡ sets out used (call_line r.answer r.twin.machine)
      → Sofar t os s₀ out₀ (i + 1) (used + size) out' (in_hand mem journal r.twin)
  turn i used out s h k {o} eo {r} {mem} {journal} l {size} {out'} eu et =
      let f : take (i + 1) os ≡ take i os ++ (o ∷ []) = rw (add-one, eo) (take-suc os i Step k) in
      let y = lines_more t (take i os) o s₀ in
      let x = call_line r.answer r.twin.machine in
      let e : x ≡ line_for (acted t o (after t (take i os) s₀)) = ap (λ (q : Shown). call_line q.answer q.twin.machine) l.result ∙ rw h.state in
      let z : used ≡ 0 + length (lines t (take i os) s₀) = omega (arith, h.count) in
      record {
        count = rw (eu, f, y, ← e, h.count) (sym (length-append (lines t (take i os) s₀) x));
        text = et ∙ rw (f, y, ← e, h.text, z) (sym (sets-append out₀ (lines t (take i os) s₀) x 0));
        state = rw (f, after_more t (take i os) o s₀, ← h.state, l.memory-is, l.journal-is, l.result) refl;
      }

-- ---- a sound file

abbrev pub operations_in : Parsed → List Operation
operations_in (says f) = f.operations
operations_in malformed = []

pub record Sound (file : List ℕ) (from : Start) (p : Parsed) : Type 0 where
  pub starts : from.operations + length (operations_in p) ≡ length file
  pub short : length file ≤ 32768
  pub each : (i : ℕ) → i < length (operations_in p) → next_of (operation_at file (from.operations + i)) ≡ Some (get_or (operations_in p) i Step)
  pub plays : (s : State) → played p s ≡ lines (run_settings from.settings) (operations_in p) s

pub sound : (file : List ℕ) (from : Start) → Ok from ≡ loaded (length file) (parsed file) → Sound file from (parsed file)
sound file from h = go (parsed file) refl h
  where
    go : (p : Parsed) → parsed file ≡ p → Ok from ≡ loaded (length file) p → Sound file from p
    go (says f) e h =
        let x : from ≡ record { operations = length file - length f.operations; settings = f.settings } = cc in
        rw x
        (record {
          starts = omega (arith, they-fit file f e);
          short = not-longer file f e;
          each = in_order file f e;
          plays = λ s. refl;
        })
    go malformed e h = let z : ◌≡◌ {A = ℕ} 0 1 = cc in absurd (omega arith)

-- ---- the end

module _ {file : List ℕ} {from : Start} {p : Parsed} (so : Sound file from p) (s₀ : State) (out₀ : List ℕ) where
  pub finished : (at used : ℕ) (out : List ℕ) (s : State) → Sofar (run_settings from.settings) (operations_in p) s₀ out₀ (at - from.operations) used out s
      → length file ≤ at → (used ≡ length (played p s₀)) × (out ≡ sets out₀ 0 (played p s₀))
  finished at used out s h k =
      let e = take_all (at - from.operations) (operations_in p) (omega (arith, so.starts)) in
      rw (so.plays s₀) (h.count ∙ rw e, h.text ∙ rw e)

  pub fits : (at used : ℕ) (out : List ℕ) (s : State) → Sofar (run_settings from.settings) (operations_in p) s₀ out₀ (at - from.operations) used out s → at ≤ length file → used ≤ 33 * 32768
  fits at used out s h k =
      let b = lines-bound (run_settings from.settings) (take (at - from.operations) (operations_in p)) s₀ in
      let l = length-take-le (at - from.operations) (operations_in p) (omega (arith, so.starts)) in
      omega (arith, h.count, so.short)

-- ---- a refused file

pub refused-file : (size : ℕ) (p : Parsed) (s : State) {x : Refusal} → loaded size p ≡ Err x → played p s ≡ refusal_line x
refused-file size (says f) s e = cc
refused-file size malformed s {x} e = let d : Malformed ≡ x = cc in rw (← d)
