-- What the proofs of this crate share, and how a call ends: where the numbers name nothing, and where they are named.
-- Assumes nothing.
use Prim.Native.Nat.{ℕ, zero, suc, ◌<◌}
use mathlib.Core.Path.{◌≡◌, refl, sym, ap, ◌∙◌}
use mathlib.Core.Bool.{Bool, true, false}
use mathlib.Core.List.{List, [], ◌∷◌, map}
use native.Mathlib.Omega.{arith}
use lib.ListN.{length, length-map}
use denote.Param.Members.{Mut}
use Rattle.std.specs.Fn.{Called}
use Rattle.std.specs.Array.{IsMapOf}
use Rattle.std.proofs.lemmas.List.{ext_get_or, get_or-map}
use Rattle.registers.specs.declared.Flags.TheVariants.{Bought, Manual}
use Rattle.calls.specs.declared.InterruptType.TheVariants.{Irq, Firq, Nmi}
use Rattle.calls.specs.declared.Report.{Report}
use Rattle.journal.specs.Recorded.{State, Ended, Leaves}
use Rattle.journal.specs.declared.Outcome.{Outcome}
use Rattle.host.specs.Numbers.{flags_of, interrupt_type_of}
use Rattle.host.specs.Structs.{host_outcome, keeping, unnamed}
use Rattle.host.specs.Ends.{handed, Ends, Reports}
use Rattle.host.specs.declared.HostTwin.{HostTwin}
use Rattle.host.specs.declared.HostOutcome.{HostOutcome}

-- ---- numbers

pub flags-rest : (n : ℕ) → (n ≡ 0 → ⊥) → Manual ≡ flags_of n
unfolding flags_of
flags-rest zero h = absurd (h refl)
flags-rest (suc n) h = refl

pub interrupt-rest : (n : ℕ) → (n ≡ 0 → ⊥) → (n ≡ 1 → ⊥) → Nmi ≡ interrupt_type_of n
unfolding interrupt_type_of
interrupt-rest zero h k = absurd (h refl)
interrupt-rest (suc zero) h k = absurd (k refl)
interrupt-rest (suc (suc n)) h k = refl

-- ---- what `map` makes of an array, where its closure's calls give what `make` gives

pub mapped : {F A B : Type 0} (g : Mut F (A × Unit {0}) B) (make : A → B) → ((p q : F) (x : A) (y : B) → Called g p (x, tt) y q → y ≡ make x)
    → (f : F) (xs : List A) (ys : List B) (n : ℕ) → length xs ≡ n → IsMapOf g f xs ys n → ys ≡ map make xs
mapped g make step f [] [] n l m = refl
mapped g make step f [] (y ∷ ys) n l m = absurd (omega (arith, l, m.long))
mapped g make step f (x ∷ xs) ys n l m =
    ext_get_or (make x) ys (map make (x ∷ xs)) (m.long ∙ sym l ∙ sym (length-map (x ∷ xs) make)) (λ i h.
    let c = m.at i x (make x) (rw m.long at h) in
    let t : i < length (x ∷ xs) = rw (sym l) at (rw m.long at h) in
    step c.0 c.1 _ _ c.2 ∙ sym (get_or-map make (x ∷ xs) i x (make x) t))

-- ---- how a call ends

module _ (named : Bool) (call : State → Ended) (t : HostTwin) (memory journal : List ℕ) (r : HostOutcome) where
  pub refuses : named ≡ false → r ≡ unnamed t → Ends named call t memory journal r memory journal
  refuses h p = record { result = rw h p; memory-is = rw h refl; journal-is = rw h refl }

  pub passes : (o : Outcome) (us vs : List ℕ) → named ≡ true → Leaves o us vs (call (handed memory journal t)) → r ≡ host_outcome o
      → Ends named call t memory journal r us vs
  passes o us vs h q p = record { result = rw h (p ∙ ap host_outcome q.result); memory-is = rw h q.memory-is; journal-is = rw h q.journal-is }

module _ (named : Bool) (report : Report) (after : List ℕ) (t : HostTwin) (memory : List ℕ) (r : HostOutcome) where
  pub refuses-report : named ≡ false → r ≡ unnamed t → Reports named report after t memory r memory
  refuses-report h p = record { result = rw h p; memory-is = rw h refl }

  pub passes-report : (us : List ℕ) → named ≡ true → r ≡ host_outcome (keeping t report) → us ≡ after
      → Reports named report after t memory r us
  passes-report us h p q = record { result = rw h p; memory-is = rw h q }
