-- Undos one after the other, as the code's loop makes them.
-- Assumes nothing.
use Rattle.std.proofs.Common.{◌≡◌, ℕ, ◌+◌, ◌-◌, ◌<◌, ◌≤◌, zero, suc, true, false, List, refl, ap, sym, ◌∙◌, arith}
use Rattle.std.specs.Prelude.{is_err}
use Rattle.journal.specs.Recorded.{Ended, in_hand, Leaves}
use Rattle.journal.specs.Undos.{undone}
use Rattle.journal.specs.declared.Outcome.{Outcome}
use Rattle.scenery.specs.Undos.{Undid, undoing, UndosLeave}

-- how an undo ended, by what it returned and left
abbrev pub end_of : List ℕ → List ℕ → Outcome → Ended
end_of memory journal o = record { answer = o.answer; state = in_hand memory journal o.twin; devices = o.devices; reads = o.reads; writes = o.writes }

end-is : (o : Outcome) (memory journal : List ℕ) (e : Ended) → Leaves o memory journal e → end_of memory journal o ≡ e
end-is o memory journal e l = λ i. end_of (l.memory-is i) (l.journal-is i) (l.result i)

again : (n k : ℕ) (e : Ended) → 0 < n → is_err (undone e.state).answer ≡ false → undoing n k e ≡ undoing (n - 1) (k + 1) (undone e.state)
unfolding undoing
again zero k e h r = absurd (omega (arith, h))
again (suc n) k e h r = let d : suc n - 1 ≡ n = omega arith in rw (r, d)

refused : (n k : ℕ) (e : Ended) → 0 < n → is_err (undone e.state).answer ≡ true → undoing n k e ≡ record { last = undone e.state; undos = k }
unfolding undoing
refused zero k e h r = absurd (omega (arith, h))
refused (suc n) k e h r = rw r

no-more : (n k : ℕ) (e : Ended) → n ≤ 0 → undoing n k e ≡ record { last = e; undos = k }
unfolding undoing
no-more n k e h = let z : n ≡ 0 = omega arith in ap (λ m. undoing m k e) z

-- what is left of so many undos is all of them, where u is all
module _ (u : Undid) (mem journal : List ℕ) (most k : ℕ) (e : Ended) (all : undoing (most - k) k e ≡ u) where
  module _ (o : Outcome) (l : Leaves o mem journal (undone e.state)) (h : k < most) where
    pub goes : is_err o.answer ≡ false → undoing (most - (k + 1)) (k + 1) (end_of mem journal o) ≡ u
    goes r =
        let d : most - (k + 1) ≡ most - k - 1 = omega arith in
        rw (d, end-is o mem journal (undone e.state) l) (sym (again (most - k) k e (omega (arith, h)) (rw l.result at r)) ∙ all)

    pub ends : is_err o.answer ≡ true → UndosLeave (record { last = o; undos = k }) mem u
    ends r =
        let d : record { last = undone e.state; undos = k } ≡ u = sym (refused (most - k) k e (omega (arith, h)) (rw l.result at r)) ∙ all in
        rw (← d) (record { result = (λ i. record { last = l.result i; undos = k }); memory-is = l.memory-is })

pub used-up : (u : Undid) (mem journal : List ℕ) (most k : ℕ) (o : Outcome) → undoing (most - k) k (end_of mem journal o) ≡ u → k ≡ most
    → UndosLeave (record { last = o; undos = most }) mem u
used-up u mem journal most k o all h =
    let d : record { last = end_of mem journal o; undos = k } ≡ u = sym (no-more (most - k) k (end_of mem journal o) (omega (arith, h))) ∙ all in
    rw (← d, ← h) (record { result = refl; memory-is = refl })
