-- The fields that differ: each has one entry.
-- Assumes nothing.
use Prim.Native.Nat.{ℕ, ◌+◌, ◌≤◌}
use mathlib.Core.Bool.{Bool, true, false, cond}
use mathlib.Core.List.{List, [], ◌∷◌, ◌++◌, append-nil, map}
use mathlib.Core.Logic.{⊎_elim}
use mathlib.Core.Path.{◌≡◌, refl, sym, ap, ◌∙◌}
use native.Mathlib.Omega.{arith}
use lib.Dec.{eqb}
use lib.ListN.{length, get_or, length-append}
use borrow.Author.Tests.{eq-eqb, ne_eqb, eqb-true}
use Rattle.machine.specs.Record.{Field, A, B, X, Y, U, S, PC, DP, CC, Waiting, Armed, Cycles, Instructions, fields, rank, field_of, wait_byte, wait_of, mark_byte, mark_of}
use Rattle.machine.specs.declared.Machine.{Machine}
use Rattle.machine.specs.declared.Wait.{Wait}
use Rattle.machine.specs.declared.Wait.TheVariants.{Running, Cwai, Sync}
use Rattle.difference.specs.Differences.{Difference, of_field, of_run, field_apart, fields_apart}
use Rattle.difference.specs.Laws.{entries_for, runs_with, Rise, exchanged}
use Rattle.difference.proofs.Tests.{same_or_not, eqb_swap}
use Rattle.difference.proofs.EachAddress.{map-append}

-- ---- a field has its place in the record, and no other has it

pub at-rank : (f : Field) → get_or fields (rank f) A ≡ f
at-rank A = refl
at-rank B = refl
at-rank X = refl
at-rank Y = refl
at-rank U = refl
at-rank S = refl
at-rank PC = refl
at-rank DP = refl
at-rank CC = refl
at-rank Waiting = refl
at-rank Armed = refl
at-rank Cycles = refl
at-rank Instructions = refl

one_rank : (f g : Field) → rank f ≡ rank g → f ≡ g
one_rank f g e = sym (at-rank f) ∙ ap (λ (n : ℕ). get_or fields n A) e ∙ at-rank g

-- how often a field stands among some
occurs : Field → List Field → ℕ
occurs f [] = 0
occurs f (g ∷ gs) = cond (eqb (rank f) (rank g)) 1 0 + occurs f gs

once : (f : Field) → occurs f fields ≡ 1
unfolding occurs
once A = refl
once B = refl
once X = refl
once Y = refl
once U = refl
once S = refl
once PC = refl
once DP = refl
once CC = refl
once Waiting = refl
once Armed = refl
once Cycles = refl
once Instructions = refl

-- ---- the entries of a field

cond-append : (t : Bool) (d : Difference) (zs xs ys : List Difference) → zs ≡ xs ++ ys → cond t (d ∷ zs) zs ≡ cond t (d ∷ xs) xs ++ ys
cond-append true d zs xs ys e = ap (λ (l : List Difference). d ∷ l) e
cond-append false d zs xs ys e = e

pub entries-append : (f : Field) (xs ys : List Difference) → entries_for f (xs ++ ys) ≡ entries_for f xs ++ entries_for f ys
unfolding entries_for
entries-append f [] ys = refl
entries-append f (of_field g x y ∷ xs) ys =
    cond-append (eqb (rank f) (rank g)) (of_field g x y) (entries_for f (xs ++ ys)) (entries_for f xs) (entries_for f ys) (entries-append f xs ys)
entries-append f (of_run x y ∷ xs) ys = entries-append f xs ys

-- runs are no fields
pub runs-apart : (f : Field) (at : ℕ) (ds : List Difference) → Rise at ds → entries_for f ds ≡ []
unfolding entries_for
runs-apart f at [] r = refl
runs-apart f at (of_field g x y ∷ ds) r = absurd r
runs-apart f at (of_run x y ∷ ds) r = runs-apart f _ ds r.1.1

module _ (l r : Machine) where
  own : (f : Field) → entries_for f (field_apart f l r) ≡ field_apart f l r
  unfolding field_apart entries_for
  own f = so (eqb (field_of f l) (field_of f r))
    where
      so : (t : Bool) → entries_for f (cond t [] (of_field f (field_of f l) (field_of f r) ∷ [])) ≡ cond t [] (of_field f (field_of f l) (field_of f r) ∷ [])
      so true = refl
      so false = rw (eq-eqb (rank f) (rank f) refl)

  other : (f g : Field) → (rank f ≡ rank g → ⊥) → entries_for f (field_apart g l r) ≡ []
  unfolding field_apart entries_for
  other f g n = so (eqb (field_of g l) (field_of g r))
    where
      so : (t : Bool) → entries_for f (cond t [] (of_field g (field_of g l) (field_of g r) ∷ [])) ≡ []
      so true = refl
      so false = rw (ne_eqb (rank f) (rank g) n)

  absent : (f : Field) (gs : List Field) → occurs f gs ≡ 0 → entries_for f (fields_apart gs l r) ≡ []
  unfolding occurs fields_apart entries_for
  absent f [] h = refl
  absent f (g ∷ gs) h =
      ⊎_elim
      (λ e. absurd (omega (arith, rw (eq-eqb (rank f) (rank g) e) at h)))
      (λ n. entries-append f (field_apart g l r) (fields_apart gs l r) ∙ rw (other f g n, absent f gs (omega (arith, rw (ne_eqb (rank f) (rank g) n) at h))))
      (same_or_not (rank f) (rank g))

  present : (f : Field) (gs : List Field) → occurs f gs ≡ 1 → entries_for f (fields_apart gs l r) ≡ field_apart f l r
  unfolding occurs fields_apart
  present f [] h = absurd (omega arith)
  present f (g ∷ gs) h =
      ⊎_elim
      (λ e.
      let none = absent f gs (omega (arith, rw (eq-eqb (rank f) (rank g) e) at h)) in
      entries-append f (field_apart g l r) (fields_apart gs l r) ∙ rw (none, append-nil, ← one_rank f g e) (own f))
      (λ n. entries-append f (field_apart g l r) (fields_apart gs l r) ∙ rw (other f g n) (present f gs (omega (arith, rw (ne_eqb (rank f) (rank g) n) at h))))
      (same_or_not (rank f) (rank g))

  pub field-once : (f : Field) → entries_for f (fields_apart fields l r) ≡ field_apart f l r
  field-once f = present f fields (once f)

  -- no address is in a field
  no_run : (k : ℕ) (t : Bool) (g : Field) (x y : ℕ) (ds : List Difference) → runs_with k ds ≡ [] → runs_with k (cond t [] (of_field g x y ∷ []) ++ ds) ≡ []
  unfolding runs_with
  no_run k true g x y ds e = e
  no_run k false g x y ds e = e

  pub no-runs : (k : ℕ) (gs : List Field) → runs_with k (fields_apart gs l r) ≡ []
  unfolding fields_apart field_apart runs_with
  no-runs k [] = refl
  no-runs k (g ∷ gs) = no_run k (eqb (field_of g l) (field_of g r)) g (field_of g l) (field_of g r) (fields_apart gs l r) (no-runs k gs)

  -- at most one for each field
  pub fields-few : (gs : List Field) → length (fields_apart gs l r) ≤ length gs
  unfolding fields_apart field_apart
  fields-few [] = omega arith
  fields-few (g ∷ gs) = rw length-append (omega (arith, one (eqb (field_of g l) (field_of g r)), fields-few gs))
    where
      one : (t : Bool) → length (cond t [] (of_field g (field_of g l) (field_of g r) ∷ [])) ≤ 1
      one true = omega arith
      one false = omega arith

  -- ---- equal machines

  field-same : (f : Field) → fields_apart fields l r ≡ [] → field_of f l ≡ field_of f r
  unfolding entries_for field_apart
  field-same f e = eqb-true (field_of f l) (field_of f r) (so _ (sym (field-once f) ∙ ap (entries_for f) e))
    where
      so : (t : Bool) → cond t [] (of_field f (field_of f l) (field_of f r) ∷ []) ≡ [] → t ≡ true
      so true e = refl
      so false e = let z : ◌≡◌ {A = ℕ} 0 1 = cc in absurd (omega arith)

wait-back : (w : Wait) → wait_of (wait_byte w) ≡ w
unfolding wait_of
wait-back Running = refl
wait-back Cwai = refl
wait-back Sync = refl

mark-back : (b : Bool) → mark_of (mark_byte b) ≡ b
unfolding mark_of
mark-back true = refl
mark-back false = refl

pub machines-same : (l r : Machine) → fields_apart fields l r ≡ [] → l ≡ r
machines-same l r e = λ i. record {
  cycles = field-same l r Cycles e i;
  instructions = field-same l r Instructions e i;
  regs = record {
    x = field-same l r X e i;
    y = field-same l r Y e i;
    u = field-same l r U e i;
    s = field-same l r S e i;
    pc = field-same l r PC e i;
    a = field-same l r A e i;
    b = field-same l r B e i;
    dp = field-same l r DP e i;
    cc = record { reg = field-same l r CC e i };
  };
  wait = (sym (wait-back l.wait) ∙ ap wait_of (field-same l r Waiting e) ∙ wait-back r.wait) i;
  armed = (sym (mark-back l.armed) ∙ ap mark_of (field-same l r Armed e) ∙ mark-back r.armed) i;
}

pub no_fields : (m : Machine) (gs : List Field) → fields_apart gs m m ≡ []
unfolding fields_apart field_apart
no_fields m [] = refl
no_fields m (g ∷ gs) = rw (eq-eqb (field_of g m) (field_of g m) refl) (no_fields m gs)

-- ---- the other way round

pub fields-exchanged : (l r : Machine) (gs : List Field) → fields_apart gs r l ≡ map exchanged (fields_apart gs l r)
unfolding fields_apart field_apart
fields-exchanged l r [] = refl
fields-exchanged l r (g ∷ gs) = sym (map-append (field_apart g l r) (fields_apart gs l r) ∙ rw (← fields-exchanged l r gs, one))
  where
    so : (t : Bool) (x y : ℕ) → map exchanged (cond t [] (of_field g x y ∷ [])) ≡ cond t [] (of_field g y x ∷ [])
    so true x y = refl
    so false x y = refl

    one : map exchanged (field_apart g l r) ≡ field_apart g r l
    one = rw (eqb_swap (field_of g r) (field_of g l)) (so (eqb (field_of g l) (field_of g r)) (field_of g l) (field_of g r))
