-- A sound file's operations are its last bytes, in order: what `operation_at` gives from where `load` says that they start is what the file says.
-- Assumes nothing.
use Rattle.std.specs.Prelude.{Some}
use Prim.Native.Nat.{ℕ, zero, suc, ◌+◌, ◌-◌, ◌≤◌, ◌<◌}
use mathlib.Core.Path.{◌≡◌, refl, sym, ap, ◌∙◌}
use mathlib.Core.Bool.{Bool, true, false, cond}
use mathlib.Core.List.{List, [], ◌∷◌}
use native.Mathlib.Omega.{arith}
use borrow.Author.Tests.{lt-leb, leb-true, eqb-true}
use lib.Dec.{leb, eqb}
use lib.ListN.{length, get_or}
use Rattle.runfile.specs.Format.{Read, got, missing, two_bytes_at, settings_at, pieces_at, operation_at, operations_at, sections_of, wholly, RunFile, says, malformed, parsed, next_of, InOrder, TheyFit, NotLonger, ThenNone}
use Rattle.runfile.specs.declared.Operation.{Operation}
use Rattle.runfile.specs.declared.Operation.TheVariants.{Step}
use Rattle.runfile.proofs.Reading.{then-got, operation-got}

-- operations that stand at the places from a first one on, up to an end
record Stand (file : List ℕ) (os : List Operation) (at end : ℕ) : Type 0 where
  counted : end ≡ at + length os
  each : (i : ℕ) → i < length os → next_of (operation_at file (at + i)) ≡ Some (get_or os i Step)

none : (file : List ℕ) (at : ℕ) {os : List Operation} {end : ℕ} → got [] at ≡ got os end → Stand file os at end
none file at {os} {end} e =
    let p : [] ≡ os = cc in
    let q : at ≡ end = cc in
    rw (← p, ← q) (record { counted = omega arith; each = λ i k. absurd (omega arith) })

one_more : (file : List ℕ) (at : ℕ) {o : Operation} {os ps : List Operation} {end e : ℕ} → operation_at file at ≡ got o (at + 1) → Stand file os (at + 1) end
    → got (o ∷ os) end ≡ got ps e → Stand file ps at e
one_more file at {o} {os} {ps} {end} {e} a h q =
    let l : (o ∷ os) ≡ ps = cc in
    let d : end ≡ e = cc in
    rw (← l, ← d) (record { counted = omega (arith, h.counted); each = go })
  where
    go : (i : ℕ) → i < suc (length os) → next_of (operation_at file (at + i)) ≡ Some (get_or (o ∷ os) i Step)
    go zero k = let z : at + 0 ≡ at = omega arith in rw (z, a)
    go (suc i) k = let z : at + suc i ≡ at + 1 + i = omega arith in rw z (h.each i (omega arith))

stand : (file : List ℕ) (n at : ℕ) {os : List Operation} {end : ℕ} → operations_at file n at ≡ got os end → Stand file os at end
unfolding operations_at
stand file zero at e = none file at e
stand file (suc n) at e =
    let p = then-got (operation_at file at) e in
    let next = (operation-got file at p.1.1.0).0 in
    let r = then-got (operations_at file n p.1.0) p.1.1.1 in
    one_more file at (p.1.1.0 ∙ ap (λ (m : ℕ). got p.0 m) next) (stand file n (at + 1) (ap (λ (m : ℕ). operations_at file n m) (sym next) ∙ r.1.1.0)) r.1.1.1

pub operations-length : (file : List ℕ) (n at : ℕ) {os : List Operation} {end : ℕ} → operations_at file n at ≡ got os end → end ≡ at + length os
operations-length file n at e = (stand file n at e).counted

-- ---- from the whole file

wholly-got : (n : ℕ) (r : Read RunFile) {f : RunFile} → wholly n r ≡ says f → r ≡ got f n
wholly-got n (got g end) {f} e = go (eqb end n) refl e
  where
    go : (t : Bool) → eqb end n ≡ t → cond t (says g) malformed ≡ says f → got g end ≡ got f n
    go true h e = let q = eqb-true end n h in cc
    go false h e = let z : ◌≡◌ {A = ℕ} 0 1 = cc in absurd (omega arith)
wholly-got n missing e = cc

module _ (file : List ℕ) (f : RunFile) (h : parsed file ≡ says f) where
  parts : (length file ≤ 32768) × (sections_of file ≡ got f (length file))
  unfolding parsed
  parts = go (leb (length file) 32768) refl h
    where
      go : (t : Bool) → leb (length file) 32768 ≡ t → cond t (wholly (length file) (sections_of file)) malformed ≡ says f → (length file ≤ 32768) × (sections_of file ≡ got f (length file))
      go true e h = (leb-true (length file) 32768 e, wholly-got (length file) (sections_of file) h)
      go false e h = let z : ◌≡◌ {A = ℕ} 0 1 = cc in absurd (omega arith)

  last : (start : ℕ) × Stand file f.operations start (length file)
  unfolding sections_of
  last =
      let a = then-got (two_bytes_at file 0) parts.1 in
      let b = then-got (settings_at file a.0 a.1.0) a.1.1.1 in
      let c = then-got (two_bytes_at file b.1.0) b.1.1.1 in
      let d = then-got (pieces_at file c.0 c.1.0) c.1.1.1 in
      let m = then-got (two_bytes_at file d.1.0) d.1.1.1 in
      let o = then-got (operations_at file m.0 m.1.0) m.1.1.1 in
      let w : ◌≡◌ {A = RunFile} (record { settings = b.0; pieces = d.0; operations = o.0 }) f = cc o.1.1.1 in
      let e : o.1.0 ≡ length file = cc o.1.1.1 in
      (m.1.0, rw (ap (λ (g : RunFile). g.operations) w, e) at (stand file m.0 m.1.0 o.1.1.0))

pub they-fit : TheyFit
they-fit file f h = omega (arith, (last file f h).1.counted)

pub in_order : InOrder
in_order file f h i k =
    let l = last file f h in
    let e : length file - length f.operations ≡ l.0 = omega (arith, l.1.counted) in
    rw e (l.1.each i k)

pub not-longer : NotLonger
not-longer file f h = (parts file f h).0

pub then-none : ThenNone
unfolding operation_at
then-none file = rw (lt-leb (length file + 1) (length file) (omega arith))
