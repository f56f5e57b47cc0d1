-- The lines of a file and those of what is written of it; that it reads; and what comes back of a sound file.
-- Assumes nothing.
use Rattle.std.specs.Prelude.{None, Option, Some}
use Rattle.std.specs.Result.{is_ok}
use Prim.Native.Nat.{ℕ, ◌+◌, ◌≤◌}
use native.Mathlib.Omega.{arith}
use mathlib.Core.Path.{◌≡◌, refl, sym, ap, ◌∙◌}
use mathlib.Core.Bool.{Bool, true, false, cond, not, ◌||◌}
use mathlib.Core.List.{List, [], ◌∷◌, ◌++◌, append_assoc, append-nil, map}
use lib.Dec.{eqb}
use lib.ListN.{length}
use borrow.Author.Tests.{eq-eqb}
use Rattle.answers.specs.declared.Refusal.{Refusal}
use Rattle.srecord.specs.Line.{Meaning, heading, piece, start, refused, line_of}
use Rattle.srecord.specs.File.{in_front_of, lines_of, meanings_of, judged, loaded_of}
use Rattle.srecord.specs.Promises.{IsLine, StandsFor}
use Rattle.srecord.proofs.Sound.{each, reads}
use Rattle.srecord.proofs.Exact.{line-exact}
use Rattle.srecord.proofs.Back.{first-cut}
use Rattle.salvage.specs.Lines.{fate_of, is_end, has_end, sift, sifted, gathered}
use Rattle.salvage.specs.Mended.{kept_text, end_line, end_if, kept_of, is_added, mended, number_if_dropped, dropped_number, dropped_numbers}
use Rattle.salvage.specs.Laws.{line_if_kept, kept_line, kept_lines, Parted, over, keeps, lists, LinesParted, LinesWritten, Rising, NumbersRise, AlwaysReads, SoundAsIs}

-- ---- the lines are parted

parted : (ended : Bool) (n : ℕ) (ls : List (List ℕ)) → Parted n ls (gathered kept_line (sift ended n ls)) (gathered dropped_number (sift ended n ls))
unfolding sift gathered
parted ended n [] = over
parted ended n (l ∷ ls) = go (fate_of ended (line_of l)) (parted (ended || is_end (line_of l)) (n + 1) ls)
  where
    go : {ks : List (List ℕ)} {ns : List ℕ} (f : Option Refusal) → Parted (n + 1) ls ks ns → Parted n (l ∷ ls) (line_if_kept f l ++ ks) (number_if_dropped f (n + 1) ++ ns)
    go None p = keeps p
    go (Some r) p = lists p

pub lines-parted : LinesParted
unfolding kept_lines dropped_numbers
lines-parted file = parted false 0 (lines_of file)

rising-from : (a b : ℕ) (ns : List ℕ) → a ≤ b → Rising b ns → Rising a ns
rising-from a b [] h r = tt
rising-from a b (n ∷ ns) h r = (omega (arith, r.0), r.1)

rising : {n : ℕ} {ls ks : List (List ℕ)} {ns : List ℕ} → Parted n ls ks ns → Rising n ns
rising over = tt
rising (keeps {n = n} {ns = ns} p) = rising-from n (n + 1) ns (omega arith) (rising p)
rising (lists p) = (omega arith, rising p)

pub numbers-rise : NumbersRise
numbers-rise file = rising (lines-parted file)

-- ---- the lines of what is written

-- a line that the reader accepts is one line, whatever follows it
module _ (l after : List ℕ) where
  is-first : {kind a : ℕ} {d : List ℕ} → IsLine l kind a d → lines_of (l ++ after) ≡ l ∷ lines_of after
  is-first {kind} {a} {d} s = rw s.exact (first-cut kind a d after s.address (each d s.values) s.count)

  good-first : (m : Meaning) → StandsFor l m → fate_of false m ≡ None → lines_of (l ++ after) ≡ l ∷ lines_of after
  good-first (heading d) s e = is-first s.1
  good-first (piece a d) s e = is-first s
  good-first (start a) s e = is-first s
  good-first (refused r) s e = let z : ◌≡◌ {A = ℕ} 0 1 = cc in absurd (omega arith)

  kept-first : (ended : Bool) → fate_of ended (line_of l) ≡ None → lines_of (l ++ after) ≡ l ∷ lines_of after
  kept-first false e = good-first (line_of l) (line-exact l) e
  kept-first true e = let z : ◌≡◌ {A = ℕ} 0 1 = cc in absurd (omega arith)

kept-lines : (ended : Bool) (n : ℕ) (ls : List (List ℕ)) (tail : List ℕ)
    → lines_of (gathered kept_text (sift ended n ls) ++ tail) ≡ gathered kept_line (sift ended n ls) ++ lines_of tail
unfolding sift gathered
kept-lines ended n [] tail = refl
kept-lines ended n (l ∷ ls) tail = go (fate_of ended (line_of l)) refl (kept-lines (ended || is_end (line_of l)) (n + 1) ls tail)
  where
    text : List ℕ
    text = gathered kept_text (sift (ended || is_end (line_of l)) (n + 1) ls)

    go : (f : Option Refusal) → fate_of ended (line_of l) ≡ f
        → lines_of (text ++ tail) ≡ gathered kept_line (sift (ended || is_end (line_of l)) (n + 1) ls) ++ lines_of tail
        → lines_of (gathered kept_text (sift ended n (l ∷ ls)) ++ tail) ≡ gathered kept_line (sift ended n (l ∷ ls)) ++ lines_of tail
    go None e h = rw (e, append_assoc l text tail) (kept-first l (text ++ tail) ended e ∙ ap (λ (k : List (List ℕ)). l ∷ k) h)
    go (Some r) e h = rw e h

end-lines : (b : Bool) → lines_of (end_if b) ≡ cond b (end_line ∷ []) []
unfolding lines_of
end-lines true = ap lines_of (sym (append-nil end_line)) ∙ first-cut 57 0 [] [] (omega arith) tt refl
end-lines false = refl

pub lines-written : LinesWritten
unfolding mended kept_of kept_lines
lines-written file = kept-lines false 0 (lines_of file) (end_if (is_added file)) ∙ ap (λ (k : List (List ℕ)). gathered kept_line (sifted file) ++ k) (end-lines (is_added file))

-- ---- it reads

end-means : line_of end_line ≡ start 0
end-means = reads 57 0 [] (omega arith) tt refl

-- after S9 nothing is kept
none_after : (n : ℕ) (ls : List (List ℕ)) → gathered kept_line (sift true n ls) ≡ []
unfolding sift gathered
none_after n [] = refl
none_after n (l ∷ ls) = none_after (n + 1) ls

ends-well : (n : ℕ) (ls : List (List ℕ))
    → is_ok (judged (map line_of (gathered kept_line (sift false n ls) ++ cond (not (has_end ls)) (end_line ∷ []) []))) ≡ true
unfolding sift gathered has_end judged
ends-well n [] = rw end-means
ends-well n (l ∷ ls) = go (line_of l) refl (ends-well (n + 1) ls)
  where
    go : (m : Meaning) → line_of l ≡ m → is_ok (judged (map line_of (gathered kept_line (sift false (n + 1) ls) ++ cond (not (has_end ls)) (end_line ∷ []) []))) ≡ true
        → is_ok (judged (map line_of (gathered kept_line (sift false n (l ∷ ls)) ++ cond (not (has_end (l ∷ ls))) (end_line ∷ []) []))) ≡ true
    go (heading d) e h = rw (e, e) h
    go (piece a d) e h = rw (e, e) h
    go (start a) e h = rw (e, none_after (n + 1) ls, e)
    go (refused r) e h = rw e h

reads_so : (mem file : List ℕ) → length mem ≡ 65536 → loaded_of mem file ≡ judged (meanings_of file)
unfolding loaded_of
reads_so mem file e = rw (eq-eqb (length mem) 65536 e)

well : (file : List ℕ) → is_ok (judged (meanings_of (mended file))) ≡ true
unfolding meanings_of is_added kept_lines
well file = rw (lines-written file) (ends-well 0 (lines_of file))

pub always-reads : AlwaysReads
always-reads mem file e = rw (reads_so mem (mended file) e) (well file)

-- ---- a sound file

not_done : {A : Type 0} → false ≡ true → A
not_done e = let z : ◌≡◌ {A = ℕ} 0 1 = cc in absurd (omega arith)

not-empty : {A : Type 0} {n : ℕ} {ns : List ℕ} → n ∷ ns ≡ [] → A
not-empty e = let z : ◌≡◌ {A = ℕ} 0 1 = cc in absurd (omega arith)

abbrev joined : List (List ℕ) → List ℕ
joined [] = []
joined (l ∷ ls) = l ++ joined ls

join_front : (c : ℕ) (ls : List (List ℕ)) → joined (in_front_of c ls) ≡ c ∷ joined ls
join_front c [] = refl
join_front c (l ∷ ls) = refl

-- the lines of a text make the text
rejoined : (t : List ℕ) → joined (lines_of t) ≡ t
unfolding lines_of
rejoined [] = refl
rejoined (c ∷ t) = go (eqb c 10) (rejoined t)
  where
    go : (b : Bool) → joined (lines_of t) ≡ t → joined (cond b ((c ∷ []) ∷ lines_of t) (in_front_of c (lines_of t))) ≡ c ∷ t
    go true h = ap (λ (l : List ℕ). c ∷ l) h
    go false h = join_front c (lines_of t) ∙ ap (λ (l : List ℕ). c ∷ l) h

record Whole (n : ℕ) (ls : List (List ℕ)) : Type 0 where
  text : gathered kept_text (sift false n ls) ≡ joined ls
  none : gathered dropped_number (sift false n ls) ≡ []
  ends : has_end ls ≡ true

whole : (n : ℕ) (ls : List (List ℕ)) → is_ok (judged (map line_of ls)) ≡ true → Whole n ls
unfolding sift gathered has_end judged
whole n [] h = not_done h
whole n (l ∷ ls) h = go (line_of l) refl ls refl (λ g. whole (n + 1) ls g) h
  where
    more : (is_ok (judged (map line_of ls)) ≡ true → Whole (n + 1) ls) → is_ok (judged (map line_of ls)) ≡ true → fate_of false (line_of l) ≡ None → is_end (line_of l) ≡ false → Whole n (l ∷ ls)
    more ih g e f =
        let w = ih g in
        record { text = rw (e, f) (ap (λ (t : List ℕ). l ++ t) w.text); none = rw (e, f) w.none; ends = rw f w.ends }

    go : (m : Meaning) → line_of l ≡ m → (ks : List (List ℕ)) → ks ≡ ls → (is_ok (judged (map line_of ls)) ≡ true → Whole (n + 1) ls)
        → is_ok (judged (line_of l ∷ map line_of ks)) ≡ true → Whole n (l ∷ ls)
    go (heading d) e ks k ih h = more ih (rw (e, k) at h) (rw e) (rw e)
    go (piece a d) e ks k ih h = more ih (rw (e, k) at h) (rw e) (rw e)
    go (start a) e [] k ih h = rw (← k) (record { text = rw e; none = rw e; ends = rw e })
    go (start a) e (x ∷ ks) k ih h = not_done (rw e at h)
    go (refused r) e ks k ih h = not_done (rw e at h)

sound-of : (n : ℕ) (ls : List (List ℕ)) → gathered dropped_number (sift false n ls) ≡ [] → has_end ls ≡ true → is_ok (judged (map line_of ls)) ≡ true
unfolding sift gathered has_end judged
sound-of n [] d h = let z : ◌≡◌ {A = ℕ} 0 1 = cc in absurd (omega arith)
sound-of n (l ∷ ls) d h = go (line_of l) refl (λ x y. sound-of (n + 1) ls x y)
  where
    alone : (a : ℕ) (ks : List (List ℕ)) → gathered dropped_number (sift true (n + 1) ks) ≡ [] → is_ok (judged (start a ∷ map line_of ks)) ≡ true
    alone a [] q = refl
    alone a (x ∷ ks) q = not-empty q

    go : (m : Meaning) → line_of l ≡ m
        → (gathered dropped_number (sift false (n + 1) ls) ≡ [] → has_end ls ≡ true → is_ok (judged (map line_of ls)) ≡ true)
        → is_ok (judged (line_of l ∷ map line_of ls)) ≡ true
    go (heading a) e ih = rw e (ih (rw e at d) (rw e at h))
    go (piece a b) e ih = rw e (ih (rw e at d) (rw e at h))
    go (start a) e ih = rw e (alone a ls (rw e at d))
    go (refused r) e ih = not-empty (rw e at d)

not-true : (b : Bool) → not b ≡ false → b ≡ true
not-true true e = refl
not-true false e = sym e

module _ (mem file : List ℕ) (e : length mem ≡ 65536) where
  so : is_ok (loaded_of mem file) ≡ is_ok (judged (map line_of (lines_of file)))
  unfolding meanings_of
  so = ap is_ok (reads_so mem file e)

  back : is_ok (loaded_of mem file) ≡ true → (mended file ≡ file) × ((dropped_numbers file ≡ []) × (is_added file ≡ false))
  unfolding mended kept_of is_added dropped_numbers
  back h =
      let w = whole 0 (lines_of file) (sym so ∙ h) in
      (rw w.ends (append-nil _ ∙ w.text ∙ rejoined file), (w.none, rw w.ends))

  nothing : dropped_numbers file ≡ [] → is_added file ≡ false → is_ok (loaded_of mem file) ≡ true
  unfolding is_added dropped_numbers
  nothing d a = so ∙ sound-of 0 (lines_of file) d (not-true (has_end (lines_of file)) a)

  same : mended file ≡ file → is_ok (loaded_of mem file) ≡ true
  same m = rw m at (always-reads mem file e)

pub sound-as-is : SoundAsIs
sound-as-is mem file e = record { as_is = back mem file e; nothing-done = nothing mem file e; unchanged = same mem file e }
