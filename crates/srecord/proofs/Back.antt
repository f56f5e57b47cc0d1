-- What is written reads back; so one text is written of one memory and start only.
-- Assumes nothing.
use Rattle.std.proofs.Common.{◌≡◌, ℕ, zero, suc, ◌+◌, ◌-◌, ◌*◌, ◌/◌, ◌%◌, ◌<◌, ◌≤◌, Bool, true, false, cond, eqb, List, [], ◌∷◌, ◌++◌, map, length, take, drop, replicate, sym, refl, ap, ◌∙◌, append_assoc, append-nil, arith, length-append, length-drop, take-append-drop, drop_of_length-le, length-take-le, take_all, drop-drop, take_at, take-add, le-ltb, lt-ltb, eq-eqb, ne_eqb, eqb-true, le-leb, Ok, Result}
use native.Mathlib.Decide.{dec_lt}
use lib.ListN.{length-replicate}
use lib.Seq.{sets, sets-eq, drop-append-add}
use Rattle.text.specs.Hex.{glyph}
use Rattle.srecord.specs.Layout.{pairs, line_text}
use Rattle.srecord.specs.Line.{Meaning, piece, start, may_hold, meant, line_of}
use Rattle.srecord.specs.File.{lines_of, meanings_of, judged, landed, loaded_of, memory_loaded}
use Rattle.srecord.specs.Written.{bytes_of_row, is_zero, row_text, rows_text, text_for}
use Rattle.srecord.specs.Promises.{blank, ReadsBack, OneForm}
use Rattle.answers.specs.declared.Refusal.{Refusal}
use Rattle.srecord.proofs.Bools.{and_parts}
use Rattle.srecord.proofs.Shapes.{held}
use Rattle.srecord.proofs.Rows.{row-width}
use Rattle.srecord.proofs.Sound.{Each, each, each_take, each-drop, hold-kinds, all_bytes, are-bytes, text-is, reads}

-- no line feed
abbrev NoFeed : List ℕ → Type 0
NoFeed [] = Unit {0}
NoFeed (c ∷ l) = (c ≡ 10 → ⊥) × NoFeed l

-- a digit is no line feed
not-feed : (n : ℕ) → n < 16 → 10 < glyph n
not-feed n h = go (dec_lt n 10)
  where
    go : Dec (n < 10) → 10 < glyph n
    go (yes l) = rw (lt-ltb n 10 l) (omega arith)
    go (no l) = rw (le-ltb n 10 (omega arith)) (omega arith)

no-feed : (l : List ℕ) → Each l → NoFeed (pairs l)
unfolding pairs
no-feed [] h = tt
no-feed (b ∷ l) h =
    let m = not-feed (b / 16) (omega (arith, h.0)) in
    let n = not-feed (b % 16) (omega arith) in
    ((λ e. omega arith), ((λ e. omega arith), no-feed l h.1))

cut : (l rest : List ℕ) → NoFeed l → lines_of (l ++ (10 ∷ rest)) ≡ (l ++ (10 ∷ [])) ∷ lines_of rest
unfolding lines_of
cut [] rest h = refl
cut (c ∷ l) rest h = rw (ne_eqb c 10 h.0, cut l rest h.1)

-- the first line of a text
module _ (kind a : ℕ) (d rest : List ℕ) (low : a < 65536) (are : Each d) (may : may_hold kind (length d) ≡ true) where
  pub first-cut : lines_of (line_text kind a d ++ rest) ≡ line_text kind a d ∷ lines_of rest
  first-cut =
      let k = hold-kinds (held kind (length d) may) in
      let t = text-is kind a d in
      let p = pairs (all_bytes a d) in
      let s : line_text kind a d ++ rest ≡ (83 ∷ kind ∷ p) ++ (10 ∷ rest) =
      rw t (ap (λ (l : List ℕ). 83 ∷ kind ∷ l) (append_assoc p (10 ∷ []) rest)) in
      ap lines_of s
      ∙ cut (83 ∷ kind ∷ p) rest ((λ e. omega arith), ((λ e. omega arith), no-feed _ (are-bytes kind a d low are may)))
      ∙ ap (λ (l : List ℕ). l ∷ lines_of rest) (sym t)

  line-cut : meanings_of (line_text kind a d ++ rest) ≡ meant kind a d ∷ meanings_of rest
  unfolding meanings_of
  line-cut = ap (map line_of) first-cut ∙ ap (λ (m : Meaning). m ∷ map line_of (lines_of rest)) (reads kind a d low are may)

abbrev zeros : ℕ → List ℕ
zeros n = replicate n 0

zero_row : (l : List ℕ) → is_zero l ≡ true → l ≡ zeros (length l)
unfolding is_zero
zero_row [] h = refl
zero_row (b ∷ l) h =
    let p = and_parts (eqb b 0) (is_zero l) h in
    rw (eqb-true b 0 p.0) (ap (λ (m : List ℕ). 0 ∷ m) (zero_row l p.1))

take-zeros : (n m : ℕ) → n ≤ m → take n (zeros m) ≡ zeros n
take-zeros zero m h = refl
take-zeros (suc n) zero h = absurd (omega arith)
take-zeros (suc n) (suc m) h = ap (λ (l : List ℕ). 0 ∷ l) (take-zeros n m (omega arith))

drop-zeros : (n m : ℕ) → drop n (zeros m) ≡ zeros (m - n)
drop-zeros zero m = let e : m - 0 ≡ m = omega arith in rw e
drop-zeros (suc n) zero = let e : 0 - suc n ≡ 0 = omega arith in rw e
drop-zeros (suc n) (suc m) = let e : suc m - suc n ≡ m - n = omega arith in rw e (drop-zeros n m)

-- memory with its first n bytes in place, over zeros
abbrev up_to : List ℕ → ℕ → ℕ → List ℕ
up_to mem size n = take n mem ++ drop n (zeros size)

module _ (mem : List ℕ) (size n : ℕ) (full : length mem ≡ size) (room : n + 32 ≤ size) where
  front : length (take n mem) ≡ n
  front = length-take-le n mem (omega arith)

  more : up_to mem size (n + 32) ≡ take n mem ++ (take 32 (drop n mem) ++ drop (n + 32) (zeros size))
  more = rw (take-add n 32 mem) (append_assoc (take n mem) (take 32 (drop n mem)) (drop (n + 32) (zeros size)))

  row-stored : sets (up_to mem size n) n (take 32 (drop n mem)) ≡ up_to mem size (n + 32)
  row-stored =
      let f = front in
      let z = length-drop n (zeros size) in
      let s = length-replicate {A = ℕ} size 0 in
      let t = length-append (take n mem) (drop n (zeros size)) in
      let d = length-drop n mem in
      let w : length (take 32 (drop n mem)) ≡ 32 = length-take-le 32 (drop n mem) (omega arith) in
      let a : take n (take n mem ++ drop n (zeros size)) ≡ take n mem = take_at (take n mem) (drop n (zeros size)) n f in
      let b : drop (n + 32) (take n mem ++ drop n (zeros size)) ≡ drop (n + 32) (zeros size) =
      ap (λ (k : ℕ). drop (k + 32) (take n mem ++ drop n (zeros size))) (sym f)
      ∙ drop-append-add (take n mem) (drop n (zeros size)) 32
      ∙ drop-drop 32 n (zeros size) in
      sets-eq (take 32 (drop n mem)) (up_to mem size n) n (omega arith) ∙ rw (w, a, b, take-add n 32 mem)

  row_zero : is_zero (take 32 (drop n mem)) ≡ true → up_to mem size n ≡ up_to mem size (n + 32)
  row_zero z =
      let d = length-drop n mem in
      let w : length (take 32 (drop n mem)) ≡ 32 = length-take-le 32 (drop n mem) (omega arith) in
      let l : take 32 (drop n mem) ≡ zeros 32 = zero_row (take 32 (drop n mem)) z ∙ ap (λ (k : ℕ). zeros k) w in
      let r : take 32 (drop n (zeros size)) ≡ zeros 32 = rw (drop-zeros n size) (take-zeros 32 (size - n) (omega arith)) in
      let s : drop n (zeros size) ≡ take 32 (drop n mem) ++ drop (n + 32) (zeros size) =
      sym (take-append-drop 32 (drop n (zeros size)))
      ∙ ap (λ (m : List ℕ). m ++ drop 32 (drop n (zeros size))) (r ∙ sym l)
      ∙ ap (λ (m : List ℕ). take 32 (drop n mem) ++ m) (drop-drop 32 n (zeros size)) in
      ap (λ (m : List ℕ). take n mem ++ m) s ∙ sym more

whole : (mem : List ℕ) (size : ℕ) → length mem ≡ size → up_to mem size size ≡ mem
whole mem size e =
    let n = length-replicate {A = ℕ} size 0 in
    rw (take_all size mem (omega arith), drop_of_length-le (zeros size) {i = size} (omega arith)) (append-nil mem)

land-end : (a : ℕ) (mem : List ℕ) → landed (start a ∷ []) mem ≡ mem
unfolding landed
land-end a mem = refl

blank-length : length blank ≡ 65536
unfolding blank
blank-length = length-replicate {A = ℕ} 65536 0

module _ (mem : List ℕ) (full : length mem ≡ 65536) (are : Each mem) where
  module _ (k : ℕ) (rest : List ℕ) (h : k < 2048) where
    -- a row and what follows it
    row-means : meanings_of (line_text 49 (32 * k) (bytes_of_row mem k) ++ rest) ≡ piece (32 * k) (bytes_of_row mem k) ∷ meanings_of rest
    row-means =
        let w = row-width mem k full h in
        line-cut 49 (32 * k) (bytes_of_row mem k) rest (omega arith) (each_take 32 (drop (32 * k) mem) (each-drop (32 * k) mem are)) (rw w)
        ∙ rw (le-leb (32 * k + length (bytes_of_row mem k)) 65536 (omega arith))

    judge-row : judged (meanings_of (row_text mem k ++ rest)) ≡ judged (meanings_of rest)
    unfolding row_text judged
    judge-row = go (is_zero (bytes_of_row mem k)) refl
      where
        go : (w : Bool) → is_zero (bytes_of_row mem k) ≡ w
            → judged (meanings_of (cond (is_zero (bytes_of_row mem k)) [] (line_text 49 (32 * k) (bytes_of_row mem k)) ++ rest)) ≡ judged (meanings_of rest)
        go true e = rw e
        go false e = rw (e, row-means)

    land-row : landed (meanings_of (row_text mem k ++ rest)) (up_to mem 65536 (32 * k)) ≡ landed (meanings_of rest) (up_to mem 65536 (32 * k + 32))
    unfolding row_text landed
    land-row = go (is_zero (bytes_of_row mem k)) refl
      where
        go : (w : Bool) → is_zero (bytes_of_row mem k) ≡ w
            → landed (meanings_of (cond (is_zero (bytes_of_row mem k)) [] (line_text 49 (32 * k) (bytes_of_row mem k)) ++ rest)) (up_to mem 65536 (32 * k))
            ≡ landed (meanings_of rest) (up_to mem 65536 (32 * k + 32))
        go true e = rw e (ap (landed (meanings_of rest)) (row_zero mem 65536 (32 * k) full (omega arith) e))
        go false e = rw (e, row-means) (ap (landed (meanings_of rest)) (row-stored mem 65536 (32 * k) full (omega arith)))

  judge-rows : (k : ℕ) (rest : List ℕ) → k ≤ 2048 → judged (meanings_of (rows_text mem k ++ rest)) ≡ judged (meanings_of rest)
  unfolding rows_text
  judge-rows zero rest h = refl
  judge-rows (suc k) rest h =
      rw (append_assoc (rows_text mem k) (row_text mem k) rest) (judge-rows k (row_text mem k ++ rest) (omega arith) ∙ judge-row k rest (omega arith))

  land-rows : (k : ℕ) (rest : List ℕ) → k ≤ 2048
      → landed (meanings_of (rows_text mem k ++ rest)) (up_to mem 65536 0) ≡ landed (meanings_of rest) (up_to mem 65536 (32 * k))
  unfolding rows_text
  land-rows zero rest h = refl
  land-rows (suc k) rest h =
      let e : 32 * suc k ≡ 32 * k + 32 = omega arith in
      rw (append_assoc (rows_text mem k) (row_text mem k) rest, e) (land-rows k (row_text mem k ++ rest) (omega arith) ∙ land-row k rest (omega arith))

  module _ (a : ℕ) (low : a < 65536) where
    end-means : meanings_of (line_text 57 a []) ≡ start a ∷ []
    unfolding meanings_of lines_of
    end-means = ap meanings_of (sym (append-nil (line_text 57 a []))) ∙ line-cut 57 a [] [] low tt refl

    judged-text : judged (meanings_of (text_for mem a)) ≡ Ok a
    unfolding text_for judged
    judged-text = judge-rows 2048 (line_text 57 a []) (omega arith) ∙ rw end-means

    landed-text : landed (meanings_of (text_for mem a)) blank ≡ mem
    unfolding text_for blank
    landed-text =
        land-rows 2048 (line_text 57 a []) (omega arith)
        ∙ ap (λ (ms : List Meaning). landed ms (up_to mem 65536 65536)) end-means
        ∙ land-end a (up_to mem 65536 65536)
        ∙ whole mem 65536 full

pub reads-back : ReadsBack
unfolding loaded_of memory_loaded
reads-back mem a full are low =
    let j = judged-text mem full (each mem are) a low in
    let l : loaded_of blank (text_for mem a) ≡ Ok a = rw (eq-eqb (length blank) 65536 blank-length) j in
    (l, rw l (landed-text mem full (each mem are) a low))

pub one_form : OneForm
one_form mem other a b full whole are bytes low small e =
    let p = reads-back mem a full are low in
    let q = reads-back other b whole bytes small in
    let l : ◌≡◌ {A = Result ℕ Refusal} (Ok a) (Ok b) = sym p.0 ∙ ap (loaded_of blank) e ∙ q.0 in
    (sym p.1 ∙ ap (memory_loaded blank) e ∙ q.1, cc)
