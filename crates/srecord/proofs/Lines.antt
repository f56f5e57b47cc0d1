-- A file's lines, the first one split off; and what a line's answer says of its meaning.
-- Assumes nothing.
use Rattle.std.proofs.Common.{◌≡◌, ℕ, suc, ◌+◌, ◌-◌, ◌<◌, ◌≤◌, Bool, true, false, leb, List, [], ◌∷◌, map, length, get_or, take, drop, sym, refl, ap, ◌∙◌, arith, length-drop, drop_of_length-le, drop-drop, eq-eqb, ne_eqb, leb-true, Err, Ok, Result}
use native.Mathlib.Decide.{ℕ_discrete}
use lib.Seq.{sets, length-sets}
use Rattle.srecord.specs.Line.{Meaning, heading, piece, start, refused, line_bytes, is_shaped, is_summed, line_address, data_of, meant, line_of, line_answer}
use Rattle.srecord.specs.File.{in_front_of, lines_of, first, line_end, meanings_of, ended, judged, landed}
use Rattle.srecord.specs.declared.line.Line.{Line}
use Rattle.srecord.specs.declared.line.Line.TheVariants.{Header, Data, End}
use Rattle.answers.specs.declared.Refusal.{Refusal}
use Rattle.answers.specs.declared.Refusal.TheVariants.{LineShape, Checksum, PastTop}
use Rattle.srecord.proofs.Scan.{first-joined}
use Rattle.srecord.proofs.Shapes.{Held, in-0, in-1, in-9, Shaped, is-shaped}

-- a text whose first n characters are its first line
record Cut (t : List ℕ) (n : ℕ) : Type 0 where
  some : 0 < n
  fits : n ≤ length t
  lines : lines_of t ≡ take n t ∷ lines_of (drop n t)

line-fed : (c : ℕ) (t : List ℕ) → c ≡ 10 → lines_of (c ∷ t) ≡ (c ∷ []) ∷ lines_of t
unfolding lines_of
line-fed c t e = rw (eq-eqb c 10 e)

line_on : (c : ℕ) (t : List ℕ) → (c ≡ 10 → ⊥) → lines_of (c ∷ t) ≡ in_front_of c (lines_of t)
unfolding lines_of
line_on c t n = rw (ne_eqb c 10 n)

line-alone : (c : ℕ) → lines_of (c ∷ []) ≡ (c ∷ []) ∷ lines_of []
unfolding lines_of
line-alone c = go (ℕ_discrete c 10)
  where
    go : Dec (c ≡ 10) → lines_of (c ∷ []) ≡ (c ∷ []) ∷ []
    go (yes e) = rw (eq-eqb c 10 e)
    go (no n) = rw (ne_eqb c 10 n)

cut-first : (t : List ℕ) → 0 < length t → Cut t (length (first (lines_of t)))
cut-first [] h = absurd (omega arith)
cut-first (c ∷ []) h = rw (line-alone c) (record { some = omega arith; fits = omega arith; lines = line-alone c })
cut-first (c ∷ d ∷ t) h = go (ℕ_discrete c 10) (cut-first (d ∷ t) (omega arith))
  where
    go : Dec (c ≡ 10) → Cut (d ∷ t) (length (first (lines_of (d ∷ t)))) → Cut (c ∷ d ∷ t) (length (first (lines_of (c ∷ d ∷ t))))
    go (yes e) k = rw (line-fed c (d ∷ t) e) (record { some = omega arith; fits = omega arith; lines = line-fed c (d ∷ t) e })
    go (no n) k =
        let s : length (first (lines_of (c ∷ d ∷ t))) ≡ suc (length (first (lines_of (d ∷ t)))) =
        ap (λ (ls : List (List ℕ)). length (first ls)) (line_on c (d ∷ t) n) ∙ ap length (first-joined c (lines_of (d ∷ t))) in
        rw s (record { some = omega arith; fits = omega arith; lines = line_on c (d ∷ t) n ∙ ap (in_front_of c) k.lines })

module _ (file : List ℕ) (from : ℕ) (h : from < length file) where
  here : Cut (drop from file) (length (first (lines_of (drop from file))))
  here = let d = length-drop from file in cut-first (drop from file) (omega arith)

  pub line-fits : (from < line_end file from) × (line_end file from ≤ length file)
  unfolding line_end
  line-fits =
      let d = length-drop from file in
      let s = here.some in
      let f = here.fits in
      (omega arith, omega arith)

  -- the line from here on, and those after it
  pub next-text : (end : ℕ) → end ≡ line_end file from → lines_of (drop from file) ≡ take (end - from) (drop from file) ∷ lines_of (drop end file)
  unfolding line_end
  next-text end e =
      let n : end - from ≡ length (first (lines_of (drop from file))) = omega arith in
      here.lines ∙ rw (n, drop-drop (length (first (lines_of (drop from file)))) from file, e)

  pub next-line : (end : ℕ) → end ≡ line_end file from
      → meanings_of (drop from file) ≡ line_of (take (end - from) (drop from file)) ∷ meanings_of (drop end file)
  unfolding meanings_of
  next-line end e = ap (map line_of) (next-text end e)

pub no_lines : (file : List ℕ) (from : ℕ) → length file ≤ from → meanings_of (drop from file) ≡ []
unfolding meanings_of lines_of
no_lines file from h = rw (drop_of_length-le file {i = from} h)

-- the answer to a file, by what its first line shows
abbrev pub answer_by : Result Line Refusal → List Meaning → Result ℕ Refusal
answer_by (Ok Header) ms = judged ms
answer_by (Ok (Data a n)) ms = judged ms
answer_by (Ok (End a)) ms = ended a ms
answer_by (Err r) ms = Err r

judge-one : (m : Meaning) (ms : List Meaning) → judged (m ∷ ms) ≡ answer_by (line_answer m) ms
unfolding judged
judge-one (heading d) ms = refl
judge-one (piece a d) ms = refl
judge-one (start a) ms = refl
judge-one (refused r) ms = refl

pub judge-by : {l : Result Line Refusal} (m : Meaning) (ms : List Meaning) → line_answer m ≡ l → judged (m ∷ ms) ≡ answer_by l ms
judge-by m ms e = judge-one m ms ∙ ap (λ (l : Result Line Refusal). answer_by l ms) e

-- the judge goes on after any line but S9 and one that is refused
pub passed : (l : Line) (ms : List Meaning) → ((a : ℕ) → l ≡ End a → ⊥) → answer_by (Ok l) ms ≡ judged ms
passed Header ms g = refl
passed (Data a n) ms g = refl
passed (End a) ms g = absurd (g a refl)

-- any other line than S1 stores nothing
pub idle : {l : Result Line Refusal} (m : Meaning) (ms : List Meaning) (mem : List ℕ) → l ≡ line_answer m → ((a n : ℕ) → l ≡ Ok (Data a n) → ⊥) → landed (m ∷ ms) mem ≡ landed ms mem
unfolding landed
idle (heading d) ms mem e h = refl
idle (piece a d) ms mem e h = absurd (h a (length d) e)
idle (start a) ms mem e h = refl
idle (refused r) ms mem e h = refl

pub lands-none : (mem : List ℕ) → landed [] mem ≡ mem
unfolding landed
lands-none mem = refl

pub lands : (m : Meaning) (ms : List Meaning) (mem : List ℕ) (a : ℕ) (d : List ℕ) → m ≡ piece a d → landed (m ∷ ms) mem ≡ landed ms (sets mem a d)
unfolding landed
lands m ms mem a d e = rw e

pub sound : (text : List ℕ) → is_shaped text ≡ true → is_summed (line_bytes text) ≡ true → line_of text ≡ meant (get_or text 1 0) (line_address (line_bytes text)) (data_of (line_bytes text))
unfolding line_of
sound text e f = rw (e, f)

-- a line that is refused, or of the right shape and sum
pub data Found (text : List ℕ) : Meaning → Type 0 where
  bad : (r : Refusal) → Found text (refused r)
  good : Shaped text → is_summed (line_bytes text) ≡ true → Found text (meant (get_or text 1 0) (line_address (line_bytes text)) (data_of (line_bytes text)))

pub found : (text : List ℕ) → Found text (line_of text)
unfolding line_of
found text = go (is_shaped text) refl (is_summed (line_bytes text)) refl
  where
    go : (u : Bool) → is_shaped text ≡ u → (v : Bool) → is_summed (line_bytes text) ≡ v → Found text (line_of text)
    go false p v q = rw p (bad LineShape)
    go true p false q = rw (p, q) (bad Checksum)
    go true p true q = rw (p, q) (good (is-shaped text p) q)

-- an S1 line's data
module _ (text : List ℕ) (a n : ℕ) where
  pub record IsData : Type 0 where
    pub means : line_of text ≡ piece a (take n (drop 3 (line_bytes text)))
    pub fits : a + n ≤ 65536
    pub room : 3 + n ≤ length (line_bytes text)

  data-meant : (kind b : ℕ) (d : List ℕ) → Held (length d) kind → line_answer (meant kind b d) ≡ Ok (Data a n)
      → (meant kind b d ≡ piece b d) × ((b ≡ a) × ((length d ≡ n) × (b + length d ≤ 65536)))
  data-meant _ b d (in-0 h) e = let z : ◌≡◌ {A = ℕ} 0 1 = cc in absurd (omega arith)
  data-meant _ b d (in-9 h) e = let z : ◌≡◌ {A = ℕ} 0 1 = cc in absurd (omega arith)
  data-meant _ b d (in-1 h k) e = go (leb (b + length d) 65536) refl
    where
      go : (w : Bool) → leb (b + length d) 65536 ≡ w → (meant 49 b d ≡ piece b d) × ((b ≡ a) × ((length d ≡ n) × (b + length d ≤ 65536)))
      go false r = let z : ◌≡◌ {A = Result Line Refusal} (Ok (Data a n)) (Err PastTop) = sym e ∙ rw r in let y : ◌≡◌ {A = ℕ} 0 1 = cc in absurd (omega arith)
      go true r =
          let z : ◌≡◌ {A = Result Line Refusal} (Ok (Data a n)) (Ok (Data b (length d))) = sym e ∙ rw r in
          (rw r, (cc, (cc, leb-true (b + length d) 65536 r)))

  pub data-line : line_answer (line_of text) ≡ Ok (Data a n) → IsData
  data-line = go (line_of text) refl (found text)
    where
      go : (m : Meaning) → line_of text ≡ m → Found text m → line_answer m ≡ Ok (Data a n) → IsData
      go _ f (bad r) e = let z : ◌≡◌ {A = ℕ} 0 1 = cc in absurd (omega arith)
      go _ f (good s q) e =
          let k = data-meant (get_or text 1 0) (line_address (line_bytes text)) (data_of (line_bytes text)) (rw s.width s.may) e in
          let m : length (line_bytes text) - 4 ≡ n = sym s.width ∙ k.1.1.0 in
          let r = s.room in
          record {
            means = f ∙ k.0 ∙ rw (k.1.0, m);
            fits = omega arith;
            room = omega arith;
          }

-- memory keeps its length
pub data-kept : (text : List ℕ) (a n : ℕ) (mem new : List ℕ) → IsData text a n → length mem ≡ 65536 → new ≡ sets mem a (take n (drop 3 (line_bytes text))) → length new ≡ 65536
data-kept text a n mem new d e s = ap length s ∙ length-sets mem a (take n (drop 3 (line_bytes text))) ∙ e
