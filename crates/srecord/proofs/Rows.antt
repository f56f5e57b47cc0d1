-- The text that the writer stores, line by line and row by row.
-- Assumes nothing.
use Rattle.std.proofs.Common.{◌≡◌, ℕ, zero, suc, ◌+◌, ◌-◌, ◌*◌, ◌/◌, ◌%◌, ◌^◌, ◌<◌, ◌≤◌, true, false, List, [], ◌∷◌, ◌++◌, length, take, drop, sym, refl, ap, ◌∙◌, append_assoc, append-nil, add-one, arith, length-append, length-drop, length-take-le}
use lib.Seq.{sets, length-sets}
use Rattle.text.specs.Hex.{hex2}
use Rattle.srecord.specs.Layout.{pairs, total, summed, line_text}
use Rattle.srecord.specs.Written.{bytes_of_row, is_zero, row_text, rows_text}
use Rattle.srecord.proofs.Laying.{sets-two, pairs-length, pairs-one}

pub text-length : (kind a : ℕ) (d : List ℕ) → length (line_text kind a d) ≡ 11 + 2 * length d
unfolding line_text
text-length kind a d =
    let h = pairs-length (summed a d) in
    simp length-append (omega arith)

pub sum_fields : (c h l t : ℕ) (d : List ℕ) → t ≡ (total (c ∷ h ∷ l ∷ []) % 256 + total d % 256) % 2 ^ 8 → t ≡ total (c ∷ h ∷ l ∷ d) % 256
unfolding total
sum_fields c h l t d e = omega arith

-- the parts of a line, each stored right after the one before
module _ (at kind a sum : ℕ) (d out o₁ o₂ o₃ o₄ o₅ : List ℕ)
    (e₁ : o₁ ≡ sets out at (83 ∷ kind ∷ []))
    (e₂ : o₂ ≡ sets o₁ (at + 2) (pairs ((length d + 3) ∷ a / 256 ∷ a % 256 ∷ [])))
    (e₃ : o₃ ≡ sets o₂ (at + 8) (pairs d))
    (e₄ : o₄ ≡ sets o₃ (at + 8 + 2 * length d) (pairs ((255 - sum) ∷ [])))
    (e₅ : o₅ ≡ sets o₄ (at + 8 + 2 * length d + 2) (10 ∷ []))
    (s : sum ≡ total (summed a d) % 256) where
  abbrev f : List ℕ
  f = pairs ((length d + 3) ∷ a / 256 ∷ a % 256 ∷ [])

  abbrev h : List ℕ
  h = 83 ∷ kind ∷ []

  two : o₂ ≡ sets out at (h ++ f)
  two =
      let n = pairs-length ((length d + 3) ∷ a / 256 ∷ a % 256 ∷ []) in
      e₂ ∙ rw e₁ (sets-two at (at + 2) h f out (omega arith))

  three : o₃ ≡ sets out at ((h ++ f) ++ pairs d)
  three =
      let n = pairs-length ((length d + 3) ∷ a / 256 ∷ a % 256 ∷ []) in
      let m = pairs-length d in
      let k = length-append h f in
      e₃ ∙ rw two (sets-two at (at + 8) (h ++ f) (pairs d) out (omega arith))

  four : o₄ ≡ sets out at (((h ++ f) ++ pairs d) ++ hex2 (255 - sum))
  four =
      let n = pairs-length ((length d + 3) ∷ a / 256 ∷ a % 256 ∷ []) in
      let m = pairs-length d in
      let k = length-append h f in
      let j = length-append (h ++ f) (pairs d) in
      e₄ ∙ rw (three, pairs-one (255 - sum)) (sets-two at (at + 8 + 2 * length d) ((h ++ f) ++ pairs d) (hex2 (255 - sum)) out (omega arith))

  pub line-put : o₅ ≡ sets out at (line_text kind a d)
  unfolding line_text pairs
  line-put =
      let n = pairs-length ((length d + 3) ∷ a / 256 ∷ a % 256 ∷ []) in
      let m = pairs-length d in
      let k = length-append h f in
      let j = length-append (h ++ f) (pairs d) in
      let i = length-append ((h ++ f) ++ pairs d) (hex2 (255 - sum)) in
      let last : sets o₄ (at + 8 + 2 * length d + 2) (10 ∷ []) ≡ sets out at ((((h ++ f) ++ pairs d) ++ hex2 (255 - sum)) ++ (10 ∷ [])) =
      rw four (sets-two at (at + 8 + 2 * length d + 2) (((h ++ f) ++ pairs d) ++ hex2 (255 - sum)) (10 ∷ []) out (omega arith)) in
      let same : ((((h ++ f) ++ pairs d) ++ hex2 (255 - sum)) ++ (10 ∷ [])) ≡ line_text kind a d = rw s (ap (λ (l : List ℕ). (h ++ f) ++ l) (append_assoc (pairs d) (hex2 (255 - total (summed a d) % 256)) (10 ∷ []))) in
      e₅ ∙ last ∙ ap (λ (l : List ℕ). sets out at l) same

-- row k as a part of memory: its start and end are 32 k and 32 k + 32
pub row-part : (mem : List ℕ) (k : ℕ) → take (32 * k + 32 - 32 * k) (drop (32 * k) mem) ≡ bytes_of_row mem k
row-part mem k = let e : 32 * k + 32 - 32 * k ≡ 32 = omega arith in rw e

module _ (mem : List ℕ) (k : ℕ) where
  pub row-skip : is_zero (bytes_of_row mem k) ≡ true → rows_text mem (k + 1) ≡ rows_text mem k
  unfolding rows_text row_text
  row-skip z = rw (add-one k) (rw z (append-nil (rows_text mem k)))

  pub row_more : is_zero (bytes_of_row mem k) ≡ false → rows_text mem (k + 1) ≡ rows_text mem k ++ line_text 49 (32 * k) (bytes_of_row mem k)
  unfolding rows_text row_text
  row_more z = rw (add-one k) (rw z)

  module _ (full : length mem ≡ 65536) (h : k < 2048) where
    pub row-width : length (bytes_of_row mem k) ≡ 32
    row-width = let d = length-drop (32 * k) mem in length-take-le 32 (drop (32 * k) mem) (omega arith)

    pub row-length : is_zero (bytes_of_row mem k) ≡ false → length (rows_text mem (k + 1)) ≡ length (rows_text mem k) + 75
    row-length z =
        let n = row-width in
        let m = text-length 49 (32 * k) (bytes_of_row mem k) in
        ap length (row_more z) ∙ length-append (rows_text mem k) (line_text 49 (32 * k) (bytes_of_row mem k)) ∙ omega arith

pub rows_none : (mem : List ℕ) → rows_text mem 0 ≡ []
unfolding rows_text
rows_none mem = refl

grow : (mem : List ℕ) (j d : ℕ) → length (rows_text mem j) ≤ length (rows_text mem (j + d))
unfolding rows_text
grow mem j zero = let e : j + 0 ≡ j = omega arith in rw e (omega arith)
grow mem j (suc d) =
    let h = grow mem j d in
    let e : j + suc d ≡ suc (j + d) = omega arith in
    rw e (simp length-append (omega arith))

pub rows_grow : (mem : List ℕ) (j n : ℕ) → j ≤ n → length (rows_text mem j) ≤ length (rows_text mem n)
rows_grow mem j n h = let e : j + (n - j) ≡ n = omega arith in rw e at (grow mem j (n - j))

-- a turn of the writer's loop
module _ (mem : List ℕ) (k at : ℕ) (out out₀ : List ℕ) (p : at ≡ length (rows_text mem k)) (q : length out ≡ length out₀) (o : out ≡ sets out₀ 0 (rows_text mem k)) where
  pub record Turned (at' : ℕ) (out' : List ℕ) : Type 0 where
    pub ends : at' ≡ length (rows_text mem (k + 1))
    pub keeps : length out' ≡ length out₀
    pub holds : out' ≡ sets out₀ 0 (rows_text mem (k + 1))

  pub turn-skip : (at' : ℕ) (out' : List ℕ) → at' ≡ at → out' ≡ out → is_zero (bytes_of_row mem k) ≡ true → Turned at' out'
  turn-skip at' out' f g z =
      let r = row-skip mem k z in
      record { ends = f ∙ p ∙ ap length (sym r); keeps = ap length g ∙ q; holds = g ∙ o ∙ ap (λ (l : List ℕ). sets out₀ 0 l) (sym r) }

  pub turn_more : (at' : ℕ) (out' : List ℕ) → at' ≡ at + 75 → out' ≡ sets out at (line_text 49 (32 * k) (bytes_of_row mem k)) → length mem ≡ 65536 → k < 2048
      → is_zero (bytes_of_row mem k) ≡ false → Turned at' out'
  turn_more at' out' f g full h z =
      let l = row-length mem k full h z in
      record {
        ends = omega arith;
        keeps = ap length g ∙ length-sets out at (line_text 49 (32 * k) (bytes_of_row mem k)) ∙ q;
        holds = g ∙ rw (o, row_more mem k z) (sets-two 0 at (rows_text mem k) (line_text 49 (32 * k) (bytes_of_row mem k)) out₀ (omega arith));
      }
