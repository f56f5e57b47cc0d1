-- The tests of a line's shape: each that fails, and all that are passed.
-- Assumes nothing.
use Rattle.std.proofs.Common.{◌≡◌, ℕ, ◌+◌, ◌-◌, ◌*◌, ◌<◌, ◌≤◌, Bool, true, false, ◌&&◌, eqb, leb, List, [], ◌∷◌, length, get_or, take, drop, sym, refl, ◌∙◌, arith, length-drop, drop_of_length-le, length-take-le, take_all, eq-eqb, ne_eqb, eqb-true, le-leb, leb-true}
use borrow.Author.Tests.{lt-leb}
use Rattle.text.specs.Hex.{is_digit}
use Rattle.srecord.specs.Layout.{is_paired, paired_bytes}
use Rattle.srecord.specs.Line.{most_data, may_hold, is_counted, is_shaped, line_bytes, data_of}
use Rattle.srecord.proofs.Bools.{and-false, and_parts}

-- the kinds that may have n data bytes
pub data Held (n : ℕ) : ℕ → Type 0 where
  in-0 : n ≤ most_data → Held n 48
  in-1 : 1 ≤ n → n ≤ most_data → Held n 49
  in-9 : n ≡ 0 → Held n 57

pub held : (kind n : ℕ) → may_hold kind n ≡ true → Held n kind
held kind n h = go (eqb kind 48) refl (eqb kind 49) refl
  where
    go : (u : Bool) → eqb kind 48 ≡ u → (v : Bool) → eqb kind 49 ≡ v → Held n kind
    go true e v f = rw (eqb-true kind 48 e) (in-0 (leb-true n most_data (rw e at h)))
    go false e true f =
        let p = and_parts (leb 1 n) (leb n most_data) (rw (e, f) at h) in
        rw (eqb-true kind 49 f) (in-1 (leb-true 1 n p.0) (leb-true n most_data p.1))
    go false e false f =
        let p = and_parts (eqb kind 57) (eqb n 0) (rw (e, f) at h) in
        rw (eqb-true kind 57 p.0) (in-9 (eqb-true n 0 p.1))

pub may-hold : {n kind : ℕ} → Held n kind → may_hold kind n ≡ true
may-hold {n} (in-0 h) = le-leb n most_data h
may-hold {n} (in-1 h k) = rw (le-leb 1 n h, le-leb n most_data k)
may-hold {n} (in-9 e) = rw e

-- pairs and a line feed are an odd number of characters
paired-odd : (t : List ℕ) → is_paired t ≡ true → length t ≡ 2 * length (paired_bytes t) + 1
unfolding is_paired paired_bytes
paired-odd [] e = cc
paired-odd (c ∷ []) e = refl
paired-odd (a ∷ b ∷ t) e =
    let h = paired-odd t (and_parts (is_digit b) (is_paired t) (and_parts (is_digit a) (is_digit b && is_paired t) e).1).1 in
    omega arith

-- all tests passed
pub record Shaped (text : List ℕ) : Type 0 where
  pub first : get_or text 0 0 ≡ 83
  pub paired : is_paired (drop 2 text) ≡ true
  pub size : length text ≡ 2 * length (line_bytes text) + 3
  pub room : 4 ≤ length (line_bytes text)
  pub count : get_or (line_bytes text) 0 0 ≡ length (line_bytes text) - 1
  pub width : length (data_of (line_bytes text)) ≡ length (line_bytes text) - 4
  pub may : Held (length (line_bytes text) - 4) (get_or text 1 0)

module _ (text : List ℕ) where
  pub is-shaped : is_shaped text ≡ true → Shaped text
  unfolding is_shaped
  is-shaped e =
      let bs = line_bytes text in
      let p = and_parts (eqb (get_or text 0 0) 83) (is_paired (drop 2 text) && is_counted (get_or text 1 0) bs) e in
      let q = and_parts (is_paired (drop 2 text)) (is_counted (get_or text 1 0) bs) p.1 in
      let r = and_parts (leb 4 (length bs)) (eqb (get_or bs 0 0) (length bs - 1) && may_hold (get_or text 1 0) (length bs - 4)) q.1 in
      let s = and_parts (eqb (get_or bs 0 0) (length bs - 1)) (may_hold (get_or text 1 0) (length bs - 4)) r.1 in
      let room = leb-true 4 (length bs) r.0 in
      let d = length-drop 3 bs in
      record {
        first = eqb-true (get_or text 0 0) 83 p.0;
        paired = q.0;
        size = omega (arith, paired-odd (drop 2 text) q.0, length-drop 2 text);
        room = room;
        count = eqb-true (get_or bs 0 0) (length bs - 1) s.0;
        width = length-take-le (length bs - 4) (drop 3 bs) (omega arith);
        may = held (get_or text 1 0) (length bs - 4) s.1;
      }

  pub shape-short : length text < 2 → false ≡ is_shaped text
  unfolding is_shaped is_paired
  shape-short h = rw (drop_of_length-le text {i = 2} (omega arith)) (sym (and-false (eqb (get_or text 0 0) 83)))

  pub shape-first : (get_or text 0 0 ≡ 83 → ⊥) → false ≡ is_shaped text
  unfolding is_shaped
  shape-first n = rw (ne_eqb (get_or text 0 0) 83 n)

  -- the part of the slice from index 2 on
  rest : take (length text - 2) (drop 2 text) ≡ drop 2 text
  rest = take_all (length text - 2) (drop 2 text) (omega (arith, length-drop 2 text))

  pub shape-paired : is_paired (take (length text - 2) (drop 2 text)) ≡ false → false ≡ is_shaped text
  unfolding is_shaped
  shape-paired e = let p = rw rest at e in rw p (sym (and-false (eqb (get_or text 0 0) 83)))

  module _ (first : get_or text 0 0 ≡ 83) (e : is_paired (take (length text - 2) (drop 2 text)) ≡ true) where
    counted : is_shaped text ≡ is_counted (get_or text 1 0) (line_bytes text)
    unfolding is_shaped
    counted = let p = rw rest at e in rw (first, p)

    pub shape-few : length (line_bytes text) < 4 → false ≡ is_shaped text
    shape-few h = sym (counted ∙ rw (lt-leb 4 (length (line_bytes text)) h))

    module _ (room : 4 ≤ length (line_bytes text)) where
      pub shape-count : (get_or (line_bytes text) 0 0 ≡ length (line_bytes text) - 1 → ⊥) → false ≡ is_shaped text
      shape-count n = sym (counted ∙ rw (le-leb 4 (length (line_bytes text)) room, ne_eqb (get_or (line_bytes text) 0 0) (length (line_bytes text) - 1) n))

      pub shape-kind : get_or (line_bytes text) 0 0 ≡ length (line_bytes text) - 1 → may_hold (get_or text 1 0) (length (line_bytes text) - 4) ≡ is_shaped text
      shape-kind n = sym (counted ∙ rw (le-leb 4 (length (line_bytes text)) room, eq-eqb (get_or (line_bytes text) 0 0) (length (line_bytes text) - 1) n))
