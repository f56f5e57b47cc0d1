-- One write more: memory, the device writes, and the twelve places.
-- Assumes nothing.
use Rattle.std.proofs.Common.{◌≡◌, ℕ, suc, ◌+◌, ◌-◌, ◌<◌, ◌≤◌, false, cond, ◌&&◌, eqb, ltb, ◌⊎◌, List, [], ◌∷◌, ◌++◌, length, get_or, take, set, replicate, sym, refl, ap, ◌∙◌, ⊎_elim, append_assoc, append-nil, add-one, arith, length-append, length-set, length-take-le, take_all, get_or-set_other, take-suc, get_or-set_same, le-ltb, lt-ltb, eq-eqb, ne_eqb}
use native.Mathlib.Decide.{ℕ_discrete, dec_lt}
use lib.Seq.{set-append_seam, take-append_seam, set_out}
use Rattle.memory.specs.Map.{place_of, byte_at, landing_of}
use Rattle.memory.specs.Writes.{put_at, device_at, stored, reported, twelve, writes_of, added, listed}
use Rattle.memory.specs.declared.Landing.{Landing}
use Rattle.memory.specs.declared.Landing.TheVariants.{Stored, Device, Ignored}
use Rattle.memory.specs.declared.writes.Write.{Write}
use Rattle.memory.specs.declared.writes.Writes.{Writes}

length-put : (l : Landing) (b : ℕ) (mem : List ℕ) → length (put_at l b mem) ≡ length mem
length-put (Stored p) b mem = length-set mem p b
length-put Device b mem = refl
length-put Ignored b mem = refl

module _ (top : ℕ) where
  pub length-stored : (ws : List Write) (mem : List ℕ) → length (stored top ws mem) ≡ length mem
  unfolding stored
  length-stored [] mem = refl
  length-stored (w ∷ ws) mem = length-stored ws (put_at (landing_of w.at top w.system) w.byte mem) ∙ length-put (landing_of w.at top w.system) w.byte mem

  pub stored_more : (ws : List Write) (w : Write) (mem : List ℕ)
      → stored top (ws ++ (w ∷ [])) mem ≡ put_at (landing_of w.at top w.system) w.byte (stored top ws mem)
  unfolding stored
  stored_more [] w mem = refl
  stored_more (v ∷ ws) w mem = stored_more ws w (put_at (landing_of v.at top v.system) v.byte mem)

  pub reported-more : (ws : List Write) (w : Write)
      → reported top (ws ++ (w ∷ [])) ≡ reported top ws ++ device_at (landing_of w.at top w.system) w
  unfolding reported
  reported-more [] w = append-nil (device_at (landing_of w.at top w.system) w)
  reported-more (v ∷ ws) w =
      ap (λ (l : List Write). device_at (landing_of v.at top v.system) v ++ l) (reported-more ws w)
      ∙ sym (append_assoc (device_at (landing_of v.at top v.system) v) (reported top ws) (device_at (landing_of w.at top w.system) w))

  one_at_most : (l : Landing) (w : Write) → length (device_at l w) ≤ 1
  one_at_most (Stored p) w = omega arith
  one_at_most Device w = omega arith
  one_at_most Ignored w = omega arith

  pub reported-length : (ws : List Write) → length (reported top ws) ≤ length ws
  unfolding reported
  reported-length [] = omega arith
  reported-length (w ∷ ws) =
      let h = reported-length ws in
      let k = one_at_most (landing_of w.at top w.system) w in
      simp length-append (omega arith)

nothing : Write
nothing = record { at = 0; byte = 0; system = false }

-- the next of the twelve places
next_place : (l : List Write) (w : Write) (k : ℕ) → 12 - length l ≡ suc k → set (twelve l) (length l) w ≡ twelve (l ++ (w ∷ []))
unfolding twelve nothing
next_place l w k e =
    let f : 12 - length (l ++ (w ∷ [])) ≡ k = simp length-append (omega arith) in
    rw (e, f) (set-append_seam l nothing (replicate k nothing) w ∙ sym (append_assoc l (w ∷ []) (replicate k nothing)))

pub place-more : (l : List Write) (w : Write) → length l < 12 → set (twelve l) (length l) w ≡ twelve (l ++ (w ∷ []))
place-more l w h = next_place l w (11 - length l) (omega arith)

pub added_more : (l : List Write) (w : Write) → length l < 12 → added (writes_of l) w ≡ writes_of (l ++ (w ∷ []))
unfolding added
added_more l w h = rw (lt-ltb (length l) 12 h, place-more l w h, length-append l (w ∷ []))

-- a turn of the loop: the write at i, after the first i
module _ (top : ℕ) (list : List Write) (i : ℕ) (none : Write) (h : i < length list) where
  first : take (i + 1) list ≡ take i list ++ (get_or list i none ∷ [])
  first = rw add-one (take-suc list i none h)

  abbrev lands-at : Landing
  lands-at = landing_of (get_or list i none).at top (get_or list i none).system

  pub turn-mem : (mem₀ mem : List ℕ) → mem ≡ stored top (take i list) mem₀
      → put_at lands-at (get_or list i none).byte mem ≡ stored top (take (i + 1) list) mem₀
  turn-mem mem₀ mem e = rw (first, stored_more top (take i list) (get_or list i none) mem₀, e)

  pub turn-device : (d : Writes) → length list ≤ 12 → d ≡ writes_of (reported top (take i list)) → device_at lands-at (get_or list i none) ≡ get_or list i none ∷ []
      → added d (get_or list i none) ≡ writes_of (reported top (take (i + 1) list))
  turn-device d few e y =
      let short : length (reported top (take i list)) < 12 =
      omega (arith, reported-length top (take i list), length-take-le i list (omega arith)) in
      rw (first, reported-more top (take i list) (get_or list i none), e, y) (added_more (reported top (take i list)) (get_or list i none) short)

  pub turn-other : (d : Writes) → d ≡ writes_of (reported top (take i list)) → device_at lands-at (get_or list i none) ≡ []
      → d ≡ writes_of (reported top (take (i + 1) list))
  turn-other d e y =
      rw (first, reported-more top (take i list) (get_or list i none), e, y, append-nil (reported top (take i list)))

-- at the end of the loop: the first i are those that count
pub all-taken : (list : List Write) (i count : ℕ) → length list ≡ 12 → (i ≤ 12) × (i ≤ count) → (count ≤ i) ⊎ (12 ≤ i) → take i list ≡ take count list
all-taken list i count full h w =
    ⊎_elim (λ l. let e : i ≡ count = omega arith in rw e)
    (λ l. take_all i list (omega arith) ∙ sym (take_all count list (omega arith)))
    w

pub one-write : (a : Write) → added (writes_of []) a ≡ writes_of (a ∷ [])
one-write a = added_more [] a (omega arith)

pub two-writes : (a b : Write) → added (added (writes_of []) a) b ≡ writes_of (a ∷ b ∷ [])
two-writes a b = rw (one-write a) (added_more (a ∷ []) b (omega arith))

-- what is laid in the twelve places stands there
pub listed_back : (l : List Write) → listed (writes_of l) ≡ l
unfolding twelve
listed_back l = take-append_seam l _

-- a read after one write
over-set : (mem : List ℕ) (q p v : ℕ) → cond (eqb q p && ltb p (length mem)) v (get_or mem p 0) ≡ get_or (set mem q v) p 0
over-set mem q p v = go (ℕ_discrete q p) (dec_lt p (length mem))
  where
    go : Dec (q ≡ p) → Dec (p < length mem) → cond (eqb q p && ltb p (length mem)) v (get_or mem p 0) ≡ get_or (set mem q v) p 0
    go (yes e) (yes h) = rw (eq-eqb q p e, lt-ltb p (length mem) h, e) (sym (get_or-set_same mem p v 0 h))
    go (yes e) (no n) =
        let k : length mem ≤ p = omega arith in
        rw (eq-eqb q p e, le-ltb p (length mem) k, e, set_out mem p v k)
    go (no n) h = rw (ne_eqb q p n) (sym (get_or-set_other mem q p v 0 (λ e. n (sym e))))

-- the byte at place p, which was b, after v is written, by where the write lands
abbrev over_of : ℕ → ℕ → ℕ → Landing → ℕ → ℕ
over_of b p size (Stored q) v = cond (eqb q p && ltb p size) v b
over_of b p size Device v = b
over_of b p size Ignored v = b

read-put : (a : Landing) (v : ℕ) (mem : List ℕ) (at size : ℕ) → length mem ≡ size → over_of (byte_at mem at) (place_of at) size a v ≡ byte_at (put_at a v mem) at
unfolding byte_at
read-put (Stored q) v mem at size e = rw (← e) (over-set mem q (place_of at) v)
read-put Device v mem at size e = refl
read-put Ignored v mem at size e = refl

module _ (top : ℕ) (list : List Write) (i : ℕ) (none : Write) (h : i < length list) where
  pub turn-read : (mem : List ℕ) (at b r : ℕ) → b ≡ byte_at (stored top (take i list) mem) at
      → ((old : List ℕ) → length old ≡ length mem → b ≡ get_or old (place_of at) 0
      → r ≡ get_or (put_at (landing_of (get_or list i none).at top (get_or list i none).system) (get_or list i none).byte old) (place_of at) 0)
      → r ≡ byte_at (stored top (take (i + 1) list) mem) at
  unfolding byte_at
  turn-read mem at b r e f =
      rw (first top list i none h, stored_more top (take i list) (get_or list i none) mem)
      (f (stored top (take i list) mem) (length-stored top (take i list) mem) e)

-- a byte read after a list of writes: each that lands on its place is over it
abbrev pub after_all : ℕ → List Write → ℕ → ℕ → ℕ → ℕ
after_all top [] b p size = b
after_all top (w ∷ ws) b p size = after_all top ws (over_of b p size (landing_of w.at top w.system) w.byte) p size

pub read-stored : (top : ℕ) (ws : List Write) (mem : List ℕ) (at : ℕ) → byte_at (stored top ws mem) at ≡ after_all top ws (byte_at mem at) (place_of at) (length mem)
unfolding stored
read-stored top [] mem at = refl
read-stored top (w ∷ ws) mem at =
    let l = landing_of w.at top w.system in
    read-stored top ws (put_at l w.byte mem) at
    ∙ rw (length-put l w.byte mem, ← (read-put l w.byte mem at (length mem) refl))
