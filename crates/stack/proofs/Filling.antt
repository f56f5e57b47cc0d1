-- The list of writes of a push, filled register by register in the order of pushing.
-- Assumes nothing.
use Rattle.std.proofs.Common.{◌≡◌, ℕ, zero, suc, ◌+◌, ◌-◌, ◌*◌, ◌/◌, ◌%◌, ◌^◌, ◌<◌, ◌≤◌, Bool, true, false, cond, eqb, List, [], ◌∷◌, ◌++◌, length, get_or, take, drop, set, sym, refl, ap, ◌∙◌, append_assoc, append-nil, arith, length-append, take-append-drop, take-suc, drop-cons}
use Rattle.u8oru16.specs.Value.{value_of, size_of, low_byte}
use Rattle.registers.specs.ConditionCodes.{bit_at}
use Rattle.registers.specs.Names.{register_size}
use Rattle.registers.specs.RegisterSet.{read}
use Rattle.registers.specs.declared.Name.{Name}
use Rattle.registers.specs.declared.Name.TheVariants.{A, B, D, X, Y, U, S, PC, DP, CC}
use Rattle.registers.specs.declared.Set.{Set}
use Rattle.registers.specs.declared.Stack.{Stack}
use Rattle.registers.specs.declared.Stack.TheVariants.{S as on_s, U as on_u}
use Rattle.memory.specs.Writes.{twelve, writes_of, value_writes, word_writes}
use Rattle.memory.specs.declared.writes.Write.{Write}
use Rattle.memory.proofs.Folds.{place-more}
use Rattle.stack.specs.Pushing.{order, chosen, registers_named, bytes_pushed, pushes}

-- ---- sizes

abbrev pub size : List Name → ℕ
size [] = 0
size (name ∷ rest) = register_size name + size rest

size-append : (l m : List Name) → size (l ++ m) ≡ size l + size m
size-append [] m = omega arith
size-append (n ∷ l) m = omega (arith, size-append l m)

value-length : (at : ℕ) (r : Set) (name : Name) (system : Bool) → length (value_writes at (read r name) system) ≡ register_size name
value-length at r A system = refl
value-length at r B system = refl
value-length at r D system = refl
value-length at r X system = refl
value-length at r Y system = refl
value-length at r U system = refl
value-length at r S system = refl
value-length at r PC system = refl
value-length at r DP system = refl
value-length at r CC system = refl

pub read-size : (r : Set) (name : Name) → size_of (read r name) ≡ register_size name
read-size r A = refl
read-size r B = refl
read-size r D = refl
read-size r X = refl
read-size r Y = refl
read-size r U = refl
read-size r S = refl
read-size r PC = refl
read-size r DP = refl
read-size r CC = refl

pub pushes-length : (r : Set) (system : Bool) (pointer : ℕ) (l : List Name) → length (pushes r system pointer l) ≡ size l
unfolding pushes
pushes-length r system pointer [] = refl
pushes-length r system pointer (n ∷ l) =
    length-append (value_writes (pointer - register_size n) (read r n) system) (pushes r system (pointer - register_size n) l)
    ∙ rw (value-length (pointer - register_size n) r n system, pushes-length r system (pointer - register_size n) l)

pub pushes-more : (r : Set) (system : Bool) (pointer : ℕ) (l : List Name) (n : Name)
    → pushes r system pointer (l ++ (n ∷ [])) ≡ pushes r system pointer l ++ value_writes (pointer - size l - register_size n) (read r n) system
unfolding pushes
pushes-more r system pointer [] n =
    let e : pointer - 0 - register_size n ≡ pointer - register_size n = omega arith in
    rw e (append-nil (value_writes (pointer - register_size n) (read r n) system))
pushes-more r system pointer (m ∷ l) n =
    let at = pointer - register_size m in
    let e : pointer - (register_size m + size l) - register_size n ≡ at - size l - register_size n = omega arith in
    rw (pushes-more r system at l n, e) (sym (append_assoc (value_writes at (read r m) system) (pushes r system at l) (value_writes (at - size l - register_size n) (read r n) system)))

eight : (a b c d e f g h : ℕ) → 2 * a + (2 * b + (2 * c + (2 * d + (1 * e + (1 * f + (1 * g + (1 * h + 0))))))) ≡ 2 * (a + b + c + d) + (e + f + g + h)
eight a b c d e f g h = omega arith

at_most : (a b c d e f g h : ℕ) → a ≤ 1 → b ≤ 1 → c ≤ 1 → d ≤ 1 → e ≤ 1 → f ≤ 1 → g ≤ 1 → h ≤ 1 → 2 * (a + b + c + d) + (e + f + g + h) ≤ 12
at_most a b c d e f g h la lb lc ld le lf lg lh = omega arith

bit-at-most : (n : ℕ) → n % 2 ≤ 1
bit-at-most n = omega arith

pub few-bytes : (mask : ℕ) → bytes_pushed mask ≤ 12
few-bytes mask =
    at_most (mask / 128 % 2) (mask / 64 % 2) (mask / 32 % 2) (mask / 16 % 2) (mask / 8 % 2) (mask / 4 % 2) (mask / 2 % 2) (mask % 2)
    (bit-at-most (mask / 128)) (bit-at-most (mask / 64)) (bit-at-most (mask / 32)) (bit-at-most (mask / 16)) (bit-at-most (mask / 8)) (bit-at-most (mask / 4)) (bit-at-most (mask / 2)) (bit-at-most mask)

-- ---- those whose bit is set

module _ (mask : ℕ) where
  chosen-append : (l m : List (ℕ × Name)) → chosen mask (l ++ m) ≡ chosen mask l ++ chosen mask m
  unfolding chosen
  chosen-append [] m = refl
  chosen-append (s ∷ l) m = rw (chosen-append l m) (go (bit_at s.0 mask))
    where
      go : (b : Bool) → cond b (s.1 ∷ (chosen mask l ++ chosen mask m)) (chosen mask l ++ chosen mask m) ≡ cond b (s.1 ∷ chosen mask l) (chosen mask l) ++ chosen mask m
      go true = refl
      go false = refl

  pub chosen-within : (n : ℕ) (l : List (ℕ × Name)) → size (chosen mask (take n l)) ≤ size (chosen mask l)
  chosen-within n l =
      omega (arith, size-append (chosen mask (take n l)) (chosen mask (drop n l)), ap size (chosen-append (take n l) (drop n l)), ap (λ (m : List (ℕ × Name)). size (chosen mask m)) (take-append-drop n l))

  bit-size : (k : ℕ) (n : Name) (l : List (ℕ × Name)) → size (chosen mask ((k, n) ∷ l)) ≡ register_size n * (mask / 2 ^ k % 2) + size (chosen mask l)
  unfolding chosen bit_at
  bit-size k n l = go (mask / 2 ^ k % 2) (omega arith)
    where
      go : (d : ℕ) → d < 2 → size (cond (eqb d 1) (n ∷ chosen mask l) (chosen mask l)) ≡ register_size n * d + size (chosen mask l)
      go zero h = omega arith
      go (suc zero) h = omega arith
      go (suc (suc d)) h = absurd (omega arith)

  whole : mask / 1 % 2 ≡ mask % 2
  whole = omega arith

  none : size (chosen mask []) ≡ 0
  unfolding chosen
  none = refl

  -- a post-byte names as many bytes as `bytes_pushed` counts
  pub named-size : (stack : Stack) → size (registers_named stack mask) ≡ bytes_pushed mask
  named-size on_s =
      let l = order on_s in
      rw (bit-size 7 PC (drop 1 l), bit-size 6 U (drop 2 l), bit-size 5 Y (drop 3 l), bit-size 4 X (drop 4 l), bit-size 3 DP (drop 5 l), bit-size 2 B (drop 6 l), bit-size 1 A (drop 7 l), bit-size 0 CC [], none, whole)
      (eight (mask / 128 % 2) (mask / 64 % 2) (mask / 32 % 2) (mask / 16 % 2) (mask / 8 % 2) (mask / 4 % 2) (mask / 2 % 2) (mask % 2))
  named-size on_u =
      let l = order on_u in
      rw (bit-size 7 PC (drop 1 l), bit-size 6 S (drop 2 l), bit-size 5 Y (drop 3 l), bit-size 4 X (drop 4 l), bit-size 3 DP (drop 5 l), bit-size 2 B (drop 6 l), bit-size 1 A (drop 7 l), bit-size 0 CC [], none, whole)
      (eight (mask / 128 % 2) (mask / 64 % 2) (mask / 32 % 2) (mask / 16 % 2) (mask / 8 % 2) (mask / 4 % 2) (mask / 2 % 2) (mask % 2))

-- ---- what stands where in the order

abbrev pub name_at : Stack → ℕ → Name
name_at stack n = (get_or (order stack) n (0, CC)).1

pub bit-of : (stack : Stack) (n : ℕ) → n < 8 → (get_or (order stack) n (0, CC)).0 ≡ 7 - n
bit-of stack zero h = refl
bit-of stack (suc zero) h = refl
bit-of stack (suc (suc zero)) h = refl
bit-of stack (suc (suc (suc zero))) h = refl
bit-of stack (suc (suc (suc (suc zero)))) h = refl
bit-of stack (suc (suc (suc (suc (suc zero))))) h = refl
bit-of stack (suc (suc (suc (suc (suc (suc zero)))))) h = refl
bit-of stack (suc (suc (suc (suc (suc (suc (suc zero))))))) h = refl
bit-of stack (suc (suc (suc (suc (suc (suc (suc (suc n)))))))) h = absurd (omega arith)

-- what is named from bit k - 1 down
pub chosen-from : (mask : ℕ) (stack : Stack) (k : ℕ) → 0 < k → k ≤ 8
    → chosen mask (drop (8 - k) (order stack))
    ≡ cond (bit_at (k - 1) mask) (name_at stack (7 - (k - 1)) ∷ chosen mask (drop (8 - (k - 1)) (order stack))) (chosen mask (drop (8 - (k - 1)) (order stack)))
unfolding chosen
chosen-from mask stack k low high =
    let n = 8 - k in
    let next : suc n ≡ 8 - (k - 1) = omega arith in
    let same : 7 - (k - 1) ≡ n = omega arith in
    let bit : 7 - n ≡ k - 1 = omega arith in
    ap (chosen mask) (drop-cons (order stack) n (0, CC) (omega arith)) ∙ rw (bit-of stack n (omega arith), bit, same, ← next)

-- the first four are words, the last four bytes
pub record IsWord (r : Set) (name : Name) : Type 0 where
  pub size : register_size name ≡ 2
  pub written : (at : ℕ) (system : Bool) → value_writes at (read r name) system ≡ word_writes at (value_of (read r name)) system

pub record IsByte (r : Set) (name : Name) : Type 0 where
  pub size : register_size name ≡ 1
  pub written : (at : ℕ) (system : Bool) → value_writes at (read r name) system ≡ record { at = at; byte = value_of (read r name); system = system } ∷ []
  pub low : low_byte (read r name) ≡ value_of (read r name)

pub word_of : (r : Set) (stack : Stack) (n : ℕ) → n < 4 → IsWord r (name_at stack n)
word_of r stack zero h = record { size = refl; written = λ at system. refl }
word_of r on_s (suc zero) h = record { size = refl; written = λ at system. refl }
word_of r on_u (suc zero) h = record { size = refl; written = λ at system. refl }
word_of r stack (suc (suc zero)) h = record { size = refl; written = λ at system. refl }
word_of r stack (suc (suc (suc zero))) h = record { size = refl; written = λ at system. refl }
word_of r stack (suc (suc (suc (suc n)))) h = absurd (omega arith)

pub byte-of : (r : Set) (stack : Stack) (n : ℕ) → n < 4 → IsByte r (name_at stack (4 + n))
byte-of r stack zero h = record { size = refl; written = λ at system. refl; low = refl }
byte-of r stack (suc zero) h = record { size = refl; written = λ at system. refl; low = refl }
byte-of r stack (suc (suc zero)) h = record { size = refl; written = λ at system. refl; low = refl }
byte-of r stack (suc (suc (suc zero))) h = record { size = refl; written = λ at system. refl; low = refl }
byte-of r stack (suc (suc (suc (suc n)))) h = absurd (omega arith)

-- what bit 3, 2, 1 or 0 names is a byte
pub lowest : (r : Set) (stack : Stack) (k : ℕ) → 0 < k → k ≤ 4 → low_byte (read r (name_at stack (7 - (k - 1)))) ≡ value_of (read r (name_at stack (7 - (k - 1))))
lowest r stack k low high =
    let e : 7 - (k - 1) ≡ 4 + (4 - k) = omega arith in
    rw e (byte-of r stack (4 - k) (omega arith)).low

-- ---- the list while it is filled

two-placed : (ws : List Write) (a b : Write) (count : ℕ) → count ≡ length ws → count + 2 ≤ 12 → set (set (twelve ws) count a) (count + 1) b ≡ twelve (ws ++ (a ∷ b ∷ []))
two-placed ws a b count l few =
    let m : length ws + 1 ≡ length (ws ++ (a ∷ [])) = sym (length-append ws (a ∷ [])) in
    rw (l, place-more ws a (omega arith), m, place-more (ws ++ (a ∷ [])) b (omega arith)) (ap twelve (append_assoc ws (a ∷ []) (b ∷ [])))

module _ (r : Set) (stack : Stack) (pointer mask : ℕ) (system : Bool) where
  -- the writes of the first n registers of the order, as far as the post-byte names them
  abbrev pub first : ℕ → List Name
  first n = chosen mask (take n (order stack))

  pub record Filled (n : ℕ) (list : List Write) (count at : ℕ) : Type 0 where
    pub places : list ≡ twelve (pushes r system pointer (first n))
    pub many : count ≡ size (first n)
    pub low : at + count ≡ pointer

  pub empty : Filled 0 (twelve []) 0 pointer
  unfolding chosen pushes
  empty = record { places = refl; many = refl; low = omega arith }

  chosen-one : (n : ℕ) → n < 8 → first (suc n) ≡ first n ++ cond (bit_at (7 - n) mask) (name_at stack n ∷ []) []
  unfolding chosen
  chosen-one n h =
      ap (chosen mask) (take-suc (order stack) n (0, CC) h)
      ∙ (chosen-append mask (take n (order stack)) (get_or (order stack) n (0, CC) ∷ [])
      ∙ ap (λ (k : ℕ). first n ++ cond (bit_at k mask) (name_at stack n ∷ []) []) (bit-of stack n h))

  module _ (n : ℕ) (h : n < 8) (list : List Write) (count at : ℕ) (f : Filled n list count at) where
    off : bit_at (7 - n) mask ≡ false → Filled (suc n) list count at
    off b =
        let e : first (suc n) ≡ first n = chosen-one n h ∙ rw b (append-nil (first n)) in
        record { places = rw e f.places; many = rw e f.many; low = f.low }

    module _ (b : bit_at (7 - n) mask ≡ true) where
      one_more : first (suc n) ≡ first n ++ (name_at stack n ∷ [])
      one_more = chosen-one n h ∙ rw b

      -- the bytes of the register are among those that are counted
      room : count + register_size (name_at stack n) ≤ bytes_pushed mask
      room =
          omega (arith, f.many, size-append (first n) (name_at stack n ∷ []), ap size one_more, chosen-within mask (suc n) (order stack), named-size mask stack)

  -- the writes after one register more
  pushes-on : (n : ℕ) → n < 8 → (list : List Write) (count at : ℕ) → Filled n list count at → bit_at (7 - n) mask ≡ true → count + register_size (name_at stack n) ≤ pointer
      → pushes r system pointer (first (suc n)) ≡ pushes r system pointer (first n) ++ value_writes (at - register_size (name_at stack n)) (read r (name_at stack n)) system
  pushes-on n h list count at f b fits =
      let z = register_size (name_at stack n) in
      let e : pointer - size (first n) - z ≡ at - z = omega (arith, f.many, f.low) in
      ap (pushes r system pointer) (one_more n h list count at f b) ∙ (pushes-more r system pointer (first n) (name_at stack n) ∙ rw e)

  module _ (n : ℕ) (list : List Write) (count at : ℕ) (f : Filled n list count at) (b : bit_at (7 - n) mask ≡ true) (bounded : pointer < 65536) where
    -- a word is two writes more, its high byte first
    word_on : n < 4 → count + 2 ≤ 12 → count + 2 ≤ pointer → (w : ℕ) → w ≡ value_of (read r (name_at stack n))
        → Filled (suc n) (set (set list count (record { at = at - 2; byte = w / 256; system = system })) (count + 1) (record { at = at - 2 + 1; byte = w % 256; system = system })) (count + 2) (at - 2)
    word_on h few fits w ew =
        let k = word_of r stack n h in
        let h8 : n < 8 = omega arith in
        let ws = pushes r system pointer (first n) in
        let room : count + register_size (name_at stack n) ≤ pointer = rw k.size fits in
        let e : pushes r system pointer (first (suc n)) ≡ ws ++ word_writes (at - 2) w system = pushes-on n h8 list count at f b room ∙ rw (k.size, ew) (ap (λ (m : List Write). ws ++ m) (k.written (at - 2) system)) in
        let low : (at - 2 + 1) % 65536 ≡ at - 2 + 1 = omega (arith, f.low) in
        let l : count ≡ length ws = f.many ∙ sym (pushes-length r system pointer (first n)) in
        record {
          places = rw (e, low, f.places) (two-placed ws _ _ count l few);
          many = omega (arith, f.many, size-append (first n) (name_at stack n ∷ []), ap size (one_more n h8 list count at f b), k.size);
          low = omega (arith, f.low);
        }

    -- a byte is one write more
    byte-on : 4 ≤ n → n < 8 → count + 1 ≤ 12 → count + 1 ≤ pointer → (v : ℕ) → v ≡ value_of (read r (name_at stack n))
        → Filled (suc n) (set list count (record { at = at - 1; byte = v; system = system })) (count + 1) (at - 1)
    byte-on g h few fits v ev =
        let m : 4 + (n - 4) ≡ n = omega arith in
        let k : IsByte r (name_at stack n) = rw m at (byte-of r stack (n - 4) (omega arith)) in
        let ws = pushes r system pointer (first n) in
        let room : count + register_size (name_at stack n) ≤ pointer = rw k.size fits in
        let e : pushes r system pointer (first (suc n)) ≡ ws ++ (record { at = at - 1; byte = v; system = system } ∷ []) = pushes-on n h list count at f b room ∙ rw (k.size, ev) (ap (λ (m : List Write). ws ++ m) (k.written (at - 1) system)) in
        let l : count ≡ length ws = f.many ∙ sym (pushes-length r system pointer (first n)) in
        record {
          places = rw (e, f.places, l) (place-more ws _ (omega arith));
          many = omega (arith, f.many, size-append (first n) (name_at stack n ∷ []), ap size (one_more n h list count at f b), k.size);
          low = omega (arith, f.low);
        }

  -- ---- a turn of the loops: bit k - 1, after the bits from 7 down to k

  module _ (k : ℕ) (list : List Write) (count at : ℕ) (f : Filled (8 - k) list count at) (low : 0 < k) (high : k ≤ 8) where
    place : 7 - (8 - k) ≡ k - 1
    place = omega arith

    next : suc (8 - k) ≡ 8 - (k - 1)
    next = omega arith

    same : 7 - (k - 1) ≡ 8 - k
    same = omega arith

    pub turn-off : bit_at (k - 1) mask ≡ false → Filled (8 - (k - 1)) list count at
    turn-off b = rw next at (off (8 - k) (omega arith) list count at f (rw place b))

    module _ (b : bit_at (k - 1) mask ≡ true) (fits : bytes_pushed mask ≤ pointer) where
      in-room : count + register_size (name_at stack (8 - k)) ≤ pointer
      in-room = omega (arith, room (8 - k) (omega arith) list count at f (rw place b))

      pub word_room : 4 < k → count + 2 ≤ pointer
      word_room h = omega (arith, in-room, (word_of r stack (8 - k) (omega arith)).size)

      pub byte-room : k ≤ 4 → count + 1 ≤ pointer
      byte-room h =
          let m : 4 + (8 - k - 4) ≡ 8 - k = omega arith in
          let z : register_size (name_at stack (8 - k)) ≡ 1 = rw m at (byte-of r stack (8 - k - 4) (omega arith)).size in
          omega (arith, in-room)

      pub turn-word : 4 < k → pointer < 65536 → count + 2 ≤ 12 → (w : ℕ) → w ≡ value_of (read r (name_at stack (7 - (k - 1))))
          → Filled (8 - (k - 1)) (set (set list count (record { at = at - 2; byte = w / 256; system = system })) (count + 1) (record { at = at - 2 + 1; byte = w % 256; system = system })) (count + 2) (at - 2)
      turn-word h bounded few w e = rw next at (word_on (8 - k) list count at f (rw place b) bounded (omega arith) few (word_room h) w (rw same at e))

      pub turn_byte : k ≤ 4 → pointer < 65536 → count + 1 ≤ 12 → (v : ℕ) → v ≡ value_of (read r (name_at stack (7 - (k - 1))))
          → Filled (8 - (k - 1)) (set list count (record { at = at - 1; byte = v; system = system })) (count + 1) (at - 1)
      turn_byte h bounded few v e = rw next at (byte-on (8 - k) list count at f (rw place b) bounded (omega arith) (omega arith) few (byte-room h) v (rw same at e))

  -- at the end all are passed
  pub all-filled : (list : List Write) (count at : ℕ) → Filled 8 list count at → record { count = count; list = list } ≡ writes_of (pushes r system pointer (registers_named stack mask))
  all-filled list count at f = rw (f.places, f.many) (ap (λ (n : ℕ). record { count = n; list = twelve (pushes r system pointer (registers_named stack mask)) }) (sym (pushes-length r system pointer (registers_named stack mask))))
