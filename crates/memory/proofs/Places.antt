-- Where stores go: every place is below FF00, and a store changes its own place alone.
-- Assumes nothing.
use Rattle.std.proofs.Common.{◌≡◌, ℕ, ◌-◌, ◌<◌, ◌≤◌, Bool, true, false, not, ◌&&◌, ltb, ◌⊎◌, List, [], ◌∷◌, get_or, refl, ◌∙◌, inl, inr, arith, get_or-set_other}
use native.Mathlib.Decide.{dec_lt}
use Rattle.memory.specs.Laws.{StoredBelow, TopStays}
use Rattle.memory.specs.Map.{place_of, landing_of}
use Rattle.memory.specs.Writes.{put_at, stored}
use Rattle.memory.specs.declared.Landing.{Landing}
use Rattle.memory.specs.declared.Landing.TheVariants.{Stored, Device, Ignored}
use Rattle.memory.proofs.Ranges.{place-high, place-low, first-devices, unused, second-devices, above, kept}

-- a landing that, if it is a store, goes below FF00
abbrev Low : Landing → Type 0
Low (Stored p) = p < 0xFF00
Low Device = Unit
Low Ignored = Unit

low : (at top : ℕ) (system : Bool) → at < 65536 → Low (landing_of at top system)
low at top system l = go (dec_lt at 0xFF00) (dec_lt at 0xFF40) (dec_lt at 0xFFC0) (dec_lt at 0xFFE0)
  where
    judged : (at < 0xFF00) ⊎ (0xFFE0 ≤ at) → place_of at < 0xFF00 → (t : Bool) → (ltb top at && not system) ≡ t → Low (landing_of at top system)
    judged w p true e = rw (← (above at top system w e)) tt
    judged w p false e = rw (← (kept at top system w e)) p

    go : Dec (at < 0xFF00) → Dec (at < 0xFF40) → Dec (at < 0xFFC0) → Dec (at < 0xFFE0) → Low (landing_of at top system)
    go (yes a) b c d = judged (inl a) (rw (← (place-low at (omega arith))) a) (ltb top at && not system) refl
    go (no a) (yes b) c d = rw (← (first-devices at top system (omega arith) b)) tt
    go (no a) (no b) (yes c) d = rw (← (unused at top system (omega arith) c)) tt
    go (no a) (no b) (no c) (yes d) = rw (← (second-devices at top system (omega arith) d)) tt
    go (no a) (no b) (no c) (no d) =
        let h : 0xFFE0 ≤ at = omega arith in
        let p : at - 0x4000 < 0xFF00 = omega arith in
        judged (inr h) (rw (← (place-high at h l)) p) (ltb top at && not system) refl

pub stored-below : StoredBelow
stored-below at top system p l e = rw e at (low at top system l)

put_other : (l : Landing) (b k : ℕ) (mem : List ℕ) → Low l → 0xFF00 ≤ k → get_or (put_at l b mem) k 0 ≡ get_or mem k 0
put_other (Stored p) b k mem h g = get_or-set_other mem p k b 0 (omega arith)
put_other Device b k mem h g = refl
put_other Ignored b k mem h g = refl

pub top-stays : TopStays
unfolding stored
top-stays top [] mem k h g = refl
top-stays top (w ∷ ws) mem k h g =
    top-stays top ws (put_at (landing_of w.at top w.system) w.byte mem) k h.1 g
    ∙ put_other (landing_of w.at top w.system) w.byte k mem (low w.at top w.system h.0) g
