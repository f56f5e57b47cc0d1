-- The fence: a list of writes passes exactly where all that it stores lies within the profile; with all allowed none is barred; profiles
-- that allow the same places judge alike.
-- Assumes nothing.
use Prim.Native.Nat.{ℕ, ◌<◌}
use mathlib.Core.Bool.{Bool, true, false, not, ◌||◌}
use mathlib.Core.List.{List, [], ◌∷◌}
use mathlib.Core.Path.{◌≡◌, refl, sym, ap, ◌∙◌}
use native.Mathlib.Omega.{arith}
use borrow.Author.Tests.{not-false, le-leb}
use lib.ListN.{get_or}
use lib.Seq.{get_or-set_other}
use Rattle.std.specs.List.{list_any}
use Rattle.memory.specs.Laws.{InMap}
use Rattle.memory.specs.Map.{within, landing_of}
use Rattle.memory.specs.Writes.{put_at, stored}
use Rattle.memory.specs.declared.Landing.{Landing}
use Rattle.memory.specs.declared.Landing.TheVariants.{Stored, Device, Ignored}
use Rattle.memory.specs.declared.writes.Write.{Write}
use Rattle.memory.proofs.Places.{stored-below}
use Rattle.machine.specs.Fence.{allows, everywhere, barred_at, barred, bars, Within, FencesHold, AllAllowed, AllowAlike, JudgeAlike}
use Rattle.machine.specs.declared.Settings.{Settings}
use Rattle.machine.specs.declared.fence.Range.{Range}

left : (a b : Bool) → (a || b) ≡ false → a ≡ false
left true b e = e
left false b e = refl

right : (a b : Bool) → (a || b) ≡ false → b ≡ false
right true b e = let z : ◌≡◌ {A = ℕ} 0 1 = cc in absurd (omega arith)
right false b e = e

-- ---- what `any` finds

pub any-allows : (rs : List Range) (p : ℕ) → list_any (λ (r : Range). within r.first r.last p) rs ≡ allows rs p
unfolding allows
any-allows [] p = refl
any-allows (r ∷ rs) p = ap (λ (t : Bool). within r.first r.last p || t) (any-allows rs p)

pub any-barred : (rs : List Range) (top : ℕ) (ws : List Write) → list_any (λ (w : Write). barred_at rs (landing_of w.at top w.system)) ws ≡ barred rs top ws
unfolding barred
any-barred rs top [] = refl
any-barred rs top (w ∷ ws) = ap (λ (t : Bool). barred_at rs (landing_of w.at top w.system) || t) (any-barred rs top ws)

-- ---- the laws

module _ (s : Settings) where
  abbrev lands : Write → Landing
  lands w = landing_of w.at s.ram_top w.system

  to : (ws : List Write) → bars s ws ≡ false → Within s ws
  unfolding barred
  to [] e = tt
  to (w ∷ ws) e = (
    λ p h. not-false (allows s.profile p) (sym (ap (barred_at s.profile) h) ∙ left (barred_at s.profile (lands w)) (bars s ws) e),
    to ws (right (barred_at s.profile (lands w)) (bars s ws) e),
  )

  from_at : (l m : Landing) → l ≡ m → ((p : ℕ) → l ≡ Stored p → allows s.profile p ≡ true) → barred_at s.profile m ≡ false
  from_at l (Stored p) e k = ap not (k p e)
  from_at l Device e k = refl
  from_at l Ignored e k = refl

  from : (ws : List Write) → Within s ws → bars s ws ≡ false
  unfolding barred
  from [] k = refl
  from (w ∷ ws) k = rw (from_at (lands w) (lands w) refl k.0) (from ws k.1)

  put-outside : (l : Landing) (b : ℕ) (mem : List ℕ) (k : ℕ) → barred_at s.profile l ≡ false → allows s.profile k ≡ false → get_or (put_at l b mem) k 0 ≡ get_or mem k 0
  put-outside (Stored p) b mem k e a =
      get_or-set_other mem p k b 0
      (λ q. let y : allows s.profile p ≡ true = not-false (allows s.profile p) e in let z : ◌≡◌ {A = ℕ} 0 1 = cc (ap (allows s.profile) q) in omega arith)
  put-outside Device b mem k e a = refl
  put-outside Ignored b mem k e a = refl

  outside : (ws : List Write) (mem : List ℕ) (k : ℕ) → bars s ws ≡ false → allows s.profile k ≡ false → get_or (stored s.ram_top ws mem) k 0 ≡ get_or mem k 0
  unfolding barred stored
  outside [] mem k e a = refl
  outside (w ∷ ws) mem k e a =
      outside ws (put_at (lands w) w.byte mem) k (right (barred_at s.profile (lands w)) (bars s ws) e) a
      ∙ put-outside (lands w) w.byte mem k (left (barred_at s.profile (lands w)) (bars s ws) e) a

pub fences-hold : FencesHold
fences-hold s ws = record { exactly = (to s ws, from s ws); outside = outside s ws }

everywhere-allows : (p : ℕ) → p < 0xFF00 → allows everywhere p ≡ true
unfolding allows
everywhere-allows p h = rw (le-leb 0 p (omega arith), le-leb p 0xFFFF (omega arith))

in_map : (at top : ℕ) (system : Bool) → at < 65536 → (l : Landing) → landing_of at top system ≡ l → barred_at everywhere l ≡ false
in_map at top system h (Stored p) e = ap not (everywhere-allows p (stored-below at top system p h e))
in_map at top system h Device e = refl
in_map at top system h Ignored e = refl

none-barred : (top : ℕ) (ws : List Write) → InMap ws → barred everywhere top ws ≡ false
unfolding barred
none-barred top [] k = refl
none-barred top (w ∷ ws) k = rw (in_map w.at top w.system k.0 (landing_of w.at top w.system) refl) (none-barred top ws k.1)

pub all-allowed : AllAllowed
all-allowed s ws e k = rw e (none-barred s.ram_top ws k)

module _ (p q : List Range) (a : AllowAlike p q) (top : ℕ) where
  alike_at : (l : Landing) → barred_at p l ≡ barred_at q l
  alike_at (Stored k) = ap not (a k)
  alike_at Device = refl
  alike_at Ignored = refl

  alike : (ws : List Write) → barred p top ws ≡ barred q top ws
  unfolding barred
  alike [] = refl
  alike (w ∷ ws) = rw (alike_at (landing_of w.at top w.system), alike ws)

pub judge-alike : JudgeAlike
judge-alike s t e a ws = rw e (alike s.profile t.profile a t.ram_top ws)
