-- The fence (document 02, [14]): a profile of eight address ranges, given with the settings, outside which no byte may be stored.
-- Assumes nothing.
use Rattle.std.specs.Prelude.{ℕ, Bool, true, false, not, ◌||◌, List, [], ◌∷◌, ◌↔◌, ◌≡◌, get_or, replicate}
use Rattle.memory.specs.Laws.{InMap}
use Rattle.memory.specs.Map.{within, landing_of}
use Rattle.memory.specs.Writes.{stored}
use Rattle.memory.specs.declared.Landing.{Landing}
use Rattle.memory.specs.declared.Landing.TheVariants.{Stored, Device, Ignored}
use Rattle.memory.specs.declared.writes.Write.{Write}
use Rattle.machine.specs.declared.Settings.{Settings}
use Rattle.machine.specs.declared.fence.Range.{Range}

-- the place p lies in one of the ranges, which go from first to last, both included; a range is empty where first is above last
unfoldable pub allows : List Range → ℕ → Bool
allows [] p = false
allows (r ∷ rs) p = within r.first r.last p || allows rs p

-- the profile that allows all: 0000 to FFFF, then seven empty ranges
abbrev pub everywhere : List Range
everywhere = record { first = 0x0000; last = 0xFFFF } ∷ replicate 7 (record { first = 1; last = 0 })

-- a write is judged where it lands, after mapping: one that is ignored or goes to a device stores nothing
abbrev pub barred_at : List Range → Landing → Bool
barred_at rs (Stored p) = not (allows rs p)
barred_at rs Device = false
barred_at rs Ignored = false

-- one such write bars the list. System and program writes alike; that the same byte stands there already does not help
unfoldable pub barred : List Range → ℕ → List Write → Bool
barred rs top [] = false
barred rs top (w ∷ ws) = barred_at rs (landing_of w.at top w.system) || barred rs top ws

abbrev pub bars : Settings → List Write → Bool
bars s ws = barred s.profile s.ram_top ws

-- ---- laws

-- what is stored of a list of writes lies within the profile
abbrev pub Within : Settings → List Write → Type 0
Within s [] = Unit {0}
Within s (w ∷ ws) = ((p : ℕ) → landing_of w.at s.ram_top w.system ≡ Stored p → allows s.profile p ≡ true) × Within s ws

-- a list passes exactly where all that it stores lies within; and then each place outside keeps its byte
pub record FenceHolds (s : Settings) (ws : List Write) : Type 0 where
  pub exactly : (bars s ws ≡ false) ↔ Within s ws
  pub outside : (mem : List ℕ) (k : ℕ) → bars s ws ≡ false → allows s.profile k ≡ false → get_or (stored s.ram_top ws mem) k 0 ≡ get_or mem k 0

abbrev pub FencesHold : Type 0
FencesHold = (s : Settings) (ws : List Write) → FenceHolds s ws

-- with all allowed no write at an address of 16 bits is barred
abbrev pub AllAllowed : Type 0
AllAllowed = (s : Settings) (ws : List Write) → s.profile ≡ everywhere → InMap ws → bars s ws ≡ false

-- two profiles that allow the same places
abbrev pub AllowAlike : List Range → List Range → Type 0
AllowAlike p q = (k : ℕ) → allows p k ≡ allows q k

-- judge alike
abbrev pub JudgeAlike : Type 0
JudgeAlike =
    (s t : Settings) → s.ram_top ≡ t.ram_top → AllowAlike s.profile t.profile → (ws : List Write) → bars s ws ≡ bars t ws
