-- The twelve places of a list of writes: no call of `added` changes their number, so at most twelve writes are listed.
-- Assumes nothing.
use Rattle.std.proofs.Common.{◌≡◌, ◌+◌, ◌≤◌, Bool, true, false, cond, ltb, List, [], ◌∷◌, length, set, refl, ◌∙◌, arith, length-set, length-take}
use Rattle.memory.specs.Writes.{twelve, writes_of, listed, added, added_all}
use Rattle.memory.specs.declared.writes.Write.{Write}
use Rattle.memory.specs.declared.writes.Writes.{Writes}

pub record Full (w : Writes) : Type 0 where
  pub places : length w.list ≡ 12

pub none-full : Full (writes_of [])
unfolding twelve
none-full = record { places = refl }

pub added_full : (d : Writes) (w : Write) → Full d → Full (added d w)
unfolding added
added_full d w f = go (ltb d.count 12)
  where
    go : (t : Bool) → Full (cond t (record { count = d.count + 1; list = set d.list d.count w }) d)
    go true = record { places = length-set d.list d.count w ∙ f.places }
    go false = f

pub all-full : (d : Writes) (ws : List Write) → Full d → Full (added_all d ws)
all-full d [] f = f
all-full d (w ∷ ws) f = all-full (added d w) ws (added_full d w f)

pub at-most-twelve : (w : Writes) → Full w → length (listed w) ≤ 12
at-most-twelve w f = let e = f.places in simp length-take (omega arith)
