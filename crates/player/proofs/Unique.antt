-- No second count, and no second text, fits the contract of `play`, of `play_second` and of `boot`.
-- Assumes nothing.
use mathlib.Core.Path.{sym, ap, ◌∙◌}
use mathlib.Core.List.{List}
use Prim.Native.Nat.{ℕ}
use Rattle.answers.proofs.Determined.{Determines}
use Rattle.player.proofs.boots
use Rattle.player.proofs.plays

pub play : Determines 2 plays.play.Kinds.ps plays.play.Kinds.r plays.play.Reads.Post
play κs a x y ws vs p q = (p.0 ∙ sym q.0, ap (λ (l : List ℕ). (tt, (l, tt))) (p.1 ∙ sym q.1))

pub play-second : Determines 2 plays.play_second.Kinds.ps plays.play_second.Kinds.r plays.play_second.Reads.Post
play-second κs a x y ws vs p q = (p.0 ∙ sym q.0, ap (λ (l : List ℕ). (tt, (l, tt))) (p.1 ∙ sym q.1))

pub boot : Determines 2 boots.boot.Kinds.ps boots.boot.Kinds.r boots.boot.Reads.Post
boot κs a x y ws vs p q = (p.0 ∙ sym q.0, ap (λ (l : List ℕ). (tt, (l, tt))) (p.1 ∙ sym q.1))
