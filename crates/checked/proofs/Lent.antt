-- By the contract that rattle generates of the lent step, the twin that is left is the one that the recorded step ends with. It stands here
-- and not in specs/, since it is said of the contract.
-- Assumes nothing.
use mathlib.Core.Path.{◌≡◌, ap}
use mathlib.Core.Logic.{∥∥₁_map}
use seplogic.Ra.Ura.{Ura}
use base.Logic.{SProp}
use contract.Monad.{Fun}
use prog.Memory.{Memory}
use prog.Routine.{Routine}
use types.Logic.{Logic}
use Rattle.machine.specs.declared.Settings.{Settings}
use Rattle.calls.specs.Calls.{step}
use Rattle.journal.specs.Recorded.{State, Ended, stepped}
use Rattle.lent.proofs.History.{Steps, tell-forward}

module _ {M : Type 1} {𝓤 : Ura M} (𝓛 : Logic 𝓤) (mem : Memory → SProp 𝓤) (run : Routine → Fun 𝓤) where
  pub twin-left : (t : Settings) (s : State) (e : Ended) → Steps 𝓛 mem run t s e → ∥ e.state.twin ≡ (stepped t s).state.twin ∥₁
  twin-left t s e m = ∥∥₁_map (tell-forward 𝓛 mem run (step t) s e m) (λ p. ap (λ (f : Ended). f.state.twin) p.0)
