-- `inc_v` meets its contract.
-- Assumes nothing.
use Rattle.std.proofs.Common.{rules}
use Rattle.registers.proofs.Pages.{inc-after}
use Rattle.registers.specs.declared.Flags.TheVariants.{Bought, Manual}
use Rattle.registers.proofs.overflow.inc_v.Goals as goal

pub returns-in-Manual : goal.returns-in-Manual
returns-in-Manual c = λ cc. rw c.in-Manual.is (inc-after cc c.args.val 0 (search rules) Manual)

pub returns-in-Bought : goal.returns-in-Bought
returns-in-Bought c = λ cc. rw c.in-Bought.is (inc-after cc c.args.val 0 (search rules) Bought)
