-- The engines agree. The second engine's functions are stated by the first's definitions, so that a contract of the one is a contract of the
-- other: no second answer fits it.
-- Assumes nothing.
use Rattle.calls.proofs.Unique as calls
use Rattle.journal.proofs.Unique as journal
use Rattle.runs.proofs.Unique as runs
use Rattle.agreement.specs.Agreement.{EnginesAgree}

pub engines-agree : EnginesAgree
engines-agree = record {
  plan = calls.plan-step;
  step = calls.step;
  recorded-step = journal.step;
  recorded-call = journal.call;
  run = runs.run;
}
