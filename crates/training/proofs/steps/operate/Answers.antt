-- The costs, the mark, the bytes read and the effect, each by its definition.
-- Assumes nothing.
use Rattle.cycles.specs.Cycles.{cycles_of}
use Rattle.training.proofs.steps.operate.Goals as goal

pub count_reads-reads-requires : goal.count_reads-reads-requires
count_reads-reads-requires c = c.requires

pub returns : goal.returns
unfolding cycles_of
returns c =
    rw (
      c.finish.ensures,
      c.evaluate-effect.ensures,
      c.count_reads-reads.ensures c.args.settings,
      c.arms-armed.ensures,
      c.cost-cycles.ensures,
      c.operand_extra.ensures,
      c.operation_extra-extra.ensures,
    )
