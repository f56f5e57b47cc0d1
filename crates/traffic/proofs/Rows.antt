-- Every worked example is what the definition counts: one list that antt computes.
-- Assumes nothing.
use mathlib.Core.Path.{refl}
use borrow.Author.Tests.{eq-eqb}
use lib.ListN.{length}
use Rattle.registers.specs.ConditionCodes.{bit_at}
use Rattle.memory.specs.Map.{place_of, byte_at, word_at, value_at, landing_of}
use Rattle.memory.specs.Writes.{stored, twelve, added}
use Rattle.machine.specs.Fence.{allows, barred}
use Rattle.opcodes.specs.Manual.{entry_of}
use Rattle.decode.specs.Decode.{located, decoded_as, decoded_at}
use Rattle.decode.specs.Operand.{with_form, operand_at}
use Rattle.decode.specs.PostByte.{is_indirect, form_of, index_of, five_bits}
use Rattle.addressing.specs.Address.{through_pointer, indexed_address, resolved_of}
use Rattle.operations.specs.EightBit.{on_memory}
use Rattle.operations.specs.Transfers.{transferable, transfer, exchange}
use Rattle.operations.specs.Words.{store16}
use Rattle.stack.specs.Frames.{framed}
use Rattle.stack.specs.Pushing.{chosen, pushes, pushed, jumped_to_subroutine}
use Rattle.vectors.specs.Service.{vectored}
use Rattle.vectors.specs.Waits.{waiting}
use Rattle.calls.specs.Steps.{decoded_to, reached, finished, step_plan}
use Rattle.calls.specs.Interrupts.{interrupt_plan}
use Rattle.calls.specs.Resets.{reset_plan}
use Rattle.bus.specs.Reads.{bytes_from, instruction_reads}
use Rattle.traffic.specs.Counts.{reads_of}
use Rattle.traffic.specs.Laws.{StepCounts}
use Rattle.traffic.specs.Rows.{EachWorked, CeilingsReached}

pub step_counts : StepCounts
unfolding reads_of step_plan reached
step_counts mem m s l w = rw (eq-eqb (length mem) 65536 l, w)

pub each-worked : EachWorked
unfolding reads_of instruction_reads bytes_from step_plan interrupt_plan reset_plan finished reached decoded_to resolved_of indexed_address through_pointer decoded_at located decoded_as operand_at with_form form_of is_indirect index_of five_bits entry_of byte_at place_of word_at value_at landing_of stored allows barred twelve added bit_at on_memory store16 framed chosen pushes pushed jumped_to_subroutine vectored waiting transferable transfer exchange
each-worked = refl

pub ceilings-reached : CeilingsReached
unfolding reads_of instruction_reads bytes_from step_plan interrupt_plan reset_plan finished reached decoded_to resolved_of indexed_address through_pointer decoded_at located decoded_as operand_at with_form form_of is_indirect index_of five_bits entry_of byte_at place_of word_at value_at landing_of stored allows barred twelve added bit_at on_memory store16 framed chosen pushes pushed jumped_to_subroutine vectored waiting transferable transfer exchange
ceilings-reached = record { reads = refl; writes = refl; together = refl; interrupt = refl }
