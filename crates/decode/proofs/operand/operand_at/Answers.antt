-- An arm for each mode. The bytes are read before the test, at an address that wraps; within FFFF it is the address itself.
-- Assumes nothing.
use Rattle.std.proofs.Common.{ℕ, ◌+◌, ◌*◌, lit<, Err, Ok}
use Rattle.memory.specs.Map.{byte_at}
use Rattle.answers.specs.declared.Refusal.TheVariants.{PastEnd}
use Rattle.decode.specs.Operand.{signed_byte, operand_at}
use Rattle.decode.specs.declared.operand.Operand.TheVariants.{Immediate, Direct, Extended, Relative}
use Rattle.decode.proofs.Reaching.{unwrapped, both-unwrapped}
use Rattle.decode.proofs.operand.operand_at.Goals as goal

pub returns-in-Inherent : goal.returns-in-Inherent
unfolding operand_at
returns-in-Inherent c = rw c.in-Inherent.is

pub returns-in-Immediate8 : goal.returns-in-Immediate8
unfolding operand_at
returns-in-Immediate8 c =
    let x = c.args in
    rw (c.reaching.ensures, c.in-Immediate8.is)
    (unwrapped (λ (a : ℕ). Ok (Immediate a, x.at + 1)) (Err PastEnd) 1 x.at (lit< tt))

pub returns-in-Immediate16 : goal.returns-in-Immediate16
unfolding operand_at
returns-in-Immediate16 c =
    let x = c.args in
    rw (c.reaching-in-Immediate16.ensures, c.in-Immediate16.is)
    (unwrapped (λ (a : ℕ). Ok (Immediate a, x.at + 2)) (Err PastEnd) 2 x.at (lit< tt))

pub returns-in-Direct : goal.returns-in-Direct
unfolding operand_at
returns-in-Direct c =
    let x = c.args in
    rw (c.reaching-in-Direct.ensures, c.byte_at.ensures, c.in-Direct.is)
    (unwrapped (λ (a : ℕ). Ok (Direct (byte_at x.mem.now a), x.at + 1)) (Err PastEnd) 1 x.at (lit< tt))

pub returns-in-Indexed : goal.returns-in-Indexed
unfolding operand_at
returns-in-Indexed c = rw (c.indexed_at.ensures, c.in-Indexed.is)

pub returns-in-Extended : goal.returns-in-Extended
unfolding operand_at
returns-in-Extended c =
    let x = c.args in
    rw (c.reaching-in-Extended.ensures, c.word_at.ensures, c.in-Extended.is)
    (both-unwrapped (λ (a b : ℕ). Ok (Extended (256 * byte_at x.mem.now a + byte_at x.mem.now b), x.at + 2)) (Err PastEnd) x.at)

pub returns-in-Relative8 : goal.returns-in-Relative8
unfolding operand_at
returns-in-Relative8 c =
    let x = c.args in
    rw (c.reaching-in-Relative8.ensures, c.signed_byte.ensures, c.byte_at-in-Relative8.ensures, c.in-Relative8.is)
    (unwrapped (λ (a : ℕ). Ok (Relative (signed_byte (byte_at x.mem.now a)), x.at + 1)) (Err PastEnd) 1 x.at (lit< tt))

pub returns-in-Relative16 : goal.returns-in-Relative16
unfolding operand_at
returns-in-Relative16 c =
    let x = c.args in
    rw (c.reaching-in-Relative16.ensures, c.word_at-in-Relative16.ensures, c.in-Relative16.is)
    (both-unwrapped (λ (a b : ℕ). Ok (Relative (256 * byte_at x.mem.now a + byte_at x.mem.now b), x.at + 2)) (Err PastEnd) x.at)
