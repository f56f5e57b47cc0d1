-- `line_end`: no line feed before i, so that the line ends where one that starts at i does.
-- Assumes nothing.
use Rattle.std.proofs.Common.{◌≡◌, ◌<◌, length, arith}
use native.Mathlib.Decide.{dec_lt}
use Rattle.srecord.proofs.Scan.{end-found, end_on, end_none}
use Rattle.srecord.specs.File.{line_end}
use Rattle.srecord.proofs.file.line_end.Goals as goal

pub returns-then-file-i-eq10 : goal.returns-then-file-i-eq10
returns-then-file-i-eq10 c = omega (arith, end-found c.args.file.now c.loop-i.i c.loop-i-test.true c.if-file-i-eq10.true)

pub loop-i-preserved : goal.loop-i-preserved
loop-i-preserved c = omega (arith, end_on c.args.file.now c.loop-i.i c.loop-i-test.true c.if-file-i-eq10.false)

pub returns : goal.returns
returns c = go (dec_lt c.args.from (length c.args.file.now))
  where
    go : Dec (c.args.from < length c.args.file.now) → c.max.result ≡ line_end c.args.file.now c.args.from
    go (yes h) = omega (arith, end_none c.args.file.now c.loop-i.i c.loop-i-test.false)
    go (no n) = omega (arith, end_none c.args.file.now c.args.from (omega arith))
