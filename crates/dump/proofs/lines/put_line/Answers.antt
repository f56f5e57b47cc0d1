-- Six parts, each right after the one before; each is short, so that no place is too far.
-- Assumes nothing.
use mathlib.Core.List.{[], ◌∷◌, ◌++◌}
use mathlib.Core.Path.{◌≡◌, ap}
use native.Mathlib.Omega.{arith}
use lib.ListN.{length}
use Rattle.text.specs.Lines.{line_feed}
use Rattle.dump.specs.Told.{spaced_line, shown_text, entry_line}
use Rattle.dump.proofs.Parts.{put-then, part-is, shown-short, named-short, line-is}
use Rattle.dump.proofs.lines.put_line.Goals as goal

pub put_text-second-requires : goal.put_text-second-requires
put_text-second-requires c = omega (arith, c.put-left.ensures.ends, shown-short c.shown_of-shown.result c.args.entry.left, c.put_text-first.ensures.ends, c.put_text-name.ensures.ends, ap length c.name_of.ensures, named-short c.args.entry.what)

pub put-right-requires : goal.put-right-requires
put-right-requires c = omega (arith, c.put_text-second.ensures.ends, c.put-left.ensures.ends, shown-short c.shown_of-shown.result c.args.entry.left, c.put_text-first.ensures.ends, c.put_text-name.ensures.ends, ap length c.name_of.ensures, named-short c.args.entry.what)

pub put_text-requires : goal.put_text-requires
put_text-requires c = omega (arith, c.put-right.ensures.ends, shown-short c.shown_of-shown.result c.args.entry.right, c.put_text-second.ensures.ends, c.put-left.ensures.ends, shown-short c.shown_of-shown.result c.args.entry.left, c.put_text-first.ensures.ends, c.put_text-name.ensures.ends, ap length c.name_of.ensures, named-short c.args.entry.what)

pub returns : goal.returns
unfolding spaced_line
returns c =
    let e = c.args.entry in
    let s = c.shown_of-shown.result in
    let line : c.name_of.result.now ++ (32 ∷ shown_text s e.left ++ (32 ∷ shown_text s e.right ++ (line_feed ∷ []))) ≡ entry_line e = rw (c.name_of.ensures, c.shown_of-shown.ensures) (line-is e) in
    part-is line (put-then c.put_text-name.ensures (put-then c.put_text-first.ensures (put-then c.put-left.ensures (put-then c.put_text-second.ensures (put-then c.put-right.ensures c.put_text.ensures)))))
