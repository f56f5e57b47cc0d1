-- Every text fits its buffer.
-- Assumes nothing.
use Prim.Native.Nat.{ℕ, ◌*◌, ◌≤◌}
use mathlib.Core.Bool.{Bool, true, false, cond, ◌&&◌}
use mathlib.Core.List.{List, [], ◌∷◌}
use mathlib.Core.Path.{◌≡◌, sym}
use native.Mathlib.Omega.{arith}
use lib.ListN.{length, length-append, replicate, length-replicate}
use Rattle.answers.specs.Numbers.{number_of}
use Rattle.answers.specs.declared.Refusal.TheVariants.{Malformed}
use Rattle.text.specs.Lines.{alone}
use Rattle.text.proofs.Texts.{alone-fits}
use Rattle.machine.specs.Record.{machine_of}
use Rattle.difference.specs.Differences.{Difference}
use Rattle.difference.specs.Compare.{as_entry}
use Rattle.difference.proofs.Whole.{ceiling}
use Rattle.dump.specs.Dumps.{is_dump, memory_in}
use Rattle.dump.specs.Told.{left_dump, right_dump, dump_differences, told_lines, differences_told, ToldFits}
use Rattle.dump.proofs.Parts.{line-short}

lines_fit : (ds : List Difference) → length (told_lines ds) ≤ 48 * length ds
unfolding told_lines
lines_fit [] = omega arith
lines_fit (d ∷ ds) = rw length-append (omega (arith, line-short (as_entry d), lines_fit ds))

either : (t : Bool) (a b : List ℕ) (n : ℕ) → length a ≤ n → length b ≤ n → length (cond t a b) ≤ n
either true a b n p q = p
either false a b n p q = q

pub told-fits : ToldFits
unfolding differences_told
told-fits input =
    let l = left_dump input in
    let r = right_dump input in
    either (is_dump l && is_dump r) (told_lines (dump_differences l r)) (alone (number_of Malformed)) (48 * 32781)
    (omega (arith, lines_fit (dump_differences l r), ceiling (machine_of l) (machine_of r) (memory_in l) (memory_in r)))
    (omega (arith, alone-fits (number_of Malformed)))

-- the length of an array that is too long to be counted
pub counted : (n : ℕ) → n ≡ length {A = ℕ} (replicate n 0)
counted n = sym (length-replicate n 0)
