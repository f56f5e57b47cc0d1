-- An instruction has 1 to 5 bytes: a prefix, the opcode, and up to three bytes after it.
-- Assumes nothing.
use Rattle.std.proofs.Common.{◌≡◌, ℕ, ◌+◌, ◌≤◌, Bool, true, false, cond, leb, List, subst, arith, lit≤, Err, Ok, Result}
use Rattle.answers.specs.declared.Refusal.TheVariants.{PastEnd}
use Rattle.opcodes.specs.declared.Mode.{Mode}
use Rattle.opcodes.specs.declared.Mode.TheVariants.{Inherent, Immediate8, Immediate16, Direct, Indexed, Extended, Relative8, Relative16}
use Rattle.opcodes.specs.declared.Page.{Page}
use Rattle.opcodes.specs.declared.Page.TheVariants.{Plain, Ten, Eleven}
use Rattle.decode.specs.Laws.{prefix_bytes, SizedAt, offset_bytes_of, InstructionFits, DecodedFits}
use Rattle.decode.specs.Operand.{signed_byte, operand_number, operand_bytes, operand_at}
use Rattle.decode.specs.Origin.{Origin, OriginOf}
use Rattle.decode.specs.PostByte.{offset_bytes}
use Rattle.decode.specs.declared.operand.Operand.TheVariants.{Inherent as Nothing, Immediate as ByValue, Direct as InPage, Indexed as ByIndex, Extended as AtAddress, Relative as Branched}
use Rattle.decode.specs.declared.postbyte.Form.{Form}
use Rattle.decode.specs.declared.postbyte.Form.TheVariants.{Offset5, Increment1, Increment2, Decrement1, Decrement2, NoOffset, OffsetB, OffsetA, Offset8, Offset16, OffsetD, Program8, Program16, Address}
use Rattle.decode.proofs.Laws.{decode-fits}
use Rattle.decode.proofs.Origin.{decode-origin}
use Rattle.decode.proofs.Sizes.{entry-sizes}
use Rattle.disassembly.specs.Laws.{OneToFive}
use Rattle.answers.specs.declared.Refusal.{Refusal}
use Rattle.decode.specs.declared.operand.Operand.{Operand}

form-bytes : (f : Form) → offset_bytes f ≤ 2
form-bytes Offset5 = lit≤ tt
form-bytes Increment1 = lit≤ tt
form-bytes Increment2 = lit≤ tt
form-bytes Decrement1 = lit≤ tt
form-bytes Decrement2 = lit≤ tt
form-bytes NoOffset = lit≤ tt
form-bytes OffsetB = lit≤ tt
form-bytes OffsetA = lit≤ tt
form-bytes Offset8 = lit≤ tt
form-bytes Offset16 = lit≤ tt
form-bytes OffsetD = lit≤ tt
form-bytes Program8 = lit≤ tt
form-bytes Program16 = lit≤ tt
form-bytes Address = lit≤ tt

-- an operand's bytes, with the offset bytes of an indexed one, are at most three
abbrev Three : ℕ → Result (Operand × ℕ) Refusal → Type 0
Three n (Ok (o, next)) = n + offset_bytes_of o ≤ 3
Three n (Err x) = Unit {0}

by_index : (r : Result (Operand × ℕ) Refusal) → Three 1 r
by_index (Ok (Nothing, next)) = lit≤ tt
by_index (Ok (ByValue at, next)) = lit≤ tt
by_index (Ok (InPage low, next)) = lit≤ tt
by_index (Ok (ByIndex ix, next)) = omega (arith, form-bytes ix.form)
by_index (Ok (AtAddress at, next)) = lit≤ tt
by_index (Ok (Branched offset, next)) = lit≤ tt
by_index (Err x) = tt

module _ (mem : List ℕ) (at : ℕ) where
  tested : (n : ℕ) (t : Bool) (r : Result (Operand × ℕ) Refusal) → Three n r → Three n (cond t r (Err PastEnd))
  tested n true r h = h
  tested n false r h = tt

  three : (mode : Mode) → Three (operand_bytes mode) (operand_at mode mem at)
  unfolding operand_at
  three Inherent = lit≤ tt
  three Immediate8 = tested 1 (leb (at + 1) 0x10000) (Ok (ByValue at, at + 1)) (lit≤ tt)
  three Immediate16 = tested 2 (leb (at + 2) 0x10000) (Ok (ByValue at, at + 2)) (lit≤ tt)
  three Direct = tested 1 (leb (at + 1) 0x10000) (Ok (InPage (operand_number 1 mem at), at + 1)) (lit≤ tt)
  three Indexed = by_index (operand_at Indexed mem at)
  three Extended = tested 2 (leb (at + 2) 0x10000) (Ok (AtAddress (operand_number 2 mem at), at + 2)) (lit≤ tt)
  three Relative8 = tested 1 (leb (at + 1) 0x10000) (Ok (Branched (signed_byte (operand_number 1 mem at)), at + 1)) (lit≤ tt)
  three Relative16 = tested 2 (leb (at + 2) 0x10000) (Ok (Branched (operand_number 2 mem at), at + 2)) (lit≤ tt)

page-bytes : (page : Page) → prefix_bytes page ≤ 1
page-bytes Plain = lit≤ tt
page-bytes Ten = lit≤ tt
page-bytes Eleven = lit≤ tt

pub one-to-five : OneToFive
one-to-five mem pc i h k e =
    let o : Origin mem i = subst (OriginOf mem) e (decode-origin mem pc h) in
    let f : InstructionFits pc i = subst (DecodedFits pc) e (decode-fits mem pc h k) in
    let z : i.entry.size ≡ prefix_bytes o.page + 1 + operand_bytes i.entry.mode = subst (SizedAt o.page) o.entry (entry-sizes o.page o.code o.byte) in
    let t : operand_bytes i.entry.mode + offset_bytes_of i.operand ≤ 3 = subst (Three (operand_bytes i.entry.mode)) o.operand (three mem o.after i.entry.mode) in
    (omega (arith, f.length), omega (arith, f.length, page-bytes o.page))
