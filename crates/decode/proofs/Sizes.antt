-- Each entry of the opcode map has the size of its prefix, its opcode and its operand bytes: one test that antt computes.
-- Assumes nothing.
use Rattle.std.proofs.Common.{◌≡◌, ℕ, ◌+◌, Bool, true, eqb, refl, eqb→eq, None, Option, Some}
use Rattle.opcodes.specs.Manual.{entry_of}
use Rattle.opcodes.specs.declared.Page.{Page}
use Rattle.opcodes.specs.declared.Page.TheVariants.{Plain, Ten, Eleven}
use Rattle.opcodes.specs.Rows.{values}
use Rattle.opcodes.proofs.Rows.{alike}
use Rattle.decode.specs.Operand.{operand_bytes}
use Rattle.decode.specs.Laws.{prefix_bytes, SizedAt, EntrySizes}
use Rattle.opcodes.specs.declared.Entry.{Entry}

sized : Page → Option Entry → Bool
sized page (Some e) = eqb e.size (prefix_bytes page + 1 + operand_bytes e.mode)
sized page None = true

all-sized : (page : Page) → values (λ (code : ℕ). sized page (entry_of page code)) 0 256 ≡ values (λ (code : ℕ). true) 0 256
unfolding sized entry_of
all-sized Plain = refl
all-sized Ten = refl
all-sized Eleven = refl

so : (page : Page) (p : Option Entry) → sized page p ≡ true → SizedAt page p
unfolding sized
so page (Some e) t = eqb→eq e.size (prefix_bytes page + 1 + operand_bytes e.mode) (rw t tt)
so page None t = tt

pub entry-sizes : EntrySizes
entry-sizes page code l =
    so page (entry_of page code) (alike (λ (code : ℕ). sized page (entry_of page code)) (λ (code : ℕ). true) 256 (all-sized page) code l)
