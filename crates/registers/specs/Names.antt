-- The registers' names, sizes and letters; and Word, Index and Stack, which name some of the registers, turned into names of the set.
-- Assumes nothing.
use Rattle.std.specs.Prelude.{ℕ, List}
use Rattle.registers.specs.ConditionCodes.{ascii}
use Rattle.registers.specs.declared.Name.{Name}
use Rattle.registers.specs.declared.Name.TheVariants.{A, B, D, X, Y, U, S, PC, DP, CC}
use Rattle.registers.specs.declared.Word.{Word}
use Rattle.registers.specs.declared.Word.TheVariants.{D as word_d, X as word_x, Y as word_y, U as word_u, S as word_s}
use Rattle.registers.specs.declared.Index.{Index}
use Rattle.registers.specs.declared.Index.TheVariants.{X as index_x, Y as index_y, U as index_u, S as index_s}
use Rattle.registers.specs.declared.Stack.{Stack}
use Rattle.registers.specs.declared.Stack.TheVariants.{S as stack_s, U as stack_u}

abbrev pub register_size : Name → ℕ
register_size A = 1
register_size B = 1
register_size D = 2
register_size X = 2
register_size Y = 2
register_size U = 2
register_size S = 2
register_size PC = 2
register_size DP = 1
register_size CC = 1

-- the letters of its name
abbrev pub register_text : Name → List ℕ
register_text A = ascii "A"
register_text B = ascii "B"
register_text D = ascii "D"
register_text X = ascii "X"
register_text Y = ascii "Y"
register_text U = ascii "U"
register_text S = ascii "S"
register_text PC = ascii "PC"
register_text DP = ascii "DP"
register_text CC = ascii "CC"

-- the registers of 16 bits that LD, ST and CMP name, as registers
abbrev pub word_name : Word → Name
word_name word_d = D
word_name word_x = X
word_name word_y = Y
word_name word_u = U
word_name word_s = S

-- the index registers, which a post-byte and LEA name
abbrev pub index_word : Index → Word
index_word index_x = word_x
index_word index_y = word_y
index_word index_u = word_u
index_word index_s = word_s

-- the stack pointers; PSHS and PULS may name U as a register, PSHU and PULU may name S
abbrev pub stack_word : Stack → Word
stack_word stack_s = word_s
stack_word stack_u = word_u

abbrev pub other_stack : Stack → Stack
other_stack stack_s = stack_u
other_stack stack_u = stack_s
