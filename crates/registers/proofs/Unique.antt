-- No second answer fits a public function's contract.
-- Assumes nothing.
use Rattle.std.proofs.Common.{sym, refl, ◌∙◌}
use Rattle.registers.specs.ConditionCodes.{told}
use Rattle.answers.proofs.Determined.{Determines, TellsOne}
use Rattle.registers.proofs.CCBit
use Rattle.registers.proofs.CCBits
use Rattle.registers.proofs.Name
use Rattle.registers.proofs.Word
use Rattle.registers.proofs.Index
use Rattle.registers.proofs.Stack
use Rattle.registers.proofs.Set
use Rattle.registers.proofs.names

pub info : TellsOne 1 CCBit.info.Kinds.ps CCBit.info.Kinds.r (λ κs i. told i) CCBit.info.Reads.Post
info κs a x y ws vs p q = (p ∙ sym q, refl)

pub to-str : TellsOne 1 Name.to_str.Kinds.ps Name.to_str.Kinds.r (λ κs s. s.now) Name.to_str.Reads.Post
to-str κs a x y ws vs p q = (p ∙ sym q, refl)

pub set-from-byte : Determines 0 CCBits.set_from_byte.Kinds.ps CCBits.set_from_byte.Kinds.r CCBits.set_from_byte.Reads.Post
set-from-byte κs a x y ws vs p q = (p ∙ sym q, refl)

pub or-with-byte : Determines 0 CCBits.or_with_byte.Kinds.ps CCBits.or_with_byte.Kinds.r CCBits.or_with_byte.Reads.Post
or-with-byte κs a x y ws vs p q = (p ∙ sym q, refl)

pub get-as-byte : Determines 0 CCBits.get_as_byte.Kinds.ps CCBits.get_as_byte.Kinds.r CCBits.get_as_byte.Reads.Post
get-as-byte κs a x y ws vs p q = (p ∙ sym q, refl)

pub set : Determines 0 CCBits.set.Kinds.ps CCBits.set.Kinds.r CCBits.set.Reads.Post
set κs a x y ws vs p q = (p ∙ sym q, refl)

pub is_set : Determines 0 CCBits.is_set.Kinds.ps CCBits.is_set.Kinds.r CCBits.is_set.Reads.Post
is_set κs a x y ws vs p q = (p ∙ sym q, refl)

pub add-u8 : Determines 0 CCBits.add_u8.Kinds.ps CCBits.add_u8.Kinds.r CCBits.add_u8.Reads.Post
add-u8 κs a x y ws vs p q = (p ∙ sym q, refl)

pub add-u16 : Determines 0 CCBits.add_u16.Kinds.ps CCBits.add_u16.Kinds.r CCBits.add_u16.Reads.Post
add-u16 κs a x y ws vs p q = (p ∙ sym q, refl)

pub sub-u8 : Determines 0 CCBits.sub_u8.Kinds.ps CCBits.sub_u8.Kinds.r CCBits.sub_u8.Reads.Post
sub-u8 κs a x y ws vs p q = (p ∙ sym q, refl)

pub sub-u16 : Determines 0 CCBits.sub_u16.Kinds.ps CCBits.sub_u16.Kinds.r CCBits.sub_u16.Reads.Post
sub-u16 κs a x y ws vs p q = (p ∙ sym q, refl)

pub dec-u8 : Determines 0 CCBits.dec_u8.Kinds.ps CCBits.dec_u8.Kinds.r CCBits.dec_u8.Reads.Post
dec-u8 κs a x y ws vs p q = (p ∙ sym q, refl)

pub inc-u8 : Determines 0 CCBits.inc_u8.Kinds.ps CCBits.inc_u8.Kinds.r CCBits.inc_u8.Reads.Post
inc-u8 κs a x y ws vs p q = (p ∙ sym q, refl)

pub tst-u8 : Determines 0 CCBits.tst_u8.Kinds.ps CCBits.tst_u8.Kinds.r CCBits.tst_u8.Reads.Post
tst-u8 κs a x y ws vs p q = (p ∙ sym q, refl)

pub tst-u16 : Determines 0 CCBits.tst_u16.Kinds.ps CCBits.tst_u16.Kinds.r CCBits.tst_u16.Reads.Post
tst-u16 κs a x y ws vs p q = (p ∙ sym q, refl)

pub and-u8 : Determines 0 CCBits.and_u8.Kinds.ps CCBits.and_u8.Kinds.r CCBits.and_u8.Reads.Post
and-u8 κs a x y ws vs p q = (p ∙ sym q, refl)

pub and-u16 : Determines 0 CCBits.and_u16.Kinds.ps CCBits.and_u16.Kinds.r CCBits.and_u16.Reads.Post
and-u16 κs a x y ws vs p q = (p ∙ sym q, refl)

pub or-u8 : Determines 0 CCBits.or_u8.Kinds.ps CCBits.or_u8.Kinds.r CCBits.or_u8.Reads.Post
or-u8 κs a x y ws vs p q = (p ∙ sym q, refl)

pub xor-u8 : Determines 0 CCBits.xor_u8.Kinds.ps CCBits.xor_u8.Kinds.r CCBits.xor_u8.Reads.Post
xor-u8 κs a x y ws vs p q = (p ∙ sym q, refl)

pub com-u8 : Determines 0 CCBits.com_u8.Kinds.ps CCBits.com_u8.Kinds.r CCBits.com_u8.Reads.Post
com-u8 κs a x y ws vs p q = (p ∙ sym q, refl)

pub neg-u8 : Determines 0 CCBits.neg_u8.Kinds.ps CCBits.neg_u8.Kinds.r CCBits.neg_u8.Reads.Post
neg-u8 κs a x y ws vs p q = (p ∙ sym q, refl)

pub cmp-u8 : Determines 0 CCBits.cmp_u8.Kinds.ps CCBits.cmp_u8.Kinds.r CCBits.cmp_u8.Reads.Post
cmp-u8 κs a x y ws vs p q = (p ∙ sym q, refl)

pub cmp-u16 : Determines 0 CCBits.cmp_u16.Kinds.ps CCBits.cmp_u16.Kinds.r CCBits.cmp_u16.Reads.Post
cmp-u16 κs a x y ws vs p q = (p ∙ sym q, refl)

pub shl-u8 : Determines 0 CCBits.shl_u8.Kinds.ps CCBits.shl_u8.Kinds.r CCBits.shl_u8.Reads.Post
shl-u8 κs a x y ws vs p q = (p ∙ sym q, refl)

pub shr-u8 : Determines 0 CCBits.shr_u8.Kinds.ps CCBits.shr_u8.Kinds.r CCBits.shr_u8.Reads.Post
shr-u8 κs a x y ws vs p q = (p ∙ sym q, refl)

pub rol-u8 : Determines 0 CCBits.rol_u8.Kinds.ps CCBits.rol_u8.Kinds.r CCBits.rol_u8.Reads.Post
rol-u8 κs a x y ws vs p q = (p ∙ sym q, refl)

pub ror-u8 : Determines 0 CCBits.ror_u8.Kinds.ps CCBits.ror_u8.Kinds.r CCBits.ror_u8.Reads.Post
ror-u8 κs a x y ws vs p q = (p ∙ sym q, refl)

pub mul : Determines 0 CCBits.mul.Kinds.ps CCBits.mul.Kinds.r CCBits.mul.Reads.Post
mul κs a x y ws vs p q = (p ∙ sym q, refl)

pub codes-reset : Determines 0 CCBits.reset.Kinds.ps CCBits.reset.Kinds.r CCBits.reset.Reads.Post
codes-reset κs a x y ws vs p q = (p ∙ sym q, refl)

pub reg-size : Determines 0 names.reg_size.Kinds.ps names.reg_size.Kinds.r names.reg_size.Reads.Post
reg-size κs a x y ws vs p q = (p ∙ sym q, refl)

pub set-register : Determines 0 Set.set_register.Kinds.ps Set.set_register.Kinds.r Set.set_register.Reads.Post
set-register κs a x y ws vs p q = (p ∙ sym q, refl)

pub get-register : Determines 0 Set.get_register.Kinds.ps Set.get_register.Kinds.r Set.get_register.Reads.Post
get-register κs a x y ws vs p q = (p ∙ sym q, refl)

pub set-reset : Determines 0 Set.reset.Kinds.ps Set.reset.Kinds.r Set.reset.Reads.Post
set-reset κs a x y ws vs p q = (p ∙ sym q, refl)

pub word-name : Determines 0 Word.name.Kinds.ps Word.name.Kinds.r Word.name.Reads.Post
word-name κs a x y ws vs p q = (p ∙ sym q, refl)

pub index_word : Determines 0 Index.word.Kinds.ps Index.word.Kinds.r Index.word.Reads.Post
index_word κs a x y ws vs p q = (p ∙ sym q, refl)

pub stack-word : Determines 0 Stack.word.Kinds.ps Stack.word.Kinds.r Stack.word.Reads.Post
stack-word κs a x y ws vs p q = (p ∙ sym q, refl)

pub other : Determines 0 Stack.other.Kinds.ps Stack.other.Kinds.r Stack.other.Reads.Post
other κs a x y ws vs p q = (p ∙ sym q, refl)

pub word : Determines 0 Set.word.Kinds.ps Set.word.Kinds.r Set.word.Reads.Post
word κs a x y ws vs p q = (p ∙ sym q, refl)

pub with-word : Determines 0 Set.with_word.Kinds.ps Set.with_word.Kinds.r Set.with_word.Reads.Post
with-word κs a x y ws vs p q = (p ∙ sym q, refl)

pub with-pc : Determines 0 Set.with_pc.Kinds.ps Set.with_pc.Kinds.r Set.with_pc.Reads.Post
with-pc κs a x y ws vs p q = (p ∙ sym q, refl)
