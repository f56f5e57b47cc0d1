-- No second answer fits a public function's contract.
-- Assumes nothing.
use mathlib.Core.Path.{refl, sym, ◌∙◌}
use Rattle.answers.proofs.Determined.{Determines}
use Rattle.whole.proofs

pub add : Determines 0 proofs.bytes.add.Kinds.ps proofs.bytes.add.Kinds.r proofs.bytes.add.Reads.Post
add κs a x y ws vs p q = (p ∙ sym q, refl)

pub and : Determines 0 proofs.bytes.and.Kinds.ps proofs.bytes.and.Kinds.r proofs.bytes.and.Reads.Post
and κs a x y ws vs p q = (p ∙ sym q, refl)

pub clear : Determines 0 proofs.bytes.clear.Kinds.ps proofs.bytes.clear.Kinds.r proofs.bytes.clear.Reads.Post
clear κs a x y ws vs p q = (p ∙ sym q, refl)

pub compare : Determines 0 proofs.bytes.compare.Kinds.ps proofs.bytes.compare.Kinds.r proofs.bytes.compare.Reads.Post
compare κs a x y ws vs p q = (p ∙ sym q, refl)

pub complement : Determines 0 proofs.bytes.complement.Kinds.ps proofs.bytes.complement.Kinds.r proofs.bytes.complement.Reads.Post
complement κs a x y ws vs p q = (p ∙ sym q, refl)

pub decimal-adjust : Determines 0 proofs.bytes.decimal_adjust.Kinds.ps proofs.bytes.decimal_adjust.Kinds.r proofs.bytes.decimal_adjust.Reads.Post
decimal-adjust κs a x y ws vs p q = (p ∙ sym q, refl)

pub decrement : Determines 0 proofs.bytes.decrement.Kinds.ps proofs.bytes.decrement.Kinds.r proofs.bytes.decrement.Reads.Post
decrement κs a x y ws vs p q = (p ∙ sym q, refl)

pub exclusive-or : Determines 0 proofs.bytes.exclusive_or.Kinds.ps proofs.bytes.exclusive_or.Kinds.r proofs.bytes.exclusive_or.Reads.Post
exclusive-or κs a x y ws vs p q = (p ∙ sym q, refl)

pub increment : Determines 0 proofs.bytes.increment.Kinds.ps proofs.bytes.increment.Kinds.r proofs.bytes.increment.Reads.Post
increment κs a x y ws vs p q = (p ∙ sym q, refl)

pub load : Determines 0 proofs.bytes.load.Kinds.ps proofs.bytes.load.Kinds.r proofs.bytes.load.Reads.Post
load κs a x y ws vs p q = (p ∙ sym q, refl)

pub negate : Determines 0 proofs.bytes.negate.Kinds.ps proofs.bytes.negate.Kinds.r proofs.bytes.negate.Reads.Post
negate κs a x y ws vs p q = (p ∙ sym q, refl)

pub or : Determines 0 proofs.bytes.or.Kinds.ps proofs.bytes.or.Kinds.r proofs.bytes.or.Reads.Post
or κs a x y ws vs p q = (p ∙ sym q, refl)

pub subtract : Determines 0 proofs.bytes.subtract.Kinds.ps proofs.bytes.subtract.Kinds.r proofs.bytes.subtract.Reads.Post
subtract κs a x y ws vs p q = (p ∙ sym q, refl)

pub test : Determines 0 proofs.bytes.test.Kinds.ps proofs.bytes.test.Kinds.r proofs.bytes.test.Reads.Post
test κs a x y ws vs p q = (p ∙ sym q, refl)

pub is_set : Determines 0 proofs.flags.is_set.Kinds.ps proofs.flags.is_set.Kinds.r proofs.flags.is_set.Reads.Post
is_set κs a x y ws vs p q = (p ∙ sym q, refl)

pub put : Determines 0 proofs.flags.put.Kinds.ps proofs.flags.put.Kinds.r proofs.flags.put.Reads.Post
put κs a x y ws vs p q = (p ∙ sym q, refl)

pub rotate_left : Determines 0 proofs.shifts.rotate_left.Kinds.ps proofs.shifts.rotate_left.Kinds.r proofs.shifts.rotate_left.Reads.Post
rotate_left κs a x y ws vs p q = (p ∙ sym q, refl)

pub rotate_right : Determines 0 proofs.shifts.rotate_right.Kinds.ps proofs.shifts.rotate_right.Kinds.r proofs.shifts.rotate_right.Reads.Post
rotate_right κs a x y ws vs p q = (p ∙ sym q, refl)

pub shift-left : Determines 0 proofs.shifts.shift_left.Kinds.ps proofs.shifts.shift_left.Kinds.r proofs.shifts.shift_left.Reads.Post
shift-left κs a x y ws vs p q = (p ∙ sym q, refl)

pub shift-right : Determines 0 proofs.shifts.shift_right.Kinds.ps proofs.shifts.shift_right.Kinds.r proofs.shifts.shift_right.Reads.Post
shift-right κs a x y ws vs p q = (p ∙ sym q, refl)

pub add_words : Determines 0 proofs.words.add_words.Kinds.ps proofs.words.add_words.Kinds.r proofs.words.add_words.Reads.Post
add_words κs a x y ws vs p q = (p ∙ sym q, refl)

pub compare-words : Determines 0 proofs.words.compare_words.Kinds.ps proofs.words.compare_words.Kinds.r proofs.words.compare_words.Reads.Post
compare-words κs a x y ws vs p q = (p ∙ sym q, refl)

pub multiply : Determines 0 proofs.words.multiply.Kinds.ps proofs.words.multiply.Kinds.r proofs.words.multiply.Reads.Post
multiply κs a x y ws vs p q = (p ∙ sym q, refl)

pub sign-extend : Determines 0 proofs.words.sign_extend.Kinds.ps proofs.words.sign_extend.Kinds.r proofs.words.sign_extend.Reads.Post
sign-extend κs a x y ws vs p q = (p ∙ sym q, refl)

pub subtract-words : Determines 0 proofs.words.subtract_words.Kinds.ps proofs.words.subtract_words.Kinds.r proofs.words.subtract_words.Reads.Post
subtract-words κs a x y ws vs p q = (p ∙ sym q, refl)

pub test_word : Determines 0 proofs.words.test_word.Kinds.ps proofs.words.test_word.Kinds.r proofs.words.test_word.Reads.Post
test_word κs a x y ws vs p q = (p ∙ sym q, refl)
