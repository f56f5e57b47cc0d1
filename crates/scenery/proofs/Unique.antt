-- No second answer, and no second slice at exit, fits a public function's contract.
-- Assumes nothing.
use Rattle.std.proofs.Common.{ℕ, List, sym, refl, ap, ◌∙◌}
use mir.Syntax.{w64}
use mir.Val.{Fits}
use Rattle.answers.proofs.Determined.{Determines}
use Rattle.scenery.proofs.line
use Rattle.scenery.proofs.printed
use Rattle.scenery.proofs.start

-- ---- the numbers of a line, of any length

pub byte-at : (N : ℕ) (h : Fits w64 N) → Determines 2 (line.byte_at.Kinds.ps N h) (line.byte_at.Kinds.r N h) (line.byte_at.Reads.Post N h)
byte-at N h κs a x y ws vs p q = (p ∙ sym q, refl)

pub word-at : (N : ℕ) (h : Fits w64 N) → Determines 2 (line.word_at.Kinds.ps N h) (line.word_at.Kinds.r N h) (line.word_at.Reads.Post N h)
word-at N h κs a x y ws vs p q = (p ∙ sym q, refl)

pub long-at : (N : ℕ) (h : Fits w64 N) → Determines 2 (line.long_at.Kinds.ps N h) (line.long_at.Kinds.r N h) (line.long_at.Reads.Post N h)
long-at N h κs a x y ws vs p q = (p ∙ sym q, refl)

pub length-at : (N : ℕ) (h : Fits w64 N) → Determines 2 (line.length_at.Kinds.ps N h) (line.length_at.Kinds.r N h) (line.length_at.Reads.Post N h)
length-at N h κs a x y ws vs p q = (p.0 ∙ sym q.0, refl)

-- ---- what a scene starts with

pub flags-of : Determines 0 start.flags_of.Kinds.ps start.flags_of.Kinds.r start.flags_of.Reads.Post
flags-of κs a x y ws vs p q = (p ∙ sym q, refl)

pub wait-of : Determines 0 start.wait_of.Kinds.ps start.wait_of.Kinds.r start.wait_of.Reads.Post
wait-of κs a x y ws vs p q = (p ∙ sym q, refl)

pub interrupt-of : Determines 0 start.interrupt_of.Kinds.ps start.interrupt_of.Kinds.r start.interrupt_of.Reads.Post
interrupt-of κs a x y ws vs p q = (p ∙ sym q, refl)

pub registers-at : (N : ℕ) (h : Fits w64 N) → Determines 2 (start.registers_at.Kinds.ps N h) (start.registers_at.Kinds.r N h) (start.registers_at.Reads.Post N h)
registers-at N h κs a x y ws vs p q = (p ∙ sym q, refl)

pub put-one : Determines 1 start.put_one.Kinds.ps start.put_one.Kinds.r start.put_one.Reads.Post
put-one κs a x y ws vs p q = (refl, ap (λ (l : List ℕ). (l, (tt, (tt, tt)))) (p ∙ sym q))

pub fills : (N : ℕ) (h : Fits w64 N) → Determines 3 (start.fill.Kinds.ps N h) (start.fill.Kinds.r N h) (start.fill.Reads.Post N h)
fills N h κs a x y ws vs p q = (refl, ap (λ (l : List ℕ). (l, (tt, (tt, (tt, (tt, tt)))))) (p ∙ sym q))

-- the undos, and memory at exit
pub undo-all : Determines 2 start.undo_all.Kinds.ps start.undo_all.Kinds.r start.undo_all.Reads.Post
undo-all κs a x y ws vs p q = (p.0.result ∙ sym q.0.result, ap (λ (l : List ℕ). (l, (tt, (tt, tt)))) (p.0.memory-is ∙ sym q.0.memory-is))

-- ---- what is printed

pub byte-of : Determines 1 printed.byte_of.Kinds.ps printed.byte_of.Kinds.r printed.byte_of.Reads.Post
byte-of κs a x y ws vs p q = (p ∙ sym q, refl)

pub put-byte : Determines 1 printed.put_byte.Kinds.ps printed.put_byte.Kinds.r printed.put_byte.Reads.Post
put-byte κs a x y ws vs p q = (refl, ap (λ (l : List ℕ). (l, (tt, (tt, tt)))) (p ∙ sym q))

pub put-word : Determines 1 printed.put_word.Kinds.ps printed.put_word.Kinds.r printed.put_word.Reads.Post
put-word κs a x y ws vs p q = (refl, ap (λ (l : List ℕ). (l, (tt, (tt, tt)))) (p ∙ sym q))

pub put-bytes : Determines 2 printed.put_bytes.Kinds.ps printed.put_bytes.Kinds.r printed.put_bytes.Reads.Post
put-bytes κs a x y ws vs p q = (refl, ap (λ (l : List ℕ). (l, (tt, (tt, tt)))) (p ∙ sym q))

pub put-long : Determines 1 printed.put_long.Kinds.ps printed.put_long.Kinds.r printed.put_long.Reads.Post
put-long κs a x y ws vs p q = (refl, ap (λ (l : List ℕ). (l, (tt, (tt, tt)))) (p ∙ sym q))

pub put-decimal : Determines 1 printed.put_decimal.Kinds.ps printed.put_decimal.Kinds.r printed.put_decimal.Reads.Post
put-decimal κs a x y ws vs p q = (refl, ap (λ (l : List ℕ). (l, (tt, (tt, tt)))) (p ∙ sym q))

pub put-view : Determines 2 printed.put_view.Kinds.ps printed.put_view.Kinds.r printed.put_view.Reads.Post
put-view κs a x y ws vs p q = (refl, ap (λ (l : List ℕ). (l, (tt, (tt, (tt, tt))))) (p ∙ sym q))

pub put-sum : Determines 2 printed.put_sum.Kinds.ps printed.put_sum.Kinds.r printed.put_sum.Reads.Post
put-sum κs a x y ws vs p q = (refl, ap (λ (l : List ℕ). (l, (tt, (tt, tt)))) (p ∙ sym q))

pub put-devices : Determines 1 printed.put_devices.Kinds.ps printed.put_devices.Kinds.r printed.put_devices.Reads.Post
put-devices κs a x y ws vs p q = (refl, ap (λ (l : List ℕ). (l, (tt, (tt, tt)))) (p ∙ sym q))
