-- 4 is given exactly where a byte of the instruction lies past FFFF.
-- Assumes nothing.
use Rattle.std.proofs.Common.{◌≡◌, ℕ, zero, suc, ◌+◌, ◌<◌, ◌≤◌, Bool, true, false, cond, eqb, ltb, leb, ◌⊎◌, ◌↔◌, List, refl, inl, inr, ⊎_elim, arith, ltb-false, ltb-true, eqb-true, leb-false, leb-true, Err, None, Ok, Option, Result, Some}
use borrow.Author.Tests.{eqb-false}
use Rattle.answers.specs.declared.Refusal.TheVariants.{PastEnd}
use Rattle.memory.specs.Map.{byte_at, low_at}
use Rattle.opcodes.specs.Manual.{entry_of}
use Rattle.opcodes.specs.declared.Entry.{Entry}
use Rattle.opcodes.specs.declared.Mode.{Mode}
use Rattle.opcodes.specs.declared.Mode.TheVariants.{Inherent, Immediate8, Immediate16, Direct, Indexed, Extended, Relative8, Relative16}
use Rattle.opcodes.specs.declared.Page.{Page}
use Rattle.opcodes.specs.declared.Page.TheVariants.{Plain, Ten, Eleven}
use Rattle.decode.specs.PostByte.{form_of, offset_bytes}
use Rattle.decode.specs.Operand.{signed_byte, operand_number, reading, offset_of, indexed_by, with_form, after_post_byte, operand_at}
use Rattle.decode.specs.Decode.{second_byte, located, with_operand, decoded_as, from_located, decoded_at}
use Rattle.decode.specs.Laws.{PrefixAtTop, offset_bytes_by, bytes_after, EndsPast, CutShort, BytesRefused}
use Rattle.decode.specs.declared.operand.Operand.{Operand}
use Rattle.decode.specs.declared.operand.Operand.TheVariants.{Immediate as ByValue, Direct as InPage, Extended as AtAddress, Relative as Branch}
use Rattle.decode.proofs.Sound.{FormSo, form-so}
use Rattle.answers.specs.declared.Refusal.{Refusal}
use Rattle.decode.specs.declared.postbyte.Form.{Form}

-- ---- the bytes after the opcode

abbrev Past : Result (Operand × ℕ) Refusal → Type 0
Past r = r ≡ Err PastEnd

not-read : {o : Operand} {next : ℕ} → Past (Ok (o, next)) → ⊥
not-read e = let z : ◌≡◌ {A = ℕ} 0 1 = cc in omega arith

tested : (at n : ℕ) (o : Operand) (next : ℕ) → Past (cond (leb (at + n) 0x10000) (Ok (o, next)) (Err PastEnd)) ↔ (0x10000 < at + n)
tested at n o next = go (leb (at + n) 0x10000) refl
  where
    go : (t : Bool) → leb (at + n) 0x10000 ≡ t → Past (cond t (Ok (o, next)) (Err PastEnd)) ↔ (0x10000 < at + n)
    go true d = let l = leb-true (at + n) 0x10000 d in (λ e. absurd (not-read e), λ h. absurd (omega arith))
    go false d = (λ e. leb-false (at + n) 0x10000 d, λ h. refl)

counted : (n : ℕ) (mem : List ℕ) (at : ℕ) (says : ℕ → Operand) → at ≤ 0x10000 → Past (reading n mem at (λ v next. Ok (says v, next))) ↔ (0x10000 < at + n)
counted zero mem at says l = (λ e. absurd (not-read e), λ h. absurd (omega arith))
counted (suc n) mem at says l = tested at (suc n) (says (operand_number (suc n) mem at)) (at + suc n)

module _ (mem : List ℕ) (at : ℕ) (l : at ≤ 0x10000) where
  formed : (p : Result Form Refusal) → FormSo p → (post : ℕ) → at + 1 ≤ 0x10000 → Past (after_post_byte p mem post (at + 1)) ↔ (0x10000 < at + (1 + offset_bytes_by p))
  unfolding with_form
  formed (Ok f) s post k =
      let b = counted (offset_bytes f) mem (at + 1) (λ v. indexed_by f post (offset_of f post v)) k in
      (λ e. omega (arith, b.0 e), λ h. b.1 (omega arith))
  formed (Err x) s post k = (λ e. let d : x ≡ PastEnd = cc in absurd (rw d at s), λ h. absurd (omega arith))

  indexed : Past (operand_at Indexed mem at) ↔ (0x10000 < at + bytes_after Indexed (byte_at mem at))
  unfolding operand_at
  indexed = go (leb (at + 1) 0x10000) refl
    where
      post : ℕ
      post = byte_at mem at

      go : (t : Bool) → leb (at + 1) 0x10000 ≡ t
          → Past (cond t (after_post_byte (form_of post) mem post (at + 1)) (Err PastEnd)) ↔ (0x10000 < at + (1 + offset_bytes_by (form_of post)))
      go true d = formed (form_of post) (form-so post) post (leb-true (at + 1) 0x10000 d)
      go false d = let k = leb-false (at + 1) 0x10000 d in (λ e. omega arith, λ h. refl)

  operand-past : (mode : Mode) → Past (operand_at mode mem at) ↔ (0x10000 < at + bytes_after mode (byte_at mem at))
  unfolding operand_at
  operand-past Inherent = (λ e. absurd (not-read e), λ h. absurd (omega arith))
  operand-past Immediate8 = counted 1 mem at (λ v. ByValue at) l
  operand-past Immediate16 = counted 2 mem at (λ v. ByValue at) l
  operand-past Direct = counted 1 mem at (λ v. InPage v) l
  operand-past Indexed = indexed
  operand-past Extended = counted 2 mem at (λ v. AtAddress v) l
  operand-past Relative8 = counted 1 mem at (λ v. Branch (signed_byte v)) l
  operand-past Relative16 = counted 2 mem at (λ v. Branch v) l

  with-operand : (e : Entry) (r : Result (Operand × ℕ) Refusal) → (with_operand e r ≡ Err PastEnd) ↔ Past r
  with-operand e (Ok (o, next)) = (λ q. let z : ◌≡◌ {A = ℕ} 0 1 = cc in absurd (omega arith), λ q. absurd (not-read q))
  with-operand e (Err x) = (λ q. cc, λ q. cc)

  placed : (p : Option Entry) → (decoded_as p mem at ≡ Err PastEnd) ↔ EndsPast p mem at
  unfolding decoded_as
  placed (Some e) =
      let w = with-operand e (operand_at e.mode mem at) in
      let b = operand-past e.mode in
      (λ q. b.0 (w.0 q), λ h. w.1 (b.1 h))
  placed None = (λ q. let z : ◌≡◌ {A = ℕ} 0 1 = cc in absurd (omega arith), λ h. absurd h)

-- ---- the opcode's own bytes

abbrev Split : List ℕ → ℕ → Result (Page × ℕ × ℕ) Refusal → Type 0
Split mem pc (Ok (page, code, at)) = (PrefixAtTop mem pc → ⊥) × (at ≤ 0x10000)
Split mem pc (Err x) = (x ≡ PastEnd) × PrefixAtTop mem pc

module _ (mem : List ℕ) (pc : ℕ) (l : pc < 65536) where
  second : (page : Page) → (byte_at mem pc ≡ 0x10) ⊎ (byte_at mem pc ≡ 0x11) → Split mem pc (second_byte page mem pc)
  second page w = go (ltb pc 0xFFFF) refl
    where
      go : (t : Bool) → ltb pc 0xFFFF ≡ t → Split mem pc (cond t (Ok (page, byte_at mem (low_at pc), pc + 2)) (Err PastEnd))
      go true e = let k = ltb-true pc 0xFFFF e in (λ p. omega (arith, p.1), omega arith)
      go false e = let k = ltb-false pc 0xFFFF e in (refl, (w, omega arith))

  split : Split mem pc (located mem pc)
  unfolding located
  split = go (eqb (byte_at mem pc) 0x10) refl (eqb (byte_at mem pc) 0x11) refl
    where
      go : (t : Bool) → eqb (byte_at mem pc) 0x10 ≡ t → (u : Bool) → eqb (byte_at mem pc) 0x11 ≡ u
          → Split mem pc (cond t (second_byte Ten mem pc) (cond u (second_byte Eleven mem pc) (Ok (Plain, byte_at mem pc, pc + 1))))
      go true d u e = second Ten (inl (eqb-true (byte_at mem pc) 0x10 d))
      go false d true e = second Eleven (inr (eqb-true (byte_at mem pc) 0x11 e))
      go false d false e = (λ p. ⊎_elim (eqb-false (byte_at mem pc) 0x10 d) (eqb-false (byte_at mem pc) 0x11 e) p.0, omega arith)

pub bytes-refused : BytesRefused
unfolding decoded_at
bytes-refused mem pc l = go (located mem pc) (split mem pc l)
  where
    go : (x : Result (Page × ℕ × ℕ) Refusal) → Split mem pc x → (from_located x mem ≡ Err PastEnd) ↔ (PrefixAtTop mem pc ⊎ CutShort x mem)
    go (Ok (page, code, at)) s =
        let p = placed mem at s.1 (entry_of page code) in
        (λ q. inr (p.0 q), λ h. ⊎_elim (λ k. absurd (s.0 k)) (λ k. p.1 k) h)
    go (Err x) s = (λ q. inl s.1, λ h. rw s.0 refl)
