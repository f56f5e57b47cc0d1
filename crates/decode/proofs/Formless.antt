-- 5 and 24 are given exactly where an indexed instruction's post-byte is refused by them.
-- Assumes nothing.
use Rattle.std.proofs.Common.{◌≡◌, ℕ, zero, suc, ◌+◌, ◌<◌, Bool, true, false, cond, leb, ◌↔◌, List, sym, refl, ◌∙◌, true≢false, arith, le-leb, leb-true, Err, None, Ok, Option, Result, Some}
use Rattle.answers.specs.declared.Refusal.{Refusal}
use Rattle.answers.specs.declared.Refusal.TheVariants.{Opcode, PastEnd}
use Rattle.memory.specs.Map.{byte_at}
use Rattle.opcodes.specs.Manual.{entry_of}
use Rattle.opcodes.specs.declared.Entry.{Entry}
use Rattle.opcodes.specs.declared.Mode.{Mode}
use Rattle.opcodes.specs.declared.Mode.TheVariants.{Inherent, Immediate8, Immediate16, Direct, Indexed, Extended, Relative8, Relative16}
use Rattle.decode.specs.PostByte.{form_of, offset_bytes}
use Rattle.decode.specs.Operand.{signed_byte, operand_number, reading, offset_of, indexed_by, with_form, after_post_byte, operand_at}
use Rattle.decode.specs.Decode.{located, with_operand, decoded_as, from_located, decoded_at}
use Rattle.decode.specs.Laws.{NoFormAt, Formless, OfPostByte, PostByteRefused}
use Rattle.decode.specs.declared.operand.Operand.{Operand}
use Rattle.decode.specs.declared.operand.Operand.TheVariants.{Immediate as ByValue, Direct as InPage, Extended as AtAddress, Relative as Branch}
use Rattle.decode.proofs.Laws.{LocatedSo, located-so}
use Rattle.decode.specs.declared.postbyte.Form.{Form}
use Rattle.opcodes.specs.declared.Page.{Page}

module _ (x : Refusal) (h : OfPostByte x) where
  abbrev Bad : Result (Operand × ℕ) Refusal → Type 0
  Bad r = r ≡ Err x

  -- what is read, or refused by 4, is not refused so
  not-read : {o : Operand} {next : ℕ} → Bad (Ok (o, next)) → ⊥
  not-read e = let z : ◌≡◌ {A = ℕ} 0 1 = cc in omega arith

  not-past : Bad (Err PastEnd) → ⊥
  not-past e = let d : x ≡ PastEnd = cc in rw d at h

  tested : (t : Bool) (o : Operand) (next : ℕ) → Bad (cond t (Ok (o, next)) (Err PastEnd)) → ⊥
  tested true o next e = not-read e
  tested false o next e = not-past e

  not-by-form : (n : ℕ) (mem : List ℕ) (at : ℕ) (says : ℕ → Operand) → Bad (reading n mem at (λ v next. Ok (says v, next))) → ⊥
  not-by-form zero mem at says e = not-read e
  not-by-form (suc n) mem at says e = tested (leb (at + suc n) 0x10000) (says (operand_number (suc n) mem at)) (at + suc n) e

  module _ (mem : List ℕ) (at : ℕ) where
    formed : (p : Result Form Refusal) → (post next : ℕ) → Bad (after_post_byte p mem post next) ↔ (p ≡ Err x)
    unfolding with_form
    formed (Ok f) post next = (
      λ e. absurd (not-by-form (offset_bytes f) mem next (λ v. indexed_by f post (offset_of f post v)) e),
      λ e. let z : ◌≡◌ {A = ℕ} 0 1 = cc in absurd (omega arith),
    )
    formed (Err y) post next = (λ e. cc, λ e. cc)

    Here : Mode → Type 0
    Here mode = (mode ≡ Indexed) × (at < 0x10000) × (form_of (byte_at mem at) ≡ Err x)

    neither : (mode : Mode) → (Bad (operand_at mode mem at) → ⊥) → (mode ≡ Indexed → ⊥) → Bad (operand_at mode mem at) ↔ Here mode
    unfolding Here
    neither mode f g = (λ e. absurd (f e), λ k. absurd (g k.0))

    indexed : Bad (operand_at Indexed mem at) ↔ Here Indexed
    unfolding operand_at Here
    indexed = go (leb (at + 1) 0x10000) refl
      where
        post : ℕ
        post = byte_at mem at

        both : Bad (after_post_byte (form_of post) mem post (at + 1)) ↔ (form_of post ≡ Err x)
        both = formed (form_of post) post (at + 1)

        go : (t : Bool) → leb (at + 1) 0x10000 ≡ t → Bad (cond t (after_post_byte (form_of post) mem post (at + 1)) (Err PastEnd)) ↔ Here Indexed
        go true d = let l = leb-true (at + 1) 0x10000 d in (λ e. (refl, omega arith, both.0 e), λ k. both.1 k.2)
        go false d = (λ e. absurd (not-past e), λ k. absurd (true≢false (sym (le-leb (at + 1) 0x10000 (omega (arith, k.1))) ∙ d)))

    operand-bad : (mode : Mode) → Bad (operand_at mode mem at) ↔ Here mode
    unfolding operand_at
    operand-bad Inherent = neither Inherent (λ e. not-read e) (λ e. let z : ◌≡◌ {A = ℕ} 0 1 = cc in omega arith)
    operand-bad Immediate8 = neither Immediate8 (λ e. not-by-form 1 mem at (λ v. ByValue at) e) (λ e. let z : ◌≡◌ {A = ℕ} 0 1 = cc in omega arith)
    operand-bad Immediate16 = neither Immediate16 (λ e. not-by-form 2 mem at (λ v. ByValue at) e) (λ e. let z : ◌≡◌ {A = ℕ} 0 1 = cc in omega arith)
    operand-bad Direct = neither Direct (λ e. not-by-form 1 mem at (λ v. InPage v) e) (λ e. let z : ◌≡◌ {A = ℕ} 0 1 = cc in omega arith)
    operand-bad Indexed = indexed
    operand-bad Extended = neither Extended (λ e. not-by-form 2 mem at (λ v. AtAddress v) e) (λ e. let z : ◌≡◌ {A = ℕ} 0 1 = cc in omega arith)
    operand-bad Relative8 = neither Relative8 (λ e. not-by-form 1 mem at (λ v. Branch (signed_byte v)) e) (λ e. let z : ◌≡◌ {A = ℕ} 0 1 = cc in omega arith)
    operand-bad Relative16 = neither Relative16 (λ e. not-by-form 2 mem at (λ v. Branch v) e) (λ e. let z : ◌≡◌ {A = ℕ} 0 1 = cc in omega arith)

    with-operand : (e : Entry) (r : Result (Operand × ℕ) Refusal) → (with_operand e r ≡ Err x) ↔ Bad r
    with-operand e (Ok (o, next)) = (λ q. let z : ◌≡◌ {A = ℕ} 0 1 = cc in absurd (omega arith), λ q. absurd (not-read q))
    with-operand e (Err y) = (λ q. cc, λ q. cc)

    placed : (p : Option Entry) → (decoded_as p mem at ≡ Err x) ↔ NoFormAt x p mem at
    unfolding decoded_as Here
    placed (Some e) =
        let w = with-operand e (operand_at e.mode mem at) in
        let b = operand-bad e.mode in
        (λ q. b.0 (w.0 q), λ k. w.1 (b.1 k))
    placed None = (λ q. let d : x ≡ Opcode = cc in absurd (rw d at h), λ k. absurd k)

pub post-byte-refused : PostByteRefused
unfolding decoded_at
post-byte-refused x h mem pc = go (located mem pc) (located-so mem pc)
  where
    go : (l : Result (Page × ℕ × ℕ) Refusal) → LocatedSo mem pc l → (from_located l mem ≡ Err x) ↔ Formless x l mem
    go (Ok (page, code, at)) s = placed x h mem at (entry_of page code)
    go (Err y) s = (λ q. let d : x ≡ PastEnd = cc in absurd (rw d at h), λ k. absurd k)
