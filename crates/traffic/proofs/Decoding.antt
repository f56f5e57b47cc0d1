-- Decoding and the address: two memories that agree at the program's bytes decode to the same instruction, and with the pointer's to the same address.
-- Assumes nothing.
use Rattle.std.specs.Prelude.{Err, None, Ok, Option, Result, Some}
use Prim.Native.Nat.{ℕ, zero, suc, ◌+◌, ◌%◌, ◌≤◌, ◌<◌}
use mathlib.Core.Bool.{Bool, true, false, cond}
use mathlib.Core.List.{List, []}
use mathlib.Core.Path.{◌≡◌, refl, sym, ap, subst, ◌∙◌}
use native.Mathlib.Decide.{dec_lt}
use native.Mathlib.Omega.{arith}
use borrow.Author.Tests.{lt-ltb, le-ltb}
use lib.Dec.{eqb, leb}
use Rattle.answers.specs.declared.Refusal.TheVariants.{PastEnd}
use Rattle.registers.specs.declared.Set.{Set}
use Rattle.memory.specs.Map.{byte_at, low_at}
use Rattle.opcodes.specs.Manual.{entry_of}
use Rattle.opcodes.specs.declared.Entry.{Entry}
use Rattle.opcodes.specs.declared.Mode.{Mode}
use Rattle.opcodes.specs.declared.Mode.TheVariants.{Inherent, Immediate8, Immediate16, Direct, Indexed, Extended, Relative8, Relative16}
use Rattle.opcodes.specs.declared.Page.{Page}
use Rattle.opcodes.specs.declared.Page.TheVariants.{Plain, Ten, Eleven}
use Rattle.decode.specs.Decode.{second_byte, located, with_operand, decoded_as, from_located, decoded_at}
use Rattle.decode.specs.Laws.{offset_bytes_of}
use Rattle.decode.specs.Operand.{operand_number, reading, with_form, after_post_byte, operand_bytes, operand_of, operand_at}
use Rattle.decode.specs.PostByte.{is_indirect, form_of, offset_bytes}
use Rattle.decode.specs.declared.instruction.Instruction.{Instruction}
use Rattle.decode.specs.declared.operand.Operand.{Operand}
use Rattle.decode.specs.declared.operand.Operand.TheVariants.{Inherent as Nothing, Immediate as ByValue, Direct as InPage, Indexed as ByIndex, Extended as AtAddress, Relative as ByOffset}
use Rattle.decode.specs.declared.postbyte.Form.{Form}
use Rattle.decode.proofs.Sound.{SoundRead, operand_sound}
use Rattle.addressing.specs.Address.{at_address, through_pointer, indexed_before, indexed_address, effective_of, advanced, resolved_of}
use Rattle.addressing.specs.declared.Addressed.{Addressed}
use Rattle.bus.specs.Reads.{bytes_from, pointer_reads}
use Rattle.traffic.specs.Laws.{AgreeAt}
use Rattle.traffic.proofs.Agreement.{Same, word-agrees}
use Rattle.answers.specs.declared.Refusal.{Refusal}

-- two constructors are never equal
no_operand : {A : Type 0} {x : Refusal} {o : Operand} {next : ℕ} → ◌≡◌ {A = Result (Operand × ℕ) Refusal} (Err x) (Ok (o, next)) → A
no_operand e = let z : ◌≡◌ {A = ℕ} 0 1 = cc in absurd (omega arith)

module _ (mem other : List ℕ) where
  -- ---- operand bytes

  number-agrees : (n at end : ℕ) → at + n ≤ end → Same mem other at end → operand_number n other at ≡ operand_number n mem at
  number-agrees zero at end l h = refl
  number-agrees (suc zero) at end l h = h at (omega arith) (omega arith)
  number-agrees (suc (suc n)) at end l h = rw (h at (omega arith) (omega arith), h (at + 1) (omega arith) (omega arith))

  reading-agrees : (n at end : ℕ) (says : ℕ → ℕ → (Result (Operand × ℕ) Refusal)) → at + n ≤ end → Same mem other at end → reading n other at says ≡ reading n mem at says
  reading-agrees zero at end says l h = refl
  reading-agrees (suc n) at end says l h =
      ap (λ (k : ℕ). cond (leb (at + suc n) 0x10000) (says k (at + suc n)) (Err PastEnd)) (number-agrees (suc n) at end l h)

  -- where the bytes end
  ends : (n at : ℕ) (f : ℕ → Operand) (o : Operand) (next : ℕ) → reading n mem at (λ k end. Ok (f k, end)) ≡ Ok (o, next) → next ≡ at + n
  ends zero at f o next e = let d : ◌≡◌ {A = Operand × ℕ} (f 0, at) (o, next) = cc in let k : at ≡ next = ap (λ (p : Operand × ℕ). p.1) d in omega arith
  ends (suc n) at f o next e = go (leb (at + suc n) 0x10000) e
    where
      go : (t : Bool) → cond {A = Result (Operand × ℕ) Refusal} t (Ok (f (operand_number (suc n) mem at), at + suc n)) (Err PastEnd) ≡ Ok (o, next) → next ≡ at + suc n
      go true q = let d : ◌≡◌ {A = Operand × ℕ} (f (operand_number (suc n) mem at), at + suc n) (o, next) = cc in sym (ap (λ (p : Operand × ℕ). p.1) d)
      go false q = no_operand q

  form-agrees : (form : Form) (post at : ℕ) (o : Operand) (next : ℕ) → with_form form mem post at ≡ Ok (o, next) → Same mem other at next → with_form form other post at ≡ Ok (o, next)
  unfolding with_form
  form-agrees form post at o next e h =
      let d = ends (offset_bytes form) at _ o next e in
      reading-agrees (offset_bytes form) at next _ (omega arith) h ∙ e

  post-byte-agrees : (p : Result Form Refusal) (post at : ℕ) (o : Operand) (next : ℕ) → after_post_byte p mem post at ≡ Ok (o, next) → Same mem other at next → after_post_byte p other post at ≡ Ok (o, next)
  post-byte-agrees (Ok form) post at o next e h = form-agrees form post at o next e h
  post-byte-agrees (Err x) post at o next e h = e

  -- an indexed operand: the post-byte, then what it asks for
  indexed-agrees : (at : ℕ) (o : Operand) (next : ℕ) → at + 1 ≤ next → operand_at Indexed mem at ≡ Ok (o, next) → Same mem other at next → operand_at Indexed other at ≡ Ok (o, next)
  unfolding operand_at
  indexed-agrees at o next l e h = rw (h at (omega arith) (omega arith)) (go (leb (at + 1) 0x10000) e)
    where
      go : (t : Bool)
          → cond t (after_post_byte (form_of (byte_at mem at)) mem (byte_at mem at) (at + 1)) (Err PastEnd) ≡ Ok (o, next)
          → cond t (after_post_byte (form_of (byte_at mem at)) other (byte_at mem at) (at + 1)) (Err PastEnd) ≡ Ok (o, next)
      go true q = post-byte-agrees (form_of (byte_at mem at)) (byte_at mem at) (at + 1) o next q (λ a p. h a (omega arith))
      go false q = q

  operand_agrees : (mode : Mode) (at : ℕ) (o : Operand) (next : ℕ) → operand_at mode mem at ≡ Ok (o, next) → Same mem other at next → operand_at mode other at ≡ Ok (o, next)
  unfolding operand_at
  operand_agrees mode at o next e h = go mode (subst (SoundRead mem at (operand_bytes mode)) e (operand_sound mem mode at)).length e
    where
      go : (mode : Mode) → next ≡ at + operand_bytes mode + offset_bytes_of o → operand_at mode mem at ≡ Ok (o, next) → operand_at mode other at ≡ Ok (o, next)
      go Inherent d q = q
      go Immediate8 d q = reading-agrees 1 at next (operand_of Immediate8 mem at) (omega arith) h ∙ q
      go Immediate16 d q = reading-agrees 2 at next (operand_of Immediate16 mem at) (omega arith) h ∙ q
      go Direct d q = reading-agrees 1 at next (operand_of Direct mem at) (omega arith) h ∙ q
      go Indexed d q = indexed-agrees at o next (omega arith) q h
      go Extended d q = reading-agrees 2 at next (operand_of Extended mem at) (omega arith) h ∙ q
      go Relative8 d q = reading-agrees 1 at next (operand_of Relative8 mem at) (omega arith) h ∙ q
      go Relative16 d q = reading-agrees 2 at next (operand_of Relative16 mem at) (omega arith) h ∙ q

  -- ---- the instruction

  module _ (i : Instruction) where
    -- its operand ends at the next address, and agreement up to there is enough
    record Decodes (p : Option Entry) (at : ℕ) : Type 0 where
      starts : at ≤ i.next
      agrees : Same mem other at i.next → decoded_as p other at ≡ Ok i

    of-operand : (e : Entry) (at : ℕ) (r : Result (Operand × ℕ) Refusal) → operand_at e.mode mem at ≡ r → with_operand e r ≡ Ok i → Decodes (Some e) at
    unfolding decoded_as
    of-operand e at (Ok (o, next)) q t =
        let d : record { entry = e; operand = o; next = next } ≡ i = cc in
        let n : next ≡ i.next = ap (λ (j : Instruction). j.next) d in
        let k = (subst (SoundRead mem at (operand_bytes e.mode)) q (operand_sound mem e.mode at)).length in
        record { starts = omega arith; agrees = λ h. ap (with_operand e) (operand_agrees e.mode at o next q (λ a p g. h a p (omega arith))) ∙ t }
    of-operand e at (Err x) q t = let z : ◌≡◌ {A = ℕ} 0 1 = cc in absurd (omega arith)

    of-place : (p : Option Entry) (at : ℕ) → decoded_as p mem at ≡ Ok i → Decodes p at
    unfolding decoded_as
    of-place (Some e) at t = of-operand e at (operand_at e.mode mem at) refl t
    of-place None at t = let z : ◌≡◌ {A = ℕ} 0 1 = cc in absurd (omega arith)

    -- by the first byte: a prefix, with the opcode after it, or the opcode itself
    module _ (pc : ℕ) where
      second : (page : Page) → from_located (second_byte page mem pc) mem ≡ Ok i → (pc < i.next) × (Same mem other pc i.next → from_located (second_byte page other pc) other ≡ Ok i)
      second page t = go (dec_lt pc 0xFFFF) t
        where
          go : Dec (pc < 0xFFFF) → from_located (second_byte page mem pc) mem ≡ Ok i → (pc < i.next) × (Same mem other pc i.next → from_located (second_byte page other pc) other ≡ Ok i)
          go (yes l) q =
              let d = of-place (entry_of page (byte_at mem (low_at pc))) (pc + 2) (rw (lt-ltb pc 0xFFFF l) at q) in
              let n = d.starts in
              let low : (pc + 1) % 65536 ≡ pc + 1 = omega arith in
              (omega arith, λ h. rw (lt-ltb pc 0xFFFF l, h (low_at pc) (omega arith) (omega arith)) (d.agrees (λ a p g. h a (omega arith) g)))
          go (no n) q =
              let k : Err PastEnd ≡ Ok i = rw (le-ltb pc 0xFFFF (omega arith)) at q in
              let z : ◌≡◌ {A = ℕ} 0 1 = cc in absurd (omega arith)

      pub decode-agrees : decoded_at mem pc ≡ Ok i → (pc < i.next) × (Same mem other pc i.next → decoded_at other pc ≡ Ok i)
      unfolding decoded_at located
      decode-agrees e = go (eqb (byte_at mem pc) 0x10) refl (eqb (byte_at mem pc) 0x11) refl
        where
          go : (t : Bool) → eqb (byte_at mem pc) 0x10 ≡ t → (u : Bool) → eqb (byte_at mem pc) 0x11 ≡ u → (pc < i.next) × (Same mem other pc i.next → decoded_at other pc ≡ Ok i)
          go true p u q =
              let d = second Ten (rw p at e) in
              (d.0, λ h. rw (h pc (omega arith) d.0, p) (d.1 h))
          go false p true q =
              let d = second Eleven (rw (p, q) at e) in
              (d.0, λ h. rw (h pc (omega arith) d.0, p, q) (d.1 h))
          go false p false q =
              let d = of-place (entry_of Plain (byte_at mem pc)) (pc + 1) (rw (p, q) at e) in
              let n = d.starts in
              (omega arith, λ h. rw (h pc (omega arith) (omega arith), p, q) (d.agrees (λ a l g. h a (omega arith) g)))

  -- ---- the address

  effective-agrees : (o : Operand) (r : Set) (next : ℕ) → AgreeAt mem other (pointer_reads o r next) → effective_of o other r next ≡ effective_of o mem r next
  unfolding indexed_address through_pointer
  effective-agrees (ByIndex ix) r next h = go (is_indirect ix.post) h
    where
      go : (t : Bool) → AgreeAt mem other (cond t (bytes_from (indexed_before r ix next).ea 2) [])
          → cond t (through_pointer other (indexed_before r ix next)) (indexed_before r ix next) ≡ cond t (through_pointer mem (indexed_before r ix next)) (indexed_before r ix next)
      go true k = ap (at_address (indexed_before r ix next).regs) (word-agrees mem other (indexed_before r ix next).ea k)
      go false k = refl
  effective-agrees Nothing r next h = refl
  effective-agrees (ByValue at) r next h = refl
  effective-agrees (InPage low) r next h = refl
  effective-agrees (AtAddress at) r next h = refl
  effective-agrees (ByOffset offset) r next h = refl

  pub resolve-agrees : (o : Operand) (r : Set) (next : ℕ) → AgreeAt mem other (pointer_reads o r next) → resolved_of other r o next ≡ resolved_of mem r o next
  unfolding resolved_of
  resolve-agrees o r next h = ap (λ (a : Addressed). advanced a next) (effective-agrees o r next h)
