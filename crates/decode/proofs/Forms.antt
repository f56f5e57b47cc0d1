-- Offset bytes: none, in the arm that eight forms share, one, and two.
-- Assumes nothing.
use Rattle.std.proofs.Common.{◌≡◌, ℕ, ◌+◌, ◌*◌, ◌%◌, cond, leb, List, [], ◌∷◌, get_or, sym, refl, ap, ◌∙◌, subst, ⊎_elim, lit<, Err, Ok, Result}
use denote.Enum.Declared.{tag_of}
use types.Run.{OneOf}
use Rattle.memory.specs.Map.{byte_at}
use Rattle.answers.specs.declared.Refusal.TheVariants.{PastEnd}
use Rattle.decode.specs.Operand.{signed_byte, indexed_by, with_form}
use Rattle.decode.specs.declared.postbyte.Form.{Form}
use Rattle.decode.specs.declared.postbyte.Form.TheVariants.{Offset5, Increment1, Increment2, Decrement1, Decrement2, NoOffset, OffsetB, OffsetA, Offset8, Offset16, OffsetD, Program8, Program16, Address}
use Rattle.decode.proofs.Reaching.{unwrapped, both-unwrapped}
use Rattle.decode.specs.contracts.postbyte.Form.{the_type}
use Rattle.answers.specs.declared.Refusal.{Refusal}
use Rattle.decode.specs.declared.operand.Operand.{Operand}

-- the forms by their places in the declaration
abbrev form_at : ℕ → Form
form_at n = get_or (Offset5 ∷ Increment1 ∷ Increment2 ∷ Decrement1 ∷ Decrement2 ∷ NoOffset ∷ OffsetB ∷ OffsetA ∷ Offset8 ∷ Offset16 ∷ OffsetD ∷ Program8 ∷ Program16 ∷ Address ∷ []) n Offset5

placed : (f : Form) → form_at (tag_of the_type f) ≡ f
placed Offset5 = refl
placed Increment1 = refl
placed Increment2 = refl
placed Decrement1 = refl
placed Decrement2 = refl
placed NoOffset = refl
placed OffsetB = refl
placed OffsetA = refl
placed Offset8 = refl
placed Offset16 = refl
placed OffsetD = refl
placed Program8 = refl
placed Program16 = refl
placed Address = refl

-- what holds of each form at an arm's places holds of the form that took the arm
abbrev Each : (Form → Type 0) → List ℕ → Type 0
Each P [] = Unit {0}
Each P (k ∷ ks) = P (form_at k) × Each P ks

in-arm : (P : Form → Type 0) (k : ℕ) (ks : List ℕ) → Each P (k ∷ ks) → (f : Form) → OneOf (k ∷ ks) (tag_of the_type f) → P f
in-arm P k [] p f e = subst P (ap form_at (sym e) ∙ placed f) p.0
in-arm P k (j ∷ ks) p f e = ⊎_elim (λ d. subst P (ap form_at (sym d) ∙ placed f) p.0) (λ d. in-arm P j ks p.1 f d) e

module _ (mem : List ℕ) (post at : ℕ) (f : Form) where
  pub no_byte : OneOf (1 ∷ 2 ∷ 3 ∷ 4 ∷ 5 ∷ 6 ∷ 7 ∷ 10 ∷ []) (tag_of the_type f) → Ok (indexed_by f post 0, at) ≡ with_form f mem post at
  unfolding with_form
  no_byte =
      in-arm (λ g. Ok (indexed_by g post 0, at) ≡ with_form g mem post at) 1 (2 ∷ 3 ∷ 4 ∷ 5 ∷ 6 ∷ 7 ∷ 10 ∷ [])
      (refl, (refl, (refl, (refl, (refl, (refl, (refl, (refl, tt)))))))) f

  abbrev one : ℕ → Result (Operand × ℕ) Refusal
  one a = cond (leb (at + 1) 0x10000) (Ok (indexed_by f post (signed_byte (byte_at mem a)), at + 1)) (Err PastEnd)

  pub one_byte : one (at % 0x10000) ≡ one at
  one_byte = unwrapped (λ (a : ℕ). Ok (indexed_by f post (signed_byte (byte_at mem a)), at + 1)) (Err PastEnd) 1 at (lit< tt)

  abbrev two : ℕ → ℕ → Result (Operand × ℕ) Refusal
  two a b = cond (leb (at + 2) 0x10000) (Ok (indexed_by f post (256 * byte_at mem a + byte_at mem b), at + 2)) (Err PastEnd)

  pub two_bytes : two (at % 0x10000) ((at + 1) % 0x10000) ≡ two at (at + 1)
  two_bytes = both-unwrapped (λ (a b : ℕ). Ok (indexed_by f post (256 * byte_at mem a + byte_at mem b), at + 2)) (Err PastEnd) at
