-- What is refused changes nothing.
-- Assumes nothing.
use Rattle.std.proofs.Common.{◌≡◌, ℕ, Bool, true, false, eqb, ltb, List, length, refl, Err, Ok}
use Rattle.srecord.specs.File.{loaded_of, memory_loaded}
use Rattle.srecord.specs.Written.{text_for, output_written, output_after}
use Rattle.srecord.specs.Promises.{RefusedKeeps}
use Rattle.answers.specs.declared.Refusal.{Refusal}

memory_kept : (mem file : List ℕ) (r : Refusal) → loaded_of mem file ≡ Err r → memory_loaded mem file ≡ mem
unfolding memory_loaded
memory_kept mem file r e = rw e

module _ (mem : List ℕ) (a : ℕ) (out : List ℕ) where
  short : eqb (length mem) 65536 ≡ false → output_after mem a out ≡ out
  unfolding output_after
  short e = rw e

  narrow : eqb (length mem) 65536 ≡ true → ltb (length out) (length (text_for mem a)) ≡ true → output_after mem a out ≡ out
  unfolding output_after
  narrow e f = rw (e, f)

  wide : eqb (length mem) 65536 ≡ true → ltb (length out) (length (text_for mem a)) ≡ false → output_written mem a out ≡ Ok (length (text_for mem a))
  unfolding output_written
  wide e f = rw (e, f)

  output-kept : (r : Refusal) → output_written mem a out ≡ Err r → output_after mem a out ≡ out
  output-kept r h = go (eqb (length mem) 65536) refl (ltb (length out) (length (text_for mem a))) refl
    where
      go : (u : Bool) → eqb (length mem) 65536 ≡ u → (v : Bool) → ltb (length out) (length (text_for mem a)) ≡ v → output_after mem a out ≡ out
      go false p v q = short p
      go true p true q = narrow p q
      go true p false q = let d = wide p q in cc

pub refused-keeps : RefusedKeeps
refused-keeps = record { memory = memory_kept; output = output-kept }
