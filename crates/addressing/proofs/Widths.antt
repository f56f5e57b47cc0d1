-- Effective addresses, and the registers after addressing, fit their widths.
-- Assumes nothing.
use Rattle.std.proofs.Common.{◌≡◌, ℕ, ◌+◌, ◌%◌, ◌<◌, Bool, true, false, cond, leb, List, refl, mod-lt, arith, lit<, leb-true}
use Rattle.u8oru16.specs.declared.u8u16.TheVariants.{u16}
use Rattle.registers.specs.Fits.{Fits}
use Rattle.registers.specs.Names.{word_name, index_word}
use Rattle.registers.specs.RegisterSet.{word_of, with_word}
use Rattle.registers.specs.declared.Name.TheVariants.{PC}
use Rattle.registers.specs.declared.Word.{Word}
use Rattle.registers.specs.declared.Word.TheVariants.{D, X, Y, U, S}
use Rattle.registers.specs.declared.Set.{Set}
use Rattle.registers.proofs.Fits.{read_fits, written-fits}
use Rattle.memory.specs.Fits.{Bytes}
use Rattle.memory.proofs.Fits.{word_fits}
use Rattle.decode.specs.PostByte.{is_indirect, index_of}
use Rattle.decode.specs.declared.postbyte.Form.{Form}
use Rattle.decode.specs.declared.postbyte.Form.TheVariants.{Offset5, Increment1, Increment2, Decrement1, Decrement2, NoOffset, OffsetB, OffsetA, Offset8, Offset16, OffsetD, Program8, Program16, Address}
use Rattle.decode.specs.declared.operand.Indexed.{Indexed}
use Rattle.decode.specs.declared.operand.Operand.TheVariants.{Inherent as Nothing, Immediate as ByValue, Direct as InPage, Indexed as ByIndex, Extended as AtAddress, Relative as Branch}
use Rattle.addressing.specs.Address.{form_address, through_pointer, indexed_address, effective_of, advanced, resolved_of}
use Rattle.addressing.specs.Laws.{AddressedFits, ResolvedFits, EffectiveFits, ResolveFits}
use Rattle.addressing.specs.declared.Addressed.{Addressed}

module _ (r : Set) (f : Fits r) where
  pub register-fits : (w : Word) → word_of r w < 65536
  register-fits D = read_fits r f (word_name D)
  register-fits X = f.x
  register-fits Y = f.y
  register-fits U = f.u
  register-fits S = f.s

  pub changed-fits : (w : Word) (n : ℕ) → n < 65536 → Fits (with_word r w n)
  changed-fits w n h = written-fits r f (word_name w) (u16 n) h

  -- a sum that wraps leaves the registers
  summed : (n : ℕ) → AddressedFits (record { regs = r; ea = n % 65536 })
  summed n = record { registers = f; address = mod-lt n (lit< tt) }

  form-fits : (g : Form) (w : Word) (n next : ℕ) → n < 65536 → AddressedFits (form_address g r w n next)
  form-fits Offset5 w n next h = summed (word_of r w + n)
  form-fits Increment1 w n next h = record { registers = changed-fits w _ (mod-lt _ (lit< tt)); address = register-fits w }
  form-fits Increment2 w n next h = record { registers = changed-fits w _ (mod-lt _ (lit< tt)); address = register-fits w }
  form-fits Decrement1 w n next h = record { registers = changed-fits w _ (mod-lt _ (lit< tt)); address = mod-lt _ (lit< tt) }
  form-fits Decrement2 w n next h = record { registers = changed-fits w _ (mod-lt _ (lit< tt)); address = mod-lt _ (lit< tt) }
  form-fits NoOffset w n next h = record { registers = f; address = register-fits w }
  form-fits OffsetB w n next h = summed _
  form-fits OffsetA w n next h = summed _
  form-fits Offset8 w n next h = summed (word_of r w + n)
  form-fits Offset16 w n next h = summed (word_of r w + n)
  form-fits OffsetD w n next h = summed (word_of r w + word_of r D)
  form-fits Program8 w n next h = summed (next % 65536 + n)
  form-fits Program16 w n next h = summed (next % 65536 + n)
  form-fits Address w n next h = record { registers = f; address = h }

module _ (mem : List ℕ) (h : Bytes mem) where
  pointer-fits : (a : Addressed) → AddressedFits a → AddressedFits (through_pointer mem a)
  unfolding through_pointer
  pointer-fits a k = record { registers = k.registers; address = word_fits mem h a.ea }

  through-fits : (r : Set) → Fits r → (ix : Indexed) (next : ℕ) → ix.offset < 65536 → AddressedFits (indexed_address mem r ix next)
  unfolding indexed_address
  through-fits r f ix next l = go (is_indirect ix.post)
    where
      found : Addressed
      found = form_address ix.form r (index_word (index_of ix.post)) ix.offset next

      fits : AddressedFits found
      fits = form-fits r f ix.form (index_word (index_of ix.post)) ix.offset next l

      go : (i : Bool) → AddressedFits (cond i (through_pointer mem found) found)
      go true = pointer-fits found fits
      go false = fits

pub effective-fits : EffectiveFits
effective-fits mem h r f Nothing next l = record { registers = f; address = lit< tt }
effective-fits mem h r f (ByValue at) next l = record { registers = f; address = l }
effective-fits mem h r f (InPage low) next l = record { registers = f; address = omega (arith, f.dp) }
effective-fits mem h r f (ByIndex ix) next l = through-fits mem h r f ix next l.0
effective-fits mem h r f (AtAddress at) next l = record { registers = f; address = l }
effective-fits mem h r f (Branch offset) next l = summed r f (next % 65536 + offset)

pub resolve-fits : ResolveFits
unfolding resolved_of
resolve-fits mem h r f o next l = go (effective_of o mem r next) (effective-fits mem h r f o next l) (leb next 0xFFFF) refl
  where
    go : (a : Addressed) → AddressedFits a → (t : Bool) → leb next 0xFFFF ≡ t → ResolvedFits (advanced a next)
    go a k true d = rw d (record { registers = written-fits a.regs k.registers PC (u16 next) (omega (arith, leb-true next 0xFFFF d)); address = k.address })
    go a k false d = rw d tt
