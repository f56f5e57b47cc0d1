-- Interrupts that are served, and the waits, are sound.
-- Assumes nothing.
use Rattle.std.specs.Prelude.{Ok}
use Prim.Native.Nat.{ℕ, ◌<◌}
use mathlib.Core.Bool.{true}
use mathlib.Core.List.{List}
use mathlib.Core.Path.{refl}
use lib.Dec.{eqb, lit<}
use Rattle.answers.specs.declared.Refusal.TheVariants.{Fenced, ZeroAtVector}
use Rattle.registers.specs.declared.Set.{Set}
use Rattle.memory.specs.Map.{byte_at, word_at}
use Rattle.memory.specs.Writes.{listed, stored}
use Rattle.memory.proofs.Fits.{byte_fits, word_fits, none-fit, listed-fit, bytes-stored}
use Rattle.memory.proofs.Twelve.{none-full}
use Rattle.machine.specs.Effect.{stores, refuses, changes}
use Rattle.machine.specs.Fence.{bars}
use Rattle.machine.specs.declared.Effect.{Effect}
use Rattle.machine.specs.declared.Settings.{Settings}
use Rattle.machine.specs.declared.Wait.{Wait}
use Rattle.machine.specs.declared.Wait.TheVariants.{Running, Cwai}
use Rattle.operations.specs.Branches.{jumped}
use Rattle.operations.specs.Codes.{and_codes, or_codes}
use Rattle.operations.specs.Sound.{Sound, Given}
use Rattle.operations.proofs.Sound.{done-sound, changed-sound, stored-sound, refused-sound, either-sound}
use Rattle.operations.proofs.Widths.{jumped-fits, and-fits, or-fits}
use Rattle.stack.specs.Frames.{framed}
use Rattle.stack.proofs.Sound.{stack-sound, once-sound}
use Rattle.vectors.specs.Laws.{VectorsSound}
use Rattle.vectors.specs.Service.{vectored}
use Rattle.vectors.specs.Table.{address_of, masks_of, is_entire}
use Rattle.vectors.specs.Waits.{waiting, synchronized}
use Rattle.vectors.specs.declared.table.Vector.{Vector}
use Rattle.vectors.specs.declared.table.Vector.TheVariants.{Swi3, Swi2, Firq, Irq, Swi, Nmi, Reset}

masks-fit : (v : Vector) → masks_of v < 256
masks-fit Swi3 = lit< tt
masks-fit Swi2 = lit< tt
masks-fit Firq = lit< tt
masks-fit Irq = lit< tt
masks-fit Swi = lit< tt
masks-fit Nmi = lit< tt
masks-fit Reset = lit< tt

module _ (mem : List ℕ) (s : Settings) (r : Set) (ea : ℕ) where
  pub vectored-sound : {w : Wait} (frame : Effect) (v : Vector) → Sound (Given mem r ea) r w frame → Sound (Given mem r ea) r Running (vectored mem s r frame v)
  unfolding vectored
  vectored-sound frame v f =
      let after = stored s.ram_top (listed frame.writes) mem in
      let pc = word_at after (address_of v) in
      let q = or_codes frame.regs (masks_of v) in
      once-sound r (λ g. g.registers) frame.answer _
      (either-sound r (bars s (listed frame.writes)) (refuses r Fenced) _ (refused-sound r (λ g. g.registers) Fenced)
      (either-sound r (eqb (byte_at after pc) 0) (refuses r ZeroAtVector) (stores (jumped q pc) frame.writes) (refused-sound r (λ g. g.registers) ZeroAtVector)
      (stored-sound r (jumped q pc) frame.writes (record { places = f.few })
      (λ g. jumped-fits q (or-fits frame.regs (f.registers g) (masks_of v) (masks-fit v)) pc (word_fits after (bytes-stored s.ram_top (listed frame.writes) mem g.bytes (listed-fit frame.writes (f.widths g))) (address_of v)))
      f.widths)))

  cwai-sound : Sound (Given mem r ea) r Cwai (waiting r (byte_at mem ea))
  unfolding waiting
  cwai-sound =
      let m = byte_at mem ea in
      let frame = framed (and_codes r m) true in
      let f = (stack-sound mem (and_codes r m) ea).frame true in
      let k : Given mem r ea → Given mem (and_codes r m) ea = λ g. record { registers = and-fits r g.registers m (byte_fits mem g.bytes ea); bytes = g.bytes; address = g.address } in
      let e : Effect = record { writes = frame.writes; regs = frame.regs; wait = Cwai; answer = (Ok tt) } in
      once-sound r (λ g. g.registers) frame.answer e (done-sound r e refl refl (record { places = f.few }) (λ g. f.registers (k g)) (λ g. f.widths (k g)))

pub vectors-sound : (mem : List ℕ) (s : Settings) (r : Set) (ea : ℕ) → VectorsSound mem s r ea
vectors-sound mem s r ea = record {
  running = λ v. vectored-sound mem s r ea (framed r (is_entire v)) v ((stack-sound mem r ea).frame (is_entire v));
  in_cwai = λ v. vectored-sound mem s r ea (changes r) v (changed-sound r r (λ g. g.registers));
  cwai = cwai-sound mem s r ea;
  sync = done-sound r (synchronized r) refl refl none-full (λ g. g.registers) (λ g. none-fit);
}
