-- What goes to a host and back, and the numbers apart: the laws of specs/Numbers.antt and specs/Structs.antt.
-- Assumes nothing.
use Rattle.std.specs.Prelude.{Err, Ok}
use Prim.Native.Nat.{ℕ, zero, suc, ◌<◌}
use mathlib.Core.List.{List, [], ◌∷◌, map}
use mathlib.Core.Path.{◌≡◌, refl, ap}
use mathlib.Core.Bool.{Bool, true, false, ◌&&◌, false≢true}
use native.Mathlib.Omega.{arith}
use borrow.Author.Tests.{ltb-true, eqb-true}
use lib.Dec.{ltb, eqb}
use Rattle.answers.specs.declared.Refusal.{Refusal}
use Rattle.answers.specs.declared.Refusal.TheVariants.{MemoryLength, Waiting, Opcode, PastEnd, PostByte, TransferCode, StackTooSmall, ZeroAtVector, JournalFull, NoRecord, JournalLength, DivisionByZero, LeftByte, NoRoom, Malformed, OutputShort, LineShape, Checksum, PastTop, NoEnd, PostByte8F, TooFewRecords, SalvageShort, ListShort}
use Rattle.answers.proofs.Numbers.{numbers-small}
use Rattle.registers.specs.declared.Flags.{Flags}
use Rattle.registers.specs.declared.Flags.TheVariants.{Bought, Manual}
use Rattle.machine.specs.Record.{wait_byte, wait_of, mark_byte, mark_of}
use Rattle.machine.specs.declared.Settings.{Settings}
use Rattle.machine.specs.declared.fence.Range.{Range}
use Rattle.machine.specs.declared.Wait.{Wait}
use Rattle.machine.specs.declared.Wait.TheVariants.{Running, Cwai, Sync}
use Rattle.calls.specs.declared.InterruptType.{InterruptType}
use Rattle.calls.specs.declared.InterruptType.TheVariants.{Irq, Firq, Nmi}
use Rattle.journal.specs.declared.Twin.{Twin}
use Rattle.host.specs.Numbers.{flags_of, flags_number, interrupt_type_of, interrupt_number, is_twin, is_settings, UnnamedApart, NumbersBack}
use Rattle.host.specs.Structs.{range_from, host_range, settings_from, host_settings, machine_from, twin_from, host_twin, TwinsBack, SettingsBack}
use Rattle.host.specs.declared.HostRange.{HostRange}
use Rattle.host.specs.declared.HostSettings.{HostSettings}
use Rattle.host.specs.declared.HostTwin.{HostTwin}

-- ---- 64 is no number of a call

pub unnamed-apart : UnnamedApart
unnamed-apart (Ok u) = omega arith
unnamed-apart (Err x) = numbers-small x

-- ---- numbers

flags-back : (n : ℕ) → n < 2 → flags_number (flags_of n) ≡ n
unfolding flags_of
flags-back zero h = refl
flags-back (suc zero) h = refl
flags-back (suc (suc n)) h = absurd (omega arith)

flags-named : (f : Flags) → flags_of (flags_number f) ≡ f
unfolding flags_of
flags-named Bought = refl
flags-named Manual = refl

interrupt-back : (n : ℕ) → n < 3 → interrupt_number (interrupt_type_of n) ≡ n
unfolding interrupt_type_of
interrupt-back zero h = refl
interrupt-back (suc zero) h = refl
interrupt-back (suc (suc zero)) h = refl
interrupt-back (suc (suc (suc n))) h = absurd (omega arith)

interrupt-named : (i : InterruptType) → interrupt_type_of (interrupt_number i) ≡ i
unfolding interrupt_type_of
interrupt-named Irq = refl
interrupt-named Firq = refl
interrupt-named Nmi = refl

pub numbers-back : NumbersBack
numbers-back = record { flags = flags-back; flags-named = flags-named; interrupt = interrupt-back; interrupt-named = interrupt-named }

-- ---- the twin and the settings

pub both : (p q : Bool) → (p && q) ≡ true → (p ≡ true) × (q ≡ true)
both true q h = (refl, h)
both false q h = absurd (false≢true h)

wait-back : (n : ℕ) → n < 3 → wait_byte (wait_of n) ≡ n
unfolding wait_of
wait-back zero h = refl
wait-back (suc zero) h = refl
wait-back (suc (suc zero)) h = refl
wait-back (suc (suc (suc n))) h = absurd (omega arith)

wait-named : (w : Wait) → wait_of (wait_byte w) ≡ w
unfolding wait_of
wait-named Running = refl
wait-named Cwai = refl
wait-named Sync = refl

wait-told : (w : Wait) → ltb (wait_byte w) 3 ≡ true
wait-told Running = refl
wait-told Cwai = refl
wait-told Sync = refl

mark-back : (n : ℕ) → n < 2 → mark_byte (mark_of n) ≡ n
unfolding mark_of
mark-back zero h = refl
mark-back (suc zero) h = refl
mark-back (suc (suc n)) h = absurd (omega arith)

mark-named : (a : Bool) → mark_of (mark_byte a) ≡ a
unfolding mark_of
mark-named true = refl
mark-named false = refl

mark-told : (a : Bool) → ltb (mark_byte a) 2 ≡ true
mark-told true = refl
mark-told false = refl

flags-told : (f : Flags) → ltb (flags_number f) 2 ≡ true
flags-told Bought = refl
flags-told Manual = refl

host-back : (t : HostTwin) → is_twin t ≡ true → host_twin (twin_from t) ≡ t
unfolding host_twin machine_from
host-back t h =
    let q = both _ _ h in
    rw (wait-back t.wait (ltb-true _ _ q.0), mark-back t.armed (ltb-true _ _ q.1))

twin-back : (t : Twin) → twin_from (host_twin t) ≡ t
unfolding host_twin machine_from
twin-back t = rw (wait-named t.machine.wait, mark-named t.machine.armed)

twin-named : (t : Twin) → is_twin (host_twin t) ≡ true
unfolding host_twin
twin-named t = rw (wait-told t.machine.wait, mark-told t.machine.armed)

pub twins-back : TwinsBack
twins-back = record { host = host-back; twin = twin-back; named = twin-named }

ranges-host-back : (l : List HostRange) → map host_range (map range_from l) ≡ l
ranges-host-back [] = refl
ranges-host-back (g ∷ l) = ap (λ (k : List HostRange). g ∷ k) (ranges-host-back l)

ranges-back : (l : List Range) → map range_from (map host_range l) ≡ l
ranges-back [] = refl
ranges-back (g ∷ l) = ap (λ (k : List Range). g ∷ k) (ranges-back l)

settings-host-back : (s : HostSettings) → is_settings s ≡ true → host_settings (settings_from s) ≡ s
settings-host-back s h =
    let q = both _ _ h in
    rw (ranges-host-back s.profile, flags-back s.flags (ltb-true _ _ q.0), eqb-true s.spare 0 q.1)

settings-back-so : (s : Settings) → settings_from (host_settings s) ≡ s
settings-back-so s = rw (flags-named s.flags, ranges-back s.profile)

settings-named : (s : Settings) → is_settings (host_settings s) ≡ true
settings-named s = rw (flags-told s.flags)

pub settings-back : SettingsBack
settings-back = record { host = settings-host-back; settings = settings-back-so; named = settings-named }
