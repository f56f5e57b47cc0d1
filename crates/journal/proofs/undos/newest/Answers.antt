-- Test by test; the part ends where the bytes used do.
-- Assumes nothing.
use Prim.Native.Nat.{◌-◌, ◌≤◌}
use mathlib.Core.Path.{◌≡◌, refl, sym, ◌∙◌}
use native.Mathlib.Omega.{arith}
use Rattle.journal.specs.Record.{record_length}
use Rattle.journal.specs.Undos.{last_byte}
use Rattle.journal.proofs.Answers.{no_bytes, last-low, last-high, no_record, is-sound, part-is, part_length, view-12, view-11, view-unsound, view-sound}
use Rattle.journal.proofs.undos.newest.Goals as goal

pub returns-then-bytes-journal : goal.returns-then-bytes-journal
returns-then-bytes-journal c =
    let a = c.args in
    let v = view-12 a.journal.now a.bytes a.records a.journal.ref_ptr c.if-bytes-journal.true in
    record { result_value = v.0; ref_ptr_value = v.1 }

pub returns-then-records-eq0 : goal.returns-then-records-eq0
returns-then-records-eq0 c =
    let a = c.args in
    let v = view-11 a.journal.now a.bytes a.records a.journal.ref_ptr c.if-records-eq0.true in
    record { result_value = v.0; ref_ptr_value = v.1 }

pub returns-then-bytes-eq0 : goal.returns-then-bytes-eq0
returns-then-bytes-eq0 c =
    let a = c.args in
    let v = view-unsound a.journal.now a.bytes a.records a.journal.ref_ptr (no_bytes _ _ c.if-bytes-eq0.true) in
    record { result_value = v.0; ref_ptr_value = v.1 }

-- the last byte is a byte
pub overflow_cast-size : goal.overflow_cast-size
overflow_cast-size c = omega (arith, c.type_inv.journal (c.args.bytes - 1))

pub returns-then-size-lt-SHORTEST : goal.returns-then-size-lt-SHORTEST
returns-then-size-lt-SHORTEST c =
    let a = c.args in
    let v = view-unsound a.journal.now a.bytes a.records a.journal.ref_ptr (last-low _ _ c.if-size-lt-SHORTEST.true) in
    record { result_value = v.0; ref_ptr_value = v.1 }

pub returns-then-size-bytes : goal.returns-then-size-bytes
returns-then-size-bytes c =
    let a = c.args in
    let v = view-unsound a.journal.now a.bytes a.records a.journal.ref_ptr (last-high _ _ c.if-size-bytes.true) in
    record { result_value = v.0; ref_ptr_value = v.1 }

pub is_record-requires : goal.is_record-requires
is_record-requires c =
    let a = c.args in
    let p = part-is a.journal.now a.bytes c.if-size-bytes.false in
    let l = part_length a.journal.now a.bytes c.if-bytes-journal.false c.if-size-bytes.false in
    rw p (omega (arith, l, c.if-size-lt-SHORTEST.false))

pub returns-then-is_record : goal.returns-then-is_record
returns-then-is_record c =
    let a = c.args in
    let p = part-is a.journal.now a.bytes c.if-size-bytes.false in
    let s = is-sound a.journal.now a.bytes (omega arith) c.if-size-lt-SHORTEST.false c.if-size-bytes.false (rw p at (sym c.is_record.ensures ∙ c.if-is_record.true)) in
    let v = view-sound a.journal.now a.bytes a.records _ c.if-bytes-journal.false (omega arith) s in
    record { result_value = p ∙ v.0; ref_ptr_value = v.1 }

pub returns : goal.returns
returns c =
    let a = c.args in
    let p = part-is a.journal.now a.bytes c.if-size-bytes.false in
    let v = view-unsound a.journal.now a.bytes a.records a.journal.ref_ptr (no_record a.journal.now a.bytes (rw p at (sym c.is_record.ensures ∙ c.if-is_record.false))) in
    record { result_value = v.0; ref_ptr_value = v.1 }
