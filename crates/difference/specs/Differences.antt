-- What differs between two machines with their memories (document 02, request [10]): first the fields of the machine in the record's order, then
-- the maximal runs of addresses at which the memories differ, rising.
-- Assumes nothing.
use Rattle.std.specs.Prelude.{ℕ, zero, suc, ◌-◌, cond, List, [], ◌∷◌, ◌++◌, eqb, ltb, get_or}
use Rattle.machine.specs.Record.{Field, fields, field_of}
use Rattle.machine.specs.declared.Machine.{Machine}

-- a field with its value on the left and on the right, or a run of addresses, its first and its last
pub data Difference : Type 0 where
  of_field : Field → ℕ → ℕ → Difference
  of_run : ℕ → ℕ → Difference

-- ---- the machine

-- a field whose values differ
unfoldable pub field_apart : Field → Machine → Machine → List Difference
field_apart f l r = cond (eqb (field_of f l) (field_of f r)) [] (of_field f (field_of f l) (field_of f r) ∷ [])

-- those of some fields that differ, in their order
unfoldable pub fields_apart : List Field → Machine → Machine → List Difference
fields_apart [] l r = []
fields_apart (f ∷ fs) l r = field_apart f l r ++ fields_apart fs l r

-- ---- memory

-- the run from `first` up to the address before `at`, if it has any address
unfoldable pub run_up_to : ℕ → ℕ → List Difference
run_up_to first at = cond (ltb first at) (of_run first (at - 1) ∷ []) []

-- the runs that end among n addresses from `at` on, or after them. The bytes from `first` up to `at` differ: this run is still open (and has no
-- address where `first` is `at`). A byte that is equal ends it
unfoldable pub runs_from : List ℕ → List ℕ → ℕ → ℕ → ℕ → List Difference
runs_from a b zero first at = run_up_to first at
runs_from a b (suc n) first at =
    cond (eqb (get_or a at 0) (get_or b at 0))
    (run_up_to first at ++ runs_from a b n (suc at) (suc at))
    (runs_from a b n first (suc at))

-- all 65,536 addresses, the devices' too
unfoldable pub runs : List ℕ → List ℕ → List Difference
runs a b = runs_from a b 65536 0 0

-- ---- both

unfoldable pub differences : Machine → List ℕ → Machine → List ℕ → List Difference
differences l a r b = fields_apart fields l r ++ runs a b
