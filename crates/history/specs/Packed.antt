-- Packed records in numbers (document 02, [9]): three records one after another, of 0, 1 and 2 entries, and two bytes behind them; what undo,
-- the view and drop make of them, as they are and with a byte written over.
-- Assumes nothing.
use Rattle.std.specs.Prelude.{ℕ, Bool, true, false, List, [], ◌∷◌, ◌++◌, ◌≡◌, length, drop, set}
use Rattle.machine.specs.declared.Machine.{Machine}
use Rattle.machine.specs.declared.Wait.TheVariants.{Sync}
use Rattle.journal.specs.Record.{Saved, encode}
use Rattle.journal.specs.Undos.{sound_at, newest_of}
use Rattle.journal.specs.Drops.{reach, walks, moved}

-- a machine whose record's bytes are 1 to 14, then wait state 2, mark 1 and the counters
unfoldable pub waits : Machine
waits =
    record {
      cycles = 0x102;
      instructions = 7;
      regs = record { x = 0x304; y = 0x506; u = 0x708; s = 0x90A; pc = 0xB0C; a = 1; b = 2; dp = 13; cc = record { reg = 14 } };
      wait = Sync;
      armed = true;
    }

unfoldable pub entry : Saved
entry = record { place = 0x1234; byte = 0x56 }

unfoldable pub shortest : List ℕ
shortest = encode waits []

unfoldable pub second : List ℕ
second = encode waits (entry ∷ [])

unfoldable pub third : List ℕ
third = encode waits (entry ∷ entry ∷ [])

-- 34, 37 and 40 bytes, so 111 are used
unfoldable pub three : List ℕ
three = shortest ++ (second ++ (third ++ (99 ∷ 99 ∷ [])))

-- what undo judges of the newest record, by the bytes used
unfoldable pub undo_judges : List Bool
undo_judges =
    sound_at three 111
    ∷ sound_at three 71
    -- no byte used; one too few
    ∷ sound_at three 0
    ∷ sound_at three 110
    -- the last byte: below 34, above the bytes used, not that of the count
    ∷ sound_at (set three 110 33) 111
    ∷ sound_at (set three 110 112) 111
    ∷ sound_at (set three 110 43) 111
    -- the count: 13, and 1 of a record with two entries
    ∷ sound_at (set three 103 13) 111
    ∷ sound_at (set three 103 1) 111
    -- wait state 3, mark 2
    ∷ sound_at (set three 85 3) 111
    ∷ sound_at (set three 86 2) 111
    ∷ []

-- what drop judges of the oldest records
unfoldable pub drop_judges : List Bool
drop_judges =
    walks 3 three 111
    -- the third ends past the bytes used
    ∷ walks 3 three 110
    -- count 13 in the second, which is walked over, or not
    ∷ walks 2 (set three 66 13) 111
    ∷ walks 1 (set three 66 13) 111
    -- count 12 in the first, whose 70 bytes end past the bytes used, or not
    ∷ walks 1 (set three 32 12) 69
    ∷ walks 1 (set three 32 12) 70
    -- the count of the first is not within the bytes used; nor is its end; both are
    ∷ walks 1 three 32
    ∷ walks 1 three 33
    ∷ walks 1 three 34
    -- wait state and last byte are not looked at
    ∷ walks 1 (set (set three 14 3) 33 0) 111
    ∷ []

pub record PackedRecords : Type 0 where
  -- the sections as they are, then the entries in use, then the length
  pub written : second ≡ 1 ∷ 2 ∷ 3 ∷ 4 ∷ 5 ∷ 6 ∷ 7 ∷ 8 ∷ 9 ∷ 10 ∷ 11 ∷ 12 ∷ 13 ∷ 14 ∷ 2 ∷ 1 ∷ 0 ∷ 0 ∷ 0 ∷ 0 ∷ 0 ∷ 0 ∷ 1 ∷ 2 ∷ 0 ∷ 0 ∷ 0 ∷ 0 ∷ 0 ∷ 0 ∷ 0 ∷ 7 ∷ 1 ∷ 0x12 ∷ 0x34 ∷ 0x56 ∷ 37 ∷ []
  pub lengths : length shortest ∷ length second ∷ length third ∷ reach 1 three ∷ reach 2 three ∷ reach 3 three ∷ [] ≡ 34 ∷ 37 ∷ 40 ∷ 34 ∷ 71 ∷ 111 ∷ []
  pub view : newest_of three 3 111 ≡ third
  pub undo : undo_judges ≡ true ∷ true ∷ false ∷ false ∷ false ∷ false ∷ false ∷ false ∷ false ∷ false ∷ false ∷ []
  pub drop-walk : drop_judges ≡ true ∷ false ∷ false ∷ true ∷ false ∷ true ∷ false ∷ false ∷ true ∷ true ∷ []
  -- the two oldest dropped: the third to the front, and the bytes past it as they were
  pub moves : moved 71 111 three ≡ third ++ drop 40 three
