-- TFR and EXG (manual, appendix A): the post-byte names two registers, the source or first in its high half.
-- Assumes nothing.
use Rattle.std.specs.Prelude.{◌≡◌, ℕ, ◌/◌, ◌%◌, Bool, cond, ◌&&◌, ◌||◌, ◌==◌, nat_lt, Err, Ok, Result}
use Rattle.answers.specs.Counting.{counted}
use Rattle.answers.specs.declared.Refusal.TheVariants.{TransferCode}
use Rattle.registers.specs.RegisterSet.{read, written}
use Rattle.registers.specs.declared.Name.{Name}
use Rattle.registers.specs.declared.Name.TheVariants.{A, B, D, X, Y, U, S, PC, DP, CC}
use Rattle.registers.specs.declared.Set.{Set}
use Rattle.answers.specs.declared.Refusal.{Refusal}

-- codes 0 to 5 name words and 8 to B bytes; both have to be of one size
unfoldable pub transferable : ℕ → Bool
transferable m =
    (nat_lt (m / 16) 6 && nat_lt (m % 16) 6) || (((nat_lt 7 (m / 16) && nat_lt (m / 16) 12) && nat_lt 7 (m % 16)) && nat_lt (m % 16) 12)

unfoldable pub transfer_name : ℕ → Name
transfer_name code =
    cond (code == 0) D
    (cond (code == 1) X
    (cond (code == 2) Y
    (cond (code == 3) U
    (cond (code == 4) S
    (cond (code == 5) PC
    (cond (code == 8) A
    (cond (code == 9) B
    (cond (code == 10) CC
    DP))))))))

unfoldable pub transfer : Set → ℕ → Result Set Refusal
transfer r m =
    cond (transferable m) (Ok (written r (transfer_name (m % 16)) (read r (transfer_name (m / 16))))) (Err TransferCode)

unfoldable pub exchange : Set → ℕ → Result Set Refusal
exchange r m =
    let first = transfer_name (m / 16) in
    let second = transfer_name (m % 16) in
    cond (transferable m) (Ok (written (written r first (read r second)) second (read r first))) (Err TransferCode)

-- the law: 52 of the 256 post-bytes are taken
abbrev pub TransferPostBytes : Type 0
TransferPostBytes = counted 256 transferable ≡ 52
