-- Bytes and words read as signed numbers, and when a sum or a difference of them leaves the range.
-- h is half the range: 80 for a byte, 8000 for a word. Assumes nothing.
use Rattle.std.specs.Prelude.{ℕ, ◌+◌, Bool, cond, ◌||◌, ℤ, pos, ◌+ℤ◌, ◌-ℤ◌, neg_ℤ, int_le, int_lt, nat_lt}

-- a number below 2h read as signed: from -h to h - 1
unfoldable pub signed : ℕ → ℕ → ℤ
signed h a = cond (nat_lt a h) (pos a) (pos a -ℤ pos (h + h))

-- z lies outside -h .. h - 1, which is -128 .. 127 for a byte
unfoldable pub outside : ℕ → ℤ → Bool
outside h z = int_lt z (neg_ℤ (pos h)) || int_le (pos h) z

-- a + b + c, with a and b read as signed, lies outside
unfoldable pub sum_out : ℕ → ℕ → ℕ → ℕ → Bool
sum_out h a b c = outside h (signed h a +ℤ signed h b +ℤ pos c)

-- a - b - c, with a and b read as signed, lies outside
unfoldable pub diff_out : ℕ → ℕ → ℕ → ℕ → Bool
diff_out h a b c = outside h (signed h a -ℤ signed h b -ℤ pos c)
