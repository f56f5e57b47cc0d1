use Rattle.std.specs.Prelude.{ℕ, ◌≡◌, ◌≤◌, List, length, replicate, take}

-- `&xs[..n]` is in bounds and has n bytes. The second part follows from the first, and spares a caller's `&buf[..n]` a proof file.
abbrev pub IsPrefixLen : ℕ → List ℕ → Type 0
IsPrefixLen n xs = (n ≤ length xs) × (n ≡ length (take n xs))

-- n bytes, each of them 0. It is no `abbrev`: the array may be too long for a caller's proof to count.
unfoldable pub IsZeros : ℕ → List ℕ → Type 0
IsZeros n xs = xs ≡ replicate n 0
