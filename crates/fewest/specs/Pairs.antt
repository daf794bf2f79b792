-- A table of numbers as byte pairs, high byte first.
use Rattle.std.specs.Prelude.{ℕ, ◌+◌, ◌*◌, List, [], ◌∷◌}
use Rattle.records.specs.Bytes.{base}

-- one number for each two bytes, made of them
abbrev pub coupled : (ℕ → ℕ → ℕ) → List ℕ → List ℕ
coupled made [] = []
coupled made (h ∷ []) = []
coupled made (h ∷ (l ∷ bs)) = made h l ∷ coupled made bs

-- the numbers that the bytes are
unfoldable pub pairs : List ℕ → List ℕ
pairs b = coupled (λ (h l : ℕ). h * base + l) b
