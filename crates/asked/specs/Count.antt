-- Counting a table of bits, part by part.
-- A part is so short that a byte holds its count.
use Rattle.std.specs.Prelude.{ℕ}

unfoldable pub part : ℕ
part = 128
