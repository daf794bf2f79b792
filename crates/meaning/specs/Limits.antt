-- The limits of document 01 ("Records", "Lent tables"), named here and nowhere else in specs/.
-- No proof opens a name of this file but where a number is read from a byte.
use Rattle.std.specs.Prelude.{ℕ}

-- terms are numbered from 0 and below this
unfoldable pub terms : ℕ
terms = 256

-- a site has at most this many triples
unfoldable pub triples : ℕ
triples = 1024

-- a rule has at most this many records
unfoldable pub records : ℕ
records = 32

-- in the number table: no path; as a triple number: the step is self
unfoldable pub none : ℕ
none = 65535
