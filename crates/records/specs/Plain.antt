-- Eight bytes as one number, a record and the kind of the next, of which one look shows that the record is sound.
-- Document 01 has no such number: the code asks it first, and where it does not show it, reads the record as the document says.
use Rattle.std.specs.Prelude.{ℕ, ◌*◌, ◌/◌, ◌%◌, ◌≡◌}
use Rattle.records.specs.Bytes.{base, two_bytes, four_bytes}
use Rattle.records.specs.Sites.{triple_kind}

-- both kinds are a triple's, and the high byte of each term is 0
pub record Plain (eight : ℕ) : Type 0 where
  pub subject : eight / four_bytes / two_bytes ≡ triple_kind * base
  pub predicate : eight / four_bytes % base ≡ 0
  pub object : eight / two_bytes % base ≡ 0
  pub next : eight % base ≡ triple_kind
