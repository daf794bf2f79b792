-- What comes once a record's expression is done at a term: which records are entered there, and whether the rule is done.
-- The walk up the links that the byte table, the ends and the path have in common.
use Rattle.std.specs.Prelude.{ℕ, ◌-◌, ◌≡◌, get_or}
use Rattle.fewest.specs.Frame.{as_whole, as_first, as_round, Frame}

-- once record r's expression is done at a term, record b's is entered there: the second of the sequence, the round once more,
-- or what comes after the star
pub data Next (F : Frame) : ℕ → ℕ → Type 0 where
  on : {r : ℕ} → get_or F.role r 0 ≡ as_first → Next F r (get_or F.up r 0 - 1)
  again : {r : ℕ} → get_or F.role r 0 ≡ as_round → Next F r (get_or F.up r 0 - 1)
  ending : {r b : ℕ} → get_or F.role r 0 ≡ as_round → Next F (get_or F.up r 0) b → Next F r b

-- once record r's expression is done at a term, the whole rule is
pub data Home (F : Frame) : ℕ → Type 0 where
  whole : {r : ℕ} → get_or F.role r 0 ≡ as_whole → Home F r
  ending : {r : ℕ} → get_or F.role r 0 ≡ as_round → Home F (get_or F.up r 0) → Home F r
