-- The parts of the query program's input (document 01, "The query program").
-- The last five bytes are the query record; ahead of them leading records of kind 10 are the site, and the rule starts where they end.
use Rattle.std.specs.Prelude.{ℕ, ◌+◌, ◌-◌, ◌<◌, ◌≤◌, ◌≡◌, Bool, true, false, ◌&&◌, List, length, get_or, take, drop, leb, eqb, Result, Ok, Err}
use Rattle.records.specs.declared.Reason.TheVariants.{Input}
use Rattle.records.specs.declared.Refusal.{Refusal}
use Rattle.records.specs.Bytes.{number16}
use Rattle.records.specs.Sites.{triple_kind, triple_width}
use Rattle.records.specs.Rules.{refusal}
use Rattle.printed.specs.declared.split.Parts.{Parts}

-- the most bytes of an input
unfoldable pub input_most : ℕ
input_most = 8192

-- a query record's kind, and its length in bytes
abbrev pub query_kind : ℕ
query_kind = 20

abbrev pub query_width : ℕ
query_width = 5

-- where the query record begins
abbrev pub query_at : List ℕ → ℕ
query_at s = length s - query_width

-- the input is not longer than allowed, has five bytes, and a record of kind 20 in its last five
unfoldable pub has_query : List ℕ → Bool
has_query s = leb (length s) input_most && (leb query_width (length s) && eqb (get_or s (query_at s) 0) query_kind)

-- what stands ahead of the query record
abbrev pub ahead : List ℕ → List ℕ
ahead s = take (query_at s) s

-- the leading records of kind 10, read on from a place, end there: at a byte of another kind, or with the bytes themselves,
-- so that a last cut record is one of them
pub data SiteEnds (s : List ℕ) : ℕ → ℕ → Type 0 where
  all : {at to : ℕ} → length s ≤ at → to ≡ length s → SiteEnds s at to
  other : {at : ℕ} → at < length s → (get_or s at 0 ≡ triple_kind → ⊥) → SiteEnds s at at
  more : {at to : ℕ} → at < length s → get_or s at 0 ≡ triple_kind → SiteEnds s (at + triple_width) to → SiteEnds s at to

-- the site is the part of the input ahead of where its records end, the rule the part that starts there
abbrev pub site_part : List ℕ → ℕ → List ℕ
site_part s to = take to (ahead s)

abbrev pub rule_part : List ℕ → ℕ → List ℕ
rule_part s to = drop to (ahead s)

-- the query's terms
abbrev pub start_of : List ℕ → ℕ
start_of s = number16 s (query_at s + 1)

abbrev pub end_of : List ℕ → ℕ
end_of s = number16 s (query_at s + 3)

-- an input is split so, or is refused
pub data Splits (s : List ℕ) : Result Parts Refusal → Type 0 where
  refused : has_query s ≡ false → Splits s (Err (refusal Input 0))
  parts : {to : ℕ} → has_query s ≡ true → SiteEnds (ahead s) 0 to →
      Splits s (Ok (record { rule = to; start = start_of s; end = end_of s }))
