-- The site reader (document 01, "Numbered refusals"): it keeps the lent bytes and its place in them, and hands out one triple after another.
-- Its place moves past a triple that it hands out, and stays at the end and at a refusal.
use Rattle.std.specs.Prelude.{ℕ, ◌+◌, ◌≡◌, List, Some, None, Ok, Err}
use Rattle.std.specs.Borrow.{Bor}
use Rattle.records.specs.Sites.{triple_width, SiteFound, site_record_at}
use Rattle.records.specs.declared.site.Handed.{Handed}
use Rattle.records.specs.declared.site.SiteReader.{SiteReader}

-- where reading goes on from a place at which this was found
abbrev pub onward : SiteFound → ℕ → ℕ
onward (Ok (Some x)) at = at + triple_width
onward (Ok None) at = at
onward (Err x) at = at

-- what is handed out at a place, and where reading goes on
abbrev pub handed : List ℕ → ℕ → Handed
handed s at = record { found = site_record_at s at; at = onward (site_record_at s at) at }

-- the reader of these bytes that stands at a place
abbrev pub standing : Bor (List ℕ) → ℕ → SiteReader
standing s at = record { site = s; at = at }

-- a reader hands out what stands at its place, and goes on from there in the same bytes
pub record Hands (before : SiteReader) (found : SiteFound) (after : SiteReader) : Type 0 where
  pub got : found ≡ site_record_at before.site.now before.at
  pub moved : after ≡ standing before.site (onward (site_record_at before.site.now before.at) before.at)
