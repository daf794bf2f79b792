-- How a term stands in the site: as the subject, or as the object, of some triple.
use Rattle.std.specs.Prelude.{ℕ, ◌<◌, ◌≡◌, length}
use Rattle.meaning.specs.Site.{Triple, Site, triple}

-- some triple has t as this one of its numbers
pub record StandsAs (key : Triple → ℕ) (s : Site) (t : ℕ) : Type 0 where
  pub number : ℕ
  pub below : number < length s
  pub stands : t ≡ key (triple s number)
