-- What a call stands on: its site and its rule were read, and the rule's links are known.
use Rattle.std.specs.Prelude.{ℕ, List, Ok}
use Rattle.records.specs.Sites.{Checked}
use Rattle.records.specs.Rules.{RuleChecked, starts_of, Front}
use Rattle.fewest.specs.Frame.{Links}
use Rattle.fewest.specs.LinksOf.{LinksOf}

-- a site of n triples and a rule of c records were read, and these are the rule's places
pub record Read (s r : List ℕ) (n c : ℕ) (starts : List ℕ) : Type 0 where
  pub site : Checked s (Ok n)
  pub rule : RuleChecked r (Ok c)
  pub places : Front (starts_of r) starts

-- and these are its links
pub record Given (s r : List ℕ) (n c : ℕ) (starts : List ℕ) (L : Links) : Type 0 where
  pub read : Read s r n c starts
  pub links : LinksOf r c L
