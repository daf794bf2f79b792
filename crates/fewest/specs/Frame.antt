-- What the loops over a table know of the rule: for each record where its expression stands, by number.
-- `Linked` says that the three lists are the rule's own.
use Rattle.std.specs.Prelude.{ℕ, ◌<◌, ◌≤◌, ◌≡◌, ◌≢◌, List, get_or}
use Rattle.meaning.specs.Limits.{records}
use Rattle.meaning.specs.Site.{Site}
use Rattle.meaning.specs.Expression.{Expr, sequence, choice, last, Context, whole, test, first_of, second_of, one_of, other_of, round_of, plug}
use Rattle.meaning.specs.Fewest.{Goal}

-- how an expression stands: as the whole rule, as a test, as the first of a sequence, as the round of a star
abbrev pub as_whole : ℕ
as_whole = 0

abbrev pub as_test : ℕ
as_test = 1

abbrev pub as_first : ℕ
as_first = 2

abbrev pub as_round : ℕ
as_round = 3

-- what finishes with its parent (the second of a sequence, an operand of a choice) stands as its parent does
abbrev pub role_of : Context → ℕ
role_of whole = as_whole
role_of (test r a K) = as_test
role_of (first_of r b K) = as_first
role_of (second_of r a K) = role_of K
role_of (one_of r b K) = role_of K
role_of (other_of r a K) = role_of K
role_of (round_of r K) = as_round

-- the record below which it stands so, 0 for the whole rule
abbrev pub up_of : Context → ℕ
up_of whole = 0
up_of (test r a K) = r
up_of (first_of r b K) = r
up_of (second_of r a K) = up_of K
up_of (one_of r b K) = up_of K
up_of (other_of r a K) = up_of K
up_of (round_of r K) = r

-- the role of each record and the record below which it has it, and the first operand's record of each join
pub record Links : Type 0 where
  pub up : List ℕ
  pub role : List ℕ
  pub first : List ℕ

abbrev pub links : List ℕ → List ℕ → List ℕ → Links
links up role first = record { up = up; role = role; first = first }

-- they are the rule's own
pub record Linked (rule : Expr) (L : Links) : Type 0 where
  pub ups : (e : Expr) (K : Context) → plug e K ≡ rule → get_or L.up (last e) 0 ≡ up_of K
  pub roles : (e : Expr) (K : Context) → plug e K ≡ rule → get_or L.role (last e) 0 ≡ role_of K
  pub sequences : (r : ℕ) (a b : Expr) (K : Context) → plug (sequence r a b) K ≡ rule → get_or L.first r 0 ≡ last a
  pub choices : (r : ℕ) (a b : Expr) (K : Context) → plug (choice r a b) K ≡ rule → get_or L.first r 0 ≡ last a

-- what keeps a walk up the links inside the records, and ends it; each role is one of those above
pub record Climbs (count : ℕ) (up role : List ℕ) : Type 0 where
  pub few : count ≤ records
  pub known : (r : ℕ) → r < count → get_or role r 0 ≤ as_round
  pub higher : (r : ℕ) → r < count → get_or role r 0 ≢ as_whole → (r < get_or up r 0) × (get_or up r 0 < count)

-- what a walk over a table is about: the site, the links and the goal
pub record Frame : Type 0 where
  pub site : Site
  pub up : List ℕ
  pub role : List ℕ
  pub goal : Goal

abbrev pub frame : Site → List ℕ → List ℕ → Goal → Frame
frame s up role g = record { site = s; up = up; role = role; goal = g }
