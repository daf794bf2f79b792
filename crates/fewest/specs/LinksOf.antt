-- What building the links of a checked rule promises: they are the rule's own, and a walk up them stays inside its records.
-- One record's part is to say of its operands where they stand.
use Rattle.std.specs.Prelude.{ℕ, ◌+◌, ◌-◌, ◌<◌, ◌≡◌, ◌≢◌, List, get_or, set}
use Rattle.meaning.specs.Limits.{records}
use Rattle.meaning.specs.Expression.{Rec, plain, testing, joining, choosing, starring, Expr, Expression}
use Rattle.records.specs.Rules.{records_of}
use Rattle.records.specs.First.{First, taken}
use Rattle.fewest.specs.Frame.{as_whole, as_test, as_first, as_round, Links, links, Linked, Climbs}

-- the expression of record k stands so below record p
abbrev pub stand : (k p role : ℕ) → Links → Links
stand k p role L = links (set L.up k p) (set L.role k role) L.first

-- the expression of record k stands as that of record r does
abbrev pub take : (k r : ℕ) → Links → Links
take k r L = stand k (get_or L.up r 0) (get_or L.role r 0) L

-- the first operand of the join r is record f
abbrev pub begin : (r f : ℕ) → Links → Links
begin r f L = links L.up L.role (set L.first r f)

-- the operands of a join: the second ends just before it and stands as it does, and the first is record f and stands so
abbrev pub join : (r f p role : ℕ) → Links → Links
join r f p role L = begin r f (stand f p role (take (r - 1) r L))

-- the operands of record number r, which is this record; f is the first of a join
abbrev pub standing : Rec → (r f : ℕ) → Links → Links
standing (plain a l) r f L = L
standing (testing a) r f L = stand (r - 1) r as_test L
standing joining r f L = join r f r as_first L
standing choosing r f L = join r f (get_or L.up r 0) (get_or L.role r 0) L
standing starring r f L = stand (r - 1) r as_round L

-- the first operand of a join ends just before its second begins
abbrev pub Precedes : List Rec → (r f : ℕ) → Type 0
Precedes rs r f = First rs (r - 1) (f + 1)

-- what a join's part leaves
pub record Joined (rs : List Rec) (r p role : ℕ) (L L' : Links) : Type 0 where
  pub operand : ℕ
  pub precedes : Precedes rs r operand
  pub stores : L' ≡ join r operand p role L

-- what a record's part leaves
pub record Stood (rs : List Rec) (r : ℕ) (L L' : Links) : Type 0 where
  pub operand : ℕ
  pub precedes : taken rs r ≡ 2 → Precedes rs r operand
  pub stores : L' ≡ standing (get_or rs r starring) r operand L

-- what building the links promises
pub record LinksOf (rule : List ℕ) (count : ℕ) (L : Links) : Type 0 where
  pub linked : (e : Expr) → Expression (records_of rule) e → Linked e L
  pub climbs : Climbs records L.up L.role
  pub inside : (r : ℕ) → r < count → get_or L.role r 0 ≢ as_whole → get_or L.up r 0 < count
  pub firsts : (r : ℕ) → r < count → get_or L.first r 0 < count
