-- Which records are open, held as a flag a record: whether it is shut. What the functions over the flags promise.
-- Every change is justified, and what a sweep leaves unchanged is closed; so what is open is exactly what can be entered.
use Rattle.std.specs.Prelude.{ℕ, ◌+◌, ◌-◌, ◌<◌, ◌≤◌, ◌≡◌, ◌⊎◌, Bool, true, false, cond, List, [], length, get_or, Option, Some, None}
use Rattle.std.specs.List.{sum_by}
use Rattle.meaning.specs.Limits.{records}
use Rattle.meaning.specs.Site.{Site, Voc}
use Rattle.meaning.specs.Expression.{Rec, joining, choosing, starring}
use Rattle.meaning.specs.Fewest.{Goal, anywhere}
use Rattle.fewest.specs.Frame.{Frame, frame}
use Rattle.fewest.specs.Next.{Next}
use Rattle.fewest.specs.declared.links.Links.{Links}
use Rattle.fewest.specs.declared.task.Rule.{Rule}
use Rattle.fewest.specs.Sweep.{Swept}
use Rattle.fewest.specs.Work.{Ready}
use Rattle.fewest.specs.Tells.{Tells}
use Rattle.path.specs.Pick.{Enters}

-- a walk is before its first step, or after a step of one of the records
abbrev pub Placed : Option ℕ → Type 0
Placed None = Unit
Placed (Some r) = r < records

-- the rule's records and links, over some site
abbrev pub RuleReady : Rule → Links → Type 0
RuleReady x L = (site : List ℕ) × (n : ℕ) × Ready site n x.bytes.now x.starts.now x.count L.up L.role L.first

-- record b is open: its flag does not say that it is shut
pub record Open (X : List Bool) (b : ℕ) : Type 0 where
  pub inside : b < records
  pub clear : get_or X b false ≡ false

-- how many records are shut, which falls whenever one is opened
unfoldable pub closed : List Bool → ℕ
closed X = sum_by (λ x. cond x 1 0) X

-- only what P allows is opened, and nothing is shut again
pub record Opens (P : ℕ → Type 0) (X Y : List Bool) : Type 0 where
  pub only : (b : ℕ) → Open Y b → Open X b ⊎ P b
  pub fewer : closed Y ≤ closed X

-- all that P allows is opened
abbrev pub Opening : (ℕ → Type 0) → List Bool → List Bool → Bool → Bool → Type 0
Opening P X Y was now = Swept closed (Opens P) (λ Z. (b : ℕ) → P b → Open Z b) X Y was now

-- what comes next is told by the links alone: neither the site nor the goal has a part in it
abbrev pub linked : List ℕ → List ℕ → Frame
linked up role = frame [] up role anywhere

-- what can be entered with no other record before, in a rule of so many records
pub data Begins (up role : List ℕ) (count : ℕ) : Option ℕ → ℕ → Type 0 where
  begin : {b : ℕ} → b + 1 ≡ count → Begins up role count None b
  after : {r b : ℕ} → Next (linked up role) r b → Begins up role count (Some r) b

-- what record r leads to by its kind, where f is its first operand's record and N comes next: a sequence to its first
-- operand, a choice to both, a star to its operand and, at a word, to what comes next
pub data LeadsBy (word : Bool) (N : ℕ → Type 0) (r f b : ℕ) : Rec → Type 0 where
  to_first : b ≡ f → LeadsBy word N r f b joining
  to_one : b ≡ f → LeadsBy word N r f b choosing
  to_other : b ≡ r - 1 → LeadsBy word N r f b choosing
  to_round : b ≡ r - 1 → LeadsBy word N r f b starring
  past : word ≡ true → N b → LeadsBy word N r f b starring

-- what record r of the rule leads to, at a term that is a word or not
pub record Leads (up role : List ℕ) (rs : List Rec) (first : List ℕ) (word : Bool) (r b : ℕ) : Type 0 where
  pub inside : r < length rs
  pub by : LeadsBy word (Next (linked up role) r) r (get_or first r 0) b (get_or rs r starring)

-- an open record opens what it leads to
abbrev pub Led : List ℕ → List ℕ → List Rec → List ℕ → Bool → ℕ → List Bool → List Bool → Bool → Bool → Type 0
Led up role rs first word r X Y was now = Opening (λ b. Open X r × Leads up role rs first word r b) X Y was now

-- what is to be open, as the flags are
pub data Due (up role : List ℕ) (rs : List Rec) (first : List ℕ) (word : Bool) (x : Option ℕ) (X : List Bool) (b : ℕ) : Type 0 where
  at_once : Begins up role (length rs) x b → Due up role rs first word x X b
  in_turn : {r : ℕ} → Open X r → Leads up role rs first word r b → Due up role rs first word x X b

-- what is open is allowed
abbrev pub Justified : (ℕ → Type 0) → List Bool → Type 0
Justified P X = (b : ℕ) → Open X b → P b

-- what is open can be entered, if that was so before, and nothing is shut again
pub record Keeps (up role : List ℕ) (rs : List Rec) (first : List ℕ) (word : Bool) (x : Option ℕ) (X Y : List Bool) : Type 0 where
  pub justified : (s : Site) (g : Goal) (t : ℕ) → Tells (Voc s t) word →
      Justified (Enters (frame s up role g) rs first t x) X → Justified (Enters (frame s up role g) rs first t x) Y
  pub fewer : closed Y ≤ closed X

-- one sweep: where nothing was changed, all that is due is open
abbrev pub SweptOpen : List ℕ → List ℕ → List Rec → List ℕ → Bool → Option ℕ → List Bool → List Bool → Bool → Type 0
SweptOpen up role rs first word x X Y now =
    Swept closed (Keeps up role rs first word x) (λ Z. (b : ℕ) → Due up role rs first word x Z b → Open Z b) X Y false now

-- open is exactly what P allows
pub record Exactly (P : ℕ → Type 0) (X : List Bool) : Type 0 where
  pub sound : Justified P X
  pub whole : (b : ℕ) → P b → Open X b

-- from none open to exactly those that can be entered
abbrev pub Entered : List ℕ → List ℕ → List Rec → List ℕ → Bool → Option ℕ → List Bool → List Bool → Type 0
Entered up role rs first word x X Y =
    (s : Site) (g : Goal) (t : ℕ) → Tells (Voc s t) word → ((b : ℕ) → Open X b → ⊥) → Exactly (Enters (frame s up role g) rs first t x) Y
