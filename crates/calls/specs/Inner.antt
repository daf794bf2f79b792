-- What the functions inside the calls promise to one another. No caller of ours sees these.
-- Admission is told in the order of document 01; the rest of a call stands on a query that is in order, which keeps `Read`.
use Rattle.std.specs.Prelude.{ℕ, ◌+◌, ◌*◌, ◌<◌, ◌≤◌, ◌-◌, ◌≡◌, true, false, cond, List, length, replicate, eqb, ltb, Result, Ok, Err}
use Rattle.meaning.specs.Limits.{terms, records, none}
use Rattle.meaning.specs.Fewest.{Goal, anywhere, end}
use Rattle.meaning.specs.Site.{Mentioned}
use Rattle.meaning.specs.Question.{Count}
use Rattle.records.specs.declared.Refusal.{Refusal}
use Rattle.records.specs.declared.Reason.TheVariants.{QueryTerm, Room}
use Rattle.records.specs.Sites.{Checked, site_of}
use Rattle.records.specs.Rules.{RuleChecked, records_of, refusal}
use Rattle.fewest.specs.declared.Goal.{Goal as Aim}
use Rattle.fewest.specs.Frame.{Links}
use Rattle.fewest.specs.LinksOf.{LinksOf}
use Rattle.fewest.specs.declared.task.Task.{Task}
use Rattle.fewest.specs.Offer.{view}
use Rattle.fewest.specs.Pairs.{pairs}
use Rattle.fewest.specs.Sweep.{sum}
use Rattle.fewest.specs.Tasks.{SettledFor}
use Rattle.fewest.specs.Work.{goal_of, SettledOver}
use Rattle.asked.specs.Mark.{marks}
use Rattle.asked.specs.Seek.{MarkedOver}
use Rattle.fewest.specs.Told.{Told}
use Rattle.calls.specs.declared.Answer.{Answer}
use Rattle.calls.specs.declared.Found.{Found}
use Rattle.calls.specs.declared.query.Query.{Query}
use Rattle.calls.specs.Promise.{Form, as_words, as_bytes, Fits, Decided}
use Rattle.calls.specs.Written.{PathWritten}

-- a query between z and v over s and r is turned away with this refusal
pub data TurnedAway (s r : List ℕ) (z v : ℕ) : Refusal → Type 0 where
  by_site : {x : Refusal} → Checked s (Err x) → TurnedAway s r z v x
  by_rule : {n : ℕ} {x : Refusal} → Checked s (Ok n) → RuleChecked r (Err x) → TurnedAway s r z v x
  by_start : {n c : ℕ} → Checked s (Ok n) → RuleChecked r (Ok c) → terms ≤ z → TurnedAway s r z v (refusal QueryTerm 0)
  by_end : {n c : ℕ} → Checked s (Ok n) → RuleChecked r (Ok c) → z < terms → terms ≤ v → TurnedAway s r z v (refusal QueryTerm 1)

-- the query that is in order is the one that was asked
pub record SoundQuery (s r : List ℕ) (z v : ℕ) (q : Query) : Type 0 where
  pub site : q.site.bytes.now ≡ s
  pub rule : q.rule.now ≡ r
  pub from : q.start ≡ z
  pub to : q.end ≡ v

pub record Admitted (s r : List ℕ) (z v : ℕ) (a : Result Query Refusal) : Type 0 where
  pub ready : (q : Query) → a ≡ Ok q → SoundQuery s r z v q
  pub refused : (x : Refusal) → a ≡ Err x → TurnedAway s r z v x

-- the task of a query, by the links of its rule, to a goal
pub record TaskOf (q : Query) (g : Aim) (t : Task) : Type 0 where
  pub site : t.site ≡ q.site
  pub rule : t.rule.bytes.now ≡ q.rule.now
  pub starts : t.rule.starts.now ≡ q.starts
  pub count : t.rule.count ≡ q.count
  pub links : LinksOf q.rule.now q.count t.ahead.links.now
  pub goal : t.ahead.goal ≡ g

-- so many different terms are mentioned
abbrev pub Counted : List ℕ → ℕ → ℕ → Type 0
Counted s n d = Count (Mentioned (site_of s n)) d

-- the numbers are settled from none
abbrev pub Numbered : (s : List ℕ) (n : ℕ) (r up role first : List ℕ) → Goal → (T : List ℕ) → Type 0
Numbered s n r up role first g T = SettledOver s n r up role first g (replicate (records * terms) none) T

-- the same, of a task, where these are the bytes of its number table
abbrev pub NumberedFor : Task → List ℕ → Type 0
NumberedFor t N = SettledFor t (replicate (records * terms) none) (pairs N)

-- the tables that an evaluation leaves: the numbers settled from none, and the marks from the whole rule at z
pub record Evaluated (s : List ℕ) (n : ℕ) (r up role first : List ℕ) (g : Goal) (z k : ℕ) (asked numbers ends : List ℕ) : Type 0 where
  pub settled : Numbered s n r up role first g (pairs numbers)
  pub marked : MarkedOver s n r up role first (pairs numbers) z k (marks asked ends)

-- the same, of a task
abbrev pub EvaluatedFor : Task → (z k : ℕ) → (asked numbers ends : List ℕ) → Type 0
EvaluatedFor t z k asked numbers ends =
    Evaluated t.site.bytes.now t.site.triples t.rule.bytes.now t.ahead.links.now.up t.ahead.links.now.role t.ahead.links.now.first (goal_of t.ahead.goal) z k asked numbers ends

-- the tables that a list of ends leaves, and what it counts in them; L are the links
pub record EndsListed (s : List ℕ) (n : ℕ) (r : List ℕ) (L : Links) (z k : ℕ) (asked numbers third : List ℕ) (x : Found) : Type 0 where
  pub evaluated : Evaluated s n r L.up L.role L.first anywhere z k asked numbers third
  pub long : length numbers ≡ records * terms + records * terms
  pub wide : length third ≡ terms
  pub ends : x.ends ≡ sum third
  pub figure : x.figure ≡ sum asked

-- the ends of a query that is in order are listed, by the links of its rule; k is how many ends were lent
pub record EndsFound (q : Query) (k : ℕ) (asked numbers third : List ℕ) (x : Found) : Type 0 where
  pub links : Links
  pub built : LinksOf q.rule.now q.count links
  pub listed : EndsListed q.site.bytes.now q.site.triples q.rule.now links q.start k asked numbers third x

-- what listing the starts of v leaves: the numbers to v settled from none, the bits of the whole rule's row, which are counted,
-- and a byte table of 0
pub record Listed (s : List ℕ) (n : ℕ) (r : List ℕ) (c : ℕ) (up role first : List ℕ) (v : ℕ) (asked numbers third : List ℕ) (k : ℕ) : Type 0 where
  pub settled : Numbered s n r up role first (end v) (pairs numbers)
  pub long : length numbers ≡ records * terms + records * terms
  pub told : Told (pairs numbers) (c - 1) terms third
  pub count : k ≡ sum third
  pub clear : asked ≡ replicate (records * terms) 0

-- the starts of a query that is in order are listed, by the links of its rule
pub record StartsFound (q : Query) (asked numbers third : List ℕ) (k : ℕ) : Type 0 where
  pub links : Links
  pub built : LinksOf q.rule.now q.count links
  pub listed : Listed q.site.bytes.now q.site.triples q.rule.now q.count links.up links.role links.first q.end asked numbers third k

-- The path is shown once the numbers are there: k is the number of a rule of c records at z, and where the start has one that is
-- not more than the most that the room holds, the path fills its front; else the room is kept.
pub record Displayed (f : Form) (s : List ℕ) (n : ℕ) (r : List ℕ) (c : ℕ) (L : Links) (g : Goal) (T : List ℕ) (z most : ℕ) (room room' : List ℕ) (k : ℕ) : Type 0 where
  pub steps : k ≡ view T (c - 1) z
  pub bounded : k ≤ none
  pub written : k < none → k ≤ most → PathWritten f (records_of r) L (site_of s n) g T z k room room'
  pub unrelated : k ≡ none → room' ≡ room
  pub too_long : most < k → room' ≡ room

abbrev pub DisplayedFor : Form → Task → List ℕ → (z most : ℕ) → (room room' : List ℕ) → ℕ → Type 0
DisplayedFor f t N z most room room' k =
    Displayed f t.site.bytes.now t.site.triples t.rule.bytes.now t.rule.count t.ahead.links.now (goal_of t.ahead.goal) (pairs N) z most room room' k

-- the decision by the steps, by the most that the room holds and by the figure alone
unfoldable pub verdict : (k most c : ℕ) → Result Answer Refusal
verdict k most c =
    cond (eqb k none) (Ok (record { yes = false; figure = c; steps = 0 }))
    (cond (ltb most k) (Err (refusal Room k)) (Ok (record { yes = true; figure = c; steps = k })))

-- a table of byte pairs as it is lent: its numbers, or its bytes
abbrev pub lent_as : Form → List ℕ → List ℕ
lent_as as_words b = pairs b
lent_as as_bytes b = b

-- A query that is in order is decided, on numbers in byte pairs and a room lent in this form, whatever table of numbers is lent
-- beside it in that form: where that table becomes what the byte pairs are, the call's promise is kept.
abbrev pub Answered : Form → Query → (room asked' bytes room' : List ℕ) → Result Answer Refusal → Type 0
Answered f q room asked' bytes room' d =
    (asked numbers : List ℕ) → Fits f asked numbers → Decided f q.site.bytes.now q.rule.now q.start q.end asked numbers room asked' (lent_as f bytes) room' d
