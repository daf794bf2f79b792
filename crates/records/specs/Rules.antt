-- A rule, read from its bytes record by record (document 01, "Records"), with refusals 7 to 13 in their order.
-- A record of bytes decodes to the code's `Record`; `rec_of` says which record of the meaning that is.
use Rattle.std.specs.Prelude.{ℕ, zero, suc, ◌+◌, ◌-◌, ◌≡◌, ◌≢◌, cond, List, [], ◌∷◌, map, length, get_or, ltb, leb, eqb, Option, Some, None, ◌&&◌, Result, Ok, Err, IfOk}
use Rattle.meaning.specs.Limits.{terms, records}
use Rattle.meaning.specs.Move.{Axis, self, ahead, inverse, next, edge, node, any, only}
use Rattle.meaning.specs.Expression.{Rec, plain, testing, joining, choosing, starring, operands}
use Rattle.records.specs.Bytes.{number16}
use Rattle.records.specs.declared.Axis.{Axis as CodeAxis}
use Rattle.records.specs.declared.Axis.TheVariants as code
use Rattle.records.specs.declared.Label.{Label}
use Rattle.records.specs.declared.Label.TheVariants.{Any, Term, Test}
use Rattle.records.specs.declared.Record.{Record}
use Rattle.records.specs.declared.Record.TheVariants.{Step, Sequence, Choice, Star}
use Rattle.records.specs.declared.Reason.{Reason}
use Rattle.records.specs.declared.Reason.TheVariants.{RuleLong, RuleKind, RuleCut, RuleAxis, RuleTerm, TooFew, NotOne}
use Rattle.records.specs.declared.Refusal.{Refusal}
use Rattle.records.specs.declared.rule.RuleRead.{RuleRead}

-- axes are numbered from 0, self, up to this one, node inverse
abbrev pub last_axis : ℕ
last_axis = 6

-- the axis with this number
unfoldable pub axis_numbered : ℕ → Axis
axis_numbered a =
    cond (eqb a 0) self
    (cond (eqb a 1) (ahead next)
    (cond (eqb a 2) (inverse next)
    (cond (eqb a 3) (ahead edge)
    (cond (eqb a 4) (inverse edge)
    (cond (eqb a 5) (ahead node) (inverse node))))))

-- the code's axis with this number, none for self
unfoldable pub axis_coded : ℕ → Option CodeAxis
axis_coded a =
    cond (eqb a 0) None
    (cond (eqb a 1) (Some code.Next)
    (cond (eqb a 2) (Some code.NextInverse)
    (cond (eqb a 3) (Some code.Edge)
    (cond (eqb a 4) (Some code.EdgeInverse)
    (cond (eqb a 5) (Some code.Node) (Some code.NodeInverse))))))

-- which axis of the meaning the code's is, of the six that take a triple
abbrev pub axis_of : CodeAxis → Axis
axis_of code.Next = ahead next
axis_of code.NextInverse = inverse next
axis_of code.Edge = ahead edge
axis_of code.EdgeInverse = inverse edge
axis_of code.Node = ahead node
axis_of code.NodeInverse = inverse node

-- and of a step, which may be self
abbrev pub axis_meant : Option CodeAxis → Axis
axis_meant None = self
axis_meant (Some a) = axis_of a

-- a step with this label
abbrev pub labelled : Axis → Label → Rec
labelled a Any = plain a any
labelled a (Term t) = plain a (only t)
labelled a Test = testing a

-- which record of the meaning the code's record is
abbrev pub rec_of : Record → Rec
rec_of (Step x) = labelled (axis_meant x.axis) x.label
rec_of Sequence = joining
rec_of Choice = choosing
rec_of Star = starring

-- the kind fixes how many bytes a record has, its kind included; 0 where there is no such kind
unfoldable pub length_of : ℕ → ℕ
length_of kind =
    cond (eqb kind 1) 2
    (cond (eqb kind 2) 4
    (cond (eqb kind 3) 2
    (cond (eqb kind 4) 1
    (cond (eqb kind 5) 1
    (cond (eqb kind 6) 1 0)))))

-- the record whose kind stands at this place
unfoldable pub record_at : List ℕ → ℕ → Record
record_at s at =
    cond (eqb (get_or s at 0) 1) (Step (record { axis = axis_coded (get_or s (at + 1) 0); label = Any }))
    (cond (eqb (get_or s at 0) 2) (Step (record { axis = axis_coded (get_or s (at + 1) 0); label = Term (number16 s (at + 2)) }))
    (cond (eqb (get_or s at 0) 3) (Step (record { axis = axis_coded (get_or s (at + 1) 0); label = Test }))
    (cond (eqb (get_or s at 0) 4) Sequence
    (cond (eqb (get_or s at 0) 5) Choice Star))))

-- the number of the axis of the record at this place, 0 where its kind has none
unfoldable pub axis_at : List ℕ → ℕ → ℕ
axis_at s at = cond (leb 1 (get_or s at 0) && leb (get_or s at 0) 3) (get_or s (at + 1) 0) 0

-- the named term of a label, 0 where it names none
abbrev pub named : Label → ℕ
named Any = 0
named (Term t) = t
named Test = 0

-- its named term, 0 where it has none
abbrev pub term_of : Record → ℕ
term_of (Step x) = named x.label
term_of Sequence = 0
term_of Choice = 0
term_of Star = 0

-- the refusal for this reason at this place
abbrev pub refusal : Reason → ℕ → Refusal
refusal why at = record { reason = why; place = at }

-- what stands at a place of a rule: a record and the place of the next, the end, or a refusal
abbrev pub RuleFound : Type 0
RuleFound = Result (Option (Record × ℕ)) Refusal

-- refusals 10 to 12 of a record that is whole, its axis having this number, in this order; else it is read, and the next begins at `on`
unfoldable pub judged : Record → (axis at on height : ℕ) → RuleFound
judged r axis at on height =
    cond (ltb last_axis axis) (Err (refusal RuleAxis at))
    (cond (leb terms (term_of r)) (Err (refusal RuleTerm at))
    (cond (ltb height (operands (rec_of r))) (Err (refusal TooFew at))
    (Ok (Some (r, on)))))

-- what stands at a place of a rule, `count` records and `height` expressions being before it: refusals 7 to 9, then those above
unfoldable pub rule_record_at : List ℕ → (at count height : ℕ) → RuleFound
rule_record_at s at count height =
    cond (leb (length s) at) (Ok None)
    (cond (leb records count) (Err (refusal RuleLong at))
    (cond (eqb (length_of (get_or s at 0)) 0) (Err (refusal RuleKind at))
    (cond (ltb (length s - at) (length_of (get_or s at 0))) (Err (refusal RuleCut at))
    (judged (record_at s at) (axis_at s at) at (at + length_of (get_or s at 0)) height))))

-- how many expressions stand after a record that finds `height` before it
abbrev pub left : ℕ → Record → ℕ
left height r = height - operands (rec_of r) + 1

-- Reading on from what stands at a place, `count` records and `height` expressions being before it, has this answer:
-- the number of records, where one expression is left at the end; refusal 13, where another number is; or the record's refusal.
pub data Reads (s : List ℕ) : RuleFound → (count height : ℕ) → Result ℕ Refusal → Type 0 where
  one : {count height : ℕ} → height ≡ 1 → Reads s (Ok None) count height (Ok count)
  not_one : {count height : ℕ} → height ≢ 1 → Reads s (Ok None) count height (Err (refusal NotOne (length s)))
  refused : {count height : ℕ} {f : Refusal} → Reads s (Err f) count height (Err f)
  read : {r : Record} {on count height : ℕ} {a : Result ℕ Refusal} →
      Reads s (rule_record_at s on (count + 1) (left height r)) (count + 1) (left height r) a →
      Reads s (Ok (Some (r, on))) count height a

-- checking a rule has this answer
abbrev pub RuleChecked : List ℕ → Result ℕ Refusal → Type 0
RuleChecked s a = Reads s (rule_record_at s 0 0 0) 0 0 a

-- the places of at most n records from a place on: each begins where the one before it ends
unfoldable pub starts_from : ℕ → List ℕ → ℕ → List ℕ
starts_from zero s at = []
starts_from (suc n) s at = cond (leb (length s) at) [] (at ∷ starts_from n s (at + length_of (get_or s at 0)))

-- the places where the records of a rule begin
abbrev pub starts_of : List ℕ → List ℕ
starts_of s = starts_from records s 0

-- the record of the meaning at a place
abbrev pub rec_at : List ℕ → ℕ → Rec
rec_at s at = rec_of (record_at s at)

-- the records of a rule
abbrev pub records_of : List ℕ → List Rec
records_of s = map (rec_at s) (starts_of s)

-- the array has these places in front and 0 behind
pub record Front (places starts : List ℕ) : Type 0 where
  pub long : length starts ≡ records
  pub each : (k : ℕ) → get_or starts k 0 ≡ get_or places k 0

-- how many records were read, or why the rule is refused
abbrev pub counted : Result RuleRead Refusal → Result ℕ Refusal
counted (Ok x) = Ok x.count
counted (Err f) = Err f

-- what checking a rule promises: the answer, and of a rule that is read the places of its records
pub record CheckedRule (s : List ℕ) (r : Result RuleRead Refusal) : Type 0 where
  pub answer : RuleChecked s (counted r)
  pub starts : IfOk r (λ x. Front (starts_of s) x.starts)
