-- The small depot of document 01: its cases, proved of the relation and the figure by one statement over their list.
-- The checker computes one test over the list; that each case is right follows from the test's laws.
use Prim.Native.Nat.{ℕ}
use mathlib.Core.Path.{refl, subst}
use mathlib.Core.Bool.{Bool, true, false, ◌&&◌, beq}
use mathlib.Core.Logic.{inl, inr, ◌↔◌}
use mathlib.Core.List.{List, [], ◌∷◌, flat_map}
use lib.Dec.{T, eqb, eqb→eq}
use Rattle.meaning.specs.Site.{Triple, Site, Voc}
use Rattle.meaning.specs.Move.{self, ahead, inverse, next, edge, node, any, only}
use Rattle.meaning.specs.Expression.{Expr, step, tested, sequence, choice, star, postfix, Expression}
use Rattle.meaning.specs.Relation.{Rel, once, then}
use Rattle.meaning.specs.Question.{Figure}
use Rattle.meaning.proofs.Listed.{◌∈◌, both_pass, all_pass, each, each_right, some, has, unrepeated, given, below}
use Rattle.meaning.proofs.Reached.{rounds, closed}
use Rattle.meaning.proofs.Numbering.{numbered, numbered_right}
use Rattle.meaning.proofs.Listing.{stands_in, stands, allows, rests, passing, moves}
use Rattle.meaning.proofs.Compute.{reached, sure, sure_right, relates, relates_right, figure, figure_right}

-- a row of the table: the answer and the figure that a rule has at a query
pub record Case : Type 0 where
  pub site : Site
  pub rule : Expr
  pub from : ℕ
  pub to : ℕ
  pub answer : Bool
  pub figure : ℕ

abbrev case : Site → Expr → ℕ → ℕ → Bool → ℕ → Case
case s e t u b n = record { site = s; rule = e; from = t; to = u; answer = b; figure = n }

abbrev of : ℕ → ℕ → ℕ → Triple
of s p o = record { subject = s; predicate = p; object = o }

abbrev pub depot : Site
depot = of 0 10 1 ∷ of 1 11 2 ∷ of 2 10 0 ∷ of 10 12 13 ∷ of 11 12 13 ∷ []

unfoldable pub cases : List Case
cases =
    case depot (step 0 (ahead next) (only 10)) 0 1 true 1  -- P1: next::10
    ∷ case depot (star 1 (step 0 (ahead next) (only 10))) 0 0 true 3  -- P2: (next::10)*
    ∷ case depot (star 1 (step 0 (ahead next) any)) 0 2 true 4  -- P3: next*
    ∷ case depot (tested 3 (ahead next) (sequence 2 (step 0 (ahead next) (only 12)) (step 1 self (only 13)))) 0 1 true 4  -- P4: next::[next::12/self::13]
    ∷ case depot (tested 1 self (step 0 (ahead next) (only 12))) 0 0 false 2  -- P5: self::[next::12]
    ∷ case depot (sequence 2 (step 0 (ahead edge) any) (step 1 self any)) 10 12 false 3  -- P6: edge/self
    ∷ case depot (step 0 (inverse node) (only 0)) 1 10 true 1  -- P7: node inverse::0
    ∷ case depot (choice 2 (step 0 (ahead next) (only 10)) (step 1 (ahead next) any)) 0 1 true 3  -- P8: next::10 | next
    ∷ case depot (star 2 (star 1 (step 0 (ahead next) any))) 0 0 true 7  -- P9: (next*)*
    ∷ case depot (star 1 (step 0 (ahead next) any)) 12 12 false 2  -- P10: next*
    ∷ case depot (step 0 (ahead next) any) 200 200 false 1  -- 11: next
    ∷ case depot (star 1 (step 0 (ahead next) any)) 200 200 false 2  -- next*, at a term that stands in no triple
    ∷ case [] (step 0 self (only 5)) 5 5 true 1  -- 12: self::5, empty site
    ∷ case [] (step 0 self any) 5 5 false 1  -- 13: self, empty site
    ∷ case depot (star 1 (step 0 (ahead edge) any)) 10 12 true 3  -- edge*: a round ends outside the vocabulary
    ∷ case depot (star 2 (star 1 (step 0 (ahead edge) any))) 10 12 true 5  -- (edge*)*
    ∷ case depot (sequence 3 (star 1 (step 0 (ahead edge) any)) (step 2 self any)) 10 12 false 6  -- edge*/self
    ∷ case depot (star 1 (step 0 self (only 12))) 12 12 true 2  -- (self::12)*
    ∷ []

-- what a stated answer says: yes that it holds, no that it does not
abbrev pub Answers : Bool → Type 0 → Type 0
Answers true P = P
Answers false P = ¬ P

-- the case is right: its rule is a rule, its answer is that of the relation, and its figure is the figure
pub record Right (c : Case) : Type 0 where
  pub expression : Expression (postfix c.rule) c.rule
  pub answered : Answers c.answer (Rel c.site c.rule c.from c.to)
  pub asked : Figure c.site c.rule c.from c.figure

-- the computed answer is the one stated
says : (b d : Bool) {P : Type 0} → T (beq b d) → (T d ↔ P) → Answers b P
says true true h p = p.0 tt
says true false h p = absurd h
says false true h p = absurd h
says false false h p = p.1

-- what is computed of a case
passes : Case → Bool
passes c =
    numbered 0 c.rule && sure c.site c.rule c.from &&
    (beq c.answer (relates c.site c.rule c.from c.to) && eqb (figure c.site c.rule c.from) c.figure)

passes_right : (c : Case) → T (passes c) → Right c
unfolding passes
passes_right c h =
    let told = relates c.site c.rule c.from c.to in
    let counted = figure c.site c.rule c.from in
    let (n, k, r) = all_pass (numbered 0 c.rule) (sure c.site c.rule c.from) (beq c.answer told && eqb counted c.figure) h in
    let (a, f) = both_pass (beq c.answer told) (eqb counted c.figure) r in
    let safe = sure_right c.site c.rule c.from k in
    record {
      expression = record { order = refl; numbered = numbered_right 0 c.rule n };
      answered = says c.answer told a (relates_right c.site c.rule c.from safe c.to);
      asked = subst (Figure c.site c.rule c.from) (eqb→eq counted c.figure f) (figure_right c.site c.rule c.from safe);
    }

-- the one computation
computed : T (each passes cases)
unfolding cases passes numbered sure relates figure reached rounds closed unrepeated has each some given below flat_map moves passing allows rests stands stands_in
computed = tt

-- every case is right of the relation and of the figure, P1 to P10 among them
pub depot_right : (c : Case) → c ∈ cases → Right c
depot_right c m = passes_right c (each_right passes cases computed c m)

-- a term outside the vocabulary has no empty round: where no round leads from it, the star relates it to nothing
pub star_nowhere : (s : Site) (r : ℕ) (a : Expr) (t u : ℕ) → ¬ Voc s t → ((v : ℕ) → ¬ Rel s a t v) → ¬ Rel s (star r a) t u
star_nowhere s r a t u outside stuck (inl (v, e)) = outside v
star_nowhere s r a t u outside stuck (inr (once h)) = stuck _ h
star_nowhere s r a t u outside stuck (inr (then h p)) = stuck _ h
