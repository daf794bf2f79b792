-- What the query program prints for each input (document 01, "The query program"), in terms of the meaning alone.
-- Refusal 16 comes before all others; then the decision's order; the room is one of 1,024 steps.
use Rattle.std.specs.Prelude.{ℕ, ◌+◌, ◌*◌, ◌<◌, ◌≤◌, ◌≡◌, true, false, List, [], ◌∷◌, ◌++◌, length}
use Rattle.meaning.specs.Limits.{none}
use Rattle.meaning.specs.Site.{Mentioned}
use Rattle.meaning.specs.Expression.{Expr, size}
use Rattle.meaning.specs.Relation.{Rel}
use Rattle.meaning.specs.Path.{Path, Conforms}
use Rattle.meaning.specs.Shown.{Shown}
use Rattle.meaning.specs.Fewest.{Fewest}
use Rattle.meaning.specs.Question.{Figure, Count}
use Rattle.records.specs.declared.Refusal.{Refusal}
use Rattle.records.specs.declared.Reason.TheVariants.{Room, Input}
use Rattle.records.specs.Sites.{site_of}
use Rattle.records.specs.Rules.{refusal}
use Rattle.calls.specs.Admission.{AskedOf, starting, ending, Refuses, Admits}
use Rattle.calls.specs.Promise.{room_steps}
use Rattle.printed.specs.Input.{has_query, ahead, SiteEnds, site_part, rule_part, start_of, end_of}
use Rattle.printed.specs.Lines.{refused_line, answer_line, path_lines}

-- the two terms of a query
abbrev pub query : (z v : ℕ) → List AskedOf
query z v = starting z ∷ (ending v ∷ [])

-- what is said of a site, a rule and a query; the ceiling is records times one more than the different terms of the site
pub data Says (s r : List ℕ) (z v : ℕ) : List ℕ → Type 0 where
  refused : {x : Refusal} → Refuses Unit s r (query z v) x → Says s r z v (refused_line x)
  no_room : {n k : ℕ} {e : Expr} → Admits Unit s r (query z v) n e → Fewest (λ q. Conforms (site_of s n) e z q v) k → k < none →
      room_steps < k → Says s r z v (refused_line (refusal Room k))
  no : {n c d : ℕ} {e : Expr} → Admits Unit s r (query z v) n e → Figure (site_of s n) e z c → Count (Mentioned (site_of s n)) d →
      (Rel (site_of s n) e z v → ⊥) → Says s r z v (answer_line false c (size e * (d + 1)) 0)
  yes : {n c d : ℕ} {e : Expr} {p : Path} → Admits Unit s r (query z v) n e → Figure (site_of s n) e z c → Count (Mentioned (site_of s n)) d →
      Shown (λ q. Conforms (site_of s n) e z q v) p → length p ≤ room_steps →
      Says s r z v (answer_line true c (size e * (d + 1)) (length p) ++ path_lines p)

-- what is printed for an input
pub data Printed (input : List ℕ) : List ℕ → Type 0 where
  outside : has_query input ≡ false → Printed input (refused_line (refusal Input 0))
  said : {to : ℕ} {text : List ℕ} → has_query input ≡ true → SiteEnds (ahead input) 0 to →
      Says (site_part input to) (rule_part input to) (start_of input) (end_of input) text → Printed input text
