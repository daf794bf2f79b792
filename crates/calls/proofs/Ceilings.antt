-- The figure that a call returns is at most the ceiling of the same site and rule, and the steps are at most the figure.
-- So whoever knows the site and the rule knows how much work any query can take.
use Prim.Native.Nat.{ℕ, ◌≤◌, zero-le}
use mathlib.Core.Path.{ap, subst₂}
use mathlib.Core.List.{List}
use mathlib.Core.Logic.Iff
use Rattle.std.specs.Prelude.{Ok}
use Rattle.meaning.specs.Site.{Site}
use Rattle.meaning.specs.Expression.{Expr}
use Rattle.meaning.specs.Fewest.{end}
use Rattle.meaning.specs.Question.{Figure}
use Rattle.meaning.proofs.Ceiling.{figure_ceiling}
use Rattle.meaning.proofs.Greedy.{shown_same}
use Rattle.meaning.proofs.Steps.{steps_figure}
use Rattle.meaning.proofs.Ways.{way_conforms}
use Rattle.records.specs.Sites.{site_of}
use Rattle.calls.specs.declared.Answer.{Answer}
use Rattle.calls.specs.declared.Found.{Found}
use Rattle.calls.specs.Admission.{AskedOf, Admits}
use Rattle.calls.specs.Promise.{Form, Decided, no, yes, Ended, found, Limited, at}
use Rattle.calls.proofs.Admitted.{admits_unique}

-- a figure of the call's site and rule is at most their ceiling, whatever was lent and asked
admitted_ceiling : (z : ℕ) {F : Type 0} {s r : List ℕ} {qs : List AskedOf} {n c k : ℕ} {e : Expr} → Admits F s r qs n e →
    Figure (site_of s n) e z k → Limited s r (Ok c) → k ≤ c
admitted_ceiling z {s = s} {k = k} p figure (at {n = m} {e = g} q d) =
    let (same, alike) = admits_unique p q in
    let here = subst₂ (λ (S : Site) (h : Expr). Figure S h z k) (ap (site_of s) same) alike figure in
    figure_ceiling (site_of s m) g z q.expression.numbered here d

-- The figure of a decision is at most the ceiling,
pub decide_ceiling : {f : Form} {s r : List ℕ} {z v : ℕ} {a n m a' n' m' : List ℕ} {x : Answer} {c : ℕ} →
    Decided f s r z v a n m a' n' m' (Ok x) → Limited s r (Ok c) → x.figure ≤ c
decide_ceiling {z = z} (no p t figure never same) l = admitted_ceiling z p figure l
decide_ceiling {z = z} (yes p t figure shown room same) l = admitted_ceiling z p figure l

-- and so is that of a list of ends.
pub ends_ceiling : {f : Form} {s r : List ℕ} {z : ℕ} {a n m a' n' m' : List ℕ} {x : Found} {c : ℕ} →
    Ended f s r z a n m a' n' m' (Ok x) → Limited s r (Ok c) → x.figure ≤ c
ends_ceiling {z = z} (found p filled third k figure) l = admitted_ceiling z p figure l

-- The steps of a decision are at most its figure.
pub decide_steps : {f : Form} {s r : List ℕ} {z v : ℕ} {a n m a' n' m' : List ℕ} {x : Answer} →
    Decided f s r z v a n m a' n' m' (Ok x) → x.steps ≤ x.figure
decide_steps (no p t figure never same) = zero-le
decide_steps {s = s} {z = z} {v = v} (yes {n = n} {e = e} p t figure shown room same) =
    let way = shown_same (λ q. Iff.symm (way_conforms (site_of s n) e z q v)) shown in
    steps_figure (site_of s n) (end v) z e p.expression.numbered way.conforms way.shortest figure
