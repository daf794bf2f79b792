-- A step that names its middle is looked at along the thread of that name, and one that finishes the rule along the thread of the end:
-- what stands between one triple of the thread and the next offers nothing. So the thread seen, every triple was seen.
use Prim.Native.Nat.{ℕ, ◌<◌, ◌≤◌}
use mathlib.Core.Path.{◌≡◌, sym, ◌∙◌}
use mathlib.Core.Logic.{◌≢◌}
use mathlib.Core.Bool.{Bool}
use mathlib.Core.List.{List}
use native.Mathlib.Omega.{arith}
use native.Mathlib.Decide.{dec_lt}
use borrow.Author.Tests.{eqb-true, ne_eqb}
use lib.ListN.{get_or}
use Rattle.meaning.specs.Limits.{none}
use Rattle.meaning.specs.Site.{Triple, Site, triple}
use Rattle.meaning.specs.Move.{Axis, Move, going, coming, any}
use Rattle.meaning.specs.Fewest.{Goal, end}
use Rattle.records.specs.declared.Axis.{Axis as CodeAxis}
use Rattle.records.specs.declared.Label.{Label}
use Rattle.records.specs.declared.Label.TheVariants.{Term}
use Rattle.records.specs.Sites.{site_of}
use Rattle.records.proofs.Sites.{length-site_of}
use Rattle.fewest.specs.Frame.{as_whole, frame}
use Rattle.fewest.specs.Offer.{view, Lowers}
use Rattle.fewest.specs.Sweep.{sum}
use Rattle.fewest.specs.Threads.{FirstWith, start_by, middle_along, finish_along, StartsAt}
use Rattle.fewest.specs.Work.{work_of, QuietBy, Others}
use Rattle.fewest.proofs.Sweeps.{swept_weaken}
use Rattle.fewest.proofs.Roles.{continues_at}
use Rattle.fewest.proofs.Loops.{Seen}
use Rattle.fewest.proofs.ByTriples.{Takes, forwards, backwards, by_triple}

finish_is : {s : Site} {a : Axis} {k t m u : ℕ} → Takes a → Move s a any k t m u → u ≡ finish_along a (triple s k)
finish_is forwards (going p i) = p.ends
finish_is backwards (coming p i) = p.starts

middle_is : {s : Site} {a : Axis} {k t m u : ℕ} → Takes a → Move s a any k t m u → m ≡ middle_along a (triple s k)
middle_is forwards (going p i) = p.passes
middle_is backwards (coming p i) = p.passes

-- Another middle than the named one is not let pass.
pub name_others : (b : List ℕ) (n term : ℕ) (up role : List ℕ) (g : Goal) {a : Axis} (r : ℕ) (X : List ℕ) → Takes a →
    Others b n (middle_along a) term up role g a (Term term) r X
name_others b n term up role g r X takes i other t p u v move passes c = absurd (other (sym (middle_is takes move) ∙ eqb-true p term passes))

-- Where the rule finishes at the end alone, nothing is left at another term.
pub end_others : (b : List ℕ) (n v : ℕ) (up : List ℕ) {role : List ℕ} {g : Goal} {a : Axis} (l : Label) (r : ℕ) (X : List ℕ) → Takes a →
    get_or role r 0 ≡ as_whole → g ≡ end v → ((t : ℕ) → view X r t ≤ none) → Others b n (finish_along a) v up role g a l r X
end_others b n v up l r X takes whole only top i other t p u w move passes c =
    let here : u ≢ v = λ e. other (sym (finish_is takes move) ∙ e) in
    let left = rw only at (continues_at as_whole whole c) in
    let none_left = rw (ne_eqb u v here) at left in
    let few = top t in
    omega arith

module _ (b : List ℕ) {n : ℕ} (by : CodeAxis) {place : Triple → ℕ} {up role : List ℕ} {g : Goal} {a : Axis} (l : Label) (takes : Takes a) (at : StartsAt place by) (term r : ℕ) where
  thread_quiet : {X : List ℕ} {m k j : ℕ} → Others b n place term up role g a l r X → FirstWith (start_by by (site_of b n)) n term m j → m ≤ k →
      ((i : ℕ) → i < k → QuietBy (frame (site_of b n) up role g) a l r i X) → (i : ℕ) → i < j → QuietBy (frame (site_of b n) up role g) a l r i X
  thread_quiet {k = k} others first up seen i h t p u v move passes c = elim (dec_lt i k) [
    | yes early ↦ seen i early t p u v move passes c
    | no late ↦
        let inside : i < n = rw (length-site_of b n) at (by_triple takes move).0 in
        others i (λ e. let least = first.least i (omega arith) inside (at (triple (site_of b n) i) ∙ e) in absurd (omega arith)) t p u v move passes c
  ]

  -- Where the triples before number k are seen, those before the next of the thread are.
  pub thread_seen : {m k j : ℕ} {T U : List ℕ} {was now : Bool} → Others b n place term up role g a l r T → FirstWith (start_by by (site_of b n)) n term m j → m ≤ k →
      Seen sum (Lowers (frame (site_of b n) up role g) (work_of a l) r) (QuietBy (frame (site_of b n) up role g) a l r) k T U was now →
      Seen sum (Lowers (frame (site_of b n) up role g) (work_of a l) r) (QuietBy (frame (site_of b n) up role g) a l r) j T U was now
  thread_seen others first up p = swept_weaken (thread_quiet others first up) p
