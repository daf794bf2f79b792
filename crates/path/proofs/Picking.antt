-- A walk by the steps picked shows the path: of the shortest the smallest.
-- What a loop that writes the path cites: how the walk begins, goes on and ends.
use Prim.Native.Nat.{ℕ, ◌+◌, ◌<◌}
use mathlib.Core.Path.{◌≡◌, ◌∙◌}
use mathlib.Core.List.{List, [], ◌∷◌, ◌++◌, append_assoc, append-nil}
use native.Mathlib.Omega.{arith}
use lib.ListN.{length, length-append}
use Rattle.std.specs.Prelude.{Some, None, Option}
use Rattle.meaning.specs.Limits.{terms, none}
use Rattle.meaning.specs.Site.{Site}
use Rattle.meaning.specs.Expression.{Rec, Expr, last, whole}
use Rattle.meaning.specs.Path.{Path, taken, Conforms}
use Rattle.meaning.specs.Shown.{Shown}
use Rattle.meaning.specs.Fewest.{Goal, end, State, entered, finished, Way, Fewest}
use Rattle.meaning.proofs.Names.{one_node}
use Rattle.meaning.proofs.Offers.{opens_rule}
use Rattle.meaning.proofs.Greedy.{Chosen, shown_step, shown_end, shown_conforms, step_exists}
use Rattle.fewest.specs.declared.links.Links.{Links}
use Rattle.fewest.proofs.Roles.{along}
use Rattle.path.specs.declared.Taken.{Taken}
use Rattle.path.specs.Pick.{Picked}
use Rattle.path.specs.Walking.{Known, Stands, at_begin, at_end, Walking, Walked, begun, more}
use Rattle.path.proofs.Entering.{stands_rule, stands_record}
use Rattle.path.proofs.Candidates.{candidate_offers, offers_candidate}

module _ {rs : List Rec} {rule : Expr} {L : Links} {s : Site} {g : Goal} {T : List ℕ} (known : Known rs rule L s g T) where
  module _ {x : Option ℕ} {t d : ℕ} {y : State} (stands : Stands rule x t y) (b : t < terms) where
    -- The step picked begins the path shown: with the path shown from where it leads, it is the path shown.
    pub pick_shown : {z : Taken} → Fewest (Way s g y) (d + 1) → Picked (along L s g) T rs L.first x t d (Some z) →
        (w : State) × Stands rule (Some z.by) z.to w × (z.to < terms) × Fewest (Way s g w) d ×
        ((p : Path) → Shown (Way s g w) p → Shown (Way s g y) (taken z.by z.over z.to ∷ p))
    pick_shown {z} fewest (candidate, smallest) =
        let (e, K, q, below, offers, left) = candidate_offers known stands b candidate in
        let chosen : Chosen s g y d e K z.over z.to = record {
          offered = offers;
          left = left;
          smallest = λ f J j v o h. rw q (smallest (last f) j v (offers_candidate known stands b o h));
        } in (
          finished e K z.to,
          at_end (opens_rule offers.opens ∙ stands_rule stands) q,
          below,
          left,
          λ p shown. rw (← q) (shown_step rule (one_node known.expression.numbered) (stands_rule stands) fewest chosen shown),
        )

    -- Where steps are to be taken, something is picked.
    pub pick_something : Fewest (Way s g y) (d + 1) → d + 1 < none → Picked (along L s g) T rs L.first x t d None → ⊥
    pick_something fewest some nothing =
        let (e, K, k, u, offers, left) = step_exists fewest some in
        nothing (last e) k u (offers_candidate known stands b offers left)

  -- the record after which the walk stands is one of the rule's
  pub walking_record : {z n r t d : ℕ} {done : Path} → Walking s g rule z n done (Some r) t d → r < length rs
  walking_record w = stands_record known.expression w.stands

  -- The walk goes on by the step picked.
  pub walking_step : {z n t m d : ℕ} {done : Path} {x : Option ℕ} {y : Taken} → Walking s g rule z n done x t m → m ≡ d + 1 →
      Picked (along L s g) T rs L.first x t d (Some y) →
      Walking s g rule z n (done ++ (taken y.by y.over y.to ∷ [])) (Some y.by) y.to d
  walking_step {done = done} {y = y} w q picked =
      let (state, stands, below, left, shows) = pick_shown w.stands w.below (rw q at w.left) picked in
      record {
        state = state;
        stands = stands;
        below = below;
        some = omega arith;
        left = left;
        count = rw length-append (omega (arith, w.count));
        shows = λ p shown. rw append_assoc (w.shows (taken y.by y.over y.to ∷ p) (shows p shown));
      }

  -- and while steps are to go, one is picked
  pub walking_something : {z n t m d : ℕ} {done : Path} {x : Option ℕ} → Walking s g rule z n done x t m → m ≡ d + 1 →
      Picked (along L s g) T rs L.first x t d None → ⊥
  walking_something w q nothing = pick_something w.stands w.below (rw q at w.left) (rw q at w.some) nothing

module _ {s : Site} {g : Goal} {rule : Expr} {z n : ℕ} where
  -- The walk begins at the rule, with its number of steps to go.
  pub walking_begin : z < terms → Fewest (Way s g (entered rule whole z)) n → n < none → Walking s g rule z n [] None z n
  walking_begin b fewest some = record {
    state = entered rule whole z;
    stands = at_begin;
    below = b;
    some = some;
    left = fewest;
    count = omega arith;
    shows = λ p shown. shown;
  }

  -- With no steps to go, what is done is the path shown.
  pub walking_end : {done : Path} {x : Option ℕ} {t d : ℕ} → Walking s g rule z n done x t d → d ≡ 0 → Shown (Way s g (entered rule whole z)) done
  walking_end w q = rw append-nil at (w.shows [] (shown_end (rw q at w.left)))

-- To the query's end, that is the path shown of those that conform.
pub walking_conforms : {s : Site} {rule : Expr} {z n v : ℕ} {done : Path} {x : Option ℕ} {t d : ℕ} → Walking s (end v) rule z n done x t d → d ≡ 0 →
    Shown (λ q. Conforms s rule z q v) done
walking_conforms {s} {rule} {z} {v = v} w q = shown_conforms s rule z v (walking_end w q)

-- What each step picked has led to is such a walk.
pub walked_walking : {rs : List Rec} {rule : Expr} {L : Links} {s : Site} {g : Goal} {T : List ℕ} {z n t d : ℕ} {done : Path} {x : Option ℕ} →
    Known rs rule L s g T → z < terms → Fewest (Way s g (entered rule whole z)) n → n < none →
    Walked (along L s g) T rs L.first z n done x t d → Walking s g rule z n done x t d
walked_walking known b fewest some begun = walking_begin b fewest some
walked_walking known b fewest some (more w q picked) = walking_step known (walked_walking known b fewest some w) q picked
