-- Document 01's numbers of the refusals are different, and none is 0.
-- So a caller that is given the number is given the reason, and 0 is free to mean that nothing was refused.
use Prim.Native.Nat.{ℕ, ◌<◌}
use mathlib.Core.Path.{◌≡◌, refl, sym, ◌∙◌, ap}
use mathlib.Core.Bool.{Bool, true, false, cond}
use native.Mathlib.Omega.{arith}
use lib.Dec.{eqb}
use Rattle.std.specs.Prelude.{None, Some}
use Rattle.meaning.specs.Move.{self, ahead, inverse, next, edge, node}
use Rattle.records.specs.Refusals.{number_of}
use Rattle.records.specs.Rules.{axis_numbered, axis_coded, axis_meant}
use Rattle.records.specs.declared.Axis.TheVariants as code
use Rattle.records.specs.declared.Reason.{Reason}
use Rattle.records.specs.declared.Reason.TheVariants.{TableLength, SiteKind, SiteCut, SiteLong, SiteTerm, SiteOrder, RuleLong, RuleKind, RuleCut, RuleAxis, RuleTerm, TooFew, NotOne, QueryTerm, Room, Input}

-- the reason with this number
reason_of : ℕ → Reason
reason_of n =
    cond (eqb n 1) TableLength
    (cond (eqb n 2) SiteKind
    (cond (eqb n 3) SiteCut
    (cond (eqb n 4) SiteLong
    (cond (eqb n 5) SiteTerm
    (cond (eqb n 6) SiteOrder
    (cond (eqb n 7) RuleLong
    (cond (eqb n 8) RuleKind
    (cond (eqb n 9) RuleCut
    (cond (eqb n 10) RuleAxis
    (cond (eqb n 11) RuleTerm
    (cond (eqb n 12) TooFew
    (cond (eqb n 13) NotOne
    (cond (eqb n 14) QueryTerm
    (cond (eqb n 15) Room Input))))))))))))))

numbered : (r : Reason) → (reason_of (number_of r) ≡ r) × (0 < number_of r)
unfolding reason_of
numbered TableLength = (refl, omega arith)
numbered SiteKind = (refl, omega arith)
numbered SiteCut = (refl, omega arith)
numbered SiteLong = (refl, omega arith)
numbered SiteTerm = (refl, omega arith)
numbered SiteOrder = (refl, omega arith)
numbered RuleLong = (refl, omega arith)
numbered RuleKind = (refl, omega arith)
numbered RuleCut = (refl, omega arith)
numbered RuleAxis = (refl, omega arith)
numbered RuleTerm = (refl, omega arith)
numbered TooFew = (refl, omega arith)
numbered NotOne = (refl, omega arith)
numbered QueryTerm = (refl, omega arith)
numbered Room = (refl, omega arith)
numbered Input = (refl, omega arith)

-- Two reasons with one number are one reason,
pub number_injective : (r r' : Reason) → number_of r ≡ number_of r' → r ≡ r'
number_injective r r' e = sym (numbered r).0 ∙ ap reason_of e ∙ (numbered r').0

-- and no number is 0.
pub number_positive : (r : Reason) → 0 < number_of r
number_positive r = (numbered r).1

-- The code's axis with a number is document 01's.
pub coded_axis : (n : ℕ) → axis_meant (axis_coded n) ≡ axis_numbered n
unfolding axis_coded axis_numbered
coded_axis n = go (eqb n 0) (eqb n 1) (eqb n 2) (eqb n 3) (eqb n 4) (eqb n 5)
  where
    go : (a b c d e f : Bool) →
        axis_meant (cond a None (cond b (Some code.Next) (cond c (Some code.NextInverse) (cond d (Some code.Edge) (cond e (Some code.EdgeInverse)
        (cond f (Some code.Node) (Some code.NodeInverse))))))) ≡
        cond a self (cond b (ahead next) (cond c (inverse next) (cond d (ahead edge) (cond e (inverse edge) (cond f (ahead node) (inverse node))))))
    go true b c d e f = refl
    go false true c d e f = refl
    go false false true d e f = refl
    go false false false true e f = refl
    go false false false false true f = refl
    go false false false false false true = refl
    go false false false false false false = refl
