-- `fewest::look::move_at` meets its contract: an axis takes parts of the record, and each is read.
use Prim.Native.Nat.{ℕ, ◌+◌, ◌*◌, ◌<◌, ◌≤◌}
use mathlib.Core.List.{List}
use native.Mathlib.Omega.{arith}
use lib.ListN.{length}
use Rattle.records.specs.Sites.{triple_width, Accepted}
use Rattle.fewest.specs.Work.{moved_at}
use Rattle.fewest.proofs.Axes.{axial_inside}
use Rattle.fewest.proofs.look.move_at.Goals as goal

-- the record of one of the triples is whole
whole : {b : List ℕ} {n k : ℕ} → Accepted b n → k < n → (k + 1) * triple_width ≤ length b
whole good h = omega (arith, good.long)

pub term_at-requires : goal.term_at-requires
term_at-requires c = (whole c.args.site.now.accepted c.requires.0, (axial_inside c.requires.1).from)

pub term_at-requires-2 : goal.term_at-requires-2
term_at-requires-2 c = (whole c.args.site.now.accepted c.requires.0, (axial_inside c.requires.1).middle)

pub term_at-requires-3 : goal.term_at-requires-3
term_at-requires-3 c = (whole c.args.site.now.accepted c.requires.0, (axial_inside c.requires.1).to)

pub returns : goal.returns
unfolding moved_at
returns c = cc
