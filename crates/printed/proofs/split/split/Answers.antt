-- `printed::split::split` meets its contract: each of its tests is one of `has_query`.
use Prim.Native.Nat.{◌≤◌}
use mathlib.Core.Path.{◌∙◌}
use native.Mathlib.Omega.{arith}
use lib.ListN.{length}
use Rattle.printed.specs.Input.{query_width, input_most, refused}
use Rattle.printed.proofs.Splitting.{too_short, too_long, other_kind, kind_of, splits_parts}
use Rattle.printed.proofs.split.split.Goals as goal
use Rattle.printed.proofs.split.split.Goals.{then-input-gt-INPUT_MOST-via-then-input-gt-INPUT_MOST, then-input-gt-INPUT_MOST-via-else-input-gt-INPUT_MOST+then-kind-ne-QUERY_KIND}

pub returns-in_default : goal.returns-in_default
returns-in_default c = refused (too_short _ c.in_default.ensures.cases)

pub returns-then-input-gt-INPUT_MOST : goal.returns-then-input-gt-INPUT_MOST
unfolding input_most
returns-then-input-gt-INPUT_MOST c =
    let (is_front, is_last, long) = c.in-Some.ensures.cases in
    refused (elim c.then-input-gt-INPUT_MOST.branch [
      | then-input-gt-INPUT_MOST-via-then-input-gt-INPUT_MOST w ↦ too_long _ w.if-input-gt-INPUT_MOST.true
      | then-input-gt-INPUT_MOST-via-else-input-gt-INPUT_MOST+then-kind-ne-QUERY_KIND w ↦ other_kind _ (λ e. w.if-kind-ne-QUERY_KIND.true (kind_of _ is_front is_last ∙ e))
    ])

pub returns : goal.returns
unfolding input_most
returns c =
    let (is_front, is_last, long) = c.in-Some.ensures.cases in
    let start = c.from.ensures ∙ c.from_be_bytes.ensures in
    let end = c.from-2.ensures ∙ c.from_be_bytes-2.ensures in
    let wide : query_width ≤ length c.args.input.now = omega (arith, long) in
    rw (start, end) (splits_parts _ is_front is_last c.if-input-gt-INPUT_MOST.false wide c.if-kind-ne-QUERY_KIND.false c.site_end.ensures.0)
