-- `asked::seek::pursue` meets its contract: its test is asked, and the label bars the middle, or what follows is marked.
use mathlib.Core.Path.{sym, ◌∙◌}
use Rattle.fewest.specs.Pairs.{pairs}
use Rattle.asked.proofs.Serving.{kept_then}
use Rattle.asked.proofs.Seeking.{pursue_barred, pursue_passes}
use Rattle.asked.proofs.seek.pursue.Goals as goal

pub returns-then-allows : goal.returns-then-allows
returns-then-allows c =
    let (_, row, _, middle, _) = c.requires in
    let (tested, kept) = c.ask_test.ensures in
    let (followed, more) = c.reach.ensures in (
      λ up role onward. pursue_passes (pairs c.args.numbers.now) c.args.label row middle tested
          (sym c.allows.ensures ∙ c.if-allows.true) (followed up role _ onward),
      kept_then kept more,
    )

pub returns-else-allows : goal.returns-else-allows
returns-else-allows c =
    let (_, row, _, middle, _) = c.requires in
    let (tested, kept) = c.ask_test.ensures in (
      λ up role onward. pursue_barred (pairs c.args.numbers.now) c.args.label row middle tested (sym c.allows.ensures ∙ c.if-allows.false),
      kept,
    )
