-- `fewest::threads::same_subject` meets its contract: triples with the same subject stand together.
use mathlib.Core.Path.{◌∙◌}
use native.Mathlib.Omega.{arith}
use Rattle.fewest.proofs.Threading.{subject_after, subject_last}
use Rattle.fewest.proofs.threads.same_subject.Goals as goal
use Rattle.fewest.proofs.threads.same_subject.Goals.{else-next-site-via-then-next-site+else-term_at-t, else-next-site-via-else-next-site}

pub returns-then-term_at-t : goal.returns-then-term_at-t
returns-then-term_at-t c =
    subject_after _ c.args.site.now.accepted _ _ c.if-next-site.true c.term_at.ensures c.if-term_at-t.true

pub returns : goal.returns
returns c =
    subject_last _ c.args.site.now.accepted _ _ c.requires (λ inside same. elim c.else-next-site.branch [
      | else-next-site-via-then-next-site+else-term_at-t w ↦ w.if-term_at-t.false (w.term_at.ensures ∙ same)
      | else-next-site-via-else-next-site w ↦ absurd (omega (arith, w.if-next-site.false))
    ])
