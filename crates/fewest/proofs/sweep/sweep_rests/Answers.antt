use Prim.Native.Nat.{ℕ}
use mathlib.Core.Path.{◌≡◌}
use mathlib.Core.List.{List}
use native.Mathlib.Omega.{arith}
use Rattle.meaning.specs.Limits.{terms}
use Rattle.records.specs.declared.Label.TheVariants.{Any}
use Rattle.records.specs.Sites.{site_of}
use Rattle.fewest.specs.Pairs.{pairs}
use Rattle.fewest.specs.Frame.{frame}
use Rattle.fewest.specs.Threads.{Threads}
use Rattle.fewest.specs.Work.{goal_of, staying, Looks}
use Rattle.fewest.proofs.Sweeps.{lowers_chain}
use Rattle.fewest.proofs.Loops.{seen_none, seen_more}
use Rattle.fewest.proofs.Resting.{AtWord, word_looked, word_passed, words_swept}
use Rattle.fewest.proofs.sweep.sweep_rests.Goals as goal
use Rattle.fewest.proofs.sweep.sweep_rests.Goals.{Joined-word, then-word, else-word}

-- where the arms meet, the term was looked at, or it is no vocabulary term
seen_here : (c : Joined-word) → let at = c.loop-t in let args = c.args in (s : List ℕ) → Threads s args.triples args.scratch.now → (args.cost ≡ 0 → args.label ≡ Any) → let F = frame (site_of s args.triples) args.ahead.now.links.now.up args.ahead.now.links.now.role (goal_of args.ahead.now.goal) in Looks F (staying args.cost args.label) args.r (AtWord F (staying args.cost args.label) args.r at.t) (pairs at.numbers) (pairs c.if-word.numbers) at.changed c.if-word.changed
unfolding terms
seen_here c =
    let args = c.args in
    elim c.if-word.branch [
      | then-word w ↦
          λ s threads any.
          rw (w.numbers-is, w.changed-is)
          (word_looked (c.word.ensures s threads (omega arith)) args.label args.cost w.if-word.true any w.rest-changed.ensures)
      | else-word w ↦
          λ s threads any.
          rw (w.numbers-is, w.changed-is)
          (word_passed (c.word.ensures s threads (omega arith)) (staying args.cost args.label) w.if-word.false)
    ]

pub loop-t-init : goal.loop-t-init
loop-t-init c = λ s threads any. seen_none lowers_chain

pub rest-changed-requires : goal.rest-changed-requires
unfolding terms
rest-changed-requires c =
    let (known, tests, cheap) = c.requires in
    (known, omega arith, tests, cheap)

pub loop-t-preserved : goal.loop-t-preserved
loop-t-preserved c =
    λ s threads any. seen_more lowers_chain (c.loop-t.invariant s threads any) (seen_here c s threads any)

pub returns : goal.returns
unfolding terms
returns c =
    let args = c.args in
    λ s threads nameless any. words_swept args.label args.cost (omega arith) nameless (c.loop-t.invariant s threads any)
