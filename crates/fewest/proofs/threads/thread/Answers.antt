use Prim.Native.Nat.{suc, ◌-◌}
use mathlib.Core.Path.{◌≡◌}
use native.Mathlib.Omega.{arith}
use Rattle.meaning.specs.Limits.{terms, records}
use Rattle.fewest.proofs.Threading.{threads_none}
use Rattle.fewest.proofs.threads.thread.Goals as goal

pub loop-k-init : goal.loop-k-init
unfolding terms records
loop-k-init c =
    let x = c.args.site.now in threads_none x.bytes.now _ x.accepted.few (omega arith) c.clear.ensures

pub loop-k-preserved : goal.loop-k-preserved
loop-k-preserved c =
    let last : suc (c.loop-k.k - 1) ≡ c.loop-k.k = omega arith in
    c.thread_one.ensures _ c.args.site.now.accepted (omega arith) (rw last c.loop-k.invariant)

pub returns : goal.returns
returns c =
    let end : c.loop-k.k ≡ 0 = omega arith in
    rw end at c.loop-k.invariant
