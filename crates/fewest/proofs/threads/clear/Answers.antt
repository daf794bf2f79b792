-- `fewest::threads::clear` meets its contract: the bytes are all those of cells that name nothing.
use Prim.Native.Nat.{ℕ, ◌+◌}
use native.Mathlib.Omega.{arith}
use lib.ListN.{replicate, length-replicate}
use Rattle.std.proofs.lemmas.List.{get_or-replicate}
use Rattle.fewest.specs.Threads.{Blank}
use Rattle.fewest.proofs.Decoded.{cells_at}
use Rattle.fewest.proofs.threads.clear.Goals as goal

blank : (n : ℕ) → Blank (replicate n 255)
blank n i h =
    let long = length-replicate {A = ℕ} n 255 in
    rw (cells_at (replicate n 255) i h, get_or-replicate {A = ℕ} n (i + i) 255 0 (omega (arith, long)), get_or-replicate {A = ℕ} n (i + i + 1) 255 0 (omega (arith, long)))

pub returns : goal.returns
returns c = rw (c.fill.ensures.after (λ y e. e)) (blank _)
