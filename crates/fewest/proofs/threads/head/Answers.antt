-- `fewest::threads::head` meets its contract: the two bytes that it copies are a cell's value.
use Prim.Native.Nat.{ℕ}
use mathlib.Core.Path.{sym, ◌∙◌, ap}
use mathlib.Core.List.{List}
use lib.ListN.{set}
use Rattle.fewest.proofs.Decoded.{cells_at, cells_set}
use Rattle.fewest.proofs.threads.head.Goals as goal

pub returns : goal.returns
returns c =
    let X = c.args.scratch.now in
    let copied = cells_set X c.args.next _ _ c.requires.1 (sym (cells_at X c.args.first c.requires.0)) in
    record { stored = c.put_cell.ensures ∙ ap (λ (C : List ℕ). set C c.args.first c.args.k) copied }
