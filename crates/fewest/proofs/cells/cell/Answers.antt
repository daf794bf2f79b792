-- `fewest::cells::cell` meets its contract: the value is read off its two bytes, and past the end there is none.
use mathlib.Core.Path.{sym}
use native.Mathlib.Omega.{arith}
use lib.ListN.{get_or-eq_default}
use Rattle.fewest.specs.Cells.{cells}
use Rattle.fewest.proofs.Decoded.{cells_at, cells_long}
use Rattle.fewest.proofs.cells.cell.Goals as goal

pub returns-then-scratch-i : goal.returns-then-scratch-i
returns-then-scratch-i c =
    let x = c.args in
    (sym (get_or-eq_default (cells x.scratch.now) 0 (rw (cells_long x.scratch.now) c.if-scratch-i.true)), omega arith)

pub returns : goal.returns
returns c =
    let x = c.args in
    (omega (arith, cells_at x.scratch.now x.i (omega (arith, c.if-scratch-i.false))), omega arith)
