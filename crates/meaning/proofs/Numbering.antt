-- That the records of an expression are numbered one by one (document 01, "Records"), as a test.
-- A case that writes its record numbers out is so checked by computation.
use Prim.Native.Nat.{ℕ, ◌+◌}
use mathlib.Core.Bool.{Bool, ◌&&◌}
use lib.Dec.{T, eqb, eqb→eq}
use Rattle.meaning.specs.Expression.{Expr, step, tested, sequence, choice, star, size, Numbered}
use Rattle.meaning.proofs.Listed.{both_pass, all_pass}

unfoldable pub numbered : ℕ → Expr → Bool
numbered n (step r a l) = eqb r n
numbered n (tested r a x) = numbered n x && eqb r (n + size x)
numbered n (sequence r a b) = numbered n a && numbered (n + size a) b && eqb r (n + size a + size b)
numbered n (choice r a b) = numbered n a && numbered (n + size a) b && eqb r (n + size a + size b)
numbered n (star r a) = numbered n a && eqb r (n + size a)

pub numbered_right : (n : ℕ) (e : Expr) → T (numbered n e) → Numbered n e
unfolding numbered
numbered_right n (step r a l) h = eqb→eq r n h
numbered_right n (tested r a x) h =
    let (p, q) = both_pass (numbered n x) (eqb r (n + size x)) h in
    (numbered_right n x p, eqb→eq r (n + size x) q)
numbered_right n (sequence r a b) h =
    let (p, q, e) = all_pass (numbered n a) (numbered (n + size a) b) (eqb r (n + size a + size b)) h in
    (numbered_right n a p, numbered_right (n + size a) b q, eqb→eq r (n + size a + size b) e)
numbered_right n (choice r a b) h =
    let (p, q, e) = all_pass (numbered n a) (numbered (n + size a) b) (eqb r (n + size a + size b)) h in
    (numbered_right n a p, numbered_right (n + size a) b q, eqb→eq r (n + size a + size b) e)
numbered_right n (star r a) h =
    let (p, q) = both_pass (numbered n a) (eqb r (n + size a)) h in
    (numbered_right n a p, eqb→eq r (n + size a) q)
