-- Text put behind text: nothing, and one text and then another.
use Prim.Native.Nat.{ℕ}
use mathlib.Core.Path.{refl, sym, ap, ◌∙◌}
use mathlib.Core.List.{List, [], ◌++◌, append_assoc, append-nil}
use native.Mathlib.Omega.{arith}
use lib.ListN.{length-append}
use Rattle.printed.specs.declared.put.Text.{Text}
use Rattle.printed.specs.Put.{said, Put}

pub put_none : {most : ℕ} (b : Text most) → Put [] b b
put_none b = record { ends = omega arith; holds = sym (append-nil (said b)); long = refl }

pub put_then : {most : ℕ} {s t : List ℕ} {b m a : Text most} → Put s b m → Put t m a → Put (s ++ t) b a
put_then {s = s} {t} {b = b} p q = record {
  ends = omega (arith, p.ends, q.ends, length-append s t);
  holds = q.holds ∙ ap (λ l. l ++ t) p.holds ∙ append_assoc (said b) s t;
  long = q.long ∙ p.long;
}
