-- What is printed for an input is one text: two that the promise allows are equal.
use Prim.Native.Nat.{ℕ}
use mathlib.Core.Path.{◌≡◌, refl, ap}
use mathlib.Core.List.{List}
use native.Mathlib.Omega.{arith}
use Rattle.meaning.specs.Site.{Mentioned}
use Rattle.meaning.specs.Question.{Asks}
use Rattle.records.specs.declared.Reason.TheVariants.{Room}
use Rattle.records.specs.Rules.{refusal}
use Rattle.calls.proofs.Admitted.{refuses_unique, refuses_admits, admits_unique}
use Rattle.calls.proofs.OneResult.{same_count, same_path, same_steps, same_fewest, not_some, not_shown}
use Rattle.printed.specs.Lines.{refused_line}
use Rattle.printed.specs.Printed.{Says, refused, no_room, no, yes, Printed, outside, said}
use Rattle.printed.proofs.Splitting.{ends_unique}

module _ {s r : List ℕ} {z v : ℕ} where
  says_unique : {t u : List ℕ} → Says s r z v t → Says s r z v u → t ≡ u
  says_unique (refused p) (refused q) = ap refused_line (refuses_unique p q)
  says_unique (refused p) (no_room q fewest some short) = absurd (refuses_admits p q)
  says_unique (refused p) (no q c d never) = absurd (refuses_admits p q)
  says_unique (refused p) (yes q c d shown fits) = absurd (refuses_admits p q)
  says_unique (no_room p fewest some short) (refused q) = absurd (refuses_admits q p)
  says_unique (no_room p fewest some short) (no_room q fewest' some' short') = ap (λ k. refused_line (refusal Room k)) (same_fewest p q z v fewest fewest')
  says_unique (no_room p fewest some short) (no q c d never) = absurd (not_some q p z v never fewest some)
  says_unique (no_room p fewest some short) (yes q c d shown fits) = absurd (omega (arith, same_steps q p z v shown fewest))
  says_unique (no p c d never) (refused q) = absurd (refuses_admits q p)
  says_unique (no p c d never) (no_room q fewest some short) = absurd (not_some p q z v never fewest some)
  says_unique (no p c d never) (no q c' d' never') =
      let figure = same_count p q (λ S e. Asks S e z) c c' in
      let many = same_count p q (λ S e. Mentioned S) d d' in
      let rule = (admits_unique p q).1 in
      cc
  says_unique (no p c d never) (yes q c' d' shown fits) = absurd (not_shown p q z v never shown)
  says_unique (yes p c d shown fits) (refused q) = absurd (refuses_admits q p)
  says_unique (yes p c d shown fits) (no_room q fewest some short) = absurd (omega (arith, same_steps p q z v shown fewest))
  says_unique (yes p c d shown fits) (no q c' d' never) = absurd (not_shown q p z v never shown)
  says_unique (yes p c d shown fits) (yes q c' d' shown' fits') =
      let figure = same_count p q (λ S e. Asks S e z) c c' in
      let many = same_count p q (λ S e. Mentioned S) d d' in
      let rule = (admits_unique p q).1 in
      let path = same_path p q z v shown shown' in
      cc

-- Two texts for one input are equal.
pub printed_unique : {input t u : List ℕ} → Printed input t → Printed input u → t ≡ u
printed_unique (outside p) (outside q) = refl
printed_unique (outside p) (said q e x) = cc
printed_unique (said p e x) (outside q) = cc
printed_unique {input} {u = u} (said p e x) (said q f y) =
    says_unique x (rw (ends_unique e f) y)
