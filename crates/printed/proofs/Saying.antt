-- From what the calls promise to what is said: the decision's refusal or answer, the ceiling, and the path in the room.
use Prim.Native.Nat.{ℕ, ◌+◌, ◌*◌, ◌≤◌}
use mathlib.Core.Path.{◌≡◌, sym, ap, subst}
use mathlib.Core.List.{List, [], append-nil}
use native.Mathlib.Omega.{arith}
use lib.ListN.{length}
use Rattle.std.specs.Prelude.{Ok, Err}
use Rattle.meaning.specs.Site.{Mentioned}
use Rattle.meaning.specs.Expression.{Expr, size}
use Rattle.meaning.specs.Question.{Count}
use Rattle.records.specs.declared.Refusal.{Refusal}
use Rattle.records.specs.Sites.{site_of}
use Rattle.calls.specs.declared.Answer.{Answer}
use Rattle.calls.specs.Admission.{AskedOf, none, Refuses, by_length, by_site, by_rule, by_query, Admits}
use Rattle.calls.specs.Promise.{as_words, Fits, room_steps, Decided, refused as turned-away, no as decided-no, yes as decided-yes, no_room as decided-no-room, Limited, refused as unlimited, at}
use Rattle.calls.proofs.Admitted.{refuses_admits, admits_unique}
use Rattle.calls.proofs.Fronts.{written_long}
use Rattle.printed.specs.declared.split.Parts.{Parts}
use Rattle.printed.specs.Input.{query_width, ahead, site_part, rule_part, Splits, refused as refused-input, parts}
use Rattle.printed.specs.Lines.{refused_line, answer_text}
use Rattle.printed.specs.Printed.{Says, refused, no_room, no, yes, Printed, outside, said}
use Rattle.printed.proofs.Steps.{lines_none, lines_path}
use Rattle.printed.proofs.Splitting.{query_long, ends_within}

-- tables that fit are no ground for a refusal, nor asked for by an answer
refuses_bare : {F : Type 0} {s r : List ℕ} {qs : List AskedOf} {x : Refusal} → F → Refuses F s r qs x → Refuses Unit s r qs x
refuses_bare fits (by_length h) = absurd (h fits)
refuses_bare fits (by_site f c) = by_site tt c
refuses_bare fits (by_rule f c d) = by_rule tt c d
refuses_bare fits (by_query f c d a) = by_query tt c d a

admits_bare : {F : Type 0} {s r : List ℕ} {qs : List AskedOf} {n : ℕ} {e : Expr} → Admits F s r qs n e → Admits Unit s r qs n e
admits_bare a = record { fits = tt; count = a.count; site = a.site; rule = a.rule; expression = a.expression; query = a.query }

admits_unasked : {F : Type 0} {s r : List ℕ} {qs : List AskedOf} {n : ℕ} {e : Expr} → Admits F s r qs n e → Admits Unit s r [] n e
admits_unasked a = record { fits = tt; count = a.count; site = a.site; rule = a.rule; expression = a.expression; query = none }

-- the ceiling of an input that is answered
record Ceiling (s : List ℕ) (n : ℕ) (e : Expr) (most : ℕ) : Type 0 where
  pub different : ℕ
  pub counted : Count (Mentioned (site_of s n)) different
  pub is : most ≡ size e * (different + 1)

ceiling_answered : {F : Type 0} {s r : List ℕ} {qs : List AskedOf} {n most : ℕ} {e : Expr} → Admits F s r qs n e → Limited s r (Ok most) → Ceiling s n e most
ceiling_answered {s = s} a (at {d = d} q count) =
    let (triples, rule) = admits_unique a q in
    record {
      different = d;
      counted = subst (λ k. Count (Mentioned (site_of s k)) d) (sym triples) count;
      is = ap (λ g. size g * (d + 1)) (sym rule);
    }

module _ {s r : List ℕ} {z v : ℕ} {a n room a' n' room' : List ℕ} where
  -- A refusal by the decision is said.
  pub says_refused : {x : Refusal} → Fits as_words a n → length room ≡ 3 * room_steps → Decided as_words s r z v a n room a' n' room' (Err x) →
      Says s r z v (refused_line x)
  says_refused fits long (turned-away p same-a same-n same-room) = refused (refuses_bare (fits, tt) p)
  says_refused fits long (decided-no-room p filled fewest some short same) = no_room (admits_bare p) fewest some (omega arith)

  -- What is answered has its ceiling,
  pub never_refused : {x : Answer} {y : Refusal} → Decided as_words s r z v a n room a' n' room' (Ok x) → Limited s r (Err y) → ⊥
  never_refused (decided-no p filled figure never same) (unlimited q) = refuses_admits q (admits_unasked p)
  never_refused (decided-yes p filled figure shown fits same) (unlimited q) = refuses_admits q (admits_unasked p)

  -- and is said with it and the path that the room holds.
  pub says_answer : {x : Answer} {most : ℕ} → length room ≡ 3 * room_steps → Decided as_words s r z v a n room a' n' room' (Ok x) → Limited s r (Ok most) →
      Says s r z v (answer_text x most room')
  says_answer long (decided-no p filled figure never same) limited =
      let top = ceiling_answered p limited in
      rw (top.is, lines_none room', append-nil) (no (admits_bare p) figure top.counted never)
  says_answer long (decided-yes {p = path} p filled figure shown fits same) limited =
      let top = ceiling_answered p limited in
      rw (top.is, same, lines_path path) (yes (admits_bare p) figure top.counted shown (omega (arith, fits, written_long path)))

  -- the steps of an answer stand in a room of 1,024
  pub answer_steps : {x : Answer} → length room ≡ 3 * room_steps → Decided as_words s r z v a n room a' n' room' (Ok x) → x.steps ≤ room_steps
  answer_steps long (decided-no p filled figure never same) = omega arith
  answer_steps long (decided-yes {p = path} p filled figure shown fits same) = omega (arith, fits, written_long path)

-- What the split refuses is printed so,
pub printed_outside : {s : List ℕ} {x : Refusal} → Splits s (Err x) → Printed s (refused_line x)
printed_outside (refused-input h) = outside h

-- and what is said of the parts is printed.
pub printed_said : {s site rule : List ℕ} {p : Parts} {t : List ℕ} → Splits s (Ok p) → site ≡ site_part s p.rule → rule ≡ rule_part s p.rule →
    Says site rule p.start p.end t → Printed s t
printed_said (parts h e) is_site is_rule said_so = said h e (rw (is_site, is_rule) at said_so)

-- the parts lie in the input
pub parts_within : {s : List ℕ} {p : Parts} → Splits s (Ok p) → (query_width ≤ length s) × (p.rule ≤ length (ahead s))
parts_within {s} (parts h e) = (query_long s h, ends_within e)
