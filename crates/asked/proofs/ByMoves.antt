-- A step at t is looked at by its moves from t, and staying by t itself. Where every move from t was seen, the question at t asks
-- for nothing unmarked. A copy asks for the operand, and is never done itself.
use Prim.Native.Nat.{ℕ, ◌<◌, ◌^◌}
use mathlib.Core.Path.{◌≡◌, refl, ◌∙◌}
use mathlib.Core.Bool.{Bool, true, false}
use mathlib.Core.Logic.{◌≢◌}
use mathlib.Core.List.{List}
use borrow.Author.Tests.{eq-eqb, lt-ltb}
use Rattle.meaning.specs.Limits.{terms, records}
use Rattle.meaning.specs.Site as meant
use Rattle.meaning.specs.Move.{Axis, self, Move, staying, going, coming, any, only}
use Rattle.meaning.specs.Move as move
use Rattle.records.specs.declared.Label.{Label}
use Rattle.records.specs.declared.Label.TheVariants.{Any, Term, Test}
use Rattle.records.specs.Sites.{site_of}
use Rattle.fewest.specs.Frame.{Frame}
use Rattle.fewest.specs.Offer.{Work, copying, resting}
use Rattle.fewest.specs.Tells.{Tells}
use Rattle.fewest.specs.Threads.{Threads}
use Rattle.fewest.specs.Work.{work_of, Nameless}
use Rattle.fewest.proofs.ByTriples.{Takes, by_triple}
use Rattle.fewest.proofs.Tells.{told, told_not}
use Rattle.asked.specs.Mark.{Marks, marks, Marked, Leads, by_step, by_test, by_rest, Wants, follows, tests, enters, asking, Marking, stay, CalmAt}
use Rattle.asked.specs.Serve.{markeds, SetMarked}
use Rattle.asked.specs.Seek.{AllNext, CalmBy, Goes, along, in_place, Pursued}
use Rattle.asked.specs.Chase.{WorkAsked, Stay, as_empty, as_step, StayAsked}
use Rattle.asked.proofs.Marking.{never_leads}
use Rattle.asked.proofs.OneMark.{only_asked}

-- the label of the moves that a step with this label takes: a test lets each be tried
abbrev tried : Label → move.Label
tried Any = any
tried (Term n) = only n
tried Test = any

-- past a named middle goes no other
named : {s : meant.Site} {a : Axis} {n k t i u : ℕ} → Move s a (only n) k t i u → i ≡ n
named (staying x) = x.passes ∙ x.rests
named (going x e) = e
named (coming x e) = e

-- each move from t seen
abbrev Tried : Frame → List ℕ → Axis → Label → ℕ → ℕ → Marks → Type 0
Tried F T a l r t X = (k i u : ℕ) → Move F.site a (tried l) k t i u → CalmBy F T l r i u X

module _ {F : Frame} {T : List ℕ} {a : Axis} {r t : ℕ} {X : Marks} where
  -- what follows where the step is done is marked
  tried_next : (l : Label) → Tried F T a l r t X → {u : ℕ} → Leads F T r t u (work_of a l) → AllNext F r u X
  tried_next Any seen (by_step v) = (seen _ _ _ v).next refl
  tried_next (Term n) seen (by_step v) = (seen _ _ _ v).next (eq-eqb _ _ (named v))
  tried_next Test seen (by_test v holds) = (seen _ _ _ v).next (lt-ltb _ _ holds)

  -- and so is all that it asks for
  tried_asks : (l : Label) → Tried F T a l r t X → {b v : ℕ} → Wants F T r t b v (work_of a l) → Marked X b v
  tried_asks Any seen (follows d n) = (tried_next Any seen d).next _ n
  tried_asks (Term m) seen (follows d n) = (tried_next (Term m) seen d).next _ n
  tried_asks Test seen (follows d n) = (tried_next Test seen d).next _ n
  tried_asks Test seen (tests e v) = rw e ((seen _ _ _ v).test refl)

  -- Each move seen, nothing that the step asks for is unmarked.
  calm_step : (l : Label) → Tried F T a l r t X → CalmAt F T (work_of a l) r t X
  calm_step l seen = record { asks = λ b v h q. tried_asks l seen q; arrives = λ u h d o. (tried_next l seen d).home h o }

  -- The moves of an axis that takes triples need no label.
  pub calm_triples : Takes a → (l : Label) → ((k i u : ℕ) → Move F.site a any k t i u → CalmBy F T l r i u X) → CalmAt F T (work_of a l) r t X
  calm_triples takes l seen = calm_step l (λ k i u v. seen k i u (by_triple takes v).1)

-- nothing that an empty round asks for is unmarked
calm_rest : {F : Frame} {T : List ℕ} {r t : ℕ} {X : Marks} → (meant.Voc F.site t → CalmBy F T Any r t t X) → CalmAt F T resting r t X
calm_rest {F} {T} {r} {t} {X} seen = record { asks = λ b v h q. asks q; arrives = λ u h d o. (next d).home h o }
  where
    next : {u : ℕ} → Leads F T r t u resting → AllNext F r u X
    next (by_rest same v) = rw same ((seen v).next refl)

    asks : {b v : ℕ} → Wants F T r t b v resting → Marked X b v
    asks (follows d n) = (next d).next _ n

-- a self step without a name is taken at a vocabulary term, which is its middle and where it ends
calm_stay : {F : Frame} {T : List ℕ} {l : Label} {w : Work} {r t : ℕ} {X : Marks} → Stay l w → Nameless l →
    (meant.Voc F.site t → CalmBy F T l r t t X) → CalmAt F T w r t X
calm_stay as_empty free seen = calm_rest seen
calm_stay {F} {T} {l} {r = r} {t} {X} as_step free seen = calm_step l (there l free seen)
  where
    there : (l : Label) → Nameless l → (meant.Voc F.site t → CalmBy F T l r t t X) → Tried F T self l r t X
    there Any free seen k i u (staying x) = rw (x.passes, x.ends) (seen x.rests)
    there Test free seen k i u (staying x) = rw (x.passes, x.ends) (seen x.rests)
    there (Term _) free seen k i u _ = elim free [ ]

-- one stays at a vocabulary term
stays : {s : meant.Site} {l : Label} {w : Work} {t : ℕ} → Stay l w → meant.Voc s t → Goes s l w t t t
stays as_empty v = in_place v
stays as_step v = along (staying (record { number = refl; rests = v; passes = refl; ends = refl }))

module _ {X up role T : List ℕ} {l : Label} {n r t : ℕ} (h : t < terms) {M : Marks} (marked : Marked M r t) {ok : Bool}
    (word : (b : List ℕ) → Threads b n X → t < terms → Tells (meant.Voc (site_of b n) t) ok) where
  -- Staying at a vocabulary term was looked at,
  pub word_looked : ok ≡ true → {N : Marks} → Pursued up role T l r t t M N → StayAsked n X up role T l r t M N
  word_looked yea look b g w threads free kind =
      let (made, calm) = look (site_of b n) g w t h marked (stays kind (told (word b threads h) yea)) in
      (made, calm_stay kind free (λ _. calm))

  -- and at another nothing is to be seen.
  pub word_passed : ok ≡ false → StayAsked n X up role T l r t M M
  word_passed nay b g w threads free kind = (stay, calm_stay kind free (λ v. absurd (told_not (word b threads h) nay v)))

-- A named self step stays at its name, and elsewhere asks for nothing.
module _ {F : Frame} {T : List ℕ} {n r t : ℕ} {M : Marks} where
  pub name_looked : {N : Marks} → Marking F T (work_of self (Term n)) r M N × CalmBy F T (Term n) r t t N → WorkAsked F T (work_of self (Term n)) r t M N
  name_looked (made, calm) = (made, calm_step (Term n) (there calm))
    where
      there : {N : Marks} → CalmBy F T (Term n) r t t N → Tried F T self (Term n) r t N
      there calm k i u (staying x) = rw (x.passes, x.ends) calm

  pub name_passed : t ≢ n → WorkAsked F T (work_of self (Term n)) r t M M
  name_passed other = (stay, calm_step (Term n) away)
    where
      away : Tried F T self (Term n) r t M
      away k i u (staying x) = absurd (other x.rests)

-- The operand was marked where its parent is.
pub copy_asked : {F : Frame} {T : List ℕ} {a r t : ℕ} {b b' ends : List ℕ} → a < records → t < terms →
    Marked (marks (markeds b) ends) r t → SetMarked (2 ^ a) t b b' → WorkAsked F T (copying a) r t (marks (markeds b) ends) (marks (markeds b') ends)
copy_asked {F} {T} {a} {r} {t} {b' = b'} {ends} h k m one =
    let (made, marked) = only_asked one h k (asking m k (enters refl refl)) in
    (made, record { asks = λ q v l p. asks marked p; arrives = λ u l d o. absurd (never_leads d) })
  where
    asks : {q v : ℕ} → Marked (marks (markeds b') ends) a t → Wants F T r t q v (copying a) → Marked (marks (markeds b') ends) q v
    asks marked (follows d n) = absurd (never_leads d)
    asks marked (enters e same) = rw (e, same) marked
