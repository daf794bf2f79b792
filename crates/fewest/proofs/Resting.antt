-- A record's row is lowered by staying: at each vocabulary term, for an empty round or a self without a name, or at a name.
-- Each term seen and told whether it is a vocabulary term, every one of these was seen.
use Prim.Native.Nat.{ℕ, ◌*◌, ◌<◌, ◌≤◌}
use mathlib.Core.Path.{◌≡◌, refl}
use mathlib.Core.Logic.{◌⊎◌, ◌≢◌}
use mathlib.Core.Bool.{Bool, true, false, cond}
use mathlib.Core.List.{List}
use native.Mathlib.Omega.{arith}
use lib.Dec.{eqb}
use Rattle.meaning.specs.Limits.{terms}
use Rattle.meaning.specs.Site as meant
use Rattle.meaning.specs.Move.{self, Move, staying, only}
use Rattle.meaning.specs.Fewest.{Goal}
use Rattle.records.specs.declared.Triple.{Triple}
use Rattle.records.specs.declared.Label.{Label}
use Rattle.records.specs.declared.Label.TheVariants.{Any, Term, Test}
use Rattle.records.specs.Sites.{site_of, triple_of, triple_width, in_code}
use Rattle.records.proofs.Sites.{length-site_of, triple_site_of}
use Rattle.fewest.specs.Frame.{Frame, frame}
use Rattle.fewest.specs.Offer.{Work, stepping, resting, Offer, by_step, by_test, by_rest, Lowers, Quiet}
use Rattle.fewest.specs.Sweep.{sum}
use Rattle.fewest.specs.Work.{work_of, staying as stayingBy, Looks, QuietAt, at_word, Rested, Nameless, WorkSwept}
use Rattle.fewest.specs.Tells.{Tells}
use Rattle.fewest.proofs.Tells.{told, told_not}
use Rattle.fewest.proofs.Sweeps.{lowers_chain, swept_none, swept_weaken}
use Rattle.fewest.proofs.Loops.{Seen}

-- A term at an end of triple number k is a vocabulary term.
pub word : (b : List ℕ) {n k : ℕ} → k < n → {t : ℕ} →
    (t ≡ (meant.triple (site_of b n) k).subject) ⊎ (t ≡ (meant.triple (site_of b n) k).object) → meant.Voc (site_of b n) t
word b {n} {k} h stands = record { number = k; below = rw (length-site_of b n) h; stands = stands }

-- The ends of triple number k, as the code holds it.
module _ (b : List ℕ) {n k : ℕ} {x : Triple} (here : x ≡ in_code (triple_of b (k * triple_width))) (h : k < n) where
  pub subject_is : x.subject ≡ (meant.triple (site_of b n) k).subject
  subject_is = rw (here, triple_site_of b n k h)

  pub object_is : x.object ≡ (meant.triple (site_of b n) k).object
  object_is = rw (here, triple_site_of b n k h)

-- A label whose variant is not the named one has no name.
pub nameless : (l : Label) → ((n : ℕ) → l ≢ Term n) → Nameless l
nameless Any other = tt
nameless (Term n) other = absurd (other n refl)
nameless Test other = tt

-- where no name is given, staying is offered at vocabulary terms only
at_words : {F : Frame} {T : List ℕ} {r t v : ℕ} (l : Label) (empty : Bool) → Nameless l →
    Offer F T r t (cond empty resting (work_of self l)) v → meant.Voc F.site t
at_words Any true free (by_rest x c) = x
at_words Any false free (by_step (staying x) c) = x.rests
at_words Test true free (by_rest x c) = x
at_words Test false free (by_test (staying x) h c) = x.rests
at_words (Term _) empty free _ = elim free [ ]

-- what is seen of staying at a term: at a vocabulary term nothing lower is offered
abbrev pub AtWord : Frame → Work → ℕ → ℕ → List ℕ → Type 0
AtWord F w r t X = meant.Voc F.site t → QuietAt F w r t X

module _ {s : meant.Site} {t : ℕ} {is_word : Bool} (tells : Tells (meant.Voc s t) is_word) {up role : List ℕ} {g : Goal} where
  -- A vocabulary term was looked at,
  pub word_looked : (l : Label) (cost : ℕ) {r : ℕ} {T U : List ℕ} {was now : Bool} → is_word ≡ true → (cost ≡ 0 → l ≡ Any) →
      Rested up role g l cost r t T U was now → Looks (frame s up role g) (stayingBy cost l) r (AtWord (frame s up role g) (stayingBy cost l) r t) T U was now
  word_looked l cost e any p = swept_weaken (λ quiet v. quiet) (p s (at_word (told tells e)) any)

  -- and at another nothing is to be seen.
  pub word_passed : (w : Work) {r : ℕ} {T : List ℕ} {was : Bool} → is_word ≡ false →
      Looks (frame s up role g) w r (AtWord (frame s up role g) w r t) T T was was
  word_passed w e = swept_none lowers_chain (λ v. absurd (told_not tells e v))

-- Each term seen, staying was looked at wherever it is offered.
pub words_swept : {F : Frame} (l : Label) (cost : ℕ) {r k : ℕ} {T U : List ℕ} {was now : Bool} → terms ≤ k → Nameless l →
    Seen sum (Lowers F (stayingBy cost l) r) (AtWord F (stayingBy cost l) r) k T U was now → WorkSwept F (stayingBy cost l) r T U was now
words_swept l cost past free p = swept_weaken (λ seen t v b o. seen t (omega arith) (at_words l (eqb cost 0) free o) v o) p

-- a named self stays at its name
at_name : {s : meant.Site} {n k t m u : ℕ} → Move s self (only n) k t m u → t ≡ n
at_name (staying x) = x.rests

-- Staying at its name looked at, a named self was swept.
pub name_swept : {F : Frame} {l : Label} {n r : ℕ} {T U : List ℕ} {was now : Bool} → l ≡ Term n →
    Looks F (stepping self (only n)) r (QuietAt F (stepping self (only n)) r n) T U was now → WorkSwept F (work_of self l) r T U was now
name_swept {F} {n = n} {r} e p = rw e (swept_weaken only_there p)
  where
    only_there : {X : List ℕ} → QuietAt F (stepping self (only n)) r n X → Quiet F (stepping self (only n)) r X
    only_there seen t v b (by_step x c) = rw (at_name x) (seen v (by_step (rw (at_name x) at x) c))
