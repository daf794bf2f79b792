-- The laws of threads: where none are, what a new first triple leaves, and that a store elsewhere leaves them as they are.
use Prim.Native.Nat.{ℕ, suc, ◌+◌, ◌*◌, ◌/◌, ◌<◌, ◌≤◌, zero-le}
use mathlib.Core.Path.{◌≡◌, refl, sym, ap, ◌∙◌}
use mathlib.Core.Logic.{◌≢◌}
use mathlib.Core.List.{List}
use native.Mathlib.Omega.{arith}
use native.Mathlib.Decide.{ℕ_discrete, dec_lt}
use lib.ListN.{length, get_or, set, length-set}
use lib.Seq.{get_or-set_same, get_or-set_other}
use Rattle.std.specs.Prelude.{None, Some}
use Rattle.meaning.specs.Limits.{terms, triples, records}
use Rattle.meaning.specs.Site.{Triple}
use Rattle.records.specs.Sites.{subject_part, predicate_part, object_part, term_at, Accepted, site_of}
use Rattle.records.specs.declared.Axis.{Axis as CodeAxis}
use Rattle.records.specs.declared.Axis.TheVariants as code
use Rattle.records.proofs.SiteRecord.{Terms}
use Rattle.records.proofs.Parts.{by_parts, triple_terms, triple_parts}
use Rattle.records.proofs.Subjects.{accepted_rises}
use Rattle.fewest.specs.Cells.{cells, nothing}
use Rattle.fewest.specs.Work.{Has}
use Rattle.fewest.specs.Threads.{subject_first, predicate_first, object_first, predicate_next, object_next, free, FirstWith, Firsts, Threaded, subject_of, predicate_of, object_of, ThreadsFrom, Threads, Blank, Headed, start_by, firsts_of, nexts_of, SubjectNext}
use Rattle.fewest.proofs.Decoded.{cells_long}

-- the threads stand in the table, and a cell can hold each triple's number and one that is none
room : free + free ≤ records * terms
unfolding terms triples records
room = omega arith

pub many : triples ≤ nothing
unfolding triples
many = omega arith

headed_long : {C D : List ℕ} {first next k : ℕ} → Headed first next k C D → length D ≡ length C
headed_long headed = rw headed.stored (simp length-set)

module _ {key : ℕ → ℕ} {n : ℕ} where
  -- the triple before, which has another key, is not the first
  first_down : {t k j : ℕ} → key k ≢ t → FirstWith key n t (suc k) j → FirstWith key n t k j
  first_down {t} {k} {j} other f = record {
    own = λ h. let (l, e) = f.own h in (omega arith, e);
    least = λ i l h e. elim (ℕ_discrete k i) [
      | yes same ↦ absurd (other (rw same e))
      | no apart ↦ f.least i (omega arith) h e
    ];
  }

  module _ (at_first : ℕ) where
    firsts_none : (C : List ℕ) → ((t : ℕ) → t < terms → n ≤ get_or C (at_first + t) 0) → Firsts key n at_first C n
    firsts_none C none t h = record { own = λ l. let k = none t h in absurd (omega arith); least = λ i l m e. absurd (omega arith) }

    -- a store beside the firsts
    firsts_set : (C : List ℕ) {k : ℕ} (i v : ℕ) → ((t : ℕ) → t < terms → at_first + t ≢ i) → Firsts key n at_first C k → Firsts key n at_first (set C i v) k
    firsts_set C i v apart old t h = rw (get_or-set_other C i (at_first + t) v 0 (apart t h)) (old t h)

    -- the triple before becomes the first of its term
    firsts_head : (C : List ℕ) {t k : ℕ} → t ≡ key k → at_first + t < length C → Firsts key n at_first C (suc k) →
        Firsts key n at_first (set C (at_first + t) k) k
    firsts_head C {t} {k} own room old u l = elim (ℕ_discrete t u) [
      | yes e ↦ rw (← e, get_or-set_same C (at_first + t) k 0 room) (record { own = λ m. (omega arith, sym own); least = λ i m f g. m })
      | no e ↦
          rw (get_or-set_other C (at_first + t) (at_first + u) k 0 (λ f. e (omega arith)))
          (first_down (λ f. e (own ∙ f)) (old u l))
    ]

    -- a new first of another thread
    firsts_beside : {C D : List ℕ} {first next k m : ℕ} → Headed first next k C D → ((t : ℕ) → t < terms → (at_first + t ≢ first) × (at_first + t ≢ next)) →
        Firsts key n at_first C m → Firsts key n at_first D m
    firsts_beside {C} {D} {first} {next} {k} headed apart old =
        rw headed.stored
        (firsts_set (set C next (get_or C first 0)) first k (λ t h. (apart t h).0)
        (firsts_set C next (get_or C first 0) (λ t h. (apart t h).1) old))

  module _ {at_first at_next : ℕ} where
    threaded_none : (C : List ℕ) → ((t : ℕ) → t < terms → n ≤ get_or C (at_first + t) 0) → Threaded key n at_first at_next C n
    threaded_none C none = record { first = firsts_none at_first C none; next = λ i l h. absurd (omega arith) }

    -- a store beside the threads
    threaded_set : (C : List ℕ) {k : ℕ} (i v : ℕ) → ((t : ℕ) → t < terms → at_first + t ≢ i) → ((j : ℕ) → j < n → at_next + j ≢ i) →
        Threaded key n at_first at_next C k → Threaded key n at_first at_next (set C i v) k
    threaded_set C i v apart beside old = record {
      first = firsts_set at_first C i v apart old.first;
      next = λ j l h. rw (get_or-set_other C i (at_next + j) v 0 (beside j h)) (old.next j l h);
    }

    -- a new first of another thread
    threaded_beside : {C D : List ℕ} {first next k m : ℕ} → Headed first next k C D →
        ((t : ℕ) → t < terms → (at_first + t ≢ first) × (at_first + t ≢ next)) → ((j : ℕ) → j < n → (at_next + j ≢ first) × (at_next + j ≢ next)) →
        Threaded key n at_first at_next C m → Threaded key n at_first at_next D m
    threaded_beside {C} {D} {first} {next} {k} headed apart beside old =
        let w = get_or C first 0 in
        rw headed.stored
        (threaded_set (set C next w) first k (λ t h. (apart t h).0) (λ j h. (beside j h).0)
        (threaded_set C next w (λ t h. (apart t h).1) (λ j h. (beside j h).1) old))

    -- the triple before becomes the first of its own
    threaded_head : {C D : List ℕ} {t k : ℕ} → Headed (at_first + t) (at_next + k) k C D → t ≡ key k →
        at_first + terms ≤ at_next → at_next + n ≤ length C → k < n → t < terms →
        Threaded key n at_first at_next C (suc k) → Threaded key n at_first at_next D k
    threaded_head {C} {D} {t} {k} headed own below room h small old = record { first = first; next = next }
      where
        was : ℕ
        was = get_or C (at_first + t) 0

        first : Firsts key n at_first D k
        first =
            rw headed.stored
            (firsts_head at_first (set C (at_next + k) was) own (simp length-set (omega arith))
            (firsts_set at_first C (at_next + k) was (λ u l f. absurd (omega arith)) old.first))

        next : (i : ℕ) → k ≤ i → i < n → FirstWith key n (key i) (suc i) (get_or D (at_next + i) 0)
        next i l m =
            rw (headed.stored, get_or-set_other (set C (at_next + k) was) (at_first + t) (at_next + i) k 0 (λ f. absurd (omega arith)))
            (elim (ℕ_discrete k i) [
              | yes e ↦ rw (← e, get_or-set_same C (at_next + k) was 0 (omega arith), ← own) (old.first t small)
              | no e ↦ rw (get_or-set_other C (at_next + k) (at_next + i) was 0 (λ f. e (omega arith))) (old.next i (omega arith) m)
            ])

-- what a triple's parts hold are terms, its own
pub part_terms : {b : List ℕ} {k : ℕ} → Has b k → Terms (by_parts b k)
part_terms (n, good, here) = rw (triple_parts good here) at (triple_terms good here)

pub parts_own : (b : List ℕ) {n k s p o : ℕ} → Accepted b n → k < n →
    s ≡ term_at b k subject_part → p ≡ term_at b k predicate_part → o ≡ term_at b k object_part →
    (s ≡ subject_of b n k) × (p ≡ predicate_of b n k) × (o ≡ object_of b n k)
parts_own b good here es ep eo =
    let same = sym (triple_parts good here) in
    (es ∙ ap (λ (x : Triple). x.subject) same, ep ∙ ap (λ (x : Triple). x.predicate) same, eo ∙ ap (λ (x : Triple). x.object) same)

-- a blank table has no triple threaded
pub threads_none : (b X : List ℕ) {n : ℕ} → n ≤ triples → length X ≡ records * terms → Blank X → ThreadsFrom b n n X
threads_none b X {n} few long blank = record {
  subjects = firsts_none subject_first (cells X) (λ t h. rw (blank (subject_first + t) (omega (arith, room))) (omega (arith, many)));
  predicates = threaded_none (cells X) (λ t h. rw (blank (predicate_first + t) (omega (arith, room))) (omega (arith, many)));
  objects = threaded_none (cells X) (λ t h. rw (blank (object_first + t) (omega (arith, room))) (omega (arith, many)));
}

-- one triple more is threaded: by its subject, by its predicate and by its object
pub threads_one : (b X Y : List ℕ) {C D : List ℕ} {n k s p o : ℕ} → Accepted b n → k < n → length X ≡ records * terms →
    (s ≡ subject_of b n k) × (p ≡ predicate_of b n k) × (o ≡ object_of b n k) → C ≡ set (cells X) (subject_first + s) k →
    Headed (predicate_first + p) (predicate_next + k) k C D → Headed (object_first + o) (object_next + k) k D (cells Y) →
    ThreadsFrom b n (suc k) X → ThreadsFrom b n k Y
threads_one b X Y {C} {D} {n} {k} {s} {p} {o} good h long read subject predicate object old =
    let few = good.few in
    let (es, ep, eo) = read in
    let st = (triple_terms good h).subject in
    let pt = (triple_terms good h).predicate in
    let ot = (triple_terms good h).object in
    let wide : length C ≡ length X / 2 = rw subject (simp length-set (cells_long X)) in
    let wider : length D ≡ length X / 2 = headed_long predicate ∙ wide in
    record {
      subjects =
          firsts_beside subject_first object (λ t l. (λ e. omega arith, λ e. omega arith))
          (firsts_beside subject_first predicate (λ t l. (λ e. omega arith, λ e. omega arith))
          (rw subject (firsts_head subject_first (cells X) es (omega (arith, room, cells_long X)) old.subjects)));
      predicates =
          threaded_beside object (λ t l. (λ e. omega arith, λ e. omega arith)) (λ j l. (λ e. omega arith, λ e. omega arith))
          (threaded_head predicate ep (omega arith) (omega (arith, room)) h (omega arith)
          (rw subject (threaded_set (cells X) (subject_first + s) k (λ t l e. omega arith) (λ j l e. omega arith) old.predicates)));
      objects =
          threaded_head object eo (omega arith) (omega (arith, room)) h (omega arith)
          (threaded_beside predicate (λ t l. (λ e. omega arith, λ e. omega arith)) (λ j l. (λ e. omega arith, λ e. omega arith))
          (rw subject (threaded_set (cells X) (subject_first + s) k (λ t l e. omega arith) (λ j l e. omega arith) old.objects)));
    }

-- The first triples of the threads that an axis starts along.
pub along_firsts : (b X : List ℕ) {n : ℕ} (axis : CodeAxis) → Threads b n X → Firsts (start_by axis (site_of b n)) n (firsts_of axis) (cells X) 0
along_firsts b X code.Next threads = threads.subjects
along_firsts b X code.NextInverse threads = threads.objects.first
along_firsts b X code.Edge threads = threads.subjects
along_firsts b X code.EdgeInverse threads = threads.predicates.first
along_firsts b X code.Node threads = threads.predicates.first
along_firsts b X code.NodeInverse threads = threads.objects.first

-- What stands in a term's cell is its first triple.
pub read_first : (C : List ℕ) (at_first : ℕ) {key : ℕ → ℕ} {n t p r : ℕ} → Firsts key n at_first C 0 → t < terms →
    p ≡ at_first + t → r ≡ get_or C p 0 → FirstWith key n t 0 r
read_first C at_first {t = t} firsts h place read = rw (read, place) (firsts t h)

-- What stands in a triple's cell is the next, which is a later one.
pub read_next : {key : ℕ → ℕ} {n at_first at_next : ℕ} {C : List ℕ} {t k p r j : ℕ} → Threaded key n at_first at_next C 0 →
    k < n → key k ≡ t → p ≡ at_next + k → r ≡ get_or C p 0 → (k < r → j ≡ r) → FirstWith key n t (suc k) j
read_next {key} {n} {at_first} {at_next} {C} {t} {k} {p} {r} {j} threaded h own place read later = rw (later up, ← own) next
  where
    next : FirstWith key n (key k) (suc k) r
    next = rw (read, place) (threaded.next k zero-le h)

    up : k < r
    up = elim (dec_lt r n) [ yes l ↦ (next.own l).0 | no l ↦ omega arith ]

-- The triple after is the next with its subject.
module _ (b : List ℕ) {n : ℕ} (good : Accepted b n) (t k : ℕ) where
  read_subject : {r : ℕ} → k + 1 < n → r ≡ term_at b (k + 1) subject_part → r ≡ subject_of b n (k + 1)
  read_subject h read = read ∙ ap (λ (x : Triple). x.subject) (sym (triple_parts good h))

  pub subject_after : {r : ℕ} → k + 1 < n → r ≡ term_at b (k + 1) subject_part → r ≡ t → SubjectNext b n t k (k + 1)
  subject_after h read same = record {
    later = omega arith;
    next = λ own. record { own = λ l. (omega arith, sym (read_subject h read) ∙ same); least = λ i l m e. omega arith };
  }

  -- Where the triple after has another, or there is none, no later one has it: the subjects never fall.
  pub subject_last : k < n → (k + 1 < n → term_at b (k + 1) subject_part ≢ t) → SubjectNext b n t k n
  subject_last here other = record {
    later = here;
    next = λ own. record {
      own = λ l. absurd (omega arith);
      least = λ i l m e.
          let h : k + 1 < n = omega arith in
          let up = accepted_rises good k (k + 1) (omega arith) h in
          let on = accepted_rises good (k + 1) i (omega arith) m in
          let same = read_subject h refl in
          absurd (other h (omega arith));
    };
  }

-- An axis starts at the subject where the site's order tells the next triples.
pub along_order : (b : List ℕ) {n t k j : ℕ} (axis : CodeAxis) → nexts_of axis ≡ None → SubjectNext b n t k j →
    start_by axis (site_of b n) k ≡ t → FirstWith (start_by axis (site_of b n)) n t (suc k) j
along_order b code.Next order by own = by.next own
along_order b code.NextInverse order by own = absurd cc
along_order b code.Edge order by own = by.next own
along_order b code.EdgeInverse order by own = absurd cc
along_order b code.Node order by own = absurd cc
along_order b code.NodeInverse order by own = absurd cc

-- Elsewhere it starts along threads, and the next triples stand there.
pub along_threads : (b X : List ℕ) {n i : ℕ} (axis : CodeAxis) → nexts_of axis ≡ Some i → Threads b n X →
    (at_first : ℕ) × Threaded (start_by axis (site_of b n)) n at_first i (cells X) 0
along_threads b X {i = i} code.Next at threads = absurd cc
along_threads b X {i = i} code.NextInverse at threads = let e : object_next ≡ i = cc in (object_first, rw (← e) threads.objects)
along_threads b X {i = i} code.Edge at threads = absurd cc
along_threads b X {i = i} code.EdgeInverse at threads = let e : predicate_next ≡ i = cc in (predicate_first, rw (← e) threads.predicates)
along_threads b X {i = i} code.Node at threads = let e : predicate_next ≡ i = cc in (predicate_first, rw (← e) threads.predicates)
along_threads b X {i = i} code.NodeInverse at threads = let e : object_next ≡ i = cc in (object_first, rw (← e) threads.objects)
