-- A step's triples from t by the threads: every triple before the next one was seen, if it starts at t.
use Prim.Native.Nat.{ℕ, suc, ◌<◌, ◌≤◌, zero-le}
use mathlib.Core.Path.{◌≡◌, refl, sym}
use mathlib.Core.List.{List}
use native.Mathlib.Omega.{arith}
use native.Mathlib.Decide.{ℕ_discrete, dec_lt}
use lib.ListN.{length}
use Rattle.meaning.specs.Site.{Site, triple}
use Rattle.meaning.specs.Move.{Axis, Move, any, going, coming}
use Rattle.meaning.specs.Fewest.{Goal, anywhere}
use Rattle.records.specs.declared.Label.{Label}
use Rattle.meaning.specs.Limits.{terms}
use Rattle.records.specs.Sites.{term_at, Accepted, site_of}
use Rattle.std.specs.Prelude.{Option}
use Rattle.records.specs.declared.Axis.{Axis as CodeAxis}
use Rattle.records.specs.Rules.{axis_of}
use Rattle.records.proofs.Sites.{length-site_of}
use Rattle.fewest.specs.declared.look.Parts.{Parts}
use Rattle.fewest.specs.Frame.{Frame, frame}
use Rattle.fewest.specs.Threads.{FirstWith, start_along, start_by, Threads, ThreadFirst, nexts_of, ThreadNext}
use Rattle.fewest.specs.Work.{work_of, parts_of, moved_at}
use Rattle.fewest.proofs.Axes.{Terms, moved_taken, moved_terms}
use Rattle.fewest.proofs.ByTriples.{Takes, forwards, backwards, axis_takes, by_triple}
use Rattle.fewest.proofs.Keeping.{threads_kept}
use Rattle.asked.specs.Mark.{Marks, marks, Marked, Marking, stay}
use Rattle.asked.specs.Serve.{Kept}
use Rattle.asked.specs.Seek.{Bits, CalmBy, Pursued}
use Rattle.asked.specs.Chase.{WorkAsked}
use Rattle.asked.proofs.Marking.{marking_then, marking_long, marking_bits, marking_grows, calm_by_grows}
use Rattle.asked.proofs.ByMoves.{calm_triples}
use Rattle.asked.proofs.Seeking.{went_by}

-- the triples before number k were seen, for a step of record r from t
pub record Gone (F : Frame) (T : List ℕ) (a : Axis) (l : Label) (r t k : ℕ) (M N : Marks) : Type 0 where
  pub made : Marking F T (work_of a l) r M N
  pub seen : (j i u : ℕ) → j < k → Move F.site a any j t i u → CalmBy F T l r i u N

-- a move starts where its triple does
starts_along : {s : Site} {a : Axis} {k t i u : ℕ} → Takes a → Move s a any k t i u → start_along a (triple s k) ≡ t
starts_along forwards (going x _) = sym x.starts
starts_along backwards (coming x _) = sym x.ends

-- and each triple makes one
goes_along : {s : Site} {a : Axis} {k t : ℕ} → Takes a → k < length s → start_along a (triple s k) ≡ t → (i : ℕ) × (u : ℕ) × Move s a any k t i u
goes_along forwards h e = (_, _, going (record { below = h; starts = sym e; passes = refl; ends = refl }) tt)
goes_along backwards h e = (_, _, coming (record { below = h; starts = refl; passes = refl; ends = sym e }) tt)

module _ (b : List ℕ) {n : ℕ} (axis : CodeAxis) where
  -- no triple before the first one that starts at t, from number k on, does
  none_between : {t k j : ℕ} → FirstWith (start_by axis (site_of b n)) n t k j → (i m u : ℕ) → k ≤ i → i < j →
      Move (site_of b n) (axis_of axis) any i t m u → ⊥
  none_between first i m u after before v =
      let inside : i < n = rw (length-site_of b n) at (by_triple (axis_takes axis) v).0 in
      let late = first.least i after inside (starts_along (axis_takes axis) v) in
      omega arith

  module _ {up role : List ℕ} {g : Goal} {T : List ℕ} {l : Label} {r t : ℕ} where
    gone_none : {k : ℕ} {M : Marks} → FirstWith (start_by axis (site_of b n)) n t 0 k →
        Gone (frame (site_of b n) up role g) T (axis_of axis) l r t k M M
    gone_none first = record { made = stay; seen = λ j i u h v. absurd (none_between first j i u zero-le h v) }

    gone_more : {k j : ℕ} {M N P : Marks} → Gone (frame (site_of b n) up role g) T (axis_of axis) l r t k M N →
        Marking (frame (site_of b n) up role g) T (work_of (axis_of axis) l) r N P →
        ((i u : ℕ) → Move (site_of b n) (axis_of axis) any k t i u → CalmBy (frame (site_of b n) up role g) T l r i u P) →
        FirstWith (start_by axis (site_of b n)) n t (suc k) j → Gone (frame (site_of b n) up role g) T (axis_of axis) l r t j M P
    gone_more {k} {j} gone made here first = record {
      made = marking_then gone.made made;
      seen = λ q i u h v. elim (dec_lt q k) [
        | yes early ↦ calm_by_grows (marking_grows made) (gone.seen q i u early v)
        | no late ↦ elim (ℕ_discrete q k) [
          | yes e ↦ here i u (rw e at v)
          | no other ↦ absurd (none_between first q i u (omega arith) h v)
        ]
      ];
    }

    -- Past the last triple, the question at t was asked on.
    gone_all : {k : ℕ} {M N : Marks} → n ≤ k → Gone (frame (site_of b n) up role g) T (axis_of axis) l r t k M N →
        WorkAsked (frame (site_of b n) up role g) T (work_of (axis_of axis) l) r t M N
    gone_all {k} past gone = (
      gone.made,
      calm_triples (axis_takes axis) l λ j i u v.
          let inside : j < n = rw (length-site_of b n) at (by_triple {s = site_of b n} (axis_takes axis) v).0 in
          gone.seen j i u (omega arith) v,
    )

-- they were, whatever the goal
abbrev pub Seen : List ℕ → ℕ → CodeAxis → Label → List ℕ → List ℕ → List ℕ → (r t k : ℕ) → Marks → Marks → Type 0
Seen b n axis l up role T r t k M N = (g : Goal) → Gone (frame (site_of b n) up role g) T (axis_of axis) l r t k M N

-- Before the first triple from t none was seen, and after the last all were.
module _ {b : List ℕ} {n : ℕ} (axis : CodeAxis) (good : Accepted b n) where
  -- What is read of a triple are terms.
  pub part_terms : {p : Parts} {k : ℕ} → p ≡ parts_of axis → k < n → Terms (moved_at b k p)
  part_terms e inside = moved_terms refl good inside (axis, e)

  module _ {l : Label} {up role T : List ℕ} {r t : ℕ} where
    pub seen_none : {k : ℕ} {M : Marks} → FirstWith (start_by axis (site_of b n)) n t 0 k → Seen b n axis l up role T r t k M M
    seen_none first g = gone_none b axis first

    pub seen_all : {k : ℕ} {M N : Marks} → n ≤ k → Seen b n axis l up role T r t k M N → (g : Goal) →
        WorkAsked (frame (site_of b n) up role g) T (work_of (axis_of axis) l) r t M N
    seen_all past seen g = gone_all b axis past (seen g)

    -- A look at the triple that starts at t, past its middle and where it ends, is one more.
    pub seen_more : {p : Parts} {k j : ℕ} {M N P : Marks} → t < terms → Marked M r t → p ≡ parts_of axis → k < n → start_by axis (site_of b n) k ≡ t →
        Seen b n axis l up role T r t k M N → Pursued up role T l r (term_at b k p.middle) (term_at b k p.to) N P →
        FirstWith (start_by axis (site_of b n)) n t (suc k) j → Seen b n axis l up role T r t j M P
    unfolding moved_at
    seen_more {p} {k} {P = P} small marked e inside here seen look first g =
        let gone = seen g in
        let (i, u, v) = goes_along {s = site_of b n} {k = k} (axis_takes axis) (rw (length-site_of b n) inside) here in
        let taken = moved_taken {m = moved_at b k p} refl good inside axis e in
        let went : (i u : ℕ) → Move (site_of b n) (axis_of axis) any k t i u → Marking (frame (site_of b n) up role g) T (work_of (axis_of axis) l) r _ P × CalmBy (frame (site_of b n) up role g) T l r i u P =
        λ i u v. went_by l taken look g t i u small ((marking_grows gone.made).marked r t marked) v in
        gone_more b axis gone (went i u v).0 (λ i u v. (went i u v).1) first

    -- The ends stay a table of bits, and keep their length.
    pub seen_bits : {k : ℕ} {M : Marks} {L E : List ℕ} → Bits M.ends → Seen b n axis l up role T r t k M (marks L E) →
        Bits E × (length E ≡ length M.ends)
    seen_bits bits seen = let made = (seen anywhere).made in (marking_bits made bits, (marking_long made).1)

  -- The first triple from t by the threads, and the next by threads that were kept.
  pub first_along : {X : List ℕ} {t k : ℕ} → Threads b n X → t < terms → ThreadFirst X axis t k → FirstWith (start_by axis (site_of b n)) n t 0 k
  first_along threads small first = first b n threads small

  pub next_along : {X Y : List ℕ} {t k j : ℕ} {by : Option ℕ} → Threads b n X → Kept X Y → by ≡ nexts_of axis → start_by axis (site_of b n) k ≡ t →
      ThreadNext b n Y by t k j → FirstWith (start_by axis (site_of b n)) n t (suc k) j
  next_along threads kept e here next = next.next axis e (threads_kept good kept.below threads) here
