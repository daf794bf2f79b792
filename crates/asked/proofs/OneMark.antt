-- A set of questions that is marked at a term, and an end: what `mark` and `arrive` leave. What is asked for is marked then, and was
-- marked rightly, one record after the other.
use Prim.Native.Nat.{ℕ, zero, suc, ◌*◌, ◌^◌, ◌<◌, ◌≤◌, max}
use mathlib.Core.Path.{◌≡◌, refl, sym, ◌∙◌}
use mathlib.Core.Bool.{Bool, true, false, false≢true}
use mathlib.Core.Logic.{inl, inr, ◌≢◌}
use mathlib.Core.List.{List}
use native.Mathlib.Nat.{le_refl}
use native.Mathlib.Omega.{arith}
use native.Mathlib.Decide.{ℕ_discrete, dec_lt}
use lib.ListN.{length, get_or, set, length-set}
use lib.Seq.{get_or-set_same}
use Rattle.meaning.specs.Limits.{terms, records}
use Rattle.fewest.specs.Frame.{Frame}
use Rattle.fewest.specs.Next.{Home}
use Rattle.fewest.specs.Offer.{place, view, Work}
use Rattle.fewest.proofs.Places.{place_below, view_set_same, view_set_other}
use Rattle.asked.specs.Words.{bit, marks_at}
use Rattle.asked.specs.Mark.{marks, Marked, Done, Asking, Marking, stay, mark, arrive}
use Rattle.asked.specs.Serve.{markeds, SetMarked}
use Rattle.asked.specs.Seek.{Bits, MarkedIf, OneArrived}
use Rattle.asked.proofs.Marking.{marking_grows, asking_grows}
use Rattle.asked.proofs.WordBits.{bit_own, bit_other, same_views, length-questions, questions_bits}

-- each entry is 0 or 1
view_bit : (b : List ℕ) (r t : ℕ) → view (markeds b) r t ≤ 1
unfolding view Bits
view_bit b r t = questions_bits marks_at b (place r t)

-- What is marked stays marked.
pub set_keeps : {new t : ℕ} {b b' : List ℕ} → SetMarked new t b b' → {r u : ℕ} → r < records → u < terms → view (markeds b) r u ≡ 1 → view (markeds b') r u ≡ 1
set_keeps {t = t} one {r} {u} h k m = elim (ℕ_discrete u t) [
  | yes e ↦ rw e (one.there r h ∙ (let here = rw e at m in omega arith))
  | no e ↦ one.others r u h k e ∙ m
]

-- The questions of a set of records are marked at t, and each of them is asked for.
module _ {new t : ℕ} {b b' : List ℕ} (one : SetMarked new t b b') (small : t < terms)
    {F : Frame} {T : List ℕ} {w : Work} {q : ℕ} {ends : List ℕ}
    (asks : (r : ℕ) → r < records → bit new r ≡ 1 → Asking F T (marks (markeds b) ends) q r t w) where
  -- those of the first n records of the set
  record Added (n : ℕ) (l : List ℕ) : Type 0 where
    long : length l ≡ records * terms
    there : (r : ℕ) → r < n → view l r t ≡ max (view (markeds b) r t) (bit new r)
    later : (r : ℕ) → n ≤ r → r < records → view l r t ≡ view (markeds b) r t
    others : (r u : ℕ) → r < records → u < terms → u ≢ t → view l r u ≡ view (markeds b) r u
    made : Marking F T w q (marks (markeds b) ends) (marks l ends)

  -- one record more, which leaves the table as it is or marks it
  stays : {n : ℕ} {l : List ℕ} → n < records → Added n l → view l n t ≡ max (view (markeds b) n t) (bit new n) → Added (suc n) l
  stays {n} h added e = record {
    long = added.long;
    there = λ r k. elim (ℕ_discrete r n) [ yes z ↦ rw z e | no z ↦ added.there r (omega arith) ];
    later = λ r k. added.later r (omega arith);
    others = added.others;
    made = added.made;
  }

  marks_one : {n : ℕ} {l : List ℕ} → n < records → Added n l → bit new n ≡ 1 → view l n t ≡ 0 → Added (suc n) (set l (place n t) 1)
  marks_one {n} {l} h added e z = record {
    long = length-set l (place n t) 1 ∙ added.long;
    there = λ r k. elim (ℕ_discrete r n) [
      | yes z' ↦ rw (z', view_set_same l n t 1 (rw added.long (place_below h small))) (omega (arith, added.later n (omega arith) h))
      | no z' ↦ rw (view_set_other l {r = n} {q = r} {t = t} {u = t} 1 small small (inl (λ y. z' (sym y)))) (added.there r (omega arith))
    ];
    later = λ r k m. rw (view_set_other l {r = n} {q = r} {t = t} {u = t} 1 small small (inl (omega arith))) (added.later r (omega arith) m);
    others = λ r u k m apart. rw (view_set_other l {r = n} {q = r} {t = t} {u = u} 1 small m (inr (λ y. apart (sym y)))) (added.others r u k m apart);
    made = mark added.made small (asking_grows (marking_grows added.made) (asks n h e)) z;
  }

  -- one after the other
  added : (n : ℕ) → n ≤ records → (l : List ℕ) × Added n l
  added zero h = (
    markeds b,
    record {
      long = length-questions marks_at b;
      there = λ r k. absurd (omega arith);
      later = λ r k m. refl;
      others = λ r u k m apart. refl;
      made = stay;
    },
  )
  added (suc n) h =
      let (l, before) = added n (omega arith) in
      let here = before.later n (omega arith) (omega arith) in
      elim (ℕ_discrete (bit new n) 1) [
        | yes e ↦ elim (ℕ_discrete (view l n t) 0) [
          | yes z ↦ (set l (place n t) 1, marks_one (omega arith) before e z)
          | no z ↦ (l, stays (omega arith) before (omega (arith, view_bit b n t)))
        ]
        | no e ↦ (l, stays (omega arith) before (omega arith))
      ]

  -- What is asked for is marked.
  pub set_asked : Marking F T w q (marks (markeds b) ends) (marks (markeds b') ends) × ((r : ℕ) → r < records → bit new r ≡ 1 → Marked (marks (markeds b') ends) r t)
  set_asked =
      let (l, all) = added records (le_refl records) in
      let same : l ≡ markeds b' = same_views l (markeds b') all.long (length-questions marks_at b') (λ r u h k. elim (ℕ_discrete u t) [
        | yes e ↦ rw e (all.there r h ∙ sym (one.there r h))
        | no e ↦ all.others r u h k e ∙ sym (one.others r u h k e)
      ]) in
      (rw same at all.made, λ r h e. one.there r h ∙ (omega (arith, view_bit b r t)))

-- One question is.
pub only_asked : {r t : ℕ} {b b' : List ℕ} → SetMarked (2 ^ r) t b b' → r < records → t < terms →
    {F : Frame} {T : List ℕ} {w : Work} {q : ℕ} {ends : List ℕ} → Asking F T (marks (markeds b) ends) q r t w →
    Marking F T w q (marks (markeds b) ends) (marks (markeds b') ends) × Marked (marks (markeds b') ends) r t
only_asked {r} one h k {F} {T} {w} {q} {ends} a =
    let (made, marked) = set_asked one k {F = F} {T = T} {w = w} {q = q} {ends = ends} (λ n l e. rw (own n e) a) in
    (made, marked r h (bit_own r))
  where
    own : (n : ℕ) → bit (2 ^ r) n ≡ 1 → n ≡ r
    own n e = elim (ℕ_discrete n r) [ yes z ↦ z | no z ↦ absurd (omega (arith, bit_other r n z)) ]

-- The same of a mark that is made where a test says so.
pub if_asked : {r t : ℕ} {b b' : List ℕ} {F : Frame} {T : List ℕ} {w : Work} {q : ℕ} {ends : List ℕ} (p : Bool) → MarkedIf p r t b b' →
    r < records → t < terms → (p ≡ true → Asking F T (marks (markeds b) ends) q r t w) →
    Marking F T w q (marks (markeds b) ends) (marks (markeds b') ends) × (p ≡ true → Marked (marks (markeds b') ends) r t)
if_asked true m h k a = let (made, marked) = only_asked (m.marked refl) h k (a refl) in (made, λ _. marked)
if_asked false m h k a = rw (m.left refl) (stay, λ e. absurd (false≢true e))

-- An end at which the whole rule is done is marked, where the table reaches so far.
pub home_asked : {F : Frame} {T : List ℕ} {w : Work} {r u : ℕ} {b ends ends' : List ℕ} → Bits ends →
    OneArrived u ends ends' → Done F T (marks b ends) r u w → Home F r →
    Marking F T w r (marks b ends) (marks b ends') × (u < length ends' → get_or ends' u 0 ≡ 1)
unfolding Bits
home_asked {u = u} {b} {ends} bits one d o = elim (dec_lt u (length ends)) [
  | yes h ↦ elim (ℕ_discrete (get_or ends u 0) 0) [
    | yes e ↦ rw (one.fresh h e) (arrive stay h d o e, λ _. get_or-set_same ends u 1 0 h)
    | no e ↦ let z : get_or ends u 0 ≡ 1 = omega (arith, bits u) in rw (one.old h z) (stay, λ _. z)
  ]
  | no h ↦ rw (one.outside (omega arith)) (stay, λ k. absurd (h k))
]
