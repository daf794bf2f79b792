-- One look at a marked question: its test is asked at the middle, and where the label allows that, what follows where it is done.
use Prim.Native.Nat.{ℕ, ◌-◌, ◌<◌}
use mathlib.Core.Path.{◌≡◌, refl, sym, ◌∙◌}
use mathlib.Core.Bool.{Bool, true, false, true≢false, false≢true}
use mathlib.Core.List.{List}
use native.Mathlib.Omega.{arith}
use borrow.Author.Tests.{eqb-true, ltb-true}
use Rattle.meaning.specs.Limits.{terms, records}
use Rattle.meaning.specs.Site.{Site}
use Rattle.meaning.specs.Move.{Axis, any, Move, staying}
use Rattle.meaning.specs.Fewest.{Goal}
use Rattle.records.specs.declared.Label.{Label}
use Rattle.records.specs.declared.Label.TheVariants.{Any, Term, Test}
use Rattle.fewest.specs.declared.look.Moved.{Moved}
use Rattle.fewest.specs.Frame.{Frame, frame}
use Rattle.fewest.specs.Next.{Next}
use Rattle.fewest.specs.Offer.{Work}
use Rattle.fewest.specs.Work.{allowing, work_of}
use Rattle.fewest.proofs.Axes.{Taken}
use Rattle.fewest.proofs.Looks.{named}
use Rattle.asked.specs.Mark.{Marks, marks, Marked, by_step, by_test, by_rest, Done, done, Asking, asking, follows, tests, Marking}
use Rattle.asked.specs.declared.follow.After.{After}
use Rattle.asked.specs.Serve.{markeds, SetMarked}
use Rattle.asked.specs.Seek.{Bits, MarkedIf, is_test, OneArrived, ArrivedIf, Onward, FollowedUp, CalmBy, Goes, along, at_name, in_place, Pursued}
use Rattle.asked.proofs.Marking.{done_grows, marking_then, marking_grows}
use Rattle.asked.proofs.OneMark.{set_asked, if_asked, home_asked}

module _ {F : Frame} {T : List ℕ} {M : Marks} {r : ℕ} where
  -- where the label allows the middle, the expression is done at u
  goes_done : {l : Label} {w : Work} {t i u : ℕ} → Goes F.site l w t i u → Marked M r t → t < terms → allowing T l r i ≡ true → Done F T M r u w
  goes_done (along {l = Any} move) m b ok = done m b (by_step move)
  goes_done (along {l = Term n} {i = i} move) m b ok = done m b (by_step (named move (eqb-true i n ok)))
  goes_done (along {l = Test} move) m b ok = done m b (by_test move (ltb-true _ _ ok))
  goes_done (at_name {n} {t}) m b ok =
      done m b (by_step (staying (record { number = refl; rests = eqb-true t n ok; passes = refl; ends = refl })))
  goes_done (in_place x) m b ok = done m b (by_rest refl x)

  -- a test is asked at the middle
  goes_test : {l : Label} {w : Work} {t i u : ℕ} → Goes F.site l w t i u → Marked M r t → t < terms → is_test l ≡ true → Asking F T M r (r - 1) i w
  goes_test (along {l = Any} move) m b e = absurd (false≢true e)
  goes_test (along {l = Term n} move) m b e = absurd (false≢true e)
  goes_test (along {l = Test} move) m b e = asking m b (tests refl move)
  goes_test at_name m b e = absurd (false≢true e)
  goes_test (in_place x) m b e = absurd (false≢true e)

-- what follows where the expression is done is asked
after : {F : Frame} {T : List ℕ} {M : Marks} {r b u : ℕ} {w : Work} → Done F T M r u w → Next F r b → Asking F T M r b u w
after (done m h l) n = asking m h (follows l n)

-- What follows at u was marked: where the whole rule is done the end, and the records that are asked next.
module _ {up role : List ℕ} {r u : ℕ} {x : After} (onward : Onward up role r x) (small : u < terms) {b b' ends : List ℕ} (one : SetMarked x.set u b b') where
  reach_home : {ends' : List ℕ} → x.home ≡ true → Bits ends → OneArrived u ends ends' →
      FollowedUp up role r u (marks (markeds b) ends) (marks (markeds b') ends')
  reach_home {ends'} home bits end s g T w d =
      let (last, arrived) = home_asked bits end d (onward.ends s g home) in
      let (made, marked) = set_asked one small {F = frame s up role g} {T = T} {w = w} {q = r} {ends = ends'} (λ q h e. after (done_grows (marking_grows last) d) (onward.only s g q h e)) in
      (marking_then last made, record { next = λ q n. let (h, e) = onward.next s g q n in marked q h e; home = λ h o. arrived h })

  reach_on : x.home ≡ false → FollowedUp up role r u (marks (markeds b) ends) (marks (markeds b') ends)
  reach_on away s g T w d =
      let (made, marked) = set_asked one small {F = frame s up role g} {T = T} {w = w} {q = r} {ends = ends} (λ q h e. after d (onward.only s g q h e)) in
      (made, record { next = λ q n. let (h, e) = onward.next s g q n in marked q h e; home = λ h o. absurd (true≢false (sym (onward.home s g o) ∙ away)) })

  pub reached : {ends' : List ℕ} → Bits ends → ArrivedIf x.home u ends ends' → FollowedUp up role r u (marks (markeds b) ends) (marks (markeds b') ends')
  reached {ends'} bits end = by x.home refl
    where
      by : (p : Bool) → x.home ≡ p → FollowedUp up role r u (marks (markeds b) ends) (marks (markeds b') ends')
      by true e = reach_home e bits (end.marked e)
      by false e = rw (end.left e) (reach_on e)

-- A look at what a marked question of record r asks for, past the middle i and at u.
module _ {up role : List ℕ} (T : List ℕ) (l : Label) {r i u : ℕ} {b ends : List ℕ} (row : r < records) (past : i < terms)
    {b' : List ℕ} (test : MarkedIf (is_test l) (r - 1) i b b') where
  -- the test is asked at the middle
  ask : {s : Site} {g : Goal} {w : Work} {t : ℕ} → t < terms → Marked (marks (markeds b) ends) r t → Goes s l w t i u →
      Marking (frame s up role g) T w r (marks (markeds b) ends) (marks (markeds b') ends) × (is_test l ≡ true → Marked (marks (markeds b') ends) (r - 1) i)
  ask from m goes = if_asked (is_test l) test (omega arith) past (goes_test goes m from)

  -- The label does not allow the middle: nothing follows.
  pub pursue_barred : allowing T l r i ≡ false → Pursued up role T l r i u (marks (markeds b) ends) (marks (markeds b') ends)
  pursue_barred bars s g w t from m goes =
      let (made, tested) = ask from m goes in
      (made, record { test = λ e. tested (rw e); next = λ e. absurd (true≢false (sym e ∙ bars)) })

  -- The label allows it, and what follows at u was marked.
  pub pursue_passes : {N : Marks} → allowing T l r i ≡ true → FollowedUp up role r u (marks (markeds b') ends) N →
      Pursued up role T l r i u (marks (markeds b) ends) N
  pursue_passes passes followed s g w t from m goes =
      let (made, tested) = ask from m goes in
      let (last, next) = followed s g T w (goes_done goes ((marking_grows made).marked r t m) from passes) in
      (marking_then made last, record { test = λ e. (marking_grows last).marked (r - 1) i (tested (rw e)); next = λ _. next })

-- A look at the one move of triple number k is a look at the triple.
pub went_by : {s : Site} {up role T : List ℕ} {a : Axis} (l : Label) {r k : ℕ} {m : Moved} {M N : Marks} → Taken s k a m →
    Pursued up role T l r m.middle m.to M N → (g : Goal) (t i u : ℕ) → t < terms → Marked M r t → Move s a any k t i u →
    Marking (frame s up role g) T (work_of a l) r M N × CalmBy (frame s up role g) T l r i u N
went_by {s} l taken look g t i u h m v =
    let (_, past, to) = taken.alone t i u v in
    rw (past, to) (look s g _ t h m (along (rw (past, to) at v)))
