-- The promise of each call determines its result, each lent table and the room: two results that it allows are equal.
-- This is so for all inputs, refusals too; of what is lent it asks only that a slice of bytes holds bytes.
use Prim.Native.Nat.{ℕ, ◌*◌, ◌<◌, ◌≤◌}
use mathlib.Core.Path.{◌≡◌, sym, ap, ◌∙◌, subst₂}
use mathlib.Core.Bool.{false}
use mathlib.Core.List.{List, ◌++◌}
use native.Mathlib.Omega.{arith}
use lib.ListN.{length, drop}
use Rattle.std.specs.Prelude.{Result, Ok, Err}
use Rattle.meaning.specs.Limits.{terms, records, none}
use Rattle.meaning.specs.Site.{Site, Mentioned}
use Rattle.meaning.specs.Expression.{Expr}
use Rattle.meaning.specs.Relation.{Rel}
use Rattle.meaning.specs.Path.{Path, Conforms}
use Rattle.meaning.specs.Shown.{Shown}
use Rattle.meaning.specs.Fewest.{Goal, Fewest}
use Rattle.meaning.specs.Question.{Asks, Count}
use Rattle.meaning.proofs.Conforming.{related_iff_path}
use Rattle.meaning.proofs.Counting.{count_unique}
use Rattle.meaning.proofs.Greedy.{shown_unique, shown_fewest}
use Rattle.meaning.proofs.Ways.{fewest_unique, fewest_some}
use Rattle.records.specs.declared.Refusal.{Refusal}
use Rattle.records.specs.declared.Reason.TheVariants.{Room}
use Rattle.records.specs.Sites.{site_of}
use Rattle.records.specs.Rules.{refusal}
use Rattle.calls.specs.declared.Answer.{Answer}
use Rattle.calls.specs.declared.Found.{Found}
use Rattle.calls.specs.Admission.{AskedOf, Admits}
use Rattle.calls.specs.Tables.{QuestionTable, NumberTable, TermTable, written}
use Rattle.calls.specs.Promise.{Form, numbers_of, length_in, lent, Filled, Decided, refused, no, yes, no_room, Ended, found, Started, Limited, at}
use Rattle.calls.proofs.Admitted.{refuses_unique, refuses_admits, admits_unique}
use Rattle.calls.proofs.Fronts.{lent_long}
use Rattle.calls.proofs.OneTable.{questions_unique, terms_unique, Slice, lent_unique}

-- Two answers to one input are for one site and one expression; so what these determine is the same in both.
module _ {F : Type 0} {s r : List ℕ} {qs : List AskedOf} {n m : ℕ} {e g : Expr} (p : Admits F s r qs n e) (q : Admits F s r qs m g) where
  -- what is said of the one site and expression is said of the other
  here : (P : Site → Expr → Type 0) → P (site_of s m) g → P (site_of s n) e
  here P = let (same, alike) = admits_unique p q in subst₂ P (ap (site_of s) (sym same)) (sym alike)

  pub same_count : {A : Type 0} (P : Site → Expr → A → Type 0) {c d : ℕ} → Count (P (site_of s n) e) c → Count (P (site_of s m) g) d → c ≡ d
  same_count P {d = d} x y = count_unique x (here (λ S h. Count (P S h) d) y)

  same_questions : {z : ℕ} {b c : List ℕ} → QuestionTable (site_of s n) e z b → QuestionTable (site_of s m) g z c → b ≡ c
  same_questions {z = z} {c = c} x y = questions_unique x (here (λ S h. QuestionTable S h z c) y)

  same_terms : (P : Site → Expr → ℕ → Type 0) {b c : List ℕ} → TermTable (P (site_of s n) e) b → TermTable (P (site_of s m) g) c → b ≡ c
  same_terms P {c = c} x y = terms_unique x (here (λ S h. TermTable (P S h) c) y)

  same_numbers : (f : Form) {G : Goal} {b c : List ℕ} → Slice f b → Slice f c →
      length b ≡ length_in f (records * terms) → length c ≡ length_in f (records * terms) →
      NumberTable (site_of s n) G e (numbers_of f b) → NumberTable (site_of s m) G g (numbers_of f c) → b ≡ c
  same_numbers f {G} {c = c} small as-small long as_long x y =
      lent_unique f small as-small p.expression.numbered long as_long x (here (λ S h. NumberTable S G h (numbers_of f c)) y)

  same_filled : (f : Form) {z : ℕ} {G : Goal} {a b c d : List ℕ} → Slice f c → Slice f d →
      Filled f (site_of s n) e z G a c → Filled f (site_of s m) g z G b d → (a ≡ b) × (c ≡ d)
  same_filled f small as-small x y =
      (same_questions x.questions y.questions, same_numbers f small as-small x.long y.long x.fewest y.fewest)

  pub same_path : (z v : ℕ) {x y : Path} → Shown (λ o. Conforms (site_of s n) e z o v) x →
      Shown (λ o. Conforms (site_of s m) g z o v) y → x ≡ y
  same_path z v {y = y} a b = shown_unique a (here (λ S h. Shown (λ o. Conforms S h z o v) y) b)

  -- the fewest steps are those of the path shown, and one number
  pub same_steps : (z v : ℕ) {x : Path} {k : ℕ} → Shown (λ o. Conforms (site_of s n) e z o v) x →
      Fewest (λ o. Conforms (site_of s m) g z o v) k → length x ≡ k
  same_steps z v {k = k} a b = shown_fewest (here (λ S h. Fewest (λ o. Conforms S h z o v) k) b) a

  pub same_fewest : (z v : ℕ) {j k : ℕ} → Fewest (λ o. Conforms (site_of s n) e z o v) j →
      Fewest (λ o. Conforms (site_of s m) g z o v) k → j ≡ k
  same_fewest z v {k = k} a b = fewest_unique a (here (λ S h. Fewest (λ o. Conforms S h z o v) k) b)

  -- a room that holds the path is not below it
  room_holds : (f : Form) (z v : ℕ) {x : Path} {j k : ℕ} → Shown (λ o. Conforms (site_of s n) e z o v) x →
      Fewest (λ o. Conforms (site_of s m) g z o v) k → length (lent f (written x)) ≤ j → j < length_in f (3 * k) → ⊥
  room_holds f z v {x} a b h l = let i = rw (lent_long f x, same_steps z v a b) at h in omega arith

  -- there are no fewest steps where the pair is not related
  pub not_some : (z v : ℕ) {k : ℕ} → (Rel (site_of s n) e z v → ⊥) → Fewest (λ o. Conforms (site_of s m) g z o v) k → k < none → ⊥
  not_some z v never b h =
      let (x, conforms) = (fewest_some b).0 h in
      never ((related_iff_path (site_of s n) e z v).1 (x, here (λ S h. Conforms S h z x v) conforms))

  -- no path is shown where the pair is not related
  pub not_shown : (z v : ℕ) {x : Path} → (Rel (site_of s n) e z v → ⊥) → Shown (λ o. Conforms (site_of s m) g z o v) x → ⊥
  not_shown z v {x} never b = never ((related_iff_path (site_of s n) e z v).1 (x, here (λ S h. Conforms S h z x v) b.conforms))

module _ {f : Form} {s r a n m a₁ n₁ m₁ a₂ n₂ m₂ : List ℕ} where
  module _ {z v : ℕ} where
    -- Deciding has one result, and leaves one content in both tables and the room.
    pub decide_unique : {x y : Result Answer Refusal} → Decided f s r z v a n m a₁ n₁ m₁ x → Decided f s r z v a n m a₂ n₂ m₂ y →
        Slice f n₁ → Slice f n₂ → (x ≡ y) × (a₁ ≡ a₂) × (n₁ ≡ n₂) × (m₁ ≡ m₂)
    decide_unique (refused p a n m) (refused q b o l) i j = (ap Err (refuses_unique p q), a ∙ sym b, n ∙ sym o, m ∙ sym l)
    decide_unique (refused p a n m) (no q t d never same) i j = absurd (refuses_admits p q)
    decide_unique (refused p a n m) (yes q t d shown room same) i j = absurd (refuses_admits p q)
    decide_unique (refused p a n m) (no_room q t fewest some room same) i j = absurd (refuses_admits p q)
    decide_unique (no p t c never same) (refused q b o l) i j = absurd (refuses_admits q p)
    decide_unique (no p t c never same) (no q t' c' never' same') i j =
        let (asked, numbers) = same_filled p q f i j t t' in
        let figure = same_count p q (λ S e. Asks S e z) c c' in
        (ap (λ k. Ok (record { yes = false; figure = k; steps = 0 })) figure, asked, numbers, same ∙ sym same')
    decide_unique (no p t c never same) (yes q t' c' shown room same') i j = absurd (not_shown p q z v never shown)
    decide_unique (no p t c never same) (no_room q t' fewest some room same') i j = absurd (not_some p q z v never fewest some)
    decide_unique (yes p t c shown room same) (refused q b o l) i j = absurd (refuses_admits q p)
    decide_unique (yes p t c shown room same) (no q t' c' never same') i j = absurd (not_shown q p z v never shown)
    decide_unique (yes p t c shown room same) (yes q t' c' shown' room' same') i j =
        let (asked, numbers) = same_filled p q f i j t t' in
        let figure = same_count p q (λ S e. Asks S e z) c c' in
        let path = same_path p q z v shown shown' in
        (cc, asked, numbers, same ∙ ap (λ o. lent f (written o) ++ drop (length (lent f (written o))) m) path ∙ sym same')
    decide_unique (yes p t c shown room same) (no_room q t' fewest some short same') i j = absurd (room_holds p q f z v shown fewest room short)
    decide_unique (no_room p t fewest some short same) (refused q b o l) i j = absurd (refuses_admits q p)
    decide_unique (no_room p t fewest some short same) (no q t' c' never same') i j = absurd (not_some q p z v never fewest some)
    decide_unique (no_room p t fewest some short same) (yes q t' c' shown room same') i j = absurd (room_holds q p f z v shown fewest room short)
    decide_unique (no_room p t fewest some short same) (no_room q t' fewest' some' short' same') i j =
        let (asked, numbers) = same_filled p q f i j t t' in
        (ap (λ k. Err (refusal Room k)) (same_fewest p q z v fewest fewest'), asked, numbers, same ∙ sym same')

  -- Listing the ends has one result, and leaves one content in the three tables.
  pub ends_unique : {z : ℕ} {x y : Result Found Refusal} → Ended f s r z a n m a₁ n₁ m₁ x → Ended f s r z a n m a₂ n₂ m₂ y →
      Slice f n₁ → Slice f n₂ → (x ≡ y) × (a₁ ≡ a₂) × (n₁ ≡ n₂) × (m₁ ≡ m₂)
  ends_unique (refused p a n m) (refused q b o l) i j = (ap Err (refuses_unique p q), a ∙ sym b, n ∙ sym o, m ∙ sym l)
  ends_unique (refused p a n m) (found q filled third k c) i j = absurd (refuses_admits p q)
  ends_unique (found p filled third k c) (refused q b o l) i j = absurd (refuses_admits q p)
  ends_unique {z} (found p filled third k c) (found q filled' third' k' c') i j =
      let many = same_count p q (λ S e. Rel S e z) k k' in
      let figure = same_count p q (λ S e. Asks S e z) c c' in
      let (asked, numbers) = same_filled p q f i j filled filled' in (
        cc,
        asked,
        numbers,
        same_terms p q (λ S e. Rel S e z) third third',
      )

  -- Listing the starts has one result, and leaves one content in the three tables.
  pub starts_unique : {v : ℕ} {x y : Result ℕ Refusal} → Started f s r v a n m a₁ n₁ m₁ x → Started f s r v a n m a₂ n₂ m₂ y →
      Slice f n₁ → Slice f n₂ → (x ≡ y) × (a₁ ≡ a₂) × (n₁ ≡ n₂) × (m₁ ≡ m₂)
  starts_unique (refused p a n m) (refused q b o l) i j = (ap Err (refuses_unique p q), a ∙ sym b, n ∙ sym o, m ∙ sym l)
  starts_unique (refused p a n m) (found q clear long numbers third k) i j = absurd (refuses_admits p q)
  starts_unique (found p clear long numbers third k) (refused q b o l) i j = absurd (refuses_admits q p)
  starts_unique {v} (found p clear long numbers third k) (found q clear' long' numbers' third' k') i j = (
    ap Ok (same_count p q (λ S e t. (t < terms) × Rel S e t v) k k'),
    clear ∙ sym clear',
    same_numbers p q f i j long long' numbers numbers',
    same_terms p q (λ S e t. Rel S e t v) third third',
  )

-- The ceiling is one.
pub ceiling_unique : {s r : List ℕ} {x y : Result ℕ Refusal} → Limited s r x → Limited s r y → x ≡ y
ceiling_unique (refused p) (refused q) = ap Err (refuses_unique p q)
ceiling_unique (refused p) (at q d) = absurd (refuses_admits p q)
ceiling_unique (at p d) (refused q) = absurd (refuses_admits q p)
ceiling_unique (at p d) (at q d') =
    let many = same_count p q (λ S e. Mentioned S) d d' in
    let rule = (admits_unique p q).1 in
    cc
