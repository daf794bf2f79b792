-- The search for a word: the vocabulary is the subjects and the objects of the triples, and both are threaded.
use Prim.Native.Nat.{ℕ, ◌<◌, ◌≤◌, zero-le}
use mathlib.Core.Path.{◌≡◌, refl, sym}
use mathlib.Core.Logic.{◌≢◌, inl, inr, ⊎_elim}
use mathlib.Core.Bool.{Bool, true, false}
use mathlib.Core.List.{List}
use native.Mathlib.Omega.{arith}
use lib.ListN.{length}
use lib.Dec.{ltb}
use borrow.Author.Tests.{ltb-true, ltb-false}
use Rattle.meaning.specs.Site.{Triple, Site, triple, Voc}
use Rattle.records.specs.Sites.{site_of}
use Rattle.records.specs.declared.Axis.{Axis as CodeAxis}
use Rattle.records.specs.declared.Axis.TheVariants as code
use Rattle.records.specs.Rules.{axis_of}
use Rattle.records.proofs.Sites.{length-site_of}
use Rattle.fewest.specs.Threads.{FirstWith, start_along, start_by}
use Rattle.fewest.specs.Tells.{Tells, holds, fails}
use Rattle.fewest.specs.Words.{StandsAs}
use Rattle.fewest.proofs.Tells.{told, told_not}

module _ {key : Triple → ℕ} {s : Site} {t : ℕ} where
  stands_found : {k : ℕ} → k < length s → t ≡ key (triple s k) → Tells (StandsAs key s t) true
  stands_found {k} h e = holds (record { number = k; below = h; stands = e })

  stands_none : {m : ℕ} → length s ≤ m → ((k : ℕ) → k < m → t ≢ key (triple s k)) → Tells (StandsAs key s t) false
  stands_none l none = fails λ v. let h = v.below in none v.number (omega arith) v.stands

-- The first triple of a term's thread tells whether there is one.
thread_tells : (key : Triple → ℕ) (b : List ℕ) {n t first : ℕ} → FirstWith (λ j. key (triple (site_of b n) j)) n t 0 first →
    Tells (StandsAs key (site_of b n) t) (ltb first n)
thread_tells key b {n} {t} {first} found = go (ltb first n) refl
  where
    go : (d : Bool) → ltb first n ≡ d → Tells (StandsAs key (site_of b n) t) d
    go true q = let h = ltb-true first n q in stands_found (rw (length-site_of b n) h) (sym (found.own h).1)
    go false q = stands_none {m = n} (rw (length-site_of b n) (omega arith)) λ k below same.
        let past = ltb-false first n q in
        let least = found.least k zero-le below (sym same) in
        omega arith

-- So it does by where an axis starts.
pub start_tells : (axis : CodeAxis) (b : List ℕ) {n t first : ℕ} → FirstWith (start_by axis (site_of b n)) n t 0 first →
    Tells (StandsAs (start_along (axis_of axis)) (site_of b n) t) (ltb first n)
start_tells axis b = thread_tells (start_along (axis_of axis)) b

-- Some triple starts at the term along this axis, or none does.
abbrev Starting : CodeAxis → Site → ℕ → Bool → Type 0
Starting axis s t = Tells (StandsAs (start_along (axis_of axis)) s t)

-- A word is a subject, where next starts, or an object, where its inverse does.
module _ {s : Site} {t : ℕ} {first : Bool} (tells : Starting code.Next s t first) where
  pub word_subject : first ≡ true → Tells (Voc s t) first
  word_subject e = let x = told tells e in rw e (holds (record { number = x.number; below = x.below; stands = inl x.stands }))

  pub word_object : {second : Bool} → first ≡ false → Starting code.NextInverse s t second → Tells (Voc s t) second
  word_object e (holds x) = holds (record { number = x.number; below = x.below; stands = inr x.stands })
  word_object e (fails n) = fails λ v.
      ⊎_elim (λ q. told_not tells e (record { number = v.number; below = v.below; stands = q }))
      (λ q. n (record { number = v.number; below = v.below; stands = q })) v.stands
