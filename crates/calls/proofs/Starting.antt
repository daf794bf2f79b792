-- What listing the starts leaves is what it promises: the bits of the whole rule's row, which is the last record's, are the
-- starts, and their sum is the number of starts. One law each serves both forms.
use Prim.Native.Nat.{ℕ, ◌+◌, ◌*◌, ◌-◌, ◌<◌}
use mathlib.Core.Path.{◌≡◌, refl}
use mathlib.Core.List.{List}
use native.Mathlib.Omega.{arith}
use lib.ListN.{length}
use Rattle.std.specs.Prelude.{Ok, Err}
use Rattle.meaning.specs.Limits.{terms, records, none}
use Rattle.meaning.specs.Site.{Site}
use Rattle.meaning.specs.Expression.{Expr, last, Expression}
use Rattle.meaning.specs.Relation.{Rel}
use Rattle.meaning.specs.Fewest.{Goal, end}
use Rattle.meaning.specs.Question.{Tells}
use Rattle.records.specs.declared.Refusal.{Refusal}
use Rattle.records.specs.declared.Reason.TheVariants.{TableLength}
use Rattle.records.specs.Sites.{site_of}
use Rattle.records.specs.Rules.{records_of, refusal}
use Rattle.fewest.specs.Frame.{Links}
use Rattle.fewest.specs.Pairs.{pairs}
use Rattle.fewest.specs.Table.{Full}
use Rattle.fewest.specs.Told.{bit_of, Told}
use Rattle.fewest.specs.Offer.{view}
use Rattle.fewest.proofs.Telling.{bit_some}
use Rattle.asked.proofs.Bridge.{starts_numbered}
use Rattle.calls.specs.declared.query.Query.{Query}
use Rattle.calls.specs.Admission.{by_length}
use Rattle.calls.specs.Tables.{NumberTable, TermTable}
use Rattle.calls.specs.Given.{Given}
use Rattle.calls.specs.Inner.{TurnedAway, SoundQuery, StartsFound, lent_as}
use Rattle.calls.specs.Promise.{Form, as_words, as_bytes, numbers_of, length_in, Fits, Started, refused, found}
use Rattle.calls.proofs.Admits.{turned_refuses_end, read_last, read_admits_end}
use Rattle.calls.proofs.NumbersLeft.{settled_table}
use Rattle.calls.proofs.TermTables.{table_same, table_count}

-- A number table in byte pairs is one as it is lent, in either form.
table_as : (f : Form) {s : Site} {g : Goal} {e : Expr} (b : List ℕ) → length b ≡ records * terms + records * terms → NumberTable s g e (pairs b) →
    (length (lent_as f b) ≡ length_in f (records * terms)) × NumberTable s g e (numbers_of f (lent_as f b))
table_as as_words b full table = (table.long, table)
table_as as_bytes b full table = (full, table)

-- A row that is told in bits tells where it has a number.
pub told_table : {T : List ℕ} {r : ℕ} {b : List ℕ} → Told T r terms b → TermTable (λ t. view T r t < none) b
told_table {T} {r} told = record { long = told.long; tells = λ t h. rw (told.each t h) (some t) }
  where
    some : (t : ℕ) → Tells (view T r t < none) (bit_of (view T r t))
    some t = let (bit, exactly) = bit_some (view T r t) in record { bit = bit; exactly = exactly }

module _ {s r : List ℕ} {n c : ℕ} {starts : List ℕ} {L : Links} (given : Given s r n c starts L) {v : ℕ} where
  -- in the whole rule's row of the number table those are the starts
  told_starts : {e : Expr} {T b : List ℕ} → Expression (records_of r) e → NumberTable (site_of s n) (end v) e T → Told T (c - 1) terms b →
      TermTable (λ t. Rel (site_of s n) e t v) b
  told_starts {e} {T} x table told =
      let row : c - 1 ≡ last e = omega (arith, read_last given.read x) in
      table_same (λ t h. rw row (starts_numbered (site_of s n) e v T table.numbers t h)) (told_table told)

module _ (f : Form) {s r : List ℕ} {v : ℕ} {asked numbers third : List ℕ} where
  -- A length that is wrong is refused;
  pub starts_short : (Fits f asked numbers × (length third ≡ terms) → ⊥) →
      Started f s r v asked numbers third asked numbers third (Err (refusal TableLength 0))
  starts_short wrong = refused (by_length wrong) refl refl refl

  -- what is turned away is refused;
  pub starts_turned : {x : Refusal} → Fits f asked numbers × (length third ≡ terms) → TurnedAway s r 0 v x →
      Started f s r v asked numbers third asked numbers third (Err x)
  starts_turned fits away = refused (turned_refuses_end fits away) refl refl refl

  -- and what was listed, in byte pairs, is found, as they are lent.
  pub starts_listed : {q : Query} {asked' bytes third' : List ℕ} {k : ℕ} → Fits f asked numbers × (length third ≡ terms) →
      SoundQuery s r 0 v q → StartsFound q asked' bytes third' k →
      Started f s r v asked numbers third asked' (lent_as f bytes) third' (Ok k)
  unfolding Full
  starts_listed {q = q} {asked' = asked'} {bytes = bytes} {third' = third'} {k = k} fits sound done =
      let given : Given q.site.bytes.now q.rule.now q.site.triples q.count q.starts done.links = record { read = q.read; links = done.built } in
      let listed = done.listed in
      let (e, admitted) = read_admits_end fits q.read q.end_fits in
      let x = admitted.expression in
      let table = settled_table given x bytes listed.long listed.settled in
      let starts = told_starts given x table listed.told in
      let (long, lent) = table_as f bytes listed.long table in
      let started : Started f q.site.bytes.now q.rule.now q.end asked numbers third asked' (lent_as f bytes) third' (Ok k) = found {k = k} admitted listed.clear long lent starts (rw listed.count (table_count starts)) in
      rw (sound.site, sound.rule, sound.to) at started
