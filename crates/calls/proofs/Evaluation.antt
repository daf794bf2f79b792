-- The tables that an evaluation leaves are document 01's: the questions and the figure, the numbers, the ends.
-- So what the functions inside a call promise to one another becomes what the call promises.
use Prim.Native.Nat.{ℕ, ◌+◌, ◌*◌, ◌-◌, ◌<◌, ◌≤◌}
use mathlib.Core.Path.{◌≡◌, refl}
use mathlib.Core.List.{List}
use native.Mathlib.Omega.{arith}
use lib.ListN.{length}
use Rattle.meaning.specs.Limits.{terms, records, none}
use Rattle.meaning.specs.Site.{Site, Within}
use Rattle.meaning.specs.Expression.{Expr, last, Expression, whole}
use Rattle.meaning.specs.Relation.{Rel}
use Rattle.meaning.specs.Fewest.{Goal, entered, Way, Fewest, Numbers}
use Rattle.meaning.specs.Question.{Figure, Count}
use Rattle.records.specs.Sites.{site_of}
use Rattle.records.specs.Rules.{records_of}
use Rattle.fewest.specs.Frame.{Links}
use Rattle.fewest.specs.Offer.{view}
use Rattle.fewest.specs.Sweep.{sum}
use Rattle.fewest.proofs.Bridge.{settled_numbers}
use Rattle.asked.specs.Mark.{marks}
use Rattle.asked.specs.Seek.{Bits}
use Rattle.asked.proofs.Bridge.{marked_questions, marked_figure, marked_ends, marked_ends_count, last_record}
use Rattle.asked.proofs.Fair.{Fair, begun_fair, marks_on_fair}
use Rattle.path.specs.Walking.{Known}
use Rattle.calls.specs.Given.{Given}
use Rattle.calls.specs.Inner.{Numbered, Evaluated, lent_as}
use Rattle.calls.specs.Tables.{TermTable}
use Rattle.calls.specs.Promise.{Form, as_words, as_bytes, Filled}
use Rattle.calls.proofs.Fronts.{numbers_long}
use Rattle.calls.proofs.Admits.{given_ready, given_linked, read_size, read_last, read_counted}

-- Tables filled in byte pairs are filled in either form.
pub filled_as : (f : Form) {s : Site} {e : Expr} {z : ℕ} {g : Goal} {asked numbers : List ℕ} → Filled as_bytes s e z g asked numbers →
    Filled f s e z g asked (lent_as f numbers)
filled_as as_words filled = record { questions = filled.questions; long = filled.fewest.long; fewest = filled.fewest }
filled_as as_bytes filled = filled

module _ {s r : List ℕ} {n c : ℕ} {starts : List ℕ} {L : Links} (given : Given s r n c starts L) {e : Expr} (x : Expression (records_of r) e) where
  -- the site's terms are terms,
  within : Within (site_of s n)
  within = (given_ready given).good.within

  -- and the rule's records are few enough
  few : length (records_of r) ≤ records
  few = let ready = given_ready given in omega (arith, ready.few, ready.counted)

  module _ {g : Goal} {T : List ℕ} (S : Numbered s n r L.up L.role L.first g T) where
    settled : Numbers (site_of s n) g e (view T) ×
        ((q t : ℕ) → length (records_of r) ≤ q → q < records → t < terms → view T q t ≡ none)
    settled = settled_numbers within x (given_linked given x) few refl S.reached S.settled

    -- The numbers are the fewest steps of each record at each term; the walk along the path goes by them.
    pub numbered_known : Known (records_of r) e L (site_of s n) g T
    numbered_known = record { expression = x; linked = given_linked given x; within = within; numbers = settled.0 }

    -- The numbers of the whole rule, in its last record's row, are the fewest steps of a path.
    pub numbered_steps : {z : ℕ} → z < terms → Fewest (Way (site_of s n) g (entered e whole z)) (view T (c - 1) z)
    unfolding Numbers
    numbered_steps {z} start =
        let row : c - 1 ≡ last e = omega (arith, read_last given.read x) in
        rw row (settled.0 e whole refl z start)

  module _ {g : Goal} {z k : ℕ} {asked numbers ends : List ℕ} (E : Evaluated s n r L.up L.role L.first g z k asked numbers ends)
      (start : z < terms) where
    -- The sum of the byte table is the work figure.
    pub evaluated_figure : Figure (site_of s n) e z (sum asked)
    evaluated_figure = marked_figure within x (given_linked given x) few (settled E.settled).0 start (E.marked g)

    fair : Fair (site_of s n) z e (marks asked ends)
    fair = marks_on_fair x few (given_linked given x) within (settled E.settled).0 (rw (last_record x) (E.marked g).reached) (begun_fair x few k start)

    -- The byte table and the table of ends hold 0 and 1, so that they can be counted.
    pub evaluated_bits : Bits asked × Bits ends
    unfolding Bits
    evaluated_bits = (fair.bits, fair.end_bits)

    -- The two tables are filled as for an answer.
    pub evaluated_filled : length numbers ≡ records * terms + records * terms → Filled as_bytes (site_of s n) e z g asked numbers
    evaluated_filled long = record {
      questions = record {
        long = fair.long;
        tells = λ q t h b. marked_questions within x (given_linked given x) few (settled E.settled).0 start (E.marked g) q t b;
      };
      long = long;
      fewest = record {
        long = numbers_long as_bytes (records * terms) numbers long;
        numbers = (settled E.settled).0;
        unused = λ q t h b d. (settled E.settled).1 q t (omega (arith, read_counted given.read, read_size given.read x)) b d;
      };
    }

    module _ (long : length ends ≡ terms) where
      -- Where a table of ends is lent, it holds 1 at each end and 0 elsewhere,
      pub evaluated_ends : TermTable (Rel (site_of s n) e z) ends
      evaluated_ends = record {
        long = long;
        tells = marked_ends within x (given_linked given x) few (settled E.settled).0 start (E.marked g) long;
      }

      -- and its sum is the number of ends.
      pub evaluated_ends_count : Count (Rel (site_of s n) e z) (sum ends)
      evaluated_ends_count = marked_ends_count within x (given_linked given x) few (settled E.settled).0 start (E.marked g) long
