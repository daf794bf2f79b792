-- How a list of ends comes to its promise: by the lengths, by the admission, or by the tables that were filled.
-- One law each serves both forms.
use Prim.Native.Nat.{ℕ, ◌<◌}
use mathlib.Core.Path.{◌≡◌, refl}
use mathlib.Core.List.{List}
use lib.ListN.{length}
use Rattle.std.specs.Prelude.{Ok, Err}
use Rattle.meaning.specs.Limits.{terms}
use Rattle.meaning.specs.Fewest.{Goal}
use Rattle.records.specs.declared.Refusal.{Refusal}
use Rattle.records.specs.declared.Reason.TheVariants.{TableLength}
use Rattle.records.specs.Rules.{refusal}
use Rattle.fewest.specs.Frame.{Links}
use Rattle.asked.specs.Seek.{Bits}
use Rattle.calls.specs.declared.Found.{Found}
use Rattle.calls.specs.declared.query.Query.{Query}
use Rattle.calls.specs.Admission.{by_length}
use Rattle.calls.specs.Given.{Given}
use Rattle.calls.specs.Inner.{TurnedAway, SoundQuery, Evaluated, EndsFound, lent_as}
use Rattle.calls.specs.Promise.{Form, Fits, Ended, refused, found}
use Rattle.calls.proofs.Admits.{turned_refuses_start, read_expression, read_admits_start}
use Rattle.calls.proofs.Evaluation.{filled_as, evaluated_filled, evaluated_figure, evaluated_bits, evaluated_ends, evaluated_ends_count}

-- After an evaluation the byte table and the ends can be counted.
pub listed_bits : {s r : List ℕ} {n c : ℕ} {starts : List ℕ} {L : Links} {g : Goal} {z k : ℕ} {asked numbers third : List ℕ} → Given s r n c starts L →
    z < terms → Evaluated s n r L.up L.role L.first g z k asked numbers third → Bits asked × Bits third
listed_bits given start evaluated = let (e, x) = read_expression given.read in evaluated_bits given x evaluated start

module _ (f : Form) {s r : List ℕ} {z : ℕ} {asked numbers third : List ℕ} where
  -- A length that is wrong is refused;
  pub ends_short : (Fits f asked numbers × (length third ≡ terms) → ⊥) →
      Ended f s r z asked numbers third asked numbers third (Err (refusal TableLength 0))
  ends_short wrong = refused (by_length wrong) refl refl refl

  -- what is turned away is refused;
  pub ends_turned : {x : Refusal} → Fits f asked numbers × (length third ≡ terms) → TurnedAway s r z 0 x →
      Ended f s r z asked numbers third asked numbers third (Err x)
  ends_turned fits away = refused (turned_refuses_start fits away) refl refl refl

  -- and what was listed, in byte pairs, is found, as they are lent.
  pub ends_listed : {q : Query} {k : ℕ} {asked' bytes third' : List ℕ} {x : Found} → Fits f asked numbers × (length third ≡ terms) →
      SoundQuery s r z 0 q → EndsFound q k asked' bytes third' x →
      Ended f s r z asked numbers third asked' (lent_as f bytes) third' (Ok x)
  ends_listed {q = q} {asked' = asked'} {bytes = bytes} {third' = third'} {x = x} fits sound done =
      let given : Given q.site.bytes.now q.rule.now q.site.triples q.count q.starts done.links = record { read = q.read; links = done.built } in
      let listed = done.listed in
      let start = q.start_fits in
      let (e, admitted) = read_admits_start fits q.read start in
      let E = listed.evaluated in
      let y = admitted.expression in
      let ended : Ended f q.site.bytes.now q.rule.now q.start asked numbers third asked' (lent_as f bytes) third' (Ok x) = found {c = x.figure} {k = x.ends} admitted
      (filled_as f (evaluated_filled given y E start listed.long))
      (evaluated_ends given y E start listed.wide)
      (rw listed.ends (evaluated_ends_count given y E start listed.wide))
      (rw listed.figure (evaluated_figure given y E start)) in
      rw (sound.site, sound.rule, sound.from) at ended
