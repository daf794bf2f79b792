-- The laws of the levels, which lower the numbers and keep the threads: nothing was done, one of the two alone, one after another.
use Prim.Native.Nat.{ℕ}
use mathlib.Core.List.{List}
use Rattle.meaning.specs.Fewest.{Goal}
use Rattle.fewest.specs.Kept.{Kept}
use Rattle.fewest.proofs.Keeping.{kept_none, kept_then}
use Rattle.levels.specs.Levelled.{Hinted, Levelled}
use Rattle.levels.proofs.Hints.{hinted_none, hinted_then}

module _ {b rule up role first : List ℕ} {n : ℕ} {g : Goal} where
  -- nothing was done
  pub levelled_none : {N X : List ℕ} → Levelled b n rule up role first g N N X X
  levelled_none = record { numbers = hinted_none; scratch = kept_none }

  -- the numbers alone were lowered
  pub levelled_numbers : {N M X : List ℕ} → Hinted b n rule up role first g N M → Levelled b n rule up role first g N M X X
  levelled_numbers p = record { numbers = p; scratch = kept_none }

  -- scratch alone was stored in
  pub levelled_scratch : {N X Y : List ℕ} → Kept X Y → Levelled b n rule up role first g N N X Y
  levelled_scratch p = record { numbers = hinted_none; scratch = p }

  -- one after another
  pub levelled_then : {N M L X Y Z : List ℕ} → Levelled b n rule up role first g N M X Y → Levelled b n rule up role first g M L Y Z →
      Levelled b n rule up role first g N L X Z
  levelled_then p q = record { numbers = hinted_then p.numbers q.numbers; scratch = kept_then p.scratch q.scratch }

-- all of these
pub ruleset levelling = (hinted_none, hinted_then, levelled_none, levelled_then, levelled_numbers, levelled_scratch)
