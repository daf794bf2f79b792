-- The laws of one or more rounds, over any relation.
-- The relation, the runs and the ways through the picture all use them.
use Rattle.meaning.specs.Relation.{Plus, once, then}

module _ {A : Type 0} {R : A → A → Type 0} where
  -- rounds and rounds after them are rounds
  pub plus_join : {x y z : A} → Plus R x y → Plus R y z → Plus R x z
  plus_join (once r) q = then r q
  plus_join (then r p) q = then r (plus_join p q)

  -- rounds and one round after them are rounds
  pub plus_then_once : {x y z : A} → Plus R x y → R y z → Plus R x z
  plus_then_once p r = plus_join p (once r)

-- rounds of R are rounds of S where each round is
pub plus_map : {A B : Type 0} {R : A → A → Type 0} {S : B → B → Type 0} (f : A → B) → ((x y : A) → R x y → S (f x) (f y)) →
    {x y : A} → Plus R x y → Plus S (f x) (f y)
plus_map f h (once r) = once (h _ _ r)
plus_map f h (then r p) = then (h _ _ r) (plus_map f h p)
