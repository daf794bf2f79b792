-- Axes, labels and moves (document 01, "The relation").
-- A move takes a term to a term by one triple, past a middle; self stays, by no triple.
use Rattle.std.specs.Prelude.{ℕ, ◌<◌, ◌≡◌, length}
use Rattle.meaning.specs.Limits.{none}
use Rattle.meaning.specs.Site.{Triple, Site, triple, Voc}

pub data Direction : Type 0 where
  next edge node : Direction

pub data Axis : Type 0 where
  self : Axis
  ahead : Direction → Axis
  inverse : Direction → Axis

-- next takes s to o with middle p; edge takes s to p with middle o; node takes p to o with middle s
abbrev pub start : Direction → Triple → ℕ
start next x = x.subject
start edge x = x.subject
start node x = x.predicate

abbrev pub middle : Direction → Triple → ℕ
middle next x = x.predicate
middle edge x = x.object
middle node x = x.subject

abbrev pub finish : Direction → Triple → ℕ
finish next x = x.object
finish edge x = x.predicate
finish node x = x.object

-- triple number k takes t to u with middle m
pub record Passes (s : Site) (d : Direction) (k t m u : ℕ) : Type 0 where
  pub below : k < length s
  pub starts : t ≡ start d (triple s k)
  pub passes : m ≡ middle d (triple s k)
  pub ends : u ≡ finish d (triple s k)

-- the label of a step that has no test: none, or a named term
pub data Label : Type 0 where
  any : Label
  only : ℕ → Label

-- the label allows this middle
abbrev pub Allows : Label → ℕ → Type 0
Allows any m = Unit
Allows (only n) m = m ≡ n

-- where self may stand: at every vocabulary term; named self at that term, in the vocabulary or not
abbrev pub Rests : Site → Label → ℕ → Type 0
Rests s any t = Voc s t
Rests s (only n) t = t ≡ n

pub record Stays (s : Site) (l : Label) (k t m u : ℕ) : Type 0 where
  pub number : k ≡ none
  pub rests : Rests s l t
  pub passes : m ≡ t
  pub ends : u ≡ t

-- by triple number k the axis takes t to u past the middle m, which the label allows;
-- an inverse axis takes the same pair backwards with the same middle
pub data Move (s : Site) : Axis → Label → ℕ → ℕ → ℕ → ℕ → Type 0 where
  staying : {l : Label} {k t m u : ℕ} → Stays s l k t m u → Move s self l k t m u
  going : {d : Direction} {l : Label} {k t m u : ℕ} → Passes s d k t m u → Allows l m → Move s (ahead d) l k t m u
  coming : {d : Direction} {l : Label} {k t m u : ℕ} → Passes s d k u m t → Allows l m → Move s (inverse d) l k t m u
