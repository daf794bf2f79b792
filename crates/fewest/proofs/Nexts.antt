-- What comes once a subexpression is done, told by its role and the record below which it has it, is what its context says.
-- The questions and the path know the rule by these laws.
use Prim.Native.Nat.{ℕ, zero, suc, ◌-◌}
use mathlib.Core.Path.{◌≡◌, refl, sym, subst₂, ◌∙◌}
use mathlib.Core.Logic.{◌⊎◌, inl, inr}
use lib.ListN.{get_or}
use Rattle.meaning.specs.Site.{Site}
use Rattle.meaning.specs.Expression.{Expr, last, Context, plug}
use Rattle.meaning.specs.Fewest.{Goal}
use Rattle.fewest.specs.Frame.{role_of, up_of, Links, Linked, Frame}
use Rattle.fewest.specs.Next.{Next, on, again, ending, Home, whole}
use Rattle.fewest.proofs.Roles.{along}

-- what a record's role says of the record b that is entered next, where p is the record below which it has it; the roles are
-- as_whole to as_round, in the order of their numbers
abbrev pub SaysNext : Frame → (p b : ℕ) → ℕ → Type 0
SaysNext F p b zero = ⊥
SaysNext F p b (suc zero) = ⊥
SaysNext F p b (suc (suc zero)) = b ≡ p - 1
SaysNext F p b (suc (suc (suc zero))) = (b ≡ p - 1) ⊎ Next F p b
SaysNext F p b (suc (suc (suc (suc k)))) = ⊥

-- and of the whole rule's being done
abbrev pub SaysHome : Frame → ℕ → ℕ → Type 0
SaysHome F p zero = Unit
SaysHome F p (suc zero) = ⊥
SaysHome F p (suc (suc zero)) = ⊥
SaysHome F p (suc (suc (suc zero))) = Home F p
SaysHome F p (suc (suc (suc (suc k)))) = ⊥

module _ {F : Frame} where
  pub next_says : {r b : ℕ} → Next F r b → SaysNext F (get_or F.up r 0) b (get_or F.role r 0)
  next_says (on q) = rw q refl
  next_says (again q) = rw q (inl refl)
  next_says (ending q n) = rw q (inr n)

  pub home_says : {r : ℕ} → Home F r → SaysHome F (get_or F.up r 0) (get_or F.role r 0)
  home_says (whole q) = rw q tt
  home_says (ending q h) = rw q h

  -- records with the same entries are followed alike
  module _ {r q : ℕ} (ups : get_or F.up r 0 ≡ get_or F.up q 0) (roles : get_or F.role r 0 ≡ get_or F.role q 0) where
    next_alike : {b : ℕ} → Next F r b → Next F q b
    next_alike (on e) = rw ups (on (sym roles ∙ e))
    next_alike (again e) = rw ups (again (sym roles ∙ e))
    next_alike {b} (ending e n) = ending {b = b} (sym roles ∙ e) (rw (← ups) n)

    home_alike : Home F r → Home F q
    home_alike (whole e) = whole (sym roles ∙ e)
    home_alike (ending e h) = ending (sym roles ∙ e) (rw (← ups) h)

module _ {rule : Expr} {L : Links} (linked : Linked rule L) {s : Site} {g : Goal} where
  -- The lists say what the context does.
  pub role_next : (e : Expr) (K : Context) {b : ℕ} → plug e K ≡ rule → Next (along L s g) (last e) b →
      SaysNext (along L s g) (up_of K) b (role_of K)
  role_next e K {b} p n = subst₂ (λ q k. SaysNext (along L s g) q b k) (linked.ups e K p) (linked.roles e K p) (next_says n)

  pub role_home : (e : Expr) (K : Context) → plug e K ≡ rule → Home (along L s g) (last e) → SaysHome (along L s g) (up_of K) (role_of K)
  role_home e K p h = subst₂ (SaysHome (along L s g)) (linked.ups e K p) (linked.roles e K p) (home_says h)

  -- What finishes with its parent is followed as its parent is, since both have the same entries.
  module _ (e f : Expr) (K J : Context) (p : plug e K ≡ rule) (q : plug f J ≡ rule) (ups : up_of K ≡ up_of J) (roles : role_of K ≡ role_of J) where
    pub next_as : {b : ℕ} → Next (along L s g) (last e) b → Next (along L s g) (last f) b
    next_as = next_alike (linked.ups e K p ∙ ups ∙ sym (linked.ups f J q)) (linked.roles e K p ∙ roles ∙ sym (linked.roles f J q))

    pub home_as : Home (along L s g) (last e) → Home (along L s g) (last f)
    home_as = home_alike (linked.ups e K p ∙ ups ∙ sym (linked.ups f J q)) (linked.roles e K p ∙ roles ∙ sym (linked.roles f J q))
