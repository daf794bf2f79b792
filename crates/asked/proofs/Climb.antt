-- The walk up the links from a record whose expression is done, as `follow` takes it: what follows is in the set, or follows the
-- record that the walk has reached. It ends where one thing alone follows, or none.
use Prim.Native.Nat.{ℕ, ◌-◌, ◌^◌, ◌<◌}
use mathlib.Core.Path.{◌≡◌, refl, subst}
use mathlib.Core.Bool.{true, false, false≢true}
use mathlib.Core.Logic.{◌⊎◌, inl, inr, ⊎_elim}
use mathlib.Core.List.{List}
use native.Mathlib.Omega.{arith}
use native.Mathlib.Decide.{ℕ_discrete}
use lib.Bits.{bit_or}
use lib.ListN.{get_or}
use Rattle.meaning.specs.Limits.{records}
use Rattle.meaning.specs.Site.{Site}
use Rattle.meaning.specs.Fewest.{Goal}
use Rattle.fewest.specs.Frame.{as_whole, as_test, as_first, as_round, Climbs, Frame, frame}
use Rattle.fewest.specs.Next.{Next, on, again, ending, Home, whole}
use Rattle.fewest.proofs.Nexts.{SaysNext, SaysHome, next_says, home_says}
use Rattle.asked.specs.Words.{sets, bit}
use Rattle.asked.specs.Seek.{Onward}
use Rattle.asked.proofs.WordBits.{bit_of_or, bit_own, bit_other, or_small}

-- of what follows record r, what is not in the set follows record `at`
pub record Climbed (up role : List ℕ) (r at set : ℕ) : Type 0 where
  pub inside : at < records
  pub small : set < sets
  pub next : (s : Site) (g : Goal) (q : ℕ) → Next (frame s up role g) r q → ((q < records) × (bit set q ≡ 1)) ⊎ Next (frame s up role g) at q
  pub only : (s : Site) (g : Goal) (q : ℕ) → bit set q ≡ 1 → Next (frame s up role g) r q
  pub onward : (s : Site) (g : Goal) (q : ℕ) → Next (frame s up role g) at q → Next (frame s up role g) r q
  pub home : (s : Site) (g : Goal) → Home (frame s up role g) r → Home (frame s up role g) at
  pub homeward : (s : Site) (g : Goal) → Home (frame s up role g) at → Home (frame s up role g) r

-- a set with one record more
module _ (set p : ℕ) where
  joined_own : bit (bit_or set (2 ^ p)) p ≡ 1
  joined_own = omega (arith, bit_of_or set (2 ^ p) p, bit_own p)

  joined_has : (q : ℕ) → bit set q ≡ 1 → bit (bit_or set (2 ^ p)) q ≡ 1
  joined_has q h = omega (arith, bit_of_or set (2 ^ p) q)

  joined_told : (q : ℕ) → bit (bit_or set (2 ^ p)) q ≡ 1 → (q ≡ p) ⊎ (bit set q ≡ 1)
  joined_told q h = elim (ℕ_discrete q p) [ yes e ↦ inl e | no e ↦ inr (omega (arith, bit_of_or set (2 ^ p) q, bit_other p q e)) ]

module _ {F : Frame} {at : ℕ} where
  says : {b : ℕ} (k : ℕ) → get_or F.role at 0 ≡ k → Next F at b → SaysNext F (get_or F.up at 0) b k
  says {b} k q n = subst (λ k. SaysNext F (get_or F.up at 0) b k) q (next_says n)

  says_end : (k : ℕ) → get_or F.role at 0 ≡ k → Home F at → SaysHome F (get_or F.up at 0) k
  says_end k q n = subst (λ k. SaysHome F (get_or F.up at 0) k) q (home_says n)

module _ {up role : List ℕ} where
  module _ {r at set : ℕ} (climb : Climbed up role r at set) where
    -- The three ends: the whole rule, a test, the first of a sequence.
    pub climb_home : get_or role at 0 ≡ as_whole → Onward up role r (record { set = set; home = true })
    climb_home q = record {
      small = climb.small;
      next = λ s g b n. ⊎_elim (λ k. k) (λ n. absurd (says as_whole q n)) (climb.next s g b n);
      only = λ s g b h e. climb.only s g b e;
      home = λ s g o. refl;
      ends = λ s g e. climb.homeward s g (whole q);
    }

    pub climb_held : get_or role at 0 ≡ as_test → Onward up role r (record { set = set; home = false })
    climb_held q = record {
      small = climb.small;
      next = λ s g b n. ⊎_elim (λ k. k) (λ n. absurd (says as_test q n)) (climb.next s g b n);
      only = λ s g b h e. climb.only s g b e;
      home = λ s g o. absurd (says_end as_test q (climb.home s g o));
      ends = λ s g e. absurd (false≢true e);
    }

    module _ (h : get_or up at 0 - 1 < records) (few : 2 ^ (get_or up at 0 - 1) < sets) where
      abbrev more : ℕ
      more = bit_or set (2 ^ (get_or up at 0 - 1))

      pub climb_first : get_or role at 0 ≡ as_first → Onward up role r (record { set = more; home = false })
      climb_first q = record {
        small = or_small climb.small few;
        next = λ s g b n. ⊎_elim (λ (k, e). (k, joined_has set _ b e)) (λ n. rw (says {F = frame s up role g} {at = at} {b = b} as_first q n) (h, joined_own set _)) (climb.next s g b n);
        only = λ s g b k e. ⊎_elim (λ e. rw e (climb.onward s g _ (on q))) (climb.only s g b) (joined_told set _ b e);
        home = λ s g o. absurd (says_end as_first q (climb.home s g o));
        ends = λ s g e. absurd (false≢true e);
      }

      -- One star up, where the role is none of these: its operand is asked again.
      pub climb_up : Climbs records up role → get_or role at 0 ≡ as_round → Climbed up role r (get_or up at 0) more
      climb_up climbs q =
          let (later, high) = climbs.higher at climb.inside (λ e. omega arith) in record {
            inside = high;
            small = or_small climb.small few;
            next = λ s g b n. ⊎_elim (λ (k, e). inl (k, joined_has set _ b e))
                (λ n. ⊎_elim (λ e. inl (rw e (h, joined_own set _))) inr (says as_round q n)) (climb.next s g b n);
            only = λ s g b e. ⊎_elim (λ e. rw e (climb.onward s g _ (again q))) (climb.only s g b) (joined_told set _ b e);
            onward = λ s g b n. climb.onward s g b (ending q n);
            home = λ s g o. says_end as_round q (climb.home s g o);
            homeward = λ s g o. climb.homeward s g (ending q o);
          }
