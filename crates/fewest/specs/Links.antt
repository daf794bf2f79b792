-- The links as the code has them, what it says of one record beside what it says of the next, and as the three lists of `Frame`.
use Rattle.std.specs.Prelude.{ℕ, ◌≡◌, List, [], ◌∷◌, map, refl}
use Rattle.std.proofs.Common.{zero, suc}
use Rattle.fewest.specs.declared.links.Role.{Role}
use Rattle.fewest.specs.declared.links.Role.TheVariants.{Whole, Test, First, Round}
use Rattle.fewest.specs.declared.links.Entry.{Entry}
use Rattle.fewest.specs.Frame.{as_whole, as_test, as_first, as_round, Links, links}

-- the number of a role
abbrev pub role_number : Role → ℕ
role_number Whole = as_whole
role_number Test = as_test
role_number First = as_first
role_number Round = as_round

-- the three lists,
abbrev pub seen : List Entry → Links
seen es = links (map (λ e. e.up) es) (map (λ e. role_number e.role) es) (map (λ e. e.first) es)

-- and back
abbrev pub role_numbered : ℕ → Role
role_numbered zero = Whole
role_numbered (suc zero) = Test
role_numbered (suc (suc zero)) = First
role_numbered (suc (suc (suc k))) = Round

abbrev pub entries : (up role first : List ℕ) → List Entry
entries (u ∷ us) (k ∷ ks) (f ∷ fs) = record { up = u; role = role_numbered k; first = f } ∷ entries us ks fs
entries (u ∷ us) (k ∷ ks) [] = []
entries (u ∷ us) [] fs = []
entries [] ks fs = []

abbrev pub stored : Links → List Entry
stored L = entries L.up L.role L.first

role_back : (k : Role) → role_numbered (role_number k) ≡ k
role_back Whole = refl
role_back Test = refl
role_back First = refl
role_back Round = refl

-- nothing that is stored is lost
pub seen_stored : (es : List Entry) → stored (seen es) ≡ es
seen_stored [] = refl
seen_stored (e ∷ es) = rw (role_back e.role, seen_stored es) refl
