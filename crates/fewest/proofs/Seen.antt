-- What storing one record's entry does to the three lists that the links are seen as.
use Prim.Native.Nat.{ℕ}
use mathlib.Core.Path.{◌≡◌, refl}
use mathlib.Core.List.{List}
use lib.ListN.{get_or, set}
use lib.Seq.{map-set_same}
use Rattle.std.proofs.lemmas.List.{map-set}
use Rattle.fewest.specs.declared.links.Role.{Role}
use Rattle.fewest.specs.declared.links.Entry.{Entry}
use Rattle.fewest.specs.Links.{role_number, seen}
use Rattle.fewest.specs.LinksOf.{stand, begin}

-- Where record k stands is stored, and its first operand left.
pub stand_seen : (es : List Entry) (k u : ℕ) (s : Role) (d : Entry) →
    seen (set es k record { up = u; role = s; first = (get_or es k d).first }) ≡ stand k u (role_number s) (seen es)
stand_seen es k u s d =
    let e : Entry = record { up = u; role = s; first = (get_or es k d).first } in
    rw (map-set (λ x. x.up) es k e, map-set (λ x. role_number x.role) es k e, map-set_same (λ x. x.first) es k e d refl) refl

-- Its first operand is stored, and where it stands left.
pub begin_seen : (es : List Entry) (r f : ℕ) (d : Entry) →
    seen (set es r record { up = (get_or es r d).up; role = (get_or es r d).role; first = f }) ≡ begin r f (seen es)
begin_seen es r f d =
    let e : Entry = record { up = (get_or es r d).up; role = (get_or es r d).role; first = f } in
    rw (map-set_same (λ x. x.up) es r e d refl, map-set_same (λ x. role_number x.role) es r e d refl, map-set (λ x. x.first) es r e) refl
