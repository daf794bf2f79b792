-- What a site reader hands out is determined; after the end or a refusal it is the same again; and its place tells how many triples it has read.
-- Nothing else goes by the cases of `onward`.
use Prim.Native.Nat.{ℕ, ◌+◌, ◌*◌}
use native.Mathlib.Omega.{arith}
use mathlib.Core.Path.{◌≡◌, refl, sym, ◌∙◌, ap}
use mathlib.Core.List.{List}
use Rattle.records.specs.Sites.{triple_width, SiteFound, site_record_at}
use Rattle.records.specs.Reader.{onward, handed, Hands}
use Rattle.records.specs.declared.Triple.{Triple}
use Rattle.std.specs.Prelude.{Some, None, Ok, Err}
use Rattle.records.specs.declared.site.Handed.{Handed}
use Rattle.records.specs.declared.site.SiteReader.{SiteReader}

-- it is the end or a refusal
abbrev pub Last : SiteFound → Type 0
Last found = (x : Triple) → found ≡ Ok (Some x) → ⊥

-- reading stays at the end and at a refusal
stays : (found : SiteFound) {at : ℕ} → Last found → onward found at ≡ at
stays (Ok (Some x)) last = absurd (last x refl)
stays (Ok None) last = refl
stays (Err f) last = refl

-- what was handed out stood there, and the place after a triple is past it
pub stood : (s : List ℕ) (at : ℕ) (r : Handed) → r ≡ handed s at → site_record_at s at ≡ r.found
stood s at r e = sym (ap (λ (y : Handed). y.found) e)

pub went_on : {x : Triple} (s : List ℕ) (at : ℕ) (r : Handed) → r ≡ handed s at → r.found ≡ Ok (Some x) → r.at ≡ at + triple_width
went_on s at r e read = ap (λ (y : Handed). y.at) e ∙ ap (λ (y : SiteFound). onward y at) (stood s at r e ∙ read)

-- Two results that a reader may give are equal, and so are the readers afterwards.
pub hands_unique : {r a b : SiteReader} {x y : SiteFound} → Hands r x a → Hands r y b → (x ≡ y) × (a ≡ b)
hands_unique p q = (p.got ∙ sym q.got, p.moved ∙ sym q.moved)

-- After its end or a refusal a reader stands where it stood,
pub same_reader : {r a : SiteReader} {x : SiteFound} → Hands r x a → Last x → a ≡ r
same_reader {r} {a} {x} p last =
    p.moved ∙ λ i. record { site = r.site; at = (ap (λ (y : SiteFound). onward y r.at) (sym p.got) ∙ stays x last) i }

-- and hands out the same again.
pub same_again : {r a b : SiteReader} {x y : SiteFound} → Hands r x a → Last x → Hands a y b → (y ≡ x) × (b ≡ a)
same_again p last q = hands_unique (rw (same_reader p last) at q) p

-- a reader hands out k triples, one after another
pub data HandsOn : ℕ → SiteReader → SiteReader → Type 0 where
  none : {r : SiteReader} → HandsOn 0 r r
  one_more : {k : ℕ} {r a b : SiteReader} {x : Triple} → HandsOn k r a → Hands a (Ok (Some x)) b → HandsOn (k + 1) r b

-- Their count is what its place has moved, divided by a record's length.
pub place_count : {k : ℕ} {r a : SiteReader} → HandsOn k r a → a.at ≡ r.at + k * triple_width
place_count none = omega arith
place_count (one_more {r = r} {a = a} {b = b} p q) =
    let before = place_count p in
    let past : b.at ≡ a.at + triple_width =
    ap (λ (y : SiteReader). y.at) q.moved ∙ ap (λ (y : SiteFound). onward y a.at) (sym q.got) in omega arith
