-- Reading a site, on its way: none of it read, one triple more, and the ways it ends.
-- `Begun` is the invariant of the loop of `plain_until`, and of that of `check_site`.
use Prim.Native.Nat.{ℕ, ◌+◌, ◌*◌, ◌/◌}
use native.Mathlib.Omega.{arith}
use mathlib.Core.Path.{◌≡◌}
use mathlib.Core.List.{List}
use Rattle.records.specs.Sites.{triple_width, site_record_at, ended, denied, one_more, Checked, Begun}
use Rattle.records.specs.declared.Triple.{Triple}
use Rattle.records.specs.declared.Refusal.{Refusal}
use Rattle.std.specs.Prelude.{Some, None, Ok, Err}

-- Reading begins at the first record,
pub begun_none : (s : List ℕ) → Begun s 0
begun_none s = record { place = omega arith; rest = λ r p. p }

-- goes on after a triple,
pub begun_on : {x : Triple} (s : List ℕ) (at on : ℕ) → Begun s at → site_record_at s at ≡ Ok (Some x) → on ≡ at + triple_width → Begun s on
begun_on {x} s at on b e past =
    let p : at / triple_width * triple_width ≡ at = b.place in
    let next : on / triple_width ≡ at / triple_width + 1 = omega arith in
    record { place = omega arith; rest = λ r q. b.rest r (one_more {x = x} (rw p e) (rw next at q)) }

-- ends where no byte is left,
pub begun_ended : (s : List ℕ) (at : ℕ) → Begun s at → site_record_at s at ≡ Ok None → Checked s (Ok (at / triple_width))
begun_ended s at b e = b.rest (Ok (at / triple_width)) (ended (rw b.place e))

-- and stops at a refusal.
pub begun_denied : {x : Refusal} (s : List ℕ) (at : ℕ) → Begun s at → site_record_at s at ≡ Err x → Checked s (Err x)
begun_denied {x} s at b e = b.rest (Err x) (denied (rw b.place e))
