-- Sweeps over the flags: what is opened can be entered, and where a sweep changes nothing, nothing that can be entered is shut.
-- So what is open in the end is exactly what can be entered.
use Prim.Native.Nat.{ℕ, ◌-◌, ◌<◌, ◌≤◌}
use mathlib.Core.Path.{◌≡◌, refl, ap}
use mathlib.Core.Logic.{◌⊎◌, inl, inr, ⊎_elim}
use mathlib.Core.Bool.{Bool, true, false}
use mathlib.Core.List.Memᴰ
use mathlib.Core.List.{List, Memᴰ}
use native.Mathlib.Omega.{arith}
use native.Mathlib.Decide.{ℕ_discrete}
use lib.ListN.{length}
use Rattle.std.specs.Prelude.{Option}
use Rattle.meaning.specs.Site.{Site, Voc}
use Rattle.meaning.specs.Expression.{Rec, plain, testing, joining, choosing, starring}
use Rattle.meaning.specs.Fewest.{Goal}
use Rattle.fewest.specs.Frame.{frame}
use Rattle.fewest.specs.Next.{Next, on, again, ending}
use Rattle.fewest.specs.Offer.{copying, works_of}
use Rattle.fewest.specs.Sweep.{Swept}
use Rattle.fewest.proofs.Sweeps.{Chain, swept_none, swept_then, swept_weaken, swept_lift}
use Rattle.fewest.specs.Tells.{Tells}
use Rattle.path.specs.Pick.{Enters, begin, after, inward, past}
use Rattle.path.specs.Flags as flags
use Rattle.path.specs.Flags.{Open, closed, Opens, Opening, Begins, LeadsBy, to_first, to_one, to_other, to_round, Leads, Led, Due, at_once, in_turn, Justified, Keeps, SweptOpen, Entered}
use Rattle.fewest.proofs.Tells.{told, tells}

-- the links alone tell what comes next
relinked : {s z : Site} {g h : Goal} {up role : List ℕ} {r b : ℕ} → Next (frame s up role g) r b → Next (frame z up role h) r b
relinked (on e) = on e
relinked (again e) = again e
relinked (ending e n) = ending e (relinked n)

-- what copies a row, the record leads to
copy_leads : (x : Rec) {word : Bool} {N : ℕ → Type 0} {r f b : ℕ} → Memᴰ (copying b) (works_of x r f) → LeadsBy word N r f b x
copy_leads (plain a l) m = let e = Memᴰ.eq_of_singleton m in let z : ◌≡◌ {A = ℕ} 0 1 = cc in absurd (omega arith)
copy_leads (testing a) m = let e = Memᴰ.eq_of_singleton m in let z : ◌≡◌ {A = ℕ} 0 1 = cc in absurd (omega arith)
copy_leads joining m = let e = Memᴰ.eq_of_singleton m in to_first (cc)
copy_leads choosing m = ⊎_elim (λ e. to_one (cc)) (λ i. let e = Memᴰ.eq_of_singleton i in to_other (cc)) (Memᴰ.cases_cons m)
copy_leads starring m = ⊎_elim (λ e. to_round (cc))
    (λ i. let e = Memᴰ.eq_of_singleton i in let z : ◌≡◌ {A = ℕ} 0 1 = cc in absurd (omega arith)) (Memᴰ.cases_cons m)

-- what a record leads to, it copies, or comes after it
lead_copies : (x : Rec) {word : Bool} {N : ℕ → Type 0} {r f b : ℕ} → LeadsBy word N r f b x →
    Memᴰ (copying b) (works_of x r f) ⊎ ((x ≡ starring) × (word ≡ true) × N b)
lead_copies joining (to_first e) = inl (Memᴰ.head (ap copying e))
lead_copies choosing (to_one e) = inl (Memᴰ.head (ap copying e))
lead_copies choosing (to_other e) = inl (Memᴰ.tail (Memᴰ.head (ap copying e)))
lead_copies starring (to_round e) = inl (Memᴰ.head (ap copying e))
lead_copies starring (flags.past w n) = inr (refl, w, n)
lead_copies (plain _ _) x = elim x [ ]
lead_copies (testing _) x = elim x [ ]

-- What can be entered is entered by what the flags ask, and by nothing else.
module _ {up role : List ℕ} {rs : List Rec} {first : List ℕ} {word : Bool} {s : Site} {g : Goal} {t : ℕ} (tell : Tells (Voc s t) word) where
  begins_enters : {x : Option ℕ} {b : ℕ} → Begins up role (length rs) x b → Enters (frame s up role g) rs first t x b
  begins_enters (flags.begin e) = begin e
  begins_enters (flags.after n) = after (relinked n)

  leads_enters : {x : Option ℕ} {r b : ℕ} → Enters (frame s up role g) rs first t x r → Leads up role rs first word r b →
      Enters (frame s up role g) rs first t x b
  leads_enters p l =
      ⊎_elim (inward p l.inside) (λ q. past p q.0 l.inside (told tell q.1) (relinked q.2)) (lead_copies _ l.by)

  enters_open : {x : Option ℕ} {X : List Bool} {b : ℕ} → ((b : ℕ) → Due up role rs first word x X b → Open X b) →
      Enters (frame s up role g) rs first t x b → Open X b
  enters_open due (begin e) = due _ (at_once (flags.begin e))
  enters_open due (after n) = due _ (at_once (flags.after (relinked n)))
  enters_open due (inward p h m) = due _ (in_turn (enters_open due p) (record { inside = h; by = copy_leads _ m }))
  enters_open due (past p e h v n) =
      due _ (in_turn (enters_open due p) (record { inside = h; by = rw e (flags.past (tells tell v) (relinked n)) }))

-- a sweep that has looked at the records from r on
abbrev pub Sweeping : List ℕ → List ℕ → List Rec → List ℕ → Bool → Option ℕ → List Bool → List Bool → Bool → Bool → ℕ → Type 0
Sweeping up role rs first word x X Y was now r =
    Swept closed (Keeps up role rs first word x) (λ Z. (q b : ℕ) → r ≤ q → Open Z q → Leads up role rs first word q b → Open Z b) X Y was now

module _ {up role : List ℕ} {rs : List Rec} {first : List ℕ} {word : Bool} {x : Option ℕ} where
  keeps_chain : Chain closed (Keeps up role rs first word x)
  keeps_chain = record {
    stays = λ X. record { justified = λ s g t tell j. j; fewer = omega arith };
    joins = λ X Y Z p q. record {
      justified = λ s g t tell j. q.justified s g t tell (p.justified s g t tell j);
      fewer = let l = p.fewer in let m = q.fewer in omega arith;
    };
    falls = λ X Y p. p.fewer;
  }

  -- what is opened for a reason that lets it be entered keeps the flags justified
  keeps : {P : ℕ → Type 0} {X Y : List Bool} → ((s : Site) (g : Goal) (t : ℕ) → Tells (Voc s t) word →
      Justified (Enters (frame s up role g) rs first t x) X → (b : ℕ) → P b → Enters (frame s up role g) rs first t x b) →
      Opens P X Y → Keeps up role rs first word x X Y
  keeps f p = record {
    justified = λ s g t tell j b o. ⊎_elim (j b) (f s g t tell j b) (p.only b o);
    fewer = p.fewer;
  }

  pub sweep_begins : {r : ℕ} {X : List Bool} {was : Bool} → r ≡ length rs → Sweeping up role rs first word x X X was was r
  sweep_begins e = swept_none keeps_chain (λ q b h o l. let i = l.inside in absurd (omega arith))

  -- One record more.
  pub sweep_more : {X Y Z : List Bool} {was now then : Bool} (r : ℕ) → Sweeping up role rs first word x X Y was now r →
      Led up role rs first word (r - 1) Y Z now then → Sweeping up role rs first word x X Z was then (r - 1)
  sweep_more {X} {Y} {Z} {now = now} {then} r p q = swept_weaken more (swept_then keeps_chain p here)
    where
      here : Swept closed (Keeps up role rs first word x) (λ W. (b : ℕ) → Open W (r - 1) → Leads up role rs first word (r - 1) b → Open W b) Y Z now then
      here = swept_weaken (λ h b o l. h b (o, l)) (swept_lift (keeps (λ s g t tell j b l. leads_enters tell (j (r - 1) l.0) l.1)) q)

      more : ((q b : ℕ) → r ≤ q → Open X q → Leads up role rs first word q b → Open X b) ×
          ((b : ℕ) → Open X (r - 1) → Leads up role rs first word (r - 1) b → Open X b) →
          (q b : ℕ) → r - 1 ≤ q → Open X q → Leads up role rs first word q b → Open X b
      more h q b l = elim (ℕ_discrete q (r - 1)) [
        | yes e ↦ λ o k. h.1 b (rw e at o) (rw e at k)
        | no e ↦ h.0 q b (omega arith)
      ]

  -- All of it, after what is open at once.
  pub sweep_all : {r count : ℕ} {X Y Z : List Bool} {was now then : Bool} → r ≤ 0 → count ≡ length rs → Opening (Begins up role count x) X Y was now →
      Sweeping up role rs first word x Y Z now then r →
      Swept closed (Keeps up role rs first word x) (λ Z. (b : ℕ) → Due up role rs first word x Z b → Open Z b) X Z was then
  sweep_all {r} {count} {X} low e p q = swept_weaken due (swept_then keeps_chain (swept_lift (keeps (λ s g t tell j b i. begins_enters tell (rw e at i))) p) q)
    where
      due : ((b : ℕ) → Begins up role count x b → Open X b) ×
          ((q b : ℕ) → r ≤ q → Open X q → Leads up role rs first word q b → Open X b) → (b : ℕ) → Due up role rs first word x X b → Open X b
      due h b (at_once i) = h.0 b (rw e i)
      due h b (in_turn {r = q} o l) = h.1 q b (omega arith) o l

  -- Sweep after sweep: the flags stay justified, their sum falls with each change, and what a sweep leaves as it was is exactly
  -- what can be entered.
  pub keeps_none : {X : List Bool} → Keeps up role rs first word x X X
  keeps_none {X} = keeps_chain.stays X

  module _ {Y Z : List Bool} {now : Bool} (p : SweptOpen up role rs first word x Y Z now) where
    pub keeps_more : {X : List Bool} → Keeps up role rs first word x X Y → Keeps up role rs first word x X Z
    keeps_more {X} k = keeps_chain.joins X Y Z k p.reached

    pub sweep_falls : now ≡ true → closed Z < closed Y
    sweep_falls e = ⊎_elim (λ f. let z : ◌≡◌ {A = ℕ} 0 1 = cc in absurd (omega arith)) (λ l. l) (p.falls e)

    pub sweep_exactly : {X : List Bool} → now ≡ false → Keeps up role rs first word x X Y → Entered up role rs first word x X Z
    sweep_exactly e k s g t tell none =
        let (_, same, due) = p.still e in
        rw same (record { sound = k.justified s g t tell (λ b o. absurd (none b o)); whole = λ b. enters_open tell due })
