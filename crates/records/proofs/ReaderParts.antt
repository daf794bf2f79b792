-- What a site reader owns, taken apart: the reader is Copy, so what it owns is had twice, and the fields of one copy are what a function
-- on the slice and the number asks. For a walk by hand that calls such a function; the check covers those of today.
use mathlib.Core.Path.{◌≡◌}
use mathlib.Core.List.{[], ◌∷◌}
use seplogic.Ra.Ura.{Ura}
use base.Logic.{ent, sep}
use base.Fml.{Fml}
use types.Logic.{Logic, sem}
use types.Kit.{‵, ◌⊛◌, given, ◌$◌, ◌∵◌, !, qed, use1, split, learn, done}
use denote.Ref.{NamedLft}
use denote.Struct.Laws as LL
use denote.Struct.Rest.{all_own, own_open}
use Rattle.records.specs.declared.site.SiteReader.{SiteReader}
use Rattle.records.specs.contracts.site.SiteReader as T
use Rattle.records.proofs.site.SiteReader.TheLaws as T'

module _ (α : NamedLft) (d : SiteReader) where
  -- what the reader owns, at its machine value, and what its fields own together
  abbrev pub Own : Fml
  Own = (T.the_row α).own_val d (T'.lowered d ∷ [])

  abbrev pub Parts : Fml
  Parts = all_own (T.the_type α).parts (T'.the_laws α) (d.site, (d.at, tt))

  pub apart : {M : Type 1} {𝓤 : Ura M} (𝓛 : Logic 𝓤) → ent 𝓤 (sem 𝓛 Own) (sep 𝓤 (sem 𝓛 Parts) (sem 𝓛 Own))
  apart 𝓛 =
      qed 𝓛 (‵ Own ∷ []) ∵ use1 𝓛 (‵ Own ⊛ ‵ Own) ((LL.copy (T.the_type α) (T'.the_copy α) 𝓛).twice d (T'.lowered d ∷ [])) $ split ! $
      use1 𝓛 (given (T'.lowered d ∷ [] ≡ T'.lowered d ∷ []) (‵ Parts)) (own_open 𝓛 (T.the_type α) (T'.the_laws α) (d.site, (d.at, tt)) (T'.lowered d)) $ learn ! (λ _. done !)
