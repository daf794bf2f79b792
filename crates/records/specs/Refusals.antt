-- The number that document 01 gives to each reason for a refusal ("Numbered refusals").
-- Every promise that names a refusal goes through this table.
use Rattle.std.specs.Prelude.{ℕ, List, ◌∷◌, ◌++◌}
use Rattle.std.specs.Fmt.{decimal}
use Rattle.records.specs.declared.Refusal.{Refusal}
use Rattle.records.specs.declared.Reason.{Reason}
use Rattle.records.specs.declared.Reason.TheVariants.{TableLength, SiteKind, SiteCut, SiteLong, SiteTerm, SiteOrder, RuleLong, RuleKind, RuleCut, RuleAxis, RuleTerm, TooFew, NotOne, QueryTerm, Room, Input}

abbrev pub number_of : Reason → ℕ
number_of TableLength = 1
number_of SiteKind = 2
number_of SiteCut = 3
number_of SiteLong = 4
number_of SiteTerm = 5
number_of SiteOrder = 6
number_of RuleLong = 7
number_of RuleKind = 8
number_of RuleCut = 9
number_of RuleAxis = 10
number_of RuleTerm = 11
number_of TooFew = 12
number_of NotOne = 13
number_of QueryTerm = 14
number_of Room = 15
number_of Input = 16

-- a refusal as text: its number, a space and its place
abbrev pub refusal_text : Refusal → List ℕ
refusal_text x = decimal (number_of x.reason) ++ (32 ∷ decimal x.place)
