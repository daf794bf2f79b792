-- Texts that document 01 shows, computed from the definitions of the lines.
use mathlib.Core.Path.{◌≡◌, refl}
use mathlib.Core.Bool.{true}
use mathlib.Core.List.{[], ◌∷◌, ◌++◌}
use Rattle.meaning.specs.Limits.{none}
use Rattle.meaning.specs.Path.{taken}
use Rattle.records.specs.declared.Reason.TheVariants.{Room}
use Rattle.records.specs.Rules.{refusal}
use Rattle.printed.specs.Lines.{last_digits, decimal, field, refused_line, answer_line, triple_field, step_line, path_lines}

-- P3: `yes 4 16 2`, `0 0 1`, `0 1 2`
p3_text : answer_line true 4 16 2 ++ path_lines (taken 0 0 1 ∷ (taken 0 1 2 ∷ [])) ≡
    121 ∷ 101 ∷ 115 ∷ 32 ∷ 52 ∷ 32 ∷ 49 ∷ 54 ∷ 32 ∷ 50 ∷ 10 ∷ 48 ∷ 32 ∷ 48 ∷ 32 ∷ 49 ∷ 10 ∷ 48 ∷ 32 ∷ 49 ∷ 32 ∷ 50 ∷ 10 ∷ []
unfolding last_digits decimal field answer_line triple_field step_line path_lines none
p3_text = refl

-- a step of self: `0 - 5`
self_text : step_line 0 none 5 ≡ 48 ∷ 32 ∷ 45 ∷ 32 ∷ 53 ∷ 10 ∷ []
unfolding last_digits decimal field triple_field step_line none
self_text = refl

-- `refused 15 3824`
refused_text : refused_line (refusal Room 3824) ≡ 114 ∷ 101 ∷ 102 ∷ 117 ∷ 115 ∷ 101 ∷ 100 ∷ 32 ∷ 49 ∷ 53 ∷ 32 ∷ 51 ∷ 56 ∷ 50 ∷ 52 ∷ 10 ∷ []
unfolding last_digits decimal field refused_line
refused_text = refl
