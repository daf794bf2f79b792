-- The number and the values that document 01 gives to each outcome of a call: what a caller without enums is handed.
-- A value that an outcome does not use is 0.
use Rattle.std.specs.Prelude.{ℕ, cond, Result, Ok, Err}
use Rattle.records.specs.declared.Refusal.{Refusal}
use Rattle.records.specs.Refusals.{number_of}
use Rattle.calls.specs.declared.Answer.{Answer}
use Rattle.calls.specs.declared.Found.{Found}

-- a refusal's number, 0 for an answer, and its place; what is answered (1 for yes and 0 for no, how many ends or starts,
-- or the ceiling), the figure and the steps
pub record Values : Type 0 where
  pub refusal : ℕ
  pub place : ℕ
  pub answer : ℕ
  pub figure : ℕ
  pub steps : ℕ

abbrev pub answer_values : (answer figure steps : ℕ) → Values
answer_values k c n = record { refusal = 0; place = 0; answer = k; figure = c; steps = n }

abbrev pub refusal_values : Refusal → Values
refusal_values x = record { refusal = number_of x.reason; place = x.place; answer = 0; figure = 0; steps = 0 }

abbrev pub decision_values : Result Answer Refusal → Values
decision_values (Ok x) = answer_values (cond x.yes 1 0) x.figure x.steps
decision_values (Err x) = refusal_values x

abbrev pub end_values : Result Found Refusal → Values
end_values (Ok x) = answer_values x.ends x.figure 0
end_values (Err x) = refusal_values x

abbrev pub start_values : Result ℕ Refusal → Values
start_values (Ok k) = answer_values k 0 0
start_values (Err x) = refusal_values x

abbrev pub limit_values : Result ℕ Refusal → Values
limit_values (Ok c) = answer_values c 0 0
limit_values (Err x) = refusal_values x
