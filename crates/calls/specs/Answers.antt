-- Document 01's number and values for each case of each answer. The promises of the calls speak of these.
use Rattle.std.specs.Prelude.{ℕ, cond, eqb, Result, Ok, Err}
use Rattle.model.specs.declared.Refusal.{Refusal}
use Rattle.model.specs.Refusals.{number}
use Rattle.place.specs.declared.Place.{Place}
use Rattle.place.specs.declared.Counts.{Counts}
use Rattle.calls.specs.declared.Refused.{Refused}
use Rattle.calls.specs.declared.Answer.{Answer}

-- the number of the refusal, 0 for none, and the place that is handed back
pub record Handed : Type 0 where
  pub refusal : ℕ
  pub place : Place

abbrev pub handed : ℕ → Place → Handed
handed c p = record { refusal = c; place = p }

-- the number of the refusal, 0 for none; the length, 0 for none; the two counts
pub record Outcome : Type 0 where
  pub refusal : ℕ
  pub length : ℕ
  pub compositions : ℕ
  pub tests : ℕ

abbrev pub outcome : ℕ → ℕ → ℕ → ℕ → Outcome
outcome c k x y = record { refusal = c; length = k; compositions = x; tests = y }

-- refused by c with counts 0, or answered by o where c is 0
abbrev pub answer_by : ℕ → Outcome → Outcome
answer_by c o = cond (eqb c 0) o (outcome c 0 0 0)

-- opening, and a pick taken, answer the place; refused, the number and the place that is handed back
abbrev pub handed_says : Result Place Refused → Handed
handed_says (Ok p) = handed 0 p
handed_says (Err r) = handed (number r.cause) r.place

-- a length with its two counts, or the number with the counts
abbrev pub counted_says : Result ℕ Refusal → Counts → Outcome
counted_says (Ok k) c = outcome 0 k c.compositions.0 c.tests.0
counted_says (Err r) c = outcome (number r) 0 c.compositions.0 c.tests.0

abbrev pub answer_says : Answer → Outcome
answer_says a = counted_says a.length a.counts
