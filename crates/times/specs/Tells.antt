-- What the table of times of the window i to j tells: earliest arrivals and latest departures, 0 exactly where there is no journey.
use Rattle.std.specs.Prelude.{◌≡◌, ℕ, ◌<◌, ◌≢◌, List, length}
use Rattle.model.specs.Journey.{Limit, Journey, Arrival, Departure}
use Rattle.times.specs.Times.{arr, dep, times_words}

-- x is the earliest arrival, or 0 and there is no journey
pub data Earliest (r : List (List ℕ)) (L : Limit) (i j u v x : ℕ) : Type 0 where
  no_arrival : x ≡ 0 → (Journey r L i j u v → ⊥) → Earliest r L i j u v x
  first : Arrival r L i j u v x → Earliest r L i j u v x

-- x is the latest departure, or 0 and there is no journey
pub data Latest (r : List (List ℕ)) (L : Limit) (i j u v x : ℕ) : Type 0 where
  no_departure : x ≡ 0 → (Journey r L i j u v → ⊥) → Latest r L i j u v x
  last : Departure r L i j u v x → Latest r L i j u v x

pub record TellsTimes (r : List (List ℕ)) (n : ℕ) (L : Limit) (i j : ℕ) (t : List ℕ) : Type 0 where
  pub wide : length t ≡ times_words n
  pub own_arrival : (u : ℕ) → u < n → arr n t u u ≡ 0
  pub own_departure : (u : ℕ) → u < n → dep n t u u ≡ 0
  pub arrives : (u v : ℕ) → u < n → v < n → u ≢ v → Earliest r L i j u v (arr n t u v)
  pub departs : (u v : ℕ) → u < n → v < n → u ≢ v → Latest r L i j u v (dep n t u v)
