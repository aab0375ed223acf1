-- How many pairs are out of time: none exactly where the test holds, and by the meaning those without a round trip. Assumes nothing.
use Rattle.std.proofs.Common.{◌≡◌, ℕ, ◌≤◌, eqb, ◌≢◌, List, length, ⊎_elim, eqb→eq}
use Rattle.model.specs.Count.{NumberOfPairs}
use Rattle.model.specs.Journey.{Limit}
use Rattle.model.specs.Measures.{UnmetRoundTrip}
use Rattle.model.proofs.Logic.{bool_ext, cases, eq_refl, not_in, not_out}
use Rattle.lists.proofs.Many.{counted_rows, pairs_zero}
use Rattle.times.specs.Times.{in_time, all_in_time, not_in_time, out_of_time}
use Rattle.times.specs.Tells.{TellsTimes}
use Rattle.times.proofs.Pairs.{own_in_time, all-in-time}
use Rattle.times.proofs.Times.{tells_pair}

-- THEOREM. No pair is out of time exactly where the test holds, whatever the words are.
pub in_time_none : (n turn : ℕ) (t : List ℕ) → eqb (out_of_time n turn t) 0 ≡ all_in_time n turn t
unfolding out_of_time not_in_time
in_time_none n turn t =
    let z = pairs_zero (not_in_time n turn t) n n in
    bool_ext (eqb (out_of_time n turn t) 0) (all_in_time n turn t)
    (λ h. (all-in-time n turn t).1 (λ u v hu hv.
    ⊎_elim (λ y. y) (λ f. absurd (z.0 (eqb→eq _ 0 h) u v hu hv (not_in (in_time n turn t u v) f))) (cases (in_time n turn t u v))))
    (λ h. eq_refl (z.1 (λ u v hu hv f. not_out (in_time n turn t u v) f ((all-in-time n turn t).0 h u v hu hv))))

-- THEOREM. The number is that of the ordered pairs of different boards without a round trip.
pub tells_number : {r : List (List ℕ)} {n : ℕ} {L : Limit} {turn i j : ℕ} {t : List ℕ} → 1 ≤ i → i ≤ j → j ≤ length r
    → TellsTimes r n L i j t
    → NumberOfPairs n (UnmetRoundTrip r L turn i j) (out_of_time n turn t)
unfolding out_of_time not_in_time
tells_number {r} {n} {L} {turn} {i} {j} {t} hi hj hr a =
    counted_rows (not_in_time n turn t) (UnmetRoundTrip r L turn i j) n n (λ u v hu hv. (
      λ f. let ne : u ≢ v = λ e. not_out (in_time n turn t u v) f (own_in_time n turn t u v e) in
          (ne, λ c. not_out (in_time n turn t u v) f ((tells_pair hi hj a u v hu hv ne).1 c)),
      λ m. not_in (in_time n turn t u v) (λ h. m.1 ((tells_pair hi hj a u v hu hv m.0).0 h)),
    ))
