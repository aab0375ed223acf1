-- ONE RECORD OF FACTS FOR EACH MEASURE: what its tables tell, that its test tells when a window passes, and which way passing is monotone. `hops` is the
-- most links in one pick, `turn` the picks that turning round takes; l is the list that measure 2 tests against. `Kits.facts` has them of each.
use Rattle.std.specs.Prelude.{◌≡◌, ◌↔◌, List, ℕ, zero, suc, ◌≤◌, T, length}
use Rattle.model.specs.Journey.{Limit, at_most}
use Rattle.model.specs.Measures.{CommonLink, SomeLink}
use Rattle.model.specs.Length.{Upward, Downward}
use Rattle.links.specs.Tells.{Marks, Reaches}
use Rattle.times.specs.Tells.{TellsTimes}
use Rattle.measures.specs.Kit.{Kit, kit_with}
use Rattle.law.specs.Faithful.{Faithful}
use Rattle.law.specs.Correct.{PassesWith}
use Rattle.law.specs.Claim2.{Fits}
use Rattle.model.specs.Recording.{Recording}

-- the table t is the composition of the picks i to j of r: it marks exactly the links open at every pick (measure 1), those open at some pick (2), the
-- pairs of different boards that a journey joins (3), or has their earliest arrivals and latest departures (4)
abbrev pub ComposesWith : Limit → ℕ → ℕ → List (List ℕ) → ℕ → ℕ → List ℕ → Type 0
ComposesWith L zero n r i j t = ⊥
ComposesWith L (suc zero) n r i j t = Marks n (CommonLink r i j) t
ComposesWith L (suc (suc zero)) n r i j t = Marks n (SomeLink r i j) t
ComposesWith L (suc (suc (suc zero))) n r i j t = Marks n (Reaches r L i j) t
ComposesWith L (suc (suc (suc (suc x)))) n r i j t = TellsTimes r n L i j t

-- the test of K against l tells, of what `Tells` says is the table of a window of r, whether the window passes
abbrev pub TestTells : Kit → List ℕ → List (List ℕ) → (ℕ → ℕ → List ℕ → Type 0) → (ℕ → ℕ → Type 0) → Type 0
TestTells K l r Tells P = (i j : ℕ) (t : List ℕ) → 1 ≤ i → i ≤ j → j ≤ length r → Tells i j t → T (K.pass l t) ↔ P i j

-- which way passing is monotone: measures 2 to 4 minimise, measure 1 maximises
pub data Monotone (measure : ℕ) (P : ℕ → ℕ → Type 0) (m : ℕ) : Type 0 where
  minimises : (x : ℕ) → measure ≡ suc (suc x) → Upward P m → Monotone measure P m
  maximises : measure ≡ 1 → Downward P m → Monotone measure P m

pub record Facts (hops turn measure n : ℕ) (l : List ℕ) (r : List (List ℕ)) : Type 0 where
  pub faithful : Faithful (kit_with hops turn measure n).join (kit_with hops turn measure n).own r (ComposesWith (at_most hops) measure n r)
  pub tested : TestTells (kit_with hops turn measure n) l r (ComposesWith (at_most hops) measure n r) (PassesWith (at_most hops) turn measure n l r)
  pub monotone : Monotone measure (PassesWith (at_most hops) turn measure n l r) (length r)

-- Each measure of document 01 has its facts.
abbrev pub FactsClaim : Type 0
FactsClaim = (hops turn n : ℕ) → n ≤ 32 → (r : List (List ℕ)) → Recording n r → (measure : ℕ) → 1 ≤ measure → measure ≤ 4
    → (l : List ℕ)
    → Fits measure l r n → Facts hops turn measure n l r
