-- THE COURSE OF A WALK: what it is opened with, no cause refusing it, and the picks that it takes; and by these its kit, its tables and its states.
use Rattle.std.specs.Prelude.{◌≡◌, List, ℕ, zero, suc, ◌+◌, ◌≤◌, length}
use Rattle.model.specs.Recording.{Recording, pick_at}
use Rattle.model.specs.Journey.{at_most}
use Rattle.measures.specs.Kit.{Kit, hops01, turn01, kit_with}
use Rattle.area.specs.Parts.{table_at}
use Rattle.place.specs.Places.{fresh, charged, Sound}
use Rattle.verdicts.specs.Verdicts.{needed}
use Rattle.steps.specs.Walk.{State, state, stepped, reported}
use Rattle.calls.specs.Calls.{opened_area, report_says}
use Rattle.law.specs.Ladders.{WindowTables, Holds, last_entered}
use Rattle.law.specs.Faithful.{table_of_window}
use Rattle.law.specs.Correct.{PassesWith, Right, Counted}
use Rattle.law.specs.Claim2.{Fits}
use Rattle.law.specs.Facts.{Facts}
use Rattle.place.specs.declared.Place.{Place}

pub record Course : Type 0 where
  -- the most links in one pick, and the picks that turning round takes
  pub hops : ℕ
  pub turn : ℕ
  pub n : ℕ
  pub measure : ℕ
  pub limit : ℕ
  pub footprint : List ℕ
  pub area : List ℕ
  pub picks : List (List ℕ)
  pub some_boards : 2 ≤ n
  pub few_boards : n ≤ 32
  pub measure_low : 1 ≤ measure
  pub measure_high : measure ≤ 4
  pub cap : limit ≤ 4096
  pub room : needed measure n limit ≤ length area
  pub recorded : Recording n picks
  pub few : length picks ≤ limit
  pub fits : Fits measure footprint picks n

-- by the kit of document 01
abbrev pub OfDocument : Course → Type 0
OfDocument c = (c.hops ≡ hops01) × (c.turn ≡ turn01)

-- what an opening and a whole run are asked alike: ranges, and room in an area of `words` words
pub record Ranges (n measure limit words : ℕ) : Type 0 where
  pub some_boards : 2 ≤ n
  pub few_boards : n ≤ 32
  pub measure_low : 1 ≤ measure
  pub measure_high : measure ≤ 4
  pub cap : limit ≤ 4096
  pub room : needed measure n limit ≤ words

-- the course of document 01's kit
abbrev pub course_of : (n measure limit : ℕ) (footprint a : List ℕ) (r : List (List ℕ)) → Ranges n measure limit (length a) → Recording n r
    → length r ≤ limit → Fits measure footprint r n → Course
course_of n measure limit footprint a r x rec few fits = record {
  hops = hops01;
  turn = turn01;
  n = n;
  measure = measure;
  limit = limit;
  footprint = footprint;
  area = a;
  picks = r;
  some_boards = x.some_boards;
  few_boards = x.few_boards;
  measure_low = x.measure_low;
  measure_high = x.measure_high;
  cap = x.cap;
  room = x.room;
  recorded = rec;
  few = few;
  fits = fits;
}

abbrev pub kit_in : Course → Kit
kit_in c = kit_with c.hops c.turn c.measure c.n

-- the area as opening leaves it, and the table of its part limit + 3
abbrev pub opened_in : Course → List ℕ
opened_in c = opened_area c.n c.measure c.limit c.footprint c.area

abbrev pub list_in : Course → List ℕ
list_in c = table_at (kit_in c) (opened_in c) (c.limit + 3)

-- when a window passes
abbrev pub PassesIn : Course → ℕ → ℕ → Type 0
PassesIn c = PassesWith (at_most c.hops) c.turn c.measure c.n (list_in c) c.picks

abbrev pub FactsIn : Course → Type 0
FactsIn c = Facts c.hops c.turn c.measure c.n (list_in c) c.picks

-- what the walk composes
abbrev pub tables : Course → WindowTables
tables c = record {
  kit = kit_in c;
  own = λ i. (kit_in c).own i (pick_at c.picks i);
  win = table_of_window (kit_in c).join (kit_in c).own c.picks;
  list = list_in c;
  most = length c.picks;
}

-- the state after the first k picks of r, from st on
unfoldable pub walk_from : Kit → List (List ℕ) → State → ℕ → State
walk_from K r st zero = st
walk_from K r st (suc k) = stepped K (pick_at r (suc k)) (walk_from K r st k)

-- the state before pick 1, x compositions being charged already, and after k picks
abbrev pub start : Course → ℕ → State
start c x = state (charged (fresh c.measure c.n c.limit) x) (opened_in c)

abbrev pub state_at : Course → ℕ → ℕ → State
state_at c x k = walk_from (kit_in c) c.picks (start c x) k

-- compositions charged before pick 1: none under measure 1
abbrev pub Charge : ℕ → ℕ → Type 0
Charge measure x = measure ≡ 1 → x ≡ 0

-- what is told of the place after k picks
pub record CourseTold (c : Course) (x k : ℕ) (p : Place) : Type 0 where
  pub right : Right c.measure (PassesIn c) k (report_says (reported p) p)
  pub counted : Counted c.measure x k (report_says (reported p) p)
  pub sound : x ≡ 0 → Sound p

-- x compositions having been charged before pick 1: after each pick the report is right, and counted within the bounds.
abbrev pub ToldClaim : Type 0
ToldClaim = (c : Course) (x : ℕ) → Charge c.measure x → (k : ℕ) → 1 ≤ k → k ≤ length c.picks → CourseTold c x k (state_at c x k).place

-- After each pick the parts hold what document 01 says: the tables of windows (`table_of_window`), pick i's own table, the footprint, zero.
abbrev pub PartsClaim : Type 0
PartsClaim = (c : Course) (x : ℕ) → Charge c.measure x → (k : ℕ) → 1 ≤ k → k ≤ length c.picks
    → Holds (tables c) (last_entered (state_at c x k).place) (state_at c x k)
