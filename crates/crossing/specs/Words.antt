-- Places and answers as words of 32 bits. A flag of the place is a word in C.
use Rattle.std.specs.Prelude.{ℕ, ◌<◌, ◌^◌, Bool, ◌&&◌, eqb, leb}
use Rattle.model.specs.Journey.{val}
use Rattle.place.specs.declared.Place.{Place}
use Rattle.calls.specs.Answers.{Handed, Outcome}
use Rattle.decision.specs.Decisions.{Decided}
use Rattle.recording.specs.Answers.{Read}
use Rattle.saving.specs.Answers.{Saved}
use Rattle.crossing.specs.declared.PlaceWords.{PlaceWords}
use Rattle.crossing.specs.declared.HandedWords.{HandedWords}
use Rattle.crossing.specs.declared.AnswerWords.{AnswerWords}
use Rattle.crossing.specs.declared.MeasuredWords.{MeasuredWords}
use Rattle.crossing.specs.declared.DecisionWords.{DecisionWords}
use Rattle.crossing.specs.declared.ReadingWords.{ReadingWords}
use Rattle.crossing.specs.declared.SavedWords.{SavedWords}

-- ---- places

-- 0 for no and 1 for yes; any other word is no flag
abbrev pub flag : ℕ → Bool
flag x = leb x 1

abbrev pub flags : PlaceWords → Bool
flags p = flag p.failed && flag p.passed

-- the place that ten words stand for, where the flags are flags
unfoldable pub place_of : PlaceWords → Place
place_of p = record {
  settings = record { boards = p.boards; measure = p.measure; limit = p.limit };
  window = record { taken = record { 0 = p.taken }; start = record { 0 = p.start }; boundary = record { 0 = p.boundary } };
  marks = record { failed = eqb p.failed 1; passed = eqb p.passed 1 };
  counts = record { compositions = record { 0 = p.compositions }; tests = record { 0 = p.tests } };
}

-- the ten words of a place
unfoldable pub words_of : Place → PlaceWords
words_of p = record {
  boards = p.settings.boards;
  measure = p.settings.measure;
  limit = p.settings.limit;
  taken = p.window.taken.0;
  start = p.window.start.0;
  boundary = p.window.boundary.0;
  failed = val p.marks.failed;
  passed = val p.marks.passed;
  compositions = p.counts.compositions.0;
  tests = p.counts.tests.0;
}

-- ---- answers

abbrev pub handed_as : ℕ → PlaceWords → HandedWords
handed_as c p = record { refusal = c; place = p }

abbrev pub handed_words : Handed → HandedWords
handed_words h = handed_as h.refusal (words_of h.place)

abbrev pub answer_words : Outcome → AnswerWords
answer_words o = record { refusal = o.refusal; length = o.length; compositions = o.compositions; tests = o.tests }

abbrev pub measured_words : Outcome → PlaceWords → MeasuredWords
measured_words o p = record { refusal = o.refusal; length = o.length; compositions = o.compositions; tests = o.tests; place = p }

abbrev pub decision_words : Decided → DecisionWords
decision_words d = record { refusal = d.refusal; yes = val d.yes; compositions = d.compositions; tests = d.tests }

abbrev pub reading_words : Read → ReadingWords
reading_words r = record { refusal = r.refusal; boards = r.boards; picks = r.picks }

abbrev pub saved_words : Saved → SavedWords
saved_words s = record { refusal = s.refusal; length = s.length }

-- ---- what a word of 32 bits holds, so that no number is cut short on its way to C

pub record Narrow (p : Place) : Type 0 where
  pub boards : p.settings.boards < 2 ^ 32
  pub measure : p.settings.measure < 2 ^ 32
  pub limit : p.settings.limit < 2 ^ 32
  pub taken : p.window.taken.0 < 2 ^ 32
  pub start : p.window.start.0 < 2 ^ 32
  pub boundary : p.window.boundary.0 < 2 ^ 32
  pub compositions : p.counts.compositions.0 < 2 ^ 32
  pub tests : p.counts.tests.0 < 2 ^ 32

pub record NarrowHanded (h : Handed) : Type 0 where
  pub place : Narrow h.place

pub record NarrowAnswer (o : Outcome) : Type 0 where
  pub length : o.length < 2 ^ 32
  pub compositions : o.compositions < 2 ^ 32
  pub tests : o.tests < 2 ^ 32

pub record NarrowDecision (d : Decided) : Type 0 where
  pub compositions : d.compositions < 2 ^ 32
  pub tests : d.tests < 2 ^ 32

pub record NarrowReading (r : Read) : Type 0 where
  pub boards : r.boards < 2 ^ 32
  pub picks : r.picks < 2 ^ 32

pub record NarrowSaved (s : Saved) : Type 0 where
  pub length : s.length < 2 ^ 32
