-- A machine that follows another: to each step of that it has steps that show the same, and when that is over it comes to
-- its own end by silent steps.
use Rattle.std.specs.Prelude.{ℕ, ◌≡◌, Option, Some, None, List, [], ◌∷◌}
use Rattle.sc_values.specs.Runs.{Machine, Act, act_of, replay, IsOver}
use Rattle.chart_lowering_laws.specs.Shown.{Showing, move, moves, shown_acts}

-- steps that lead from b to a configuration that is good, and show these acts
pub record Answers (n : Machine) (shows : Showing n) (b : n.Configuration) (Good : n.Configuration → Type 0) (acts : List Act) : Type 0 where
  pub run : List ℕ
  pub end : n.Configuration
  pub runs : replay n run b ≡ Some end
  pub shown : shown_acts (moves n shows run b) ≡ acts
  pub good : Good end

-- each step of a run is one that may be taken where it is taken
abbrev pub HoldsAfter : (m : Machine) → (m.Configuration → Type 0) → Option m.Configuration → Type 0
HoldsAfter m Holds None = Unit {0}
HoldsAfter m Holds (Some d) = Holds d

abbrev pub EachMay : (m : Machine) → (ℕ → m.Configuration → Type 0) → List ℕ → m.Configuration → Type 0
EachMay m May [] c = Unit {0}
EachMay m May (t ∷ run) c = May t c × HoldsAfter m (EachMay m May run) (m.step t c)

-- an answer by such steps alone
pub record AnswersBy (n : Machine) (shows : Showing n) (b : n.Configuration) (May : ℕ → n.Configuration → Type 0) (Good : n.Configuration → Type 0)
    (acts : List Act) : Type 0 where
  pub answers : Answers n shows b Good acts
  pub each : EachMay n May answers.run b

-- nobody is enabled any more, and this corresponds to c
abbrev pub AtEnd : (m n : Machine) → (m.Configuration → n.Configuration → Type 0) → m.Configuration → n.Configuration → Type 0
AtEnd m n Q c b = IsOver n b × Q c b

-- n follows m, where R relates what is under way and Q what has ended
pub record Follows (m n : Machine) (shows : Showing m) (shows_too : Showing n) (R Q : m.Configuration → n.Configuration → Type 0) : Type 0 where
  pub step : (c d : m.Configuration) (b : n.Configuration) (t : ℕ) → R c b → m.step t c ≡ Some d →
      Answers n shows_too b (R d) (shown_acts (move (shows c t) (act_of m c t) ∷ []))
  pub over : (c : m.Configuration) (b : n.Configuration) → R c b → IsOver m c → Answers n shows_too b (AtEnd m n Q c) []
  -- whoever is forked apart in n is so in m
  pub apart : (t u a : ℕ) → n.ForkedApart t u a → m.ForkedApart t u a
