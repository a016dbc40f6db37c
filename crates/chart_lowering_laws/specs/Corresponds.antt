-- When a configuration of a chart and one of its lowering correspond. Either may be ahead of the other by silent steps:
-- the chart by a superstate that is entered and not yet forked, the program by tests without triggers.
use Rattle.std.specs.Prelude.{ℕ, zero, suc, ◌≡◌, List, [], ◌∷◌, length, nat_eq, if◌then◌else◌}
use Rattle.core_charts.specs.declared.region.Transition.{Transition}
use Rattle.core_charts.specs.Tests.{terminations}
use Rattle.chart_machine.specs.declared.standing.Standing.{Standing}
use Rattle.chart_machine.specs.declared.standing.Standing.TheVariants as at
use Rattle.chart_machine.specs.declared.standing.Configuration.{Configuration}
use Rattle.chart_machine.specs.declared.standing.Move.{Move}
use Rattle.chart_machine.specs.declared.table.Table.{Table}
use Rattle.chart_machine.specs.Table.{state_at, region_at}
use Rattle.chart_machine.specs.Turns.{standing_of}
use Rattle.chart_machine.specs.Steps.{state_in}
use Rattle.scl.specs.Block.{Block, End, Pause, Fork}
use Rattle.scl.specs.Numbering.{Numbered}
use Rattle.scl.specs.Meaning.{State, Doing, Away, Todo, Forked, Resting, Resuming, Finished, doing}
use Rattle.scl_graph_laws.specs.Standing.{IsStep}
use Rattle.chart_lowering_laws.specs.Layout.{Layout, TriesOut, Acts, InRegion, IsRegionOf, IsSimple, IsSuper}

-- the end of a thread
abbrev pub IsEnd : Block → Type 0
IsEnd (End n) = Unit {0}
IsEnd other = ⊥

-- in the superstate s, whose thread comes to its fork, or to the pause behind it
abbrev pub ComesTo : Layout → ℕ → List Transition → Block → Type 0
ComesTo l s tests (Fork n branches rest) = l.fork s ≡ Fork n branches rest
ComesTo l s tests (Pause n rest) = (tests ≡ []) × (l.pause s ≡ Pause n rest)
ComesTo l s tests other = ⊥

-- a region that stands there, with a thread that is at this
abbrev pub Live : Table → Block → Layout → ℕ → Standing → Doing → Type 0
Live k root l r (at.Trying s tests) (Todo todo) = IsStep todo × TriesOut k root l s tests todo
Live k root l r (at.Trying s tests) (Resting n rest) = (tests ≡ []) × (l.pause s ≡ Pause n rest)
Live k root l r (at.Trying s tests) (Resuming n rest) = (tests ≡ (state_at k s).transitions) × (l.pause s ≡ Pause n rest)
Live k root l r (at.Acting s (e ∷ effects) target) (Todo todo) =
    IsStep todo × InRegion k r (state_in k r target) × Acts root (l.begin (state_in k r target)) (e ∷ effects) todo
Live k root l r (at.Within s tests) (Todo todo) = (tests ≡ terminations (state_at k s).transitions) × ComesTo l s tests todo
Live k root l r (at.Within s tests) (Forked n branches rest) = (tests ≡ terminations (state_at k s).transitions) × (l.fork s ≡ Fork n branches rest)
Live k root l r (at.Within s tests) (Resting n rest) = (tests ≡ []) × (tests ≡ terminations (state_at k s).transitions) × (l.pause s ≡ Pause n rest)
Live k root l r (at.Within s tests) (Resuming n rest) = (tests ≡ []) × (tests ≡ terminations (state_at k s).transitions) × (l.pause s ≡ Pause n rest)
Live k root l r at.Ended (Todo todo) = IsEnd todo
Live k root l r at.Ended Finished = Unit {0}
Live k root l r standing doing = ⊥

-- the state in which a region stands
abbrev pub HeldBy : Table → Block → Layout → ℕ → Standing → Type 0
HeldBy k root l r (at.Trying s tests) = InRegion k r s × IsSimple k root l s
HeldBy k root l r (at.Acting s effects target) = InRegion k r s
HeldBy k root l r (at.Within s tests) = InRegion k r s × IsSuper k root l s
HeldBy k root l r other = Unit {0}

-- what a superstate, or the chart itself, gives to its regions
pub data Giving : Type 0 where
  -- it is not entered
  Nothing : Giving
  -- it is entered, but its thread has not forked yet
  Ready : Giving
  Turn : Giving
  -- all its regions have ended, and its thread went on without them
  Past : Giving

abbrev pub giving : Doing → Giving
giving (Todo (Fork n branches rest)) = Ready
giving Away = Ready
giving (Forked n branches rest) = Turn
giving other = Past

abbrev pub giving_in : ℕ → Standing → Doing → Giving
giving_in s (at.Within u tests) d = if nat_eq u s then giving d else Nothing
giving_in s other d = Nothing

abbrev pub giving_of_root : Doing → Giving
giving_of_root Away = Nothing
giving_of_root other = giving other

abbrev pub given : Table → Configuration → State → List ℕ → Giving
given k c s [] = giving_of_root (doing s zero)
given k c s (u ∷ around) = giving_in u (standing_of c (state_at k u).holder) (doing s (state_at k u).holder)

-- where a region stands that was just entered: what entering its initial state makes of it comes first
abbrev pub first_standing : List Move → Standing
first_standing [] = at.Outside
first_standing (m ∷ moves) = m.standing

abbrev pub fresh : Table → Layout → ℕ → Standing
fresh k l r = first_standing (state_at k (l.initial r)).entered

abbrev pub Fits : Table → Block → Layout → ℕ → Giving → Standing → Doing → Type 0
Fits k root l r Nothing standing d = (standing ≡ at.Outside) × (d ≡ Away)
Fits k root l r Ready standing d = (standing ≡ fresh k l r) × (d ≡ Away)
Fits k root l r Turn standing d = Live k root l r standing d × HeldBy k root l r standing
Fits k root l r Past standing d = (standing ≡ at.Ended) × (d ≡ Away)

-- the thread of the chart itself
abbrev pub IsAtRoot : Block → Doing → Type 0
IsAtRoot root Away = Unit {0}
IsAtRoot root (Todo (Fork n branches rest)) = root ≡ Fork n branches rest
IsAtRoot root (Todo (End n)) = Unit {0}
IsAtRoot root (Forked n branches rest) = root ≡ Fork n branches rest
IsAtRoot root Finished = Unit {0}
IsAtRoot root other = ⊥

pub record Corresponds (k : Table) (p : Numbered) (l : Layout) (c : Configuration) (s : State) : Type 0 where
  pub variables : c.variables ≡ s.variables
  pub regions : length c.regions ≡ suc (length k.regions)
  pub threads : length s.threads ≡ suc (length k.regions)
  pub chart : standing_of c zero ≡ at.Outside
  pub root : IsAtRoot p.root (doing s zero)
  pub each : (r : ℕ) → IsRegionOf k r → Fits k p.root l r (given k c s (region_at k r).around) (standing_of c r) (doing s r)
