-- Where the states of a chart stand in the text of a program, and what stands there: what makes a program of SCL a
-- lowering of a chart's table. No label and no number of a node is looked at.
use Rattle.std.specs.Prelude.{ℕ, zero, suc, ◌≡◌, ◌<◌, ◌⊎◌, Bool, true, false, Option, Some, None, List, [], ◌∷◌, ◌++◌, length, Contains}
use Rattle.sc_values.specs.declared.expression.Expr.{Expr}
use Rattle.core_charts.specs.declared.region.Effect.{Effect}
use Rattle.core_charts.specs.declared.region.Transition.{Transition}
use Rattle.core_charts.specs.Tests.{at_once, strong_aborts, terminations, closing_tests, first_closing_tests}
use Rattle.chart_machine.specs.declared.standing.Standing.TheVariants as at
use Rattle.chart_machine.specs.declared.standing.Move.{Move}
use Rattle.chart_machine.specs.declared.table.Table.{Table}
use Rattle.chart_machine.specs.Table.{state_at, region_at}
use Rattle.chart_machine.specs.Steps.{to, state_in}
use Rattle.scl.specs.Block.{Block, End, Assign, Goto, Pause, If, Fork, Branches}
use Rattle.scl.specs.Labels.{before, settled}
use Rattle.scl.specs.Places.{Place, IsBranch, threads_of}
use Rattle.scl.specs.Numbering.{Numbered}
use Rattle.scl_graph_laws.specs.Settling.{Settled}

-- what is to be done from the label of a state on; from its pause on; from its fork on; and the initial state of each
-- region. Who has no pause or no fork has something else there
pub record Layout : Type 0 where
  pub begin : ℕ → Block
  pub pause : ℕ → Block
  pub fork : ℕ → Block
  pub initial : ℕ → ℕ
  -- the regions of the chart itself
  pub top : List ℕ
  -- how many gotos stand between a state and the statement to which it leads
  pub rank : ℕ → ℕ

-- these effects are done, and then it is gone on from there
abbrev pub Acts : Block → Block → List Effect → Block → Type 0
Acts root into [] todo = settled root todo ≡ settled root into
Acts root into (e ∷ effects) todo =
    (n : ℕ) × (rest : Block) × (settled root todo ≡ Some (Assign n e.variable e.value rest)) × Acts root into effects rest

-- the test of a trigger: where it holds this is done, else the others are tried. Without a trigger it holds
abbrev pub Tests : Block → Option Expr → (Block → Type 0) → (Block → Type 0) → Block → Type 0
Tests root None does others todo = does todo
Tests root (Some e) does others todo =
    (n : ℕ) × (a : Block) × (b : Block) × (rest : Block) × (settled root todo ≡ Some (If n e a b rest)) × does (before a rest) × others (before b rest)

-- these transitions are tried in order, and where none is taken the thread pauses there
abbrev pub Tries : Block → (Transition → Block → Type 0) → Block → List Transition → Block → Type 0
Tries root does pause [] todo = (n : ℕ) × (rest : Block) × (pause ≡ Pause n rest) × (settled root todo ≡ Some (Pause n rest))
Tries root does pause (t ∷ tests) todo = Tests root t.trigger (does t) (Tries root does pause tests) todo

-- a state of region r
pub record InRegion (k : Table) (r s : ℕ) : Type 0 where
  pub there : s < length k.states
  pub holder : (state_at k s).holder ≡ r

-- takes a transition of a state of region r
abbrev pub Takes : Table → Block → Layout → ℕ → Transition → Block → Type 0
Takes k root l r t todo = InRegion k r (state_in k r t.target) × Acts root (l.begin (state_in k r t.target)) t.effects todo

-- tries these transitions out of state s
abbrev pub TriesOut : Table → Block → Layout → ℕ → List Transition → Block → Type 0
TriesOut k root l s tests todo = Tries root (Takes k root l (state_at k s).holder) (l.pause s) tests todo

-- entering these regions enters their initial states
abbrev pub all_entered : Table → Layout → List ℕ → List Move
all_entered k l [] = []
all_entered k l (r ∷ regions) = (state_at k (l.initial r)).entered ++ all_entered k l regions

-- a simple state: entering it is to try its immediate transitions, and so does what stands behind its label; behind its
-- pause all its transitions are tried
pub record IsSimple (k : Table) (root : Block) (l : Layout) (s : ℕ) : Type 0 where
  pub entered : (state_at k s).entered ≡ to (state_at k s).holder (at.Trying s (at_once (state_at k s).transitions)) ∷ []
  pub none_inside : (q : ℕ) → ¬ Contains (region_at k q).around s
  pub begins : TriesOut k root l s (at_once (state_at k s).transitions) (l.begin s)
  pub wakes : (n : ℕ) (rest : Block) → l.pause s ≡ Pause n rest → TriesOut k root l s (state_at k s).transitions rest

-- a final state: entering it ends its region, and its label leads to the end of the thread
pub record IsFinal (k : Table) (root : Block) (l : Layout) (s : ℕ) : Type 0 where
  pub entered : (state_at k s).entered ≡ to (state_at k s).holder at.Ended ∷ []
  pub none_inside : (q : ℕ) → ¬ Contains (region_at k q).around s
  pub end : ℕ
  pub begins : settled root (l.begin s) ≡ Some (End end)

-- what stands behind a fork goes on with an effect or a goto: the superstate has a termination
abbrev pub goes_on : Block → Bool
goes_on (Assign n x e rest) = true
goes_on (Goto g name rest) = true
goes_on other = false

-- what stands behind the fork of a superstate
abbrev pub Behind : Table → Block → Layout → ℕ → List Transition → Block → Type 0
Behind k root l s [] rest =
    (n : ℕ) × (more : Block) × (l.pause s ≡ Pause n more) × (settled root rest ≡ Some (Pause n more)) × (settled root more ≡ Some (Pause n more))
    × (goes_on rest ≡ false)
Behind k root l s (join ∷ others) rest =
    Takes k root l (state_at k s).holder join rest × (others ≡ []) × (join.trigger ≡ None) × (goes_on rest ≡ true)

-- the branches of a fork begin with the initial states of their regions
pub record Opens (root : Block) (l : Layout) (regions : List ℕ) (branches : Branches) : Type 0 where
  pub threads : threads_of branches ≡ regions
  pub bodies : (q : ℕ) (body : Block) → IsBranch branches q body → settled root body ≡ settled root (l.begin (l.initial q))

-- a superstate without aborts: entering it enters its regions, and its label leads to a fork of these
pub record IsSuper (k : Table) (root : Block) (l : Layout) (s : ℕ) : Type 0 where
  pub no_strong : strong_aborts (state_at k s).transitions ≡ []
  pub closing : closing_tests (state_at k s).transitions ≡ terminations (state_at k s).transitions
  pub first_closing : first_closing_tests (state_at k s).transitions ≡ terminations (state_at k s).transitions
  pub opened : (state_at k s).opened ≡ all_entered k l (state_at k s).regions
  pub entered : (state_at k s).entered ≡ to (state_at k s).holder (at.Within s (terminations (state_at k s).transitions)) ∷ (state_at k s).opened
  pub node : ℕ
  pub branches : Branches
  pub rest : Block
  pub fork : l.fork s ≡ Fork node branches rest
  pub place : Place root (state_at k s).holder (Fork node branches rest)
  pub begins : settled root (l.begin s) ≡ Some (Fork node branches rest)
  pub opens : Opens root l (state_at k s).regions branches
  pub behind : Behind k root l s (terminations (state_at k s).transitions) rest

-- what stands behind a state's label is what the state is
abbrev pub StandsThere : Table → Block → Layout → ℕ → Type 0
StandsThere k root l s = IsSimple k root l s ⊎ (IsFinal k root l s ⊎ IsSuper k root l s)

-- the tree of regions: each lies in a state of a region of smaller number, or in the chart itself
pub record LiesIn (k : Table) (r s : ℕ) : Type 0 where
  pub there : s < length k.states
  pub held : Contains (state_at k s).regions r
  pub around : (region_at k r).around ≡ s ∷ (region_at k (state_at k s).holder).around
  pub less : (state_at k s).holder < r

abbrev pub IsRegionOf : Table → ℕ → Type 0
IsRegionOf k r = (zero < r) × (r < suc (length k.regions))

-- a region, or the chart itself
abbrev pub IsNumberOf : Table → ℕ → Type 0
IsNumberOf k r = (r ≡ zero) ⊎ IsRegionOf k r

pub record IsTree (k : Table) (l : Layout) : Type 0 where
  pub holders : (s : ℕ) → s < length k.states → IsRegionOf k (state_at k s).holder
  pub regions : (s r : ℕ) → s < length k.states → Contains (state_at k s).regions r → IsRegionOf k r × LiesIn k r s
  pub tops : (r : ℕ) → Contains l.top r → IsRegionOf k r × ((region_at k r).around ≡ [])
  pub each : (r : ℕ) → IsRegionOf k r → ((Contains l.top r × ((region_at k r).around ≡ [])) ⊎ ((s : ℕ) × LiesIn k r s))
  pub initials : (r : ℕ) → IsRegionOf k r → InRegion k r (l.initial r)

-- what the first thread has to do: it forks the chart's regions, and ends when they have ended
pub record IsRoot (k : Table) (root : Block) (l : Layout) : Type 0 where
  pub node : ℕ
  pub branches : Branches
  pub end : ℕ
  pub is : root ≡ Fork node branches (End end)
  pub opened : k.opened ≡ all_entered k l l.top
  pub opens : Opens root l l.top branches
  pub some : (r : ℕ) × Contains l.top r

-- a fork of thread t forks the regions of a superstate of region t, or those of the chart
pub data ForksRegions (k : Table) (l : Layout) (t : ℕ) (threads : List ℕ) : Type 0 where
  of_chart : t ≡ zero → threads ≡ l.top → ForksRegions k l t threads
  of_state : (u : ℕ) → InRegion k t u → threads ≡ (state_at k u).regions → ForksRegions k l t threads

-- the program is a lowering of the chart
pub record Lowers (k : Table) (p : Numbered) (l : Layout) : Type 0 where
  pub variables : p.variables ≡ k.variables
  pub threads : p.threads ≡ suc (length k.regions)
  pub tree : IsTree k l
  pub root : IsRoot k p.root l
  pub states : (s : ℕ) → s < length k.states → StandsThere k p.root l s
  pub forks : (t n : ℕ) (branches : Branches) (rest : Block) → Place p.root t (Fork n branches rest) → ForksRegions k l t (threads_of branches)
  -- each state leads to a statement: no labels and gotos alone lead back to themselves
  pub leads : (s : ℕ) → s < length k.states → Settled p.root (state_at k s).holder (l.begin s)
  pub falls : (s : ℕ) (t : Transition) (tests : List Transition) → s < length k.states → at_once (state_at k s).transitions ≡ t ∷ tests → t.trigger ≡ None →
      t.effects ≡ [] →
      l.rank (state_in k (state_at k s).holder t.target) < l.rank s
