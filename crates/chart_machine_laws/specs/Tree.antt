-- The table of a chart is a tree of superstates and regions.
use Rattle.std.specs.Prelude.{◌≡◌, ℕ, suc, ◌<◌, ◌⊎◌, List, ◌∷◌, length, Contains}
use Rattle.core_charts.specs.declared.features.Features.{Features}
use Rattle.core_charts.specs.Chart.{Chart}
use Rattle.core_charts.specs.Rules.{IsChart}
use Rattle.chart_machine.specs.declared.table.Table.{Table}
use Rattle.chart_machine.specs.Table.{state_at, region_at, table}

-- the superstates around a region, the innermost first
abbrev pub around : Table → ℕ → List ℕ
around k r = (region_at k r).around

-- the region that holds a state
abbrev pub holder : Table → ℕ → ℕ
holder k s = (state_at k s).holder

-- a region of the table
abbrev pub IsThere : Table → ℕ → Type 0
IsThere k r = (0 < r) × (r < suc (length k.regions))

-- region r lies in a superstate that region a holds; each one lies in the chart
abbrev pub LiesUnder : Table → ℕ → ℕ → Type 0
LiesUnder k r a = ((s : ℕ) × Contains (around k r) s × (holder k s ≡ a)) ⊎ (a ≡ 0)

-- around a region stands its innermost superstate, and behind that what is around the region that holds it
pub record IsNested (k : Table) : Type 0 where
  pub upward : (r s : ℕ) (ss : List ℕ) → around k r ≡ s ∷ ss → ss ≡ around k (holder k s)

pub record IsTree (k : Table) : Type 0 where
  pub nested : IsNested k
  -- the innermost superstate around a region has the region among its own
  pub innermost : (r s : ℕ) (ss : List ℕ) → around k r ≡ s ∷ ss → Contains (state_at k s).regions r
  -- and of a superstate's own regions it is the innermost one
  pub children : (s r : ℕ) → Contains (state_at k s).regions r → around k r ≡ s ∷ around k (holder k s)
  -- the states of a region are held by it
  pub held : (r s : ℕ) → Contains (region_at k r).states s → holder k s ≡ r
  -- and each state of the table is one of those of its holder
  pub holds : (s : ℕ) → s < length k.states → Contains (region_at k (holder k s)).states s
  -- who holds a superstate around a region has a smaller number
  pub deeper : (r s : ℕ) → Contains (around k r) s → holder k s < r

abbrev pub ChartsAreTrees : Type 0
ChartsAreTrees = (f : Features) (c : Chart) → IsChart f c → IsTree (table c)
