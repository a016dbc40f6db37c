-- What a monitor adds to a fork, where there is one.
use Rattle.std.proofs.Common.{if◌then◌else◌}
use Rattle.std.proofs.Common.{◌≡◌, ℕ, suc, ◌+◌, Bool, true, false, Option, None, List, [], ◌∷◌, map, length, refl, ap, ◌∙◌}
use Rattle.std.proofs.Common.{arith}
use Rattle.std.proofs.lemmas.List.{append-nil}
use Rattle.core_charts.specs.Tests.{at_once}
use Rattle.chart_machine.specs.declared.standing.Standing.TheVariants as at
use Rattle.chart_machine.specs.Steps.{to}
use Rattle.core_charts.specs.declared.region.Region.{Region}
use Rattle.core_charts.specs.declared.region.Transition.{Transition}
use Rattle.chart_machine.specs.declared.table.Table.{Table}
use Rattle.chart_machine.specs.declared.table.TablePosition.{TablePosition}
use Rattle.chart_machine.specs.Table.{states_in, region_numbers, side_by_side}
use Rattle.chart_machine.specs.Table.{subtree_of_region as table_of_region}
use Rattle.abort_expansion.specs.declared.flags.Flags.{Flags}
use Rattle.abort_expansion.specs.Superstates.{watched, monitor, monitor_transitions}
use Rattle.abort_expansion.specs.Expansion.{piece_of_region}
use Rattle.chart_machine_laws.specs.Tree.{around}
use Rattle.chart_machine_laws.proofs.RowsOfSubtrees.{Holds, AllSized}
use Rattle.abort_expansion_laws.proofs.SideRows.{side_head}
use Rattle.abort_expansion_laws.proofs.Walked.{ValuesAt}
use Rattle.abort_expansion_laws.proofs.RowsOfForks.{region_around, MonitorRows, monitor_rows, monitor_sized}
use Rattle.abort_expansion_laws.proofs.RowsOfForks.{monitor_states, monitor_entered}

-- ---- what a monitor adds, where there is one

pub watched_sized : (b : Bool) (s : ℕ) (around : List Flags) (f : Flags) (all : List Transition) →
    AllSized (map table_of_region (watched b (monitor s around f all)))
watched_sized true s around f all = (monitor_sized s around f all, tt)
watched_sized false s around f all = tt

abbrev pub no_entries : Bool → List (Option ℕ)
no_entries b = if b then None ∷ None ∷ [] else []

pub watched_many : (b : Bool) (s : ℕ) (around : List Flags) (f : Flags) (all : List Transition) →
    states_in (map table_of_region (watched b (monitor s around f all))) ≡ length (no_entries b)
watched_many true s around f all = omega (arith, monitor_states s around f all)
watched_many false s around f all = refl

pub watched_numbers : (b : Bool) (m : Region) (n x : ℕ) → region_numbers (map table_of_region (watched b m)) n ≡ (if b then (if b then n else x) ∷ [] else [])
watched_numbers true m n x = refl
watched_numbers false m n x = refl

pub monitor_there : (b : Bool) (s : ℕ) (around : List Flags) (f : Flags) (all : List Transition) (core : Table) (position : TablePosition) → b ≡ true →
    Holds core position (side_by_side (map table_of_region (watched b (monitor s around f all))) position) → MonitorRows s around f all core position
monitor_there true s around f all core position certain h =
    monitor_rows s around f all core position (side_head core (table_of_region (monitor s around f all)) [] position h)
monitor_there false s around f all core position certain h = absurd cc

-- what is entered with it
pub watched_entered : (b : Bool) (s : ℕ) (around : List Flags) (f : Flags) (all : List Transition) (position : TablePosition) →
    (side_by_side (map table_of_region (watched b (monitor s around f all))) position).entered ≡
    (if b then to position.region (at.Trying position.state (at_once (monitor_transitions around f all))) ∷ [] else [])
watched_entered true s around f all position =
    append-nil ((table_of_region (monitor s around f all)).parts position).entered ∙ monitor_entered s around f all position
watched_entered false s around f all position = refl

pub none_first : (b : Bool) (g : ℕ → Option ℕ) (n : ℕ) → b ≡ true → ValuesAt g n (no_entries b) → g n ≡ None
none_first true g n certain h = h.0
none_first false g n certain h = absurd cc

pub first_around : (cs : List Region) (core : Table) (position : TablePosition) (x : ℕ) (xs : List ℕ) →
    region_numbers (map table_of_region cs) position.region ≡ x ∷ xs → Holds core position (side_by_side (map table_of_region cs) position) →
    around core position.region ≡ position.around
first_around [] core position x xs e h = absurd cc
first_around (c ∷ cs) core position x xs e h = region_around core c position (side_head core (table_of_region c) (map table_of_region cs) position h)

pub numbers_many : (regions : List Region) (n : ℕ) → length (region_numbers (map table_of_region regions) n) ≡ length (map piece_of_region regions)
numbers_many [] n = refl
numbers_many (r ∷ regions) n = ap suc (numbers_many regions (n + (table_of_region r).regions))
