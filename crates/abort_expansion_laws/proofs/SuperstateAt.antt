-- A superstate of a chart where the walk comes to it: its row, and what is made of what is inside it, whether it stays or is split.
use Rattle.std.proofs.Common.{◌≡◌, ◌≢◌, ℕ, ◌+◌, Bool, false, ◌||◌, List, [], ◌∷◌, ◌++◌, map, refl, sym, ap, subst, ◌∙◌}
use Rattle.std.specs.Prelude.{reverse}
use Rattle.std.proofs.lemmas.List.{map-append, reverse-append}
use Rattle.sc_text.proofs.EachItem.{Each}
use Rattle.core_charts.specs.declared.region.Region.{Region}
use Rattle.core_charts.specs.declared.region.Transition.{Transition}
use Rattle.core_charts.specs.Aborts.{has_weak}
use Rattle.core_charts.specs.Tests.{at_once, strong_aborts, first_closing_tests}
use Rattle.chart_machine.specs.declared.standing.Move.{Move}
use Rattle.chart_machine.specs.declared.table.Table.{Table}
use Rattle.chart_machine.specs.declared.table.TablePosition.{TablePosition}
use Rattle.chart_machine.specs.Table.{Subtree, state_at, states_in, region_numbers, side_by_side, state_subtree, come_to}
use Rattle.chart_machine.specs.Table.{within as table_within, subtree_of_region as table_of_region}
use Rattle.abort_expansion.specs.declared.flags.Flags.{Flags}
use Rattle.abort_expansion.specs.declared.places.RegionPlaces.{RegionPlaces}
use Rattle.abort_expansion.specs.declared.pieces.Regions.{Regions}
use Rattle.abort_expansion.specs.declared.pieces.NextNumbers.{NextNumbers}
use Rattle.abort_expansion.specs.Flags.{flag_count, flags_of, weak_around}
use Rattle.abort_expansion.specs.Pieces.{expanded_regions, variables_in}
use Rattle.abort_expansion.specs.Superstates.{within}
use Rattle.abort_expansion.specs.Expansion.{piece_of_region}
use Rattle.abort_expansion.proofs.Inner.{weak_inside}
use Rattle.chart_machine_laws.specs.Tree.{holder}
use Rattle.chart_machine_laws.proofs.RowsOfSubtrees.{Holds}
use Rattle.abort_expansion_laws.specs.CoreRows.{IsState, is_final, ends, IsSuper, Images}
use Rattle.abort_expansion_laws.proofs.InRegionRows.{position_of}
use Rattle.abort_expansion_laws.proofs.Walked.{World, InRegion, i}
use Rattle.abort_expansion_laws.proofs.Walks.{RegionsWalk, RegionWalks}
use Rattle.abort_expansion_laws.proofs.WalkSide.{walk_side}
use Rattle.abort_expansion_laws.proofs.WalkSimple.{state_there}
use Rattle.abort_expansion_laws.proofs.EnteredAlike.{AreEntered}

pub record SuperstateAt : Type 0 where
  pub name : List ℕ
  pub initial : Bool
  pub first : Region
  pub others : List Region
  pub all : List Transition
  pub walks : Each RegionWalks (first ∷ others)
  -- what is around it, and the numbers that come next
  pub flags : List Flags
  pub places : RegionPlaces
  pub numbers : NextNumbers
  -- where it stands in the chart, and where what it becomes stands in the core chart
  pub chart_at : TablePosition
  pub core_at : TablePosition
  pub next : ℕ
  pub place : ℕ
  pub begins : Bool

module _ (s : SuperstateAt) where
  open s use {name, initial, first, others, all, walks, flags, places, numbers, chart_at as a, core_at as b, next, begins}

  abbrev pub regions : List Region
  regions = first ∷ others

  abbrev pub weak : Bool
  weak = weak_around flags

  abbrev pub own_flags : Flags
  own_flags = flags_of weak all numbers.variable

  abbrev pub inside_at : NextNumbers
  inside_at = within weak all numbers

  abbrev pub inside : Regions
  inside = expanded_regions (map piece_of_region regions) (flags ++ own_flags ∷ []) own_flags.counter inside_at

  abbrev pub core_inside : List Subtree
  core_inside = map table_of_region inside.regions

  abbrev pub position : TablePosition
  position = position_of begins next b

  abbrev pub chart_piece : Subtree
  chart_piece = state_subtree (record { name = name; is_initial = initial; is_final = false; regions = map table_of_region regions; transitions = all })

  pub inner : RegionsWalk (side_by_side (map table_of_region regions) (table_within a)) (states_in (map table_of_region regions))
      (region_numbers (map table_of_region regions) a.region) inside (variables_in (weak_around (flags ++ own_flags ∷ [])) (map piece_of_region regions))
      (flags ++ own_flags ∷ []) own_flags.counter inside_at (table_within a) (table_within position)
  inner = walk_side regions walks (flags ++ own_flags ∷ []) own_flags.counter inside_at (table_within a) (table_within position)

  -- how many variables there are
  abbrev pub variables : ℕ
  variables = flag_count weak all + variables_in (weak || has_weak all) (map piece_of_region regions)

  pub inner_variables : variables_in (weak_around (flags ++ own_flags ∷ [])) (map piece_of_region regions) ≡
      variables_in (weak || has_weak all) (map piece_of_region regions)
  inner_variables = ap (λ z. variables_in z (map piece_of_region regions)) (weak_inside flags weak all numbers.variable)

  -- ---- its row in the table of the chart

  module _ (k : Table) (holds : Holds k a (chart_piece.parts a)) where
    pub held : holder k a.state ≡ a.holder
    held = ap (λ z. z.holder) holds.states.0

    pub regions_row : (state_at k a.state).regions ≡ region_numbers (map table_of_region regions) a.region
    regions_row = ap (λ z. z.regions) holds.states.0

    pub super : IsSuper k a.state
    super none = let wrong : region_numbers (map table_of_region regions) a.region ≡ [] = sym regions_row ∙ none in absurd cc

    pub not_ends : is_final k a.state ≡ false
    not_ends =
        ap (λ z. ends z.entered) holds.states.0 ∙ come (at_once (strong_aborts all)) (side_by_side (map table_of_region regions) (table_within a)).entered
      where
        come : (strong : List Transition) (opened : List Move) → ends (come_to a.holder a.state strong (first_closing_tests all) opened) ≡ false
        come [] [] = refl
        come [] (m ∷ moves) = refl
        come (t ∷ strong) opened = refl

    here_of : (ms : List Move) → (state_at k a.state).entered ≡ ms → ms ≢ [] → IsState k a.state
    here_of [] e some = absurd (some refl)
    here_of (m ∷ ms) e some = state_there k a.state m ms e

    pub here : IsState k a.state
    here = here_of _ (ap (λ z. z.entered) holds.states.0) (come (at_once (strong_aborts all)))
      where
        come : (strong : List Transition) → come_to a.holder a.state strong
            (first_closing_tests all) (side_by_side (map table_of_region regions) (table_within a)).entered ≢ []
        come [] none = absurd cc
        come (t ∷ strong) none = absurd cc

    -- what is entered inside
    pub regions_entered : (core : Table) (images : Images) (moves : List Move) →
        AreEntered k core images (region_numbers (map table_of_region regions) a.region)
        (side_by_side (map table_of_region regions) (table_within a)).entered moves →
        AreEntered k core images (state_at k a.state).regions (state_at k a.state).opened moves
    regions_entered core images moves entered =
        subst (λ zs. AreEntered k core images zs (state_at k a.state).opened moves) (sym regions_row)
        (subst (λ opened. AreEntered k core images (region_numbers (map table_of_region regions) a.region) opened moves)
        (sym (ap (λ z. z.opened) holds.states.0)) entered)

  -- ---- what is around those inside

  module _ (w : World) (region : InRegion w a b flags places) where
    pub forks_inside : (i w).main_of a.state ≡ b.state → b.state ∷ b.around ≡ map (i w).main_of (a.state ∷ a.around)
    forks_inside main_is = ap (λ n. n ∷ b.around) (sym main_is) ∙ ap (λ zs. (i w).main_of a.state ∷ zs) region.forks

    pub flags_inside : (i w).flags_of a.state ≡ own_flags → flags ++ own_flags ∷ [] ≡ map (i w).flags_of (reverse (a.state ∷ a.around))
    flags_inside own_is =
        ap (λ zs. zs ++ own_flags ∷ []) region.flags_are ∙
        (ap (λ z. map (i w).flags_of (reverse a.around) ++ z ∷ []) (sym own_is) ∙
        (sym (map-append (i w).flags_of (reverse a.around) (a.state ∷ [])) ∙
        ap (map (i w).flags_of) (sym (reverse-append (a.state ∷ []) a.around))))
