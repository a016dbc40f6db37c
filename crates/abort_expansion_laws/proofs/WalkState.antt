-- Any state of a chart, and what it becomes.
use Rattle.std.proofs.Common.{◌≡◌, ℕ, suc, ◌+◌, ◌<◌, Bool, true, false, Some, List, [], ◌∷◌, ◌++◌, map, length, refl, sym, ap, subst, ◌∙◌, arith}
use Rattle.std.proofs.Common.{unwrap_or, if◌then◌else◌}
use Rattle.sc_text.proofs.EachItem.{Each}
use Rattle.core_charts.specs.declared.region.Region.{Region}
use Rattle.core_charts.specs.declared.region.Region.TheOpen.{State-F}
use Rattle.core_charts.specs.declared.region.Region.TheViews.{out-State}
use Rattle.core_charts.specs.declared.region.Region.TheFolds.{fold_out-State}
use Rattle.core_charts.specs.declared.region.Transition.{Transition}
use Rattle.core_charts.specs.declared.region.State.{State}
use Rattle.core_charts.specs.Rules.{IsBareIfFinal}
use Rattle.chart_machine.specs.declared.table.TablePosition.{TablePosition}
use Rattle.chart_machine.specs.Table.{Subtree, states_in, past_states, next_behind, subtree_of_region as table_of_region, subtree_of_state as table_of_state}
use Rattle.chart_machine.specs.Table.{region_subtree as table_region_piece, state_subtree as table_state_piece}
use Rattle.chart_machine.specs.Table.{state_at}
use Rattle.abort_expansion.specs.declared.pieces.StatePieces.{StatePieces}
use Rattle.abort_expansion.specs.Flags.{has_join, preparation_name}
use Rattle.core_charts.specs.Aborts.{has_aborts}
use Rattle.abort_expansion.specs.Pieces.{RegionPiece, StatePiece, beside}
use Rattle.abort_expansion.specs.Superstates.{stays, is_prepared, prepared, as_it_is}
use Rattle.abort_expansion.specs.Expansion.{piece_of_region, piece_of_state, region_piece, state_piece}
use Rattle.chart_machine_laws.proofs.RowsOfSubtrees.{IsSized, state_sized}
use Rattle.chart_machine_laws.proofs.TableTrees.{NoneInitial, OnceInitial}
use Rattle.abort_expansion_laws.specs.CoreRows.{simple_row}
use Rattle.abort_expansion_laws.proofs.SimpleRows.{rolled}
use Rattle.abort_expansion_laws.proofs.InRegionRows.{InRegionAt, rest_holds}
use Rattle.abort_expansion_laws.proofs.Walked.{World, values_from, Range, range_to, range_more, CoreStateFits, for_entry, thread}
use Rattle.abort_expansion_laws.proofs.Walks.{Fits, StateStands, StateWalk, StateWalksBy, StateCounts, StateWalks, RegionWalks, pieces_of}
use Rattle.abort_expansion_laws.proofs.WalkSide.{counts_side, sized_side}
use Rattle.abort_expansion_laws.proofs.LocalImages.{preparing}
use Rattle.abort_expansion_laws.proofs.WalkSimple.{walk_simple, one_row, one_sized, one_begins, one_state}
use Rattle.abort_expansion_laws.proofs.WalkStaying.{walk_staying}
use Rattle.abort_expansion_laws.proofs.SuperstateAt.{SuperstateAt, regions, own_flags, inside, chart_piece, inner, variables}
use Rattle.abort_expansion_laws.proofs.SuperstateAt as superstate
use Rattle.abort_expansion_laws.proofs.ForkPieces as forks
use Rattle.abort_expansion_laws.proofs.WalkFork.{fork_fits, state_fits}

module _ (s : SuperstateAt) (few : length (map piece_of_region (regions s)) < 2147483648) where
  open s use {name, all, flags, places, numbers, chart_at as a, core_at as b, next, place, begins}

  -- without a preparation
  walk_fork : stays flags all ≡ false → is_prepared flags all ≡ false →
      StateWalk (chart_piece s) (forks.made s) (variables s) false 2 flags places place begins numbers a b next
  walk_fork apart plain =
      record {
        image = forks.image s b.state;
        inner = (inner s).part.states;
        owners = forks.owners s;
        entry = refl;
        placed = refl;
        core_sized = forks.sizes s;
        core_many = forks.many s;
        long_states = ap suc (inner s).long_states;
        long_owners = forks.long_owners s;
        long_variables = forks.long_variables s;
        wide = refl;
        first = (_, (_, refl));
        stands = (_, refl);
        begun = λ certain. forks.fork_begins s ∙ certain;
        not_initial = forks.not_initial s;
        one_initial = forks.one_initial s;
        final_is = λ w holds. superstate.not_ends s w.k holds;
        held_chart = λ w holds. superstate.held s w.k holds;
        held_core = λ w more rows once. forks.held_core s w.core more rows;
        facts = λ w more stands.
            fork_fits s b.state w more stands
            (state_fits s b.state w more stands few apart (stands.entries.mapped.0 ∙ ap Some stands.entries.numbered)
            (λ certain. let wrong : true ≡ false = sym certain ∙ plain in absurd cc) (λ e. refl));
      }

  -- with one
  abbrev many_regions : ℕ
  many_regions = length (map piece_of_region (regions s))

  abbrev preparation_state : State
  preparation_state = rolled (preparation_name numbers.superstate) begins false [] (preparing places (own_flags s) many_regions all (suc place))

  abbrev first_piece : Subtree
  first_piece = table_of_state preparation_state

  abbrev later : TablePosition
  later = past_states first_piece.states b

  abbrev later_next : ℕ
  later_next = next_behind first_piece next

  -- where the fork stands behind the preparation
  abbrev later_at : SuperstateAt
  later_at = record s { core_at = later; next = later_next; place = suc place; begins = false }

  abbrev fork_made : StatePieces
  fork_made = forks.made later_at

  abbrev both_made : StatePieces
  both_made = beside (prepared many_regions all (own_flags s) places place begins numbers) fork_made

  first_state : first_piece.states ≡ 1
  first_state = one_state (preparation_name numbers.superstate) begins false (preparing places (own_flags s) many_regions all (suc place))

  first_sized : IsSized first_piece
  first_sized = one_sized (preparation_name numbers.superstate) begins false (preparing places (own_flags s) many_regions all (suc place))

  first_begins : first_piece.is_initial ≡ begins
  first_begins = one_begins (preparation_name numbers.superstate) begins false (preparing places (own_flags s) many_regions all (suc place))

  none_later : NoneInitial (pieces_of fork_made.states)
  none_later = forks.not_initial later_at refl

  later_rows : (w : World) (more : List Subtree) → InRegionAt w.core (pieces_of both_made.states ++ more) next b →
      OnceInitial (pieces_of both_made.states ++ more) → InRegionAt w.core (pieces_of fork_made.states ++ more) later_next later
  later_rows w more rows once = rest_holds w.core first_piece (pieces_of fork_made.states ++ more) next b first_sized once rows

  module _ (apart : stays flags all ≡ false) (is : is_prepared flags all ≡ true) (w : World) (more : List Subtree)
      (stands : StateStands w (chart_piece s) both_made flags places place numbers a b next more (forks.part later_at b.state)) where
    first_row : state_at w.core b.state ≡ simple_row b.holder b.state (preparing places (own_flags s) many_regions all (suc place))
    first_row = (one_row (preparation_name numbers.superstate) begins false (preparing places (own_flags s) many_regions all (suc place)) w.core
        (pieces_of fork_made.states ++ more) next b stands.core).states.0

    later_stands : StateStands w (chart_piece s) fork_made flags places (suc place) numbers a later later_next more (forks.part later_at b.state)
    later_stands =
        record {
          chart = stands.chart;
          core = later_rows w more stands.core stands.once;
          once = stands.once.1;
          declared = stands.declared;
          entries =
              record {
                mapped = values_from w.m (suc b.state) later.state fork_made.stands_for (omega (arith, first_state)) stands.entries.mapped.1;
                images = stands.entries.images;
                owned = stands.entries.owned;
                low = stands.entries.low;
                numbered = stands.entries.numbered;
              };
          region =
              record {
                region = stands.region.region;
                thread = stands.region.thread;
                around_chart = stands.region.around_chart;
                around_core = stands.region.around_core;
                forks = stands.region.forks;
                flags_are = stands.region.flags_are;
                places_are = stands.region.places_are;
              };
          placed = stands.placed.1;
        }

    prepared_fits : Fits w a.state (a.state + (chart_piece s).states) b.state (b.state + states_in (pieces_of both_made.states)) numbers.variable
        (numbers.variable + variables s)
    prepared_fits =
        let fork_part = fork_fits later_at b.state w more later_stands
        (state_fits later_at b.state w more later_stands few apart
        (stands.entries.mapped.0 ∙ ap Some stands.entries.numbered)
        (λ e. (suc place, ap (λ o. unwrap_or o 0) stands.placed.1.0, first_row))
        (λ denied. let wrong : true ≡ false = sym is ∙ denied in absurd cc)) in
        record {
          states = fork_part.states;
          core_states =
              range_more (CoreStateFits w) b.state (b.state + states_in (pieces_of both_made.states))
              (record {
                origin = thread a.holder stands.region.region.here (ap (λ z. z.holder) first_row ∙ sym stands.region.thread);
                sort =
                    for_entry a.state (superstate.here s w.k stands.chart) (superstate.super s w.k stands.chart)
                    (sym (ap (λ z. z.entry) stands.entries.images.0));
              })
              (range_to (CoreStateFits w) (suc b.state) (later.state + states_in (pieces_of fork_made.states))
              (b.state + states_in (pieces_of both_made.states)) (omega arith)
              (subst (λ m. Range (CoreStateFits w) m (later.state + states_in (pieces_of fork_made.states)))
              (omega (arith, first_state)) fork_part.core_states));
          owners = fork_part.owners;
        }

  walk_prepared : stays flags all ≡ false → is_prepared flags all ≡ true →
      StateWalk (chart_piece s) both_made (variables s) false 3 flags places place begins numbers a b next
  walk_prepared apart certain =
      record {
        image = forks.image later_at b.state;
        inner = (inner later_at).part.states;
        owners = forks.owners later_at;
        entry = refl;
        placed = refl;
        core_sized = (first_sized, forks.sizes later_at);
        core_many = omega (arith, first_state, forks.many later_at);
        long_states = ap suc (inner later_at).long_states;
        long_owners = forks.long_owners later_at;
        long_variables = forks.long_variables later_at;
        wide = refl;
        first = (_, (_, refl));
        stands = (_, refl);
        begun = λ certain. first_begins ∙ certain;
        not_initial = λ denied. (first_begins ∙ denied, none_later);
        one_initial = (λ initial. none_later, forks.one_initial later_at);
        final_is = λ w holds. superstate.not_ends s w.k holds;
        held_chart = λ w holds. superstate.held s w.k holds;
        held_core = λ w more rows once. forks.held_core later_at w.core more (later_rows w more rows once);
        facts = λ w more stands. prepared_fits apart certain w more stands;
      }

  -- ---- by what it needs

  by_split : stays flags all ≡ false → (p : Bool) → is_prepared flags all ≡ p →
      StateWalk (chart_piece s) (if p then both_made else forks.made s) (variables s) false (if p then 3 else 2) flags places place begins numbers a b next
  by_split apart true is = walk_prepared apart is
  by_split apart false is = walk_fork apart is

  walk_super : (on : Bool) → stays flags all ≡ on →
      StateWalk (chart_piece s) (if on then as_it_is name all (inside s) places begins numbers
      else (if is_prepared flags all then both_made else forks.made s)) (variables s)
      false (if on then 1 else (if is_prepared flags all then 3 else 2)) flags places place begins numbers a b next
  walk_super true stay = walk_staying s stay few
  walk_super false apart = by_split apart (is_prepared flags all) refl

-- ---- any state

abbrev chart_layer : (name : List ℕ) (initial final : Bool) (regions : List Region) (all : List Transition) → State-F Subtree Subtree
chart_layer name initial final regions all =
    record { name = name; is_initial = initial; is_final = final; regions = map table_of_region regions; transitions = all }

abbrev core_layer : (name : List ℕ) (initial final : Bool) (regions : List Region) (all : List Transition) → State-F RegionPiece StatePiece
core_layer name initial final regions all =
    record { name = name; is_initial = initial; is_final = final; regions = map piece_of_region regions; transitions = all }

walk_layer : (name : List ℕ) (initial final : Bool) (regions : List Region) (all : List Transition) → (regions ≡ [] →
    (has_aborts all ≡ false) × (has_join all ≡ false)) →
    length (map piece_of_region regions) < 2147483648 → (final ≡ true → regions ≡ []) → Each RegionWalks regions →
    StateWalksBy (table_state_piece (chart_layer name initial final regions all)) (state_piece (core_layer name initial final regions all))
walk_layer name initial final [] all plain few bare walks flags places place begins numbers a b next =
    walk_simple name initial all (plain refl) flags places begins numbers a b next place final
walk_layer name initial true (r ∷ others) all plain few bare walks flags places place begins numbers a b next =
    let wrong : r ∷ others ≡ [] = bare refl in absurd cc
walk_layer name initial false (r ∷ others) all plain few bare walks flags places place begins numbers a b next =
    walk_super
    (record {
      name = name;
      initial = initial;
      first = r;
      others = others;
      all = all;
      walks = walks;
      flags = flags;
      places = places;
      numbers = numbers;
      chart_at = a;
      core_at = b;
      next = next;
      place = place;
      begins = begins;
    })
    few (stays flags all) refl

count_layer : (name : List ℕ) (initial final : Bool) (regions : List Region) (all : List Transition) → Each RegionWalks regions →
    StateCounts (table_state_piece (chart_layer name initial final regions all)) (state_piece (core_layer name initial final regions all))
count_layer name initial final regions all walks =
    record {
      states = ap suc (counts_side regions walks);
      initial = refl;
      sized = state_sized (chart_layer name initial final regions all) (sized_side regions walks);
    }

pub walk_state : (s : State) → ((out-State s).regions ≡ [] → (has_aborts (out-State s).transitions ≡ false) × (has_join (out-State s).transitions ≡ false)) →
    length (map piece_of_region (out-State s).regions) < 2147483648 → IsBareIfFinal s →
    Each RegionWalks (out-State s).regions → StateWalks s
walk_state s plain few bare walks =
    let o = out-State s in
    record {
      walks =
          subst (λ p. StateWalksBy p (piece_of_state s)) (sym (fold_out-State Subtree Subtree table_region_piece table_state_piece s))
          (subst (StateWalksBy (table_state_piece (chart_layer o.name o.is_initial o.is_final o.regions o.transitions)))
          (sym (fold_out-State RegionPiece StatePiece region_piece state_piece s))
          (walk_layer o.name o.is_initial o.is_final o.regions o.transitions plain few (λ ends. (bare ends).0) walks));
      counts =
          subst (λ p. StateCounts p (piece_of_state s)) (sym (fold_out-State Subtree Subtree table_region_piece table_state_piece s))
          (subst (StateCounts (table_state_piece (chart_layer o.name o.is_initial o.is_final o.regions o.transitions)))
          (sym (fold_out-State RegionPiece StatePiece region_piece state_piece s))
          (count_layer o.name o.is_initial o.is_final o.regions o.transitions walks));
    }
