-- A superstate that is split: its fork, with a monitor where it has aborts, and its continuation, over what is inside it.
use Rattle.std.proofs.Common.{◌≡◌, ℕ, suc, ◌+◌, ◌<◌, Bool, true, false, Some, List, [], ◌∷◌, ◌++◌, map, length, refl, sym, ap}
use Rattle.std.proofs.Common.{subst, ◌∙◌, arith, unwrap_or, if◌then◌else◌}
use Rattle.std.proofs.lemmas.List.{length-append}
use Rattle.chart_machine.specs.declared.standing.Move.{Move}
use Rattle.chart_machine.specs.declared.standing.Standing.{Standing}
use Rattle.chart_machine.specs.declared.standing.Standing.TheVariants as at
use Rattle.chart_machine.specs.declared.table.TablePosition.{TablePosition}
use Rattle.chart_machine.specs.Table.{Subtree, state_at, states_in, region_numbers, side_by_side}
use Rattle.chart_machine.specs.Table.{within as table_within, subtree_of_region as table_of_region, subtree_of_state as table_of_state}
use Rattle.chart_machine.specs.Table.{past_states, next_behind}
use Rattle.chart_machine.specs.Steps.{state_in, to}
use Rattle.core_charts.specs.Tests.{at_once}
use Rattle.abort_expansion.specs.Flags.{weak_around, declarations, continuation_name}
use Rattle.core_charts.specs.Aborts.{has_aborts}
use Rattle.abort_expansion.specs.Pieces.{variables_in}
use Rattle.abort_expansion.specs.Superstates.{stays, is_prepared, fork, watched, monitor, monitor_transitions}
use Rattle.abort_expansion.specs.Expansion.{piece_of_region}
use Rattle.chart_machine_laws.specs.Tree.{IsThere, around, holder}
use Rattle.chart_machine_laws.proofs.RowsOfSubtrees.{Holds}
use Rattle.scl_graph_laws.proofs.Segments.{stand_from, stand_first, stand_second}
use Rattle.abort_expansion_laws.specs.CoreRows.{own, IsState, IsSuper, joins, simple_row, fork_row, watchers}
use Rattle.abort_expansion_laws.proofs.InRegionRows.{InRegionAt, first_holds, rest_holds}
use Rattle.abort_expansion_laws.proofs.SideRows.{past_side, side_first, side_second, side_entered, numbers_append}
use Rattle.abort_expansion_laws.proofs.Walked.{World, ValuesAt, values_from, values_first, values_second, images_of, i, RegionFits, StateFits}
use Rattle.abort_expansion_laws.proofs.Walked.{CoreStateFits, CoreSort, for_super, for_behind, for_watching, for_nothing, thread, watcher, OwnerFits}
use Rattle.abort_expansion_laws.proofs.Walked.{Range, range_none, range_one, range_both, range_to}
use Rattle.abort_expansion_laws.proofs.Walked.{FlagsFit, WatcherFits, range_more, behind_by}
use Rattle.abort_expansion_laws.proofs.Walks.{Fits, StateStands, RegionsStand, pieces_of}
use Rattle.abort_expansion_laws.proofs.LocalImages.{Located, split_image, preparing, continuing}
use Rattle.abort_expansion_laws.proofs.WalkSimple.{region_there, located, one_row, one_state}
use Rattle.abort_expansion_laws.proofs.RowsOfForks.{some_regions, super_row, watching, MonitorRows}
use Rattle.abort_expansion_laws.proofs.FlagOwners.{flag_owners, owners_long, declarations_long, flags_owned, flags_declared, owners_range}
use Rattle.abort_expansion_laws.proofs.AddedMonitors.{no_entries, watched_many, watched_numbers, monitor_there}
use Rattle.abort_expansion_laws.proofs.AddedMonitors.{none_first, first_around, numbers_many, watched_entered}
use Rattle.abort_expansion_laws.proofs.EnteredAlike.{watcher_enters, OpensAlike}
use Rattle.abort_expansion_laws.proofs.SuperstateAt.{SuperstateAt, regions, weak, own_flags, inside_at, inside, core_inside, position, chart_piece, inner}
use Rattle.abort_expansion_laws.proofs.SuperstateAt.{variables, inner_variables}
use Rattle.abort_expansion_laws.proofs.SuperstateAt as superstate
use Rattle.abort_expansion_laws.proofs.ForkPieces.{core_monitors, core_regions, regions_are, made, fork_state, fork_layer, fork_piece, after, monitor_number}
use Rattle.abort_expansion_laws.proofs.ForkPieces.{watching_number, behind, fork_states, fork_sized, after_state, image, owners, part}

module _ (s : SuperstateAt) (entry : ℕ) where
  open s use {name, all, flags, places, numbers, chart_at as a, core_at as b, next, place, begins}

  module _ (w : World) (more : List Subtree) (stands : StateStands w (chart_piece s) (made s) flags places place numbers a b next more (part s entry)) where
    img : w.image a.state ≡ image s entry
    img = stands.entries.images.0

    main_is : (i w).main_of a.state ≡ b.state
    main_is = ap (λ z. z.main) img

    behind_is : (i w).behind_of a.state ≡ behind s
    behind_is = ap (λ z. behind_by w z a.state) img

    regions_row : (state_at w.k a.state).regions ≡ region_numbers (map table_of_region (regions s)) a.region
    regions_row = superstate.regions_row s w.k stands.chart

    super : IsSuper w.k a.state
    super = superstate.super s w.k stands.chart

    here : IsState w.k a.state
    here = superstate.here s w.k stands.chart

    held : holder w.k a.state ≡ a.holder
    held = superstate.held s w.k stands.chart

    loc : Located w.k w.core (images_of w) a.state b.holder flags places all
    loc = located w a b flags places a.state all stands.region held (ap (λ z. z.transitions) stands.chart.states.0)

    -- ---- the rows of what is inside

    fork_rows : Holds w.core (position s) ((fork_layer s).parts (position s))
    fork_rows = first_holds w.core (fork_layer s) (table_of_state (after s) ∷ more) next b
        (subst (λ p. InRegionAt w.core (p ∷ table_of_state (after s) ∷ more) next b) (fork_piece s) stands.core)

    inside_rows : Holds w.core (table_within (position s)) (side_by_side (core_inside s ++ core_monitors s) (table_within (position s)))
    inside_rows = subst (λ zs. Holds w.core (table_within (position s)) (side_by_side zs (table_within (position s)))) (regions_are s)
        (record { states = fork_rows.states.1; regions = fork_rows.regions })

    abbrev monitor_at : TablePosition
    monitor_at = past_side (core_inside s) (table_within (position s))

    own_mapped : ValuesAt w.m (suc b.state) ((inside s).stands_for ++ no_entries (has_aborts all))
    own_mapped = (values_first w.m b.state (Some numbers.state ∷ ((inside s).stands_for ++ no_entries (has_aborts all))) (Some numbers.state ∷ [])
        stands.entries.mapped).1

    inner_stands : RegionsStand w (side_by_side (map table_of_region (regions s)) (table_within a)) (inside s) (flags ++ own_flags s ∷ [])
        (own_flags s).counter (inside_at s) (table_within a) (table_within (position s)) (inner s).part
    inner_stands =
        record {
          chart_rows = record { states = stands.chart.states.1; regions = stands.chart.regions };
          core = side_first w.core (core_inside s) (core_monitors s) (table_within (position s)) (inner s).core_sized inside_rows;
          declared =
              stand_from w.core.variables (numbers.variable + length (declarations numbers.superstate (own_flags s)))
              (inside_at s).variable (inside s).variables
              (omega (arith, declarations_long (weak s) all numbers.variable numbers.superstate))
              (stand_second w.core.variables numbers.variable (declarations numbers.superstate (own_flags s)) (inside s).variables stands.declared);
          entries =
              record {
                mapped = values_first w.m (suc b.state) (inside s).stands_for (no_entries (has_aborts all)) own_mapped;
                images = stands.entries.images.1;
                owned =
                    values_from w.of_flag (numbers.variable + length (flag_owners (own_flags s) a.state)) (inside_at s).variable (inner s).part.owners
                    (omega (arith, owners_long (weak s) all numbers.variable a.state))
                    (values_second w.of_flag numbers.variable (flag_owners (own_flags s) a.state) (inner s).part.owners stands.entries.owned);
                low = omega (arith, stands.entries.low);
                numbered = ap suc stands.entries.numbered;
              };
          forks = superstate.forks_inside s w stands.region main_is;
          flags_are = superstate.flags_inside s w stands.region (ap (λ z. z.flags) img);
          counter_is = ap (λ z. z.flags.counter) (sym img);
        }

    threads : map (i w).thread_of (region_numbers (map table_of_region (regions s)) a.region) ≡ region_numbers (core_inside s) (position s).region
    threads = (inner s).threads w inner_stands

    watchers_are : watchers w.k w.core (images_of w) a.state ≡ region_numbers (core_monitors s) (monitor_number s)
    watchers_are = rw (loc.own_is, img)
        (sym (watched_numbers (has_aborts all) (monitor numbers.superstate flags (own_flags s) all) (monitor_number s) (position s).region))

    all_numbers : map (i w).thread_of (state_at w.k a.state).regions ++ watchers w.k w.core (images_of w) a.state ≡
        region_numbers (map table_of_region (core_regions s)) (position s).region
    all_numbers =
        ap (λ zs. map (i w).thread_of zs ++ watchers w.k w.core (images_of w) a.state) regions_row ∙
        (ap (λ zs. zs ++ watchers w.k w.core (images_of w) a.state) threads ∙
        (ap (λ zs. region_numbers (core_inside s) (position s).region ++ zs) watchers_are ∙
        (sym (numbers_append (core_inside s) (core_monitors s) (position s).region) ∙ ap (λ zs. region_numbers zs (position s).region) (sym (regions_are s)))))

    some : Rattle.chart_machine.specs.Table.is_superstate (map table_of_region (core_regions s)) ≡ true
    some = some_regions (map table_of_region (core_regions s)) (position s).region ((i w).thread_of a.region) _
        (sym all_numbers ∙ ap (λ zs. map (i w).thread_of zs ++ watchers w.k w.core (images_of w) a.state) regions_row)

    fork_row_is : state_at w.core b.state ≡ fork_row b.holder b.state
        (map (i w).thread_of (state_at w.k a.state).regions ++ watchers w.k w.core (images_of w) a.state) (joins (suc place) ∷ [])
        (state_at w.core b.state).opened
    fork_row_is = subst (λ zs. state_at w.core b.state ≡ fork_row b.holder b.state zs (joins (suc place) ∷ []) (state_at w.core b.state).opened)
        (sym all_numbers) (super_row w.core name begins (core_regions s) (joins (suc place) ∷ []) some refl refl (position s) fork_rows)

    after_rows : InRegionAt w.core (table_of_state (after s) ∷ more) (next_behind (table_of_state (fork_state s)) next)
        (past_states (table_of_state (fork_state s)).states b)
    after_rows = rest_holds w.core (table_of_state (fork_state s)) (table_of_state (after s) ∷ more) next b (fork_sized s) stands.once stands.core

    after_row : state_at w.core (behind s) ≡ simple_row b.holder (behind s) (continuing flags places (own_flags s) all)
    after_row = (one_row (continuation_name numbers.superstate) false false (continuing flags places (own_flags s) all) w.core more
        (next_behind (table_of_state (fork_state s)) next) (past_states (table_of_state (fork_state s)).states b) after_rows).states.0

    -- ---- the monitor

    module _ (has : has_aborts all ≡ true) where
      monitor_is : MonitorRows numbers.superstate flags (own_flags s) all w.core monitor_at
      monitor_is = monitor_there (has_aborts all) numbers.superstate flags (own_flags s) all w.core monitor_at has
          (side_second w.core (core_inside s) (core_monitors s) (table_within (position s)) (inner s).core_sized inside_rows)

      watcher_is : (i w).watcher_of a.state ≡ monitor_number s
      watcher_is = ap (λ z. z.watcher) img ∙ certain (has_aborts all) has
        where
          certain : (h : Bool) → h ≡ true → (if h then monitor_number s else (position s).region) ≡ monitor_number s
          certain true e = refl
          certain false e = absurd cc

      watcher_fits : WatcherFits w a.state
      watcher_fits =
          record {
            there = subst (IsThere w.core) (sym watcher_is) (region_there w.core (monitor_number s) _ _ monitor_is.states_of);
            row = rw (watcher_is, ap (λ z. z.watching) img, ap (λ z. z.flags) img, loc.flags_are, loc.own_is) monitor_is.row;
            states = rw (watcher_is, ap (λ z. z.watching) img, ap (λ z. z.watched) img) monitor_is.states_of;
            watched = rw (watcher_is, ap (λ z. z.watched) img) monitor_is.ended;
            unmapped =
                ap w.m (ap (λ z. z.watching) img) ∙
                none_first (has_aborts all) w.m (watching_number s) has
                (values_from w.m (suc b.state + length (inside s).stands_for) (watching_number s) (no_entries (has_aborts all))
                (omega (arith, (inner s).core_many))
                (values_second w.m (suc b.state) (inside s).stands_for (no_entries (has_aborts all)) own_mapped));
          }

    watches_is : (h : Bool) → has_aborts all ≡ h → around w.core (if h then monitor_number s else (position s).region) ≡ b.state ∷ b.around
    watches_is true has = (monitor_is has).around_it
    watches_is false none = first_around (inside s).regions w.core (table_within (position s)) _ _ (sym threads) inner_stands.core

    -- ---- all of it

    flags_fit : FlagsFit w a.state
    flags_fit =
        record {
          first = numbers.variable;
          are = rw (ap (λ z. z.flags) img, loc.flags_are, loc.own_is) refl;
          low = stands.entries.low;
          owned = λ x is. flags_owned (weak s) all numbers.variable a.state w.of_flag
              (values_first w.of_flag numbers.variable (flag_owners (own_flags s) a.state) (inner s).part.owners stands.entries.owned) x
              (subst (λ z. Rattle.abort_expansion_laws.proofs.Walked.IsFlag z x) (ap (λ z. z.flags) img) is);
          declared = λ x is. flags_declared (weak s) all numbers.variable a.state w.core.variables numbers.superstate
              (stand_first w.core.variables numbers.variable (declarations numbers.superstate (own_flags s)) (inside s).variables stands.declared) x
              (subst (λ z. Rattle.abort_expansion_laws.proofs.Walked.IsFlag z x) (ap (λ z. z.flags) img) is);
        }

    -- ---- what is entered with the fork

    abbrev entered_inside : List Move
    entered_inside = (side_by_side (core_inside s) (table_within (position s))).entered

    abbrev monitor_stands : Standing
    monitor_stands = at.Trying (watching_number s) (at_once (monitor_transitions flags (own_flags s) all))

    monitor_enters : (side_by_side (core_monitors s) monitor_at).entered ≡ watcher_enters w.k w.core (images_of w) a.state
    monitor_enters =
        rw (loc.own_is, img, loc.flags_are)
        (watched_entered (has_aborts all) numbers.superstate flags (own_flags s) all monitor_at ∙ by_aborts (has_aborts all))
      where
        by_aborts : (h : Bool) → (if h then to (monitor_number s) monitor_stands ∷ [] else []) ≡
            (if h then to (if h then monitor_number s else (position s).region) monitor_stands ∷ [] else [])
        by_aborts true = refl
        by_aborts false = refl

    opens_alike : OpensAlike w.k w.core (images_of w) a.state
    opens_alike =
        record {
          inner = entered_inside;
          regions = superstate.regions_entered s w.k stands.chart w.core (images_of w) entered_inside ((inner s).entered w inner_stands);
          fork =
              ap (λ n. (state_at w.core n).opened) main_is ∙
              (ap (λ z. z.opened) fork_rows.states.0 ∙
              (ap (λ zs. (side_by_side zs (table_within (position s))).entered) (regions_are s) ∙
              (side_entered (core_inside s) (core_monitors s) (table_within (position s)) ∙ ap (λ zs. entered_inside ++ zs) monitor_enters)));
        }

    pub state_fits : length (map piece_of_region (regions s)) < 2147483648 → stays flags all ≡ false → w.m entry ≡ Some a.state →
        (is_prepared flags all ≡ true → (fork : ℕ) × (state_in w.core b.holder fork ≡ b.state) ×
        (state_at w.core entry ≡ simple_row b.holder entry (preparing places (own_flags s) (length (map piece_of_region (regions s))) all fork))) →
        (is_prepared flags all ≡ false → entry ≡ b.state) → StateFits w a.state
    state_fits few apart entered prepared plain =
        record {
          here = here;
          region = subst (RegionFits w) (sym held) stands.region.region;
          mapped = ap w.m main_is ∙ (stands.entries.mapped.0 ∙ ap Some stands.entries.numbered);
          entry_mapped = ap w.m (ap (λ z. z.entry) img) ∙ entered;
          held = ap (holder w.core) main_is ∙ (ap (λ z. z.holder) fork_row_is ∙ sym loc.thread_is);
          simple = λ certain. absurd (super certain.no_regions);
          final = λ certain. let wrong : true ≡ false = sym certain ∙ superstate.not_ends s w.k stands.chart in absurd cc;
          staying = λ is stay. let wrong : true ≡ false = sym stay ∙ (rw (loc.flags_are, loc.own_is) apart) in absurd cc;
          split = λ is differs. split_image w.k w.core (images_of w) a.state b.holder flags places all loc b.state entry (behind s) (suc place) (own_flags s)
              (length (map piece_of_region (regions s))) main_is (ap (λ z. z.entry) img) behind_is (ap (λ z. z.flags) img)
              (ap length regions_row ∙ numbers_many (regions s) a.region) fork_row_is
              (ap (λ o. unwrap_or o 0) stands.placed.1.0) after_row prepared plain;
          split_mapped = λ is differs.
              ap w.m behind_is ∙
              ((values_from w.m (b.state + length (Some numbers.state ∷ ((inside s).stands_for ++ no_entries (has_aborts all)))) (behind s)
              (Some numbers.state ∷ [])
              (omega (
                arith,
                fork_states s,
                (inner s).core_many,
                watched_many (has_aborts all) numbers.superstate flags (own_flags s) all,
                length-append (inside s).stands_for (no_entries (has_aborts all)),
              ))
              (values_second w.m b.state (Some numbers.state ∷ ((inside s).stands_for ++ no_entries (has_aborts all))) (Some numbers.state ∷ [])
              stands.entries.mapped)).0 ∙ ap Some stands.entries.numbered);
          watcher = λ is has. watcher_fits (subst (λ z. has_aborts z ≡ true) loc.own_is has);
          watches = λ is. rw (img, loc.thread_is, stands.region.around_core) (watches_is (has_aborts all) refl);
          flags = λ is. flags_fit;
          flagless = λ none. absurd (super none);
          bare = λ none. absurd (super none);
          behind_past = λ is stay. let wrong : true ≡ false = sym stay ∙ (rw (loc.flags_are, loc.own_is) apart) in absurd cc;
          numbered = (regions s, (a.region, regions_row));
          few = subst (λ n. n < 2147483648) (sym (ap length regions_row ∙ numbers_many (regions s) a.region)) few;
          opens = λ is. opens_alike;
        }

    -- the core states of the monitor
    monitor_range : (h : Bool) → has_aborts all ≡ h → Range (CoreStateFits w) (watching_number s) (watching_number s + length (no_entries h))
    monitor_range false none = range_none (CoreStateFits w) (watching_number s) (watching_number s + 0) (omega arith)
    monitor_range true has =
        let rows = monitor_is has in
        let own_has : has_aborts (own w.k a.state) ≡ true = subst (λ z. has_aborts z ≡ true) (sym loc.own_is) has in
        let second : ℕ = watching_number s + (table_of_state (watching numbers.superstate flags (own_flags s) all)).states in
        range_more (CoreStateFits w) (watching_number s) (watching_number s + 2)
        (record {
          origin = watcher a.state here own_has (ap (λ z. z.holder) rows.row ∙ sym (watcher_is has));
          sort = for_watching a.state here own_has (sym (ap (λ z. z.watching) img));
        })
        (range_one (CoreStateFits w) (suc (watching_number s)) (watching_number s + 2) (omega arith)
        (subst (CoreStateFits w)
        (omega (
          arith,
          one_state Rattle.abort_expansion.specs.Flags.watching_name true false
              (Rattle.abort_expansion.specs.Superstates.monitor_transitions flags (own_flags s) all),
        ))
        (record { origin = watcher a.state here own_has (rows.ended_held ∙ sym (watcher_is has)); sort = for_nothing rows.ended_bare })))

    core_range : Range (CoreStateFits w) b.state (b.state + states_in (pieces_of (made s).states))
    core_range =
        range_to (CoreStateFits w) b.state (suc (behind s)) (b.state + states_in (pieces_of (made s).states)) (omega (arith, (after_state s)))
        (range_more (CoreStateFits w) b.state (suc (behind s))
        (own_thread b.state (ap (λ z. z.holder) fork_row_is) (for_super a.state here super (sym main_is)))
        (range_both (CoreStateFits w) (suc b.state) (watching_number s) (suc (behind s)) ((inner s).facts w inner_stands).core_states
        (range_both (CoreStateFits w) (watching_number s) (behind s) (suc (behind s))
        (range_to (CoreStateFits w) (watching_number s) (watching_number s + length (no_entries (has_aborts all))) (behind s)
        (omega (arith, (fork_states s), watched_many (has_aborts all) numbers.superstate flags (own_flags s) all)) (monitor_range (has_aborts all) refl))
        (range_one (CoreStateFits w) (behind s) (suc (behind s)) refl
        (own_thread (behind s) (ap (λ z. z.holder) after_row) (for_behind a.state here super (sym behind_is)))))))
      where
        own_thread : (n : ℕ) → holder w.core n ≡ b.holder → CoreSort w n → CoreStateFits w n
        own_thread n e sort = record { origin = thread a.holder stands.region.region.here (e ∙ sym stands.region.thread); sort = sort }

    owner_range : Range (OwnerFits w) numbers.variable (numbers.variable + variables s)
    owner_range =
        range_both (OwnerFits w) numbers.variable (inside_at s).variable (numbers.variable + variables s)
        (λ x low high.
        let is : w.of_flag x ≡ a.state = owners_range w.of_flag (own_flags s) a.state numbers.variable (inside_at s).variable
        (omega (arith, owners_long (weak s) all numbers.variable a.state))
        (values_first w.of_flag numbers.variable (flag_owners (own_flags s) a.state) (inner s).part.owners stands.entries.owned) x low high in
        record { here = subst (IsState w.k) (sym is) here; super = subst (IsSuper w.k) (sym is) super })
        (range_to (OwnerFits w) (inside_at s).variable
        ((inside_at s).variable + variables_in (weak_around (flags ++ own_flags s ∷ [])) (map piece_of_region (regions s))) (numbers.variable + variables s)
        (omega (arith, (inner_variables s))) ((inner s).facts w inner_stands).owners)

    pub fork_fits : StateFits w a.state → Fits w a.state (a.state + (chart_piece s).states) b.state
        (b.state + states_in (pieces_of (made s).states)) numbers.variable (numbers.variable + variables s)
    fork_fits own_fits =
        record {
          states =
              range_more (StateFits w) a.state (a.state + (chart_piece s).states) own_fits
              (range_to (StateFits w) (suc a.state) (suc a.state + states_in (map table_of_region (regions s))) (a.state + (chart_piece s).states) (omega arith)
              ((inner s).facts w inner_stands).states);
          core_states = core_range;
          owners = owner_range;
        }
