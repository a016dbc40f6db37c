-- What a superstate becomes that is split: its fork, with a monitor where it has aborts, and its continuation.
use Rattle.std.proofs.Common.{◌≡◌, ℕ, suc, ◌+◌, false, Some, List, [], ◌∷◌, ◌++◌, map, length, sym, ap}
use Rattle.std.proofs.Common.{subst, ◌∙◌, arith, if◌then◌else◌}
use Rattle.std.proofs.lemmas.List.{length-append, map-append}
use Rattle.core_charts.specs.declared.region.Region.{Region}
use Rattle.core_charts.specs.declared.region.State.{State}
use Rattle.chart_machine.specs.declared.table.Table.{Table}
use Rattle.chart_machine.specs.Table.{Subtree, states_in, regions_in, state_subtree}
use Rattle.chart_machine.specs.Table.{subtree_of_region as table_of_region, subtree_of_state as table_of_state}
use Rattle.abort_expansion.specs.declared.pieces.StatePieces.{StatePieces}
use Rattle.abort_expansion.specs.Flags.{declarations, continuation_name}
use Rattle.core_charts.specs.Aborts.{has_aborts}
use Rattle.abort_expansion.specs.Superstates.{forked, fork, watched, monitor, continuation}
use Rattle.chart_machine_laws.specs.Tree.{holder}
use Rattle.chart_machine_laws.proofs.RowsOfSubtrees.{IsSized, AllSized, state_sized}
use Rattle.chart_machine_laws.proofs.TableTrees.{NoneInitial, OnceInitial}
use Rattle.abort_expansion_laws.specs.CoreRows.{is_final, joins}
use Rattle.abort_expansion_laws.proofs.SimpleRows.{rolled_piece}
use Rattle.abort_expansion_laws.proofs.InRegionRows.{InRegionAt, first_holds}
use Rattle.abort_expansion_laws.proofs.SideRows.{states_append, sized_append}
use Rattle.abort_expansion_laws.proofs.Walked.{StateImage}
use Rattle.abort_expansion_laws.proofs.Walked.{watcher}
use Rattle.abort_expansion_laws.proofs.Walks.{Part, pieces_of}
use Rattle.abort_expansion_laws.proofs.LocalImages.{continuing}
use Rattle.abort_expansion_laws.proofs.WalkSimple.{one_sized, one_begins, one_state}
use Rattle.abort_expansion_laws.proofs.RowsOfForks.{watching}
use Rattle.abort_expansion_laws.proofs.FlagOwners.{flag_owners, owners_long, declarations_long}
use Rattle.abort_expansion_laws.proofs.AddedMonitors.{watched_sized, no_entries, watched_many}
use Rattle.abort_expansion_laws.proofs.SuperstateAt.{SuperstateAt, regions, weak, own_flags, inside, core_inside, position, inner, variables, inner_variables}

module _ (s : SuperstateAt) where
  open s use {name, all, flags, places, numbers, chart_at as a, core_at as b, next, place, begins}

  abbrev pub monitors : List Region
  monitors = watched (has_aborts all) (monitor numbers.superstate flags (own_flags s) all)

  abbrev pub core_monitors : List Subtree
  core_monitors = map table_of_region monitors

  abbrev pub core_regions : List Region
  core_regions = (inside s).regions ++ monitors

  pub regions_are : map table_of_region core_regions ≡ core_inside s ++ core_monitors
  regions_are = map-append table_of_region (inside s).regions monitors

  abbrev pub made : StatePieces
  made = forked name all flags (own_flags s) (inside s) places place begins numbers

  abbrev pub fork_state : State
  fork_state = fork name begins core_regions (suc place)

  abbrev pub fork_layer : Subtree
  fork_layer = state_subtree (record {
    name = name;
    is_initial = begins;
    is_final = false;
    regions = map table_of_region core_regions;
    transitions = joins (suc place) ∷ [];
  })

  pub fork_piece : table_of_state fork_state ≡ fork_layer
  fork_piece = rolled_piece name begins false core_regions (joins (suc place) ∷ [])

  abbrev pub after : State
  after = continuation numbers.superstate flags (own_flags s) places all

  -- the monitor and its states
  abbrev pub monitor_number : ℕ
  monitor_number = (position s).region + regions_in (core_inside s)

  abbrev pub watching_number : ℕ
  watching_number = suc b.state + states_in (core_inside s)

  abbrev pub behind : ℕ
  behind = b.state + (table_of_state fork_state).states

  pub fork_states : (table_of_state fork_state).states ≡ suc (states_in (core_inside s) + states_in core_monitors)
  fork_states = ap (λ p. p.states) fork_piece ∙ ap suc (ap states_in regions_are ∙ states_append (core_inside s) core_monitors)

  pub fork_sized : IsSized (table_of_state fork_state)
  fork_sized =
      subst IsSized (sym fork_piece)
      (state_sized (record {
        name = name;
        is_initial = begins;
        is_final = false;
        regions = map table_of_region core_regions;
        transitions = joins
            (suc place) ∷ [];
      })
      (subst AllSized (sym regions_are) (sized_append (core_inside s) core_monitors (inner s).core_sized
      (watched_sized (has_aborts all) numbers.superstate flags (own_flags s) all))))

  pub fork_begins : (table_of_state fork_state).is_initial ≡ begins
  fork_begins = ap (λ p. p.is_initial) fork_piece

  pub after_sized : IsSized (table_of_state after)
  after_sized = one_sized (continuation_name numbers.superstate) false false (continuing flags places (own_flags s) all)

  pub after_state : (table_of_state after).states ≡ 1
  after_state = one_state (continuation_name numbers.superstate) false false (continuing flags places (own_flags s) all)

  pub after_begins : (table_of_state after).is_initial ≡ false
  after_begins = one_begins (continuation_name numbers.superstate) false false (continuing flags places (own_flags s) all)

  abbrev pub watcher_number : ℕ
  watcher_number = if has_aborts all then monitor_number else (position s).region

  abbrev pub image : ℕ → StateImage
  image entry = record {
    main = b.state;
    entry = entry;
    behind = behind;
    flags = own_flags s;
    watcher = watcher_number;
    watching = watching_number;
    watched = watching_number + (table_of_state (watching numbers.superstate flags (own_flags s) all)).states;
    places = places;
    stays_on = false;
  }

  abbrev pub owners : List ℕ
  owners = flag_owners (own_flags s) a.state ++ (inner s).part.owners

  abbrev pub part : ℕ → Part
  part entry = record { states = image entry ∷ (inner s).part.states; owners = owners }

  pub long_owners : length owners ≡ variables s
  long_owners =
      omega (
        arith,
        length-append (flag_owners (own_flags s) a.state) (inner s).part.owners,
        owners_long (weak s) all numbers.variable a.state,
        (inner s).long_owners,
        inner_variables s,
      )

  pub long_variables : length made.variables ≡ variables s
  long_variables =
      omega (
        arith,
        length-append (declarations numbers.superstate (own_flags s)) (inside s).variables,
        declarations_long (weak s) all numbers.variable numbers.superstate,
        (inner s).long_variables,
        inner_variables s,
      )

  pub many : states_in (pieces_of made.states) ≡ length made.stands_for
  many =
      omega (
        arith,
        fork_states,
        after_state,
        (inner s).core_many,
        watched_many (has_aborts all) numbers.superstate flags (own_flags s) all,
        length-append (inside s).stands_for (no_entries (has_aborts all)),
        length-append ((inside s).stands_for ++ no_entries (has_aborts all)) (Some numbers.state ∷ []),
      )

  pub sizes : AllSized (pieces_of made.states)
  sizes = (fork_sized, (after_sized, tt))

  pub not_initial : begins ≡ false → NoneInitial (pieces_of made.states)
  not_initial e = (fork_begins ∙ e, (after_begins, tt))

  pub one_initial : OnceInitial (pieces_of made.states)
  one_initial = (λ e. (after_begins, tt), (λ e. tt, tt))

  -- ---- the rows of the core chart

  pub held_core : (core : Table) (more : List Subtree) → InRegionAt core (pieces_of made.states ++ more) next b → holder core b.state ≡ b.holder
  held_core core more rows =
      ap (λ z. z.holder) (first_holds core fork_layer (table_of_state after ∷ more) next b
      (subst (λ p. InRegionAt core (p ∷ table_of_state after ∷ more) next b) fork_piece rows)).states.0
