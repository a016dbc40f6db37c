-- A simple state and a final one, and what stands for them.
use Rattle.std.proofs.Common.{◌≡◌, ◌≢◌, ℕ, suc, ◌+◌, ◌<◌, ⊎_elim, Bool, true, false, Option, Some, List, [], ◌∷◌, ◌++◌, map, length, refl, sym, ap}
use Rattle.std.proofs.Common.{subst, ◌∙◌, arith, unwrap_or}
use Rattle.std.specs.Prelude.{reverse}
use Rattle.std.proofs.lemmas.Option.{slice_get_past}
use Rattle.core_charts.specs.declared.region.Transition.{Transition}
use Rattle.core_charts.specs.declared.region.State.{State}
use Rattle.chart_machine.specs.declared.standing.Move.{Move}
use Rattle.chart_machine.specs.declared.table.StateRow.{StateRow}
use Rattle.chart_machine.specs.declared.table.RegionRow.{RegionRow}
use Rattle.chart_machine.specs.declared.table.Table.{Table}
use Rattle.chart_machine.specs.declared.table.TablePosition.{TablePosition}
use Rattle.chart_machine.specs.Table.{Subtree, state_at, region_at, states_in, subtree_of_state as table_of_state, state_subtree as table_state_piece}
use Rattle.chart_machine.proofs.Outside.{within_or_past}
use Rattle.abort_expansion.specs.declared.flags.Flags.{Flags}
use Rattle.abort_expansion.specs.declared.places.RegionPlaces.{RegionPlaces}
use Rattle.abort_expansion.specs.declared.pieces.NextNumbers.{NextNumbers}
use Rattle.abort_expansion.specs.Flags.{has_join}
use Rattle.core_charts.specs.Aborts.{has_aborts}
use Rattle.abort_expansion.specs.Superstates.{simple_transitions, simple}
use Rattle.chart_machine_laws.specs.Tree.{IsThere, holder}
use Rattle.chart_machine_laws.proofs.RowsOfSubtrees.{Holds, IsSized, state_sized}
use Rattle.abort_expansion_laws.specs.CoreRows.{own, IsState, is_final, flags_around}
use Rattle.abort_expansion_laws.specs.CoreRows.{SimpleImage, FinalImage}
use Rattle.abort_expansion_laws.proofs.SimpleRows.{rolled, rolled_piece}
use Rattle.abort_expansion_laws.proofs.InRegionRows.{InRegionAt, first_holds, position_of}
use Rattle.abort_expansion_laws.proofs.Walked.{World, StateImage, no_flags, images_of, i, RegionFits, StateFits, CoreStateFits}
use Rattle.abort_expansion_laws.proofs.Walked.{CoreSort, for_simple, for_nothing, thread, OwnerFits}
use Rattle.abort_expansion_laws.proofs.Walked.{behind_by, InRegion, range_none, range_one}
use Rattle.abort_expansion_laws.proofs.Walks.{Fits, StateStands, StateWalk, pieces_of}
use Rattle.abort_expansion_laws.proofs.LocalImages.{Located, simple_image, final_image}

-- who has a row is there
pub state_there : (k : Table) (s : ℕ) (m : Move) (ms : List Move) → (state_at k s).entered ≡ m ∷ ms → IsState k s
state_there k s m ms e =
    ⊎_elim (λ lt. lt)
    (λ past.
    let none : (state_at k s).entered ≡ [] =
    ap (λ (o : Option StateRow). (unwrap_or {T = StateRow} o (record { holder = 0; regions = []; transitions = []; entered = []; opened = [] })).entered)
    (slice_get_past k.states s past) in
    let wrong : [] ≡ m ∷ ms = sym none ∙ e in absurd cc) (within_or_past s (length k.states))

pub region_there : (k : Table) (r s : ℕ) (ss : List ℕ) → (region_at k r).states ≡ s ∷ ss → IsThere k r
region_there k Rattle.std.proofs.Common.zero s ss e = absurd cc
region_there k (suc r) s ss e =
    ⊎_elim (λ lt. (omega arith, omega (lt, arith)))
    (λ past.
    let none : (region_at k (suc r)).states ≡ [] =
    ap (λ (o : Option RegionRow). (unwrap_or {T = RegionRow} o (record { around = []; states = [] })).states) (slice_get_past k.regions r past) in
    let wrong : [] ≡ s ∷ ss = sym none ∙ e in absurd cc) (within_or_past r (length k.regions))

-- what is around a state of a region
pub located : (w : World) (a b : TablePosition) (flags : List Flags) (places : RegionPlaces) (s : ℕ) (all : List Transition) → InRegion w a b flags places →
    holder w.k s ≡ a.holder → own w.k s ≡ all → Located w.k w.core (images_of w) s b.holder flags places all
located w a b flags places s all region held owned =
    record {
      thread_is = ap (i w).thread_of held ∙ region.thread;
      flags_are =
          ap (λ r. flags_around w.k w.core (i w) r) held ∙
          (ap (λ zs. map (i w).flags_of (reverse zs)) region.around_chart ∙ sym region.flags_are);
      places_are = ap (i w).places_of held ∙ region.places_are;
      own_is = owned;
    }

-- ---- the core state that stands for one that is not split

module _ (name : List ℕ) (begins ends : Bool) (all : List Transition) where
  abbrev one : State
  one = rolled name begins ends [] all

  abbrev layer : Subtree
  layer = table_state_piece (record { name = name; is_initial = begins; is_final = ends; regions = []; transitions = all })

  one_piece : table_of_state one ≡ layer
  one_piece = rolled_piece name begins ends [] all

  pub one_sized : IsSized (table_of_state one)
  one_sized =
      subst IsSized (sym one_piece) (state_sized (record { name = name; is_initial = begins; is_final = ends; regions = []; transitions = all }) tt)

  pub one_state : (table_of_state one).states ≡ 1
  one_state = ap (λ p. p.states) one_piece

  pub one_begins : (table_of_state one).is_initial ≡ begins
  one_begins = ap (λ p. p.is_initial) one_piece

  -- its row
  pub one_row : (core : Table) (more : List Subtree) (next : ℕ) (b : TablePosition) → InRegionAt core (table_of_state one ∷ more) next b →
      Holds core (position_of begins next b) (layer.parts (position_of begins next b))
  one_row core more next b h = first_holds core layer more next b (subst (λ p. InRegionAt core (p ∷ more) next b) one_piece h)

-- ---- the walk

abbrev image_here : RegionPlaces → ℕ → StateImage
image_here places n =
    record { main = n; entry = n; behind = n; flags = no_flags; watcher = 0; watching = n; watched = n; places = places; stays_on = false }

abbrev made_one : State → NextNumbers → Rattle.abort_expansion.specs.declared.pieces.StatePieces.StatePieces
made_one s numbers = record { states = s ∷ []; variables = []; stands_for = Some numbers.state ∷ [] }

module _ (name : List ℕ) (initial : Bool) (all : List Transition) (plain : (has_aborts all ≡ false) × (has_join all ≡ false)) (flags : List Flags)
    (places : RegionPlaces) (begins : Bool)
    (numbers : NextNumbers) (a b : TablePosition) (next place : ℕ) where
  abbrev chart_piece : Bool → Subtree
  chart_piece final = table_state_piece (record { name = name; is_initial = initial; is_final = final; regions = []; transitions = all })

  abbrev core_all : Bool → List Transition
  core_all true = []
  core_all false = simple_transitions flags places all

  abbrev core_one : Bool → State
  core_one final = rolled name begins final [] (core_all final)

  abbrev image : StateImage
  image = image_here places b.state

  simple_is : (final : Bool) → simple final name all flags places begins ≡ core_one final
  simple_is true = refl
  simple_is false = refl

  final_is : (final : Bool) (w : World) → Holds w.k a ((chart_piece final).parts a) → is_final w.k a.state ≡ final
  final_is true w holds = ap (λ z. Rattle.abort_expansion_laws.specs.CoreRows.ends z.entered) holds.states.0
  final_is false w holds = ap (λ z. Rattle.abort_expansion_laws.specs.CoreRows.ends z.entered) holds.states.0

  here : (final : Bool) (w : World) → Holds w.k a ((chart_piece final).parts a) → IsState w.k a.state
  here true w holds = state_there w.k a.state _ _ (ap (λ z. z.entered) holds.states.0)
  here false w holds = state_there w.k a.state _ _ (ap (λ z. z.entered) holds.states.0)

  held_core : (final : Bool) (w : World) (more : List Subtree) → InRegionAt w.core (table_of_state (core_one final) ∷ more) next b →
      holder w.core b.state ≡ b.holder
  held_core final w more rows = ap (λ z. z.holder) (one_row name begins final (core_all final) w.core more next b rows).states.0

  module _ (w : World) (more : List Subtree) where
    abbrev Stands : Bool → Type 0
    Stands final = StateStands w (chart_piece final) (made_one (core_one final) numbers) flags places place numbers a b next more
        (record { states = image ∷ []; owners = [] })

    abbrev SimpleOrFinal : Bool → Type 0
    SimpleOrFinal true = FinalImage w.k w.core (images_of w) a.state
    SimpleOrFinal false = SimpleImage w.k w.core (images_of w) a.state

    images : (final : Bool) → Stands final → SimpleOrFinal final
    images true stands = final_image w.k w.core (images_of w) a.state b.holder flags places all
        (located w a b flags places a.state all stands.region (ap (λ z. z.holder) stands.chart.states.0) (ap
        (λ z. z.transitions) stands.chart.states.0)) b.state
        (ap (λ z. z.entry) stands.entries.images.0)
        (ap (λ z. z.entered) (one_row name begins true [] w.core more next b stands.core).states.0)
    images false stands = simple_image w.k w.core (images_of w) a.state b.holder flags places all
        (located w a b flags places a.state all stands.region (ap (λ z. z.holder) stands.chart.states.0) (ap
        (λ z. z.transitions) stands.chart.states.0)) b.state
        (ap (λ z. z.main) stands.entries.images.0) (ap (λ z. z.entry) stands.entries.images.0)
        (one_row name begins false (simple_transitions flags places all) w.core more next b stands.core).states.0

    as_simple : (final : Bool) → is_final w.k a.state ≡ final → is_final w.k a.state ≡ false → SimpleOrFinal final →
        SimpleImage w.k w.core (images_of w) a.state
    as_simple true e not_final images = let wrong : true ≡ false = sym e ∙ not_final in absurd cc
    as_simple false e not_final images = images

    as_final : (final : Bool) → is_final w.k a.state ≡ final → is_final w.k a.state ≡ true → SimpleOrFinal final →
        FinalImage w.k w.core (images_of w) a.state
    as_final true e ends images = images
    as_final false e ends images = let wrong : false ≡ true = sym e ∙ ends in absurd cc

    state_fits : (final : Bool) → Stands final → StateFits w a.state
    state_fits final stands =
        let row = stands.chart.states.0 in
        let held : holder w.k a.state ≡ a.holder = ap (λ z. z.holder) row in
        let none : (state_at w.k a.state).regions ≡ [] = ap (λ z. z.regions) row in
        let main : (i w).main_of a.state ≡ b.state = ap (λ z. z.main) stands.entries.images.0 in
        record {
          here = here final w stands.chart;
          region = subst (RegionFits w) (sym held) stands.region.region;
          mapped = ap w.m main ∙ (stands.entries.mapped.0 ∙ ap Some stands.entries.numbered);
          entry_mapped = ap w.m (ap (λ z. z.entry) stands.entries.images.0) ∙ (stands.entries.mapped.0 ∙ ap Some stands.entries.numbered);
          held = ap (holder w.core) main ∙ (held_core final w more stands.core ∙ (sym stands.region.thread ∙ ap (i w).thread_of (sym held)));
          simple = λ certain. as_simple final (final_is final w stands.chart) certain.not_final (images final stands);
          final = λ certain. as_final final (final_is final w stands.chart) certain (images final stands);
          staying = λ super stay. absurd (super none);
          split = λ super apart. absurd (super none);
          split_mapped = λ super apart. absurd (super none);
          watcher = λ super has. absurd (super none);
          watches = λ super. absurd (super none);
          flags = λ super. absurd (super none);
          flagless = λ empty. (
            ap (λ z. z.flags) stands.entries.images.0,
            ap (λ z. has_aborts z.transitions) row ∙ plain.0,
            ap (λ z. has_join z.transitions) row ∙ plain.1,
          );
          bare = λ empty. (
            ap (λ n. (state_at w.core n).regions) main ∙
                ap (λ z. z.regions) (one_row name begins final (core_all final) w.core more next b stands.core).states.0,
            ap (λ z. behind_by w z a.state) stands.entries.images.0 ∙ sym main,
          );
          behind_past = λ super stay. absurd (super none);
          numbered = ([], (0, none));
          few = subst (λ zs. length zs < 2147483648) (sym none) (omega arith);
          opens = λ super. absurd (super none);
        }

    core_sort : (final : Bool) → Stands final → CoreSort w b.state
    core_sort true stands = for_nothing (ap (λ z. z.transitions) (one_row name begins true [] w.core more next b stands.core).states.0)
    core_sort false stands =
        for_simple a.state
        (record {
          there = here false w stands.chart;
          no_regions = ap (λ z. z.regions) stands.chart.states.0;
          not_final = final_is false w stands.chart;
        }) (sym (ap (λ z. z.main) stands.entries.images.0))

    one_fits : (final : Bool) → Stands final → Fits w a.state (a.state + (chart_piece final).states) b.state
        (b.state + states_in (pieces_of (core_one final ∷ []))) numbers.variable (numbers.variable + 0)
    one_fits final stands =
        record {
          states = range_one (StateFits w) a.state (a.state + (chart_piece final).states) (omega arith) (state_fits final stands);
          core_states =
              range_one (CoreStateFits w) b.state (b.state + states_in (pieces_of (core_one final ∷ [])))
              (omega (arith, one_state name begins final (core_all final)))
              (record {
                origin = thread a.holder stands.region.region.here (held_core final w more stands.core ∙ sym stands.region.thread);
                sort = core_sort final stands;
              });
          owners = range_none (OwnerFits w) numbers.variable (numbers.variable + 0) (omega arith);
        }

  walk_one : (final : Bool) → StateWalk (chart_piece final) (made_one (core_one final) numbers) 0 final 1 flags places place begins numbers a b next
  walk_one final =
      record {
        image = image;
        inner = [];
        owners = [];
        entry = refl;
        placed = refl;
        core_sized = (one_sized name begins final (core_all final), tt);
        core_many = omega (arith, one_state name begins final (core_all final));
        long_states = refl;
        long_owners = refl;
        long_variables = refl;
        wide = refl;
        first = (core_one final, ([], refl));
        stands = ([], refl);
        begun = λ certain. one_begins name begins final (core_all final) ∙ certain;
        not_initial = λ denied. (one_begins name begins final (core_all final) ∙ denied, tt);
        one_initial = (λ e. tt, tt);
        final_is = λ w holds. final_is final w holds;
        held_chart = λ w holds. ap (λ z. z.holder) holds.states.0;
        held_core = λ w more rows once. held_core final w more rows;
        facts = λ w more stands. one_fits w more final stands;
      }

  pub walk_simple : (final : Bool) → StateWalk (chart_piece final) (made_one (simple final name all flags places begins) numbers) 0 final 1 flags places place
      begins numbers a b next
  walk_simple final =
      subst (λ s. StateWalk (chart_piece final) (made_one s numbers) 0 final 1 flags places place begins numbers a b next) (sym (simple_is final))
      (walk_one final)
