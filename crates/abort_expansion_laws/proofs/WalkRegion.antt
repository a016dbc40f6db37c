-- A region of a chart, and its thread.
use Rattle.std.proofs.Common.{◌≡◌, ℕ, ◌+◌, ◌<◌, Bool, true, false, None}
use Rattle.std.proofs.Common.{Option, Some, List, [], ◌∷◌, ◌++◌, map, length, slice_get}
use Rattle.std.proofs.Common.{unwrap_or, refl, sym, ap, subst, ◌∙◌, arith}
use Rattle.std.proofs.lemmas.List.{append-nil}
use Rattle.sc_text.proofs.EachItem.{Each}
use Rattle.core_charts.specs.declared.region.Region.{Region}
use Rattle.core_charts.specs.declared.region.Region.TheViews.{out-Region}
use Rattle.core_charts.specs.declared.region.Region.TheFolds.{fold_out-Region}
use Rattle.core_charts.specs.declared.region.State.{State}
use Rattle.chart_machine.specs.declared.table.TablePosition.{TablePosition}
use Rattle.chart_machine.specs.Table.{Subtree, state_at, region_at, states_in, side_by_side}
use Rattle.chart_machine.specs.Table.{state_numbers, inside_region}
use Rattle.chart_machine.specs.Table.{subtree_of_state as table_of_state, subtree_of_region as table_of_region}
use Rattle.chart_machine.specs.Table.{region_subtree as table_region_piece, state_subtree as table_state_piece}
use Rattle.chart_machine.specs.Steps.{state_in}
use Rattle.chart_machine_laws.specs.Tree.{IsThere, around, holder}
use Rattle.chart_machine_laws.proofs.RowsOfSubtrees.{Holds, IsSized, region_sized}
use Rattle.chart_machine_laws.proofs.TableTrees.{OnceInitial}
use Rattle.scl_graph_laws.proofs.Segments.{StandAt, stand_from, stand_first, stand_second, stand_all}
use Rattle.abort_expansion.specs.declared.flags.Flags.{Flags}
use Rattle.abort_expansion.specs.declared.pieces.NextNumbers.{NextNumbers}
use Rattle.abort_expansion.specs.Flags.{weak_around, aborts_around, one}
use Rattle.abort_expansion.specs.Pieces.{RegionPiece, StatePiece}
use Rattle.abort_expansion.specs.Expansion.{piece_of_region, region_piece, state_piece, places, states_among}
use Rattle.abort_expansion.specs.Expansion.{variables_among, initial_number, new_initial}
use Rattle.abort_expansion_laws.specs.CoreRows.{own, is_final, flags_around, counter_over, RegionImage}
use Rattle.abort_expansion_laws.proofs.InRegionRows.{InRegionAt, more_hold}
use Rattle.abort_expansion_laws.proofs.SideRows.{states_append, side_head}
use Rattle.abort_expansion_laws.proofs.Walked.{World, ValuesAt, values_from, values_first, values_second, i, RegionFits, InRegion}
use Rattle.abort_expansion_laws.proofs.Walked.{CoreStateFits, CoreSort, for_start, for_nothing, thread, Range, range_both, range_to, thread_by, places_by}
use Rattle.abort_expansion_laws.proofs.Walks.{Fits, RegionsStand, RegionsWalk, RegionWalks, StateWalks, pieces_of}
use Rattle.abort_expansion_laws.proofs.RowsOfForks.{region_rows}
use Rattle.abort_expansion_laws.proofs.WalkStates.{expanded_pieces, EachPlace, FirstFits, StatesStand, numbers_append, numbers_long, pieces_long}
use Rattle.abort_expansion_laws.proofs.StatePlaces.{region_there_at, each_place, first_there, initial_held, begins_where, first_number}
use Rattle.abort_expansion_laws.proofs.RegionEnds.{new_sized, new_many, new_long, new_variables, new_held}
use Rattle.abort_expansion.specs.Transitions.{go, on, count_down}
use Rattle.abort_expansion_laws.proofs.RegionEnds.{new_first, new_none, new_row, new_does, left_bare, left_held, left_there}
use Rattle.abort_expansion_laws.proofs.EnteredAlike.{BeginsAs, AreEntered}
use Rattle.abort_expansion_laws.proofs.InitialStates.{initial_at, HasInitial, has_first, has_left, has_right, at_first, at_later, states_entered}
use Rattle.abort_expansion_laws.proofs.ThreadBegins.{initial_final, Told, initial_told, begins_as}
use Rattle.abort_expansion_laws.proofs.RegionPieces.{RegionAt, sized_states, states, chart_pieces, expanded, anew, begin, positions, target, number, news, text}
use Rattle.abort_expansion_laws.proofs.RegionPieces.{lefts, all_states, new_pieces, text_pieces, left_pieces, later_pieces, split_pieces, pieces_are}
use Rattle.abort_expansion_laws.proofs.RegionPieces.{core_layer, chart_piece, core_region, core_piece, text_at, chart_next, region_next, core_next, middle}
use Rattle.abort_expansion_laws.proofs.RegionPieces.{chart_numbers, new_numbers, text_numbers, left_at, left_numbers, left_next, finals, all_sized, once, made}
use Rattle.abort_expansion_laws.proofs.RegionPieces.{many_all, long_all, region_states}

once_later : (xs ys : List Subtree) → OnceInitial (xs ++ ys) → OnceInitial ys
once_later [] ys h = h
once_later (z ∷ xs) ys h = once_later xs ys h.1

-- ---- the region

module _ (r : RegionAt) where
  open r use {name, state as s, others, walks, once_chart, has_chart, flags, counter, numbers, chart_at as a, core_at as b}

  module _ (w : World) (stands : RegionsStand w ((chart_piece r).parts a) (made r) flags counter numbers a b (middle r).part) where
    chart_rows : (region_at w.k a.region ≡ record { around = a.around; states = chart_numbers r })
        × InRegionAt w.k (chart_pieces r) (chart_next r) (inside_region a)
    chart_rows = region_rows w.k (record { name = name; states = chart_pieces r }) a (sized_states (states r) walks) stands.chart_rows

    core_rows : (region_at w.core b.region ≡ record { around = b.around; states = state_numbers (pieces_of (all_states r)) b.state })
        × InRegionAt w.core (pieces_of (all_states r)) (region_next r) (inside_region b)
    core_rows = region_rows w.core (core_layer r) b (all_sized r)
        (subst (λ p. Holds w.core b (p.parts b)) (core_piece r) (side_head w.core (table_of_region (core_region r)) [] b stands.core))

    split_rows : InRegionAt w.core (split_pieces r) (region_next r) (inside_region b)
    split_rows = subst (λ zs. InRegionAt w.core zs (region_next r) (inside_region b)) (pieces_are r) core_rows.1

    states_are : (region_at w.core b.region).states ≡ new_numbers r ++ (text_numbers r ++ left_numbers r)
    states_are =
        ap (λ z. z.states) core_rows.0 ∙
        (ap (λ zs. state_numbers zs b.state) (pieces_are r) ∙
        (numbers_append (new_pieces r) (later_pieces r) b.state ∙
        ap (λ zs. new_numbers r ++ zs) (numbers_append (text_pieces r) (left_pieces r) (text_at r).state)))

    whole_placed : StandAt (region_at w.core b.region).states 0 (new_numbers r ++ (text_numbers r ++ left_numbers r))
    whole_placed = subst (StandAt (region_at w.core b.region).states 0) states_are (stand_all (region_at w.core b.region).states)

    later_placed : StandAt (region_at w.core b.region).states (begin r) (text_numbers r ++ left_numbers r)
    later_placed =
        stand_from (region_at w.core b.region).states (0 + length (new_numbers r)) (begin r) (text_numbers r ++ left_numbers r)
        (omega (arith, numbers_long (new_pieces r) b.state, pieces_long (news r).states, new_long counter (target r) (number r) (anew r)))
        (stand_second (region_at w.core b.region).states 0 (new_numbers r) (text_numbers r ++ left_numbers r) whole_placed)

    text_rows : InRegionAt w.core (later_pieces r) (core_next r) (text_at r)
    text_rows = more_hold w.core (new_pieces r) (later_pieces r) (region_next r) (inside_region b)
        (new_sized counter (target r) (number r) (anew r)) (once r) split_rows

    left_rows : InRegionAt w.core (left_pieces r) (left_next r) (left_at r)
    left_rows = more_hold w.core (text_pieces r) (left_pieces r) (core_next r) (text_at r) (middle r).core_sized
        (once_later (new_pieces r) (later_pieces r) (once r)) text_rows

    later_mapped : ValuesAt w.m (text_at r).state ((text r).stands_for ++ (lefts r).stands_for)
    later_mapped =
        values_from w.m (b.state + length (news r).stands_for) (text_at r).state ((text r).stands_for ++ (lefts r).stands_for)
        (omega (arith, new_many counter (target r) (number r) (anew r)))
        (values_second w.m b.state (news r).stands_for ((text r).stands_for ++ (lefts r).stands_for) stands.entries.mapped)

    middle_stands : StatesStand w (states r) (text r) (begin r) numbers (inside_region a) (text_at r) (chart_next r) (core_next r)
        (left_pieces r) (middle r).part
    middle_stands =
        record {
          chart = chart_rows.1;
          once_chart = once_chart;
          core = text_rows;
          once = once_later (new_pieces r) (later_pieces r) (once r);
          declared =
              stand_first w.core.variables numbers.variable (text r).variables (lefts r).variables
              (stand_from w.core.variables (numbers.variable + length (news r).variables) numbers.variable ((text r).variables ++ (lefts r).variables)
              (omega (arith, new_variables counter (target r) (number r) (anew r)))
              (stand_second w.core.variables numbers.variable (news r).variables ((text r).variables ++ (lefts r).variables) stands.declared));
          entries =
              record {
                mapped = values_first w.m (text_at r).state (text r).stands_for (lefts r).stands_for later_mapped;
                images = stands.entries.images;
                owned = stands.entries.owned;
                low = stands.entries.low;
                numbered = stands.entries.numbered;
              };
          placed = stand_first (region_at w.core b.region).states (begin r) (text_numbers r) (left_numbers r) later_placed;
        }

    firsts : FirstFits w b.region (positions r) (chart_numbers r)
    firsts = (middle r).first w (left_pieces r) middle_stands

    each : EachPlace w a.region (region_at w.core b.region).states (chart_numbers r) (positions r).states (finals r)
    each = (middle r).places_are w (left_pieces r) middle_stands

    region_row : (region_at w.k a.region).states ≡ chart_numbers r
    region_row = ap (λ z. z.states) chart_rows.0

    thread_is : (i w).thread_of a.region ≡ b.region
    thread_is = ap (λ zs. thread_by w zs a.region) region_row ∙ firsts.0

    places_are : (i w).places_of a.region ≡ positions r
    places_are = ap (λ zs. places_by w zs) region_row ∙ firsts.1

    around_is : around w.k a.region ≡ a.around
    around_is = ap (λ z. z.around) chart_rows.0

    core_around : around w.core b.region ≡ b.around
    core_around = ap (λ z. z.around) core_rows.0

    flags_there : flags_around w.k w.core (i w) a.region ≡ flags
    flags_there = ap (λ zs. map (i w).flags_of (Rattle.std.specs.Prelude.reverse zs)) around_is ∙ sym stands.flags_are

    first_place : (q : ℕ) × (slice_get (region_at w.core b.region).states q ≡ Some (w.image a.state).entry) × (holder w.k a.state ≡ a.region)
    first_place = first_there w a.region (region_at w.core b.region).states a.state (state_numbers (pieces_of others) (a.state + (table_of_state s).states))
        (positions r).states (finals r) each

    core_there : IsThere w.core b.region
    core_there = region_there_at w.core b.region first_place.0 (w.image a.state).entry first_place.1

    image_fits : RegionImage w.k w.core (i w) a.region
    image_fits =
        record {
          there = subst (IsThere w.core) (sym thread_is) core_there;
          counter = ap (λ z. z.counter) places_are ∙ (stands.counter_is ∙ ap (λ zs. counter_over w.k w.core (i w) zs) (sym around_is));
          places = λ p lt.
              let one = placed p lt in
              rw (thread_is, places_are, region_row) (ap (λ o. unwrap_or o 0) one.0);
          finals = λ p lt. let one = placed p lt in rw (places_are, region_row) one.1;
          holds = λ p lt. let one = placed p lt in rw (region_row) one.2;
          left = λ some.
              let there = left_there (aborts_around flags) w.core (left_next r) (left_at r)
              (region_at w.core b.region).states (positions r).left (sym (ap aborts_around flags_there) ∙ some) left_rows
              (stand_from (region_at w.core b.region).states (begin r + length (text_numbers r)) (positions r).left (left_numbers r)
              (omega (arith, numbers_long (text_pieces r) (text_at r).state, pieces_long (text r).states, (middle r).wide))
              (stand_second (region_at w.core b.region).states (begin r) (text_numbers r) (left_numbers r) later_placed)) in
              rw (thread_is, places_are, there.0) there.1;
        }
      where
        placed : (p : ℕ) → p < length (region_at w.k a.region).states →
            (slice_get (region_at w.core b.region).states (unwrap_or (slice_get (positions r).states p) 0) ≡
            Some (w.image (unwrap_or (slice_get (chart_numbers r) p) 0)).entry)
            × (unwrap_or (slice_get (finals r) p) false ≡ is_final w.k (unwrap_or (slice_get (chart_numbers r) p) 0))
            × (holder w.k (unwrap_or (slice_get (chart_numbers r) p) 0) ≡ a.region)
        placed p lt = each_place w a.region (region_at w.core b.region).states (chart_numbers r)
            (positions r).states (finals r) each p (subst (λ zs. p < length zs) region_row lt)

    -- its first core state stands for one of its states
    back_is : (n : ℕ) × (w.m b.state ≡ Some n) × (holder w.k n ≡ a.region)
    back_is = by_first (anew r) refl
        (values_first w.m b.state (news r).stands_for ((text r).stands_for ++ (lefts r).stands_for) stands.entries.mapped)
      where
        by_first : (z : Bool) → anew r ≡ z → ValuesAt w.m b.state (new_initial (anew r) counter (target r) (number r)).stands_for →
            (n : ℕ) × (w.m b.state ≡ Some n) × (holder w.k n ≡ a.region)
        by_first true certain h = (
          number r,
          (subst (λ z. ValuesAt w.m b.state (new_initial z counter (target r) (number r)).stands_for) certain h).0,
          subst (λ z. holder w.k (initial_number (expanded r) z) ≡ a.region) (sym stands.entries.numbered)
              (initial_held w a.region (region_at w.core b.region).states (states r) walks a.state (positions r).states (finals r) each
              (begins_where counter (expanded r) certain)),
        )
        by_first false denied h = (
          a.state,
          subst (λ n. w.m n ≡ Some a.state) (omega (arith, none_new (anew r) denied))
              ((subst (λ zs. ValuesAt w.m (text_at r).state (zs ++ (lefts r).stands_for)) (middle r).stands.1 later_mapped).0 ∙
              ap Some stands.entries.numbered),
          first_place.2,
        )
          where
            none_new : (z : Bool) → z ≡ false → states_in (pieces_of (new_initial z counter (target r) (number r)).states) ≡ 0
            none_new true e = absurd cc
            none_new false e = refl

    first_state : state_in w.core b.region 0 ≡ b.state
    first_state =
        ap (λ zs. unwrap_or (slice_get zs 0) 0) (ap (λ z. z.states) core_rows.0) ∙
        first_number (pieces_of (all_states r)) b.state first_place.0 (w.image a.state).entry
        (subst (λ zs. slice_get zs first_place.0 ≡ Some (w.image a.state).entry) (ap (λ z. z.states) core_rows.0) first_place.1)

    region_fits : RegionFits w a.region
    region_fits =
        record {
          here = Rattle.abort_expansion_laws.proofs.WalkSimple.region_there w.k a.region a.state _ region_row;
          image = image_fits;
          encloses = ap (around w.core) thread_is ∙ (core_around ∙ (stands.forks ∙ ap (map (i w).main_of) (sym around_is)));
          back = (back_is.0, ap (λ t. w.m (state_in w.core t 0)) thread_is ∙ (ap w.m first_state ∙ back_is.1), back_is.2);
        }

    in_region_fits : InRegion w (inside_region a) (text_at r) flags (positions r)
    in_region_fits =
        record {
          region = region_fits;
          thread = thread_is;
          around_chart = around_is;
          around_core = core_around;
          forks = stands.forks;
          flags_are = stands.flags_are;
          places_are = places_are;
        }

    -- ---- what is entered with it

    abbrev first : ℕ
    first = initial_at (chart_pieces r) a.state

    abbrev core_first : ℕ
    core_first = initial_at (pieces_of (all_states r)) b.state

    told : Told w a.region (region_at w.core b.region).states first (target r) (initial_final (expanded r))
    told = initial_told w a.region (region_at w.core b.region).states (states r) walks flags a.state (begin r) each has_chart

    has_core : (z : Bool) → anew r ≡ z → HasInitial (split_pieces r)
    has_core true certain = has_first (new_pieces r) (later_pieces r) (new_first counter (target r) (number r) (anew r) certain)
    has_core false denied = has_right (new_pieces r) (later_pieces r) (has_left (text_pieces r) (left_pieces r) ((middle r).begun denied has_chart))

    begins : BeginsAs w.k w.core (i w) a.region first core_first
    begins =
        begins_as w (states r) walks once_chart counter a.region first core_first (target r) b.region b.state told thread_is
        (ap (λ zs. counter_over w.k w.core (i w) zs) around_is ∙ sym stands.counter_is)
        (λ certain. (
          ap (λ zs. initial_at zs b.state) (pieces_are r) ∙
              at_first (new_pieces r) (later_pieces r) b.state (new_first counter (target r) (number r) (anew r) certain),
          new_row counter (target r) (number r) (anew r) certain w.core (later_pieces r) (region_next r) (inside_region b) split_rows,
        ))
        (λ denied.
        ap (λ zs. initial_at zs b.state) (pieces_are r) ∙
        (at_later (new_pieces r) (later_pieces r) b.state (new_none counter (target r) (number r) (anew r) denied) ∙
        (middle r).begins_at denied has_chart w (left_pieces r) middle_stands))

    entered_alike : AreEntered w.k w.core (i w) (a.region ∷ []) ((chart_piece r).parts a).entered
        (side_by_side (table_of_region (core_region r) ∷ []) b).entered
    entered_alike = (
      [],
      (
        [],
        (
          record {
            first = first;
            core_first = core_first;
            held = told.held;
            begins = begins;
            chart =
                states_entered w.k (states r) (sized_states (states r) walks) (chart_next r) (inside_region a) chart_rows.1 once_chart has_chart ∙
                sym (append-nil (state_at w.k first).entered);
            in_core =
                ap (λ zs. zs ++ [])
                (ap (λ p. (p.parts b).entered) (core_piece r) ∙
                states_entered w.core (all_states r) (all_sized r) (region_next r) (inside_region b) core_rows.1
                (subst OnceInitial (sym (pieces_are r)) (once r))
                (subst HasInitial (sym (pieces_are r)) (has_core (anew r) refl)));
          },
          (refl, refl),
        ),
      ),
    )

    held_fits : (low high : ℕ) → Range (λ n. holder w.core n ≡ b.region) low high → Range (CoreSort w) low high → Range (CoreStateFits w) low high
    held_fits low high h sorts n lo hi =
        record { origin = thread a.region region_fits.here (h n lo hi ∙ sym thread_is); sort = sorts n lo hi }

    -- the new initial state counts what its region does
    start_sort : (n : ℕ) → own w.core n ≡ go true None (on counter count_down) (target r) ∷ [] → CoreSort w n
    start_sort n is =
        for_start a.region (target r) region_fits.here
        (is ∙ ap (λ x. go true None (on x count_down) (target r) ∷ []) (sym (ap (λ z. z.counter) places_are)))

    region_facts : Fits w a.state (a.state + (chart_piece r).states) b.state (b.state + states_in (table_of_region (core_region r) ∷ [])) numbers.variable
        (numbers.variable + variables_among (weak_around flags) (expanded r))
    region_facts =
        let inner = (middle r).facts w (left_pieces r) middle_stands in_region_fits in
        record {
          states = inner.states;
          core_states =
              range_to (CoreStateFits w) b.state ((left_at r).state + states_in (left_pieces r)) (b.state + states_in (table_of_region (core_region r) ∷ []))
              (omega (
                arith,
                region_states r,
                ap states_in (pieces_are r),
                states_append (new_pieces r) (later_pieces r),
                states_append (text_pieces r) (left_pieces r),
              ))
              (range_both (CoreStateFits w) b.state (text_at r).state ((left_at r).state + states_in (left_pieces r))
              (held_fits b.state (text_at r).state
              (new_held counter (target r) (number r) (anew r) w.core (later_pieces r) (region_next r) (inside_region b) split_rows)
              (λ n lo hi. start_sort n
              (new_does counter (target r) (number r) (anew r) w.core (later_pieces r) (region_next r) (inside_region b) split_rows n lo hi)))
              (range_both (CoreStateFits w) (text_at r).state (left_at r).state ((left_at r).state + states_in (left_pieces r)) inner.core_states
              (held_fits (left_at r).state ((left_at r).state + states_in (left_pieces r))
              (left_held (aborts_around flags) w.core (left_next r) (left_at r) left_rows)
              (λ n lo hi. for_nothing (left_bare (aborts_around flags) w.core (left_next r) (left_at r) left_rows n lo hi)))));
          owners = inner.owners;
        }

  walk_opened : RegionsWalk ((chart_piece r).parts a) (chart_piece r).states (a.region ∷ []) (made r)
      (variables_among (weak_around flags) (expanded r)) flags counter numbers a b
  walk_opened =
      record {
        part = (middle r).part;
        core_sized = (subst IsSized (sym (core_piece r)) (region_sized (core_layer r) (all_sized r)), tt);
        core_many = omega (arith, region_states r, many_all r);
        long_states = (middle r).long_states;
        long_owners = (middle r).long_owners;
        long_variables = long_all r;
        threads = λ w stands. ap (λ n. n ∷ []) (thread_is w stands);
        entered = λ w stands. entered_alike w stands;
        facts = λ w stands. region_facts w stands;
      }

-- ---- any region

among_counts : (states : List State) → Each StateWalks states → states_among (expanded_pieces states) ≡ states_in (pieces_of states)
among_counts [] walks = refl
among_counts (s ∷ states) walks = omega (arith, walks.0.counts.states, among_counts states walks.1)

walk_states_of : (name : List ℕ) (s : State) (others : List State) → Each StateWalks (s ∷ others) → OnceInitial (pieces_of (s ∷ others)) →
    HasInitial (pieces_of (s ∷ others)) →
    (flags : List Flags) (counter : Option ℕ) (numbers : NextNumbers) (a b : TablePosition) →
    RegionsWalk ((table_region_piece (record { name = name; states = pieces_of (s ∷ others) })).parts a)
    (table_region_piece (record { name = name; states = pieces_of (s ∷ others) })).states (a.region ∷ [])
    ((region_piece (record { name = name; states = expanded_pieces (s ∷ others) })).made flags counter numbers)
    ((region_piece (record { name = name; states = expanded_pieces (s ∷ others) })).variables (weak_around flags)) flags counter numbers a b
walk_states_of name s others walks once has flags counter numbers a b =
    walk_opened
    (record {
      name = name;
      state = s;
      others = others;
      walks = walks;
      once_chart = once;
      has_chart = has;
      flags = flags;
      counter = counter;
      numbers = numbers;
      chart_at = a;
      core_at = b;
    })

abbrev RegionWalksBy : Subtree → RegionPiece → Type 0
RegionWalksBy p x =
    (flags : List Flags) (counter : Option ℕ) (numbers : NextNumbers) (a b : TablePosition) →
    RegionsWalk (p.parts a) p.states (a.region ∷ []) (x.made flags counter numbers) (x.variables (weak_around flags)) flags counter numbers a b

pub walk_region : (r : Region) (s : State) (others : List State) → (out-Region r).states ≡ s ∷ others → Each StateWalks (s ∷ others) →
    OnceInitial (pieces_of (s ∷ others)) → HasInitial (pieces_of (s ∷ others)) → RegionWalks r
walk_region r s others some walks once has =
    record {
      walks =
          subst (λ p. RegionWalksBy p (piece_of_region r)) (sym chart_is)
          (subst (RegionWalksBy (table_region_piece (record { name = (out-Region r).name; states = pieces_of (s ∷ others) }))) (sym core_is)
          (walk_states_of (out-Region r).name s others walks once has));
      states = ap (λ p. p.states) core_is ∙ (among_counts (s ∷ others) walks ∙ sym (ap (λ p. p.states) chart_is));
      sized = subst IsSized (sym chart_is) (region_sized (record { name = (out-Region r).name; states = pieces_of (s ∷ others) }) (sized_states
          (s ∷ others) walks));
    }
  where
    chart_is : table_of_region r ≡ table_region_piece (record { name = (out-Region r).name; states = pieces_of (s ∷ others) })
    chart_is = fold_out-Region Subtree Subtree table_region_piece table_state_piece r ∙
        ap (λ zs. table_region_piece (record { name = (out-Region r).name; states = pieces_of zs })) some

    core_is : piece_of_region r ≡ region_piece (record { name = (out-Region r).name; states = expanded_pieces (s ∷ others) })
    core_is = fold_out-Region RegionPiece StatePiece region_piece state_piece r ∙
        ap (λ zs. region_piece (record { name = (out-Region r).name; states = expanded_pieces zs })) some
