-- A superstate that stays as it is, over what is inside it.
use Rattle.std.proofs.Common.{◌≡◌, ℕ, suc, ◌+◌, ◌<◌, inl, inr, Bool, true, false}
use Rattle.std.proofs.Common.{◌||◌, ◌&&◌, Some, List, [], ◌∷◌, ◌++◌, map, length, refl}
use Rattle.std.proofs.Common.{sym, ap, subst, ◌∙◌, arith}
use Rattle.std.specs.Prelude.{filter}
use Rattle.std.specs.List.{list_any}
use Rattle.std.proofs.lemmas.Bool.{or_parts, not-true}
use Rattle.core_charts.specs.declared.region.Transition.{Transition}
use Rattle.core_charts.specs.declared.region.State.{State}
use Rattle.core_charts.specs.Tests.{is_strong, is_weak}
use Rattle.chart_machine.specs.declared.standing.Move.{Move}
use Rattle.chart_machine.specs.declared.table.Table.{Table}
use Rattle.chart_machine.specs.Table.{Subtree, state_at, states_in, region_numbers, side_by_side, state_subtree}
use Rattle.chart_machine.specs.Table.{within as table_within, subtree_of_region as table_of_region, subtree_of_state as table_of_state}
use Rattle.abort_expansion.specs.declared.flags.Flags.{Flags}
use Rattle.abort_expansion.specs.declared.places.RegionPlaces.{RegionPlaces}
use Rattle.abort_expansion.specs.declared.pieces.StatePieces.{StatePieces}
use Rattle.abort_expansion.specs.Flags.{has_join, counts, one}
use Rattle.core_charts.specs.Aborts.{has_strong, has_weak, has_aborts}
use Rattle.abort_expansion.specs.Flags.{given, flag_count, weak_around, aborts_around}
use Rattle.abort_expansion.specs.Transitions.{led}
use Rattle.abort_expansion.specs.Pieces.{variables_in}
use Rattle.abort_expansion.specs.Superstates.{stays, as_it_is}
use Rattle.abort_expansion.specs.Expansion.{piece_of_region}
use Rattle.abort_expansion.proofs.Assembled.{weak_none}
use Rattle.chart_machine_laws.specs.Tree.{holder}
use Rattle.chart_machine_laws.proofs.RowsOfSubtrees.{Holds, IsSized, state_sized}
use Rattle.abort_expansion_laws.specs.CoreRows.{own, IsState, is_final, IsSuper, fork_row}
use Rattle.abort_expansion_laws.proofs.SimpleRows.{rolled, rolled_piece}
use Rattle.abort_expansion_laws.proofs.InRegionRows.{InRegionAt, first_holds}
use Rattle.abort_expansion_laws.proofs.Walked.{World, StateImage, no_flags, values_from, images_of, i, RegionFits}
use Rattle.abort_expansion_laws.proofs.Walked.{StateFits, CoreStateFits, for_super, thread}
use Rattle.abort_expansion_laws.proofs.Walked.{behind_by, OwnerFits, Range, range_to, range_more, FlagsFit, IsFlag}
use Rattle.abort_expansion_laws.proofs.Walks.{Part, Fits, StateStands, RegionsStand, StateWalk, pieces_of}
use Rattle.abort_expansion_laws.proofs.LocalImages.{Located, staying_image}
use Rattle.abort_expansion_laws.proofs.WalkSimple.{located}
use Rattle.abort_expansion_laws.proofs.RowsOfForks.{some_regions, super_row}
use Rattle.abort_expansion_laws.proofs.AddedMonitors.{first_around, numbers_many}
use Rattle.abort_expansion_laws.proofs.EnteredAlike.{unwatched, OpensAlike}
use Rattle.abort_expansion_laws.proofs.SuperstateAt.{SuperstateAt, regions, weak, own_flags, inside_at, inside, core_inside, position, chart_piece, inner}
use Rattle.abort_expansion_laws.proofs.SuperstateAt.{variables, inner_variables}
use Rattle.abort_expansion_laws.proofs.SuperstateAt as superstate

-- ---- who stays has no aborts, and none are around it

none_given : (a b c : Bool) (x y z : ℕ) → a ≡ false → b ≡ false → c ≡ false →
    ◌≡◌ {A = Flags} (record { strong = given a x; weak = given b y; counter = given c z }) no_flags
none_given a b c x y z e f g = rw (e, f, g) refl

pub record HasNone (flags : List Flags) (all : List Transition) : Type 0 where
  pub strong : has_strong all ≡ false
  pub weak : has_weak all ≡ false
  pub counted : counts (weak_around flags) all ≡ false

pub has_none : (flags : List Flags) (all : List Transition) → stays flags all ≡ true → HasNone flags all
has_none flags all stay =
    let both = or_parts (has_aborts all) (aborts_around flags) (not-true (has_aborts all || aborts_around flags) stay) in
    let two = or_parts (has_strong all) (has_weak all) both.0 in
    record { strong = two.0; weak = two.1; counted = rw (two.0, two.1, weak_none flags both.1) (and_false (has_join all)) }
  where
    and_false : (b : Bool) → (b && false) ≡ false
    and_false true = refl
    and_false false = refl

led_none : (P : Transition → Bool) (places : RegionPlaces) → ((t : Transition) → P (led places t) ≡ P t) → (all : List Transition) → list_any P all ≡ false →
    filter P (map (led places) all) ≡ []
led_none P places same [] e = refl
led_none P places same (t ∷ all) e =
    let both = or_parts (P t) (list_any P all) e in rw (same t ∙ both.0) (led_none P places same all both.1)

module _ (s : SuperstateAt) (stay : stays s.flags s.all ≡ true) (few : length (map piece_of_region (regions s)) < 2147483648) where
  open s use {name, all, flags, places, numbers, chart_at as a, core_at as b, next, place, begins}

  abbrev made : StatePieces
  made = as_it_is name all (inside s) places begins numbers

  abbrev core_all : List Transition
  core_all = map (led places) all

  abbrev core_state : State
  core_state = rolled name begins false (inside s).regions core_all

  abbrev layer : Subtree
  layer = state_subtree (record { name = name; is_initial = begins; is_final = false; regions = core_inside s; transitions = core_all })

  piece : table_of_state core_state ≡ layer
  piece = rolled_piece name begins false (inside s).regions core_all

  none : HasNone flags all
  none = has_none flags all stay

  no_count : flag_count (weak s) all ≡ 0
  no_count = rw (none.counted, none.strong, none.weak) refl

  f_none : own_flags s ≡ no_flags
  f_none = none_given (has_strong all) (has_weak all) (counts (weak s) all) numbers.variable (numbers.variable + one (has_strong all))
      (numbers.variable + one (has_strong all) + one (has_weak all)) none.strong none.weak none.counted

  no_flag : (x : ℕ) → IsFlag (own_flags s) x → ⊥
  no_flag x is = not_one (subst (λ z. IsFlag z x) f_none is)
    where
      not_one : IsFlag no_flags x → ⊥
      not_one (inl e) = absurd cc
      not_one (inr (inl e)) = absurd cc
      not_one (inr (inr e)) = absurd cc

  abbrev image : StateImage
  image = record {
    main = b.state;
    entry = b.state;
    behind = b.state;
    flags = own_flags s;
    watcher = (position s).region;
    watching = b.state;
    watched = b.state;
    places = places;
    stays_on = true;
  }

  abbrev part : Part
  part = record { states = image ∷ (inner s).part.states; owners = (inner s).part.owners }

  core_states : (table_of_state core_state).states ≡ suc (states_in (core_inside s))
  core_states = ap (λ p. p.states) piece

  core_begins : (table_of_state core_state).is_initial ≡ begins
  core_begins = ap (λ p. p.is_initial) piece

  core_sized : IsSized (table_of_state core_state)
  core_sized = subst IsSized (sym piece)
      (state_sized (record { name = name; is_initial = begins; is_final = false; regions = core_inside s; transitions = core_all }) (inner s).core_sized)

  core_rows : (core : Table) (more : List Subtree) → InRegionAt core (table_of_state core_state ∷ more) next b →
      Holds core (position s) (layer.parts (position s))
  core_rows core more rows = first_holds core layer more next b (subst (λ p. InRegionAt core (p ∷ more) next b) piece rows)

  module _ (w : World) (more : List Subtree) (stands : StateStands w (chart_piece s) made flags places place numbers a b next more part) where
    img : w.image a.state ≡ image
    img = stands.entries.images.0

    main_is : (i w).main_of a.state ≡ b.state
    main_is = ap (λ z. z.main) img

    regions_row : (state_at w.k a.state).regions ≡ region_numbers (map table_of_region (regions s)) a.region
    regions_row = superstate.regions_row s w.k stands.chart

    super : IsSuper w.k a.state
    super = superstate.super s w.k stands.chart

    here : IsState w.k a.state
    here = superstate.here s w.k stands.chart

    held : holder w.k a.state ≡ a.holder
    held = superstate.held s w.k stands.chart

    loc : Located w.k w.core (images_of w) a.state b.holder flags places all
    loc = located w a b flags places a.state all stands.region held (ap (λ z. z.transitions) stands.chart.states.0)

    fork_rows : Holds w.core (position s) (layer.parts (position s))
    fork_rows = core_rows w.core more stands.core

    inner_stands : RegionsStand w (side_by_side (map table_of_region (regions s)) (table_within a)) (inside s) (flags ++ own_flags s ∷ [])
        (own_flags s).counter (inside_at s) (table_within a) (table_within (position s)) (inner s).part
    inner_stands =
        record {
          chart_rows = record { states = stands.chart.states.1; regions = stands.chart.regions };
          core = record { states = fork_rows.states.1; regions = fork_rows.regions };
          declared = Rattle.scl_graph_laws.proofs.Segments.stand_from w.core.variables numbers.variable (inside_at s).variable (inside s).variables
              (omega (arith, no_count)) stands.declared;
          entries =
              record {
                mapped = stands.entries.mapped.1;
                images = stands.entries.images.1;
                owned = values_from w.of_flag numbers.variable (inside_at s).variable (inner s).part.owners (omega (arith, no_count)) stands.entries.owned;
                low = omega (arith, stands.entries.low);
                numbered = ap suc stands.entries.numbered;
              };
          forks = superstate.forks_inside s w stands.region main_is;
          flags_are = superstate.flags_inside s w stands.region (ap (λ z. z.flags) img);
          counter_is = ap (λ z. z.flags.counter) (sym img);
        }

    threads : map (i w).thread_of (region_numbers (map table_of_region (regions s)) a.region) ≡ region_numbers (core_inside s) (position s).region
    threads = (inner s).threads w inner_stands

    row : state_at w.core b.state ≡ fork_row b.holder b.state (map (i w).thread_of (state_at w.k a.state).regions) core_all (state_at w.core b.state).opened
    row = subst (λ zs. state_at w.core b.state ≡ fork_row b.holder b.state zs core_all (state_at w.core b.state).opened)
        (sym (ap (map (i w).thread_of) regions_row ∙ threads))
        (super_row w.core name begins (inside s).regions core_all (some_regions (core_inside s) (position s).region _ _ (sym threads))
        (led_none (λ t. is_strong t.kind) places (λ t. refl) all none.strong)
        (led_none (λ t. is_weak t.kind) places (λ t. refl) all none.weak) (position s) fork_rows)

    flags_fit : FlagsFit w a.state
    flags_fit =
        record {
          first = numbers.variable;
          are = rw (ap (λ z. z.flags) img, loc.flags_are, loc.own_is) refl;
          low = stands.entries.low;
          owned = λ x is. absurd (no_flag x (subst (λ z. IsFlag z x) (ap (λ z. z.flags) img) is));
          declared = λ x is. absurd (no_flag x (subst (λ z. IsFlag z x) (ap (λ z. z.flags) img) is));
        }

    no_aborts : has_aborts (own w.k a.state) ≡ false
    no_aborts = rw (loc.own_is, none.strong, none.weak) refl

    abbrev entered_inside : List Move
    entered_inside = (side_by_side (core_inside s) (table_within (position s))).entered

    opens_alike : OpensAlike w.k w.core (images_of w) a.state
    opens_alike =
        record {
          inner = entered_inside;
          regions = superstate.regions_entered s w.k stands.chart w.core (images_of w) entered_inside ((inner s).entered w inner_stands);
          fork =
              ap (λ n. (state_at w.core n).opened) main_is ∙
              (ap (λ z. z.opened) fork_rows.states.0 ∙ unwatched w.k w.core (images_of w) a.state entered_inside no_aborts);
        }

    stays_there : stays (Rattle.abort_expansion_laws.proofs.Walked.around_flags w (holder w.k a.state)) (own w.k a.state) ≡ true
    stays_there = rw (loc.flags_are, loc.own_is) stay

    state_fits : StateFits w a.state
    state_fits =
        record {
          here = here;
          region = subst (RegionFits w) (sym held) stands.region.region;
          mapped = ap w.m main_is ∙ (stands.entries.mapped.0 ∙ ap Some stands.entries.numbered);
          entry_mapped = ap w.m (ap (λ z. z.entry) img) ∙ (stands.entries.mapped.0 ∙ ap Some stands.entries.numbered);
          held = ap (holder w.core) main_is ∙ (ap (λ z. z.holder) row ∙ sym loc.thread_is);
          simple = λ certain. absurd (super certain.no_regions);
          final = λ certain. let wrong : true ≡ false = sym certain ∙ superstate.not_ends s w.k stands.chart in absurd cc;
          staying = λ is same. staying_image w.k w.core (images_of w) a.state b.holder flags places all loc b.state main_is (ap (λ z. z.entry) img) row;
          split = λ is differs. let wrong : true ≡ false = sym stays_there ∙ differs in absurd cc;
          split_mapped = λ is differs. let wrong : true ≡ false = sym stays_there ∙ differs in absurd cc;
          watcher = λ is has.
              let wrong : true ≡ false = sym has ∙ no_aborts in absurd cc;
          watches = λ is. rw (img, loc.thread_is, stands.region.around_core)
              (first_around (inside s).regions w.core (table_within (position s)) _ _ (sym threads) inner_stands.core);
          flags = λ is. flags_fit;
          flagless = λ empty. absurd (super empty);
          bare = λ empty. absurd (super empty);
          behind_past = λ is same. ap (λ z. behind_by w z a.state) img;
          numbered = (regions s, (a.region, regions_row));
          few = subst (λ n. n < 2147483648) (sym (ap length regions_row ∙ numbers_many (regions s) a.region)) few;
          opens = λ is. opens_alike;
        }

    staying_fits : Fits w a.state (a.state + (chart_piece s).states) b.state (b.state + states_in (pieces_of made.states)) numbers.variable
        (numbers.variable + variables s)
    staying_fits =
        record {
          states =
              range_more (StateFits w) a.state (a.state + (chart_piece s).states) state_fits
              (range_to (StateFits w) (suc a.state) (suc a.state + states_in (map table_of_region (regions s))) (a.state + (chart_piece s).states) (omega arith)
              ((inner s).facts w inner_stands).states);
          core_states =
              range_more (CoreStateFits w) b.state (b.state + states_in (pieces_of made.states))
              (record {
                origin = thread a.holder stands.region.region.here (ap (λ z. z.holder) row ∙ sym stands.region.thread);
                sort = for_super a.state here super (sym main_is);
              })
              (range_to (CoreStateFits w) (suc b.state) (suc b.state + states_in (core_inside s)) (b.state + states_in (pieces_of made.states))
              (omega (arith, core_states))
              ((inner s).facts w inner_stands).core_states);
          owners =
              subst (λ n. Range (OwnerFits w) n (numbers.variable + variables s)) (omega (arith, no_count))
              (range_to (OwnerFits w) (inside_at s).variable
              ((inside_at s).variable + variables_in (weak_around (flags ++ own_flags s ∷ [])) (map piece_of_region (regions s)))
              (numbers.variable + variables s)
              (omega (arith, (inner_variables s))) ((inner s).facts w inner_stands).owners);
        }

  pub walk_staying : StateWalk (chart_piece s) made (variables s) false 1 flags places place begins numbers a b next
  walk_staying =
      record {
        image = image;
        inner = (inner s).part.states;
        owners = (inner s).part.owners;
        entry = refl;
        placed = refl;
        core_sized = (core_sized, tt);
        core_many = omega (arith, core_states, (inner s).core_many);
        long_states = ap suc (inner s).long_states;
        long_owners = omega (arith, (inner s).long_owners, no_count, (inner_variables s));
        long_variables = omega (arith, (inner s).long_variables, no_count, (inner_variables s));
        wide = refl;
        first = (core_state, ([], refl));
        stands = ((inside s).stands_for, refl);
        begun = λ certain. core_begins ∙ certain;
        not_initial = λ denied. (core_begins ∙ denied, tt);
        one_initial = (λ e. tt, tt);
        final_is = λ w holds. superstate.not_ends s w.k holds;
        held_chart = λ w holds. superstate.held s w.k holds;
        held_core = λ w more rows once. ap (λ z. z.holder) (core_rows w.core more rows).states.0;
        facts = λ w more stands. staying_fits w more stands;
      }
