-- The states of a region, walked over one after the other.
use Rattle.std.proofs.Common.{◌≡◌, ℕ, suc, ◌+◌, Bool, true, false, not, ◌&&◌, Option, Some, List, [], ◌∷◌, ◌++◌, map, length, slice_get}
use Rattle.std.proofs.Common.{⊎_elim, refl, sym, ap, subst, ◌∙◌, arith}
use Rattle.std.proofs.lemmas.List.{length-append, map-append, append_assoc}
use Rattle.sc_text.proofs.EachItem.{Each}
use Rattle.core_charts.specs.declared.region.State.{State}
use Rattle.chart_machine.specs.declared.table.TablePosition.{TablePosition}
use Rattle.chart_machine.specs.Table.{Subtree, region_at, states_in, state_numbers, past_states, next_behind, subtree_of_state as table_of_state}
use Rattle.chart_machine_laws.specs.Tree.{holder}
use Rattle.chart_machine_laws.proofs.RowsOfSubtrees.{Holds, AllSized}
use Rattle.chart_machine_laws.proofs.TableTrees.{NoneInitial, OnceInitial}
use Rattle.scl_graph_laws.proofs.Segments.{StandAt, stand_from, stand_first, stand_second}
use Rattle.abort_expansion.specs.declared.flags.Flags.{Flags}
use Rattle.abort_expansion.specs.declared.places.RegionPlaces.{RegionPlaces}
use Rattle.abort_expansion.specs.declared.pieces.StatePieces.{StatePieces}
use Rattle.abort_expansion.specs.declared.pieces.NextNumbers.{NextNumbers}
use Rattle.abort_expansion.specs.Flags.{weak_around}
use Rattle.abort_expansion.specs.Pieces.{StatePiece, beside}
use Rattle.abort_expansion.specs.Expansion.{piece_of_state, expanded_states, past_state, places, widths, variables_among}
use Rattle.abort_expansion_laws.specs.CoreRows.{is_final}
use Rattle.abort_expansion_laws.proofs.InRegionRows.{InRegionAt, first_holds, rest_holds, more_hold, position_of, next_past}
use Rattle.abort_expansion_laws.proofs.InRegionRows.{none_append, once_append, none_once}
use Rattle.abort_expansion_laws.proofs.SideRows.{states_append, sized_append}
use Rattle.abort_expansion_laws.proofs.Walked.{World, InRegion}
use Rattle.abort_expansion_laws.proofs.Walks.{Part, Fits, Entries, StateStands, StateWalk, StateWalks, pieces_of, FirstInitial}
use Rattle.abort_expansion_laws.proofs.InitialStates.{initial_at, HasInitial, has_first, has_right, at_first, at_later}
use Rattle.abort_expansion_laws.proofs.WalkSide.{fits_none, fits_both, fits_to, entries_first, entries_second}

abbrev pub expanded_pieces : List State → List StatePiece
expanded_pieces states = map piece_of_state states

-- of each state of a region: where transitions to it lead, and whether it is final
abbrev pub EachPlace : World → ℕ → List ℕ → List ℕ → List ℕ → List Bool → Type 0
EachPlace w r core_states [] [] [] = Unit {0}
EachPlace w r core_states (s ∷ numbers) (q ∷ at) (x ∷ finals) =
    ((slice_get core_states q ≡ Some (w.image s).entry) × (is_final w.k s ≡ x) × (holder w.k s ≡ r)) × EachPlace w r core_states numbers at finals
EachPlace w r core_states numbers at finals = ⊥

abbrev pub FirstFits : World → ℕ → RegionPlaces → List ℕ → Type 0
FirstFits w t to [] = Unit {0}
FirstFits w t to (s ∷ numbers) = (holder w.core (w.image s).main ≡ t) × ((w.image s).places ≡ to)

abbrev pub BeginsWith : ℕ → List State → List (Option ℕ) → Type 0
BeginsWith n [] stands_for = Unit {0}
BeginsWith n (s ∷ states) stands_for = (more : List (Option ℕ)) × (stands_for ≡ Some n ∷ more)

pub record StatesStand (w : World) (states : List State) (made : StatePieces) (place : ℕ) (numbers : NextNumbers) (a b : TablePosition) (next core_next : ℕ)
    (more : List Subtree) (part : Part) : Type 0 where
  pub chart : InRegionAt w.k (pieces_of states) next a
  pub once_chart : OnceInitial (pieces_of states)
  pub core : InRegionAt w.core (pieces_of made.states ++ more) core_next b
  pub once : OnceInitial (pieces_of made.states ++ more)
  pub declared : StandAt w.core.variables numbers.variable made.variables
  pub entries : Entries w numbers a.state b.state made.stands_for part
  pub placed : StandAt (region_at w.core b.holder).states place (state_numbers (pieces_of made.states) b.state)

pub record StatesWalk (states : List State) (anew : Bool) (made : StatePieces) (flags : List Flags) (to : RegionPlaces) (place : ℕ) (numbers : NextNumbers)
    (a b : TablePosition) (next core_next : ℕ) : Type 0 where
  pub part : Part
  pub core_sized : AllSized (pieces_of made.states)
  pub core_many : states_in (pieces_of made.states) ≡ length made.stands_for
  pub long_states : length part.states ≡ states_in (pieces_of states)
  pub long_owners : length part.owners ≡ variables_among (weak_around flags) (expanded_pieces states)
  pub long_variables : length made.variables ≡ variables_among (weak_around flags) (expanded_pieces states)
  pub wide : length made.states ≡ widths (expanded_pieces states) flags
  pub none : NoneInitial (pieces_of states) → NoneInitial (pieces_of made.states)
  pub anew_none : anew ≡ true → NoneInitial (pieces_of made.states)
  pub one_initial : OnceInitial (pieces_of states) → OnceInitial (pieces_of made.states)
  pub stands : BeginsWith numbers.state states made.stands_for
  -- the initial state is initial still, unless another one was put before it
  pub begun : anew ≡ false → HasInitial (pieces_of states) → HasInitial (pieces_of made.states)
  pub begins_at : anew ≡ false → HasInitial (pieces_of states) → (w : World) (more : List Subtree) →
      StatesStand w states made place numbers a b next core_next more part →
      initial_at (pieces_of made.states ++ more) b.state ≡ (w.image (initial_at (pieces_of states) a.state)).entry
  pub first : (w : World) (more : List Subtree) → StatesStand w states made place numbers a b next core_next more part →
      FirstFits w b.holder to (state_numbers (pieces_of states) a.state)
  pub places_are : (w : World) (more : List Subtree) → StatesStand w states made place numbers a b next core_next more part →
      EachPlace w a.holder (region_at w.core b.holder).states (state_numbers (pieces_of states) a.state) (places (expanded_pieces states) flags place)
      (map (λ s. s.is_final) (expanded_pieces states))
  pub facts : (w : World) (more : List Subtree) → StatesStand w states made place numbers a b next core_next more part → InRegion w a b flags to →
      Fits w a.state (a.state + states_in (pieces_of states)) b.state (b.state + states_in (pieces_of made.states)) numbers.variable
      (numbers.variable + variables_among (weak_around flags) (expanded_pieces states))

pub numbers_append : (xs ys : List Subtree) (n : ℕ) → state_numbers (xs ++ ys) n ≡ state_numbers xs n ++ state_numbers ys (n + states_in xs)
numbers_append [] ys n = subst (λ m. state_numbers ys n ≡ state_numbers ys m) (no_more n) refl
  where
    no_more : (n : ℕ) → n ≡ n + 0
    no_more n = omega arith
numbers_append (x ∷ xs) ys n =
    subst (λ m. n ∷ state_numbers (xs ++ ys) (n + x.states) ≡ n ∷ (state_numbers xs (n + x.states) ++ state_numbers ys m)) (sum n x.states (states_in xs))
    (ap (λ zs. n ∷ zs) (numbers_append xs ys (n + x.states)))
  where
    sum : (a b c : ℕ) → (a + b) + c ≡ a + (b + c)
    sum a b c = omega arith

pub numbers_long : (xs : List Subtree) (n : ℕ) → length (state_numbers xs n) ≡ length xs
numbers_long [] n = refl
numbers_long (x ∷ xs) n = ap suc (numbers_long xs (n + x.states))

pub pieces_long : (states : List State) → length (pieces_of states) ≡ length states
pieces_long [] = refl
pieces_long (s ∷ states) = ap suc (pieces_long states)

not_begins : (x anew : Bool) → x ≡ false → (x && not anew) ≡ false
not_begins true anew e = absurd cc
not_begins false anew e = refl

anew_not : (x anew : Bool) → anew ≡ true → (x && not anew) ≡ false
anew_not true true e = refl
anew_not false true e = refl
anew_not x false e = absurd cc

only_initial : (x anew : Bool) → (x && not anew) ≡ true → x ≡ true
only_initial true anew e = refl
only_initial false anew e = absurd cc

once_both : (b : Bool) (xs ys : List Subtree) → (b ≡ false → NoneInitial xs) → OnceInitial xs → (b ≡ true → NoneInitial ys) → OnceInitial ys →
    OnceInitial (xs ++ ys)
once_both true xs ys none once none_more once_more = once_append xs ys once (none_more refl)
once_both false xs ys none once none_more once_more = none_once xs ys (none refl) once_more

pub region_moved : (w : World) (a b : TablePosition) (flags : List Flags) (to : RegionPlaces) (s r u q : ℕ) → InRegion w a b flags to →
    InRegion w (record a { state = s; region = r }) (record b { state = u; region = q }) flags to
region_moved w a b flags to s r u q h =
    record {
      region = h.region;
      thread = h.thread;
      around_chart = h.around_chart;
      around_core = h.around_core;
      forks = h.forks;
      flags_are = h.flags_are;
      places_are = h.places_are;
    }

abbrev pub StatesWalks : Bool → List State → Type 0
StatesWalks anew states =
    (flags : List Flags) (to : RegionPlaces) (place : ℕ) (numbers : NextNumbers) (a b : TablePosition) (next core_next : ℕ) →
    StatesWalk states anew (expanded_states anew (expanded_pieces states) flags to place numbers) flags to place numbers a b next core_next

walk_none : (anew : Bool) → StatesWalks anew []
walk_none anew flags to place numbers a b next core_next =
    record {
      part = record { states = []; owners = [] };
      core_sized = tt;
      core_many = refl;
      long_states = refl;
      long_owners = refl;
      long_variables = refl;
      wide = refl;
      none = λ h. tt;
      anew_none = λ h. tt;
      one_initial = λ h. tt;
      stands = tt;
      begun = λ e has. absurd has;
      begins_at = λ e has. absurd has;
      first = λ w more stands. tt;
      places_are = λ w more stands. tt;
      facts = λ w more stands region. fits_none w a.state b.state numbers.variable;
    }

-- one state, and those behind it
module _ (anew : Bool) (s : State) (states : List State) (walks : StateWalks s) (rest_walks : StatesWalks anew states) (flags : List Flags) (to : RegionPlaces)
    (place : ℕ) (numbers : NextNumbers) (a b : TablePosition) (next core_next : ℕ) where
  abbrev p : Subtree
  p = table_of_state s

  abbrev x : StatePiece
  x = piece_of_state s

  abbrev begins : Bool
  begins = x.is_initial && not anew

  abbrev one : StatePieces
  one = x.made flags to place begins numbers

  abbrev own_at : TablePosition
  own_at = position_of p.is_initial next a

  own : StateWalk p one (x.variables (weak_around flags)) x.is_final (x.width flags) flags to place begins numbers own_at b core_next
  own = walks.walks flags to place begins numbers own_at b core_next

  abbrev own_part : Part
  own_part = record { states = own.image ∷ own.inner; owners = own.owners }

  abbrev ps : List Subtree
  ps = pieces_of one.states

  abbrev later : NextNumbers
  later = past_state (weak_around flags) x numbers

  abbrev later_place : ℕ
  later_place = place + x.width flags

  abbrev more_states : StatePieces
  more_states = expanded_states anew (expanded_pieces states) flags to later_place later

  abbrev qs : List Subtree
  qs = pieces_of more_states.states

  abbrev rest_at : TablePosition
  rest_at = past_states p.states a

  abbrev rest_core : TablePosition
  rest_core = past_states (states_in ps) b

  rest : StatesWalk states anew more_states flags to later_place later rest_at rest_core (next_behind p next) (next_past ps core_next)
  rest = rest_walks flags to later_place later rest_at rest_core (next_behind p next) (next_past ps core_next)

  abbrev made : StatePieces
  made = beside one more_states

  abbrev part : Part
  part = record { states = own_part.states ++ rest.part.states; owners = own.owners ++ rest.part.owners }

  pieces_are : pieces_of made.states ≡ ps ++ qs
  pieces_are = map-append table_of_state one.states more_states.states

  begins_own : anew ≡ false → p.is_initial ≡ true → FirstInitial ps
  begins_own kept certain = own.begun (rw (walks.counts.initial, certain, kept) refl)

  -- where the first one is not initial, another one is
  later_has : p.is_initial ≡ false → HasInitial (p ∷ pieces_of states) → HasInitial (pieces_of states)
  later_has denied has = ⊎_elim (λ first. let wrong : false ≡ true = sym denied ∙ first in absurd cc) (λ later. later) has

  begins_here : anew ≡ false → HasInitial (p ∷ pieces_of states) → (z : Bool) → p.is_initial ≡ z → HasInitial (ps ++ qs)
  begins_here kept has true certain = has_first ps qs (begins_own kept certain)
  begins_here kept has false denied = has_right ps qs (rest.begun kept (later_has denied has))

  module _ (w : World) (more : List Subtree) (stands : StatesStand w (s ∷ states) made place numbers a b next core_next more part) where
    all_pieces : pieces_of made.states ++ more ≡ ps ++ (qs ++ more)
    all_pieces = ap (λ zs. zs ++ more) pieces_are ∙ append_assoc ps qs more

    core_rows : InRegionAt w.core (ps ++ (qs ++ more)) core_next b
    core_rows = subst (λ zs. InRegionAt w.core zs core_next b) all_pieces stands.core

    once : OnceInitial (ps ++ (qs ++ more))
    once = subst OnceInitial all_pieces stands.once

    once_later : (xs ys : List Subtree) → OnceInitial (xs ++ ys) → OnceInitial ys
    once_later [] ys h = h
    once_later (z ∷ xs) ys h = once_later xs ys h.1

    all_placed : StandAt (region_at w.core b.holder).states place (state_numbers ps b.state ++ state_numbers qs rest_core.state)
    all_placed =
        subst (StandAt (region_at w.core b.holder).states place)
        (ap (λ zs. state_numbers zs b.state) pieces_are ∙ numbers_append ps qs b.state) stands.placed

    first_chart : Holds w.k own_at (p.parts own_at)
    first_chart = first_holds w.k p (pieces_of states) next a stands.chart

    second : StatesStand w states more_states later_place later rest_at rest_core (next_behind p next) (next_past ps core_next) more rest.part
    second =
        record {
          chart = rest_holds w.k p (pieces_of states) next a walks.counts.sized stands.once_chart stands.chart;
          once_chart = stands.once_chart.1;
          core = more_hold w.core ps (qs ++ more) core_next b own.core_sized once core_rows;
          once = once_later ps (qs ++ more) once;
          declared =
              stand_from w.core.variables (numbers.variable + length one.variables) later.variable more_states.variables (omega (arith, own.long_variables))
              (stand_second w.core.variables numbers.variable one.variables more_states.variables stands.declared);
          entries =
              entries_second w numbers a.state b.state one.stands_for more_states.stands_for own_part rest.part later rest_at.state rest_core.state
              (omega (arith, own.long_states)) (omega (arith, own.core_many)) (omega (arith, own.long_owners))
              (omega (arith, stands.entries.numbered, walks.counts.states)) stands.entries;
          placed =
              stand_from (region_at w.core b.holder).states (place + length (state_numbers ps b.state)) later_place (state_numbers qs rest_core.state)
              (omega (arith, numbers_long ps b.state, pieces_long one.states, own.wide))
              (stand_second (region_at w.core b.holder).states place (state_numbers ps b.state) (state_numbers qs rest_core.state) all_placed);
        }

    own_stands : InRegion w a b flags to → StateStands w p one flags to place numbers own_at b core_next (qs ++ more) own_part
    own_stands region =
        record {
          chart = first_chart;
          core = core_rows;
          once = once;
          declared = stand_first w.core.variables numbers.variable one.variables more_states.variables stands.declared;
          entries = entries_first w numbers a.state b.state one.stands_for more_states.stands_for own_part rest.part stands.entries;
          region = region_moved w a b flags to a.state own_at.region b.state b.region region;
          placed = stand_first (region_at w.core b.holder).states place (state_numbers ps b.state) (state_numbers qs rest_core.state) all_placed;
        }

    img : w.image a.state ≡ own.image
    img = stands.entries.images.0

    -- the first core state of it stands at its place
    entry_there : (those : List State) → StandAt (region_at w.core b.holder).states place (state_numbers (pieces_of those) b.state) →
        ((z : State) × ((zs : List State) × (those ≡ z ∷ zs))) → slice_get (region_at w.core b.holder).states place ≡ Some b.state
    entry_there those h some =
        (subst (λ zs. StandAt (region_at w.core b.holder).states place (state_numbers (pieces_of zs) b.state)) some.1.1 h).0

    place_is : slice_get (region_at w.core b.holder).states place ≡ Some (w.image a.state).entry
    place_is =
        entry_there one.states
        (stand_first (region_at w.core b.holder).states place (state_numbers ps b.state) (state_numbers qs rest_core.state) all_placed) own.first ∙
        ap Some (sym own.entry ∙ sym (ap (λ z. z.entry) img))

    begins_where : anew ≡ false → HasInitial (p ∷ pieces_of states) → (z : Bool) → p.is_initial ≡ z →
        initial_at (pieces_of made.states ++ more) b.state ≡ (w.image (initial_at (p ∷ pieces_of states) a.state)).entry
    begins_where kept has true certain =
        rw (certain)
        (ap (λ zs. initial_at zs b.state) all_pieces ∙
        (at_first ps (qs ++ more) b.state (begins_own kept certain) ∙ (sym own.entry ∙ sym (ap (λ z. z.entry) img))))
    begins_where kept has false denied =
        rw (denied)
        (ap (λ zs. initial_at zs b.state) all_pieces ∙
        (at_later ps (qs ++ more) b.state (own.not_initial (not_begins x.is_initial anew (walks.counts.initial ∙ denied))) ∙
        rest.begins_at kept (later_has denied has) w more second))

    all_facts : InRegion w a b flags to → Fits w a.state (a.state + states_in (p ∷ pieces_of states)) b.state (b.state + states_in (pieces_of made.states))
        numbers.variable (numbers.variable + variables_among (weak_around flags) (expanded_pieces (s ∷ states)))
    all_facts region =
        fits_to w a.state (rest_at.state + states_in (pieces_of states)) (a.state + states_in (p ∷ pieces_of states)) b.state
        (rest_core.state + states_in qs) (b.state + states_in (pieces_of made.states)) numbers.variable
        (later.variable + variables_among (weak_around flags) (expanded_pieces states))
        (numbers.variable + variables_among (weak_around flags) (expanded_pieces (s ∷ states)))
        (omega arith) (omega (arith, ap states_in pieces_are, states_append ps qs)) (omega arith)
        (fits_both w a.state rest_at.state (rest_at.state + states_in (pieces_of states)) b.state rest_core.state (rest_core.state + states_in qs)
        numbers.variable later.variable (later.variable + variables_among (weak_around flags) (expanded_pieces states))
        (own.facts w (qs ++ more) (own_stands region))
        (rest.facts w more second (region_moved w a b flags to rest_at.state a.region rest_core.state b.region region)))

  walk_more : StatesWalk (s ∷ states) anew made flags to place numbers a b next core_next
  walk_more =
      record {
        part = part;
        core_sized = subst AllSized (sym pieces_are) (sized_append ps qs own.core_sized rest.core_sized);
        core_many =
            ap states_in pieces_are ∙
            omega (arith, states_append ps qs, own.core_many, rest.core_many, length-append one.stands_for more_states.stands_for);
        long_states = omega (arith, length-append own_part.states rest.part.states, own.long_states, rest.long_states);
        long_owners = omega (arith, length-append own.owners rest.part.owners, own.long_owners, rest.long_owners);
        long_variables = omega (arith, length-append one.variables more_states.variables, own.long_variables, rest.long_variables);
        wide = omega (arith, length-append one.states more_states.states, own.wide, rest.wide);
        none = λ h. subst NoneInitial (sym pieces_are)
            (none_append ps qs (own.not_initial (not_begins x.is_initial anew (walks.counts.initial ∙ h.0))) (rest.none h.1));
        anew_none = λ certain. subst NoneInitial (sym pieces_are) (none_append ps qs (own.not_initial (anew_not x.is_initial anew certain))
            (rest.anew_none certain));
        one_initial = λ h. subst OnceInitial (sym pieces_are)
            (once_both begins ps qs own.not_initial own.one_initial
            (λ certain. rest.none (h.0 (sym walks.counts.initial ∙ only_initial x.is_initial anew certain))) (rest.one_initial h.1));
        stands = (own.stands.0 ++ more_states.stands_for, ap (λ zs. zs ++ more_states.stands_for) own.stands.1);
        begun = λ kept has. subst HasInitial (sym pieces_are) (begins_here kept has p.is_initial refl);
        begins_at = λ kept has w more stands. begins_where w more stands kept has p.is_initial refl;
        first = λ w more stands. (
          ap (λ z. holder w.core z.main) (img w more stands) ∙ own.held_core w (qs ++ more) (core_rows w more stands) (once w more stands),
          ap (λ z. z.places) (img w more stands) ∙ own.placed,
        );
        places_are = λ w more stands. (
          (place_is w more stands, own.final_is w (first_chart w more stands), own.held_chart w (first_chart w more stands)),
          rest.places_are w more (second w more stands),
        );
        facts = λ w more stands region. all_facts w more stands region;
      }

pub walk_states : (anew : Bool) (states : List State) → Each StateWalks states → StatesWalks anew states
walk_states anew [] walks = walk_none anew
walk_states anew (s ∷ states) walks =
    λ flags to place numbers a b next core_next.
    walk_more anew s states walks.0 (walk_states anew states walks.1) flags to place numbers a b next core_next
