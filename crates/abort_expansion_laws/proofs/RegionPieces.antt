-- What a region becomes: what its states become, between a new initial state where it needs one and the state that is left behind.
use Rattle.std.proofs.Common.{◌≡◌, ℕ, suc, ◌+◌, Bool}
use Rattle.std.proofs.Common.{Option, List, [], ◌∷◌, ◌++◌, map, length}
use Rattle.std.proofs.Common.{sym, ap, subst, ◌∙◌, arith}
use Rattle.std.proofs.lemmas.List.{length-append, map-append}
use Rattle.sc_text.proofs.EachItem.{Each}
use Rattle.core_charts.specs.declared.region.Region.{Region}
use Rattle.core_charts.specs.declared.region.Region.TheOpen.{Region-F}
use Rattle.core_charts.specs.declared.region.Region.TheViews.{roll-Region}
use Rattle.core_charts.specs.declared.region.Region.TheFolds.{fold-roll-Region}
use Rattle.core_charts.specs.declared.region.State.{State}
use Rattle.chart_machine.specs.declared.table.TablePosition.{TablePosition}
use Rattle.chart_machine.specs.Table.{Subtree, states_in}
use Rattle.chart_machine.specs.Table.{state_numbers, past_states, inside_region}
use Rattle.chart_machine.specs.Table.{regions_in_initial, subtree_of_state as table_of_state, subtree_of_region as table_of_region}
use Rattle.chart_machine.specs.Table.{region_subtree as table_region_piece, state_subtree as table_state_piece}
use Rattle.chart_machine_laws.proofs.RowsOfSubtrees.{AllSized}
use Rattle.chart_machine_laws.proofs.TableTrees.{OnceInitial}
use Rattle.abort_expansion.specs.declared.flags.Flags.{Flags}
use Rattle.abort_expansion.specs.declared.places.RegionPlaces.{RegionPlaces}
use Rattle.abort_expansion.specs.declared.pieces.StatePieces.{StatePieces}
use Rattle.abort_expansion.specs.declared.pieces.Regions.{Regions}
use Rattle.abort_expansion.specs.declared.pieces.NextNumbers.{NextNumbers}
use Rattle.abort_expansion.specs.Flags.{weak_around, aborts_around, one}
use Rattle.abort_expansion.specs.Pieces.{StatePiece}
use Rattle.abort_expansion.specs.Expansion.{expanded_states}
use Rattle.abort_expansion.specs.Expansion.{variables_among, begins_anew, initial_place, initial_number}
use Rattle.abort_expansion.specs.Expansion.{new_initial, left_behind, region_places, region_over, named}
use Rattle.abort_expansion_laws.proofs.InRegionRows.{next_past, none_append, once_append}
use Rattle.abort_expansion_laws.proofs.SideRows.{states_append, sized_append}
use Rattle.abort_expansion_laws.proofs.Walks.{StateWalks, pieces_of}
use Rattle.abort_expansion_laws.proofs.WalkStates.{expanded_pieces, StatesWalk, walk_states}
use Rattle.abort_expansion_laws.proofs.RegionEnds.{new_sized, new_many, new_variables, new_once, left_sized}
use Rattle.abort_expansion_laws.proofs.InitialStates.{HasInitial}
use Rattle.abort_expansion_laws.proofs.RegionEnds.{left_many, left_variables, left_none}

pub sized_states : (states : List State) → Each StateWalks states → AllSized (pieces_of states)
sized_states [] walks = tt
sized_states (s ∷ states) walks = (walks.0.counts.sized, sized_states states walks.1)

-- a region with a state where the walk comes to it, in the chart and in the core chart
pub record RegionAt : Type 0 where
  pub name : List ℕ
  pub state : State
  pub others : List State
  pub walks : Each StateWalks (state ∷ others)
  pub once_chart : OnceInitial (pieces_of (state ∷ others))
  pub has_chart : HasInitial (pieces_of (state ∷ others))
  pub flags : List Flags
  pub counter : Option ℕ
  pub numbers : NextNumbers
  pub chart_at : TablePosition
  pub core_at : TablePosition

module _ (r : RegionAt) where
  open r use {name, state as s, others, walks, once_chart, flags, counter, numbers, chart_at as a, core_at as b}

  abbrev pub states : List State
  states = s ∷ others

  abbrev pub chart_pieces : List Subtree
  chart_pieces = pieces_of states

  abbrev pub expanded : List StatePiece
  expanded = expanded_pieces states

  abbrev pub anew : Bool
  anew = begins_anew counter expanded

  abbrev pub begin : ℕ
  begin = one anew

  abbrev pub positions : RegionPlaces
  positions = region_places expanded flags counter begin

  abbrev pub target : ℕ
  target = initial_place expanded flags begin

  abbrev pub number : ℕ
  number = initial_number expanded numbers.state

  abbrev pub news : StatePieces
  news = new_initial anew counter target number

  abbrev pub text : StatePieces
  text = expanded_states anew expanded flags positions begin numbers

  abbrev pub lefts : StatePieces
  lefts = left_behind (aborts_around flags)

  abbrev pub all_states : List State
  all_states = news.states ++ (text.states ++ lefts.states)

  abbrev pub new_pieces : List Subtree
  new_pieces = pieces_of news.states

  abbrev pub text_pieces : List Subtree
  text_pieces = pieces_of text.states

  abbrev pub left_pieces : List Subtree
  left_pieces = pieces_of lefts.states

  abbrev pub later_pieces : List Subtree
  later_pieces = text_pieces ++ left_pieces

  abbrev pub split_pieces : List Subtree
  split_pieces = new_pieces ++ later_pieces

  pub pieces_are : pieces_of all_states ≡ split_pieces
  pieces_are = map-append table_of_state news.states (text.states ++ lefts.states) ∙
      ap (λ zs. new_pieces ++ zs) (map-append table_of_state text.states lefts.states)

  abbrev pub core_layer : Region-F Subtree Subtree
  core_layer = record { name = name; states = pieces_of all_states }

  abbrev pub chart_piece : Subtree
  chart_piece = table_region_piece (record { name = name; states = chart_pieces })

  abbrev pub core_region : Region
  core_region = roll-Region (record { name = name; states = all_states })

  pub core_piece : table_of_region core_region ≡ table_region_piece core_layer
  core_piece = fold-roll-Region Subtree Subtree table_region_piece table_state_piece (record { name = name; states = all_states })

  abbrev pub text_at : TablePosition
  text_at = past_states (states_in new_pieces) (inside_region b)

  abbrev pub chart_next : ℕ
  chart_next = suc a.region + regions_in_initial chart_pieces

  abbrev pub region_next : ℕ
  region_next = suc b.region + regions_in_initial (pieces_of all_states)

  abbrev pub core_next : ℕ
  core_next = next_past new_pieces region_next

  pub middle : StatesWalk states anew text flags positions begin numbers (inside_region a) text_at chart_next core_next
  middle = walk_states anew states walks flags positions begin numbers (inside_region a) text_at chart_next core_next

  abbrev pub chart_numbers : List ℕ
  chart_numbers = state_numbers chart_pieces a.state

  abbrev pub new_numbers : List ℕ
  new_numbers = state_numbers new_pieces b.state

  abbrev pub text_numbers : List ℕ
  text_numbers = state_numbers text_pieces text_at.state

  abbrev pub left_at : TablePosition
  left_at = past_states (states_in text_pieces) text_at

  abbrev pub left_numbers : List ℕ
  left_numbers = state_numbers left_pieces left_at.state

  abbrev pub left_next : ℕ
  left_next = next_past text_pieces core_next

  abbrev pub finals : List Bool
  finals = map (λ s. s.is_final) expanded

  sized : AllSized split_pieces
  sized = sized_append new_pieces later_pieces (new_sized counter target number anew)
      (sized_append text_pieces left_pieces middle.core_sized (left_sized (aborts_around flags)))

  pub all_sized : AllSized (pieces_of all_states)
  all_sized = subst AllSized (sym pieces_are) sized

  pub once : OnceInitial split_pieces
  once =
      new_once counter target number anew later_pieces
      (λ certain. none_append text_pieces left_pieces (middle.anew_none certain) (left_none (aborts_around flags)))
      (once_append text_pieces left_pieces (middle.one_initial once_chart) (left_none (aborts_around flags)))

  abbrev pub made : Regions
  made = named name (region_over anew expanded flags counter begin numbers)

  pub many_all : states_in (pieces_of all_states) ≡ length made.stands_for
  many_all =
      ap states_in pieces_are ∙
      omega (
        arith,
        states_append new_pieces later_pieces,
        states_append text_pieces left_pieces,
        new_many counter target number anew,
        middle.core_many,
        left_many (aborts_around flags),
        length-append news.stands_for (text.stands_for ++ lefts.stands_for),
        length-append text.stands_for lefts.stands_for,
      )

  pub long_all : length made.variables ≡ variables_among (weak_around flags) expanded
  long_all =
      omega (
        arith,
        length-append news.variables (text.variables ++ lefts.variables),
        length-append text.variables lefts.variables,
        new_variables counter target number anew,
        middle.long_variables,
        left_variables (aborts_around flags),
      )

  pub region_states : (table_of_region core_region).states ≡ states_in (pieces_of all_states)
  region_states = ap (λ p. p.states) core_piece
