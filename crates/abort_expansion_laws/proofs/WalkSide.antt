-- The regions of one superstate, or of the chart, walked over one after the other.
use Rattle.std.proofs.Common.{◌≡◌, ℕ, ◌+◌, Option, List, [], ◌∷◌, ◌++◌, map, length, refl, sym, ap, subst, ◌∙◌, arith}
use Rattle.std.proofs.lemmas.List.{length-append, map-append}
use Rattle.sc_text.proofs.EachItem.{Each}
use Rattle.core_charts.specs.declared.region.Region.{Region}
use Rattle.chart_machine.specs.declared.table.TablePosition.{TablePosition}
use Rattle.chart_machine.specs.Table.{Subtree, states_in, regions_in, behind, side_by_side, region_numbers, subtree_of_region as table_of_region}
use Rattle.chart_machine_laws.proofs.RowsOfSubtrees.{Holds, AllSized}
use Rattle.scl_graph_laws.proofs.Segments.{stand_from, stand_first, stand_second}
use Rattle.abort_expansion.specs.declared.flags.Flags.{Flags}
use Rattle.abort_expansion.specs.declared.pieces.Regions.{Regions}
use Rattle.abort_expansion.specs.declared.pieces.NextNumbers.{NextNumbers}
use Rattle.abort_expansion.specs.Flags.{weak_around}
use Rattle.abort_expansion.specs.Pieces.{expanded_regions, variables_in, past_region}
use Rattle.abort_expansion.specs.Pieces.{states_in as expanded_states_in}
use Rattle.abort_expansion.specs.Expansion.{piece_of_region}
use Rattle.abort_expansion_laws.proofs.SideRows.{past_side, side_head, side_tail, side_first, side_second, states_append, sized_append, numbers_append}
use Rattle.abort_expansion_laws.proofs.SideRows.{side_entered}
use Rattle.abort_expansion_laws.proofs.EnteredAlike.{AreEntered, entered_both}
use Rattle.abort_expansion_laws.proofs.Walked.{World, values_from, values_first, values_second, range_none, range_both, range_to}
use Rattle.abort_expansion_laws.proofs.Walked.{StateFits, CoreStateFits, OwnerFits, i}
use Rattle.abort_expansion_laws.proofs.Walks.{Part, Fits, Entries, RegionsStand, RegionsWalk, RegionWalks, SideWalks}

-- ---- facts of two parts, one behind the other

pub fits_none : (w : World) (a b x : ℕ) → Fits w a (a + 0) b (b + 0) x (x + 0)
fits_none w a b x =
    record {
      states = range_none (StateFits w) a (a + 0) (omega arith);
      core_states = range_none (CoreStateFits w) b (b + 0) (omega arith);
      owners = range_none (OwnerFits w) x (x + 0) (omega arith);
    }

pub fits_both : (w : World) (a n o b m l x v z : ℕ) → Fits w a n b m x v → Fits w n o m l v z → Fits w a o b l x z
fits_both w a n o b m l x v z first second =
    record {
      states = range_both (StateFits w) a n o first.states second.states;
      core_states = range_both (CoreStateFits w) b m l first.core_states second.core_states;
      owners = range_both (OwnerFits w) x v z first.owners second.owners;
    }

pub fits_to : (w : World) (a n o b m l x v z : ℕ) → n ≡ o → m ≡ l → v ≡ z → Fits w a n b m x v → Fits w a o b l x z
fits_to w a n o b m l x v z e f g h =
    record {
      states = range_to (StateFits w) a n o e h.states;
      core_states = range_to (CoreStateFits w) b m l f h.core_states;
      owners = range_to (OwnerFits w) x v z g h.owners;
    }

-- ---- what stands somewhere, in two parts

module _ (w : World) (numbers : NextNumbers) (a b : ℕ) (xs ys : List (Option ℕ)) (first second : Part) where
  abbrev pub both_parts : Part
  both_parts = record { states = first.states ++ second.states; owners = first.owners ++ second.owners }

  pub entries_first : Entries w numbers a b (xs ++ ys) both_parts → Entries w numbers a b xs first
  entries_first h =
      record {
        mapped = values_first w.m b xs ys h.mapped;
        images = values_first w.image a first.states second.states h.images;
        owned = values_first w.of_flag numbers.variable first.owners second.owners h.owned;
        low = h.low;
        numbered = h.numbered;
      }

  pub entries_second : (next : NextNumbers) (c d : ℕ) → a + length first.states ≡ c → b + length xs ≡ d →
      numbers.variable + length first.owners ≡ next.variable →
      next.state ≡ c → Entries w numbers a b (xs ++ ys) both_parts → Entries w next c d ys second
  entries_second next c d e f g numbered h =
      record {
        mapped = values_from w.m (b + length xs) d ys f (values_second w.m b xs ys h.mapped);
        images = values_from w.image (a + length first.states) c second.states e (values_second w.image a first.states second.states h.images);
        owned = values_from w.of_flag (numbers.variable + length first.owners) next.variable second.owners g
            (values_second w.of_flag numbers.variable first.owners second.owners h.owned);
        low = omega (h.low, g, arith);
        numbered = numbered;
      }

-- ---- regions side by side

pub counts_side : (regions : List Region) → Each RegionWalks regions →
    expanded_states_in (map piece_of_region regions) ≡ states_in (map table_of_region regions)
counts_side [] walks = refl
counts_side (r ∷ regions) walks = omega (arith, walks.0.states, counts_side regions walks.1)

pub sized_side : (regions : List Region) → Each RegionWalks regions → AllSized (map table_of_region regions)
sized_side [] walks = tt
sized_side (r ∷ regions) walks = (walks.0.sized, sized_side regions walks.1)

side_none : SideWalks []
side_none flags counter numbers a b =
    record {
      part = record { states = []; owners = [] };
      core_sized = tt;
      core_many = refl;
      long_states = refl;
      long_owners = refl;
      long_variables = refl;
      threads = λ w stands. refl;
      entered = λ w stands. (refl, refl);
      facts = λ w stands. fits_none w a.state b.state numbers.variable;
    }

module _ (r : Region) (regions : List Region) (walks : RegionWalks r) (rest_walks : SideWalks regions) (flags : List Flags) (counter : Option ℕ)
    (numbers : NextNumbers) (a b : TablePosition) where
  abbrev p : Subtree
  p = table_of_region r

  abbrev one : Regions
  one = (piece_of_region r).made flags counter numbers

  abbrev ps : List Subtree
  ps = map table_of_region one.regions

  abbrev next : NextNumbers
  next = past_region (weak_around flags) (piece_of_region r) numbers

  abbrev more : Regions
  more = expanded_regions (map piece_of_region regions) flags counter next

  abbrev qs : List Subtree
  qs = map table_of_region more.regions

  own : RegionsWalk (p.parts a) p.states (a.region ∷ []) one ((piece_of_region r).variables (weak_around flags)) flags counter numbers a b
  own = walks.walks flags counter numbers a b

  rest : RegionsWalk (side_by_side (map table_of_region regions) (behind p a)) (states_in (map table_of_region regions))
      (region_numbers (map table_of_region regions) (a.region + p.regions)) more (variables_in (weak_around flags) (map piece_of_region regions)) flags
      counter next (behind p a) (past_side ps b)
  rest = rest_walks flags counter next (behind p a) (past_side ps b)

  module _ (w : World) (stands : RegionsStand w (side_by_side (p ∷ map table_of_region regions) a)
      (expanded_regions (map piece_of_region (r ∷ regions)) flags counter numbers) flags counter numbers a b
      (record { states = own.part.states ++ rest.part.states; owners = own.part.owners ++ rest.part.owners })) where
    core_rows : Holds w.core b (side_by_side (ps ++ qs) b)
    core_rows = subst (λ zs. Holds w.core b (side_by_side zs b)) (map-append table_of_region one.regions more.regions) stands.core

    first : RegionsStand w (p.parts a) one flags counter numbers a b own.part
    first =
        record {
          chart_rows = side_head w.k p (map table_of_region regions) a stands.chart_rows;
          core = side_first w.core ps qs b own.core_sized core_rows;
          declared = stand_first w.core.variables numbers.variable one.variables more.variables stands.declared;
          entries = entries_first w numbers a.state b.state one.stands_for more.stands_for own.part rest.part stands.entries;
          forks = stands.forks;
          flags_are = stands.flags_are;
          counter_is = stands.counter_is;
        }

    second : RegionsStand w (side_by_side (map table_of_region regions) (behind p a)) more flags counter next (behind p a) (past_side ps b) rest.part
    second =
        record {
          chart_rows = side_tail w.k p (map table_of_region regions) a walks.sized stands.chart_rows;
          core = side_second w.core ps qs b own.core_sized core_rows;
          declared =
              stand_from w.core.variables (numbers.variable + length one.variables) next.variable more.variables (omega (arith, own.long_variables))
              (stand_second w.core.variables numbers.variable one.variables more.variables stands.declared);
          entries =
              entries_second w numbers a.state b.state one.stands_for more.stands_for own.part rest.part next (a.state + p.states)
              (b.state + states_in ps) (omega (arith, own.long_states)) (omega (arith, own.core_many)) (omega (arith, own.long_owners))
              (omega (arith, stands.entries.numbered, walks.states)) stands.entries;
          forks = stands.forks;
          flags_are = stands.flags_are;
          counter_is = stands.counter_is;
        }

    all_threads : map (i w).thread_of (region_numbers (p ∷ map table_of_region regions) a.region) ≡
        region_numbers (map table_of_region (one.regions ++ more.regions)) b.region
    all_threads =
        ap (λ zs. (i w).thread_of a.region ∷ zs) (rest.threads w second) ∙
        (ap (λ zs. zs ++ region_numbers qs (b.region + regions_in ps)) (own.threads w first) ∙
        (sym (numbers_append ps qs b.region) ∙ ap (λ zs. region_numbers zs b.region) (sym (map-append table_of_region one.regions more.regions))))

    all_entered : AreEntered w.k w.core (i w) (region_numbers (p ∷ map table_of_region regions) a.region)
        (side_by_side (p ∷ map table_of_region regions) a).entered (side_by_side (map table_of_region (one.regions ++ more.regions)) b).entered
    all_entered =
        subst
        (AreEntered w.k w.core (i w) (region_numbers (p ∷ map table_of_region regions) a.region) (side_by_side (p ∷ map table_of_region regions) a).entered)
        (sym (ap (λ zs. (side_by_side zs b).entered) (map-append table_of_region one.regions more.regions) ∙ side_entered ps qs b))
        (entered_both w.k w.core (i w) (a.region ∷ []) (region_numbers (map table_of_region regions) (a.region + p.regions)) (p.parts a).entered
        (side_by_side ps b).entered (side_by_side (map table_of_region regions) (behind p a)).entered (side_by_side qs (past_side ps b)).entered
        (own.entered w first) (rest.entered w second))

    all_facts : Fits w a.state (a.state + states_in (p ∷ map table_of_region regions)) b.state
        (b.state + states_in (map table_of_region (one.regions ++ more.regions))) numbers.variable
        (numbers.variable + variables_in (weak_around flags) (map piece_of_region (r ∷ regions)))
    all_facts =
        fits_to w a.state ((a.state + p.states) + states_in (map table_of_region regions)) (a.state + states_in (p ∷ map table_of_region regions)) b.state
        ((b.state + states_in ps) + states_in qs) (b.state + states_in (map table_of_region (one.regions ++ more.regions))) numbers.variable
        (next.variable + variables_in (weak_around flags) (map piece_of_region regions))
        (numbers.variable + variables_in (weak_around flags) (map piece_of_region (r ∷ regions)))
        (omega arith) (omega (arith, states_append ps qs, ap states_in (map-append table_of_region one.regions more.regions))) (omega arith)
        (fits_both w a.state (a.state + p.states) ((a.state + p.states) + states_in (map table_of_region regions)) b.state (b.state + states_in ps)
        ((b.state + states_in ps) + states_in qs) numbers.variable next.variable
        (next.variable + variables_in (weak_around flags) (map piece_of_region regions)) (own.facts w first) (rest.facts w second))

  side_more : RegionsWalk (side_by_side (p ∷ map table_of_region regions) a) (states_in (p ∷ map table_of_region regions))
      (region_numbers (p ∷ map table_of_region regions) a.region) (expanded_regions (map piece_of_region (r ∷ regions)) flags counter numbers)
      (variables_in (weak_around flags) (map piece_of_region (r ∷ regions))) flags counter numbers a b
  side_more =
      record {
        part = record { states = own.part.states ++ rest.part.states; owners = own.part.owners ++ rest.part.owners };
        core_sized = subst AllSized (sym (map-append table_of_region one.regions more.regions)) (sized_append ps qs own.core_sized rest.core_sized);
        core_many =
            ap states_in (map-append table_of_region one.regions more.regions) ∙
            omega (arith, states_append ps qs, own.core_many, rest.core_many, length-append one.stands_for more.stands_for);
        long_states = omega (arith, length-append own.part.states rest.part.states, own.long_states, rest.long_states);
        long_owners = omega (arith, length-append own.part.owners rest.part.owners, own.long_owners, rest.long_owners);
        long_variables = omega (arith, length-append one.variables more.variables, own.long_variables, rest.long_variables);
        threads = λ w stands. all_threads w stands;
        entered = λ w stands. all_entered w stands;
        facts = λ w stands. all_facts w stands;
      }

pub walk_side : (regions : List Region) → Each RegionWalks regions → SideWalks regions
walk_side [] walks = side_none
walk_side (r ∷ regions) walks =
    λ flags counter numbers a b. side_more r regions walks.0 (walk_side regions walks.1) flags counter numbers a b
