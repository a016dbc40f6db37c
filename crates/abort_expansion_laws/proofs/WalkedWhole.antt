-- A whole chart walked over: what stands for each of its states, and what holds of each state, each core state and each flag.
use Rattle.std.proofs.Common.{◌≡◌, ℕ, suc, ◌+◌, ◌<◌, ◌≤◌, ◌⊎◌, Bool, Option, None, List, [], ◌∷◌, ◌++◌, map, length, slice_get, unwrap_or, refl}
use Rattle.std.proofs.Common.{ap, ◌∙◌, arith}
use Rattle.std.proofs.lemmas.List.{length-map}
use Rattle.sc_graph.specs.declared.program.Variable.{Variable}
use Rattle.sc_text.proofs.EachItem.{Each}
use Rattle.core_charts.specs.declared.features.Features.TheVariants as features
use Rattle.core_charts.specs.Chart.{Chart}
use Rattle.core_charts.specs.Rules.{IsChart, depth_limit}
use Rattle.chart_machine.specs.Table.{table, whole, side_by_side, states_in, region_numbers, subtree_of_region as table_of_region}
use Rattle.chart_machine_laws.proofs.ChartTables.{holds_whole}
use Rattle.chart_machine_laws.proofs.RowsOfSubtrees.{side_states}
use Rattle.scl_graph_laws.proofs.Segments.{StandAt, stand_from, stand_all, stand_second}
use Rattle.abort_expansion.specs.Flags.{weak_around}
use Rattle.abort_expansion.specs.Pieces.{variables_in}
use Rattle.abort_expansion.specs.Expansion.{expanded, expansion, state_map, piece_of_region, whole as first_numbers}
use Rattle.abort_expansion.specs.StateMap.{chart_state}
use Rattle.abort_expansion_laws.proofs.Walked.{World, StateImage, no_flags, nowhere, ValuesAt, images_of}
use Rattle.abort_expansion_laws.proofs.EnteredAlike.{AreEntered}
use Rattle.abort_expansion_laws.proofs.Walks.{Fits, RegionsStand, RegionsWalk, RegionWalks}
use Rattle.abort_expansion_laws.proofs.WalkSide.{walk_side, sized_side}
use Rattle.abort_expansion_laws.proofs.ChartWalk.{regions_walk}

-- what stands at a number of a list, and behind its end
values_of : {X : Type 0} (all : List X) (d : ℕ → X) (n : ℕ) (xs : List X) → StandAt all n xs → ValuesAt (λ k. unwrap_or (slice_get all k) (d k)) n xs
values_of all d n [] h = tt
values_of all d n (x ∷ xs) h = (ap (λ o. unwrap_or o (d n)) h.0, values_of all d (suc n) xs h.1)

module _ (c : Chart) (rules : IsChart features.Extended c) where
  walks : Each RegionWalks c.regions
  walks = regions_walk features.Extended c.variables depth_limit c.regions rules.regions

  pub top : RegionsWalk (side_by_side (map table_of_region c.regions) whole) (states_in (map table_of_region c.regions))
      (region_numbers (map table_of_region c.regions) 1) (expansion c) (variables_in (weak_around []) (map piece_of_region c.regions)) [] None
      (first_numbers (length c.variables)) whole whole
  top = walk_side c.regions walks [] None (first_numbers (length c.variables)) whole whole

  -- behind the last core state
  abbrev beyond : ℕ → StateImage
  beyond s =
      let n : ℕ = length (table (expanded c)).states + s in
      record {
        main = n;
        entry = n;
        behind = n;
        flags = no_flags;
        watcher = 0;
        watching = n;
        watched = n;
        places = nowhere;
        stays_on = Rattle.std.proofs.Common.false;
      }

  -- of what is no flag: a number without a state
  abbrev far : ℕ
  far = length (table c).states

  abbrev owners : List ℕ
  owners = map (λ v. far) c.variables ++ top.part.owners

  abbrev pub world : World
  world = record {
    k = table c;
    core = table (expanded c);
    m = chart_state (state_map c);
    image = λ s. unwrap_or (slice_get top.part.states s) (beyond s);
    of_flag = λ x. unwrap_or (slice_get owners x) far;
  }

  stands : RegionsStand world (side_by_side (map table_of_region c.regions) whole) (expansion c) [] None (first_numbers
      (length c.variables)) whole whole top.part
  stands =
      record {
        chart_rows = holds_whole c.variables c.regions;
        core = holds_whole (expanded c).variables (expanded c).regions;
        declared =
            stand_from (c.variables ++ (expansion c).variables) (0 + length c.variables) (length c.variables) (expansion c).variables (omega arith)
            (stand_second (c.variables ++ (expansion c).variables) 0 c.variables (expansion c).variables (stand_all (c.variables ++ (expansion c).variables)));
        entries =
            record {
              mapped = values_of (state_map c) (λ n. None) 0 (state_map c) (stand_all (state_map c));
              images = values_of top.part.states beyond 0 top.part.states (stand_all top.part.states);
              owned =
                  values_of owners (λ n. far) (length c.variables) top.part.owners
                  (stand_from owners (0 + length (map (λ v. far) c.variables)) (length c.variables) top.part.owners
                  (omega (arith, length-map c.variables (λ v. far)))
                  (stand_second owners 0 (map (λ v. far) c.variables) top.part.owners (stand_all owners)));
              low = omega arith;
              numbered = refl;
            };
        forks = refl;
        flags_are = refl;
        counter_is = refl;
      }

  pub facts : Fits world 0 (0 + states_in (map table_of_region c.regions)) 0 (0 + states_in (map table_of_region (expansion c).regions)) (length c.variables)
      (length c.variables + variables_in (weak_around []) (map piece_of_region c.regions))
  facts = top.facts world stands

  -- the first tick enters the regions of the chart, and those of its core chart
  pub entered : AreEntered (table c) (table (expanded c)) (images_of world) (region_numbers (map table_of_region c.regions) 1) (table c).opened
      (table (expanded c)).opened
  entered = top.entered world stands

  -- so many states and variables there are
  pub chart_size : length (table c).states ≡ states_in (map table_of_region c.regions)
  chart_size = side_states (map table_of_region c.regions) whole (sized_side c.regions walks)

  pub core_size : length (table (expanded c)).states ≡ states_in (map table_of_region (expansion c).regions)
  core_size = side_states (map table_of_region (expansion c).regions) whole top.core_sized

  pub image_past : (s : ℕ) → length (table c).states ≤ s → world.image s ≡ beyond s
  image_past s past =
      ap (λ o. unwrap_or o (beyond s))
      (Rattle.std.proofs.lemmas.Option.slice_get_past top.part.states s (omega (past, top.long_states, chart_size, arith)))

  -- a variable that is no flag
  pub owner_else : (x : ℕ) → ((length c.variables ≤ x) × (x < length c.variables + variables_in (weak_around []) (map piece_of_region c.regions)))
      ⊎ (world.of_flag x ≡ far)
  owner_else x = by_size (before_or_not x (length c.variables)) (before_or_not x (length owners))
    where
      before_or_not : (n m : ℕ) → (n < m) ⊎ (m ≤ n)
      before_or_not n m = grind arith

      all_far : (vs : List Variable) (more : List ℕ) (n : ℕ) → n < length vs → unwrap_or (slice_get (map (λ v. far) vs ++ more) n) far ≡ far
      all_far [] more n lt = absurd (omega (lt, arith))
      all_far (v ∷ vs) more Rattle.std.proofs.Common.zero lt = refl
      all_far (v ∷ vs) more (suc n) lt = all_far vs more n (omega (lt, arith))

      long : length owners ≡ length c.variables + variables_in (weak_around []) (map piece_of_region c.regions)
      long =
          omega (
            arith,
            Rattle.std.proofs.lemmas.List.length-append (map (λ v. far) c.variables) top.part.owners,
            length-map c.variables (λ v. far),
            top.long_owners,
          )

      by_size : ((x < length c.variables) ⊎ (length c.variables ≤ x)) → ((x < length owners) ⊎ (length owners ≤ x)) →
          ((length c.variables ≤ x) × (x < length c.variables + variables_in (weak_around []) (map piece_of_region c.regions)))
          ⊎ (world.of_flag x ≡ far)
      by_size (Rattle.std.proofs.Common.inl lt) other = Rattle.std.proofs.Common.inr (all_far c.variables top.part.owners x lt)
      by_size (Rattle.std.proofs.Common.inr le) (Rattle.std.proofs.Common.inl lt) = Rattle.std.proofs.Common.inl (le, omega (lt, long, arith))
      by_size (Rattle.std.proofs.Common.inr le) (Rattle.std.proofs.Common.inr past) =
          Rattle.std.proofs.Common.inr (ap (λ o. unwrap_or o far) (Rattle.std.proofs.lemmas.Option.slice_get_past owners x past))
