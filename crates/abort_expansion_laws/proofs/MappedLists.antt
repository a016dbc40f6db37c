-- Lists of core states or regions, and what stands for them in the map of states.
use Rattle.std.proofs.Common.{◌≡◌, ℕ, suc, ◌+◌, Option, List, [], ◌∷◌, ◌++◌, map, length, refl, sym, ap, subst, ◌∙◌, arith}
use Rattle.std.proofs.lemmas.List.{length-append, append_assoc, append-nil}
use Rattle.core_charts.specs.declared.region.Region.{Region}
use Rattle.core_charts.specs.declared.region.Region.TheOpen.{State-F}
use Rattle.core_charts.specs.declared.region.Region.TheViews.{roll-Region, roll-State}
use Rattle.core_charts.specs.declared.region.Region.TheFolds.{fold-roll-Region, fold-roll-State}
use Rattle.core_charts.specs.declared.region.State.{State}
use Rattle.chart_machine.specs.Table.{Subtree, region_subtree, state_subtree, subtree_of_region, subtree_of_state, states_in}
use Rattle.chart_machine_laws.proofs.RowsOfSubtrees.{IsSized, AllSized, state_sized, region_sized}
use Rattle.abort_expansion_laws.specs.StateNames.{StateOfText, all_in, is_some, told_of_region, told_of_state, states_of_region, states_of_state, StandsFor}

module _ {A : Type 0} (told : A → List StateOfText) where
  pub told_append : (xs ys : List A) → all_in (map told (xs ++ ys)) ≡ all_in (map told xs) ++ all_in (map told ys)
  told_append [] ys = refl
  told_append (x ∷ xs) ys = ap (λ those. told x ++ those) (told_append xs ys) ∙ sym (append_assoc (told x) (all_in (map told xs)) (all_in (map told ys)))

module _ {A : Type 0} (piece : A → Subtree) where
  pub sized_append : (xs ys : List A) → AllSized (map piece xs) → AllSized (map piece ys) → AllSized (map piece (xs ++ ys))
  sized_append [] ys h k = k
  sized_append (x ∷ xs) ys h k = (h.0, sized_append xs ys h.1 k)

  pub many_append : (xs ys : List A) → states_in (map piece (xs ++ ys)) ≡ states_in (map piece xs) + states_in (map piece ys)
  many_append [] ys = omega arith
  many_append (x ∷ xs) ys = omega (arith, many_append xs ys)

module _ (those : List StateOfText) where
  abbrev pub EachStandsFor : List StateOfText → List (Option ℕ) → Type 0
  EachStandsFor [] [] = Unit {0}
  EachStandsFor (x ∷ xs) (m ∷ ms) = StandsFor those x.name m × EachStandsFor xs ms
  EachStandsFor [] (m ∷ ms) = ⊥
  EachStandsFor (x ∷ xs) [] = ⊥

  each_append : (xs ys : List StateOfText) (ms ns : List (Option ℕ)) → EachStandsFor xs ms → EachStandsFor ys ns → EachStandsFor (xs ++ ys) (ms ++ ns)
  each_append [] ys [] ns h k = k
  each_append [] ys (m ∷ ms) ns h k = absurd h
  each_append (x ∷ xs) ys [] ns h k = absurd h
  each_append (x ∷ xs) ys (m ∷ ms) ns h k = (h.0, each_append xs ys ms ns h.1 k)

  pub as_many : (xs : List StateOfText) (ms : List (Option ℕ)) → EachStandsFor xs ms → length ms ≡ length xs
  as_many [] [] h = refl
  as_many [] (m ∷ ms) h = absurd h
  as_many (x ∷ xs) [] h = absurd h
  as_many (x ∷ xs) (m ∷ ms) h = ap suc (as_many xs ms h.1)

  pub record Mapped (A : Type 0) (told : A → List StateOfText) (piece : A → Subtree) (made : List A) (ms : List (Option ℕ)) : Type 0 where
    pub named : EachStandsFor (all_in (map told made)) ms
    pub sized : AllSized (map piece made)
    pub many : states_in (map piece made) ≡ length ms

  abbrev pub MappedStates : List State → List (Option ℕ) → Type 0
  MappedStates = Mapped State states_of_state subtree_of_state

  abbrev pub MappedRegions : List Region → List (Option ℕ) → Type 0
  MappedRegions = Mapped Region states_of_region subtree_of_region

  pub mapped_append : (A : Type 0) (told : A → List StateOfText) (piece : A → Subtree) (xs ys : List A) (ms ns : List (Option ℕ)) →
      Mapped A told piece xs ms → Mapped A told piece ys ns → Mapped A told piece (xs ++ ys) (ms ++ ns)
  mapped_append A told piece xs ys ms ns h k = record {
    named = subst (λ those. EachStandsFor those (ms ++ ns)) (sym (told_append told xs ys))
        (each_append (all_in (map told xs)) (all_in (map told ys)) ms ns h.named k.named);
    sized = sized_append piece xs ys h.sized k.sized;
    many = omega (arith, many_append piece xs ys, h.many, k.many, length-append ms ns);
  }

  -- a state over what is inside it
  pub state_mapped : (s : State-F Region State) (m : Option ℕ) (ms : List (Option ℕ)) → StandsFor those s.name m → MappedRegions s.regions ms →
      MappedStates (roll-State s ∷ []) (m ∷ ms)
  state_mapped s m ms h k = record {
    named = let own : EachStandsFor (row ∷ all_in (map states_of_region s.regions)) (m ∷ ms) = (h, k.named) in
        subst (λ xs. EachStandsFor (xs ++ []) (m ∷ ms)) (sym (fold-roll-State (List StateOfText) (List StateOfText) told_of_region told_of_state s))
        (subst (λ xs. EachStandsFor xs (m ∷ ms)) (sym (append-nil (row ∷ all_in (map states_of_region s.regions)))) own);
    sized = (subst IsSized (sym rolled) (state_sized layer k.sized), tt);
    many = let own : (subtree_of_state (roll-State s)).states ≡ suc (states_in (map subtree_of_region s.regions)) = ap (λ p. p.states) rolled in
        omega (arith, own, k.many);
  }
    where
      row : StateOfText
      row = record { name = s.name; is_superstate = is_some (map states_of_region s.regions) }

      layer : State-F Subtree Subtree
      layer = record {
        name = s.name;
        is_initial = s.is_initial;
        is_final = s.is_final;
        regions = map subtree_of_region s.regions;
        transitions = s.transitions;
      }

      rolled : subtree_of_state (roll-State s) ≡ state_subtree layer
      rolled = fold-roll-State Subtree Subtree region_subtree state_subtree s

  -- a simple one
  pub simple_mapped : (s : State-F Region State) (m : Option ℕ) → StandsFor those s.name m → s.regions ≡ [] → MappedStates (roll-State s ∷ []) (m ∷ [])
  simple_mapped s m h none =
      state_mapped s m [] h (subst (λ regions. MappedRegions regions []) (sym none) (record { named = tt; sized = tt; many = refl }))

  -- a region of these states
  pub region_mapped : (name : List ℕ) (states : List State) (ms : List (Option ℕ)) → MappedStates states ms →
      MappedRegions (roll-Region (record { name = name; states = states }) ∷ []) ms
  region_mapped name states ms k = record {
    named = subst (λ xs. EachStandsFor (xs ++ []) ms)
        (sym (fold-roll-Region (List StateOfText) (List StateOfText) told_of_region told_of_state (record { name = name; states = states })))
        (subst (λ xs. EachStandsFor xs ms) (sym (append-nil _)) k.named);
    sized = (subst IsSized (sym rolled) (region_sized (record { name = name; states = map subtree_of_state states }) k.sized), tt);
    many = let own : (subtree_of_region (roll-Region (record { name = name; states = states }))).states ≡ states_in (map subtree_of_state states) =
        ap (λ p. p.states) rolled in omega (arith, own, k.many);
  }
    where
      rolled : subtree_of_region (roll-Region (record { name = name; states = states })) ≡
          region_subtree (record { name = name; states = map subtree_of_state states })
      rolled = fold-roll-Region Subtree Subtree region_subtree state_subtree (record { name = name; states = states })

  -- none of nothing
  pub none_mapped : (A : Type 0) (told : A → List StateOfText) (piece : A → Subtree) → Mapped A told piece [] []
  none_mapped A told piece = record { named = tt; sized = tt; many = refl }
