-- The texts and the marks of a region's states, one after the other.
use Rattle.std.proofs.Common.{Some, slice_get, ◌≡◌, ℕ, zero, suc, ◌+◌, Bool, true, false, if◌then◌else◌, List, [], ◌∷◌, ◌++◌, map, length, refl, sym, ap}
use Rattle.std.proofs.Common.{subst, ◌∙◌, arith}
use Rattle.std.proofs.lemmas.Option.{none-some, same_Some}
use Rattle.sc_text.proofs.EachItem.{Each}
use Rattle.core_charts.specs.declared.region.State.{State}
use Rattle.core_charts.specs.declared.region.Region.TheViews.{out-State}
use Rattle.core_charts.specs.declared.region.Region.TheFolds.{fold_out-State}
use Rattle.chart_machine.specs.Table.{state_numbers, subtree_of_state}
use Rattle.scl_graph_laws.proofs.Segments.{StandAt, stand_from, stand_first, stand_second}
use Rattle.chart_lowering.specs.declared.targets.Targets.{Targets}
use Rattle.chart_lowering.specs.Lowering.{texts, numbers, is_wanted}
use Rattle.chart_lowering.specs.Lowering.{piece_of_state as low_of_state}
use Rattle.chart_lowering_laws.proofs.Counting.{texts_step}
use Rattle.chart_lowering_laws.specs.Marks.{Mark, RegionMarks, StateMarks, lows, marks_among, second_of, region_marks, state_marks, marks_of_region}
use Rattle.chart_lowering_laws.proofs.Marking.{marks_of_state, StateMarked}
use Rattle.chart_lowering_laws.proofs.Walking.{mark_open_state}
use Rattle.chart_lowering_laws.proofs.InitialFirst.{same_initial}

-- the marks of a state, and of what is behind it
abbrev pub marked_by : List State → ℕ → ℕ → List Mark
marked_by states first m = marks_among (map marks_of_state states) (numbers (map low_of_state states) first m)

pub marks_of_other : (s : State) (states : List State) → (subtree_of_state s).is_initial ≡ false → (first m : ℕ) →
    marked_by (s ∷ states) first m ≡ (marks_of_state s).marks m ++ marked_by states first (m + (low_of_state s).labels)
marks_of_other s states is first m =
    ap (λ b. marks_among (map marks_of_state (s ∷ states)) (if b then first ∷ numbers (map low_of_state states) first m else m ∷ numbers
    (map low_of_state states) first (m + (low_of_state s).labels))) (same_initial s ∙ is)

pub marks_of_initial : (s : State) (states : List State) → (subtree_of_state s).is_initial ≡ true → (first m : ℕ) →
    marked_by (s ∷ states) first m ≡ (marks_of_state s).marks first ++ marked_by states first m
marks_of_initial s states is first m =
    ap (λ b. marks_among (map marks_of_state (s ∷ states)) (if b then first ∷ numbers (map low_of_state states) first m else m ∷ numbers
    (map low_of_state states) first (m + (low_of_state s).labels))) (same_initial s ∙ is)

pub get_map : {A B : Type 0} (f : A → B) (xs : List A) (i : ℕ) (x : A) → slice_get xs i ≡ Some x → slice_get (map f xs) i ≡ Some (f x)
get_map f [] i x h = absurd (none-some x h)
get_map f (y ∷ xs) zero x h = ap Some (ap f (same_Some y x h))
get_map f (y ∷ xs) (suc i) x h = get_map f xs i x h

-- the text of a state that is not initial, and what is behind it
pub text_of_other : (s : State) (states : List State) → (subtree_of_state s).is_initial ≡ false → (at : Targets) (first next : ℕ) →
    texts false at (map low_of_state (s ∷ states)) (numbers (map low_of_state (s ∷ states)) first next)
    ≡ (low_of_state s).text at next ++ texts false at (map low_of_state states) (numbers (map low_of_state states) first (next + (low_of_state s).labels))
text_of_other s states is at first next =
    texts_step false (low_of_state s).is_initial (low_of_state s).labels (low_of_state s).text (map low_of_state states) at first next
    ∙ ap (λ b. (if is_wanted false b then (low_of_state s).text at (if b then first else next) else []) ++ texts false at (map low_of_state states)
    (numbers (map low_of_state states) first (if b then next else next + (low_of_state s).labels))) (same_initial s ∙ is)

pub none_of_other : (s : State) (states : List State) → (subtree_of_state s).is_initial ≡ false → (at : Targets) (first next : ℕ) →
    texts true at (map low_of_state (s ∷ states)) (numbers (map low_of_state (s ∷ states)) first next) ≡ texts true at (map low_of_state states)
    (numbers (map low_of_state states) first (next + (low_of_state s).labels))
none_of_other s states is at first next =
    texts_step true (low_of_state s).is_initial (low_of_state s).labels (low_of_state s).text (map low_of_state states) at first next
    ∙ ap (λ b. (if is_wanted true b then (low_of_state s).text at (if b then first else next) else []) ++ texts true at (map low_of_state states)
    (numbers (map low_of_state states) first (if b then next else next + (low_of_state s).labels))) (same_initial s ∙ is)

pub text_of_initial : (s : State) (states : List State) → (subtree_of_state s).is_initial ≡ true → (at : Targets) (first next : ℕ) →
    texts true at (map low_of_state (s ∷ states)) (numbers (map low_of_state (s ∷ states)) first next) ≡ (low_of_state s).text at first ++ texts true at
    (map low_of_state states) (numbers (map low_of_state states) first next)
text_of_initial s states is at first next =
    texts_step true (low_of_state s).is_initial (low_of_state s).labels (low_of_state s).text (map low_of_state states) at first next
    ∙ ap (λ b. (if is_wanted true b then (low_of_state s).text at (if b then first else next) else []) ++ texts true at (map low_of_state states)
    (numbers (map low_of_state states) first (if b then next else next + (low_of_state s).labels))) (same_initial s ∙ is)

pub none_of_initial : (s : State) (states : List State) → (subtree_of_state s).is_initial ≡ true → (at : Targets) (first next : ℕ) →
    texts false at (map low_of_state (s ∷ states)) (numbers (map low_of_state (s ∷ states)) first next) ≡ texts false at (map low_of_state states)
    (numbers (map low_of_state states) first next)
none_of_initial s states is at first next =
    texts_step false (low_of_state s).is_initial (low_of_state s).labels (low_of_state s).text (map low_of_state states) at first next
    ∙ ap (λ b. (if is_wanted false b then (low_of_state s).text at (if b then first else next) else []) ++ texts false at (map low_of_state states)
    (numbers (map low_of_state states) first (if b then next else next + (low_of_state s).labels))) (same_initial s ∙ is)

module _ (ms : List Mark) where
  -- what stands behind a state's own marks
  pub behind_marks : (xs ys : List Mark) (n long : ℕ) → length xs ≡ long → StandAt ms n (xs ++ ys) → StandAt ms (n + long) ys
  behind_marks xs ys n long h stand = stand_from ms (n + length xs) (n + long) ys (omega (arith, h)) (stand_second ms n xs ys stand)

  -- a state's own mark
  pub own_mark : (s : State) (n u : ℕ) → StandAt ms u ((marks_of_state s).marks n) → (m : Mark) × (slice_get ms u ≡ Some m) × (m.label ≡ n)
  own_mark s n u h =
      let opened : StandAt ms u ((state_marks (mark_open_state s)).marks n) = subst (λ m. StandAt ms u (m.marks n))
      (fold_out-State RegionMarks StateMarks region_marks state_marks s) h in (
        record {
          is_initial = (out-State s).is_initial;
          label = n;
          second = second_of (out-State s).is_final (lows (map marks_of_region (out-State s).regions))
              (out-State s).transitions n;
        },
        opened.0,
        refl,
      )

  pub own_label : (s : State) (c n u : ℕ) (ys : List Mark) (others : List ℕ) → StandAt ms n ((marks_of_state s).marks c ++ ys) → n ≡ u →
      (x : Mark) × (slice_get ms u ≡ Some x) × (slice_get (c ∷ others) 0 ≡ Some x.label)
  own_label s c n u ys others h same =
      let own : (m : Mark) × (slice_get ms n ≡ Some m) × (m.label ≡ c) = own_mark s c n (stand_first ms n ((marks_of_state s).marks c) ys h) in
      (own.0, subst (λ z. slice_get ms z ≡ Some own.0) same own.1, ap Some (sym own.2))

  -- the numbers of the labels of a region's states
  pub labels_of : (states : List State) → Each StateMarked states → (n first m : ℕ) → StandAt ms n (marked_by states first m) →
      (i u : ℕ) → slice_get (state_numbers (map subtree_of_state states) n) i ≡ Some u →
      (x : Mark) × (slice_get ms u ≡ Some x) × (slice_get (numbers (map low_of_state states) first m) i ≡ Some x.label)
  labels_of [] marked n first m h i u is = absurd (none-some u is)
  labels_of (s ∷ ss) marked n first m h i u is = by (low_of_state s).is_initial h
      (λ k g j is. labels_of ss marked.1 (n + (subtree_of_state s).states) first k g j u is)
    where
      by : (b : Bool) → StandAt ms n (marks_among (map marks_of_state (s ∷ ss)) (if b then first ∷ numbers (map low_of_state ss) first m else m ∷ numbers
          (map low_of_state ss) first (m + (low_of_state s).labels))) →
          ((k : ℕ) → StandAt ms (n + (subtree_of_state s).states) (marked_by ss first k) → (j : ℕ) →
          slice_get (state_numbers (map subtree_of_state ss) (n + (subtree_of_state s).states)) j ≡ Some u →
          (x : Mark) × (slice_get ms u ≡ Some x) × (slice_get (numbers (map low_of_state ss) first k) j ≡ Some x.label)) →
          (x : Mark) × (slice_get ms u ≡ Some x)
          × (slice_get (if b then first ∷ numbers (map low_of_state ss) first m else m ∷ numbers (map low_of_state ss) first (m + (low_of_state s).labels))
          i ≡ Some x.label)
      by true h rest = at first (numbers (map low_of_state ss) first m) (marked_by ss first m) h (rest m) i is
        where
          at : (c : ℕ) (others : List ℕ) (ys : List Mark) → StandAt ms n ((marks_of_state s).marks c ++ ys) →
              (StandAt ms (n + (subtree_of_state s).states) ys → (j : ℕ) →
              slice_get (state_numbers (map subtree_of_state ss) (n + (subtree_of_state s).states)) j
              ≡ Some u → (x : Mark) × (slice_get ms u ≡ Some x) × (slice_get others j ≡ Some x.label)) →
              (i : ℕ) → slice_get (n ∷ state_numbers (map subtree_of_state ss) (n + (subtree_of_state s).states)) i ≡ Some u →
              (x : Mark) × (slice_get ms u ≡ Some x) × (slice_get (c ∷ others) i ≡ Some x.label)
          at c others ys h rest zero is = own_label s c n u ys others h (same_Some n u is)
          at c others ys h rest (suc j) is = rest (behind_marks ((marks_of_state s).marks c) ys n (subtree_of_state s).states (marked.0.long c) h) j is
      by false h rest = at m (numbers (map low_of_state ss) first (m + (low_of_state s).labels)) (marked_by ss first (m + (low_of_state s).labels)) h
          (rest (m + (low_of_state s).labels)) i is
        where
          at : (c : ℕ) (others : List ℕ) (ys : List Mark) → StandAt ms n ((marks_of_state s).marks c ++ ys) →
              (StandAt ms (n + (subtree_of_state s).states) ys → (j : ℕ) →
              slice_get (state_numbers (map subtree_of_state ss) (n + (subtree_of_state s).states)) j
              ≡ Some u → (x : Mark) × (slice_get ms u ≡ Some x) × (slice_get others j ≡ Some x.label)) →
              (i : ℕ) → slice_get (n ∷ state_numbers (map subtree_of_state ss) (n + (subtree_of_state s).states)) i ≡ Some u →
              (x : Mark) × (slice_get ms u ≡ Some x) × (slice_get (c ∷ others) i ≡ Some x.label)
          at c others ys h rest zero is = own_label s c n u ys others h (same_Some n u is)
          at c others ys h rest (suc j) is = rest (behind_marks ((marks_of_state s).marks c) ys n (subtree_of_state s).states (marked.0.long c) h) j is
