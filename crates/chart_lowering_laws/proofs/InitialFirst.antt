-- What is inside a region's initial state comes before what is inside the others.
use Rattle.std.proofs.Common.{◌≡◌, ℕ, ◌+◌, ◌≤◌, ◌⊎◌, inl, inr, Bool, true, false, cond, if◌then◌else◌, List, [], ◌∷◌, ◌++◌, map, length, count_by}
use Rattle.std.proofs.Common.{length-append, refl, sym, ap, subst, ◌∙◌, arith}
use Rattle.std.proofs.lemmas.List.Sums.{sum_by-cons}
use Rattle.sc_text.proofs.EachItem.{Each}
use Rattle.core_charts.specs.declared.region.State.{State}
use Rattle.core_charts.specs.declared.region.Region.TheViews.{out-State}
use Rattle.core_charts.specs.declared.region.Region.TheFolds.{fold_out-State}
use Rattle.chart_machine.specs.declared.table.TablePosition.{TablePosition}
use Rattle.chart_machine.specs.Table.{Subtree, regions_in, rows_of_state_at, followed_by, in_region, past_states, StatesRows}
use Rattle.chart_machine.specs.Table.{regions_in_initial, region_subtree, state_subtree}
use Rattle.chart_machine.specs.Table.{subtree_of_state}
use Rattle.scl.specs.declared.statement.Statement.{Statement}
use Rattle.chart_lowering.specs.declared.targets.Targets.{Targets}
use Rattle.chart_lowering.specs.Lowering.{RegionPiece, StatePiece, texts, numbers, is_wanted}
use Rattle.chart_lowering.specs.Lowering.{region_piece as low_region, state_piece as low_state, piece_of_state as low_of_state}
use Rattle.chart_lowering_laws.proofs.Counting.{threads_in, threads_append, CountsState, texts_step}
use Rattle.chart_lowering_laws.proofs.Rows.{Rowed}

pub same_initial : (s : State) → (low_of_state s).is_initial ≡ (subtree_of_state s).is_initial
same_initial s = ap (λ p. p.is_initial) (fold_out-State RegionPiece StatePiece low_region low_state s)
    ∙ sym (ap (λ p. p.is_initial) (fold_out-State Subtree Subtree region_subtree state_subtree s))

-- how many regions are inside the other states
abbrev pub others_in : List Subtree → ℕ
others_in [] = 0
others_in (p ∷ ps) = (if p.is_initial then 0 else p.regions) + others_in ps

abbrev pub NoneInitial : List Subtree → Type 0
NoneInitial ps = Each (λ p. p.is_initial ≡ false) ps

abbrev pub MostOne : List Subtree → Type 0
MostOne [] = Unit {0}
MostOne (p ∷ ps) = ((p.is_initial ≡ true) × NoneInitial ps) ⊎ ((p.is_initial ≡ false) × MostOne ps)

pub both_in : (ps : List Subtree) → regions_in_initial ps + others_in ps ≡ regions_in ps
both_in [] = refl
both_in (p ∷ ps) = by p.is_initial (both_in ps)
  where
    by : (b : Bool) → regions_in_initial ps + others_in ps ≡ regions_in ps →
        ((if b then p.regions else 0) + regions_in_initial ps) + ((if b then 0 else p.regions) + others_in ps) ≡ p.regions + regions_in ps
    by true h = omega (arith, h)
    by false h = omega (arith, h)

pub none_in : (ps : List Subtree) → NoneInitial ps → regions_in_initial ps ≡ 0
none_in [] h = refl
none_in (p ∷ ps) h = let rest : regions_in_initial ps ≡ 0 = none_in ps h.1 in ap (λ b. (if b then p.regions else 0) + regions_in_initial ps) h.0
    ∙ omega (arith, rest)

-- what the first state gives, by whether it is initial, and the others
abbrev pub joined_by : Bool → Subtree → List Subtree → ℕ → TablePosition → StatesRows
joined_by b p ps next at = followed_by (rows_of_state_at b p.parts next at) (in_region ps (if b then next else next + p.regions) (past_states p.states at))

pub first_long : (ps : List Subtree) → Each Rowed ps → (next : ℕ) (at : TablePosition) → length (in_region ps next at).first ≡ regions_in_initial ps
first_long [] rowed next at = refl
first_long (p ∷ ps) rowed next at = by p.is_initial (λ m. first_long ps rowed.1 m (past_states p.states at))
  where
    by : (b : Bool) → ((m : ℕ) → length (in_region ps m (past_states p.states at)).first ≡ regions_in_initial ps) →
        length (joined_by b p ps next at).first ≡ (if b then p.regions else 0) + regions_in_initial ps
    by true rest =
        let long : length (p.parts at).regions ≡ p.regions = rowed.0.regions at in
        let more : length (in_region ps next (past_states p.states at)).first ≡ regions_in_initial ps = rest next in
        let both : length ((p.parts at).regions ++ (in_region ps next (past_states p.states at)).first) ≡ length (p.parts at).regions + length
        (in_region ps next (past_states p.states at)).first = length-append (p.parts at).regions (in_region ps next (past_states p.states at)).first in
        omega (arith, long, more, both)
    by false rest = let more : length (in_region ps (next + p.regions) (past_states p.states at)).first ≡ regions_in_initial ps = rest (next + p.regions) in
        omega (arith, more)

-- the threads of the initial state's text
pub initial_threads : (states : List State) → Each CountsState states → (at : Targets) (first next : ℕ) →
    threads_in (texts true at (map low_of_state states) (numbers (map low_of_state states) first next)) ≡ regions_in_initial (map subtree_of_state states)
initial_threads [] each at first next = refl
initial_threads (s ∷ states) each at first next =
    ap threads_in (texts_step true (low_of_state s).is_initial (low_of_state s).labels (low_of_state s).text (map low_of_state states) at first next)
    ∙ subst (λ b. threads_in ((if is_wanted true b then (low_of_state s).text at (if b then first else next) else []) ++ texts true at (map low_of_state states)
    (numbers (map low_of_state states) first (if b then next else next + (low_of_state s).labels)))
    ≡ (if (subtree_of_state s).is_initial then (subtree_of_state s).regions else 0) + regions_in_initial (map subtree_of_state states)) (sym (same_initial s))
    (by (subtree_of_state s).is_initial (λ m. initial_threads states each.1 at first m))
  where
    by : (b : Bool) → ((m : ℕ) → threads_in (texts true at (map low_of_state states) (numbers (map low_of_state states) first m)) ≡ regions_in_initial
        (map subtree_of_state states)) →
        threads_in ((if is_wanted true b then (low_of_state s).text at (if b then first else next) else []) ++ texts true at (map low_of_state states)
        (numbers (map low_of_state states) first (if b then next else next + (low_of_state s).labels)))
        ≡ (if b then (subtree_of_state s).regions else 0) + regions_in_initial (map subtree_of_state states)
    by true rest =
        let more : List Statement = texts true at (map low_of_state states) (numbers (map low_of_state states) first next) in
        let a : threads_in ((low_of_state s).text at first ++ more) ≡ threads_in ((low_of_state s).text at first) + threads_in more =
        threads_append ((low_of_state s).text at first) more in
        let b : threads_in ((low_of_state s).text at first) ≡ (subtree_of_state s).regions = each.0 at first in
        let c : threads_in more ≡ regions_in_initial (map subtree_of_state states) = rest next in
        omega (arith, a, b, c)
    by false rest = let c : threads_in (texts true at (map low_of_state states) (numbers (map low_of_state states) first (next + (low_of_state s).labels)))
        ≡ regions_in_initial (map subtree_of_state states) = rest (next + (low_of_state s).labels) in omega (arith, c)

-- exactly one of these states is initial
abbrev pub OneInitial : List State → Type 0
OneInitial [] = ⊥
OneInitial (s ∷ ss) = (((out-State s).is_initial ≡ true) × NoneInitial (map subtree_of_state ss)) ⊎ (((out-State s).is_initial ≡ false) × OneInitial ss)

pub piece_initial : (s : State) (b : Bool) → (out-State s).is_initial ≡ b → (subtree_of_state s).is_initial ≡ b
piece_initial s b is = ap (λ p. p.is_initial) (fold_out-State Subtree Subtree region_subtree state_subtree s) ∙ is

pub one_initial : (ss : List State) → count_by (λ s. (out-State s).is_initial) ss ≡ 1 → OneInitial ss
one_initial [] h = let none : List State = [] in let nobody : count_by (λ s. (out-State s).is_initial) none ≡ 0 = refl in absurd (omega (arith, h, nobody))
one_initial (s ∷ ss) h =
    let test : State → Bool = λ s. (out-State s).is_initial in
    let sum : count_by test (s ∷ ss) ≡ cond (test s) 1 0 + count_by test ss = sum_by-cons (λ y. cond (test y) 1 0) s ss in
    by (out-State s).is_initial refl (subst (λ n. n ≡ 1) sum h) (one_initial ss)
  where
    none_initial : (ss : List State) → count_by (λ s. (out-State s).is_initial) ss ≤ 0 → NoneInitial (map subtree_of_state ss)
    none_initial [] h = tt
    none_initial (t ∷ ts) h =
        let test : State → Bool = λ s. (out-State s).is_initial in
        let sum : count_by test (t ∷ ts) ≡ cond (test t) 1 0 + count_by test ts = sum_by-cons (λ y. cond (test y) 1 0) t ts in
        at (out-State t).is_initial (piece_initial t (out-State t).is_initial refl) (subst (λ n. n ≤ 0) sum h) (none_initial ts)
      where
        at : (b : Bool) → (subtree_of_state t).is_initial ≡ b → cond b 1 0 + count_by (λ s. (out-State s).is_initial) ts ≤ 0 →
            (count_by (λ s. (out-State s).is_initial) ts ≤ 0 → NoneInitial (map subtree_of_state ts)) → NoneInitial (map subtree_of_state (t ∷ ts))
        at true is h rest = absurd (omega (arith, h))
        at false is h rest = (is, rest (omega (arith, h)))

    by : (b : Bool) → (out-State s).is_initial ≡ b → cond b 1 0 + count_by (λ s. (out-State s).is_initial) ss ≡ 1 →
        (count_by (λ s. (out-State s).is_initial) ss ≡ 1 → OneInitial ss) → OneInitial (s ∷ ss)
    by true is h rest = inl (is, none_initial ss (omega (arith, h)))
    by false is h rest = inr (is, rest (omega (arith, h)))

-- exactly one initial state
pub most_one : (ss : List State) → count_by (λ s. (out-State s).is_initial) ss ≤ 1 → MostOne (map subtree_of_state ss)
most_one [] h = tt
most_one (s ∷ ss) h =
    let test : State → Bool = λ s. (out-State s).is_initial in
    let sum : count_by test (s ∷ ss) ≡ cond (test s) 1 0 + count_by test ss = sum_by-cons (λ y. cond (test y) 1 0) s ss in
    let same : (subtree_of_state s).is_initial ≡ (out-State s).is_initial = ap (λ p. p.is_initial)
    (fold_out-State Subtree Subtree region_subtree state_subtree s) in
    by (out-State s).is_initial same (subst (λ n. n ≤ 1) sum h) (most_one ss)
  where
    none_initial : (ss : List State) → count_by (λ s. (out-State s).is_initial) ss ≤ 0 → NoneInitial (map subtree_of_state ss)
    none_initial [] h = tt
    none_initial (t ∷ ts) h =
        let test : State → Bool = λ s. (out-State s).is_initial in
        let sum : count_by test (t ∷ ts) ≡ cond (test t) 1 0 + count_by test ts = sum_by-cons (λ y. cond (test y) 1 0) t ts in
        let same : (subtree_of_state t).is_initial ≡ (out-State t).is_initial = ap (λ p. p.is_initial)
        (fold_out-State Subtree Subtree region_subtree state_subtree t) in
        at (out-State t).is_initial same (subst (λ n. n ≤ 0) sum h) (none_initial ts)
      where
        at : (b : Bool) → (subtree_of_state t).is_initial ≡ b → cond b 1 0 + count_by (λ s. (out-State s).is_initial) ts ≤ 0 →
            (count_by (λ s. (out-State s).is_initial) ts ≤ 0 → NoneInitial (map subtree_of_state ts)) → NoneInitial (map subtree_of_state (t ∷ ts))
        at true is h rest = absurd (omega (arith, h))
        at false is h rest = (is, rest (omega (arith, h)))

    by : (b : Bool) → (subtree_of_state s).is_initial ≡ b → cond b 1 0 + count_by (λ s. (out-State s).is_initial) ss ≤ 1 →
        (count_by (λ s. (out-State s).is_initial) ss ≤ 1 → MostOne (map subtree_of_state ss)) → MostOne (map subtree_of_state (s ∷ ss))
    by true is h rest = inl (is, none_initial ss (omega (arith, h)))
    by false is h rest = inr (is, rest (omega (arith, h)))
