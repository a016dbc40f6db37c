-- In which form each region of a core chart stands: its tests end in the looks of its state, or are some of these, and what it has yet to do sets flags as
-- the table does.
use Rattle.std.proofs.Common.{◌≡◌, ℕ, suc, ◌<◌, ◌⊎◌, Bool, true, false, cond, List, [], ◌∷◌, ◌++◌, map, filter}
use Rattle.std.proofs.Common.{length, Contains, refl, sym, ap, subst, ◌∙◌}
use Rattle.std.proofs.lemmas.List.Elements.{filter-append}
use Rattle.sc_text.proofs.EachItem.{Each, each_of, each_append, each_filter}
use Rattle.core_charts.specs.declared.region.Effect.{Effect}
use Rattle.core_charts.specs.declared.region.Transition.{Transition}
use Rattle.core_charts.specs.Tests.{is_join, at_once, terminations, closing_tests, first_closing_tests}
use Rattle.chart_machine.specs.declared.standing.Move.{Move}
use Rattle.chart_machine.specs.declared.standing.Standing.{Standing}
use Rattle.chart_machine.specs.declared.standing.Standing.TheVariants as at
use Rattle.chart_machine.specs.declared.table.Table.{Table}
use Rattle.chart_machine.specs.Steps.{moved, state_in, dropped, acts, taken}
use Rattle.chart_machine.specs.Table.{state_at, region_at}
use Rattle.chart_machine.specs.Turns.{inside}
use Rattle.chart_machine_laws.specs.Tree.{IsThere, holder}
use Rattle.tick_laws.proofs.Lists.{contains_get}
use Rattle.abort_expansion.specs.Transitions.{put}
use Rattle.abort_expansion_laws.specs.CoreRows.{own, IsState}
use Rattle.abort_expansion_laws.proofs.ChartSteps.{Makes, takes_trying, takes_entering, takes_guarding, takes_within, tries_on, enters_on, guards_on}
use Rattle.abort_expansion_laws.proofs.ChartSteps.{waits_on, acts_on}
use Rattle.abort_expansion_laws.proofs.Leaving.{at_number}
use Rattle.preemption_laws.specs.Looks.{look, Looks}
use Rattle.preemption_laws.proofs.FitsThere.{entered_fits, all_dropped, all_moved_fit}
use Rattle.preemption_laws.proofs.Ground.{Ground, MayOn}

pub filtered_so : (p : Transition → Bool) (ts : List Transition) → Each (λ t. p t ≡ true) (filter p ts)
filtered_so p [] = tt
filtered_so p (t ∷ ts) = by (p t) refl (filtered_so p ts)
  where
    by : (b : Bool) → p t ≡ b → Each (λ u. p u ≡ true) (filter p ts) → Each (λ u. p u ≡ true) (cond b (t ∷ filter p ts) (filter p ts))
    by true is rest = (is, rest)
    by false is rest = rest

module _ (k : Table) (looks : ℕ → List Transition) (l : Looks k looks) where
  -- an effect in region r sets flags as the table does
  abbrev pub SetsWell : ℕ → Effect → Type 0
  SetsWell r e = (s x : ℕ) → Contains (l.seen s) x → e.variable ≡ x → ((n : ℕ) × (e ≡ put x (suc n))) ⊎ (r ≡ holder k (l.superstate_of x))

  abbrev pub AllWell : ℕ → List Effect → Type 0
  AllWell r effects = Each (SetsWell r) effects

  abbrev pub TestsWell : ℕ → List Transition → Type 0
  TestsWell r tests = Each (λ t. AllWell r t.effects) tests

  abbrev pub AllJoins : List Transition → Type 0
  AllJoins tests = Each (λ t. is_join t.kind ≡ true) tests

  -- behind these tests come all looks of the state, or they are the last of these
  pub data Rests (s : ℕ) (tests : List Transition) : Type 0 where
    looks_behind : (front : List Transition) → tests ≡ front ++ looks s → Rests s tests
    looks_left : (gone : List Transition) → looks s ≡ gone ++ tests → Rests s tests

  abbrev pub InForm : ℕ → Standing → Type 0
  InForm r (at.Trying s tests) = Rests s tests × TestsWell r tests
  InForm r (at.Entering s tests) = ⊥
  InForm r (at.Guarding s tests) = ⊥
  InForm r (at.Within s tests) = AllJoins tests × TestsWell r tests
  InForm r (at.Acting s effects p) = AllWell r effects
  InForm r other = Unit {0}

  -- ---- the transitions of a state

  pub own_well : (s : ℕ) → TestsWell (holder k s) (own k s)
  own_well s =
      each_of (λ t. AllWell (holder k s) t.effects) (own k s)
      (λ n t is.
      each_of (SetsWell (holder k s)) t.effects
      (λ m e there u x seen same. l.sets u x s t e seen (contains_get (own k s) n t is) (contains_get t.effects m e there) same))

  pub at_once_well : (s : ℕ) → TestsWell (holder k s) (at_once (own k s))
  at_once_well s = each_filter (λ t. AllWell (holder k s) t.effects) (λ t. t.immediate) (own k s) (own_well s)

  ends_well : (s : ℕ) → TestsWell (holder k s) (terminations (own k s))
  ends_well s = each_filter (λ t. AllWell (holder k s) t.effects) (λ t. is_join t.kind) (own k s) (own_well s)

  pub closing_are : (s : ℕ) → closing_tests (own k s) ≡ terminations (own k s)
  closing_are s = ap (λ ts. ts ++ terminations (own k s)) (l.no_weak s)

  pub first_closing_are : (s : ℕ) → first_closing_tests (own k s) ≡ terminations (own k s)
  first_closing_are s = ap (λ ts. at_once ts ++ terminations (own k s)) (l.no_weak s)

  joins_in_form : (s : ℕ) → AllJoins (terminations (own k s)) × TestsWell (holder k s) (terminations (own k s))
  joins_in_form s = (filtered_so (λ t. is_join t.kind) (own k s), ends_well s)

  pub closing_in_form : (s : ℕ) → InForm (holder k s) (at.Within s (closing_tests (own k s)))
  closing_in_form s = subst (λ ts. InForm (holder k s) (at.Within s ts)) (sym (closing_are s)) (joins_in_form s)

  pub first_closing_in_form : (s : ℕ) → InForm (holder k s) (at.Within s (first_closing_tests (own k s)))
  first_closing_in_form s = subst (λ ts. InForm (holder k s) (at.Within s ts)) (sym (first_closing_are s)) (joins_in_form s)

  all_at_once : (left : ℕ) (xs : List ℕ) → at_once (map (look left) xs) ≡ map (look left) xs
  all_at_once left [] = refl
  all_at_once left (x ∷ xs) = ap (λ ts. look left x ∷ ts) (all_at_once left xs)

  pub at_once_last : (s : ℕ) → at_once (own k s) ≡ at_once (l.others s) ++ looks s
  at_once_last s =
      ap at_once (l.stand_last s)
      ∙ (filter-append (λ (t : Transition). t.immediate) (l.others s) (looks s)
      ∙ ap (λ ts. at_once (l.others s) ++ ts) (ap at_once (l.are_looks s) ∙ (all_at_once (l.left s) (l.seen s) ∙ sym (l.are_looks s))))

  pub own_in_form : (s : ℕ) → InForm (holder k s) (at.Trying s (own k s))
  own_in_form s = (looks_behind (l.others s) (l.stand_last s), own_well s)

  pub at_once_in_form : (s : ℕ) → InForm (holder k s) (at.Trying s (at_once (own k s)))
  at_once_in_form s = (looks_behind (at_once (l.others s)) (at_once_last s), at_once_well s)

  -- one test less
  pub one_less : (s : ℕ) (t : Transition) (tests : List Transition) → Rests s (t ∷ tests) → Rests s tests
  one_less s t tests (looks_behind [] is) = looks_left (t ∷ []) (sym is)
  one_less s t tests (looks_behind (f ∷ front) is) = let rest : tests ≡ front ++ looks s = cc in looks_behind front rest
  one_less s t tests (looks_left gone is) = looks_left (gone ++ t ∷ []) (is ∙ one_more gone)
    where
      one_more : (gone : List Transition) → gone ++ t ∷ tests ≡ (gone ++ t ∷ []) ++ tests
      one_more [] = refl
      one_more (u ∷ gone) = ap (λ ts. u ∷ ts) (one_more gone)

  -- ---- the moves of a step

  module _ (g : Ground k) where
    abbrev pub Fit : Move → Type 0
    Fit m = InForm m.region m.standing

    pub entered_in_form : (x : ℕ) → IsState k x → Each Fit (state_at k x).entered
    entered_in_form =
        entered_fits k g l.no_strong InForm (λ r. tt) (λ r. tt) (λ x is. at_once_in_form x) (λ x is. first_closing_in_form x)

    acts_in_form : (r s : ℕ) (effects : List Effect) (p : ℕ) → IsThere k r → p < length (region_at k r).states → AllWell r effects →
        Each Fit (acts k r s effects p)
    acts_in_form r s [] p there lt well = entered_in_form (state_in k r p) (g.state_there r p there lt).0
    acts_in_form r s (e ∷ effects) p there lt well = (well, tt)

    taken_in_form : (r s : ℕ) (t : Transition) → IsThere k r → t.target < length (region_at k r).states → AllWell r t.effects → Each Fit (taken k r s t)
    taken_in_form r s t there lt well =
        each_append Fit (dropped k s) (acts k r s t.effects t.target)
        (all_dropped k g l.no_strong InForm (λ r. tt) (λ r. tt) (λ x is. at_once_in_form x) (λ x is. first_closing_in_form x) (inside k s))
        (acts_in_form r s t.effects t.target there lt well)

    pub moves_in_form : (r : ℕ) → IsThere k r → (x : Standing) (ms : List Move) → Makes k r x ms → MayOn k g r x → InForm r x → Each Fit ms
    moves_in_form r there _ _ (takes_trying s t tests) may h = taken_in_form r s t there may.2.0 h.1.0
    moves_in_form r there _ _ (takes_entering s t tests) may h = absurd h
    moves_in_form r there _ _ (takes_guarding s t tests) may h = absurd h
    moves_in_form r there _ _ (takes_within s t tests) may h = taken_in_form r s t there may.2.0 h.1.0
    moves_in_form r there _ _ (tries_on s t tests) may h = ((one_less s t tests h.0, h.1.1), tt)
    moves_in_form r there _ _ (enters_on s t tests) may h = absurd h
    moves_in_form r there _ _ (guards_on s t tests) may h = absurd h
    moves_in_form r there _ _ (waits_on s t tests) may h = ((h.0.1, h.1.1), tt)
    moves_in_form r there _ _ (acts_on s p e effects) may h = acts_in_form r s effects p there may h.1

    pub forms_still : (r : ℕ) → IsThere k r → (x : Standing) (ms : List Move) → Makes k r x ms → MayOn k g r x → InForm r x → (zs : List Standing) →
        ((q : ℕ) → InForm q (at_number zs q)) → (q : ℕ) → InForm q (at_number (moved ms zs) q)
    forms_still r there x ms makes may h zs before q =
        all_moved_fit k g l.no_strong InForm (λ r. tt) (λ r. tt) (λ x is. at_once_in_form x) (λ x is. first_closing_in_form x) ms zs
        (moves_in_form r there x ms makes may h) before q
