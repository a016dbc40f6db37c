-- What a region of a core chart has yet to read: if it is no look its state has it, as the table has it. Steps keep this, and starts of ticks make it.
use Rattle.std.proofs.Common.{◌≡◌, ℕ, suc, ◌<◌, Bool, true, false, Some, List, [], ◌∷◌, ◌++◌, map, length, Contains, refl, sym, ap}
use Rattle.std.proofs.Common.{subst, ◌∙◌, arith}
use Rattle.std.specs.List.{list_all}
use Rattle.std.proofs.lemmas.List.{length-append}
use Rattle.std.proofs.lemmas.List.Elements.{filter-append}
use Rattle.sc_text.proofs.EachItem.{Each, each_append, each_filter}
use Rattle.sc_graph.specs.Tick.{Inputs}
use Rattle.core_charts.specs.declared.region.Effect.{Effect}
use Rattle.core_charts.specs.declared.region.Transition.{Transition}
use Rattle.core_charts.specs.Tests.{is_join, at_once, strong_aborts, terminations, closing_tests, first_closing_tests}
use Rattle.chart_machine.specs.declared.standing.Configuration.{Configuration}
use Rattle.chart_machine.specs.declared.standing.Move.{Move}
use Rattle.chart_machine.specs.declared.standing.Standing.{Standing}
use Rattle.chart_machine.specs.declared.standing.Standing.TheVariants as at
use Rattle.chart_machine.specs.declared.table.Table.{Table}
use Rattle.chart_machine.specs.Machine.{initial, start, woken, guarded_first, is_outside, regions_at_start}
use Rattle.chart_machine.specs.Steps.{moved, state_in, dropped, acts, taken, step}
use Rattle.chart_machine.specs.Table.{state_at, region_at}
use Rattle.chart_machine.specs.Turns.{standing_of, inside}
use Rattle.chart_machine_laws.specs.Tree.{IsThere}
use Rattle.tick_laws.proofs.Lists.{contains_head, contains_tail}
use Rattle.abort_expansion_laws.specs.CoreRows.{own, IsState}
use Rattle.abort_expansion_laws.proofs.ChartSteps.{Makes, takes_trying, takes_entering, takes_guarding, takes_within, tries_on, enters_on, guards_on}
use Rattle.abort_expansion_laws.proofs.ChartSteps.{waits_on, acts_on, StepMade, step_made}
use Rattle.abort_expansion_laws.proofs.FreshInside.{nobody_there}
use Rattle.abort_expansion_laws.proofs.Leaving.{at_number}
use Rattle.abort_expansion_laws.proofs.WokenConfigurations.{woken_at}
use Rattle.preemption_laws.proofs.SitsAtStart.{Tops, all_out}
use Rattle.preemption_laws.specs.Looks.{look, Looks}
use Rattle.preemption_laws.specs.Waiting.{is_waiting}
use Rattle.preemption_laws.proofs.FitsThere.{entered_fits, each_entered_fits, all_dropped, all_moved_fit}
use Rattle.preemption_laws.proofs.Forms.{closing_are, first_closing_are, at_once_last}
use Rattle.preemption_laws.proofs.Ground.{Ground, MayOn, apart_on}
use Rattle.preemption_laws.proofs.NormalForms.{goes_many, waits_few, none_in_front}
use Rattle.preemption_laws.proofs.SoundCores.{IsCore, there_of}

none_joined : (left : ℕ) (xs : List ℕ) → terminations (map (look left) xs) ≡ []
none_joined left [] = refl
none_joined left (x ∷ xs) = none_joined left xs

one_further : (gone : List Transition) (t : Transition) (tests : List Transition) → gone ++ t ∷ tests ≡ (gone ++ t ∷ []) ++ tests
one_further [] t tests = refl
one_further (u ∷ gone) t tests = ap (λ ts. u ∷ ts) (one_further gone t tests)

in_behind : (gone : List Transition) (t : Transition) (tests : List Transition) → Contains (gone ++ t ∷ tests) t
in_behind [] t tests = contains_head t tests
in_behind (u ∷ gone) t tests = contains_tail u t (gone ++ t ∷ tests) (in_behind gone t tests)

first_same : (t u : Transition) (ts us : List Transition) → t ∷ ts ≡ u ∷ us → u ≡ t
first_same t u ts us e = cc

rest_same : (t u : Transition) (ts us : List Transition) → t ∷ ts ≡ u ∷ us → ts ≡ us
rest_same t u ts us e = cc

module _ (k : Table) (looks : ℕ → List Transition) (l : Looks k looks) (g : Ground k) (P : ℕ → Transition → Type 0) (E : Effect → Type 0)
    (others_are : (s : ℕ) → Each (P s) (l.others s)) (effects_are : (s : ℕ) → Each (λ t. Each E t.effects) (own k s)) where
  abbrev pub Q : Transition → Type 0
  Q t = Each E t.effects

  -- the tests that stand before the looks are so
  pub data Ahead (s : ℕ) (tests : List Transition) : Type 0 where
    looks_behind : (front : List Transition) → tests ≡ front ++ looks s → Each (P s) front → Ahead s tests
    looks_left : (gone : List Transition) → looks s ≡ gone ++ tests → Ahead s tests

  abbrev pub ReadsSo : Standing → Type 0
  ReadsSo (at.Trying s tests) = Ahead s tests × Each Q tests
  ReadsSo (at.Entering s tests) = ⊥
  ReadsSo (at.Guarding s tests) = ⊥
  ReadsSo (at.Within s tests) = Each (P s) tests × Each Q tests
  ReadsSo (at.Acting s effects p) = Each E effects
  ReadsSo other = Unit {0}

  abbrev ReadsMove : Move → Type 0
  ReadsMove m = ReadsSo m.standing

  -- ---- where a state begins

  own_so : (s : ℕ) → ReadsSo (at.Trying s (own k s))
  own_so s = (looks_behind (l.others s) (l.stand_last s) (others_are s), effects_are s)

  at_once_so : (s : ℕ) → ReadsSo (at.Trying s (at_once (own k s)))
  at_once_so s = (
    looks_behind (at_once (l.others s)) (at_once_last k looks l s) (each_filter (P s) (λ t. t.immediate) (l.others s) (others_are s)),
    each_filter Q (λ t. t.immediate) (own k s) (effects_are s),
  )

  joins_are : (s : ℕ) → terminations (own k s) ≡ terminations (l.others s) ++ []
  joins_are s =
      ap terminations (l.stand_last s)
      ∙ (filter-append (λ (t : Transition). is_join t.kind) (l.others s) (looks s)
      ∙ ap (λ ts. terminations (l.others s) ++ ts) (ap terminations (l.are_looks s) ∙ none_joined (l.left s) (l.seen s)))

  joins_so : (s : ℕ) → Each (P s) (terminations (own k s)) × Each Q (terminations (own k s))
  joins_so s = (
    subst (Each (P s)) (sym (joins_are s))
        (each_append (P s) (terminations (l.others s)) [] (each_filter (P s) (λ t. is_join t.kind) (l.others s) (others_are s)) tt),
    each_filter Q (λ t. is_join t.kind) (own k s) (effects_are s),
  )

  first_closing_so : (s : ℕ) → ReadsSo (at.Within s (first_closing_tests (own k s)))
  first_closing_so s = subst (λ ts. ReadsSo (at.Within s ts)) (sym (first_closing_are k looks l s)) (joins_so s)

  closing_so : (s : ℕ) → ReadsSo (at.Within s (closing_tests (own k s)))
  closing_so s = subst (λ ts. ReadsSo (at.Within s ts)) (sym (closing_are k looks l s)) (joins_so s)

  -- ---- the moves of a step

  entered_so : (x : ℕ) → IsState k x → Each ReadsMove (state_at k x).entered
  entered_so =
      entered_fits k g l.no_strong (λ r x. ReadsSo x) (λ r. tt) (λ r. tt) (λ x is. at_once_so x) (λ x is. first_closing_so x)

  acts_so : (r s : ℕ) (effects : List Effect) (p : ℕ) → IsThere k r → p < length (region_at k r).states → Each E effects →
      Each ReadsMove (acts k r s effects p)
  acts_so r s [] p there lt all = entered_so (state_in k r p) (g.state_there r p there lt).0
  acts_so r s (e ∷ effects) p there lt all = (all, tt)

  taken_so : (r s : ℕ) (t : Transition) → IsThere k r → t.target < length (region_at k r).states → Q t → Each ReadsMove (taken k r s t)
  taken_so r s t there lt all =
      each_append ReadsMove (dropped k s) (acts k r s t.effects t.target)
      (all_dropped k g l.no_strong (λ r x. ReadsSo x) (λ r. tt) (λ r. tt) (λ x is. at_once_so x) (λ x is. first_closing_so x) (inside k s))
      (acts_so r s t.effects t.target there lt all)

  one_less : (s : ℕ) (t : Transition) (tests : List Transition) → Ahead s (t ∷ tests) → Ahead s tests
  one_less s t tests (looks_behind [] is all) = looks_left (t ∷ []) (sym is)
  one_less s t tests (looks_behind (f ∷ front) is all) = looks_behind front (rest_same t f tests (front ++ looks s) is) all.1
  one_less s t tests (looks_left gone is) = looks_left (gone ++ t ∷ []) (is ∙ one_further gone t tests)

  moves_so : (r : ℕ) → IsThere k r → (x : Standing) (ms : List Move) → Makes k r x ms → MayOn k g r x → ReadsSo x → Each ReadsMove ms
  moves_so r there _ _ (takes_trying s t tests) may h = taken_so r s t there may.2.0 h.1.0
  moves_so r there _ _ (takes_entering s t tests) may h = absurd h
  moves_so r there _ _ (takes_guarding s t tests) may h = absurd h
  moves_so r there _ _ (takes_within s t tests) may h = taken_so r s t there may.2.0 h.1.0
  moves_so r there _ _ (tries_on s t tests) may h = ((one_less s t tests h.0, h.1.1), tt)
  moves_so r there _ _ (enters_on s t tests) may h = absurd h
  moves_so r there _ _ (guards_on s t tests) may h = absurd h
  moves_so r there _ _ (waits_on s t tests) may h = ((h.0.1, h.1.1), tt)
  moves_so r there _ _ (acts_on s p e effects) may h = acts_so r s effects p there may h.1

  moved_so : (ms : List Move) (zs : List Standing) → Each ReadsMove ms → ((q : ℕ) → ReadsSo (at_number zs q)) → (q : ℕ) → ReadsSo (at_number (moved ms zs) q)
  moved_so =
      all_moved_fit k g l.no_strong (λ r x. ReadsSo x) (λ r. tt) (λ r. tt) (λ x is. at_once_so x) (λ x is. first_closing_so x)

  -- ---- configurations

  abbrev pub AllRead : Configuration → Type 0
  AllRead c = (r : ℕ) → ReadsSo (standing_of c r)

  pub reads_still : (c d : Configuration) (t : ℕ) → IsCore k looks l g c → AllRead c → step k t c ≡ Some d → AllRead d
  reads_still c d t is all steps r =
      let made : StepMade k t c d = step_made k t c d steps in
      let there : IsThere k t = there_of k looks l g c t is.sits ((apart_on k g).turns c d t steps) in
      subst (λ (z : Configuration). ReadsSo (standing_of z r)) made.is
      (moved_so made.change.moves c.regions (moves_so t there (standing_of c t) made.change.moves made.makes (is.sits.stands t) (all t)) all r)

  pub reads_initially : AllRead (initial k)
  reads_initially r = subst ReadsSo (sym (nobody_there k r)) tt

  not_guarding : (s : ℕ) → guarded_first s (strong_aborts (own k s)) (closing_tests (own k s)) ≡ at.Within s (closing_tests (own k s))
  not_guarding s = ap (λ ts. guarded_first s ts (closing_tests (own k s))) (l.no_strong s)

  woken_so : (x : Standing) → ReadsSo x → ReadsSo (woken k x)
  woken_so at.Outside h = tt
  woken_so at.Ended h = tt
  woken_so (at.Trying s tests) h = own_so s
  woken_so (at.Entering s tests) h = h
  woken_so (at.Guarding s tests) h = h
  woken_so (at.Within s tests) h = subst ReadsSo (sym (not_guarding s)) (closing_so s)
  woken_so (at.Acting s effects p) h = h

  pub reads_at_start : Tops k → (inputs : Inputs) (c : Configuration) → AllRead c → AllRead (start k inputs c)
  reads_at_start tops inputs c all r = by (list_all is_outside c.regions) refl
    where
      opened_so : Each ReadsMove k.opened
      opened_so =
          subst (Each ReadsMove) (sym tops.opens)
          (each_entered_fits k g l.no_strong (λ r x. ReadsSo x) (λ r. tt) (λ r. tt) (λ x is. at_once_so x) (λ x is. first_closing_so x) tops.firsts
          (λ x h. entered_so x (tops.states x h).0))

      by : (b : Bool) → list_all is_outside c.regions ≡ b → ReadsSo (at_number (regions_at_start k b c.regions) r)
      by true e = moved_so k.opened c.regions opened_so (λ q. subst ReadsSo (sym (all_out c.regions e q)) tt) r
      by false e = subst ReadsSo (sym (woken_at k c.regions r)) (woken_so (at_number c.regions r) (all r))

  -- ---- what is read next

  -- who waits has a look next; who does not has a test of its state's that is none
  pub next_look : (s : ℕ) (t : Transition) (tests : List Transition) → ReadsSo (at.Trying s (t ∷ tests)) →
      is_waiting k looks (at.Trying s (t ∷ tests)) ≡ true → Contains (looks s) t
  next_look s t tests h waits = by h.0
    where
      by : Ahead s (t ∷ tests) → Contains (looks s) t
      by (looks_behind front is all) =
          subst (λ ts. Contains ts t) (none_in_front front (looks s) (t ∷ tests) is (waits_few k looks s (t ∷ tests) waits)) (contains_head t tests)
      by (looks_left gone is) = subst (λ ts. Contains ts t) (sym is) (in_behind gone t tests)

  pub next_test : (s : ℕ) (t : Transition) (tests : List Transition) → ReadsSo (at.Trying s (t ∷ tests)) →
      is_waiting k looks (at.Trying s (t ∷ tests)) ≡ false → P s t
  next_test s t tests h goes = by h.0
    where
      many : length (looks s) < suc (length tests)
      many = goes_many k looks s (t ∷ tests) goes

      by : Ahead s (t ∷ tests) → P s t
      by (looks_behind [] is all) = absurd (let size = ap length is in omega (many, size, arith))
      by (looks_behind (f ∷ front) is all) = subst (P s) (first_same t f tests (front ++ looks s) is) all.0
      by (looks_left gone is) =
          absurd (let size = ap length is in let both = length-append gone (t ∷ tests) in omega (many, size, both, arith))

  pub next_closing : (s : ℕ) (t : Transition) (tests : List Transition) → ReadsSo (at.Within s (t ∷ tests)) → P s t
  next_closing s t tests h = h.0.0

  pub next_effect : (s : ℕ) (e : Effect) (effects : List Effect) (p : ℕ) → ReadsSo (at.Acting s (e ∷ effects) p) → E e
  next_effect s e effects p h = h.0
