-- Who waits stands in front of all looks of its state: the normal form of the waiting machine, which each step of a region that does not wait keeps.
use Rattle.std.proofs.Common.{◌≡◌, ℕ, ◌<◌, ◌≤◌, Bool, true, false, List, [], ◌∷◌, ◌++◌, length, refl, sym, ap, subst, ◌∙◌}
use Rattle.std.proofs.Common.{if◌then◌else◌, arith}
use Rattle.std.proofs.lemmas.Bool.{leb-true, leb-false}
use Rattle.std.proofs.lemmas.List.{length-append}
use Rattle.sc_text.proofs.EachItem.{Each, each_append}
use Rattle.core_charts.specs.declared.region.Effect.{Effect}
use Rattle.core_charts.specs.declared.region.Transition.{Transition}
use Rattle.core_charts.specs.Tests.{at_once}
use Rattle.chart_machine.specs.declared.standing.Move.{Move}
use Rattle.chart_machine.specs.declared.standing.Standing.{Standing}
use Rattle.chart_machine.specs.declared.standing.Standing.TheVariants as at
use Rattle.chart_machine.specs.declared.table.Table.{Table}
use Rattle.chart_machine.specs.Steps.{moved, state_in, dropped, acts, taken}
use Rattle.chart_machine.specs.Table.{state_at, region_at}
use Rattle.chart_machine.specs.Turns.{inside}
use Rattle.chart_machine_laws.specs.Tree.{IsThere}
use Rattle.abort_expansion_laws.specs.CoreRows.{own, IsState}
use Rattle.abort_expansion_laws.proofs.ChartSteps.{Makes, takes_trying, takes_entering, takes_guarding, takes_within, tries_on, enters_on, guards_on}
use Rattle.abort_expansion_laws.proofs.ChartSteps.{waits_on, acts_on}
use Rattle.abort_expansion_laws.proofs.Leaving.{at_number}
use Rattle.preemption_laws.specs.Looks.{Looks}
use Rattle.preemption_laws.specs.Waiting.{is_waiting, waiting_at}
use Rattle.preemption_laws.proofs.FitsThere.{entered_fits, all_dropped, all_moved_fit}
use Rattle.preemption_laws.proofs.Forms.{InForm, Rests, looks_behind, looks_left, at_once_last}
use Rattle.preemption_laws.proofs.Ground.{Ground, MayOn}

-- of two equal parts behind others the shorter whole has nothing in front
pub none_in_front : (front looks tests : List Transition) → tests ≡ front ++ looks → length tests ≤ length looks → tests ≡ looks
none_in_front [] looks tests is few = is
none_in_front (f ∷ front) looks tests is few =
    absurd (let size = ap length is in let both = length-append front looks in omega (size, both, few, arith))

-- the tests of a region that tries are these
abbrev pub trying_tests : Standing → List Transition
trying_tests (at.Trying s tests) = tests
trying_tests other = []

module _ (k : Table) (looks : ℕ → List Transition) where
  abbrev pub IsNormal : Standing → Type 0
  IsNormal x = waiting_at k looks x ≡ x

  -- what waits, and what does not
  pub waits_few : (s : ℕ) (tests : List Transition) → is_waiting k looks (at.Trying s tests) ≡ true → length tests ≤ length (looks s)
  waits_few s tests e = leb-true (length tests) (length (looks s)) e

  pub goes_many : (s : ℕ) (tests : List Transition) → is_waiting k looks (at.Trying s tests) ≡ false → length (looks s) < length tests
  goes_many s tests e = leb-false (length tests) (length (looks s)) e

  pub waiting_is : (s : ℕ) (tests : List Transition) (b : Bool) → is_waiting k looks (at.Trying s tests) ≡ b →
      waiting_at k looks (at.Trying s tests) ≡ at.Trying s (if b then looks s else tests)
  waiting_is s tests b e = ap (λ c. at.Trying s (if c then looks s else tests)) e

  -- who does not wait stands in normal form
  pub goes_normal : (x : Standing) → is_waiting k looks x ≡ false → IsNormal x
  goes_normal at.Outside e = refl
  goes_normal at.Ended e = refl
  goes_normal (at.Trying s tests) e = waiting_is s tests false e
  goes_normal (at.Entering s tests) e = refl
  goes_normal (at.Guarding s tests) e = refl
  goes_normal (at.Within s tests) e = refl
  goes_normal (at.Acting s effects p) e = refl

  -- who waits in normal form has all looks of its state ahead
  pub all_looks : (s : ℕ) (tests : List Transition) → IsNormal (at.Trying s tests) → is_waiting k looks (at.Trying s tests) ≡ true → tests ≡ looks s
  all_looks s tests normal e =
      let same : at.Trying s (looks s) ≡ at.Trying s tests = sym (waiting_is s tests true e) ∙ normal in ap trying_tests (sym same)

  pub normal_behind : (s : ℕ) (front tests : List Transition) → tests ≡ front ++ looks s → IsNormal (at.Trying s tests)
  normal_behind s front tests is = by (is_waiting k looks (at.Trying s tests)) refl
    where
      by : (b : Bool) → is_waiting k looks (at.Trying s tests) ≡ b → IsNormal (at.Trying s tests)
      by false e = goes_normal (at.Trying s tests) e
      by true e = waiting_is s tests true e ∙ ap (at.Trying s) (sym (none_in_front front (looks s) tests is (waits_few s tests e)))

  -- the normal form is one
  pub normal_then : (x : Standing) → IsNormal (waiting_at k looks x)
  normal_then at.Outside = refl
  normal_then at.Ended = refl
  normal_then (at.Trying s tests) = by (is_waiting k looks (at.Trying s tests)) refl
    where
      by : (b : Bool) → is_waiting k looks (at.Trying s tests) ≡ b → IsNormal (waiting_at k looks (at.Trying s tests))
      by false e = subst IsNormal (sym (waiting_is s tests false e)) (goes_normal (at.Trying s tests) e)
      by true e = subst IsNormal (sym (waiting_is s tests true e)) (normal_behind s [] (looks s) refl)
  normal_then (at.Entering s tests) = refl
  normal_then (at.Guarding s tests) = refl
  normal_then (at.Within s tests) = refl
  normal_then (at.Acting s effects p) = refl

  module _ (l : Looks k looks) (g : Ground k) where
    abbrev pub NormalMove : Move → Type 0
    NormalMove m = IsNormal m.standing

    entering_normal : (x : ℕ) → IsState k x → IsNormal (at.Trying x (at_once (own k x)))
    entering_normal x is = normal_behind x (at_once (l.others x)) (at_once (own k x)) (at_once_last k looks l x)

    pub own_normal : (s : ℕ) → IsNormal (at.Trying s (own k s))
    own_normal s = normal_behind s (l.others s) (own k s) (l.stand_last s)

    pub entered_normal : (x : ℕ) → IsState k x → Each NormalMove (state_at k x).entered
    entered_normal =
        entered_fits k g l.no_strong (λ r x. IsNormal x) (λ r. refl) (λ r. refl) entering_normal (λ x is. refl)

    acts_normal : (r s : ℕ) (effects : List Effect) (p : ℕ) → IsThere k r → p < length (region_at k r).states → Each NormalMove (acts k r s effects p)
    acts_normal r s [] p there lt = entered_normal (state_in k r p) (g.state_there r p there lt).0
    acts_normal r s (e ∷ effects) p there lt = (refl, tt)

    taken_normal : (r s : ℕ) (t : Transition) → IsThere k r → t.target < length (region_at k r).states → Each NormalMove (taken k r s t)
    taken_normal r s t there lt =
        each_append NormalMove (dropped k s) (acts k r s t.effects t.target)
        (all_dropped k g l.no_strong (λ r x. IsNormal x) (λ r. refl) (λ r. refl) entering_normal (λ x is. refl) (inside k s))
        (acts_normal r s t.effects t.target there lt)

    -- a test less, of who does not wait
    less_normal : (s : ℕ) (t : Transition) (tests : List Transition) → is_waiting k looks (at.Trying s (t ∷ tests)) ≡ false →
        Rests k looks l s (t ∷ tests) → IsNormal (at.Trying s tests)
    less_normal s t tests goes (looks_behind [] is) =
        absurd (let many = goes_many s (t ∷ tests) goes in let size = ap length is in omega (many, size, arith))
    less_normal s t tests goes (looks_behind (f ∷ front) is) = normal_behind s front tests cc
    less_normal s t tests goes (looks_left gone is) =
        absurd
        (let many = goes_many s (t ∷ tests) goes in let size = ap length is in let both = length-append gone (t ∷ tests) in omega (many, size, both, arith))

    pub moves_normal : (r : ℕ) → IsThere k r → (x : Standing) (ms : List Move) → Makes k r x ms → MayOn k g r x → InForm k looks l r x →
        is_waiting k looks x ≡ false → Each NormalMove ms
    moves_normal r there _ _ (takes_trying s t tests) may h goes = taken_normal r s t there may.2.0
    moves_normal r there _ _ (takes_entering s t tests) may h goes = absurd h
    moves_normal r there _ _ (takes_guarding s t tests) may h goes = absurd h
    moves_normal r there _ _ (takes_within s t tests) may h goes = taken_normal r s t there may.2.0
    moves_normal r there _ _ (tries_on s t tests) may h goes = (less_normal s t tests goes h.0, tt)
    moves_normal r there _ _ (enters_on s t tests) may h goes = absurd h
    moves_normal r there _ _ (guards_on s t tests) may h goes = absurd h
    moves_normal r there _ _ (waits_on s t tests) may h goes = (refl, tt)
    moves_normal r there _ _ (acts_on s p e effects) may h goes = acts_normal r s effects p there may

    pub normal_still : (r : ℕ) → IsThere k r → (x : Standing) (ms : List Move) → Makes k r x ms → MayOn k g r x → InForm k looks l r x →
        is_waiting k looks x ≡ false → (zs : List Standing) → ((q : ℕ) → IsNormal (at_number zs q)) → (q : ℕ) → IsNormal (at_number (moved ms zs) q)
    normal_still r there x ms makes may h goes zs before q =
        all_moved_fit k g l.no_strong (λ r x. IsNormal x) (λ r. refl) (λ r. refl) entering_normal (λ x is. refl) ms zs
        (moves_normal r there x ms makes may h goes) before q
