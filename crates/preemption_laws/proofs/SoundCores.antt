-- What holds of each configuration of a core chart: each region sits as it may, and stands in form. Steps keep it.
use Rattle.std.proofs.Common.{◌≡◌, ℕ, true, false, ◌||◌, Some, List, [], ◌∷◌, refl, ap₂, subst}
use Rattle.core_charts.specs.declared.region.Transition.{Transition}
use Rattle.chart_machine.specs.declared.standing.Configuration.{Configuration}
use Rattle.chart_machine.specs.declared.standing.Standing.{Standing}
use Rattle.chart_machine.specs.declared.standing.Standing.TheVariants as at
use Rattle.chart_machine.specs.declared.table.Table.{Table}
use Rattle.chart_machine.specs.Steps.{step}
use Rattle.chart_machine.specs.Turns.{standing_of, guards, is_guarded, is_enabled}
use Rattle.chart_machine_laws.specs.Tree.{IsThere, holder}
use Rattle.abort_expansion_laws.proofs.ChartSteps.{StepMade, step_made}
use Rattle.preemption_laws.proofs.ApartTogether.{turn, present}
use Rattle.preemption_laws.specs.Looks.{Looks}
use Rattle.preemption_laws.specs.Waiting.{is_waiting}
use Rattle.preemption_laws.proofs.Forms.{InForm, forms_still}
use Rattle.preemption_laws.proofs.NormalForms.{IsNormal, normal_still}
use Rattle.preemption_laws.proofs.Ground.{Ground, SitsOn, apart_on, sits_on, enclosed_on}

module _ (k : Table) (looks : ℕ → List Transition) (l : Looks k looks) (g : Ground k) where
  pub record IsCore (c : Configuration) : Type 0 where
    pub sits : SitsOn k g c
    pub forms : (r : ℕ) → InForm k looks l r (standing_of c r)

  -- and those of the waiting machine are in normal form
  pub record IsSound (c : Configuration) : Type 0 where
    pub core : IsCore c
    pub normal : (r : ℕ) → IsNormal k looks (standing_of c r)

  pub there_of : (c : Configuration) (t : ℕ) → SitsOn k g c → is_enabled k c t ≡ true → IsThere k t
  there_of c t sits on =
      (enclosed_on k g c sits).there t (present k g.tree g.holder_there c (standing_of c t) (turn k g.tree g.holder_there c t on).works)

  pub core_still : (c d : Configuration) (t : ℕ) → IsCore c → step k t c ≡ Some d → IsCore d
  core_still c d t is steps =
      let made : StepMade k t c d = step_made k t c d steps in
      let there : IsThere k t = there_of c t is.sits ((apart_on k g).turns c d t steps) in
      record {
        sits = sits_on k g c d t is.sits steps;
        forms = λ r.
            subst (λ (z : Configuration). InForm k looks l r (standing_of z r)) made.is
            (forms_still k looks l g t there (standing_of c t) made.change.moves made.makes (is.sits.stands t) (is.forms t) c.regions is.forms r);
      }

  pub sound_still : (c d : Configuration) (t : ℕ) → IsSound c → step k t c ≡ Some d → is_waiting k looks (standing_of c t) ≡ false → IsSound d
  sound_still c d t is steps goes =
      let made : StepMade k t c d = step_made k t c d steps in
      let there : IsThere k t = there_of c t is.core.sits ((apart_on k g).turns c d t steps) in
      record {
        core = core_still c d t is.core steps;
        normal = λ r.
            subst (λ (z : Configuration). IsNormal k looks (standing_of z r)) made.is
            (normal_still k looks l g t there (standing_of c t) made.change.moves made.makes (is.core.sits.stands t) (is.core.forms t) goes c.regions
            is.normal r);
      }

  -- nobody guards
  in_form_guards : (r : ℕ) (x : Standing) → InForm k looks l r x → guards x ≡ false
  in_form_guards r at.Outside h = refl
  in_form_guards r at.Ended h = refl
  in_form_guards r (at.Trying s tests) h = refl
  in_form_guards r (at.Entering s tests) h = absurd h
  in_form_guards r (at.Guarding s tests) h = absurd h
  in_form_guards r (at.Within s tests) h = refl
  in_form_guards r (at.Acting s effects p) h = refl

  pub not_guarded : (c : Configuration) → ((r : ℕ) → InForm k looks l r (standing_of c r)) → (zs : List ℕ) → is_guarded k c zs ≡ false
  not_guarded c forms [] = refl
  not_guarded c forms (s ∷ zs) = ap₂ (λ a b. a || b) (in_form_guards (holder k s) (standing_of c (holder k s)) (forms (holder k s))) (not_guarded c forms zs)
