-- Before the first tick, and as a tick starts, a core chart stands in form, and in normal form.
use Rattle.std.proofs.Common.{◌≡◌, ℕ, Bool, true, false, List, refl, sym, ap, subst}
use Rattle.std.specs.List.{list_all}
use Rattle.sc_text.proofs.EachItem.{Each}
use Rattle.sc_graph.specs.Tick.{Inputs}
use Rattle.core_charts.specs.declared.region.Transition.{Transition}
use Rattle.core_charts.specs.Tests.{at_once, strong_aborts, closing_tests}
use Rattle.chart_machine.specs.declared.standing.Configuration.{Configuration}
use Rattle.chart_machine.specs.declared.standing.Move.{Move}
use Rattle.chart_machine.specs.declared.standing.Standing.{Standing}
use Rattle.chart_machine.specs.declared.standing.Standing.TheVariants as at
use Rattle.chart_machine.specs.declared.table.Table.{Table}
use Rattle.chart_machine.specs.Machine.{initial, start, woken, guarded_first, is_outside, regions_at_start}
use Rattle.chart_machine.specs.Turns.{standing_of}
use Rattle.abort_expansion_laws.specs.CoreRows.{own, IsState}
use Rattle.abort_expansion_laws.proofs.FreshInside.{nobody_there}
use Rattle.abort_expansion_laws.proofs.Leaving.{at_number}
use Rattle.abort_expansion_laws.proofs.WokenConfigurations.{woken_at}
use Rattle.preemption_laws.proofs.SitsAtStart.{Tops, sits_initially, sits_at_start, all_out}
use Rattle.preemption_laws.specs.Looks.{Looks}
use Rattle.preemption_laws.proofs.FitsThere.{each_entered_fits, entered_fits, all_moved_fit}
use Rattle.preemption_laws.proofs.Forms.{InForm, own_in_form, closing_in_form, at_once_in_form, first_closing_in_form, at_once_last}
use Rattle.preemption_laws.proofs.Ground.{Ground, MayOn}
use Rattle.preemption_laws.proofs.NormalForms.{IsNormal, own_normal, normal_behind}
use Rattle.preemption_laws.proofs.SoundCores.{IsCore}

module _ (k : Table) (looks : ℕ → List Transition) (l : Looks k looks) (g : Ground k) (tops : Tops k) where
  pub core_initially : IsCore k looks l g (initial k)
  core_initially =
      record {
        sits = sits_initially k g.tree g.holder_there g.entries g.elsewhere g.state_there g.firsts g.once g.leads g.bare tops;
        forms = λ r. subst (InForm k looks l r) (sym (nobody_there k r)) tt;
      }

  not_guarding : (s : ℕ) → guarded_first s (strong_aborts (own k s)) (closing_tests (own k s)) ≡ at.Within s (closing_tests (own k s))
  not_guarding s = ap (λ ts. guarded_first s ts (closing_tests (own k s))) (l.no_strong s)

  woken_form : (r : ℕ) (x : Standing) → MayOn k g r x → InForm k looks l r x → InForm k looks l r (woken k x)
  woken_form r at.Outside may h = tt
  woken_form r at.Ended may h = tt
  woken_form r (at.Trying s tests) may h = subst (λ q. InForm k looks l q (at.Trying s (own k s))) may.1 (own_in_form k looks l s)
  woken_form r (at.Entering s tests) may h = h
  woken_form r (at.Guarding s tests) may h = h
  woken_form r (at.Within s tests) may h =
      subst (InForm k looks l r) (sym (not_guarding s))
      (subst (λ q. InForm k looks l q (at.Within s (closing_tests (own k s)))) may.1 (closing_in_form k looks l s))
  woken_form r (at.Acting s effects p) may h = h

  woken_normal : (r : ℕ) (x : Standing) → InForm k looks l r x → IsNormal k looks (woken k x)
  woken_normal r at.Outside h = refl
  woken_normal r at.Ended h = refl
  woken_normal r (at.Trying s tests) h = own_normal k looks l g s
  woken_normal r (at.Entering s tests) h = absurd h
  woken_normal r (at.Guarding s tests) h = absurd h
  woken_normal r (at.Within s tests) h = subst (IsNormal k looks) (sym (not_guarding s)) refl
  woken_normal r (at.Acting s effects p) h = refl

  abbrev Fits : ℕ → Standing → Type 0
  Fits r x = InForm k looks l r x × IsNormal k looks x

  fits_out : (r : ℕ) → Fits r at.Outside
  fits_out r = (tt, refl)

  fits_end : (r : ℕ) → Fits r at.Ended
  fits_end r = (tt, refl)

  tries_normal : (x : ℕ) → IsState k x → IsNormal k looks (at.Trying x (at_once (own k x)))
  tries_normal x is = normal_behind k looks x (at_once (l.others x)) (at_once (own k x)) (at_once_last k looks l x)

  opened_fit : Each (λ (m : Move). Fits m.region m.standing) k.opened
  opened_fit =
      subst (Each (λ (m : Move). Fits m.region m.standing)) (sym tops.opens)
      (each_entered_fits k g l.no_strong Fits fits_out fits_end (λ x is. (at_once_in_form k looks l x, tries_normal x is))
      (λ x is. (first_closing_in_form k looks l x, refl)) tops.firsts
      (λ x h.
      entered_fits k g l.no_strong Fits fits_out fits_end (λ x is. (at_once_in_form k looks l x, tries_normal x is))
      (λ x is. (first_closing_in_form k looks l x, refl)) x (tops.states x h).0))

  module _ (inputs : Inputs) (c : Configuration) (is : IsCore k looks l g c) where
    each_fits : (b : Bool) → (list_all is_outside c.regions ≡ b) → (r : ℕ) → Fits r (at_number (regions_at_start k b c.regions) r)
    each_fits true e r =
        all_moved_fit k g l.no_strong Fits fits_out fits_end (λ x is. (at_once_in_form k looks l x, tries_normal x is))
        (λ x is. (first_closing_in_form k looks l x, refl)) k.opened c.regions opened_fit nobody r
      where
        nobody : (q : ℕ) → Fits q (at_number c.regions q)
        nobody q = subst (Fits q) (sym (all_out c.regions e q)) (fits_out q)
    each_fits false e r =
        subst (Fits r) (sym (woken_at k c.regions r))
        (woken_form r (standing_of c r) (is.sits.stands r) (is.forms r), woken_normal r (standing_of c r) (is.forms r))

    pub core_at_start : IsCore k looks l g (start k inputs c)
    core_at_start =
        record {
          sits = sits_at_start k g.tree g.holder_there g.entries g.elsewhere g.state_there g.firsts g.once g.leads g.bare tops inputs c is.sits;
          forms = λ r. (each_fits (list_all is_outside c.regions) refl r).0;
        }
