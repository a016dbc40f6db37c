-- A flag that somebody inside of its superstate sees raised stays raised, whoever else steps.
use Rattle.std.proofs.Common.{◌≡◌, ◌≢◌, ℕ, suc, pos, ◌<◌, ⊎_elim, inl, Bool, true, false, Option, Some, None, List, [], ◌∷◌, slice_set}
use Rattle.std.proofs.Common.{length, option_and_then, unwrap_or, Contains, refl, sym, ap, subst, ◌∙◌}
use Rattle.std.proofs.lemmas.Option.{same_Some}
use Rattle.sc_values.specs.declared.value.Value.{Value}
use Rattle.sc_values.specs.declared.value.Value.TheVariants as value_is
use Rattle.sc_values.specs.Expr.{value as value_of}
use Rattle.sc_values.proofs.Loading.{value_same}
use Rattle.core_charts.specs.declared.region.Effect.{Effect}
use Rattle.core_charts.specs.declared.region.Transition.{Transition}
use Rattle.chart_machine.specs.declared.standing.Configuration.{Configuration}
use Rattle.chart_machine.specs.declared.standing.Standing.{Standing}
use Rattle.chart_machine.specs.declared.standing.Standing.TheVariants as at
use Rattle.chart_machine.specs.declared.table.Table.{Table}
use Rattle.chart_machine.specs.Steps.{written, truth, verdict, step}
use Rattle.chart_machine.specs.Turns.{standing_of}
use Rattle.chart_machine_laws.specs.Tree.{around, holder}
use Rattle.chart_machine_laws.proofs.LyingIn.{none_in, head_in, head_or_tail}
use Rattle.tick_laws.proofs.Lists.{same_or_not, get_set_other, get_set_same}
use Rattle.abort_expansion.specs.Transitions.{put, is_raised}
use Rattle.abort_expansion_laws.proofs.FlagAccess.{raised_access}
use Rattle.abort_expansion_laws.proofs.KnownVariables.{Stepped, stepped, trigger_known}
use Rattle.abort_expansion_laws.proofs.MoreValues.{number_value, up_verdict}
use Rattle.preemption_laws.proofs.ApartTogether.{IsOpen, open_guarding, open_within}
use Rattle.preemption_laws.specs.Looks.{look, Looks}
use Rattle.preemption_laws.specs.Waiting.{holds}
use Rattle.preemption_laws.proofs.ChangesMade.{Writes, writes_nothing, writes_effect, what_is_made}
use Rattle.preemption_laws.proofs.Forms.{AllWell, InForm}
use Rattle.preemption_laws.proofs.Ground.{Ground, MayOn, enclosed_on}
use Rattle.preemption_laws.proofs.LeaveSteps.{Leaver}
use Rattle.preemption_laws.proofs.SoundCores.{IsSound}

-- ---- a look

-- it reads one variable
pub raised_same : (x y : ℕ) (v : Value) (values : List Value) → x ≢ y →
    verdict (slice_set values y v) (Some (is_raised x)) ≡ verdict values (Some (is_raised x))
raised_same x y v values ne =
    ap (option_and_then truth) (value_same (is_raised x) (slice_set values y v) values
    (record {
      at = λ z h.
          get_set_other values y z v
          (λ same.
          ⊎_elim (λ one. ne (one ∙ same)) (λ none. none_in z none)
          (head_or_tail x z [] (subst (λ a. Contains a.reads z) (raised_access x) h)));
    }))

-- a flag that is raised is a variable that is there
pub raised_there : (x : ℕ) (values : List Value) → verdict values (Some (is_raised x)) ≡ Some true → x < length values
raised_there x values is =
    trigger_known values (Some (is_raised x)) true is x (inl (subst (λ a. Contains a.reads x) (sym (raised_access x)) (head_in x [])))

verdict_of : (o : Option Bool) → unwrap_or o false ≡ true → o ≡ Some true
verdict_of None e = absurd cc
verdict_of (Some true) e = refl
verdict_of (Some false) e = absurd cc

pub holds_raised : (c : Configuration) (left x : ℕ) → holds c (look left x) ≡ true → verdict c.variables (Some (is_raised x)) ≡ Some true
holds_raised c left x up = verdict_of (verdict c.variables (Some (is_raised x))) up

module _ (k : Table) (looks : ℕ → List Transition) (l : Looks k looks) (g : Ground k) where
  not_open : (o s p : ℕ) (effects : List Effect) (x : Standing) → x ≡ at.Acting s effects p → IsOpen o x → ⊥
  not_open o s p effects _ e (open_guarding tests) = absurd cc
  not_open o s p effects _ e (open_within tests) = absurd cc

  module _ (c d : Configuration) (t u : ℕ) (sound : IsSound k looks l g c) (steps : step k t c ≡ Some d) (h : Leaver k looks l c u) where
    parts : Stepped k t c d
    parts = stepped k t c d steps

    up_before : verdict c.variables (Some (is_raised h.flag)) ≡ Some true
    up_before = holds_raised c (l.left h.state) h.flag h.raised

    held : holder k h.state ≡ u
    held = (subst (λ x. MayOn k g u x) h.stands (sound.core.sits.stands u)).1

    -- its superstate is open
    around_u : Contains (around k u) (l.superstate_of h.flag)
    around_u = subst (λ r. Contains (around k r) (l.superstate_of h.flag)) held (l.lies_inside h.state h.flag h.seen)

    is_open : IsOpen (l.superstate_of h.flag) (standing_of c (holder k (l.superstate_of h.flag)))
    is_open = (enclosed_on k g c sound.core.sits).around_open u (l.superstate_of h.flag) around_u (λ out. present_now (sym h.stands ∙ out))
      where
        present_now : ¬ (at.Trying h.state (looks h.state) ≡ at.Outside)
        present_now e = absurd cc

    by_effect : (s p : ℕ) (e : Effect) (effects : List Effect) (v : Value) → standing_of c t ≡ at.Acting s (e ∷ effects) p →
        value_of e.value c.variables ≡ Some v → verdict (slice_set c.variables e.variable v) (Some (is_raised h.flag)) ≡ Some true
    by_effect s p e effects v stands is =
        ⊎_elim same (λ ne. raised_same h.flag e.variable v c.variables (λ x. ne (sym x)) ∙ up_before) (same_or_not e.variable h.flag)
      where
        well : AllWell k looks l t (e ∷ effects)
        well = subst (λ x. InForm k looks l t x) stands (sound.core.forms t)

        raises : (n : ℕ) → e ≡ put h.flag (suc n) → verdict (slice_set c.variables e.variable v) (Some (is_raised h.flag)) ≡ Some true
        raises n is_put =
            let value : Some v ≡ Some (value_is.Int (pos (suc n))) =
            sym is ∙ (ap (λ (f : Effect). value_of f.value c.variables) is_put ∙ number_value (suc n) c.variables) in
            let number_is : v ≡ value_is.Int (pos (suc n)) = same_Some v (value_is.Int (pos (suc n))) value in
            let variable : e.variable ≡ h.flag = ap (λ (f : Effect). f.variable) is_put in
            subst (λ y. verdict (slice_set c.variables y v) (Some (is_raised h.flag)) ≡ Some true) (sym variable)
            (subst (λ w. verdict (slice_set c.variables h.flag w) (Some (is_raised h.flag)) ≡ Some true) (sym number_is)
            (up_verdict h.flag (suc n) (slice_set c.variables h.flag (value_is.Int (pos (suc n))))
            (get_set_same c.variables h.flag (value_is.Int (pos (suc n))) (raised_there h.flag c.variables up_before)) (λ z. absurd cc)))

        same : e.variable ≡ h.flag → verdict (slice_set c.variables e.variable v) (Some (is_raised h.flag)) ≡ Some true
        same variable =
            ⊎_elim (λ put_it. raises put_it.0 put_it.1)
            (λ holder_is.
            absurd
            (not_open (l.superstate_of h.flag) s p (e ∷ effects) (standing_of c t) stands
            (subst (λ r. IsOpen (l.superstate_of h.flag) (standing_of c r)) (sym holder_is) is_open)))
            (well.0 h.state h.flag h.seen variable)

    by_write : Writes c (standing_of c t) parts.change → verdict (written parts.change.write c.variables) (Some (is_raised h.flag)) ≡ Some true
    by_write (writes_nothing none) = subst (λ w. verdict (written w c.variables) (Some (is_raised h.flag)) ≡ Some true) (sym none) up_before
    by_write (writes_effect s p e effects v stands is write) =
        subst (λ w. verdict (written w c.variables) (Some (is_raised h.flag)) ≡ Some true) (sym write) (by_effect s p e effects v stands is)

    pub stays_raised : holds d (look (l.left h.state) h.flag) ≡ true
    stays_raised =
        subst (λ (z : Configuration). unwrap_or (verdict z.variables (Some (is_raised h.flag))) false ≡ true) parts.is
        (ap (λ o. unwrap_or o false) (by_write (what_is_made k c t (standing_of c t) parts.change parts.does).0))
