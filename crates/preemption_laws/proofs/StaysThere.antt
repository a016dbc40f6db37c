-- In a core chart whoever is there and has not ended is moved by its own steps alone; and a thread that forks others apart takes its next step from
-- inside of their superstate.
use Rattle.std.proofs.Common.{◌≡◌, ◌≢◌, ℕ, zero, ◌⊎◌, inl, inr, Bool, true, false, not, ◌||◌, Some, List, [], ◌∷◌, Contains, refl, sym, ap, arith}
use Rattle.std.proofs.Common.{subst, ◌∙◌}
use Rattle.std.specs.List.{list_all}
use Rattle.scl_graph_laws.proofs.Searching.{unlike}
use Rattle.core_charts.specs.declared.region.Transition.{Transition}
use Rattle.core_charts.specs.Tests.{is_join}
use Rattle.chart_machine.specs.declared.standing.Standing.{Standing}
use Rattle.chart_machine.specs.declared.standing.Standing.TheVariants as at
use Rattle.chart_machine.specs.declared.standing.Configuration.{Configuration}
use Rattle.chart_machine.specs.declared.table.Table.{Table}
use Rattle.chart_machine.specs.Table.{state_at}
use Rattle.chart_machine.specs.Turns.{standing_of, has_ended, has_work, LiesIn, itself, deeper}
use Rattle.chart_machine.specs.Steps.{step}
use Rattle.chart_machine_laws.specs.Tree.{IsThere, LiesUnder, around, holder}
use Rattle.tick_laws.proofs.Lists.{list_all_at}
use Rattle.abort_expansion_laws.proofs.ChartSteps.{StepMade, step_made}
use Rattle.abort_expansion_laws.proofs.KnownVariables.{Stepped, stepped}
use Rattle.abort_expansion_laws.proofs.Leaving.{at_number}
use Rattle.abort_expansion_laws.proofs.SettledInOrder.{ended_back}
use Rattle.preemption_laws.proofs.ApartTogether.{IsOpen, open_guarding, open_within, Through, through}
use Rattle.preemption_laws.proofs.MovesInside.{moves_inside}
use Rattle.preemption_laws.specs.Looks.{Looks}
use Rattle.preemption_laws.proofs.Forms.{InForm}
use Rattle.preemption_laws.proofs.Ground.{Ground, enclosed_on}
use Rattle.preemption_laws.proofs.SoundCores.{IsCore}

abbrev pub is_within : Standing → Bool
is_within (at.Within s tests) = true
is_within other = false

open_not_ended : (s : ℕ) (x : Standing) → IsOpen s x → x ≡ at.Ended → ⊥
open_not_ended s _ (open_guarding tests) e = absurd cc
open_not_ended s _ (open_within tests) e = absurd cc

-- who is there, and has not ended
pub record IsGoing (c : Configuration) (r : ℕ) : Type 0 where
  pub entered : standing_of c r ≢ at.Outside
  pub not_ended : standing_of c r ≢ at.Ended

module _ (k : Table) (looks : ℕ → List Transition) (l : Looks k looks) (g : Ground k) where
  abbrev pub Sound : Configuration → Type 0
  Sound c = IsCore k looks l g c

  module _ (c : Configuration) (sound : Sound c) where
    pub region_there : (r : ℕ) → standing_of c r ≢ at.Outside → IsThere k r
    region_there r entered = (enclosed_on k g c sound.sits).there r entered

    pub in_form : (r : ℕ) (x : Standing) → standing_of c r ≡ x → InForm k looks l r x
    in_form r x stands = subst (InForm k looks l r) stands (sound.forms r)

    -- where a superstate stands around somebody who is there, its region stands within it
    pub record StandsWithin (v : ℕ) : Type 0 where
      pub tests : List Transition
      pub stands : standing_of c (holder k v) ≡ at.Within v tests

    pub stands_around : (q v : ℕ) → standing_of c q ≢ at.Outside → Contains (around k q) v → StandsWithin v
    stands_around q v entered inner = by (standing_of c (holder k v)) refl ((enclosed_on k g c sound.sits).around_open q v inner entered)
      where
        by : (x : Standing) → standing_of c (holder k v) ≡ x → IsOpen v x → StandsWithin v
        by _ stands (open_within tests) = record { tests = tests; stands = stands }
        by _ stands (open_guarding tests) = absurd (in_form (holder k v) (at.Guarding v tests) stands)

    pub within_around : (q v : ℕ) → standing_of c q ≢ at.Outside → Contains (around k q) v → is_within (standing_of c (holder k v)) ≡ true
    within_around q v entered inner = ap is_within (stands_around q v entered inner).stands

    -- where all regions of a superstate have ended nobody inside of it goes
    pub none_going : (v : ℕ) → list_all (λ r. has_ended (standing_of c r)) (state_at k v).regions ≡ true → (r : ℕ) → IsGoing c r →
        ¬ Contains (around k r) v
    none_going v over r going inner = by w.lies
      where
        w : Through k g.tree g.holder_there r v
        w = through k g.tree g.holder_there (around k r) r v refl inner

        ended : standing_of c w.side ≡ at.Ended
        ended =
            ended_back (standing_of c w.side)
            (list_all_at (λ q. has_ended (standing_of c q)) (state_at k v).regions w.side over (g.tree.innermost w.side v w.rest w.directly))

        by : LiesIn k r w.side → ⊥
        by (itself same) = going.not_ended (ap (standing_of c) same ∙ ended)
        by (deeper u further holds) =
            open_not_ended u (standing_of c w.side)
            (subst (λ q. IsOpen u (standing_of c q)) holds ((enclosed_on k g c sound.sits).around_open r u further going.entered)) ended

    -- a superstate whose termination has its turn has regions that have all ended
    pub all_ended : (t v : ℕ) (tests : List Transition) → standing_of c t ≡ at.Within v tests → has_work k c (standing_of c t) ≡ true →
        list_all (λ r. has_ended (standing_of c r)) (state_at k v).regions ≡ true
    all_ended t v [] stands works = let wrong = sym (ap (has_work k c) stands) ∙ works in absurd cc
    all_ended t v (w ∷ ws) stands works =
        closes (is_join w.kind) (list_all (λ r. has_ended (standing_of c r)) (state_at k v).regions) (in_form t (at.Within v (w ∷ ws)) stands).0.0
        (sym (ap (has_work k c) stands) ∙ works)
      where
        closes : (j b : Bool) → j ≡ true → (not j || b) ≡ true → b ≡ true
        closes true b is e = e
        closes false b is e = absurd cc

    module _ (d : Configuration) (t : ℕ) (steps : step k t c ≡ Some d) where
      parts : Stepped k t c d
      parts = stepped k t c d steps

      pub stepping_there : IsThere k t
      stepping_there = region_there t (λ e. (let wrong = sym parts.works ∙ ap (has_work k c) e in absurd cc))

      -- whoever lies inside of where a step is taken has ended
      pub none_inside : (r v : ℕ) → IsGoing c r → Contains (around k r) v → holder k v ≢ t
      none_inside r v going inner same =
          let w : StandsWithin v = stands_around r v going.entered inner in
          let here : standing_of c t ≡ at.Within v w.tests = ap (standing_of c) (sym same) ∙ w.stands in
          none_going v (all_ended t v w.tests here parts.works) r going inner

      -- who does not lie there stays where it stands
      pub stays_elsewhere : (r : ℕ) → ¬ LiesIn k r t → standing_of d r ≡ standing_of c r
      stays_elsewhere r out =
          let made : StepMade k t c d = step_made k t c d steps in
          ap (λ (z : Configuration). at_number z.regions r) (sym made.is)
          ∙ moves_inside k g.tree g.entries g.elsewhere g.state_there t r stepping_there out (standing_of c t) made.change.moves made.makes
          (sound.sits.stands t) c.regions

      -- so whoever is going stays where it stands, as long as it takes no step itself
      pub stays_there : (r : ℕ) → IsGoing c r → r ≢ t → standing_of d r ≡ standing_of c r
      stays_there r going other = stays_elsewhere r out
        where
          out : ¬ LiesIn k r t
          out (itself same) = other same
          out (deeper v inner holds) = none_inside r v going inner holds

      -- a thread from inside of whose superstate a step is taken is there still
      pub forks_within : (a : ℕ) → LiesUnder k t a → (a ≡ zero) ⊎ (is_within (standing_of d a) ≡ true)
      forks_within a (inr none) = inl none
      forks_within a (inl (v, inner, holds)) = inr (ap is_within (stays_there a going other) ∙ within)
        where
          t_here : standing_of c t ≢ at.Outside
          t_here e = let wrong = sym parts.works ∙ ap (has_work k c) e in absurd cc

          within : is_within (standing_of c a) ≡ true
          within = subst (λ q. is_within (standing_of c q) ≡ true) holds (within_around t v t_here inner)

          going : IsGoing c a
          going =
              record {
                entered = λ e. unlike (is_within (standing_of c a)) within (ap is_within e);
                not_ended = λ e. unlike (is_within (standing_of c a)) within (ap is_within e);
              }

          other : a ≢ t
          other same = let less = g.tree.deeper t v inner in omega (less, holds, same, arith)
