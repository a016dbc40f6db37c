-- Where a region of a core chart stands before looks of which one holds, it leaves by a run of its own: the machine that waits does so by one step.
use Rattle.std.proofs.Common.{◌≡◌, ℕ, ◌<◌, Bool, true, false, ◌||◌, if◌then◌else◌, Option, Some, None, option_map, option_and_then, List, [], ◌∷◌, map, length}
use Rattle.std.proofs.Common.{unwrap_or, set-set, Contains, refl, sym, ap, subst, ◌∙◌, arith}
use Rattle.std.specs.List.{list_any}
use Rattle.std.proofs.lemmas.Option.{same_Some}
use Rattle.sc_values.specs.Runs.{replay}
use Rattle.core_charts.specs.declared.features.Features.TheVariants as features
use Rattle.core_charts.specs.declared.region.Transition.{Transition}
use Rattle.core_charts.specs.Chart.{Chart}
use Rattle.core_charts.specs.Rules.{IsChart}
use Rattle.chart_machine.specs.declared.region_change.RegionChange.{RegionChange}
use Rattle.chart_machine.specs.declared.standing.Configuration.{Configuration}
use Rattle.chart_machine.specs.declared.standing.Standing.TheVariants as at
use Rattle.chart_machine.specs.declared.table.Table.{Table}
use Rattle.chart_machine.specs.Machine.{machine}
use Rattle.chart_machine.specs.Steps.{to, taken, verdict, change_of, after, step, state_in}
use Rattle.chart_machine.specs.Table.{table, state_at}
use Rattle.chart_machine.specs.Turns.{standing_of, inside, is_enabled}
use Rattle.chart_machine_laws.specs.Progress.{IsReached, stepped as reached_on}
use Rattle.chart_machine_laws.specs.Tree.{around, holder}
use Rattle.chart_machine_laws.proofs.LyingIn.{head_in, tail_in}
use Rattle.abort_expansion_laws.proofs.KnownVariables.{Stepped, stepped}
use Rattle.abort_expansion_laws.proofs.Leaving.{at_number, set_here}
use Rattle.preemption_laws.proofs.RunsComplete.{has_step}
use Rattle.preemption_laws.specs.Looks.{look, Looks}
use Rattle.preemption_laws.specs.Waiting.{holds, gone}
use Rattle.preemption_laws.proofs.CoreTries.{held}
use Rattle.preemption_laws.proofs.Ground.{Ground, enclosed_on}
use Rattle.preemption_laws.proofs.LeaveSteps.{nobody_inside}
use Rattle.preemption_laws.proofs.SoundCores.{IsCore, core_still, not_guarded}

module _ (e : Chart) (rules : IsChart features.Core e) (looks : ℕ → List Transition) (l : Looks (table e) looks) (g : Ground (table e)) where
  abbrev K : Table
  K = table e

  abbrev tests : ℕ → List ℕ → List Transition
  tests s xs = map (look (l.left s)) xs

  -- the run, and that what it leads to is reached too
  pub record LeaveRun (c : Configuration) (t : ℕ) : Type 0 where
    pub run : List ℕ
    pub runs : replay (machine K) run c ≡ Some (gone K looks t c)
    pub reached : IsReached K (gone K looks t c)

  module _ (t s : ℕ) where
    -- the looks that are left are some of the state's
    pub leave_run : (xs : List ℕ) → ((x : ℕ) → Contains xs x → Contains (l.seen s) x) → (c : Configuration) → IsCore K looks l g c → IsReached K c →
        standing_of c t ≡ at.Trying s (tests s xs) → list_any (holds c) (tests s xs) ≡ true → LeaveRun c t
    leave_run [] those c sound reached stands up = absurd cc
    leave_run (y ∷ ys) those c sound reached stands up =
        by_verdict (verdict c.variables (look (l.left s) y).trigger) refl (subst (λ x. change_of K c t x ≡ Some parts.change) stands parts.does)
        (λ d core there at_t rest. leave_run ys (λ x h. those x (tail_in y x ys h)) d core there at_t rest)
      where
        on : is_enabled K c t ≡ true
        on = let free = not_guarded K looks l g c sound.forms (around K t) in rw (stands, free) refl

        one : (d : Configuration) × (step K t c ≡ Some d)
        one = has_step features.Core e rules c reached t on

        parts : Stepped K t c one.0
        parts = stepped K t c one.0 one.1

        in_place : t < length c.regions
        in_place =
            let there = (enclosed_on K g c sound.sits).there t (λ out. (let wrong = sym stands ∙ out in absurd cc)) in
            let size = sound.sits.size in let lt = there.1 in omega (size, lt, arith)

        leaves : verdict c.variables (look (l.left s) y).trigger ≡ Some true → parts.change ≡ record { write = None; moves = taken K t s (look (l.left s) y) } →
            LeaveRun c t
        leaves is change =
            let nobody : inside K s ≡ [] = nobody_inside K looks l g s y (those y (head_in y ys)) in
            let holds_it : holder K s ≡ t = held K looks l g c sound t s (tests s (y ∷ ys)) stands in
            let ends : (state_at K (state_in K t (l.left s))).entered ≡ to t at.Ended ∷ [] =
            subst (λ r. (state_at K (state_in K r (l.left s))).entered ≡ to r at.Ended ∷ []) holds_it (l.ends_there s y (those y (head_in y ys))) in
            let moves : taken K t s (look (l.left s) y) ≡ to t at.Ended ∷ [] = rw (nobody, ends) refl in
            let same : one.0 ≡ gone K looks t c =
            sym parts.is
            ∙ (ap (λ (z : RegionChange). after z c) change
            ∙ ap (λ ms. after (record { write = None; moves = ms }) c) moves) in
            record {
              run = t ∷ [];
              runs = ap (option_and_then (replay (machine K) [])) one.1 ∙ ap Some same;
              reached = subst (IsReached K) same (reached_on c one.0 t reached one.1);
            }

        goes_on : parts.change ≡ record { write = None; moves = to t (at.Trying s (tests s ys)) ∷ [] } →
            verdict c.variables (look (l.left s) y).trigger ≡ Some false →
            ((d : Configuration) → IsCore K looks l g d → IsReached K d → standing_of d t ≡ at.Trying s (tests s ys) →
            list_any (holds d) (tests s ys) ≡ true → LeaveRun d t) → LeaveRun c t
        goes_on change fails more =
            record {
              run = t ∷ rest.run;
              runs = ap (option_and_then (replay (machine K) rest.run)) one.1 ∙ (rest.runs ∙ ap Some gone_same);
              reached = subst (IsReached K) gone_same rest.reached;
            }
          where
            next : Configuration
            next = after (record { write = None; moves = to t (at.Trying s (tests s ys)) ∷ [] }) c

            same : one.0 ≡ next
            same = sym parts.is ∙ ap (λ (z : RegionChange). after z c) change

            still : one.0.variables ≡ c.variables
            still = ap (λ (z : Configuration). z.variables) same

            stands_there : standing_of one.0 t ≡ at.Trying s (tests s ys)
            stands_there =
                ap (λ (z : Configuration). at_number z.regions t) same ∙ set_here c.regions t (at.Trying s (tests s ys)) in_place

            none_first : (a b : Bool) → a ≡ false → (a || b) ≡ true → b ≡ true
            none_first false b is e = e
            none_first true b is e = absurd cc

            up_here : list_any (holds c) (tests s ys) ≡ true
            up_here = none_first (holds c (look (l.left s) y)) (list_any (holds c) (tests s ys)) (ap (λ o. unwrap_or o false) fails) up

            up_there : list_any (holds one.0) (tests s ys) ≡ true
            up_there = ap (λ vs. list_any (λ (w : Transition). unwrap_or (verdict vs w.trigger) false) (tests s ys)) still ∙ up_here

            rest : LeaveRun one.0 t
            rest = more one.0 (core_still K looks l g c one.0 t sound one.1) (reached_on c one.0 t reached one.1) stands_there up_there

            gone_same : gone K looks t one.0 ≡ gone K looks t c
            gone_same =
                ap (gone K looks t) same
                ∙ ap (λ zs. record { variables = c.variables; regions = zs }) (set-set c.regions t (at.Trying s (tests s ys)) at.Ended)

        by_verdict : (v : Option Bool) → verdict c.variables (look (l.left s) y).trigger ≡ v →
            option_map (λ (h : Bool). record { write = None; moves = if h then taken K t s (look (l.left s) y) else to t (at.Trying s (tests s ys)) ∷ [] }) v
            ≡ Some parts.change →
            ((d : Configuration) → IsCore K looks l g d → IsReached K d → standing_of d t ≡ at.Trying s (tests s ys) →
            list_any (holds d) (tests s ys) ≡ true → LeaveRun d t) → LeaveRun c t
        by_verdict None is e more = absurd cc
        by_verdict (Some true) is e more =
            leaves is (sym (same_Some (record { write = None; moves = taken K t s (look (l.left s) y) }) parts.change e))
        by_verdict (Some false) is e more =
            goes_on (sym (same_Some (record { write = None; moves = to t (at.Trying s (tests s ys)) ∷ [] }) parts.change e)) is more
