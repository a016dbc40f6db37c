-- Runs with one more step.
use Rattle.std.proofs.Common.{ℕ, ◌≡◌, ◌+◌, length, arith, Option, Some, None, List, [], ◌∷◌, ◌++◌, ap, ◌∙◌, refl, sym, subst, Result, Ok, Err, IfOk}
use Rattle.std.proofs.lemmas.List.{length-append}
use Rattle.std.specs.Prelude.{option_and_then}
use Rattle.sc_values.specs.Runs.{Machine, replay}
use Rattle.chart_machine.specs.declared.standing.Configuration.{Configuration}
use Rattle.chart_machine.specs.declared.table.Table.{Table}
use Rattle.chart_machine.specs.declared.running.Ran.{Ran}
use Rattle.chart_machine.specs.InOrder.{StepsInOrder}
use Rattle.chart_machine.specs.Steps.{step}
use Rattle.chart_machine.specs.Turns.{first_enabled}

and_then_some : {A B : Type 0} (f : A → Option B) (o : Option A) (d : B) → option_and_then f o ≡ Some d → (x : A) × (o ≡ Some x) × (f x ≡ Some d)
and_then_some f None d h = absurd cc
and_then_some f (Some x) d h = (x, refl, h)

pub replay_more : (m : Machine) (run : List ℕ) (t : ℕ) (c d e : m.Configuration) → replay m run c ≡ Some d → m.step t d ≡ Some e →
    replay m (run ++ t ∷ []) c ≡ Some e
replay_more m [] t c d e leads steps = ap (option_and_then (replay m (t ∷ []))) leads ∙ ap (option_and_then (replay m [])) steps
replay_more m (s ∷ run) t c d e leads steps =
    let f = and_then_some (replay m run) (m.step s c) d leads in
    ap (option_and_then (replay m (run ++ t ∷ []))) f.1 ∙ replay_more m run t f.0 d e f.2 steps

-- a run in order with one more step
pub steps_more : (k : Table) (order run : List ℕ) (r : ℕ) (c d e : Configuration) → StepsInOrder k order run c d → first_enabled k d order ≡ Some r →
    step k r d ≡ Some e → StepsInOrder k order (run ++ r ∷ []) c e
steps_more k order [] r c d e same first steps =
    let here : first_enabled k c order ≡ Some r = ap (λ x. first_enabled k x order) same ∙ first in
    let goes : step k r c ≡ Some e = ap (step k r) same ∙ steps in
    (here, e, goes, refl)
steps_more k order (q ∷ run) r c d e h first steps = (h.0, h.1, h.2, steps_more k order run r h.1 d e h.3 first steps)

pub one_longer : (run : List ℕ) (t n : ℕ) → length run ≡ n → length (run ++ t ∷ []) ≡ n + 1
one_longer run t n long = omega (arith, length-append run (t ∷ []), long)

-- what holds of a run and its end holds of those that are told
pub told : {E : Type 0} (P : List ℕ → Configuration → Type 0) (run : List ℕ) (d : Configuration) (r : Result Ran E) →
    IfOk r (λ ran. ran.run.items ≡ run) → IfOk r (λ ran. ran.end ≡ d) → P run d → IfOk r (λ ran. P ran.run.items ran.end)
told P run d (Ok ran) runs ends holds = subst (λ x. P x ran.end) (sym runs) (subst (λ x. P run x) (sym ends) holds)
told P run d (Err e) runs ends holds = tt
