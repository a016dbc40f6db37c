-- What is done from one place is done from any place that leads to the same statement.
use Rattle.std.proofs.Common.{◌≡◌, ◌≢◌, ℕ, zero, suc, ◌<◌, Bool, true, false, ◌||◌, if◌then◌else◌, Option, Some, None, List, []}
use Rattle.std.proofs.Common.{◌∷◌, refl, sym, ◌∙◌, arith}
use Rattle.std.proofs.lemmas.Option.{same_Some}
use Rattle.sc_values.specs.declared.expression.Expr.{Expr}
use Rattle.core_charts.specs.declared.region.Effect.{Effect}
use Rattle.core_charts.specs.declared.region.Transition.{Transition}
use Rattle.chart_machine.specs.declared.table.Table.{Table}
use Rattle.chart_machine.specs.Table.{state_at}
use Rattle.chart_machine.specs.Steps.{state_in}
use Rattle.scl.specs.Block.{Block, End, Assign, Label, Goto, Pause, If, Fork}
use Rattle.scl.specs.Labels.{settled}
use Rattle.scl_graph_laws.specs.Standing.{IsStep}
use Rattle.chart_lowering_laws.specs.Layout.{Layout, Acts, Tests, Tries, Takes, TriesOut}

pub settled_step : (root todo : Block) → IsStep todo → settled root todo ≡ Some todo
settled_step root (End n) is = refl
settled_step root (Assign n x e rest) is = refl
settled_step root (Label name rest) is = absurd is
settled_step root (Goto g name rest) is = absurd is
settled_step root (Pause n rest) is = refl
settled_step root (If n e a b rest) is = refl
settled_step root (Fork n branches rest) is = refl

pub is_there : (root todo first : Block) → IsStep todo → settled root todo ≡ Some first → todo ≡ first
is_there root todo first is h = same_Some todo first (sym (settled_step root todo is) ∙ h)

-- what is acted or tried from here is so from wherever leads to the same statement
pub acts_alike : (root into : Block) (effects : List Effect) (todo other : Block) → settled root todo ≡ settled root other → Acts root into effects todo →
    Acts root into effects other
acts_alike root into [] todo other same h = sym same ∙ h
acts_alike root into (e ∷ effects) todo other same h = (h.0, h.1, sym same ∙ h.2, h.3)

pub takes_alike : (k : Table) (root : Block) (l : Layout) (r : ℕ) (t : Transition) (todo other : Block) → settled root todo ≡ settled root other →
    Takes k root l r t todo → Takes k root l r t other
takes_alike k root l r t todo other same h = (h.0, acts_alike root (l.begin (state_in k r t.target)) t.effects todo other same h.1)

pub tries_alike : (k : Table) (root : Block) (l : Layout) (s : ℕ) (tests : List Transition) (todo other : Block) → settled root todo ≡ settled root other →
    TriesOut k root l s tests todo → TriesOut k root l s tests other
tries_alike k root l s [] todo other same h = (h.0, h.1, h.2, sym same ∙ h.3)
tries_alike k root l s (t ∷ tests) todo other same h = by t.trigger h
  where
    by : (trigger : Option Expr) → Tests root trigger (Takes k root l (state_at k s).holder t)
        (Tries root (Takes k root l (state_at k s).holder) (l.pause s) tests) todo →
        Tests root trigger (Takes k root l (state_at k s).holder t) (Tries root (Takes k root l (state_at k s).holder) (l.pause s) tests) other
    by None h = takes_alike k root l (state_at k s).holder t todo other same h
    by (Some e) h = (h.0, h.1, h.2, h.3, sym same ∙ h.4, h.5, h.6)
