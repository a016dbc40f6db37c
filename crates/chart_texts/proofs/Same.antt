-- Two regions, states and operators are the same where their parts are.
use Rattle.std.proofs.Common.{◌≡◌, ◌↔◌, IsTrue, Bool, sym, ap, ◌∙◌}
use Rattle.std.specs.Bool.{Decides}
use Rattle.sc_values.specs.declared.operator.UnaryOperator.{UnaryOperator}
use Rattle.sc_values.specs.declared.operation.Operation.TheVariants as op
use Rattle.sc_values.specs.contracts.operator.UnaryOperatorPartialEq.TheImpl as unary
use Rattle.sc_values.proofs.Equality.{operation_decides}
use Rattle.core_charts.specs.declared.region.Region.{Region}
use Rattle.core_charts.specs.declared.region.State.{State}
use Rattle.core_charts.specs.declared.region.Region.TheOpen.{Region-F, State-F}
use Rattle.core_charts.specs.declared.region.Region.TheViews.{roll-Region, out-Region, roll-out-Region, roll-State, out-State, roll-out-State}
use Rattle.chart_texts.specs.Inside.Same.{HasSameOwn}

pub operators_decide : (f g : UnaryOperator) → Decides (unary.eq-value.it f g) (f ≡ g)
operators_decide f g =
    let whole : Decides (unary.eq-value.it f g) (op.Unary f ≡ op.Unary g) = operation_decides (op.Unary f) (op.Unary g) in
    (λ h. (let e : op.Unary f ≡ op.Unary g = whole.0 h in cc), λ e. whole.1 (ap op.Unary e))

region_opened : (a b : Region-F Region State) → a.name ≡ b.name → a.states ≡ b.states → a ≡ b
region_opened a b name states i = record { name = name i; states = states i }

pub regions_same : (a b : Region) (same : Bool) → (out-Region a).name ≡ (out-Region b).name →
    (IsTrue same ↔ ((out-Region a).states ≡ (out-Region b).states)) → IsTrue same ↔ (a ≡ b)
regions_same a b same name states = (
  λ yes. sym (roll-out-Region a) ∙ ap roll-Region (region_opened (out-Region a) (out-Region b) name (states.0 yes)) ∙ roll-out-Region b,
  λ e. states.1 (ap (λ r. (out-Region r).states) e),
)

state_opened : (a b : State-F Region State) → a.name ≡ b.name → a.is_initial ≡ b.is_initial → a.is_final ≡ b.is_final →
    a.regions ≡ b.regions → a.transitions ≡ b.transitions → a ≡ b
state_opened a b name is_initial is_final regions transitions i =
    record {
      name = name i;
      is_initial = is_initial i;
      is_final = is_final i;
      regions = regions i;
      transitions = transitions i;
    }

pub states_same : (a b : State) (same : Bool) → HasSameOwn a b →
    (IsTrue same ↔ ((out-State a).regions ≡ (out-State b).regions)) → IsTrue same ↔ (a ≡ b)
states_same a b same own regions = (
  λ yes.
      sym (roll-out-State a)
      ∙ ap roll-State (state_opened (out-State a) (out-State b) own.name own.is_initial own.is_final (regions.0 yes) own.transitions)
      ∙ roll-out-State b,
  λ e. regions.1 (ap (λ s. (out-State s).regions) e),
)

pub own_same : (a b : State) → a ≡ b → HasSameOwn a b
own_same a b e = record {
  name = ap (λ s. (out-State s).name) e;
  is_initial = ap (λ s. (out-State s).is_initial) e;
  is_final = ap (λ s. (out-State s).is_final) e;
  transitions = ap (λ s. (out-State s).transitions) e;
}
