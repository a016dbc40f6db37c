-- One text, one configuration.
use Rattle.std.proofs.Common.{◌≡◌, ℕ, List, refl, sym, subst, ◌∙◌}
use Rattle.std.proofs.lemmas.Option.{same_Some}
use Rattle.serde_json.specs.Data.{Data}
use Rattle.sc_values.specs.declared.value.Value.{Value}
use Rattle.sc_graph.specs.declared.control.Control.{Control}
use Rattle.sc_graph.specs.declared.control.Status.{Status}
use Rattle.ruled_runs.specs.Texts.{Holds, IsSaved}

abbrev with_parts : List Value → List Status → Control
with_parts values threads = record { variables = values; statuses = threads }

same_control : (values others : List Value) (threads rest : List Status) → values ≡ others → threads ≡ rest
    → with_parts values threads ≡ with_parts others rest
same_control values others threads rest first second = rw (first, second) refl

pub one_held : (d : Data) (t u : ℕ) (c e : Control) → Holds d t c → Holds d u e → (t ≡ u) × (c ≡ e)
one_held d t u c e first second =
    let ticks : t ≡ u = same_Some t u (sym first.ticks ∙ second.ticks) in
    let values : c.variables ≡ e.variables = same_Some c.variables e.variables (sym first.values ∙ second.values) in
    let threads : c.statuses ≡ e.statuses = same_Some c.statuses e.statuses (sym first.threads ∙ second.threads) in
    (ticks, same_control c.variables e.variables c.statuses e.statuses values threads)

pub one_saved : (text : List ℕ) (t u : ℕ) (c e : Control) → IsSaved text t c → IsSaved text u e → (t ≡ u) × (c ≡ e)
one_saved text t u c e first second =
    let same : first.is ≡ second.is = same_Some first.is second.is (sym first.reads ∙ second.reads) in
    one_held second.is t u c e (subst (λ d. Holds d t c) same first.holds) second.holds
