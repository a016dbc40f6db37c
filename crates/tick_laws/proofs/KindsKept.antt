-- A step keeps one value a variable, each of its variable's kind.
use Rattle.std.proofs.Common.{◌≡◌, ◌≢◌, ℕ, ◌<◌, true, List, length, set, Option, Some, None, slice_get, refl, sym, ap, subst, ◌∙◌, ⊎_elim, length-set}
use Rattle.std.proofs.lemmas.Option.{slice_get_within}
use Rattle.sc_values.specs.declared.value.Value.{Value}
use Rattle.sc_values.specs.declared.value.Value.TheVariants as value
use Rattle.sc_values.specs.declared.value.Kind.{Kind}
use Rattle.sc_values.specs.declared.value.Kind.TheVariants as kind
use Rattle.sc_values.specs.declared.operator.Combination.{Combination}
use Rattle.sc_values.specs.declared.operator.Combination.TheVariants as combine
use Rattle.sc_values.specs.Operator.{kind_of, kind_combined, combined}
use Rattle.sc_graph.specs.declared.program.Step.{Step}
use Rattle.sc_graph.specs.declared.control.Control.{Control}
use Rattle.sc_graph.specs.Program.{Program, kind_at}
use Rattle.sc_graph.specs.Steps.{Change, Keep, Put, Combine, Effect, is_kind, takes_kind, combined_at, changed, after}
use Rattle.tick_laws.proofs.Lists.{same_or_not, get_set_same, get_set_other}
use Rattle.tick_laws.proofs.Views.{Does, simple, forks, joins, Changes}

pub kinds_same : (a b : Kind) → is_kind a b ≡ true → a ≡ b
kinds_same kind.Bool kind.Bool h = refl
kinds_same kind.Int kind.Int h = refl
kinds_same kind.Bool kind.Int h = absurd (cc)
kinds_same kind.Int kind.Bool h = absurd (cc)

taken_kind : (o : Option Kind) (k : Kind) → takes_kind o k ≡ true → o ≡ Some k
taken_kind None k h = absurd (cc)
taken_kind (Some a) k h = ap Some (kinds_same a k h)

-- what a combination gives has the kind of what it combines
combined_kind : (f : Combination) (a b : Value) → kind_combined f ≡ kind_of b → kind_of a ≡ kind_of b → kind_of (combined f a b) ≡ kind_of b
combined_kind combine.Add (value.Int m) (value.Int n) h k = refl
combined_kind combine.Multiply (value.Int m) (value.Int n) h k = refl
combined_kind combine.Min (value.Int m) (value.Int n) h k = refl
combined_kind combine.Max (value.Int m) (value.Int n) h k = refl
combined_kind combine.And (value.Bool a) (value.Bool b) h k = refl
combined_kind combine.Or (value.Bool a) (value.Bool b) h k = refl
combined_kind f (value.Int m) (value.Bool b) h k = absurd (cc)
combined_kind f (value.Bool a) (value.Int n) h k = absurd (cc)
combined_kind combine.And (value.Int m) (value.Int n) h k = absurd (cc)
combined_kind combine.Or (value.Int m) (value.Int n) h k = absurd (cc)
combined_kind f (value.Bool a) (value.Bool b) h k = absurd (cc)

-- each value has the kind of its variable
abbrev pub AreOfKind : Program → List Value → Type 0
AreOfKind p values = (x : ℕ) (v : Value) → slice_get values x ≡ Some v → kind_at p x ≡ Some (kind_of v)

set_kinds : (p : Program) (values : List Value) (y : ℕ) (w : Value) → AreOfKind p values → kind_at p y ≡ Some (kind_of w) → AreOfKind p (set values y w)
set_kinds p values y w each at_y x v h = ⊎_elim here elsewhere (same_or_not x y)
  where
    of_same : y < length values → slice_get (set values y w) y ≡ Some v → w ≡ v
    of_same lt e = let s : slice_get (set values y w) y ≡ Some w = get_set_same values y w lt in cc

    here : x ≡ y → kind_at p x ≡ Some (kind_of v)
    here e =
        let at : slice_get (set values y w) y ≡ Some v = subst (λ x. slice_get (set values y w) x ≡ Some v) e h in
        let within : y < length (set values y w) = slice_get_within (set values y w) y v at in
        let same : w ≡ v = of_same (subst (λ n. y < n) (length-set values y w) within) at in
        subst (λ x. kind_at p x ≡ Some (kind_of v)) (sym e) (subst (λ v. kind_at p y ≡ Some (kind_of v)) same at_y)

    elsewhere : x ≢ y → kind_at p x ≡ Some (kind_of v)
    elsewhere ne = each x v (sym (get_set_other values y x w ne) ∙ h)

combined_kinds : (p : Program) (values : List Value) (y : ℕ) (f : Combination) (w : Value) → AreOfKind p values → kind_at p y ≡ Some (kind_of w)
    → kind_combined f ≡ kind_of w →
    (o : Option Value) → slice_get values y ≡ o → AreOfKind p (combined_at values y f w o)
combined_kinds p values y f w each at_y fits None e = each
combined_kinds p values y f w each at_y fits (Some a) e =
    let same : kind_of a ≡ kind_of w = of_kinds (each y a e) in
    set_kinds p values y (combined f a w) each (at_y ∙ ap Some (sym (combined_kind f a w fits same)))
  where
    of_kinds : kind_at p y ≡ Some (kind_of a) → kind_of a ≡ kind_of w
    of_kinds h = cc

changed_kinds : (p : Program) (s : Step) (change : Change) (values : List Value) → Changes p s change → AreOfKind p values → AreOfKind p (changed change values)
changed_kinds p s Keep values h each = each
changed_kinds p s (Put y w) values h each = set_kinds p values y w each (taken_kind (kind_at p y) (kind_of w) h.1)
changed_kinds p s (Combine y f w) values h each =
    combined_kinds p values y f w each (taken_kind (kind_at p y) (kind_of w) h.1) (kinds_same (kind_combined f) (kind_of w) h.2) (slice_get values y) refl

combined_length : (values : List Value) (y : ℕ) (f : Combination) (w : Value) (o : Option Value) → length (combined_at values y f w o) ≡ length values
combined_length values y f w None = refl
combined_length values y f w (Some a) = length-set values y (combined f a w)

changed_length : (change : Change) (values : List Value) → length (changed change values) ≡ length values
changed_length Keep values = refl
changed_length (Put y w) values = length-set values y w
changed_length (Combine y f w) values = combined_length values y f w (slice_get values y)

-- a step keeps the number of values
pub values_kept : (e : Effect) (c : Control) → length (after e c).variables ≡ length c.variables
values_kept e c = changed_length e.change c.variables

-- a step keeps their kinds
pub kinds_kept : (p : Program) (c : Control) (t : ℕ) (e : Effect) → Does p c t e → AreOfKind p c.variables → AreOfKind p (after e c).variables
kinds_kept p c t e (simple d) each = subst (λ e. AreOfKind p (changed e.change c.variables)) (sym d.is)
    (changed_kinds p d.taken d.change c.variables d.changes each)
kinds_kept p c t e (forks d) each = subst (λ e. AreOfKind p (changed e.change c.variables)) (sym d.is) each
kinds_kept p c t e (joins d) each = subst (λ e. AreOfKind p (changed e.change c.variables)) (sym d.is) each
