-- The step of each thread that is enabled is defined.
use Rattle.std.proofs.Common.{◌≡◌, ℕ, ◌&&◌, Bool, true, false, List, [], ◌∷◌, map, length, Option, Some, slice_get, option_map, option_and_then, Contains, refl}
use Rattle.std.proofs.Common.{sym, ap, subst, ◌∙◌}
use Rattle.std.specs.List.{list_all}
use Rattle.std.proofs.lemmas.Option.{slice_get-map}
use Rattle.std.proofs.lemmas.List.{length-map}
use Rattle.sc_values.specs.declared.value.Value.{Value}
use Rattle.sc_values.specs.declared.value.Value.TheVariants as value
use Rattle.sc_values.specs.declared.value.Kind.{Kind}
use Rattle.sc_values.specs.declared.value.Kind.TheVariants as kind_is
use Rattle.sc_values.specs.declared.operation.Operation.{Operation}
use Rattle.sc_values.specs.Operator.{kind_of, kind_combined}
use Rattle.sc_values.specs.Expr.{kind}
use Rattle.sc_values.specs.Code.{IsWellFormed, code_kind, code_value, tree_of}
use Rattle.sc_values.proofs.Spelling.{spells-tree_of}
use Rattle.sc_values.proofs.WellKinded.{Gives, well_formed_value}
use Rattle.sc_graph.specs.declared.program.Step.{Step}
use Rattle.sc_graph.specs.declared.program.Step.TheVariants as steps
use Rattle.sc_graph.specs.declared.place.Place.TheVariants as place
use Rattle.sc_graph.specs.declared.tables.Tables.{Tables}
use Rattle.sc_graph.specs.declared.control.Control.{Control}
use Rattle.sc_graph.specs.declared.control.Status.TheVariants as status
use Rattle.sc_graph.specs.Program.{Program, kinds, kind_at, step_at, owner_of, entry_of, is_join_step, is_join, is_depth, is_target}
use Rattle.sc_graph.specs.Codes.{StepIsWellFormed, StepIsAssigned}
use Rattle.sc_graph.specs.Structure.{StepStays}
use Rattle.sc_graph.specs.Control.{joined_at, all_ended}
use Rattle.sc_graph.specs.Steps.{Change, Keep, Put, Combine, Effect, only_if, is_kind, takes_kind, goes, assigned, updated, branched, enters, is_entered}
use Rattle.sc_graph.specs.Steps.{node_effect, leaves, join_effect, status_effect, effect, step, after}
use Rattle.sc_graph.specs.Threads.{IsFork}
use Rattle.sc_graph.specs.Tick.{IsConfiguration, IsPlace}
use Rattle.sc_graph.specs.Valid.{IsFormed, IsValid}
use Rattle.tick_laws.proofs.Lists.{true_both, list_all_from}
use Rattle.tick_laws.proofs.Formed.{valid_formed, has_step, join_owned, join_step, step_stays, child_entry, entry_target}
use Rattle.tick_laws.proofs.Views.{Enabled, stands, completes, all_ended_from}

kind_is_itself : (k : Kind) → is_kind k k ≡ true
kind_is_itself kind_is.Bool = refl
kind_is_itself kind_is.Int = refl

takes_own : (o : Option Kind) (k : Kind) → o ≡ Some k → takes_kind o k ≡ true
takes_own o k h = ap (λ o. takes_kind o k) h ∙ kind_is_itself k

allowed_back : {A : Type 0} (b : Bool) (o : Option A) → b ≡ true → only_if b o ≡ o
allowed_back b o h = ap (λ b. only_if b o) h

-- a step that has an effect
abbrev HasEffect : Option Effect → Type 0
HasEffect o = (e : Effect) × (o ≡ Some e)

goes_on : (p : Program) (t : ℕ) (change : Change) (n : ℕ) → is_target p t n ≡ true → HasEffect (goes p t change n)
goes_on p t change n h = (
  record { change = change; moves = (t, status.At n) ∷ [] },
  allowed_back (is_target p t n) (Some (record { change = change; moves = (t, status.At n) ∷ [] })) h,
)

only_when : (b : Bool) (o : Option Effect) → b ≡ true → HasEffect o → HasEffect (only_if b o)
only_when b o h e = (e.0, allowed_back b o h ∙ e.1)

from_value : (f : Value → Option Effect) (o : Option Value) (v : Value) → o ≡ Some v → HasEffect (f v) → HasEffect (option_and_then f o)
from_value f o v h e = (e.0, ap (option_and_then f) h ∙ e.1)

of_bool : (v : Value) → kind_of v ≡ kind_is.Bool → (b : Bool) × (v ≡ value.Bool b)
of_bool (value.Bool b) h = (b, refl)
of_bool (value.Int n) h = absurd (cc)

module _ (p : Program) (c : Control) (t : ℕ) where
  branches : (on_true on_false : ℕ) (b : Bool) → is_target p t on_true ≡ true → is_target p t on_false ≡ true
      → HasEffect (branched p t on_true on_false (value.Bool b))
  branches on_true on_false true h k = goes_on p t Keep on_true h
  branches on_true on_false false h k = goes_on p t Keep on_false k

  -- what a well-formed code gives: a value of the kind of its tree
  record Evaluates (code : List Operation) : Type 0 where
    pub v : Value
    pub is : code_value code c.variables ≡ Some v
    pub kind : code_kind code (kinds p) ≡ Some (kind_of v)

  evaluates : IsConfiguration p c → (code : List Operation) → IsWellFormed (kinds p) code → Evaluates code
  evaluates ok code w =
      let g : Gives (code_value code c.variables) w.gives = well_formed_value (kinds p) code c.variables w lengths each in
      let tree : tree_of code ≡ Some w.spelt = spells-tree_of code w.spelt w.spells in
      record { v = g.value; is = g.is; kind = ap (option_and_then (λ e. kind e (kinds p))) tree ∙ (w.kinded ∙ ap Some (sym g.kind)) }
    where
      lengths : length c.variables ≡ length (kinds p)
      lengths = ok.values ∙ sym (length-map p.variables (λ v. v.kind))

      each : (x : ℕ) (v : Value) → slice_get c.variables x ≡ Some v → slice_get (kinds p) x ≡ Some (kind_of v)
      each x v h = slice_get-map (λ v. v.kind) p.variables x ∙ ok.kinds x v h

  node_defined : IsFormed p → IsConfiguration p c → (n : ℕ) (s : Step) → owner_of p n ≡ Some t → step_at p n ≡ Some s → is_join_step (Some s) ≡ false
      → StepStays p t s → StepIsWellFormed p s → StepIsAssigned p s → HasEffect (node_effect p c t s)
  node_defined formed ok n (steps.Assign x code m) owned at no_join stays well written =
      let v = evaluates ok code well in
      from_value (assigned p t x m) (code_value code c.variables) v.v v.is
      (only_when (takes_kind (kind_at p x) (kind_of v.v)) (goes p t (Put x v.v) m)
      (takes_own (kind_at p x) (kind_of v.v) (written.variable_takes ∙ sym written.code_gives ∙ v.kind)) (goes_on p t (Put x v.v) m stays))
  node_defined formed ok n (steps.Update x f code m) owned at no_join stays well written =
      let v = evaluates ok code well in
      let here : kind_at p x ≡ Some (kind_of v.v) = written.0.variable_takes ∙ sym written.0.code_gives ∙ v.kind in
      let fits : is_kind (kind_combined f) (kind_of v.v) ≡ true = takes_own (Some (kind_combined f)) (kind_of v.v) (sym written.1 ∙ here) in
      from_value (updated p t x f m) (code_value code c.variables) v.v v.is
      (only_when (takes_kind (kind_at p x) (kind_of v.v) && is_kind (kind_combined f) (kind_of v.v)) (goes p t (Combine x f v.v) m)
      (true_both (takes_kind (kind_at p x) (kind_of v.v)) (is_kind (kind_combined f) (kind_of v.v)) (takes_own (kind_at p x) (kind_of v.v) here) fits)
      (goes_on p t (Combine x f v.v) m stays))
  node_defined formed ok n (steps.Cond code on_true on_false) owned at no_join stays well written =
      let v = evaluates ok code well.0 in
      let b : (b : Bool) × (v.v ≡ value.Bool b) = of_bool v.v (of_kind (kind_of v.v) v.kind) in
      from_value (branched p t on_true on_false) (code_value code c.variables) (value.Bool b.0) (v.is ∙ ap Some b.1)
      (branches on_true on_false b.0 stays.0 stays.1)
    where
      of_kind : (k : Kind) → code_kind code (kinds p) ≡ Some k → k ≡ kind_is.Bool
      of_kind k h = let e = well.1 in cc
  node_defined formed ok n (steps.Fork children j) owned at no_join stays well written =
      let fork : IsFork p n t children j = record { owned = owned; forks = at } in
      let entered : list_all (λ k. is_entered p k (entry_of p k)) children ≡ true = list_all_from (λ k. is_entered p k (entry_of p k)) children
      (enters_own fork) in
      only_when (is_join p t j && list_all (λ k. is_entered p k (entry_of p k)) children)
      (Some (record { change = Keep; moves = (t, status.Waiting j) ∷ map (λ k. enters k (entry_of p k)) children }))
      (true_both (is_join p t j) (list_all (λ k. is_entered p k (entry_of p k)) children) stays.0 entered)
      (_, refl)
    where
      enters_own : IsFork p n t children j → (k : ℕ) → Contains children k → is_entered p k (entry_of p k) ≡ true
      enters_own fork k child =
          let m : (m : ℕ) × (entry_of p k ≡ Some m) = child_entry p formed n t children j k fork child in
          ap (is_entered p k) m.1 ∙ entry_target p formed k m.0 m.1
  node_defined formed ok n (steps.Join m) owned at no_join stays well written = absurd (cc)
  node_defined formed ok n (steps.Surf d) owned at no_join stays well written = only_when (is_depth p t d)
      (Some (record { change = Keep; moves = (t, status.Paused d) ∷ [] })) stays (_, refl)
  node_defined formed ok n (steps.Depth m) owned at no_join stays well written = goes_on p t Keep m stays
  node_defined formed ok n steps.Exit owned at no_join stays well written = (_, refl)

  join_defined : IsFormed p → (j : ℕ) (children : List ℕ) → is_join p t j ≡ true → joined_at p j ≡ Some children
      → HasEffect (join_effect p t (joined_at p j) (step_at p j))
  join_defined formed j children h joined =
      let s : (m : ℕ) × (step_at p j ≡ Some (steps.Join m)) = join_step p t j h in
      let target : is_target p t s.0 ≡ true = step_stays p formed j t (steps.Join s.0) (join_owned p t j h) s.1 in
      let left : HasEffect (leaves p t s.0 children) = only_when (is_target p t s.0)
      (Some (record { change = Keep; moves = (t, status.At s.0) ∷ map (λ k. (k, status.Absent)) children })) target (_, refl) in
      (left.0, ap (λ o. join_effect p t o (step_at p j)) joined ∙ (ap (join_effect p t (Some children)) s.1 ∙ left.1))

-- a enabled thread's step is defined
pub defined : (p : Program) (q : Tables) → IsValid p q → (c : Control) → IsConfiguration p c → (t : ℕ) → Enabled p c t → (e : Effect) × (effect p c t ≡ Some e)
defined p q valid c ok t (stands n at) =
    let here : IsPlace p t (status.At n) = subst (IsPlace p t) at (ok.places t) in
    let s : (s : Step) × (step_at p n ≡ Some s) = has_step p n t here.0 in
    let e : HasEffect (node_effect p c t s.0) =
    node_defined p c t (valid_formed p q valid) ok n s.0 here.0 s.1 (ap is_join_step (sym s.1) ∙ here.1)
    (step_stays p (valid_formed p q valid) n t s.0 here.0 s.1) (valid.code (place.Node n) s.0 s.1) (valid.assignment (place.Node n) s.0 s.1) in
    (e.0, ap (status_effect p c t) at ∙ (ap (option_and_then (node_effect p c t)) s.1 ∙ e.1))
defined p q valid c ok t (completes h) =
    let here : is_join p t h.join ≡ true = subst (IsPlace p t) h.at (ok.places t) in
    let e : HasEffect (join_effect p t (joined_at p h.join) (step_at p h.join)) = join_defined p c t (valid_formed p q valid) h.join h.children here h.joined in
    let ended : all_ended c (joined_at p h.join) ≡ true = ap (all_ended c) h.joined ∙ all_ended_from c h.children h.ended in (
      e.0,
      ap (status_effect p c t) h.at ∙ (allowed_back (all_ended c (joined_at p h.join)) (join_effect p t (joined_at p h.join) (step_at p h.join)) ended
          ∙ e.1),
    )

-- so does a machine's step
pub step_defined : (p : Program) (q : Tables) → IsValid p q → (c : Control) → IsConfiguration p c → (t : ℕ) → Enabled p c t
    → (d : Control) × (step p t c ≡ Some d)
step_defined p q valid c ok t r = let e = defined p q valid c ok t r in (after e.0 c, ap (option_map (λ e. after e c)) e.1)
