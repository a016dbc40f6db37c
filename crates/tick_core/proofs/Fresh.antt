-- A claim stays fresh while other leaders step, and its value is the one over the present variables.
use Rattle.std.proofs.Common.{◌≡◌, ◌≢◌, ℕ, ◌+◌, ◌<◌, List, [], ◌∷◌, length, filter_map, Option, Some, None, option_map, option_and_then, slice_get, unwrap_or}
use Rattle.std.proofs.Common.{Contains, refl, sym, ap, subst, ◌∙◌, arith}
use Rattle.std.specs.List.{cons_option}
use Rattle.std.proofs.lemmas.List.{length-map}
use Rattle.std.proofs.lemmas.Option.{slice_get-map, slice_get_within}
use Rattle.sc_values.specs.declared.value.Value.{Value}
use Rattle.sc_values.specs.declared.value.Kind.{Kind}
use Rattle.sc_values.specs.declared.operation.Operation.{Operation}
use Rattle.sc_values.specs.Access.{Reads, no_access}
use Rattle.sc_values.specs.Code.{loads, code_value, IsWellFormed}
use Rattle.sc_values.specs.Checked.{Checked, loaded_from, value_over}
use Rattle.sc_values.specs.Operator.{kind_of}
use Rattle.sc_values.proofs.WellKinded.{Gives, AreOf}
use Rattle.sc_values.proofs.Evaluating.{present_value}
use Rattle.sc_graph.specs.declared.program.Variable.{Variable}
use Rattle.sc_graph.specs.declared.program.Step.{Step}
use Rattle.sc_graph.specs.declared.program.Step.TheVariants as step_is
use Rattle.sc_graph.specs.declared.control.Control.{Control}
use Rattle.sc_graph.specs.declared.control.Status.{Status}
use Rattle.sc_graph.specs.declared.control.Status.TheVariants as status
use Rattle.sc_graph.specs.declared.tables.Tables.{Tables}
use Rattle.sc_graph.specs.Program.{Program, step_at, kinds}
use Rattle.sc_graph.specs.declared.place.Place.TheVariants as place
use Rattle.sc_graph.specs.Codes.{StepIsWellFormed}
use Rattle.sc_graph.specs.Accesses.{access_of}
use Rattle.sc_graph.specs.Control.{status_of, access_at}
use Rattle.sc_graph.specs.Steps.{Effect, after, effect, step}
use Rattle.sc_graph.specs.Priority.{Leads}
use Rattle.sc_graph.specs.Tick.{IsConfiguration}
use Rattle.sc_graph.specs.Valid.{IsValid}
use Rattle.tick_laws.proofs.Formed.{valid_formed}
use Rattle.tick_laws.proofs.Lists.{contains_head, contains_tail, slice_get_there, and_then_some}
use Rattle.tick_laws.proofs.Views.{enabled_view, does}
use Rattle.tick_laws.proofs.Sound.{keeps_self}
use Rattle.tick_laws.proofs.Claims.{leads_kept, operands_kept}
use Rattle.tick_laws.proofs.RunsOn.{stepped_by}
use Rattle.tick_core.specs.Claims.{Claim, value_by, operations_of, present_operands}
use Rattle.tick_core.specs.Stepping.{code_of, node_of, code_at}
use Rattle.tick_core.specs.Inside.Work.{value_at}
use Rattle.tick_core.specs.State.{IsFresh}

loads_same : (code : List Operation) (v w : List Value) → ((x : ℕ) → Contains (loads code) x → slice_get v x ≡ slice_get w x) → loaded_from v code
    ≡ loaded_from w code
loads_same code v w same = go (loads code) same
  where
    go : (xs : List ℕ) → ((x : ℕ) → Contains xs x → slice_get v x ≡ slice_get w x) → filter_map (slice_get v) xs ≡ filter_map (slice_get w) xs
    go [] each = refl
    go (x ∷ xs) each =
        ap (λ o. cons_option o (filter_map (slice_get v) xs)) (each x (contains_head x xs))
        ∙ ap (cons_option (slice_get w x)) (go xs (λ y within. each y (contains_tail x y xs within)))

step_reads : (s : Step) (code : List Operation) → code_of s ≡ Some code → (access_of s).reads ≡ loads code
step_reads (step_is.Assign x k onward) code is = let e : k ≡ code = cc in ap loads e
step_reads (step_is.Update x f k onward) code is = let e : k ≡ code = cc in ap loads e
step_reads (step_is.Cond k on_true on_false) code is = let e : k ≡ code = cc in ap loads e
step_reads (step_is.Fork children j) code is = absurd cc
step_reads (step_is.Join onward) code is = absurd cc
step_reads (step_is.Surf depth) code is = absurd cc
step_reads (step_is.Depth onward) code is = absurd cc
step_reads step_is.Exit code is = absurd cc

node_reads : (o : Option Step) (code : List Operation) → option_and_then code_of o ≡ Some code → (unwrap_or (option_map access_of o) no_access).reads
    ≡ loads code
node_reads None code is = absurd cc
node_reads (Some s) code is = step_reads s code is

-- a step reads what its code loads
reads_at : (p : Program) (st : Status) (code : List Operation) → code_at p st ≡ Some code → (access_at p st).reads ≡ loads code
reads_at p (status.At n) code is = node_reads (step_at p n) code is
reads_at p (status.Waiting j) code is = node_reads (step_at p j) code is
reads_at p status.Absent code is = absurd cc
reads_at p (status.Paused d) code is = absurd cc
reads_at p status.Ended code is = absurd cc

operands_same : (p : Program) (st : Status) (v w : List Value) → ((x : ℕ) → Reads (access_at p st) x → slice_get v x ≡ slice_get w x) →
    present_operands v (code_at p st) ≡ present_operands w (code_at p st)
operands_same p st v w same = go (code_at p st) refl
  where
    go : (o : Option (List Operation)) → code_at p st ≡ o → present_operands v o ≡ present_operands w o
    go None is = refl
    go (Some code) is = loads_same code v w (λ x within. same x (subst (λ xs. Contains xs x) (sym (reads_at p st code is)) within))

module _ (p : Program) (q : Tables) (valid : IsValid p q) (c : Control) (ok : IsConfiguration p c) where
  fresh_after : (t u n : ℕ) (a : Claim) (e : Effect) → u ≢ t → Leads p q c t → effect p c t ≡ Some e → IsFresh p q c n u a → IsFresh p q (after e c) (n + 1) u a
  fresh_after t u n a e other leads is fresh =
      let stands : status_of (after e c) u ≡ status_of c u = keeps_self p (valid_formed p q valid) c ok u t other (enabled_view p c u fresh.leads.enabled) e
      (does p c t e is) in
      let same : present_operands (after e c).variables (code_at p (status_of c u)) ≡ present_operands c.variables (code_at p (status_of c u)) =
      operands_same p (status_of c u) (after e c).variables c.variables (λ x reads. operands_kept p q valid c ok u t other fresh.leads leads e is x reads) in
      record {
        thread = fresh.thread;
        worker = fresh.worker;
        leads = leads_kept p q valid c ok u t other fresh.leads e is;
        node = ap node_of stands ∙ fresh.node;
        code = fresh.code ∙ sym (ap (code_at p) stands);
        checked = fresh.checked;
        operands = fresh.operands ∙ (sym same ∙ sym (ap (λ st. present_operands (after e c).variables (code_at p st)) stands));
        before = omega (arith, fresh.before);
      }

  -- a leader's step leaves the others' claims fresh
  pub fresh_kept : (t u n : ℕ) (a : Claim) (d : Control) → u ≢ t → Leads p q c t → step p t c ≡ Some d → IsFresh p q c n u a → IsFresh p q d (n + 1) u a
  fresh_kept t u n a d other leads stepped fresh =
      let by = stepped_by p t c d stepped in
      subst (λ d. IsFresh p q d (n + 1) u a) by.leads (fresh_after t u n a by.e other leads by.is fresh)

step_formed : (p : Program) (s : Step) (code : List Operation) → StepIsWellFormed p s → code_of s ≡ Some code → IsWellFormed (kinds p) code
step_formed p (step_is.Assign x k onward) code well is = let e : k ≡ code = cc in subst (IsWellFormed (kinds p)) e well
step_formed p (step_is.Update x f k onward) code well is = let e : k ≡ code = cc in subst (IsWellFormed (kinds p)) e well
step_formed p (step_is.Cond k on_true on_false) code well is = let e : k ≡ code = cc in subst (IsWellFormed (kinds p)) e well.0
step_formed p (step_is.Fork children j) code well is = absurd cc
step_formed p (step_is.Join onward) code well is = absurd cc
step_formed p (step_is.Surf depth) code well is = absurd cc
step_formed p (step_is.Depth onward) code well is = absurd cc
step_formed p step_is.Exit code well is = absurd cc

node_formed : (p : Program) (q : Tables) → IsValid p q → (n : ℕ) (code : List Operation) → option_and_then code_of (step_at p n) ≡ Some code
    → IsWellFormed (kinds p) code
node_formed p q valid n code is =
    let found = and_then_some code_of (step_at p n) code is in
    step_formed p found.0 code (valid.code (place.Node n) found.0 found.1) found.2

-- the code of a step of a valid program is well formed
pub code_formed : (p : Program) (q : Tables) → IsValid p q → (st : Status) (code : List Operation) → code_at p st ≡ Some code → IsWellFormed (kinds p) code
code_formed p q valid (status.At n) code is = node_formed p q valid n code is
code_formed p q valid (status.Waiting j) code is = node_formed p q valid j code is
code_formed p q valid status.Absent code is = absurd cc
code_formed p q valid (status.Paused d) code is = absurd cc
code_formed p q valid status.Ended code is = absurd cc

-- the present values are of the variables' kinds
pub values_are : (p : Program) (c : Control) → IsConfiguration p c → AreOf (kinds p) c.variables
values_are p c ok = record { each = each }
  where
    each : (x : ℕ) (k : Kind) → slice_get (kinds p) x ≡ Some k → Gives (slice_get c.variables x) k
    each x k is =
        let below : x < length c.variables = omega (arith, slice_get_within (kinds p) x k is, length-map p.variables (λ (v : Variable). v.kind), ok.values) in
        let v = slice_get_there c.variables x below in
        let same : Some k ≡ Some (kind_of v.0) = sym is ∙ (slice_get-map (λ (v : Variable). v.kind) p.variables x ∙ ok.kinds x v.0 v.1) in
        record { value = v.0; is = v.1; kind = cc }

-- the value of a fresh claim is what the step takes
pub fresh_value : (p : Program) (q : Tables) (c : Control) (n t : ℕ) (a : Claim) → IsConfiguration p c → IsFresh p q c n t a → value_by a.code a.operands
    ≡ value_at p c (status_of c t)
fresh_value p q c n t a ok fresh = go a.code refl
  where
    over : Option (List Operation) → Option Value
    over o = option_and_then (λ code. code_value code c.variables) o

    go : (k : Option Checked) → a.code ≡ k → value_by k a.operands ≡ value_at p c (status_of c t)
    go None is = ap over (sym (ap operations_of is) ∙ fresh.code)
    go (Some k) is =
        let code_is : Some k.operations ≡ code_at p (status_of c t) = sym (ap operations_of is) ∙ fresh.code in
        let operands_are : a.operands ≡ loaded_from c.variables k.operations = fresh.operands ∙ sym (ap (present_operands c.variables) code_is) in
        ap (λ operands. value_over operands k.operations) operands_are
        ∙ (present_value (kinds p) k.operations c.variables (fresh.checked k is).formed (values_are p c ok) ∙ ap over code_is)

-- a code that stands at a thread's node, and the kinds and values that it loads from
pub record CodeStands (p : Program) (c : Control) (t : ℕ) (kinds : List Kind) (code : List Operation) : Type 0 where
  pub found : Some code ≡ code_at p (status_of c t)
  pub formed : IsWellFormed kinds code
  pub of_kinds : AreOf kinds c.variables

pub code_stands : (p p' : Program) (q : Tables) (c : Control) (t : ℕ) (variable_kinds : List Kind) (st : Status) (o : Option (List Operation))
    (code : List Operation) →
    IsValid p q → IsConfiguration p c → variable_kinds ≡ kinds p → p' ≡ p → st ≡ status_of c t → o ≡ Some code → o ≡ code_at p' st
    → CodeStands p c t variable_kinds code
code_stands p p' q c t variable_kinds st o code valid ok kinds_is p_is st_is is at =
    let here : Some code ≡ code_at p (status_of c t) = sym is ∙ (at ∙ (ap (λ x. code_at x st) p_is ∙ ap (code_at p) st_is)) in
    record {
      found = here;
      formed = subst (λ k. IsWellFormed k code) (sym kinds_is) (code_formed p q valid (status_of c t) code (sym here));
      of_kinds = subst (λ k. AreOf k c.variables) (sym kinds_is) (values_are p c ok);
    }
