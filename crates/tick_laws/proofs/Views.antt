-- What an enabled thread stands at, and what its step does: three cases in place of the eight nodes.
use Rattle.std.proofs.Common.{◌≡◌, ℕ, ◌&&◌, Bool, true, false, List, [], ◌∷◌, map, Option, Some, None, Contains, refl, sym, ap, ◌∙◌}
use Rattle.std.proofs.lemmas.Option.{none-some, same_Some}
use Rattle.std.proofs.lemmas.Bool.{and_parts}
use Rattle.std.specs.List.{list_all}
use Rattle.sc_values.specs.declared.value.Value.{Value}
use Rattle.sc_values.specs.declared.value.Value.TheVariants as value
use Rattle.sc_values.specs.declared.operation.Operation.{Operation}
use Rattle.sc_values.specs.declared.operator.Combination.{Combination}
use Rattle.sc_values.specs.Access.{Access, Init, Updates}
use Rattle.sc_values.specs.Code.{code_value, literal_of}
use Rattle.sc_values.specs.Operator.{kind_of, kind_combined}
use Rattle.sc_values.proofs.Literals.{literal_is_value}
use Rattle.sc_graph.specs.declared.program.Step.{Step}
use Rattle.sc_graph.specs.declared.program.Step.TheVariants as steps
use Rattle.sc_graph.specs.declared.control.Control.{Control}
use Rattle.sc_graph.specs.declared.control.Status.{Status}
use Rattle.sc_graph.specs.declared.control.Status.TheVariants as status
use Rattle.sc_graph.specs.Program.{Program, step_at, entry_of, kind_at, is_join, is_depth, is_target}
use Rattle.sc_graph.specs.Accesses.{access_of}
use Rattle.sc_graph.specs.Control.{status_of, has_ended, joined_at, all_ended, IsEnabled, status_enabled}
use Rattle.sc_graph.specs.Protocol.{successors}
use Rattle.sc_graph.specs.Steps.{Change, Keep, Put, Combine, Effect, only_if, is_kind, takes_kind, goes, assigned, updated, branched, enters, is_entered}
use Rattle.sc_graph.specs.Steps.{forked, paused, node_effect, join_effect, status_effect, effect}
use Rattle.tick_laws.proofs.Lists.{contains_head, contains_tail, list_all_at, list_all_from, and_then_some}

-- thread t waits at a join of which all children have ended
pub record Completes (p : Program) (c : Control) (t : ℕ) : Type 0 where
  pub join : ℕ
  pub children : List ℕ
  pub at : status_of c t ≡ status.Waiting join
  pub joined : joined_at p join ≡ Some children
  pub ended : (k : ℕ) → Contains children k → status_of c k ≡ status.Ended

-- an enabled thread stands at a node, or completes a join
pub data Enabled (p : Program) (c : Control) (t : ℕ) : Type 0 where
  stands : (n : ℕ) → status_of c t ≡ status.At n → Enabled p c t
  completes : Completes p c t → Enabled p c t

-- where a step that moves its own thread alone leads
abbrev pub GoesTo : Program → ℕ → Step → Status → Type 0
GoesTo p t s (status.At m) = Contains (successors s) m × (is_target p t m ≡ true)
GoesTo p t s (status.Paused d) = (s ≡ steps.Surf d) × (is_depth p t d ≡ true)
GoesTo p t s status.Ended = s ≡ steps.Exit
GoesTo p t s (status.Waiting j) = ⊥
GoesTo p t s status.Absent = ⊥

-- an init of x by value v: where it carries a literal, that is v
pub record InitsBy (a : Access) (x : ℕ) (v : Value) : Type 0 where
  pub literal : Option Value
  pub writes : a.writes ≡ Init x literal
  pub by_literal : (w : Value) → literal ≡ Some w → v ≡ w

-- what such a step changes: what its node writes, at the kind of the variable
abbrev pub Changes : Program → Step → Change → Type 0
Changes p s Keep = Unit {0}
Changes p s (Put x v) = InitsBy (access_of s) x v × (takes_kind (kind_at p x) (kind_of v) ≡ true)
Changes p s (Combine x f v) = Updates (access_of s) x f × (takes_kind (kind_at p x) (kind_of v) ≡ true) × (is_kind (kind_combined f) (kind_of v) ≡ true)

-- a step that moves its own thread alone
pub record Simple (p : Program) (c : Control) (t : ℕ) (e : Effect) : Type 0 where
  pub node : ℕ
  pub taken : Step
  pub change : Change
  pub to : Status
  pub at : status_of c t ≡ status.At node
  pub found : step_at p node ≡ Some taken
  pub goes : GoesTo p t taken to
  pub changes : Changes p taken change
  pub is : e ≡ record { change = change; moves = (t, to) ∷ [] }

-- a child comes to stand at its entry, a node of its own
pub record Enters (p : Program) (k : ℕ) : Type 0 where
  pub entry : ℕ
  pub is : entry_of p k ≡ Some entry
  pub target : is_target p k entry ≡ true

-- a step that forks
pub record Forks (p : Program) (c : Control) (t : ℕ) (e : Effect) : Type 0 where
  pub node : ℕ
  pub children : List ℕ
  pub join : ℕ
  pub at : status_of c t ≡ status.At node
  pub found : step_at p node ≡ Some (steps.Fork children join)
  pub own_join : is_join p t join ≡ true
  pub entered : (k : ℕ) → Contains children k → Enters p k
  pub is : e ≡ record { change = Keep; moves = (t, status.Waiting join) ∷ map (λ k. enters k (entry_of p k)) children }

-- a step that completes a join
pub record Joins (p : Program) (c : Control) (t : ℕ) (e : Effect) : Type 0 where
  pub join : ℕ
  pub onward : ℕ
  pub children : List ℕ
  pub at : status_of c t ≡ status.Waiting join
  pub joined : joined_at p join ≡ Some children
  pub found : step_at p join ≡ Some (steps.Join onward)
  pub ended : (k : ℕ) → Contains children k → status_of c k ≡ status.Ended
  pub target : is_target p t onward ≡ true
  pub is : e ≡ record { change = Keep; moves = (t, status.At onward) ∷ map (λ k. (k, status.Absent)) children }

-- what the step of thread t does
pub data Does (p : Program) (c : Control) (t : ℕ) (e : Effect) : Type 0 where
  simple : Simple p c t e → Does p c t e
  forks : Forks p c t e → Does p c t e
  joins : Joins p c t e → Does p c t e

ended_from : (s : Status) → has_ended s ≡ true → s ≡ status.Ended
ended_from status.Ended h = refl
ended_from status.Absent h = cc
ended_from (status.At n) h = cc
ended_from (status.Waiting n) h = cc
ended_from (status.Paused n) h = cc

ended_in : (c : Control) (children : List ℕ) → list_all (λ k. has_ended (status_of c k)) children ≡ true → (k : ℕ) → Contains children k
    → status_of c k ≡ status.Ended
ended_in c children h k in_children = ended_from (status_of c k) (list_all_at (λ u. has_ended (status_of c u)) children k h in_children)

pub all_ended_from : (c : Control) (children : List ℕ) → ((k : ℕ) → Contains children k → status_of c k ≡ status.Ended) → all_ended c (Some children) ≡ true
all_ended_from c children ended = list_all_from (λ u. has_ended (status_of c u)) children (λ k h. ap has_ended (ended k h))

enabled_at_join : (p : Program) (c : Control) (t j : ℕ) (o : Option (List ℕ)) → joined_at p j ≡ o → status_of c t ≡ status.Waiting j → all_ended c o ≡ true
    → Enabled p c t
enabled_at_join p c t j None joined at h = absurd (cc)
enabled_at_join p c t j (Some children) joined at h =
    completes (record { join = j; children = children; at = at; joined = joined; ended = ended_in c children h })

view_from_status : (p : Program) (c : Control) (t : ℕ) (s : Status) → status_of c t ≡ s → status_enabled p c s ≡ true → Enabled p c t
view_from_status p c t (status.At n) at h = stands n at
view_from_status p c t (status.Waiting j) at h = enabled_at_join p c t j (joined_at p j) refl at h
view_from_status p c t status.Absent at h = absurd (cc)
view_from_status p c t (status.Paused d) at h = absurd (cc)
view_from_status p c t status.Ended at h = absurd (cc)

pub enabled_view : (p : Program) (c : Control) (t : ℕ) → IsEnabled p c t → Enabled p c t
enabled_view p c t h = view_from_status p c t (status_of c t) refl h

pub enabled_from : (p : Program) (c : Control) (t : ℕ) → Enabled p c t → IsEnabled p c t
enabled_from p c t (stands n at) = ap (status_enabled p c) at
enabled_from p c t (completes h) =
    ap (status_enabled p c) h.at ∙ (ap (all_ended c) h.joined ∙ all_ended_from c h.children h.ended)

pub only_if_some : {A : Type 0} (b : Bool) (o : Option A) (y : A) → only_if b o ≡ Some y → (b ≡ true) × (o ≡ Some y)
only_if_some true o y h = (refl, h)
only_if_some false o y h = absurd (none-some y h)

-- the effect of going on
goes_is : (p : Program) (t : ℕ) (change : Change) (n : ℕ) (e : Effect) → goes p t change n ≡ Some e →
    (is_target p t n ≡ true) × (e ≡ record { change = change; moves = (t, status.At n) ∷ [] })
goes_is p t change n e h =
    let parts = only_if_some (is_target p t n) (Some (record { change = change; moves = (t, status.At n) ∷ [] })) e h in
    (parts.0, sym (same_Some _ _ parts.1))

module _ (p : Program) (c : Control) (t : ℕ) (e : Effect) where
  gone : (n : ℕ) (s : Step) (change : Change) (m : ℕ) → status_of c t ≡ status.At n → step_at p n ≡ Some s →
      Contains (successors s) m → Changes p s change → goes p t change m ≡ Some e → Does p c t e
  gone n s change m at found next changes h =
      let parts = goes_is p t change m e h in
      simple (record {
        node = n;
        taken = s;
        change = change;
        to = status.At m;
        at = at;
        found = found;
        goes = (next, parts.0);
        changes = changes;
        is = parts.1;
      })

  does_assign : (n x : ℕ) (code : List Operation) (m : ℕ) → status_of c t ≡ status.At n → step_at p n ≡ Some (steps.Assign x code m) →
      node_effect p c t (steps.Assign x code m) ≡ Some e → Does p c t e
  does_assign n x code m at found h =
      let v = and_then_some (assigned p t x m) (code_value code c.variables) e h in
      let parts = only_if_some (takes_kind (kind_at p x) (kind_of v.0)) (goes p t (Put x v.0) m) e v.2 in
      gone n (steps.Assign x code m) (Put x v.0) m at found (contains_head m [])
      (record { literal = literal_of code; writes = refl; by_literal = λ w. literal_is_value code v.0 w c.variables v.1 }, parts.0) parts.1

  does_update : (n x : ℕ) (f : Combination) (code : List Operation) (m : ℕ) → status_of c t ≡ status.At n → step_at p n ≡ Some (steps.Update x f code m) →
      node_effect p c t (steps.Update x f code m) ≡ Some e → Does p c t e
  does_update n x f code m at found h =
      let v = and_then_some (updated p t x f m) (code_value code c.variables) e h in
      let parts = only_if_some (takes_kind (kind_at p x) (kind_of v.0) && is_kind (kind_combined f) (kind_of v.0)) (goes p t (Combine x f v.0) m) e v.2 in
      let kinds = and_parts (takes_kind (kind_at p x) (kind_of v.0)) (is_kind (kind_combined f) (kind_of v.0)) parts.0 in
      gone n (steps.Update x f code m) (Combine x f v.0) m at found (contains_head m []) (refl, kinds.0, kinds.1) parts.1

  branch : (n : ℕ) (code : List Operation) (on_true on_false : ℕ) → status_of c t ≡ status.At n → step_at p n ≡ Some (steps.Cond code on_true on_false) →
      (v : Value) → branched p t on_true on_false v ≡ Some e → Does p c t e
  branch n code on_true on_false at found (value.Bool true) h =
      gone n (steps.Cond code on_true on_false) Keep on_true at found (contains_head on_true (on_false ∷ [])) tt h
  branch n code on_true on_false at found (value.Bool false) h =
      gone n (steps.Cond code on_true on_false) Keep on_false at found (contains_tail on_true on_false (on_false ∷ []) (contains_head on_false [])) tt h
  branch n code on_true on_false at found (value.Int i) h = absurd (none-some e h)

  does_cond : (n : ℕ) (code : List Operation) (on_true on_false : ℕ) → status_of c t ≡ status.At n → step_at p n ≡ Some (steps.Cond code on_true on_false) →
      node_effect p c t (steps.Cond code on_true on_false) ≡ Some e → Does p c t e
  does_cond n code on_true on_false at found h =
      let v = and_then_some (branched p t on_true on_false) (code_value code c.variables) e h in
      branch n code on_true on_false at found v.0 v.2

  enters_from : (k : ℕ) (o : Option ℕ) → entry_of p k ≡ o → is_entered p k o ≡ true → Enters p k
  enters_from k None is h = absurd (cc)
  enters_from k (Some n) is h = record { entry = n; is = is; target = h }

  does_fork : (n : ℕ) (children : List ℕ) (j : ℕ) → status_of c t ≡ status.At n → step_at p n ≡ Some (steps.Fork children j) →
      forked p t children j ≡ Some e → Does p c t e
  does_fork n children j at found h =
      let moved : Effect = record { change = Keep; moves = (t, status.Waiting j) ∷ map (λ k. enters k (entry_of p k)) children } in
      let parts = only_if_some (is_join p t j && list_all (λ k. is_entered p k (entry_of p k)) children) (Some moved) e h in
      let tests = and_parts (is_join p t j) (list_all (λ k. is_entered p k (entry_of p k)) children) parts.0 in
      forks (record {
        node = n;
        children = children;
        join = j;
        at = at;
        found = found;
        own_join = tests.0;
        entered = λ k in_children. enters_from k (entry_of p k) refl (list_all_at (λ u. is_entered p u (entry_of p u)) children k tests.1 in_children);
        is = sym (same_Some moved e parts.1);
      })

  does_surf : (n d : ℕ) → status_of c t ≡ status.At n → step_at p n ≡ Some (steps.Surf d) → paused p t d ≡ Some e → Does p c t e
  does_surf n d at found h =
      let parts = only_if_some (is_depth p t d) (Some (record { change = Keep; moves = (t, status.Paused d) ∷ [] })) e h in
      simple (record {
        node = n;
        taken = steps.Surf d;
        change = Keep;
        to = status.Paused d;
        at = at;
        found = found;
        goes = (refl, parts.0);
        changes = tt;
        is = sym (same_Some _ e parts.1);
      })

  does_exit : (n : ℕ) → status_of c t ≡ status.At n → step_at p n ≡ Some steps.Exit → node_effect p c t steps.Exit ≡ Some e → Does p c t e
  does_exit n at found h =
      simple (record {
        node = n;
        taken = steps.Exit;
        change = Keep;
        to = status.Ended;
        at = at;
        found = found;
        goes = refl;
        changes = tt;
        is = sym (same_Some _ e h);
      })

  does_node : (n : ℕ) → status_of c t ≡ status.At n → (s : Step) → step_at p n ≡ Some s → node_effect p c t s ≡ Some e → Does p c t e
  does_node n at (steps.Assign x code m) found h = does_assign n x code m at found h
  does_node n at (steps.Update x f code m) found h = does_update n x f code m at found h
  does_node n at (steps.Cond code on_true on_false) found h = does_cond n code on_true on_false at found h
  does_node n at (steps.Fork children j) found h = does_fork n children j at found h
  does_node n at (steps.Join m) found h = absurd (none-some e h)
  does_node n at (steps.Surf d) found h = does_surf n d at found h
  does_node n at (steps.Depth m) found h = gone n (steps.Depth m) Keep m at found (contains_head m []) tt h
  does_node n at steps.Exit found h = does_exit n at found h

  does_join : (j : ℕ) → status_of c t ≡ status.Waiting j → (o : Option (List ℕ)) → joined_at p j ≡ o → (s : Option Step) → step_at p j ≡ s →
      all_ended c o ≡ true → join_effect p t o s ≡ Some e → Does p c t e
  does_join j at (Some children) joined (Some (steps.Join m)) found ended h =
      let parts = only_if_some (is_target p t m) (Some (record { change = Keep; moves = (t, status.At m) ∷ map (λ k. (k, status.Absent)) children })) e h in
      joins (record {
        join = j;
        onward = m;
        children = children;
        at = at;
        joined = joined;
        found = found;
        ended = ended_in c children ended;
        target = parts.0;
        is = sym (same_Some _ e parts.1);
      })
  does_join j at None joined s found ended h = absurd (none-some e h)
  does_join j at (Some children) joined s found ended h = absurd (none-some e h)

  does_status : (s : Status) → status_of c t ≡ s → status_effect p c t s ≡ Some e → Does p c t e
  does_status (status.At n) at h =
      let s = and_then_some (node_effect p c t) (step_at p n) e h in
      does_node n at s.0 s.1 s.2
  does_status (status.Waiting j) at h =
      let parts = only_if_some (all_ended c (joined_at p j)) (join_effect p t (joined_at p j) (step_at p j)) e h in
      does_join j at (joined_at p j) refl (step_at p j) refl parts.0 parts.1
  does_status status.Absent at h = absurd (none-some e h)
  does_status (status.Paused d) at h = absurd (none-some e h)
  does_status status.Ended at h = absurd (none-some e h)

  pub does : effect p c t ≡ Some e → Does p c t e
  does h = does_status (status_of c t) refl h

enabled_of : (p : Program) (c : Control) (t : ℕ) (e : Effect) → Does p c t e → Enabled p c t
enabled_of p c t e (simple d) = stands d.node d.at
enabled_of p c t e (forks d) = stands d.node d.at
enabled_of p c t e (joins d) = completes (record { join = d.join; children = d.children; at = d.at; joined = d.joined; ended = d.ended })

-- who steps is enabled
pub enabled_from_effect : (p : Program) (c : Control) (t : ℕ) (e : Effect) → effect p c t ≡ Some e → Enabled p c t
enabled_from_effect p c t e h = enabled_of p c t e (does p c t e h)
