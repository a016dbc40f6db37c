-- What stands before the first tick rests.
use Rattle.std.proofs.Common.{◌≡◌, ◌≢◌, ◌↔◌, ℕ, ◌<◌, ◌+◌, List, [], ◌∷◌, ◌++◌, map, length, take, get_or, Option, Some, None, option_map, unwrap_or, slice_get}
use Rattle.std.proofs.Common.{refl, ap, ◌∙◌, sym, subst}
use Rattle.std.specs.Prelude.{Contains, IsTrue, Bool as Truth}
use Rattle.std.proofs.lemmas.Option.{slice_get-map}
use Rattle.std.proofs.lemmas.List.{length-map, map-append, take_more}
use Rattle.sc_values.specs.declared.value.Value.{Value}
use Rattle.sc_values.specs.declared.value.Kind.{Kind}
use Rattle.sc_values.specs.declared.value.Kind.TheVariants as kind_is
use Rattle.sc_values.specs.Operator.{kind_of, initial_value}
use Rattle.sc_graph.specs.declared.program.Variable.{Variable}
use Rattle.sc_graph.specs.declared.program.Thread.{Thread}
use Rattle.sc_graph.specs.declared.control.Control.{Control}
use Rattle.sc_graph.specs.declared.control.Status.{Status}
use Rattle.sc_graph.specs.declared.control.Status.TheVariants as status
use Rattle.sc_graph.specs.Program.{Program}
use Rattle.sc_graph.specs.Threads.{IsFork}
use Rattle.sc_graph.specs.Control.{status_of}
use Rattle.sc_graph.specs.Tick.{initial, Rests, IsPlace, IsPresent}
use Rattle.sc_graph.specs.Inside.Fits.{HaveKinds, RestsAt, RestInPlace, ChildrenStand, AllChildrenStand}
use Rattle.sc_graph.specs.declared.program.Node.{Node}
use Rattle.sc_graph.specs.declared.program.Step.TheVariants as step

pub kind_of-initial_value : (k : Kind) → kind_of (initial_value k) ≡ k
kind_of-initial_value kind_is.Bool = refl
kind_of-initial_value kind_is.Int = refl

absent : (o : Option Thread) → unwrap_or (option_map (λ _. status.Absent) o) status.Absent ≡ status.Absent
absent None = refl
absent (Some t) = refl

pub status_of-initial : (p : Program) (t : ℕ) → status_of (initial p) t ≡ status.Absent
status_of-initial p t =
    ap (λ o. unwrap_or o status.Absent) (slice_get-map (λ _. status.Absent) p.threads t) ∙ absent (slice_get p.threads t)

initial_kind : (o : Option Variable) (v : Value) → option_map (λ x. initial_value x.kind) o ≡ Some v → option_map (λ x. x.kind) o ≡ Some (kind_of v)
initial_kind None v is = absurd cc
initial_kind (Some x) v is =
    let same : initial_value x.kind ≡ v = cc in
    ap Some (sym (kind_of-initial_value x.kind) ∙ ap kind_of same)

pub rests-initial : (p : Program) → Rests p (initial p)
rests-initial p =
    record {
      configuration = record {
        values = length-map p.variables (λ x. initial_value x.kind);
        kinds = λ x v is. initial_kind (slice_get p.variables x) v (sym (slice_get-map (λ x. initial_value x.kind) p.variables x) ∙ is);
        threads = length-map p.threads (λ _. status.Absent);
        places = λ t. subst (IsPlace p t) (sym (status_of-initial p t)) tt;
        present = λ n t children j k is_fork child. (
          λ here. absurd (subst IsPresent (status_of-initial p k) here),
          λ waits. let no : status.Absent ≡ status.Waiting j = sym (status_of-initial p t) ∙ waits in absurd cc,
        );
      };
      nobody_at = λ t n at. let no : status.Absent ≡ status.At n = sym (status_of-initial p t) ∙ at in absurd cc;
    }

pub rests_as_initial : (p : Program) (c : Control) → c ≡ initial p → Rests p c
rests_as_initial p c is = subst (Rests p) (sym is) (rests-initial p)

no_thread : Thread
no_thread = record { parent = None; entry = 0 }

pub absent_more : (threads : List Thread) (i : ℕ) → i < length threads →
    map (λ _. status.Absent) (take (i + 1) threads) ≡ map (λ _. status.Absent) (take i threads) ++ status.Absent ∷ []
absent_more threads i below =
    ap (map (λ _. status.Absent)) (take_more threads i no_thread below) ∙ map-append (λ _. status.Absent) (take i threads) (get_or threads i no_thread ∷ [])

at_rest : (p : Program) (t : ℕ) (s : Status) → RestsAt p t s → IsPlace p t s
at_rest p t status.Absent rests = tt
at_rest p t (status.At n) rests = absurd rests
at_rest p t (status.Waiting j) rests = rests
at_rest p t (status.Paused d) rests = rests
at_rest p t status.Ended rests = tt

place_at_rest : (p : Program) (t : ℕ) (s : Status) → IsPlace p t s → ((n : ℕ) → s ≢ status.At n) → RestsAt p t s
place_at_rest p t status.Absent place nobody = tt
place_at_rest p t (status.At n) place nobody = nobody n refl
place_at_rest p t (status.Waiting j) place nobody = place
place_at_rest p t (status.Paused d) place nobody = place
place_at_rest p t status.Ended place nobody = tt

child_stands : (p : Program) (c : Control) (n t : ℕ) (children : List ℕ) (j k : ℕ) → IsFork p n t children j → Contains children k →
    (o : Option Node) → slice_get p.nodes n ≡ o → AllChildrenStand p c →
    (IsPresent (status_of c k)) ↔ (status_of c t ≡ status.Waiting j)
child_stands p c n t children j k is_fork child None is stand =
    let no : None ≡ Some t = sym (ap (option_map (λ y. y.owner)) is) ∙ is_fork.owned in absurd cc
child_stands p c n t children j k is_fork child (Some x) is stand =
    let owner : Some x.owner ≡ Some t = sym (ap (option_map (λ y. y.owner)) is) ∙ is_fork.owned in
    let forks : Some x.step ≡ Some (step.Fork children j) = sym (ap (option_map (λ y. y.step)) is) ∙ is_fork.forks in
    let owned : x.owner ≡ t = cc in
    subst (λ u. (IsPresent (status_of c k)) ↔ (status_of c u ≡ status.Waiting j)) owned (let here : x.step ≡ step.Fork children j = cc in
    (stand.each n x is).each children j k here child)

-- the parts together are what makes a configuration rest
pub rests_by_parts : (p : Program) (c : Control) → HaveKinds p c.variables → RestInPlace p c → AllChildrenStand p c → Rests p c
rests_by_parts p c have rest stand =
    record {
      configuration = record {
        values = have.long;
        kinds = have.kinds;
        threads = rest.long;
        places = λ t. at_rest p t (status_of c t) (rest.each t);
        present = λ n t children j k is_fork child. child_stands p c n t children j k is_fork child (slice_get p.nodes n) refl stand;
      };
      nobody_at = λ t n at. subst (RestsAt p t) at (rest.each t);
    }

-- and each follows from it
pub kinds_at_rest : (p : Program) (c : Control) → Rests p c → HaveKinds p c.variables
kinds_at_rest p c rests = record { long = rests.configuration.values; kinds = rests.configuration.kinds }

pub places_at_rest : (p : Program) (c : Control) → Rests p c → RestInPlace p c
places_at_rest p c rests =
    record {
      long = rests.configuration.threads;
      each = λ t. place_at_rest p t (status_of c t) (rests.configuration.places t) (rests.nobody_at t);
    }

pub children_at_rest : (p : Program) (c : Control) → Rests p c → AllChildrenStand p c
children_at_rest p c rests =
    record {
      each = λ n x is. record {
        each = λ children j k forks child.
            rests.configuration.present n x.owner children j k
            (record { owned = ap (option_map (λ y. y.owner)) is; forks = ap (option_map (λ y. y.step)) is ∙ ap Some forks })
            child;
      };
    }

-- what a fork says of its children, in one line
pub stands_if : (c : Control) (x : Node) (children : List ℕ) (j : ℕ) (waits : Truth) → x.step ≡ step.Fork children j →
    IsTrue waits ↔ (status_of c x.owner ≡ status.Waiting j) →
    ((k : ℕ) → Contains children k → (IsPresent (status_of c k)) ↔ IsTrue waits) → ChildrenStand c x
stands_if c x children j waits forks wait each =
    record {
      each = λ others i k is child.
          let same : others ≡ children = cc in
          let join : j ≡ i = cc in
          let it : (IsPresent (status_of c k)) ↔ IsTrue waits = each k (subst (λ ks. Contains ks k) same child) in
          (λ here. wait.0 (it.0 here) ∙ ap status.Waiting join, λ at. it.1 (wait.1 (at ∙ ap status.Waiting (sym join))));
    }

pub present_if : (c : Control) (x : Node) (children : List ℕ) (j : ℕ) (waits : Truth) → x.step ≡ step.Fork children j →
    IsTrue waits ↔ (status_of c x.owner ≡ status.Waiting j) → ChildrenStand c x →
    (k : ℕ) → Contains children k → (IsPresent (status_of c k)) ↔ IsTrue waits
present_if c x children j waits forks wait stands k child =
    let it = stands.each children j k forks child in (λ here. wait.1 (it.0 here), λ yes. it.1 (wait.0 yes))
