-- What stands before the first tick corresponds, and from what corresponds so does the start of a tick.
use Rattle.std.proofs.Common.{◌≡◌, ℕ, zero, suc, Option, Some, None, List, [], ◌∷◌, map, length, replicate, unwrap_or, refl, sym, ap, subst, ◌∙◌}
use Rattle.std.proofs.lemmas.List.{length-replicate}
use Rattle.sc_values.specs.declared.value.Value.{Value}
use Rattle.sc_values.specs.declared.value.Kind.{Kind}
use Rattle.sc_values.specs.Operator.{kind_of, initial_value}
use Rattle.sc_graph.specs.declared.program.Variable.{Variable}
use Rattle.sc_graph.specs.declared.program.Role.{Role}
use Rattle.sc_graph.specs.declared.program.Role.TheVariants as role
use Rattle.sc_graph.specs.declared.control.Control.{Control}
use Rattle.sc_graph.specs.declared.control.Status.TheVariants as status
use Rattle.sc_graph.specs.Program.{Program, entry_of}
use Rattle.sc_graph.specs.Tick.{Inputs, given, value_at_start, values_at_start, statuses_at_start}
use Rattle.sc_graph.specs.Tick.{woken as woken_status, root_started as root_status, start as start_of_nodes, initial as initial_of_nodes}
use Rattle.sc_graph.proofs.AtRest.{kind_of-initial_value}
use Rattle.scl.specs.Block.{Block}
use Rattle.scl.specs.Labels.{settled}
use Rattle.scl.specs.Places.{whole}
use Rattle.scl.specs.Numbering.{Numbered}
use Rattle.scl.specs.Meaning.{Doing, State, Away, Todo, Forked, Resting, Resuming, Finished, initial, woken, root_started, threads_at_start, start}
use Rattle.scl_graph.specs.Graph.{number}
use Rattle.scl_graph_laws.specs.Standing.{standing, IsOfText}
use Rattle.scl_graph_laws.specs.Settling.{Settled, Settling}
use Rattle.scl_graph_laws.specs.Mirrors.{Mirrors}
use Rattle.scl_graph_laws.specs.Keeps.{Corresponds}
use Rattle.scl_graph_laws.proofs.Moving.{doing_in, AreOfText}
use Rattle.scl_graph_laws.proofs.Stepping.{corresponds_is}
use Rattle.scl_graph_laws.proofs.Inputs.{Fit}

all_away : {X : Type 0} (xs : List X) → map (λ x. status.Absent) xs ≡ map standing (replicate (length xs) Away)
all_away [] = refl
all_away (x ∷ xs) = ap (λ r. status.Absent ∷ r) (all_away xs)

is_away : (n t : ℕ) → Away ≡ doing_in (replicate n Away) t
is_away zero t = refl
is_away (suc n) zero = refl
is_away (suc n) (suc t) = is_away n t

away_within : (root : Block) (n : ℕ) → AreOfText root (replicate n Away)
away_within root n t = subst (λ d. IsOfText root t d) (is_away n t) tt

kinds_initial : (variables : List Variable) → map kind_of (map (λ x. initial_value x.kind) variables) ≡ map (λ x. x.kind) variables
kinds_initial [] = refl
kinds_initial (x ∷ variables) = ap (λ k. k ∷ map kind_of (map (λ x. initial_value x.kind) variables)) (kind_of-initial_value x.kind)
    ∙ ap (λ r. x.kind ∷ r) (kinds_initial variables)

pub begins : (p : Numbered) (q : Program) → Mirrors p q → Corresponds p (initial p) (initial_of_nodes q)
begins p q graph = record {
  variables = ap (map (λ x. initial_value x.kind)) graph.variables;
  statuses = all_away q.threads ∙ ap (λ n. map standing (replicate n Away)) graph.threads;
  kinds = kinds_initial p.variables;
  threads = length-replicate p.threads Away;
  places = away_within p.root p.threads;
}

-- ---- the start of a tick

woken_alike : (d : Doing) → woken_status (standing d) ≡ standing (woken d)
woken_alike Away = refl
woken_alike (Todo todo) = refl
woken_alike (Forked n branches rest) = refl
woken_alike (Resting n rest) = refl
woken_alike (Resuming n rest) = refl
woken_alike Finished = refl

all_woken_alike : (threads : List Doing) → map woken_status (map standing threads) ≡ map standing (map woken threads)
all_woken_alike [] = refl
all_woken_alike (d ∷ threads) = ap (λ s. s ∷ map woken_status (map standing threads)) (woken_alike d)
    ∙ ap (λ r. standing (woken d) ∷ r) (all_woken_alike threads)

root_alike : (first : Block) (d : Doing) → root_status (Some (number (Some first))) (standing d) ≡ standing (root_started (Some first) d)
root_alike first Away = refl
root_alike first (Todo todo) = refl
root_alike first (Forked n branches rest) = refl
root_alike first (Resting n rest) = refl
root_alike first (Resuming n rest) = refl
root_alike first Finished = refl

woken_within : (root : Block) (t : ℕ) (d : Doing) → IsOfText root t d → IsOfText root t (woken d)
woken_within root t Away at = tt
woken_within root t (Todo todo) at = at
woken_within root t (Forked n branches rest) at = at
woken_within root t (Resting n rest) at = at
woken_within root t (Resuming n rest) at = at
woken_within root t Finished at = tt

woken_in : (threads : List Doing) (t : ℕ) → woken (doing_in threads t) ≡ doing_in (map woken threads) t
woken_in [] t = refl
woken_in (d ∷ threads) zero = refl
woken_in (d ∷ threads) (suc t) = woken_in threads t

module _ (p : Numbered) (to : Settled p.root 0 p.root) where
  root_within : (d : Doing) → IsOfText p.root 0 d → IsOfText p.root 0 (root_started (Some to.first) d)
  root_within Away at = (to.place, to.is_step)
  root_within (Todo todo) at = at
  root_within (Forked n branches rest) at = at
  root_within (Resting n rest) at = at
  root_within (Resuming n rest) at = at
  root_within Finished at = tt

  started_within : (threads : List Doing) → AreOfText p.root threads → AreOfText p.root (threads_at_start p.root threads)
  started_within [] all t = all t
  started_within (d ∷ threads) all zero = subst (λ o. IsOfText p.root 0 (root_started o d)) (sym to.is) (root_within d (all zero))
  started_within (d ∷ threads) all (suc t) = subst (λ d. IsOfText p.root (suc t) d) (woken_in threads t)
      (woken_within p.root (suc t) (doing_in threads t) (all (suc t)))

  started_length : (threads : List Doing) → length (threads_at_start p.root threads) ≡ length threads
  started_length [] = refl
  started_length (d ∷ threads) = ap suc (woken_length threads)
    where
      woken_length : (threads : List Doing) → length (map woken threads) ≡ length threads
      woken_length [] = refl
      woken_length (d ∷ threads) = ap suc (woken_length threads)

  started_alike : (q : Program) → entry_of q 0 ≡ Some (number (settled p.root p.root)) → (threads : List Doing) → statuses_at_start q (map standing threads)
      ≡ map standing (threads_at_start p.root threads)
  started_alike q entry [] = refl
  started_alike q entry (d ∷ threads) =
      ap (λ o. root_status o (standing d) ∷ map woken_status (map standing threads)) entry
      ∙ ap (λ o. root_status (Some (number o)) (standing d) ∷ map woken_status (map standing threads)) to.is
      ∙ ap (λ s. s ∷ map woken_status (map standing threads)) (root_alike to.first d)
      ∙ ap (λ r. standing (root_started (Some to.first) d) ∷ r) (all_woken_alike threads)
      ∙ ap (λ o. standing (root_started o d) ∷ map standing (map woken threads)) (sym to.is)

value_fits : (inputs : Inputs) (x : Variable) (o : Option Value) → given inputs x.name ≡ o → ((v : Value) → given inputs x.name ≡ Some v → kind_of v ≡ x.kind)
    → kind_of (unwrap_or o (initial_value x.kind)) ≡ x.kind
value_fits inputs x None is fit = kind_of-initial_value x.kind
value_fits inputs x (Some v) is fit = fit v is

kind_at_start : (inputs : Inputs) (x : Variable) (r : Role) (w : Value) → ((v : Value) → given inputs x.name ≡ Some v → kind_of v ≡ x.kind) → kind_of w ≡ x.kind
    → kind_of (value_at_start inputs x r w) ≡ x.kind
kind_at_start inputs x role.Input w fit is = value_fits inputs x (given inputs x.name) refl fit
kind_at_start inputs x role.Output w fit is = is
kind_at_start inputs x role.Local w fit is = is

head_is : (k l : Kind) (ks ls : List Kind) → k ∷ ks ≡ l ∷ ls → k ≡ l
head_is k l ks ls h = cc

tail_is : (k l : Kind) (ks ls : List Kind) → k ∷ ks ≡ l ∷ ls → ks ≡ ls
tail_is k l ks ls h = cc

kinds_at_start : (inputs : Inputs) (variables : List Variable) (values : List Value) → Fit inputs variables → map kind_of values ≡ map (λ x. x.kind) variables
    → map kind_of (values_at_start inputs variables values) ≡ map (λ x. x.kind) variables
kinds_at_start inputs [] values fit h = refl
kinds_at_start inputs (x ∷ variables) [] fit h = h
kinds_at_start inputs (x ∷ variables) (w ∷ values) fit h =
    ap (λ k. k ∷ map kind_of (values_at_start inputs variables values)) (kind_at_start inputs x x.role w (λ v e. fit 0 x v refl e) (head_is _ _ _ _ h))
    ∙ ap (λ r. x.kind ∷ r) (kinds_at_start inputs variables values (λ i y v e. fit (suc i) y v e) (tail_is _ _ _ _ h))

pub starts : (p : Numbered) (q : Program) → Mirrors p q → Settling p.root → (inputs : Inputs) (s : State) (c : Control) → Fit inputs p.variables
    → Corresponds p s c → Corresponds p (start p inputs s) (start_of_nodes q inputs c)
starts p q graph settling inputs s c fit h =
    let to : Settled p.root 0 p.root = settling 0 p.root whole in
    subst (λ c. Corresponds p (start p inputs s) (start_of_nodes q inputs c)) (corresponds_is p s c h)
    (record {
      variables = ap (λ xs. values_at_start inputs xs s.variables) graph.variables;
      statuses = started_alike p to q graph.root s.threads;
      kinds = kinds_at_start inputs p.variables s.variables fit h.kinds;
      threads = started_length p to s.threads ∙ h.threads;
      places = started_within p to s.threads h.places;
    })
