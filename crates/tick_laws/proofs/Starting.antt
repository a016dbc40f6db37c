-- The start of a tick from a resting configuration is a configuration, and its steps are within the budget.
use Rattle.std.proofs.Common.{◌≡◌, ◌≢◌, ◌↔◌, ℕ, zero, suc, ◌<◌, ◌⊎◌, Bool, true, false, Option, Some, None, unwrap_or, option_map, List, [], ◌∷◌, length, map}
use Rattle.std.proofs.Common.{slice_get, Contains, if◌then◌else◌, refl, ap, subst, sym, ◌∙◌, inl, inr, arith}
use Rattle.std.specs.Str.{bytes_eq}
use Rattle.std.proofs.lemmas.Bool.{cases_order}
use Rattle.std.proofs.lemmas.List.{length-map}
use Rattle.std.proofs.lemmas.Slice.Eq.{bytes_eq-Decides}
use Rattle.std.proofs.lemmas.Option.{none-some, same_Some}
use Rattle.sc_values.specs.declared.value.Kind.{Kind}
use Rattle.sc_values.specs.declared.value.Kind.TheVariants as kind_is
use Rattle.sc_values.specs.declared.value.Value.{Value}
use Rattle.sc_values.specs.Operator.{kind_of, initial_value}
use Rattle.sc_graph.specs.declared.program.Variable.{Variable}
use Rattle.sc_graph.specs.declared.program.Role.{Role}
use Rattle.sc_graph.specs.declared.program.Role.TheVariants as role
use Rattle.sc_graph.specs.declared.control.Control.{Control}
use Rattle.sc_graph.specs.declared.control.Status.{Status}
use Rattle.sc_graph.specs.declared.control.Status.TheVariants as status
use Rattle.sc_graph.specs.declared.place.Place.TheVariants as place
use Rattle.sc_graph.specs.Program.{Program, kind_at, entry_of, parent_of, is_join_step}
use Rattle.sc_graph.specs.Threads.{IsFork}
use Rattle.sc_graph.specs.Control.{status_of}
use Rattle.sc_graph.specs.Tick.{IsPlace, IsPresent, IsConfiguration, Rests, Inputs, given, AreAccepted, value_at_start, values_at_start, woken, root_started}
use Rattle.sc_graph.specs.Tick.{statuses_at_start, start}
use Rattle.sc_graph.specs.Valid.{IsFormed}
use Rattle.tick_laws.proofs.Moves.{standing}
use Rattle.tick_laws.proofs.Formed.{depth_owned, depth_step, target_owned, target_no_join, child_parent, root_alone, entry_target}

standing_woken : (xs : List Status) (t : ℕ) → standing (map woken xs) t ≡ woken (standing xs t)
standing_woken [] t = refl
standing_woken (x ∷ xs) zero = refl
standing_woken (x ∷ xs) (suc t) = standing_woken xs t

-- what the start of a tick makes of the root's status
data RootStarts (entry : Option ℕ) (s : Status) : Type 0 where
  root_wakes : root_started entry s ≡ woken s → RootStarts entry s
  root_enters : (n : ℕ) → entry ≡ Some n → s ≡ status.Absent → root_started entry s ≡ status.At n → RootStarts entry s

root_starts : (entry : Option ℕ) (s : Status) → RootStarts entry s
root_starts None s = root_wakes refl
root_starts (Some n) status.Absent = root_enters n refl refl refl
root_starts (Some n) (status.At m) = root_wakes refl
root_starts (Some n) (status.Waiting j) = root_wakes refl
root_starts (Some n) (status.Paused d) = root_wakes refl
root_starts (Some n) status.Ended = root_wakes refl

-- what the start of a tick makes of a thread's status
pub data Starts (p : Program) (c d : Control) (t : ℕ) : Type 0 where
  wakes : status_of d t ≡ woken (status_of c t) → Starts p c d t
  enters : (n : ℕ) → t ≡ 0 → entry_of p 0 ≡ Some n → status_of c t ≡ status.Absent → status_of d t ≡ status.At n → Starts p c d t

pub starts : (p : Program) (inputs : Inputs) (c : Control) (t : ℕ) → Starts p c (start p inputs c) t
starts p inputs c t = at c.statuses refl t
  where
    at : (xs : List Status) → c.statuses ≡ xs → (t : ℕ) → Starts p c (start p inputs c) t
    at [] e t = wakes (subst (λ ys. standing (statuses_at_start p ys) t ≡ woken (standing ys t)) (sym e) refl)
    at (x ∷ xs) e zero = at_root (root_starts (entry_of p 0) x)
      where
        at_root : RootStarts (entry_of p 0) x → Starts p c (start p inputs c) zero
        at_root (root_wakes h) = wakes (subst (λ ys. standing (statuses_at_start p ys) zero ≡ woken (standing ys zero)) (sym e) h)
        at_root (root_enters n i s h) = enters n refl i (subst (λ ys. standing ys zero ≡ status.Absent) (sym e) s)
            (subst (λ ys. standing (statuses_at_start p ys) zero ≡ status.At n) (sym e) h)
    at (x ∷ xs) e (suc t) = wakes (subst (λ ys. standing (statuses_at_start p ys) (suc t) ≡ woken (standing ys (suc t))) (sym e) (standing_woken xs t))

length_statuses : (p : Program) (xs : List Status) → length (statuses_at_start p xs) ≡ length xs
length_statuses p [] = refl
length_statuses p (x ∷ xs) = ap suc (length-map xs woken)

length_values : (inputs : Inputs) (vs : List Variable) (ws : List Value) → length ws ≡ length vs → length (values_at_start inputs vs ws) ≡ length vs
length_values inputs [] ws e = refl
length_values inputs (x ∷ vs) [] e = e
length_values inputs (x ∷ vs) (w ∷ ws) e = ap suc (length_values inputs vs ws (omega arith))

-- a value at the start, with what it comes from
record StartValue (inputs : Inputs) (vs : List Variable) (ws : List Value) (x : ℕ) (v : Value) : Type 0 where
  variable : Variable
  before : Value
  is_variable : slice_get vs x ≡ Some variable
  is_before : slice_get ws x ≡ Some before
  gives : value_at_start inputs variable variable.role before ≡ v

start_value : (inputs : Inputs) (vs : List Variable) (ws : List Value) (x : ℕ) (v : Value) → slice_get (values_at_start inputs vs ws) x ≡ Some v
    → StartValue inputs vs ws x v
start_value inputs [] ws x v h = absurd (none-some v h)
start_value inputs (a ∷ vs) [] x v h = absurd (none-some v h)
start_value inputs (a ∷ vs) (w ∷ ws) zero v h = record {
  variable = a;
  before = w;
  is_variable = refl;
  is_before = refl;
  gives = same_Some (value_at_start inputs a a.role w) v h;
}
start_value inputs (a ∷ vs) (w ∷ ws) (suc x) v h =
    let rest : StartValue inputs vs ws x v = start_value inputs vs ws x v h in
    record { variable = rest.variable; before = rest.before; is_variable = rest.is_variable; is_before = rest.is_before; gives = rest.gives }

-- an input under this name, with its place among the inputs
pub record GivenAt (inputs : Inputs) (name : List ℕ) (v : Value) : Type 0 where
  pub place : ℕ
  pub is : slice_get inputs place ≡ Some (name, v)

pub given_at : (inputs : Inputs) (name : List ℕ) (v : Value) → given inputs name ≡ Some v → GivenAt inputs name v
given_at [] name v h = absurd (none-some v h)
given_at (i ∷ inputs) name v h = at (bytes_eq i.0 name) (bytes_eq-Decides i.0 name).0 h (given_at inputs name v)
  where
    at : (b : Bool) → (b ≡ true → i.0 ≡ name) → (if b then Some i.1 else given inputs name) ≡ Some v → (given inputs name ≡ Some v → GivenAt inputs name v)
        → GivenAt (i ∷ inputs) name v
    at true same h rest = record { place = zero; is = ap Some (λ j. (same refl j, same_Some i.1 v h j)) }
    at false same h rest = let r : GivenAt inputs name v = rest h in record { place = suc r.place; is = r.is }

kind_initial : (k : Kind) → kind_of (initial_value k) ≡ k
kind_initial kind_is.Bool = refl
kind_initial kind_is.Int = refl

present_woken : (s : Status) → IsPresent s → IsPresent (woken s)
present_woken status.Absent h = h
present_woken (status.At n) h = tt
present_woken (status.Waiting j) h = tt
present_woken (status.Paused d) h = tt
present_woken status.Ended h = tt

present_before : (s : Status) → IsPresent (woken s) → IsPresent s
present_before status.Absent h = h
present_before (status.At n) h = tt
present_before (status.Waiting j) h = tt
present_before (status.Paused d) h = tt
present_before status.Ended h = tt

waiting_before : (s : Status) (j : ℕ) → woken s ≡ status.Waiting j → s ≡ status.Waiting j
waiting_before status.Absent j h = h
waiting_before (status.At n) j h = h
waiting_before (status.Waiting i) j h = h
waiting_before (status.Paused d) j h = absurd (cc)
waiting_before status.Ended j h = h

module _ (p : Program) (formed : IsFormed p) where
  -- a name is one variable's
  same_variable : (x y : ℕ) (a b : Variable) → slice_get p.variables x ≡ Some a → slice_get p.variables y ≡ Some b → b.name ≡ a.name → b ≡ a
  same_variable x y a b h i e = at (cases_order x y)
    where
      at : (x ≡ y) ⊎ ((x < y) ⊎ (y < x)) → b ≡ a
      at (inl same) = same_Some b a (sym i ∙ ap (slice_get p.variables) (sym same) ∙ h)
      at (inr (inl lt)) = absurd ((formed.size (place.Variable y) b i).new_name x a lt h (sym e))
      at (inr (inr lt)) = absurd ((formed.size (place.Variable x) a h).new_name y b lt i e)

  module _ (inputs : Inputs) (accepted : AreAccepted p inputs) where
    kind_given : (x : ℕ) (a : Variable) (o : Option Value) → slice_get p.variables x ≡ Some a → given inputs a.name ≡ o
        → kind_of (unwrap_or o (initial_value a.kind)) ≡ a.kind
    kind_given x a None h e = kind_initial a.kind
    kind_given x a (Some v) h e =
        let at : GivenAt inputs a.name v = given_at inputs a.name v e in
        let named = accepted.named at.place a.name v at.is in
        sym named.5 ∙ ap (λ b. b.kind) (same_variable x named.0 a named.1 h named.2 named.3)

    kind_at_start : (x : ℕ) (a : Variable) (r : Role) (w : Value) → slice_get p.variables x ≡ Some a → kind_of w ≡ a.kind
        → kind_of (value_at_start inputs a r w) ≡ a.kind
    kind_at_start x a role.Input w h k = kind_given x a (given inputs a.name) h refl
    kind_at_start x a role.Output w h k = k
    kind_at_start x a role.Local w h k = k

    module _ (c : Control) (rests : Rests p c) where
      kinds_kept : (x : ℕ) (v : Value) → slice_get (values_at_start inputs p.variables c.variables) x ≡ Some v → kind_at p x ≡ Some (kind_of v)
      kinds_kept x v h =
          let from : StartValue inputs p.variables c.variables x v = start_value inputs p.variables c.variables x v h in
          let there : kind_at p x ≡ Some from.variable.kind = ap (option_map (λ a. a.kind)) from.is_variable in
          let before : kind_of from.before ≡ from.variable.kind = same_Some (kind_of from.before) from.variable.kind
          (sym (rests.configuration.kinds x from.before from.is_before) ∙ there) in
          there ∙ ap Some (sym (kind_at_start x from.variable from.variable.role from.before from.is_variable before) ∙ ap kind_of from.gives)

      place_woken : (t : ℕ) (s : Status) → IsPlace p t s → ((n : ℕ) → s ≢ status.At n) → IsPlace p t (woken s)
      place_woken t status.Absent h nobody = tt
      place_woken t (status.At n) h nobody = absurd (nobody n refl)
      place_woken t (status.Waiting j) h nobody = h
      place_woken t (status.Paused d) h nobody = (depth_owned p t d h, ap is_join_step (depth_step p t d h).1)
      place_woken t status.Ended h nobody = tt

      places_kept : (t : ℕ) → IsPlace p t (status_of (start p inputs c) t)
      places_kept t = at (starts p inputs c t)
        where
          at : Starts p c (start p inputs c) t → IsPlace p t (status_of (start p inputs c) t)
          at (wakes e) = subst (IsPlace p t) (sym e) (place_woken t (status_of c t) (rests.configuration.places t) (rests.nobody_at t))
          at (enters n root entry absent e) =
              let target = entry_target p formed t n (ap (entry_of p) root ∙ entry) in
              subst (IsPlace p t) (sym e) (target_owned p t n target, target_no_join p t n target)

      waiting_kept : (t j : ℕ) → Starts p c (start p inputs c) t → (status_of c t ≡ status.Waiting j) ↔ (status_of (start p inputs c) t ≡ status.Waiting j)
      waiting_kept t j (wakes e) = (λ h. e ∙ ap woken h, λ h. waiting_before (status_of c t) j (sym e ∙ h))
      waiting_kept t j (enters n root entry absent e) = (λ h. absurd (cc), λ h. absurd (cc))

      child_wakes : (k t : ℕ) → parent_of p k ≡ Some t → Starts p c (start p inputs c) k → status_of (start p inputs c) k ≡ woken (status_of c k)
      child_wakes k t parent (wakes e) = e
      child_wakes k t parent (enters n root entry absent e) = absurd (root_alone p formed t (ap (parent_of p) (sym root) ∙ parent))

      present_kept : (n t : ℕ) (ks : List ℕ) (j k : ℕ) → IsFork p n t ks j → Contains ks k →
          (IsPresent (status_of (start p inputs c) k)) ↔ (status_of (start p inputs c) t ≡ status.Waiting j)
      present_kept n t ks j k fork child =
          let before = rests.configuration.present n t ks j k fork child in
          let waits = waiting_kept t j (starts p inputs c t) in
          let e : status_of (start p inputs c) k ≡ woken (status_of c k) = child_wakes k t (child_parent p formed n t ks j k fork child)
          (starts p inputs c k) in (
            λ h. waits.0 (before.0 (present_before (status_of c k) (subst IsPresent e h))),
            λ h. subst IsPresent (sym e) (present_woken (status_of c k) (before.1 (waits.1 h))),
          )

      -- a tick starts in a configuration
      pub start_config : IsConfiguration p (start p inputs c)
      start_config =
          record {
            values = length_values inputs p.variables c.variables rests.configuration.values;
            kinds = kinds_kept;
            threads = length_statuses p c.statuses ∙ rests.configuration.threads;
            places = places_kept;
            present = present_kept;
          }
