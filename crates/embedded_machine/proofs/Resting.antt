-- Cells that hold a configuration in which a program rests are read as that one.
use Rattle.std.proofs.Common.{◌≡◌, ◌≢◌, ℕ, suc, ◌<◌, ℤ, Bool, true, false, ◌&&◌, List, [], ◌∷◌, Option, Some, None, map, length}
use Rattle.std.proofs.Common.{slice_get, unwrap_or, refl, sym, ap, ◌∙◌, subst, arith}
use Rattle.std.proofs.lemmas.Bool.Decides.{nat_tests}
use Rattle.std.specs.Option.{option_map, is_some}
use Rattle.std.specs.List.{list_all}
use Rattle.std.proofs.lemmas.Bool.{true≢false}
use Rattle.std.proofs.lemmas.Option.{same_Some, slice_get_within}
use Rattle.sc_values.specs.declared.value.Value.{Value}
use Rattle.sc_values.specs.declared.value.Value.TheVariants as value
use Rattle.sc_values.specs.declared.value.Kind.{Kind}
use Rattle.sc_values.specs.Operator.{kind_of}
use Rattle.sc_graph.specs.declared.program.Variable.{Variable}
use Rattle.sc_graph.specs.declared.program.Node.{Node}
use Rattle.sc_graph.specs.declared.control.Control.{Control}
use Rattle.sc_graph.specs.declared.control.Status.{Status}
use Rattle.sc_graph.specs.declared.control.Status.TheVariants as status
use Rattle.sc_graph.specs.Program.{Program, is_some_number, owns, is_join_step, is_depth_step, step_at}
use Rattle.sc_graph.specs.Layout.{FitsLayout}
use Rattle.sc_graph.specs.Tick.{IsPlace, Rests}
use Rattle.embedded_machine.specs.Cells.{status_cell, status_in, value_cell, value_in}
use Rattle.embedded_machine.specs.Inside.{values_read}
use Rattle.embedded_machine.specs.Refusals.{HoldRest}

left : (a b : Bool) → (a && b) ≡ true → a ≡ true
left true b e = refl
left false b e = e

all_some : {A : Type 0} (xs : List A) → list_all is_some (map (λ x. Some x) xs) ≡ true
all_some [] = refl
all_some (x ∷ xs) = all_some xs

same_somes : {A : Type 0} (xs ys : List A) → map (λ x. Some x) xs ≡ map (λ y. Some y) ys → xs ≡ ys
same_somes {A} xs ys e = sym (values xs) ∙ ap all e ∙ values ys
  where
    all : List (Option A) → List A
    all [] = []
    all (None ∷ os) = all os
    all (Some x ∷ os) = x ∷ all os

    values : (zs : List A) → all (map (λ z. Some z) zs) ≡ zs
    values [] = refl
    values (z ∷ zs) = ap (λ (us : List A). z ∷ us) (values zs)

-- a value is read from its cell again
value_back : (k : Kind) (v : Value) → k ≡ kind_of v → value_in k (value_cell v) ≡ Some v
value_back k (value.Int n) same = subst (λ (j : Kind). value_in j (value_cell (value.Int n)) ≡ Some (value.Int n)) (sym same) refl
value_back k (value.Bool true) same = subst (λ (j : Kind). value_in j (value_cell (value.Bool true)) ≡ Some (value.Bool true)) (sym same) refl
value_back k (value.Bool false) same = subst (λ (j : Kind). value_in j (value_cell (value.Bool false)) ≡ Some (value.Bool false)) (sym same) refl

-- these values have the kinds of the variables, one for each
record OfKinds (variables : List Variable) (values : List Value) : Type 0 where
  counted : length values ≡ length variables
  kinds : (x : ℕ) (v : Value) → slice_get values x ≡ Some v → option_map (λ a. a.kind) (slice_get variables x) ≡ Some (kind_of v)

values_back : (variables : List Variable) (values : List Value) → OfKinds variables values
    → values_read variables (map value_cell values) ≡ map (λ v. Some v) values
values_back [] [] are = refl
values_back [] (v ∷ values) are = absurd (let e = are.counted in omega (arith, e))
values_back (x ∷ variables) [] are = absurd (let e = are.counted in omega (arith, e))
values_back (x ∷ variables) (v ∷ values) are =
    ap (λ (o : Option Value). o ∷ values_read variables (map value_cell values)) (value_back x.kind v (same_Some x.kind (kind_of v) (are.kinds 0 v refl)))
    ∙ ap (λ (os : List (Option Value)). Some v ∷ os) (values_back variables values (record {
      counted = let e = are.counted in omega (arith, e);
      kinds = λ i w is. are.kinds (suc i) w is;
    }))

-- its number has 16 bits
abbrev Small : Status → Type 0
Small (status.Waiting n) = n < 65536
Small (status.Paused n) = n < 65536
Small (status.At n) = n < 65536
Small other = Unit {0}

status_back : (s : Status) → Small s → status_in (status_cell s) ≡ Some s
status_back status.Absent small = refl
status_back status.Ended small = refl
status_back (status.Waiting n) small = grind (arith, small, nat_tests)
status_back (status.Paused n) small = grind (arith, small, nat_tests)
status_back (status.At n) small = grind (arith, small, nat_tests)

statuses_back : (statuses : List Status) → ((i : ℕ) (s : Status) → slice_get statuses i ≡ Some s → Small s)
    → map status_in (map status_cell statuses) ≡ map (λ s. Some s) statuses
statuses_back [] small = refl
statuses_back (s ∷ statuses) small =
    ap (λ (o : Option Status). o ∷ map status_in (map status_cell statuses)) (status_back s (small 0 s refl))
    ∙ ap (λ (os : List (Option Status)). Some s ∷ os) (statuses_back statuses (λ i t is. small (suc i) t is))

owned : (nodes : List Node) (n t : ℕ) → is_some_number (option_map (λ x. x.owner) (slice_get nodes n)) t ≡ true → n < length nodes
owned nodes n t e = at (slice_get nodes n) refl e
  where
    at : (o : Option Node) → slice_get nodes n ≡ o → is_some_number (option_map (λ x. x.owner) o) t ≡ true → n < length nodes
    at None is e = absurd (true≢false (sym e))
    at (Some x) is e = slice_get_within nodes n x is

place_small : (p : Program) → FitsLayout p.variables p.threads p.nodes → (t : ℕ) (s : Status)
    → ((n : ℕ) → s ≢ status.At n) → IsPlace p t s → Small s
place_small p fits t status.Absent nobody place = tt
place_small p fits t status.Ended nobody place = tt
place_small p fits t (status.At n) nobody place = absurd (nobody n refl)
place_small p fits t (status.Waiting j) nobody place =
    let less = owned p.nodes j t (left (owns p t j) (is_join_step (step_at p j)) place) in
    let most = fits.nodes_counted in omega (arith, less, most)
place_small p fits t (status.Paused d) nobody place =
    let less = owned p.nodes d t (left (owns p t d) (is_depth_step (step_at p d)) place) in
    let most = fits.nodes_counted in omega (arith, less, most)

resting_small : (p : Program) → FitsLayout p.variables p.threads p.nodes → (c : Control) → Rests p c
    → (t : ℕ) (s : Status) → slice_get c.statuses t ≡ Some s → Small s
resting_small p fits c rests t s is = place_small p fits t s
    (λ n at. rests.nobody_at t n (ap (λ (o : Option Status). unwrap_or o status.Absent) is ∙ at))
    (subst (λ (u : Status). IsPlace p t u) (ap (λ (o : Option Status). unwrap_or o status.Absent) is) (rests.configuration.places t))

resting_kinds : (p : Program) (c : Control) → Rests p c → OfKinds p.variables c.variables
resting_kinds p c rests = record { counted = rests.configuration.values; kinds = rests.configuration.kinds }

-- what the cells of such a configuration are read as
values_are : (p : Program) (values : List ℤ) (statuses : List ℕ) (h : HoldRest values statuses p)
    → values_read p.variables values ≡ map (λ v. Some v) h.control.variables
values_are p values statuses h = subst (λ (cells : List ℤ). values_read p.variables cells ≡ map (λ v. Some v) h.control.variables) h.held.of_variables
    (values_back p.variables h.control.variables (resting_kinds p h.control h.rests))

statuses_are : (p : Program) → FitsLayout p.variables p.threads p.nodes → (values : List ℤ) (statuses : List ℕ) (h : HoldRest values statuses p)
    → map status_in statuses ≡ map (λ s. Some s) h.control.statuses
statuses_are p fits values statuses h = subst (λ (cells : List ℕ). map status_in cells ≡ map (λ s. Some s) h.control.statuses) h.held.of_threads
    (statuses_back h.control.statuses (resting_small p fits h.control h.rests))

mapped : {A B : Type 0} (f : A → B) (xs : List A) → length (map f xs) ≡ length xs
mapped f [] = refl
mapped f (x ∷ xs) = ap suc (mapped f xs)

-- there is a cell for each variable
pub wrong_count : (p : Program) (values : List ℤ) (statuses : List ℕ) → length values ≢ length p.variables → HoldRest values statuses p → ⊥
wrong_count p values statuses differs h =
    differs (ap length (sym h.held.of_variables) ∙ mapped value_cell h.control.variables ∙ h.rests.configuration.values)

-- and one for each thread
pub wrong_thread_count : (p : Program) (values : List ℤ) (statuses : List ℕ) → length statuses ≢ length p.threads → HoldRest values statuses p → ⊥
wrong_thread_count p values statuses differs h =
    differs (ap length (sym h.held.of_threads) ∙ mapped status_cell h.control.statuses ∙ h.rests.configuration.threads)

-- each cell holds a value of its variable's kind
pub unread_value : (p : Program) (values : List ℤ) (statuses : List ℕ) → list_all is_some (values_read p.variables values) ≡ false
    → HoldRest values statuses p → ⊥
unread_value p values statuses e h =
    true≢false (sym (all_some h.control.variables) ∙ ap (list_all is_some) (sym (values_are p values statuses h)) ∙ e)

-- each cell holds a status
pub unread_status : (p : Program) → FitsLayout p.variables p.threads p.nodes → (values : List ℤ) (statuses : List ℕ)
    → list_all is_some (map status_in statuses) ≡ false → HoldRest values statuses p → ⊥
unread_status p fits values statuses e h =
    true≢false (sym (all_some h.control.statuses) ∙ ap (list_all is_some) (sym (statuses_are p fits values statuses h)) ∙ e)

-- what is read is that configuration
pub restless : (p : Program) → FitsLayout p.variables p.threads p.nodes → (values : List ℤ) (statuses : List ℕ) (c : Control)
    → map (λ v. Some v) c.variables ≡ values_read p.variables values → map (λ s. Some s) c.statuses ≡ map status_in statuses
    → (Rests p c → ⊥) → HoldRest values statuses p → ⊥
restless p fits values statuses c read marked other h = other (subst (λ (d : Control). Rests p d) same h.rests)
  where
    variables : h.control.variables ≡ c.variables
    variables = sym (same_somes c.variables h.control.variables (read ∙ values_are p values statuses h))

    threads : h.control.statuses ≡ c.statuses
    threads = sym (same_somes c.statuses h.control.statuses (marked ∙ statuses_are p fits values statuses h))

    same : h.control ≡ c
    same = ap (λ (v : List Value). record { variables = v; statuses = h.control.statuses }) variables
        ∙ ap (λ (s : List Status). record { variables = c.variables; statuses = s }) threads
