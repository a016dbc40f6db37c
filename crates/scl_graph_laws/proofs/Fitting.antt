-- What the size and structure rules ask, in general: of names, of targets, of where threads come from.
use Rattle.std.proofs.Common.{◌≡◌, ◌≢◌, ℕ, zero, suc, ◌+◌, ◌<◌, ◌≤◌, Bool, true, cond, Option, Some, None, List, [], ◌∷◌, map, length, take, slice_get}
use Rattle.std.proofs.Common.{option_map, count_by, Contains, refl, sym, ap, subst, ◌∙◌, eqb-true, arith}
use Rattle.std.proofs.lemmas.Bool.{and_parts}
use Rattle.std.proofs.lemmas.List.Sums.{sum_by-cons}
use Rattle.std.proofs.lemmas.Option.{none-some, same_Some, slice_get_within, slice_get-get_or}
use Rattle.sc_values.specs.Expr.{postorder}
use Rattle.sc_values.specs.Assignment.{Assignment, Inits, Combines, operand}
use Rattle.sc_graph.specs.declared.program.Variable.{Variable}
use Rattle.sc_graph.specs.declared.program.Node.{Node}
use Rattle.sc_graph.specs.declared.program.Step.{Step}
use Rattle.sc_graph.specs.Program.{Program, step_at, owner_of, is_some_number, owns, is_ordinary_step, is_target}
use Rattle.sc_graph.specs.Size.{ParentFits, InNodes, InVariables, LoadsFit, StepFits}
use Rattle.sc_graph.specs.Structure.{StepStays, BelongsToOne}
use Rattle.scl.specs.Block.{Block, Fork, Branches}
use Rattle.scl.specs.Places.{Place, IsBranch}
use Rattle.scl_graph.specs.Graph.{assigns, node}
use Rattle.scl_graph_laws.specs.Mirrors.{HasNode}
use Rattle.scl_graph_laws.proofs.Spreading.{OfThreads}
use Rattle.scl_graph_laws.proofs.Scopes.{Distinct}
use Rattle.scl_graph_laws.proofs.RunsKept.{name_stands}

-- ---- lists

pub stands_at : {X : Type 0} (xs : List X) (x : X) → Contains xs x → (k : ℕ) × (slice_get xs k ≡ Some x)
stands_at xs x h = (h.0, slice_get-get_or xs h.0 x h.1 ∙ ap Some h.2)

-- a name stands once
pub differs_before : (variables : List Variable) → Distinct (map (λ x. x.name) variables) → (y x : ℕ) (a b : Variable) → y < x → slice_get variables x ≡ Some a
    → slice_get variables y ≡ Some b → b.name ≢ a.name
differs_before [] distinct y x a b lt h k same = absurd (none-some a h)
differs_before (v ∷ variables) distinct y zero a b lt h k same = absurd (omega (arith, lt))
differs_before (v ∷ variables) distinct zero (suc x) a b lt h k same =
    distinct.0 (subst (Contains (map (λ x. x.name) variables)) (sym same ∙ ap (λ x. x.name) (sym (same_Some v b k))) (name_stands variables x a h))
differs_before (v ∷ variables) distinct (suc y) (suc x) a b lt h k same = differs_before variables distinct.1 y x a b (omega (arith, lt)) h k same

pub count_take : (test : Variable → Bool) (xs : List Variable) (n : ℕ) → count_by test (take n xs) ≤ count_by test xs
count_take test [] zero = omega arith
count_take test [] (suc n) = omega arith
count_take test (x ∷ xs) zero = omega arith
count_take test (x ∷ xs) (suc n) =
    let rest : count_by test (take n xs) ≤ count_by test xs = count_take test xs n in
    let first : count_by test (take (suc n) (x ∷ xs)) ≡ cond (test x) 1 0 + count_by test (take n xs) = sum_by-cons (λ y. cond (test y) 1 0) x (take n xs) in
    let all : count_by test (x ∷ xs) ≡ cond (test x) 1 0 + count_by test xs = sum_by-cons (λ y. cond (test y) 1 0) x xs in
    omega (arith, rest, first, all)

-- ---- nodes and their targets

pub owned_within : (q : Program) (t n : ℕ) → owns q t n ≡ true → (owner_of q n ≡ Some t) × (n < length q.nodes)
owned_within q t n h = at (slice_get q.nodes n) refl h
  where
    at : (o : Option Node) → slice_get q.nodes n ≡ o → is_some_number (option_map (λ x. x.owner) o) t ≡ true → (owner_of q n ≡ Some t) × (n < length q.nodes)
    at None is i = absurd (cc)
    at (Some x) is i = (ap (option_map (λ x. x.owner)) is ∙ ap Some (eqb-true x.owner t i), slice_get_within q.nodes n x is)

pub target_within : (q : Program) (t n : ℕ) → is_target q t n ≡ true → (owner_of q n ≡ Some t) × (n < length q.nodes)
target_within q t n h = owned_within q t n (and_parts (owns q t n) (is_ordinary_step (step_at q n)) h).0

pub node_within : (q : Program) (n t : ℕ) (s : Step) → HasNode q n t s → n < length q.nodes
node_within q n t s h = slice_get_within q.nodes n (node t s) h.is

pub assigns_fit : (q : Program) (x : ℕ) (a : Assignment) (next : ℕ) → InVariables q x → LoadsFit q (postorder (operand a)) → InNodes q next
    → StepFits q (assigns x a next)
assigns_fit q x (Inits e) next h i j = (h, i, j)
assigns_fit q x (Combines f e) next h i j = (h, i, j)

pub assigns_stay : (q : Program) (t x : ℕ) (a : Assignment) (next : ℕ) → is_target q t next ≡ true → StepStays q t (assigns x a next)
assigns_stay q t x (Inits e) next h = h
assigns_stay q t x (Combines f e) next h = h

pub assigns_alone : (q : Program) (n x : ℕ) (a : Assignment) (next : ℕ) → BelongsToOne q n (assigns x a next)
assigns_alone q n x (Inits e) next = tt
assigns_alone q n x (Combines f e) next = tt

-- ---- where a thread comes from

pub data ThreadFrom (root : Block) (u : ℕ) : Type 0 where
  as_root : u ≡ 0 → ThreadFrom root u
  as_branch : (t n : ℕ) (branches : Branches) (body rest : Block) → Place root t (Fork n branches rest) → IsBranch branches u body → ThreadFrom root u

pub thread_sources : (root : Block) → OfThreads root (λ u x. ThreadFrom root u)
thread_sources root = record { child = λ t n u branches body rest entry place at lt. as_branch t n branches body rest place at }

pub parent_fits : (t u : ℕ) → t < u → ParentFits u (Some t)
parent_fits t zero lt = absurd (omega (arith, lt))
parent_fits t (suc u) lt = lt

pub thread_parents : (root : Block) → OfThreads root (λ u x. ParentFits u x.parent)
thread_parents root = record { child = λ t n u branches body rest entry place at lt. parent_fits t u lt }
