-- What stands at a number is within the program.
use Rattle.std.proofs.Common.{ℕ, ◌≡◌, ◌<◌, Option, Some, None, List, length, slice_get, option_map, refl, ap, subst, arith, ◌⊎◌, inl, inr}
use Rattle.std.proofs.lemmas.Option.{slice_get_within}
use Rattle.sc_graph.specs.declared.program.Node.{Node}
use Rattle.sc_graph.specs.declared.program.Step.{Step}
use Rattle.std.specs.Prelude.{unwrap_or, Contains}
use Rattle.sc_values.specs.Access.{Nothing, no_access}
use Rattle.sc_graph.specs.Accesses.{accesses, access_of}
use Rattle.program_edges.specs.Users.{InitsAt, UpdatesAt, ReadsAt, UsesAt}
use Rattle.program_edges.specs.declared.users.Use.{Use}
use Rattle.program_edges.specs.declared.users.Use.TheVariants as use_is
use Rattle.sc_graph.specs.Program.{Program, step_at}

-- what a node accesses that isn't there
pub node_or_none : (p : Program) (n : ℕ) → (n < length p.nodes) ⊎ (accesses p n ≡ no_access)
node_or_none p n = found (slice_get p.nodes n) refl
  where
    found : (o : Option Node) → slice_get p.nodes n ≡ o → (n < length p.nodes) ⊎ (accesses p n ≡ no_access)
    found None is = inr (ap (λ (o : Option Node). unwrap_or (option_map access_of (option_map (λ (x : Node). x.step) o)) no_access) is)
    found (Some x) is = inl (slice_get_within p.nodes n x is)

inits_within : (p : Program) (x n : ℕ) → InitsAt p x n → n < length p.nodes
inits_within p x n h = elim (node_or_none p n) [
  | inl lt ↦ lt
  | inr e ↦ absurd (let w : (accesses p n).writes ≡ Nothing = ap (λ a. a.writes) e in let v = h.1 in cc)
]

updates_within : (p : Program) (x n : ℕ) → UpdatesAt p x n → n < length p.nodes
updates_within p x n h = elim (node_or_none p n) [
  | inl lt ↦ lt
  | inr e ↦ absurd (let w : (accesses p n).writes ≡ Nothing = ap (λ a. a.writes) e in let v = h.1 in cc)
]

reads_within : (p : Program) (x n : ℕ) → ReadsAt p x n → n < length p.nodes
reads_within p x n h = elim (node_or_none p n) [
  | inl lt ↦ lt
  | inr e ↦ absurd (let P : List ℕ → Type 0 = λ xs. Contains xs x in let c = subst P (ap (λ a. a.reads) e) h in let lt = c.1 in omega arith)
]

pub uses_within : (p : Program) (way : Use) (x n : ℕ) → UsesAt p way x n → n < length p.nodes
uses_within p use_is.Init x n h = inits_within p x n h
uses_within p use_is.Update x n h = updates_within p x n h
uses_within p use_is.Read x n h = reads_within p x n h

-- the access of a node with this step
pub access_there : (p : Program) (n : ℕ) (s : Step) → Some s ≡ step_at p n → access_of s ≡ accesses p n
access_there p n s e = ap (λ (o : Option Step). unwrap_or (option_map access_of o) no_access) e
