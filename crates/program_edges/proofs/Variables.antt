-- The variables of a formed program that its nodes write, and lists of their users.
use Rattle.std.proofs.Common.{ℕ, ◌≡◌, ◌<◌, ◌⊎◌, ◌∙◌, inl, inr, Option, Some, None, List, length, get_or, slice_get, option_map, refl, ap, subst}
use Rattle.std.specs.Prelude.{unwrap_or, Contains}
use Rattle.std.proofs.lemmas.List.{get_or_default}
use Rattle.sc_values.specs.declared.operator.Combination.{Combination}
use Rattle.sc_values.specs.Access.{Access, Nothing, no_access, Inits, Updates}
use Rattle.sc_graph.specs.declared.place.Place.TheVariants as place
use Rattle.sc_graph.specs.declared.program.Node.{Node}
use Rattle.sc_graph.specs.declared.program.Step.{Step}
use Rattle.sc_graph.specs.declared.program.Step.TheVariants as step
use Rattle.sc_graph.specs.Program.{Program, step_at}
use Rattle.sc_graph.specs.Size.{StepFits, InVariables}
use Rattle.sc_graph.specs.Valid.{IsFormed}
use Rattle.sc_graph.specs.Accesses.{accesses, access_of}
use Rattle.sc_graph.proofs.Nodes.{node_of_step}
use Rattle.program_edges.specs.Users.{InitsAt, UpdatesAt, Lists}
use Rattle.program_edges.specs.Inside.NoConflicts.{NoneConflict, NoConflictOn}

-- what holds at each index of a list of numbers holds of each number in it
pub of_each : (xs : List ℕ) (P : ℕ → Type 0) → ((k : ℕ) → k < length xs → P (get_or xs k 0)) → (x : ℕ) → Contains xs x → P x
of_each xs P h x c = subst P (get_or_default xs c.0 0 x c.1 ∙ c.2) (h c.0 c.1)

pub step_or_none : (p : Program) (n : ℕ) → ((s : Step) × (step_at p n ≡ Some s)) ⊎ (accesses p n ≡ no_access)
step_or_none p n = found (slice_get p.nodes n) refl
  where
    found : (o : Option Node) → slice_get p.nodes n ≡ o → ((s : Step) × (step_at p n ≡ Some s)) ⊎ (accesses p n ≡ no_access)
    found None is = inr (ap (λ (o : Option Node). unwrap_or (option_map access_of (option_map (λ (x : Node). x.step) o)) no_access) is)
    found (Some x) is = inl (x.step, ap (option_map (λ (y : Node). y.step)) is)

pub access_is : (p : Program) (n : ℕ) (s : Step) → step_at p n ≡ Some s → accesses p n ≡ access_of s
access_is p n s e = ap (λ (o : Option Step). unwrap_or (option_map access_of o) no_access) e

pub step_fits : (p : Program) → IsFormed p → (n : ℕ) (s : Step) → step_at p n ≡ Some s → StepFits p s
step_fits p formed n s e =
    let at = node_of_step p n s e in
    let P : Step → Type 0 = λ a. StepFits p a in
    subst P at.step (formed.size (place.Node n) at.node at.stands).fits

init_fits : (p : Program) (x : ℕ) (s : Step) → StepFits p s → Inits (access_of s) x → InVariables p x
init_fits p x (step.Assign y code n) f i = let same : y ≡ x = (let w = i.1 in cc) in let P : ℕ → Type 0 = λ k. InVariables p k in subst P same f.0
init_fits p x (step.Update y g code n) f i = absurd (let w = i.1 in cc)
init_fits p x (step.Cond code m n) f i = absurd (let w = i.1 in cc)
init_fits p x (step.Fork ks j) f i = absurd (let w = i.1 in cc)
init_fits p x (step.Join n) f i = absurd (let w = i.1 in cc)
init_fits p x (step.Surf n) f i = absurd (let w = i.1 in cc)
init_fits p x (step.Depth n) f i = absurd (let w = i.1 in cc)
init_fits p x step.Exit f i = absurd (let w = i.1 in cc)

update_fits : (p : Program) (x : ℕ) (h : Combination) (s : Step) → StepFits p s → Updates (access_of s) x h → InVariables p x
update_fits p x h (step.Assign y code n) f u = absurd (cc)
update_fits p x h (step.Update y g code n) f u = let same : y ≡ x = cc in let P : ℕ → Type 0 = λ k. InVariables p k in subst P same f.0
update_fits p x h (step.Cond code m n) f u = absurd (cc)
update_fits p x h (step.Fork ks j) f u = absurd (cc)
update_fits p x h (step.Join n) f u = absurd (cc)
update_fits p x h (step.Surf n) f u = absurd (cc)
update_fits p x h (step.Depth n) f u = absurd (cc)
update_fits p x h step.Exit f u = absurd (cc)

pub init_variable : (p : Program) → IsFormed p → (n x : ℕ) → Inits (accesses p n) x → x < length p.variables
init_variable p formed n x i = elim (step_or_none p n) [
  | inl s ↦ init_fits p x s.0 (step_fits p formed n s.0 s.1) (let P : Access → Type 0 = λ a. Inits a x in subst P (access_is p n s.0 s.1) i)
  | inr e ↦ absurd (let w : (accesses p n).writes ≡ Nothing = ap (λ a. a.writes) e in let v = i.1 in cc)
]

pub update_variable : (p : Program) → IsFormed p → (n x : ℕ) (f : Combination) → Updates (accesses p n) x f → x < length p.variables
update_variable p formed n x f u = elim (step_or_none p n) [
  | inl s ↦ update_fits p x f s.0 (step_fits p formed n s.0 s.1) (let P : Access → Type 0 = λ a. Updates a x f in subst P (access_is p n s.0 s.1) u)
  | inr e ↦ absurd (let w : (accesses p n).writes ≡ Nothing = ap (λ a. a.writes) e in cc)
]

pub no_conflict_on : (p : Program) (x : ℕ) (inits updates : List ℕ) → Lists inits (InitsAt p x) → Lists updates (UpdatesAt p x) → NoneConflict p inits
    → NoneConflict p updates → NoConflictOn p x
no_conflict_on p x inits updates i u none_i none_u = record {
  inits = λ m n a b. none_i m n (i.each m a) (i.each n b);
  updates = λ m n a b. none_u m n (u.each m a) (u.each n b);
}
