-- The lists of followers have the ends of all protocol edges from a node.
use Rattle.std.proofs.Common.{ℕ, ◌≡◌, ◌<◌, inl, inr, Some, None, List, [], length, get_or, refl, sym, subst, ap, arith}
use Rattle.std.specs.Prelude.{Contains}
use Rattle.sc_values.specs.declared.operator.Combination.{Combination}
use Rattle.sc_values.specs.declared.operation.Operation.{Operation}
use Rattle.sc_values.specs.Access.{Access, Nothing, Inits, Updates, Precedes, init_update, init_read, update_read}
use Rattle.sc_values.specs.Code.{literal_of}
use Rattle.sc_graph.specs.declared.program.Step.{Step}
use Rattle.sc_graph.specs.declared.program.Step.TheVariants as step
use Rattle.sc_graph.specs.Program.{Program, step_at}
use Rattle.sc_graph.specs.Accesses.{accesses, access_of}
use Rattle.sc_graph.specs.declared.links.Links.{Links}
use Rattle.conflict_edges.specs.declared.edges.Followers.{Followers}
use Rattle.conflict_edges.specs.Followers.{AreFollowers, IsListed}
use Rattle.program_edges.specs.Users.{InitsAt, UpdatesAt, ReadsAt}
use Rattle.program_edges.specs.declared.users.Users.{Users}
use Rattle.conflict_edges.specs.Inside.Held.{AreHeld}
use Rattle.program_edges.proofs.Variables.{access_is, step_or_none, init_variable, update_variable}

nothing_in : (n : ℕ) → ¬ Contains [] n
nothing_in n c = let lt = c.1 in omega (arith, lt)

-- an init comes before the updates and the reads of its variable
pub after_init : (p : Program) (links : Links) (users : Users) (m x : ℕ) (f : Followers) → AreHeld p links users → InitsAt p x m →
    f.updates.now ≡ get_or users.updates x [] → f.reads.now ≡ get_or users.reads x [] → AreFollowers p m f
after_init p links users m x f l init u r =
    let lt : x < length p.variables = init_variable p l.formed m x init in
    let C : (n : ℕ) → List ℕ → Type 0 = λ n xs. Contains xs n in
    record {
      edge = λ n listed concurrent. record {
        concurrent = concurrent;
        precedes = elim listed [
          | inl c ↦ (let w = (l.used.updates.each x lt).only n (subst (C n) u c) in init_update x w.0 init w.1)
          | inr c ↦ init_read x init ((l.used.reads.each x lt).only n (subst (C n) r c))
        ];
      };
      each = λ n edge. listed n edge.precedes;
    }
  where
    same : (y : ℕ) → Inits (accesses p m) y → y ≡ x
    same y i = let a = i.1 in let b = init.1 in cc

    listed : (n : ℕ) → Precedes (accesses p m) (accesses p n) → IsListed f n
    listed n (init_update y g i w) =
        let lt : x < length p.variables = init_variable p l.formed m x init in
        let P : ℕ → Type 0 = λ k. UpdatesAt p k n in
        let C : List ℕ → Type 0 = λ xs. Contains xs n in
        inl (subst C (sym u) ((l.used.updates.each x lt).each n (subst P (same y i) (g, w))))
    listed n (init_read y i w) =
        let lt : x < length p.variables = init_variable p l.formed m x init in
        let P : ℕ → Type 0 = λ k. ReadsAt p k n in
        let C : List ℕ → Type 0 = λ xs. Contains xs n in
        inr (subst C (sym r) ((l.used.reads.each x lt).each n (subst P (same y i) w)))
    listed n (update_read y g w z) = absurd (let b = init.1 in cc)

-- an update comes before the reads of its variable
pub after_update : (p : Program) (links : Links) (users : Users) (m x : ℕ) (f : Followers) → AreHeld p links users → UpdatesAt p x m →
    f.updates.now ≡ [] → f.reads.now ≡ get_or users.reads x [] → AreFollowers p m f
after_update p links users m x f l update u r =
    let lt : x < length p.variables = update_variable p l.formed m x update.0 update.1 in
    let C : (n : ℕ) → List ℕ → Type 0 = λ n xs. Contains xs n in
    record {
      edge = λ n listed concurrent. record {
        concurrent = concurrent;
        precedes = elim listed [
          | inl c ↦ absurd (nothing_in n (subst (C n) u c))
          | inr c ↦ update_read x update.0 update.1 ((l.used.reads.each x lt).only n (subst (C n) r c))
        ];
      };
      each = λ n edge. listed n edge.precedes;
    }
  where
    same : (y : ℕ) (g : Combination) → Updates (accesses p m) y g → y ≡ x
    same y g a = let b = update.1 in cc

    listed : (n : ℕ) → Precedes (accesses p m) (accesses p n) → IsListed f n
    listed n (init_update y g i w) = absurd (let a = i.1 in let b = update.1 in cc)
    listed n (init_read y i w) = absurd (let a = i.1 in let b = update.1 in cc)
    listed n (update_read y g w z) =
        let lt : x < length p.variables = update_variable p l.formed m x update.0 update.1 in
        let P : ℕ → Type 0 = λ k. ReadsAt p k n in
        let C : List ℕ → Type 0 = λ xs. Contains xs n in
        inr (subst C (sym r) ((l.used.reads.each x lt).each n (subst P (same y g w) z)))

-- nothing comes after a node that writes nothing
pub after_nothing : (p : Program) (m : ℕ) (f : Followers) → (accesses p m).writes ≡ Nothing → f.updates.now ≡ [] → f.reads.now ≡ [] → AreFollowers p m f
after_nothing p m f none u r =
    let C : (n : ℕ) → List ℕ → Type 0 = λ n xs. Contains xs n in
    record {
      edge = λ n listed concurrent. absurd (elim listed [ inl c ↦ nothing_in n (subst (C n) u c) | inr c ↦ nothing_in n (subst (C n) r c) ]);
      each = λ n edge. absurd (never n edge.precedes);
    }
  where
    never : (n : ℕ) → ¬ Precedes (accesses p m) (accesses p n)
    never n (init_update y g i w) = let a = i.1 in cc
    never n (init_read y i w) = let a = i.1 in cc
    never n (update_read y g w z) = cc

pub init_of : (p : Program) (m x next : ℕ) (code : List Operation) → step_at p m ≡ Some (step.Assign x code next) → InitsAt p x m
init_of p m x next code e = let P : Access → Type 0 = λ a. Inits a x in subst P (sym (access_is p m (step.Assign x code next) e)) (literal_of code, refl)

pub update_of : (p : Program) (m x next : ℕ) (g : Combination) (code : List Operation) → step_at p m ≡ Some (step.Update x g code next) → UpdatesAt p x m
update_of p m x next g code e = let P : Access → Type 0 = λ a. Updates a x g in (g, subst P (sym (access_is p m (step.Update x g code next) e)) refl)

pub writes_nothing : (p : Program) (m : ℕ) (s : Step) → step_at p m ≡ Some s → (access_of s).writes ≡ Nothing → (accesses p m).writes ≡ Nothing
writes_nothing p m s e h = let P : Access → Type 0 = λ a. a.writes ≡ Nothing in subst P (sym (access_is p m s e)) h

pub no_node : (p : Program) (m : ℕ) → step_at p m ≡ None → (accesses p m).writes ≡ Nothing
no_node p m e = elim (step_or_none p m) [
  | inl s ↦ absurd (let f = s.1 in cc)
  | inr none ↦ ap (λ a. a.writes) none
]
