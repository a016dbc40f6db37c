-- The instantaneous edges from a node are those that its step makes.
use Rattle.std.proofs.Common.{ℕ, ◌≡◌, ◌<◌, ◌⊎◌, inl, inr, true, false, Option, Some, None, List, [], length, slice_get, option_map, option_and_then, refl, sym}
use Rattle.std.proofs.Common.{◌∙◌, subst, ap, arith}
use Rattle.std.specs.Prelude.{Contains, ◌↔◌, IsSome, IfSome}
use Rattle.sc_graph.specs.declared.links.Links.{Links}
use Rattle.sc_graph.specs.declared.program.Node.{Node}
use Rattle.sc_graph.specs.declared.program.Step.{Step}
use Rattle.sc_graph.specs.declared.program.Step.TheVariants as step
use Rattle.sc_graph.specs.declared.place.Place.TheVariants as place
use Rattle.sc_graph.specs.Links.{only_at, Tells}
use Rattle.sc_graph.specs.Program.{Program, step_at, owner_of, parent_of}
use Rattle.sc_graph.specs.Protocol.{Instant, by_successor, by_entry, by_exit, successors}
use Rattle.sc_graph.specs.Structure.{ForksChild, ExactlyOne}
use Rattle.sc_graph.specs.Threads.{IsFork}
use Rattle.sc_graph.specs.Valid.{IsFormed}
use Rattle.sc_graph.proofs.Formed.{node_at, owner_at, parent_is_owner, forked_once, within_threads}
use Rattle.sc_graph.proofs.Linking.{fork_known}
use Rattle.program_edges.specs.Sorts.{IsJoinBehind, IsOn, IsEntry, children_of}
use Rattle.program_edges.specs.Inside.Behind.{is_exit, fork_join, join_of_child, join_behind}

nothing_in : (n : ℕ) → ¬ Contains [] n
nothing_in n c = let lt = c.1 in omega (arith, lt)

-- a fork has an owner
pub fork_owned : (p : Program) (f j : ℕ) (children : List ℕ) → step_at p f ≡ Some (step.Fork children j) → (t : ℕ) × IsFork p f t children j
fork_owned p f j children at =
    let x = node_at p f (step.Fork children j) at in
    (x.node.owner, record { owned = owner_at p f x.node x.there; forks = at })

-- an owner is a thread of the program
pub owner_within : (p : Program) → IsFormed p → (n t : ℕ) → owner_of p n ≡ Some t → t < length p.threads
owner_within p formed n t owned = found (slice_get p.nodes n) refl owned
  where
    found : (o : Option Node) → slice_get p.nodes n ≡ o → option_map (λ (x : Node). x.owner) o ≡ Some t → t < length p.threads
    found None is h = absurd (cc)
    found (Some x) is h =
        let same : x.owner ≡ t = cc in
        let P : ℕ → Type 0 = λ k. k < length p.threads in
        subst P same (formed.size (place.Node n) x is).owner

fork_join_of : (o : Option Step) (n : ℕ) → fork_join o ≡ Some n → (children : List ℕ) × (o ≡ Some (step.Fork children n))
fork_join_of None n h = absurd (cc)
fork_join_of (Some (step.Fork children j)) n h = (children, (let same : j ≡ n = cc in cc))
fork_join_of (Some (step.Assign x code m)) n h = absurd (cc)
fork_join_of (Some (step.Update x f code m)) n h = absurd (cc)
fork_join_of (Some (step.Cond code k m)) n h = absurd (cc)
fork_join_of (Some (step.Join m)) n h = absurd (cc)
fork_join_of (Some (step.Surf m)) n h = absurd (cc)
fork_join_of (Some (step.Depth m)) n h = absurd (cc)
fork_join_of (Some step.Exit) n h = absurd (cc)

-- the fork that is linked to a child
pub linked_fork : (p : Program) (l : Links) → IsFormed p → Tells p l → (f t j k : ℕ) (children : List ℕ) → IsFork p f t children j → Contains children k
    → only_at l.forks k ≡ Some f
linked_fork p l formed told f t j k children fork among =
    let up = parent_is_owner p formed f t j k children fork among in
    let one : ExactlyOne (ForksChild p k) = forked_once p formed k t up in
    let here : ForksChild p k f = record { children = children; join = j; forks = fork.forks; child = among } in
    let lt : k < length p.threads = child_within up in
    let sole = told.forks k lt in
    found one here (only_at l.forks k) refl (sole.once.1 one) sole.is
  where
    child_within : parent_of p k ≡ Some t → k < length p.threads
    child_within up = within_threads p k t up

    found : ExactlyOne (ForksChild p k) → ForksChild p k f → (o : Option ℕ) → only_at l.forks k ≡ o → IsSome o → IfSome o (ForksChild p k) → only_at l.forks k
        ≡ Some f
    found one here None is some if_some = absurd (let s = some in cc)
    found one here (Some g) is some other =
        let e : g ≡ f = one.alone g other ∙ sym (one.alone f here) in
        let P : ℕ → Type 0 = λ x. only_at l.forks k ≡ Some x in
        subst P e is

-- the join behind, as it is found
pub behind_found : (p : Program) (l : Links) → IsFormed p → Tells p l → (m n : ℕ) → (join_behind p l m ≡ Some n) ↔ IsJoinBehind p m n
behind_found p l formed told m n = (λ h. of_owner (owner_of p m) refl h, λ b. back b)
  where
    of_step : (k f : ℕ) → owner_of p m ≡ Some k → only_at l.forks k ≡ Some f → (children : List ℕ) × (step_at p f ≡ Some (step.Fork children n))
        → IsJoinBehind p m n
    of_step k f owned at found =
        let x = fork_known p l k f told (owner_within p formed m k owned) at in
        let own = fork_owned p f n found.0 found.1 in
        let forks = x.forks in
        let is = found.1 in
        let same : x.children ≡ found.0 = cc in
        let P : List ℕ → Type 0 = λ ks. Contains ks k in
        record { fork = f; thread = own.0; children = found.0; child = k; is_fork = own.1; among = subst P same x.child; owner = owned }

    of_link : (k : ℕ) (o : Option ℕ) → owner_of p m ≡ Some k → only_at l.forks k ≡ o → fork_join (option_and_then (λ f. step_at p f) o) ≡ Some n
        → IsJoinBehind p m n
    of_link k None owned at h = absurd (cc)
    of_link k (Some f) owned at h = of_step k f owned at (fork_join_of (step_at p f) n h)

    of_owner : (o : Option ℕ) → owner_of p m ≡ o → option_and_then (λ k. join_of_child p l k) o ≡ Some n → IsJoinBehind p m n
    of_owner None is h = absurd (cc)
    of_owner (Some k) is h = of_link k (only_at l.forks k) is refl h

    back : IsJoinBehind p m n → join_behind p l m ≡ Some n
    back b =
        let at = linked_fork p l formed told b.fork b.thread n b.child b.children b.is_fork b.among in
        let first : join_behind p l m ≡ join_of_child p l b.child = ap (option_and_then (λ k. join_of_child p l k)) b.owner in
        let second : join_of_child p l b.child ≡ fork_join (step_at p b.fork) = ap (λ (o : Option ℕ). fork_join (option_and_then (λ f. step_at p f) o)) at in
        let third : fork_join (step_at p b.fork) ≡ Some n = ap fork_join b.is_fork.forks in
        first ∙ second ∙ third

exit_is : (s : Step) → is_exit s ≡ true → s ≡ step.Exit
exit_is step.Exit h = refl
exit_is (step.Assign x code k) h = absurd (cc)
exit_is (step.Update x f code k) h = absurd (cc)
exit_is (step.Cond code j k) h = absurd (cc)
exit_is (step.Fork children j) h = absurd (cc)
exit_is (step.Join k) h = absurd (cc)
exit_is (step.Surf k) h = absurd (cc)
exit_is (step.Depth k) h = absurd (cc)

-- of an exit
pub on_exit : (p : Program) (l : Links) → IsFormed p → Tells p l → (m : ℕ) (s : Step) → is_exit s ≡ true → (n : ℕ)
    → ((join_behind p l m ≡ Some n) ⊎ (None ≡ Some n)) ↔ IsOn p m s n
on_exit p l formed told m s is n =
    let P : Step → Type 0 = λ x. ((join_behind p l m ≡ Some n) ⊎ (None ≡ Some n)) ↔ IsOn p m x n in
    let f = behind_found p l formed told m n in
    subst P (sym (exit_is s is)) (λ h. elim h [ inl e ↦ f.0 e | inr e ↦ absurd (cc) ], λ b. inl (f.1 b))

-- of all other steps
pub on_other : (p : Program) (m : ℕ) (s : Step) (n : ℕ) → is_exit s ≡ false → Contains (successors s) n ↔ IsOn p m s n
on_other p m (step.Assign x code k) n other = (λ c. c, λ c. c)
on_other p m (step.Update x f code k) n other = (λ c. c, λ c. c)
on_other p m (step.Cond code j k) n other = (λ c. c, λ c. c)
on_other p m (step.Fork children j) n other = (λ c. c, λ c. c)
on_other p m (step.Join k) n other = (λ c. c, λ c. c)
on_other p m (step.Surf k) n other = (λ c. c, λ c. c)
on_other p m (step.Depth k) n other = (λ c. c, λ c. c)
on_other p m step.Exit n other = absurd (cc)

on_of : (p : Program) (m n : ℕ) (s : Step) → Contains (successors s) n → IsOn p m s n
on_of p m n (step.Assign x code k) c = c
on_of p m n (step.Update x f code k) c = c
on_of p m n (step.Cond code j k) c = c
on_of p m n (step.Fork children j) c = c
on_of p m n (step.Join k) c = c
on_of p m n (step.Surf k) c = c
on_of p m n (step.Depth k) c = c
on_of p m n step.Exit c = absurd (nothing_in n c)

instant_on : (p : Program) (m n : ℕ) (s : Step) → step_at p m ≡ Some s → IsOn p m s n → Instant p m n
instant_on p m n (step.Assign x code k) at c = by_successor (step.Assign x code k) at c
instant_on p m n (step.Update x f code k) at c = by_successor (step.Update x f code k) at c
instant_on p m n (step.Cond code j k) at c = by_successor (step.Cond code j k) at c
instant_on p m n (step.Fork children j) at c = by_successor (step.Fork children j) at c
instant_on p m n (step.Join k) at c = by_successor (step.Join k) at c
instant_on p m n (step.Surf k) at c = by_successor (step.Surf k) at c
instant_on p m n (step.Depth k) at c = by_successor (step.Depth k) at c
instant_on p m n step.Exit at b = by_exit b.fork b.thread b.children b.child b.is_fork b.among b.owner at

instant_into : (p : Program) (m n : ℕ) (s : Step) → step_at p m ≡ Some s → IsEntry p (children_of s) n → Instant p m n
instant_into p m n (step.Fork children j) at e = (let own = fork_owned p m j children at in by_entry own.0 children j e.0 own.1 e.1 e.2)
instant_into p m n (step.Assign x code k) at e = absurd (nothing_in e.0 e.1)
instant_into p m n (step.Update x f code k) at e = absurd (nothing_in e.0 e.1)
instant_into p m n (step.Cond code j k) at e = absurd (nothing_in e.0 e.1)
instant_into p m n (step.Join k) at e = absurd (nothing_in e.0 e.1)
instant_into p m n (step.Surf k) at e = absurd (nothing_in e.0 e.1)
instant_into p m n (step.Depth k) at e = absurd (nothing_in e.0 e.1)
instant_into p m n step.Exit at e = absurd (nothing_in e.0 e.1)

pub instants_are : (p : Program) (m : ℕ) (s : Step) → step_at p m ≡ Some s → (n : ℕ) → (IsOn p m s n ⊎ IsEntry p (children_of s) n) ↔ Instant p m n
instants_are p m s at n = (
  λ h. elim h [ inl on ↦ instant_on p m n s at on | inr into ↦ instant_into p m n s at into ],
  λ i. back i,
)
  where
    back : Instant p m n → IsOn p m s n ⊎ IsEntry p (children_of s) n
    back (by_successor s' at' c) =
        let same : s' ≡ s = cc in
        let P : Step → Type 0 = λ x. Contains (successors x) n in
        inl (on_of p m n s (subst P same c))
    back (by_entry t children j k fork among entry) =
        let forks = fork.forks in
        let same : step.Fork children j ≡ s = cc in
        let P : Step → Type 0 = λ x. IsEntry p (children_of x) n in
        inr (subst P same (k, among, entry))
    back (by_exit f t children k fork among owner at') =
        let same : step.Exit ≡ s = cc in
        let P : Step → Type 0 = λ x. IsOn p m x n in
        inl (subst P same (record { fork = f; thread = t; children = children; child = k; is_fork = fork; among = among; owner = owner }))

pub instants_none : (p : Program) (m : ℕ) → step_at p m ≡ None → (n : ℕ) → ¬ Instant p m n
instants_none p m at n (by_successor s at' c) = cc
instants_none p m at n (by_entry t children j k fork among entry) = let forks = fork.forks in cc
instants_none p m at n (by_exit f t children k fork among owner at') = cc
