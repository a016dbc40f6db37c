-- What the rules of size and of structure say of a program, by numbers: who owns what, one fork for
-- each join and for each child, and parents of smaller number.
use Rattle.std.proofs.Common.{◌≡◌, ◌≢◌, ℕ, zero, suc, ◌<◌, Bool, true, false, List, [], ◌∷◌, length, get_or, Option, Some, None, slice_get, option_map}
use Rattle.std.proofs.Common.{if◌then◌else◌, eqb, Contains, refl, sym, ap, subst, subst₂, ◌∙◌, arith}
use Rattle.std.proofs.lemmas.Bool.{eq-eqb, eqb-true, and_parts}
use Rattle.std.proofs.lemmas.List.Elements.{All-contains, Contains-get_or}
use Rattle.sc_graph.specs.declared.program.Thread.{Thread}
use Rattle.sc_graph.specs.declared.program.Node.{Node}
use Rattle.sc_graph.specs.declared.program.Step.{Step}
use Rattle.sc_graph.specs.declared.program.Step.TheVariants as step
use Rattle.sc_graph.specs.declared.place.Place.TheVariants as place
use Rattle.sc_graph.specs.declared.tables.Tables.{Tables}
use Rattle.sc_graph.specs.Program.{Program, is_some_number, step_at, owner_of, parent_of, entry_of, owns, is_join_step, is_depth_step, is_ordinary_step}
use Rattle.sc_graph.specs.Program.{is_join, is_depth, is_target}
use Rattle.sc_graph.specs.Threads.{IsFork}
use Rattle.sc_graph.specs.Control.{joined_by, first_of, joined_among, joined_at}
use Rattle.sc_graph.specs.Size.{ChildrenFit, StepFits, ParentFits, AreDistinct}
use Rattle.sc_graph.specs.Structure.{StepStays, JoinsAt, ForksChild, ExactlyOne, BelongsToOne}
use Rattle.sc_graph.specs.Valid.{IsFormed, IsValid}
use Rattle.tick_laws.proofs.Lists.{true_both, map_some, and_then_some, slice_get_there}

pub valid_formed : (p : Program) (q : Tables) → IsValid p q → IsFormed p
valid_formed p q v = record { size = λ at. (v.size at).0; structure = v.structure }

some_number : (o : Option ℕ) (t : ℕ) → is_some_number o t ≡ true → o ≡ Some t
some_number None t h = absurd (cc)
some_number (Some u) t h = ap Some (eqb-true u t h)

number_some : (o : Option ℕ) (t : ℕ) → o ≡ Some t → is_some_number o t ≡ true
number_some o t h = ap (λ o. is_some_number o t) h ∙ eq-eqb t t refl

-- what is tested of a node at which a thread may be: its owner, and the sort of its step
pub target_owned : (p : Program) (t n : ℕ) → is_target p t n ≡ true → owner_of p n ≡ Some t
target_owned p t n h = some_number (owner_of p n) t (and_parts (owns p t n) (is_ordinary_step (step_at p n)) h).0

pub join_owned : (p : Program) (t n : ℕ) → is_join p t n ≡ true → owner_of p n ≡ Some t
join_owned p t n h = some_number (owner_of p n) t (and_parts (owns p t n) (is_join_step (step_at p n)) h).0

pub depth_owned : (p : Program) (t n : ℕ) → is_depth p t n ≡ true → owner_of p n ≡ Some t
depth_owned p t n h = some_number (owner_of p n) t (and_parts (owns p t n) (is_depth_step (step_at p n)) h).0

step_ordinary : (s : Option Step) → is_ordinary_step s ≡ true → is_join_step s ≡ false
step_ordinary None h = refl
step_ordinary (Some (step.Join m)) h = absurd (cc)
step_ordinary (Some (step.Depth m)) h = absurd (cc)
step_ordinary (Some other) h = refl

pub target_no_join : (p : Program) (t n : ℕ) → is_target p t n ≡ true → is_join_step (step_at p n) ≡ false
target_no_join p t n h = step_ordinary (step_at p n) (and_parts (owns p t n) (is_ordinary_step (step_at p n)) h).1

step_join : (s : Option Step) → is_join_step s ≡ true → (m : ℕ) × (s ≡ Some (step.Join m))
step_join None h = absurd (cc)
step_join (Some (step.Join m)) h = (m, refl)
step_join (Some other) h = absurd (cc)

step_depth : (s : Option Step) → is_depth_step s ≡ true → (m : ℕ) × (s ≡ Some (step.Depth m))
step_depth None h = absurd (cc)
step_depth (Some (step.Depth m)) h = (m, refl)
step_depth (Some other) h = absurd (cc)

-- a join has a node behind it, and so has a depth
pub join_step : (p : Program) (t n : ℕ) → is_join p t n ≡ true → (m : ℕ) × (step_at p n ≡ Some (step.Join m))
join_step p t n h = step_join (step_at p n) (and_parts (owns p t n) (is_join_step (step_at p n)) h).1

pub depth_step : (p : Program) (t n : ℕ) → is_depth p t n ≡ true → (m : ℕ) × (step_at p n ≡ Some (step.Depth m))
depth_step p t n h = step_depth (step_at p n) (and_parts (owns p t n) (is_depth_step (step_at p n)) h).1

pub join_back : (p : Program) (t n m : ℕ) → owner_of p n ≡ Some t → step_at p n ≡ Some (step.Join m) → is_join p t n ≡ true
join_back p t n m h k = true_both (owns p t n) (is_join_step (step_at p n)) (number_some (owner_of p n) t h) (ap is_join_step k)

pub depth_back : (p : Program) (t n m : ℕ) → owner_of p n ≡ Some t → step_at p n ≡ Some (step.Depth m) → is_depth p t n ≡ true
depth_back p t n m h k = true_both (owns p t n) (is_depth_step (step_at p n)) (number_some (owner_of p n) t h) (ap is_depth_step k)

-- a node with a step has an owner, and the other way round
pub has_owner : (p : Program) (n : ℕ) (s : Step) → step_at p n ≡ Some s → (t : ℕ) × (owner_of p n ≡ Some t)
has_owner p n s h = let m = map_some (λ x. x.step) (slice_get p.nodes n) s h in (m.0.owner, ap (option_map (λ x. x.owner)) m.1)

pub has_step : (p : Program) (n t : ℕ) → owner_of p n ≡ Some t → (s : Step) × (step_at p n ≡ Some s)
has_step p n t h = let m = map_some (λ x. x.owner) (slice_get p.nodes n) t h in (m.0.step, ap (option_map (λ x. x.step)) m.1)

-- a fork is one thread's, with the children and the join that its step names
pub fork_owner : (p : Program) (n t u : ℕ) (ks ls : List ℕ) (i j : ℕ) → IsFork p n t ks i → IsFork p n u ls j → t ≡ u
fork_owner p n t u ks ls i j a b = let h = a.owned in let k = b.owned in cc

pub fork_children : (p : Program) (n t u : ℕ) (ks ls : List ℕ) (i j : ℕ) → IsFork p n t ks i → IsFork p n u ls j → ks ≡ ls
fork_children p n t u ks ls i j a b = let h = a.forks in let k = b.forks in cc

pub fork_join : (p : Program) (n t u : ℕ) (ks ls : List ℕ) (i j : ℕ) → IsFork p n t ks i → IsFork p n u ls j → i ≡ j
fork_join p n t u ks ls i j a b = let h = a.forks in let k = b.forks in cc

-- the fork that a search for the join of number j finds
record ForkAmong (nodes : List Node) (j : ℕ) (children : List ℕ) : Type 0 where
  pub n : ℕ
  pub forks : option_map (λ x. x.step) (slice_get nodes n) ≡ Some (step.Fork children j)

joined_step : (j : ℕ) (s : Step) (ks : List ℕ) → joined_by j s ≡ Some ks → s ≡ step.Fork ks j
joined_step j (step.Fork ks i) ls h = of_test (eqb i j) (eqb-true i j) h
  where
    of_test : (b : Bool) → (b ≡ true → i ≡ j) → (if b then Some ks else None) ≡ Some ls → step.Fork ks i ≡ step.Fork ls j
    of_test true e h = let same = e refl in cc
    of_test false e h = absurd (cc)
joined_step j other ls h = absurd (cc)

found_among : (j : ℕ) (nodes : List Node) (ks : List ℕ) → joined_among j nodes ≡ Some ks → ForkAmong nodes j ks
found_among j [] ks h = absurd (cc)
found_among j (x ∷ nodes) ks h = of_head (joined_by j x.step) refl h (found_among j nodes ks)
  where
    of_head : (o : Option (List ℕ)) → joined_by j x.step ≡ o → first_of o (joined_among j nodes) ≡ Some ks
        → (joined_among j nodes ≡ Some ks → ForkAmong nodes j ks) → ForkAmong (x ∷ nodes) j ks
    of_head None e h rest = let r = rest h in record { n = suc r.n; forks = r.forks }
    of_head (Some ls) e h rest = record { n = zero; forks = ap Some (joined_step j x.step ks (e ∙ h)) }

-- the search finds something where there is something to find
finds_among : (j n : ℕ) (nodes : List Node) (ks : List ℕ) → option_map (λ x. x.step) (slice_get nodes n) ≡ Some (step.Fork ks j)
    → (ls : List ℕ) × (joined_among j nodes ≡ Some ls)
finds_among j n [] ks h = absurd (cc)
finds_among j zero (x ∷ nodes) ks h = (ks, ap (λ o. first_of o (joined_among j nodes)) by_head)
  where
    by_head : joined_by j x.step ≡ Some ks
    by_head = let same : x.step ≡ step.Fork ks j = cc in ap (joined_by j) same ∙ ap (λ b. if b then Some ks else None) (eq-eqb j j refl)
finds_among j (suc n) (x ∷ nodes) ks h = of_head (joined_by j x.step) (finds_among j n nodes ks h)
  where
    of_head : (o : Option (List ℕ)) → (ls : List ℕ) × (joined_among j nodes ≡ Some ls) → (ls : List ℕ) × (first_of o (joined_among j nodes) ≡ Some ls)
    of_head None rest = rest
    of_head (Some ms) rest = (ms, refl)

-- a node by what is known of it
record NodeIs (p : Program) (n t : ℕ) (s : Step) : Type 0 where
  pub node : Node
  pub there : slice_get p.nodes n ≡ Some node
  pub owner : node.owner ≡ t
  pub step : node.step ≡ s

node_is : (p : Program) (n t : ℕ) (s : Step) → owner_of p n ≡ Some t → step_at p n ≡ Some s → NodeIs p n t s
node_is p n t s h k =
    let a = map_some (λ x. x.owner) (slice_get p.nodes n) t h in
    let b = map_some (λ x. x.step) (slice_get p.nodes n) s k in
    let a_was = a.1 in let b_was = b.1 in
    let same : b.0 ≡ a.0 = cc in
    record { node = a.0; there = a.1; owner = a.2; step = ap (λ x. x.step) (sym same) ∙ b.2 }

-- the fork of which a thread is a child
pub record ChildOf (p : Program) (k t : ℕ) : Type 0 where
  pub fork : ℕ
  pub children : List ℕ
  pub join : ℕ
  pub is : IsFork p fork t children join
  pub child : Contains children k

-- the fork to which a join belongs
pub record JoinOf (p : Program) (j : ℕ) (children : List ℕ) : Type 0 where
  pub fork : ℕ
  pub thread : ℕ
  pub is : IsFork p fork thread children j

pub join_of : (p : Program) (j : ℕ) (ks : List ℕ) → joined_at p j ≡ Some ks → JoinOf p j ks
join_of p j ks h =
    let f : ForkAmong p.nodes j ks = found_among j p.nodes ks h in
    let o : (t : ℕ) × (owner_of p f.n ≡ Some t) = has_owner p f.n (step.Fork ks j) f.forks in
    record { fork = f.n; thread = o.0; is = record { owned = o.1; forks = f.forks } }

parent_less : (t u : ℕ) (o : Option ℕ) → ParentFits t o → o ≡ Some u → u < t
parent_less zero u o fits h = absurd (cc)
parent_less (suc t) u None fits h = absurd (cc)
parent_less (suc t) u (Some v) fits h = let same : v ≡ u = cc in omega arith

module _ (p : Program) (formed : IsFormed p) where
  -- what is at a node stays within its thread, and names what is there
  pub step_stays : (n t : ℕ) (s : Step) → owner_of p n ≡ Some t → step_at p n ≡ Some s → StepStays p t s
  step_stays n t s h k = let a = node_is p n t s h k in subst₂ (StepStays p) a.owner a.step (formed.structure (place.Node n) a.node a.there).stays

  pub step_fits : (n : ℕ) (s : Step) → step_at p n ≡ Some s → StepFits p s
  step_fits n s h = let a = map_some (λ x. x.step) (slice_get p.nodes n) s h in subst (StepFits p) a.2 (formed.size (place.Node n) a.0 a.1).fits

  pub owner_in_range : (n t : ℕ) → owner_of p n ≡ Some t → t < length p.threads
  owner_in_range n t h = let a = map_some (λ x. x.owner) (slice_get p.nodes n) t h in
      subst (λ u. u < length p.threads) a.2 (formed.size (place.Node n) a.0 a.1).owner

  -- a fork's join is its thread's own, and its children are that thread's
  pub fork_joins : (n t : ℕ) (ks : List ℕ) (j : ℕ) → IsFork p n t ks j → is_join p t j ≡ true
  fork_joins n t ks j f = (step_stays n t (step.Fork ks j) f.owned f.forks).0

  pub fork_join_owned : (n t : ℕ) (ks : List ℕ) (j : ℕ) → IsFork p n t ks j → owner_of p j ≡ Some t
  fork_join_owned n t ks j f = join_owned p t j (fork_joins n t ks j f)

  pub child_parent : (n t : ℕ) (ks : List ℕ) (j k : ℕ) → IsFork p n t ks j → Contains ks k → parent_of p k ≡ Some t
  child_parent n t ks j k f child = All-contains (λ k. parent_of p k ≡ Some t) ks k (step_stays n t (step.Fork ks j) f.owned f.forks).1 child

  children_fit : (n t : ℕ) (ks : List ℕ) (j : ℕ) → IsFork p n t ks j → ChildrenFit p ks
  children_fit n t ks j f = (step_fits n (step.Fork ks j) f.forks).0

  pub child_in_range : (n t : ℕ) (ks : List ℕ) (j k : ℕ) → IsFork p n t ks j → Contains ks k → k < length p.threads
  child_in_range n t ks j k f child = All-contains (λ k. k < length p.threads) ks k (children_fit n t ks j f).threads child

  pub some_child : (n t : ℕ) (ks : List ℕ) (j : ℕ) → IsFork p n t ks j → (k : ℕ) × Contains ks k
  some_child n t ks j f = let some = (children_fit n t ks j f).some_child in (get_or ks 0 0, Contains-get_or ks 0 0 some)

  pub distinct_children : (n t : ℕ) (ks : List ℕ) (j : ℕ) → IsFork p n t ks j → AreDistinct ks
  distinct_children n t ks j f = (children_fit n t ks j f).distinct

  -- parents have smaller numbers, and the root has none
  pub parent_below : (t u : ℕ) → parent_of p t ≡ Some u → u < t
  parent_below t u h = let a = and_then_some (λ x. x.parent) (slice_get p.threads t) u h in
      parent_less t u a.0.parent (formed.size (place.Thread t) a.0 a.1).parent a.2

  pub root_alone : (u : ℕ) → parent_of p 0 ≢ Some u
  root_alone u h = absurd (omega (arith, parent_below 0 u h))

  -- two forks with one join, or with one child, are one
  pub one_fork_joins : (m n t u : ℕ) (ks ls : List ℕ) (j : ℕ) → IsFork p m t ks j → IsFork p n u ls j → m ≡ n
  one_fork_joins m n t u ks ls j f g =
      let s : (i : ℕ) × (step_at p j ≡ Some (step.Join i)) = join_step p t j (fork_joins m t ks j f) in
      let a = node_is p j t (step.Join s.0) (fork_join_owned m t ks j f) s.1 in
      let one : ExactlyOne (JoinsAt p j) = subst (BelongsToOne p j) a.step (formed.structure (place.Node j) a.node a.there).belongs in
      one.alone m (record { children = ks; forks = f.forks }) ∙ sym (one.alone n (record { children = ls; forks = g.forks }))

  forked_once : (k t : ℕ) → parent_of p k ≡ Some t → ExactlyOne (ForksChild p k)
  forked_once zero t h = absurd (root_alone t h)
  forked_once (suc k) t h = let a = and_then_some (λ x. x.parent) (slice_get p.threads (suc k)) t h in (formed.structure (place.Thread (suc k)) a.0 a.1).forked

  pub one_fork_child : (m n t u : ℕ) (ks ls : List ℕ) (i j k : ℕ) → IsFork p m t ks i → IsFork p n u ls j → Contains ks k → Contains ls k → m ≡ n
  one_fork_child m n t u ks ls i j k f g a b =
      let one : ExactlyOne (ForksChild p k) = forked_once k t (child_parent m t ks i k f a) in
      one.alone m (record { children = ks; join = i; forks = f.forks; child = a })
      ∙ sym (one.alone n (record { children = ls; join = j; forks = g.forks; child = b }))

  -- the children that a join waits for are those of its fork
  pub joined_is : (n t : ℕ) (ks : List ℕ) (j : ℕ) → IsFork p n t ks j → joined_at p j ≡ Some ks
  joined_is n t ks j f =
      let found : (ls : List ℕ) × (joined_among j p.nodes ≡ Some ls) = finds_among j n p.nodes ks f.forks in
      let other : JoinOf p j found.0 = join_of p j found.0 found.1 in
      let same : other.fork ≡ n = one_fork_joins other.fork n other.thread t found.0 ks j other.is f in
      let g : IsFork p n other.thread found.0 j = subst (λ n. IsFork p n other.thread found.0 j) same other.is in
      found.1 ∙ ap Some (fork_children p n other.thread t found.0 ks j j g f)

  -- each thread with a parent is a child of a fork of that one
  pub fork_of : (k t : ℕ) → parent_of p k ≡ Some t → ChildOf p k t
  fork_of k t h =
      let one : ExactlyOne (ForksChild p k) = forked_once k t h in
      let at : ForksChild p k one.one = one.is in
      let o : (u : ℕ) × (owner_of p one.one ≡ Some u) = has_owner p one.one (step.Fork at.children at.join) at.forks in
      let f : IsFork p one.one o.0 at.children at.join = record { owned = o.1; forks = at.forks } in
      let same : o.0 ≡ t = of_parent o.0 (child_parent one.one o.0 at.children at.join k f at.child) in
      record { fork = one.one; children = at.children; join = at.join; is = subst (λ u. IsFork p one.one u at.children at.join) same f; child = at.child }
    where
      of_parent : (u : ℕ) → parent_of p k ≡ Some u → u ≡ t
      of_parent u e = cc

  -- each thread begins at a node of its own to which a step may go
  pub entry_target : (k n : ℕ) → entry_of p k ≡ Some n → is_target p k n ≡ true
  entry_target k n h =
      let a = map_some (λ x. x.entry) (slice_get p.threads k) n h in
      subst (λ n. is_target p k n ≡ true) a.2 (formed.structure (place.Thread k) a.0 a.1).entry

  pub has_entry : (k : ℕ) → k < length p.threads → (n : ℕ) × (entry_of p k ≡ Some n)
  has_entry k h = let a : (x : Thread) × (slice_get p.threads k ≡ Some x) = slice_get_there p.threads k h in (a.0.entry, ap (option_map (λ x. x.entry)) a.1)

  -- a child of a fork has an entry
  pub child_entry : (n t : ℕ) (ks : List ℕ) (j k : ℕ) → IsFork p n t ks j → Contains ks k → (m : ℕ) × (entry_of p k ≡ Some m)
  child_entry n t ks j k f child = has_entry k (child_in_range n t ks j k f child)

  pub parent_in_range : (k t : ℕ) → parent_of p k ≡ Some t → t < length p.threads
  parent_in_range k t h = let f : ChildOf p k t = fork_of k t h in owner_in_range f.fork t f.is.owned
