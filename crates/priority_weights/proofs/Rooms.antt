-- Where ranks fall as threads go on, a table within the number of nodes keeps the step-weight rule: for each node, how many
-- nodes have in their chain a node of its thread of no greater rank.
use Rattle.std.proofs.Common.{ℕ, zero, suc, ◌≡◌, ◌<◌, ◌≤◌, ◌+◌, Bool, true, false, ◌&&◌, Option, Some, None, List, [], ◌∷◌, length, slice_get, option_map}
use Rattle.std.proofs.Common.{option_and_then, refl, sym, ◌∙◌, subst, ap, arith, eqb-true}
use Rattle.std.specs.Prelude.{nat_le, unwrap_or, if◌then◌else◌}
use Rattle.sc_graph.specs.declared.program.Thread.{Thread}
use Rattle.sc_graph.specs.declared.program.Step.{Step}
use Rattle.sc_graph.specs.declared.program.Step.TheVariants as step
use Rattle.sc_graph.specs.declared.place.Place.TheVariants as place
use Rattle.sc_graph.specs.Program.{Program, step_at, owner_of, parent_of, entry_of, is_some_number, is_target, is_join}
use Rattle.sc_graph.specs.Size.{StepFits, AreDistinct}
use Rattle.sc_graph.specs.Structure.{StepStays, ForksChild}
use Rattle.sc_graph.specs.Valid.{IsFormed}
use Rattle.sc_graph.proofs.Formed.{node_at, owner_at, parent_is_owner, forked_once, falls_upwards}
use Rattle.least_or_cycle.specs.Least.{Exceeds}
use Rattle.least_or_cycle.specs.Walks.{HasRanks}
use Rattle.priority_weights.specs.Inside.Entries.{bits, entry_bits, entry_number, entry_sum, join_weight, step_weight, WeightKept}
use Rattle.priority_weights.specs.Inside.Next.{GoesOnBy, LeadsOn, successor, over}
use Rattle.program_edges.proofs.Instantly.{owner_within, fork_owned}
use Rattle.priority_weights.proofs.Sums.{sum_over, total, AllOf, all_of, apart_of, total_small}
use Rattle.priority_weights.proofs.Chains.{IsTree, reach, reach_small, parts}

-- the fork above a thread
abbrev above_from : (p : Program) → IsFormed p → (k : ℕ) (o : Option ℕ) → parent_of p k ≡ o → Option ℕ
above_from p formed k None e = None
above_from p formed k (Some q) e = Some (forked_once p formed k q e).one

abbrev pub fork_above : (p : Program) → IsFormed p → ℕ → Option ℕ
fork_above p formed k = above_from p formed k (parent_of p k) refl

pub above_is : (p : Program) (formed : IsFormed p) (k q f : ℕ) → parent_of p k ≡ Some q → ForksChild p k f → fork_above p formed k ≡ Some f
above_is p formed k q f up forks = at (parent_of p k) refl up
  where
    at : (o : Option ℕ) (e : parent_of p k ≡ o) → o ≡ Some q → above_from p formed k o e ≡ Some f
    at None e h = absurd (cc)
    at (Some r) e h = ap Some (sym ((forked_once p formed k r e).alone f forks))

-- the thread of a node; that of no node is the root
abbrev pub thread_of : Program → ℕ → ℕ
thread_of p y = unwrap_or (owner_of p y) 0

pub owned_is : (p : Program) (n t : ℕ) → owner_of p n ≡ Some t → thread_of p n ≡ t
owned_is p n t owned = ap (λ (o : Option ℕ). unwrap_or o 0) owned

pub above_falls : (p : Program) (formed : IsFormed p) (k z : ℕ) → fork_above p formed k ≡ Some z → thread_of p z < k
above_falls p formed k z h = at (parent_of p k) refl h
  where
    at : (o : Option ℕ) (e : parent_of p k ≡ o) → above_from p formed k o e ≡ Some z → thread_of p z < k
    at None e h = absurd (cc)
    at (Some r) e h =
        let one = forked_once p formed k r e in
        let is : one.one ≡ z = cc in
        let P : ℕ → Type 0 = λ x. ForksChild p k x in
        let x = subst P is one.is in
        let own = fork_owned p z x.join x.children x.forks in
        let up = parent_is_owner p formed z own.0 x.join k x.children own.1 x.child in
        let lt = (falls_upwards p formed).falls k own.0 up in
        let of_z = owned_is p z own.0 own.1.owned in
        omega (arith, lt, of_z)

pub node_tree : (p : Program) (formed : IsFormed p) → IsTree (thread_of p) (fork_above p formed) (length p.threads)
node_tree p formed = record {
  small = λ y. small y (owner_of p y) refl;
  falls = λ k z lt up. above_falls p formed k z up;
}
  where
    small : (y : ℕ) (o : Option ℕ) → owner_of p y ≡ o → thread_of p y < length p.threads
    small y None e = (let some = (formed.size place.Image).some_thread in let is : thread_of p y ≡ 0 = ap (λ (o : Option ℕ). unwrap_or o 0) e in
        omega (arith, some, is))
    small y (Some t) e = (let lt = owner_within p formed y t e in let is = owned_is p y t e in omega (arith, lt, is))

-- how many nodes have in their chain a node of thread t of no greater rank than x
abbrev pub room : (p : Program) → IsFormed p → (ℕ → ℕ) → ℕ → ℕ → ℕ
room p formed rank t x = total (reach (thread_of p) (fork_above p formed) (length p.threads) t (λ y. nat_le (rank y) x)) (length p.nodes)

abbrev pub node_room : (p : Program) → IsFormed p → (ℕ → ℕ) → ℕ → ℕ
node_room p formed rank n = room p formed rank (thread_of p n) (rank n)

le_true : (a b : ℕ) → a ≤ b → nat_le a b ≡ true
le_true a b h = grind (arith, h)

le_false : (a b : ℕ) → b < a → nat_le a b ≡ false
le_false a b h = grind (arith, h)

le_more : (a b c : ℕ) → b ≤ c → nat_le a b ≡ true → nat_le a c ≡ true
le_more a b c le h = grind (arith, le, h)

-- what goes on before a node in its thread, and what is right below it, leaves room for the node
room_parts : (p : Program) (formed : IsFormed p) (rank : ℕ → ℕ) (n : ℕ) (before : ℕ → Bool) (ks : List ℕ) (xs : ℕ → ℕ) → n < length p.nodes →
    before n ≡ false → ((y : ℕ) → before y ≡ true → nat_le (rank y) (rank n) ≡ true) →
    AllOf (λ k. (thread_of p n < k) × (fork_above p formed k ≡ Some n)) ks → AreDistinct ks →
    sum_over (λ k. room p formed rank k (xs k)) ks + total (reach (thread_of p) (fork_above p formed) (length p.threads) (thread_of p n) before)
    (length p.nodes) + 1 ≤ node_room p formed rank n
room_parts p formed rank n before ks xs lt later more under distinct =
    parts (thread_of p) (fork_above p formed) (length p.threads) (node_tree p formed) n before (λ y. nat_le (rank y) (rank n)) ks (record {
      itself = le_true (rank n) (rank n) (omega arith);
      later = later;
      more = more;
      under = under;
      apart = apart_of ks distinct;
    }) (λ k y. nat_le (rank y) (xs k)) (length p.nodes) lt

pub distinct_none : AreDistinct []
distinct_none i j a b lt at bt = absurd (cc)

own_room : (p : Program) (formed : IsFormed p) (rank : ℕ → ℕ) (n : ℕ) → n < length p.nodes → 1 ≤ node_room p formed rank n
own_room p formed rank n lt =
    let h = room_parts p formed rank n (λ y. false) [] (λ k. 0) lt refl (λ y e. absurd (cc)) tt distinct_none in
    omega (arith, h)

-- a node of the thread of a smaller rank
next_room : (p : Program) (formed : IsFormed p) (rank : ℕ → ℕ) (n m : ℕ) → n < length p.nodes → rank m < rank n → thread_of p m ≡ thread_of p n
    → 1 + node_room p formed rank m ≤ node_room p formed rank n
next_room p formed rank n m lt less same =
    let h = room_parts p formed rank n (λ y. nat_le (rank y) (rank m)) [] (λ k. 0) lt (le_false (rank n) (rank m) less)
    (λ y e. le_more (rank y) (rank m) (rank n) (omega (arith, less)) e) tt distinct_none in
    let e : node_room p formed rank m ≡ room p formed rank (thread_of p n) (rank m) = ap (λ t. room p formed rank t (rank m)) same in
    omega (arith, h, e)

owns_is : (o : Option ℕ) (t : ℕ) → is_some_number o t ≡ true → o ≡ Some t
owns_is None t h = absurd (cc)
owns_is (Some u) t h = ap Some (eqb-true u t h)

first_of_two : (a b : Bool) → (a && b) ≡ true → a ≡ true
first_of_two true b h = refl
first_of_two false b h = absurd (cc)

target_owned : (p : Program) (t n : ℕ) → is_target p t n ≡ true → owner_of p n ≡ Some t
target_owned p t n h = owns_is (owner_of p n) t (first_of_two _ _ h)

pub join_owned : (p : Program) (t n : ℕ) → is_join p t n ≡ true → owner_of p n ≡ Some t
join_owned p t n h = owns_is (owner_of p n) t (first_of_two _ _ h)

-- where a thread begins, it owns the node
entry_owned : (p : Program) → IsFormed p → (k t : ℕ) → parent_of p k ≡ Some t → (e : ℕ) × (entry_of p k ≡ Some e) × (owner_of p e ≡ Some k)
entry_owned p formed k t up = found (slice_get p.threads k) refl up
  where
    found : (o : Option Thread) → slice_get p.threads k ≡ o → option_and_then (λ (x : Thread). x.parent) o ≡ Some t → (e : ℕ) × (entry_of p k ≡ Some e)
        × (owner_of p e ≡ Some k)
    found None is h = absurd (cc)
    found (Some x) is h = (x.entry, ap (option_map (λ (y : Thread). y.entry)) is, (formed.size (place.Thread k) x is).entry)

-- the entry of a child has the room of the child at its rank
entry_room : (p : Program) (formed : IsFormed p) (rank : ℕ → ℕ) (k t : ℕ) → parent_of p k ≡ Some t
    → entry_number (node_room p formed rank) (entry_of p k) ≤ room p formed rank k (entry_number rank (entry_of p k))
entry_room p formed rank k t up =
    let e = entry_owned p formed k t up in
    let first : entry_number (node_room p formed rank) (entry_of p k) ≡ node_room p formed rank e.0 = ap (entry_number (node_room p formed rank)) e.1 in
    let second : entry_number rank (entry_of p k) ≡ rank e.0 = ap (entry_number rank) e.1 in
    let third : node_room p formed rank e.0 ≡ room p formed rank k (rank e.0) = ap (λ u. room p formed rank u (rank e.0)) (owned_is p e.0 k e.2) in
    let fourth : room p formed rank k (entry_number rank (entry_of p k)) ≡ room p formed rank k (rank e.0) = ap (room p formed rank k) second in
    omega (arith, first, third, fourth)

entries_room : (p : Program) (formed : IsFormed p) (rank : ℕ → ℕ) (t : ℕ) (ks : List ℕ) → AllOf (λ k. parent_of p k ≡ Some t) ks →
    entry_sum p (node_room p formed rank) ks ≤ sum_over (λ k. room p formed rank k (entry_number rank (entry_of p k))) ks
entries_room p formed rank t [] h = omega arith
entries_room p formed rank t (k ∷ ks) h = let a = entry_room p formed rank k t h.0 in let b = entries_room p formed rank t ks h.1 in omega (arith, a, b)

fork_room : (p : Program) (formed : IsFormed p) (rank : ℕ → ℕ) (e : ℕ → Bool) (n t j : ℕ) (ks : List ℕ) → n < length p.nodes
    → step_at p n ≡ Some (step.Fork ks j) → owner_of p n ≡ Some t → AreDistinct ks →
    owner_of p j ≡ Some t → (entry_bits p e ks ≡ true → rank j < rank n) →
    1 + entry_sum p (node_room p formed rank) ks + join_weight p e (node_room p formed rank) ks j ≤ node_room p formed rank n
fork_room p formed rank e n t j ks lt at owned distinct joined falls = chosen (entry_bits p e ks) refl
  where
    parents : AllOf (λ k. parent_of p k ≡ Some t) ks
    parents = all_of (λ k. parent_of p k ≡ Some t) ks (λ k c. parent_is_owner p formed n t j k ks (record { owned = owned; forks = at }) c)

    under : AllOf (λ k. (thread_of p n < k) × (fork_above p formed k ≡ Some n)) ks
    under = all_of (λ k. (thread_of p n < k) × (fork_above p formed k ≡ Some n)) ks (λ k c.
        let up = parent_is_owner p formed n t j k ks (record { owned = owned; forks = at }) c in
        let less = (falls_upwards p formed).falls k t up in
        let is = owned_is p n t owned in
        (omega (arith, less, is), above_is p formed k t n up (record { children = ks; join = j; forks = at; child = c })))

    chosen : (b : Bool) → entry_bits p e ks ≡ b → 1 + entry_sum p (node_room p formed rank) ks + join_weight p e (node_room p formed rank) ks j ≤ node_room p
        formed rank n
    chosen true is =
        let less = falls is in
        let kids = entries_room p formed rank t ks parents in
        let h = room_parts p formed rank n (λ y. nat_le (rank y) (rank j)) ks (λ k. entry_number rank (entry_of p k)) lt (le_false (rank n) (rank j) less)
        (λ y x. le_more (rank y) (rank j) (rank n) (omega (arith, less)) x) under distinct in
        let P : Bool → Type 0 = λ b. (if b then node_room p formed rank j else 0) ≡ node_room p formed rank j in
        let weight : join_weight p e (node_room p formed rank) ks j ≡ node_room p formed rank j = subst P (sym is) refl in
        let same : thread_of p j ≡ thread_of p n = owned_is p j t joined ∙ sym (owned_is p n t owned) in
        let room_is : node_room p formed rank j ≡ room p formed rank (thread_of p n) (rank j) = ap (λ u. room p formed rank u (rank j)) same in
        omega (arith, kids, h, weight, room_is)
    chosen false is =
        let kids = entries_room p formed rank t ks parents in
        let h = room_parts p formed rank n (λ y. false) ks (λ k. entry_number rank (entry_of p k)) lt refl (λ y x. absurd (cc)) under distinct in
        let P : Bool → Type 0 = λ b. (if b then node_room p formed rank j else 0) ≡ 0 in
        let weight : join_weight p e (node_room p formed rank) ks j ≡ 0 = subst P (sym is) refl in
        omega (arith, kids, h, weight)

step_room : (p : Program) (formed : IsFormed p) (q rank : ℕ → ℕ) (n t : ℕ) (s : Step) → n < length p.nodes → step_at p n ≡ Some s → owner_of p n ≡ Some t
    → StepStays p t s → StepFits p s →
    ((m : ℕ) → GoesOnBy p q n m → rank m < rank n) → step_weight p (bits q) (node_room p formed rank) s ≤ node_room p formed rank n
step_room p formed q rank n t (step.Assign x code m) lt at owned stays fits falls =
    next_room p formed rank n m lt (falls m (successor (step.Assign x code m) at (zero, omega arith, refl))) (owned_is p m t (target_owned p t m stays)
    ∙ sym (owned_is p n t owned))
step_room p formed q rank n t (step.Update x f code m) lt at owned stays fits falls =
    next_room p formed rank n m lt (falls m (successor (step.Update x f code m) at (zero, omega arith, refl))) (owned_is p m t (target_owned p t m stays)
    ∙ sym (owned_is p n t owned))
step_room p formed q rank n t (step.Cond code k m) lt at owned stays fits falls =
    let a = next_room p formed rank n k lt (falls k (successor (step.Cond code k m) at (zero, omega arith, refl))) (owned_is p k t (target_owned p t k stays.0)
    ∙ sym (owned_is p n t owned)) in
    let b = next_room p formed rank n m lt (falls m (successor (step.Cond code k m) at (suc zero, omega arith, refl)))
    (owned_is p m t (target_owned p t m stays.1) ∙ sym (owned_is p n t owned)) in
    omega (arith, a, b)
step_room p formed q rank n t (step.Fork ks j) lt at owned stays fits falls =
    fork_room p formed rank (bits q) n t j ks lt at owned fits.0.distinct (join_owned p t j stays.0) (λ may. falls j (over ks at may))
step_room p formed q rank n t (step.Join m) lt at owned stays fits falls =
    next_room p formed rank n m lt (falls m (successor (step.Join m) at (zero, omega arith, refl))) (owned_is p m t (target_owned p t m stays)
    ∙ sym (owned_is p n t owned))
step_room p formed q rank n t (step.Surf d) lt at owned stays fits falls = own_room p formed rank n lt
step_room p formed q rank n t (step.Depth m) lt at owned stays fits falls =
    next_room p formed rank n m lt (falls m (successor (step.Depth m) at (zero, omega arith, refl))) (owned_is p m t (target_owned p t m stays)
    ∙ sym (owned_is p n t owned))
step_room p formed q rank n t step.Exit lt at owned stays fits falls = own_room p formed rank n lt

-- the step of a node is in its place and its size
pub step_placed : (p : Program) → IsFormed p → (n : ℕ) (s : Step) → step_at p n ≡ Some s → (t : ℕ) × (owner_of p n ≡ Some t) × StepStays p t s × StepFits p s
step_placed p formed n s at =
    let x = node_at p n s at in
    let P : Step → Type 0 = λ y. StepStays p x.node.owner y in
    let Q : Step → Type 0 = λ y. StepFits p y in (
      x.node.owner,
      owner_at p n x.node x.there,
      subst P x.is (formed.structure (place.Node n) x.node x.there).stays,
      subst Q x.is (formed.size (place.Node n) x.node x.there).fits,
    )

-- so the least weights are within the number of nodes
pub weights_within : (p : Program) → IsFormed p → (q : ℕ → ℕ) → HasRanks (LeadsOn p q) (length p.nodes)
    → ¬ Exceeds (WeightKept p (bits q)) (length p.nodes) (length p.nodes)
weights_within p formed q ranks beyond = beyond.exceeds (node_room p formed ranks.rank)
    (record {
      each = λ n lt. record {
        kept = λ s at.
            let x = step_placed p formed n s at in
            step_room p formed q ranks.rank n x.0 s lt at x.1 x.2 x.3 (λ m flow. let h = (ranks.keeps.each n lt).falls m 1 (flow, refl) in omega (arith, h));
      };
    })
    (record {
      each = λ n lt. total_small (reach (thread_of p) (fork_above p formed) (length p.threads) (thread_of p n) (λ y. nat_le (ranks.rank y) (ranks.rank n)))
          (length p.nodes)
          (λ y. reach_small (thread_of p) (fork_above p formed) (length p.threads) (thread_of p n) (λ z. nat_le (ranks.rank z) (ranks.rank n)) y);
    })
