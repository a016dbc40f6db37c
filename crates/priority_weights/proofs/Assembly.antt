-- Tables of least parts are the least tables.
use Rattle.std.proofs.Common.{ℕ, zero, suc, ◌≡◌, ◌<◌, ◌≤◌, ◌+◌, ◌⊎◌, inl, inr, max, Option, Some, None, List, [], ◌∷◌, length, map, slice_get, option_map, refl}
use Rattle.std.proofs.Common.{sym, ◌∙◌, subst, ap, arith}
use Rattle.std.specs.Prelude.{slice_index, nat_lt}
use Rattle.std.proofs.lemmas.List.{length-map}
use Rattle.std.proofs.lemmas.Option.{slice_get_cases, slice_get_within}
use Rattle.sc_graph.specs.declared.program.Node.{Node}
use Rattle.sc_graph.specs.declared.program.Thread.{Thread}
use Rattle.sc_graph.specs.declared.program.Step.{Step}
use Rattle.sc_graph.specs.declared.program.Step.TheVariants as step
use Rattle.sc_graph.specs.declared.tables.Tables.{Tables}
use Rattle.sc_graph.specs.declared.place.Place.{Place}
use Rattle.sc_graph.specs.declared.place.Place.TheVariants as place
use Rattle.sc_graph.specs.Program.{Program, step_at, owner_of, entry_of}
use Rattle.sc_graph.specs.Protocol.{FlowAt, ProtocolAt, Instant, by_successor, by_entry, by_exit}
use Rattle.sc_graph.specs.Tables.{priority, weight, bound}
use Rattle.sc_graph.specs.Costs.{BoundAt, BoundHolds, BudgetHolds, entry_weight}
use Rattle.sc_graph.specs.Structure.{StepStays}
use Rattle.sc_graph.specs.Limits.{budget_limit}
use Rattle.sc_graph.specs.Valid.{IsFormed}
use Rattle.sc_graph.proofs.Nodes.{step_within}
use Rattle.least_or_cycle.specs.Least.{Keeps, IsLeast, IsWithin}
use Rattle.least_or_cycle.specs.Walks.{Falls}
use Rattle.priority_weights.specs.Edges.{InOrder}
use Rattle.priority_weights.specs.LeastTables.{AreLeast}
use Rattle.priority_weights.specs.Inside.Bounds.{step_cost, AreCovering}
use Rattle.priority_weights.specs.Inside.Entries.{entry_number}
use Rattle.priority_weights.specs.Inside.Parts.{AreParts}
use Rattle.priority_weights.proofs.Bridging.{bits_below, bits_kept, end_bit_is, weights_keep, weights_kept, bound_sum_is, entry_number_is}
use Rattle.priority_weights.proofs.Bounding.{ample, ample_covers, ample_small, bounds_more}
use Rattle.program_edges.proofs.Instantly.{owner_within}
use Rattle.priority_weights.proofs.Rooms.{step_placed, join_owned}
use Rattle.priority_weights.proofs.Weighing.{number_more}

-- tables of these parts
pub record AreOf (p : Program) (q : Tables) (ends priorities weights bounds : List ℕ) : Type 0 where
  pub ends_are : q.end_bits ≡ map (nat_lt 0) ends
  pub priorities_are : q.priorities ≡ priorities
  pub weights_are : q.weights ≡ weights
  pub bounds_are : q.bounds ≡ bounds
  pub budget_is : q.budget ≡ max (slice_index bounds 0) (entry_number (slice_index weights) (entry_of p 0))

order_kept : (p : Program) (priorities : List ℕ) → IsLeast (Falls (InOrder p)) (length p.nodes) priorities → (q : Tables)
    → ((n : ℕ) → priority q n ≡ slice_index priorities n) → (m n w : ℕ) → m < length p.nodes → InOrder p m n w → w + priority q n ≤ priority q m
order_kept p priorities l q same m n w lt edge =
    let h = (l.keeps.each m lt).falls n w edge in
    let a = same m in
    let b = same n in
    omega (arith, h, a, b)

pub instant_within : (p : Program) (m n : ℕ) → Instant p m n → m < length p.nodes
instant_within p m n (by_successor s at c) = step_within p m s at
instant_within p m n (by_entry t ks j k fork among entry) = step_within p m (step.Fork ks j) fork.forks
instant_within p m n (by_exit f t ks k fork among owner at) = step_within p m step.Exit at

pub owned_within : (p : Program) (n t : ℕ) → owner_of p n ≡ Some t → n < length p.nodes
owned_within p n t owned = found (slice_get p.nodes n) refl owned
  where
    found : (o : Option Node) → slice_get p.nodes n ≡ o → option_map (λ (x : Node). x.owner) o ≡ Some t → n < length p.nodes
    found None is h = absurd (cc)
    found (Some x) is h = slice_get_within p.nodes n x is

pub order_within : (p : Program) (m n w : ℕ) → InOrder p m n w → m < length p.nodes
order_within p m n w edge = elim edge [
  | inl e ↦ instant_within p m n e.0
  | inr e ↦ owned_within p m e.0.concurrent.first e.0.concurrent.first_owner
]

flow_at : (p : Program) (q : Tables) → ((m n w : ℕ) → m < length p.nodes → InOrder p m n w → w + priority q n ≤ priority q m) → (at : Place) → FlowAt p q at
flow_at p q h (place.Pair m n) = λ i. let a = h m n 0 (instant_within p m n i) (inl (i, refl)) in omega (arith, a)
flow_at p q h place.Image = tt
flow_at p q h (place.Variable x) = tt
flow_at p q h (place.Thread t) = tt
flow_at p q h (place.Node n) = tt

protocol_at : (p : Program) (q : Tables) → ((m n w : ℕ) → m < length p.nodes → InOrder p m n w → w + priority q n ≤ priority q m) → (at : Place)
    → ProtocolAt p q at
protocol_at p q h (place.Pair m n) = λ e. let a = h m n 1 (order_within p m n 1 (inr (e, refl))) (inr (e, refl)) in omega (arith, a)
protocol_at p q h place.Image = tt
protocol_at p q h (place.Variable x) = tt
protocol_at p q h (place.Thread t) = tt
protocol_at p q h (place.Node n) = tt

-- the priorities of tables that keep both rules
order_keeps : (p : Program) (q : Tables) → ((at : Place) → FlowAt p q at) → ((at : Place) → ProtocolAt p q at)
    → Keeps (Falls (InOrder p)) (length p.nodes) (priority q)
order_keeps p q flow protocol = record {
  each = λ m lt. record {
    falls = λ n w edge. elim edge [
      | inl e ↦ (let a = flow (place.Pair m n) e.0 in let z = e.1 in omega (arith, a, z))
      | inr e ↦ (let a = protocol (place.Pair m n) e.0 in let z = e.1 in omega (arith, a, z))
    ];
  };
}

bound_at : (p : Program) → IsFormed p → (w b : ℕ → ℕ) (q : Tables) → AreCovering p w b → ((n : ℕ) → weight q n ≡ w n) → ((t : ℕ) → bound q t ≡ b t)
    → BudgetHolds p q → (at : Place) → BoundAt p q at
bound_at p formed w b q covering weights bounds budget (place.Thread t) = λ a there. record {
  depths = λ d next owned at.
      let h = (covering.each d (step_within p d (step.Depth next) at)).covered t (step.Depth next) owned at in
      let x = weights d in
      let y = bounds t in
      omega (arith, h, x, y);
  joins = λ n j ks owned at.
      let x = step_placed p formed n (step.Fork ks j) at in
      let joined = join_owned p x.0 j x.2.0 in
      let same : x.0 ≡ t = cc (joined, owned) in
      let P : ℕ → Type 0 = λ u. owner_of p n ≡ Some u in
      let h = (covering.each n (step_within p n (step.Fork ks j) at)).covered t (step.Fork ks j) (subst P same x.1) at in
      let s = bounds_more (bound q) b (λ k. let y = bounds k in omega (arith, y)) ks in
      let c = bound_sum_is q ks in
      let v = weights j in
      let y = bounds t in
      omega (arith, h, s, c, v, y);
}
bound_at p formed w b q covering weights bounds budget place.Image = budget
bound_at p formed w b q covering weights bounds budget (place.Variable x) = tt
bound_at p formed w b q covering weights bounds budget (place.Node n) = tt
bound_at p formed w b q covering weights bounds budget (place.Pair m n) = tt

thread_there : (p : Program) (t : ℕ) → t < length p.threads → (a : Thread) × (slice_get p.threads t ≡ Some a)
thread_there p t lt = elim ((slice_get_cases p.threads t).1) [ inl a ↦ (a.0, a.2) | inr none ↦ (let le = none.0 in absurd (omega (arith, lt, le))) ]

-- the bounds of tables that keep the rules cover all nodes by smaller weights
bounds_cover : (p : Program) → IsFormed p → (w : ℕ → ℕ) (q : Tables) → ((n : ℕ) → w n ≤ weight q n) → ((at : Place) → BoundAt p q at)
    → AreCovering p w (bound q)
bounds_cover p formed w q le holds = record {
  each = λ n lt. record {
    covered = λ t s owned at.
        let a = thread_there p t (owner_within p formed n t owned) in
        let x = step_placed p formed n s at in
        let same : x.0 ≡ t = (let o = x.1 in cc) in
        let P : ℕ → Type 0 = λ u. StepStays p u s in
        by n t s owned at (subst P same x.2) (holds (place.Thread t) a.0 a.1);
  };
}
  where
    by : (n t : ℕ) (s : Step) → owner_of p n ≡ Some t → step_at p n ≡ Some s → StepStays p t s → BoundHolds p q t → step_cost w (bound q) n s ≤ bound q t
    by n t (step.Depth m) owned at stays h = let a = h.depths n m owned at in let b = le n in omega (arith, a, b)
    by n t (step.Fork ks j) owned at stays h =
        let a = h.joins n j ks (join_owned p t j stays.0) at in
        let b = le j in
        let c = bound_sum_is q ks in
        omega (arith, a, b, c)
    by n t (step.Assign x code m) owned at stays h = omega arith
    by n t (step.Update x f code m) owned at stays h = omega arith
    by n t (step.Cond code k m) owned at stays h = omega arith
    by n t (step.Join m) owned at stays h = omega arith
    by n t (step.Surf m) owned at stays h = omega arith
    by n t step.Exit owned at stays h = omega arith

pub assembled_least : (p : Program) → IsFormed p → (q : Tables) (ends priorities weights bounds : List ℕ) → AreParts p ends priorities weights bounds
    → AreOf p q ends priorities weights bounds → AreLeast p q
assembled_least p formed q ends priorities weights bounds parts of = record {
  long = record {
    priorities = ap length of.priorities_are ∙ parts.order.long;
    weights = ap length of.weights_are ∙ parts.weights_least.long;
    end_bits = ap length of.ends_are ∙ length-map ends (nat_lt 0) ∙ parts.end_bits.long;
    bounds = ap length of.bounds_are ∙ parts.covering.under.long;
  };
  keeps = record {
    end_bit = bits_kept p ends parts.end_bits q (end_bit_is q ends of.ends_are);
    flow = flow_at p q (order_kept p priorities parts.order q (λ n. ap (λ xs. slice_index xs n) of.priorities_are));
    protocol = protocol_at p q (order_kept p priorities parts.order q (λ n. ap (λ xs. slice_index xs n) of.priorities_are));
    weight = weights_kept p ends weights parts.weights_least q (end_bit_is q ends of.ends_are) weight_is;
    bound = bound_at p formed (slice_index weights) (slice_index bounds) q parts.covering.covering weight_is bound_is (record {
      root = (let a = bound_is 0 in let b = of.budget_is in omega (arith, a, b));
      entry = (let a = root_is in let b = of.budget_is in omega (arith, a, b));
    });
  };
  least = λ r keeps.
      let weights_le : (n : ℕ) → slice_index weights n ≤ weight r n = λ n. parts.weights_least.least (weight r)
      (weights_keep p ends parts.end_bits r keeps.end_bit keeps.weight) n in
      let bounds_le : (t : ℕ) → slice_index bounds t ≤ bound r t = λ t. parts.covering.under.below (bound r)
      (bounds_cover p formed (slice_index weights) r weights_le keeps.bound) t in
      let budget = keeps.bound place.Image in
      record {
        end_bits = λ n set. bits_below p ends parts.end_bits r keeps.end_bit n (sym (end_bit_is q ends of.ends_are n) ∙ set);
        priorities = λ n.
            let a : priority q n ≡ slice_index priorities n = ap (λ xs. slice_index xs n) of.priorities_are in
            let b = parts.order.least (priority r) (order_keeps p r keeps.flow keeps.protocol) n in
            omega (arith, a, b);
        weights = λ n. let a = weight_is n in let b = weights_le n in omega (arith, a, b);
        bounds = λ t. let a = bound_is t in let b = bounds_le t in omega (arith, a, b);
        budget =
            let a = bounds_le 0 in
            let b = budget.root in
            let c = number_more (slice_index weights) (weight r) weights_le (entry_of p 0) in
            let d = entry_number_is r (entry_of p 0) in
            let e = budget.entry in
            let f = of.budget_is in
            omega (arith, a, b, c, d, e, f);
      };
}
  where
    weight_is : (n : ℕ) → weight q n ≡ slice_index weights n
    weight_is n = ap (λ xs. slice_index xs n) of.weights_are

    bound_is : (t : ℕ) → bound q t ≡ slice_index bounds t
    bound_is t = ap (λ xs. slice_index xs t) of.bounds_are

    root_is : entry_weight q (entry_of p 0) ≡ entry_number (slice_index weights) (entry_of p 0)
    root_is = sym (entry_number_is q (entry_of p 0)) ∙ ap (λ xs. entry_number (slice_index xs) (entry_of p 0)) of.weights_are

past : (xs : List ℕ) (n : ℕ) → length xs ≤ n → slice_index xs n ≡ 0
past [] n le = refl
past (x ∷ xs) zero le = absurd (omega (arith, le))
past (x ∷ xs) (suc n) le = past xs n (omega (arith, le))

-- numbers within the number of nodes fit 16 bits
pub small_entries : (p : Program) → IsFormed p → (xs : List ℕ) → length xs ≡ length p.nodes → IsWithin (length p.nodes) (length p.nodes) (slice_index xs)
    → (n : ℕ) → slice_index xs n ≤ 65535
small_entries p formed xs long within n = elim (less_or_not n (length p.nodes)) [
  | inl lt ↦ (let a = within.each n lt in let b = (formed.size place.Image).nodes in omega (arith, a, b))
  | inr le ↦ (let a = past xs n (omega (arith, le, long)) in omega (arith, a))
]
  where
    less_or_not : (a b : ℕ) → (a < b) ⊎ (b ≤ a)
    less_or_not a b = grind arith

-- the least budget is one that an image may have
pub bound_small : (p : Program) → IsFormed p → (ends priorities weights bounds : List ℕ) → AreParts p ends priorities weights bounds →
    slice_index bounds 0 ≤ budget_limit
bound_small p formed ends priorities weights bounds parts =
    let a = parts.covering.under.below (ample p) (ample_covers p formed (slice_index weights) parts.weights_within) 0 in
    let b = ample_small p formed 0 in
    omega (arith, a, b)

pub entry_small : (p : Program) → IsFormed p → (ends priorities weights bounds : List ℕ) → AreParts p ends priorities weights bounds → (entry : Option ℕ) →
    entry_number (slice_index weights) entry ≤ budget_limit
entry_small p formed ends priorities weights bounds parts None = omega arith
entry_small p formed ends priorities weights bounds parts (Some n) =
    let h = small_entries p formed weights parts.weights_least.long parts.weights_within n in omega (arith, h)
