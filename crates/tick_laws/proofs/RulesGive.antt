-- What the rules of end bits, weights, bounds and flow say along each sort of edge.
use Rattle.std.proofs.Common.{◌≡◌, ℕ, ◌+◌, ◌≤◌, ◌⊎◌, true, Some, List, [], ◌∷◌, slice_get, Contains, if◌then◌else◌, refl, ap, subst, ◌∙◌, inl, inr, ⊎_elim}
use Rattle.std.proofs.Common.{arith}
use Rattle.std.proofs.lemmas.Bool.{and_from, or_left as or_from_left, or_right as or_from_right}
use Rattle.sc_graph.specs.declared.program.Thread.{Thread}
use Rattle.sc_graph.specs.declared.program.Step.{Step}
use Rattle.sc_graph.specs.declared.program.Step.TheVariants as step
use Rattle.sc_graph.specs.declared.tables.Tables.{Tables}
use Rattle.sc_graph.specs.declared.place.Place.TheVariants as place
use Rattle.sc_graph.specs.Program.{Program, step_at}
use Rattle.sc_graph.specs.Tables.{weight, end_bit, priority}
use Rattle.sc_graph.specs.Protocol.{successors, Instant}
use Rattle.sc_graph.specs.Costs.{needed_weight, may_end, entry_weights, entries_end, BoundHolds, BudgetHolds}
use Rattle.sc_graph.specs.Valid.{IsValid}
use Rattle.tick_laws.proofs.Lists.{contains_none, contains_cons}

-- the only element of a list of one
alone : (x y : ℕ) → Contains (x ∷ []) y → x ≡ y
alone x y h = ⊎_elim (λ e. e) (λ none. absurd (contains_none y none)) (contains_cons x y [] h)

-- each entry of the weights is greater than those of what follows
pub record Weights (p : Program) (q : Tables) : Type 0 where
  pub some : (n : ℕ) (s : Step) → step_at p n ≡ Some s → 1 ≤ weight q n
  pub successor : (m n : ℕ) (s : Step) → step_at p m ≡ Some s → Contains (successors s) n → 1 + weight q n ≤ weight q m
  pub fork : (n j : ℕ) (children : List ℕ) → step_at p n ≡ Some (step.Fork children j) →
      1 + entry_weights p q children + (if entries_end p q children then weight q j else 0) ≤ weight q n

-- the end bits come back from what follows
pub record EndBits (p : Program) (q : Tables) : Type 0 where
  pub successor : (m n : ℕ) (s : Step) → step_at p m ≡ Some s → Contains (successors s) n → end_bit q n ≡ true → end_bit q m ≡ true
  pub fork : (n j : ℕ) (children : List ℕ) → step_at p n ≡ Some (step.Fork children j) → entries_end p q children ≡ true → end_bit q j ≡ true
      → end_bit q n ≡ true
  pub exit : (n : ℕ) → step_at p n ≡ Some step.Exit → end_bit q n ≡ true

-- what a thread's bound covers
pub record Bounds (p : Program) (q : Tables) : Type 0 where
  pub holds : (t : ℕ) (a : Thread) → slice_get p.threads t ≡ Some a → BoundHolds p q t
  pub budget : BudgetHolds p q

-- priority never rises along an instantaneous edge
pub record Flow (p : Program) (q : Tables) : Type 0 where
  pub falls : (m n : ℕ) → Instant p m n → priority q n ≤ priority q m

-- one of the two elements of a list
one_of_two : (x y z : ℕ) → Contains (x ∷ y ∷ []) z → (x ≡ z) ⊎ (y ≡ z)
one_of_two x y z h = ⊎_elim inl (λ rest. inr (alone y z rest)) (contains_cons x z (y ∷ []) h)

nothing_in : {P : Type 0} (z : ℕ) → Contains [] z → P
nothing_in z h = absurd (contains_none z h)

module _ (p : Program) (q : Tables) where
  weight_at_least : (s : Step) (w : ℕ) → needed_weight p q s ≤ w → 1 ≤ w
  weight_at_least (step.Assign x code m) w h = omega (arith, h)
  weight_at_least (step.Update x f code m) w h = omega (arith, h)
  weight_at_least (step.Cond code a b) w h = omega (arith, h)
  weight_at_least (step.Fork children j) w h = below (entry_weights p q children) (if entries_end p q children then weight q j else 0) h
    where
      below : (a b : ℕ) → 1 + a + b ≤ w → 1 ≤ w
      below a b k = omega (arith, k)
  weight_at_least (step.Join m) w h = omega (arith, h)
  weight_at_least (step.Surf d) w h = h
  weight_at_least (step.Depth m) w h = omega (arith, h)
  weight_at_least step.Exit w h = h

  weight_after : (s : Step) (w n : ℕ) → needed_weight p q s ≤ w → Contains (successors s) n → 1 + weight q n ≤ w
  weight_after (step.Assign x code m) w n h c = subst (λ k. 1 + weight q k ≤ w) (alone m n c) h
  weight_after (step.Update x f code m) w n h c = subst (λ k. 1 + weight q k ≤ w) (alone m n c) h
  weight_after (step.Cond code a b) w n h c = ⊎_elim (λ e. subst (λ k. 1 + weight q k ≤ w) e (omega (arith, h)))
      (λ e. subst (λ k. 1 + weight q k ≤ w) e (omega (arith, h))) (one_of_two a b n c)
  weight_after (step.Fork children j) w n h c = nothing_in n c
  weight_after (step.Join m) w n h c = subst (λ k. 1 + weight q k ≤ w) (alone m n c) h
  weight_after (step.Surf d) w n h c = nothing_in n c
  weight_after (step.Depth m) w n h c = subst (λ k. 1 + weight q k ≤ w) (alone m n c) h
  weight_after step.Exit w n h c = nothing_in n c

  end_bit_after : (s : Step) (n : ℕ) → Contains (successors s) n → end_bit q n ≡ true → may_end p q s ≡ true
  end_bit_after (step.Assign x code m) n c h = ap (end_bit q) (alone m n c) ∙ h
  end_bit_after (step.Update x f code m) n c h = ap (end_bit q) (alone m n c) ∙ h
  end_bit_after (step.Cond code a b) n c h =
      ⊎_elim (λ e. or_from_left _ (end_bit q b) (ap (end_bit q) e ∙ h)) (λ e. or_from_right (end_bit q a) _ (ap (end_bit q) e ∙ h)) (one_of_two a b n c)
  end_bit_after (step.Fork children j) n c h = nothing_in n c
  end_bit_after (step.Join m) n c h = ap (end_bit q) (alone m n c) ∙ h
  end_bit_after (step.Surf d) n c h = nothing_in n c
  end_bit_after (step.Depth m) n c h = ap (end_bit q) (alone m n c) ∙ h
  end_bit_after step.Exit n c h = refl

  module _ (valid : IsValid p q) where
    pub weights : Weights p q
    weights =
        record {
          some = λ n s e. weight_at_least s (weight q n) (valid.weight (place.Node n) s e);
          successor = λ m n s e c. weight_after s (weight q m) n (valid.weight (place.Node m) s e) c;
          fork = λ n j children e. valid.weight (place.Node n) (step.Fork children j) e;
        }

    pub end_bits : EndBits p q
    end_bits =
        record {
          successor = λ m n s e c h. valid.end_bit (place.Node m) s e (end_bit_after s n c h);
          fork = λ n j children e ends h. valid.end_bit (place.Node n) (step.Fork children j) e (and_from _ _ ends h);
          exit = λ n e. valid.end_bit (place.Node n) step.Exit e refl;
        }

    pub bounds : Bounds p q
    bounds = record { holds = λ t a e. valid.bound (place.Thread t) a e; budget = valid.bound place.Image }

    pub flow : Flow p q
    flow = record { falls = λ m n edge. valid.flow (place.Pair m n) edge }
