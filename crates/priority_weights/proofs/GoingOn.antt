-- Going on within one tick: where it leads from a node.
use Rattle.std.proofs.Common.{ℕ, ◌≡◌, ◌<◌, ◌⊎◌, inl, inr, Bool, true, false, Option, Some, None, MatchOption, List, [], length, refl, sym, subst, arith}
use Rattle.std.specs.Prelude.{slice_index, Contains, ◌↔◌, if◌then◌else◌}
use Rattle.sc_graph.specs.declared.program.Step.{Step}
use Rattle.sc_graph.specs.declared.program.Step.TheVariants as step
use Rattle.sc_graph.specs.Program.{Program, step_at}
use Rattle.sc_graph.specs.Protocol.{successors}
use Rattle.least_or_cycle.specs.Least.{IsNeeded}
use Rattle.least_or_cycle.specs.Walks.{Falls, LeadsTo, LeadsStrictlyTo}
use Rattle.priority_weights.specs.Inside.Entries.{bits, entry_bits}
use Rattle.priority_weights.specs.Inside.Next.{IsAsked, IsRanked, GoesOnBy, LeadsOn, successor, over, join_at_once}
use Rattle.priority_weights.proofs.Asking.{falls_needed, answer_turned}

nothing_in : (n : ℕ) → ¬ Contains [] n
nothing_in n c = let lt = c.1 in omega (arith, lt)

-- where there is a join at once, the step is such a fork
join_of : (p : Program) (e : ℕ → Bool) (s : Step) (j : ℕ) → join_at_once p e s ≡ Some j → (children : List ℕ) × (s ≡ step.Fork children j)
    × (entry_bits p e children ≡ true)
join_of p e (step.Fork children join) j h = chosen (entry_bits p e children) refl h
  where
    chosen : (b : Bool) → entry_bits p e children ≡ b → (if b then Some join else None) ≡ Some j → (ks : List ℕ) × (step.Fork children join ≡ step.Fork ks j)
        × (entry_bits p e ks ≡ true)
    chosen true is k = (children, (let same : join ≡ j = cc in cc), is)
    chosen false is k = absurd (cc)
join_of p e (step.Assign x code n) j h = absurd (cc)
join_of p e (step.Update x f code n) j h = absurd (cc)
join_of p e (step.Cond code m n) j h = absurd (cc)
join_of p e (step.Join n) j h = absurd (cc)
join_of p e (step.Surf d) j h = absurd (cc)
join_of p e (step.Depth n) j h = absurd (cc)
join_of p e step.Exit j h = absurd (cc)

of_join : (p : Program) (e : ℕ → Bool) (children : List ℕ) (j : ℕ) → entry_bits p e children ≡ true → join_at_once p e (step.Fork children j) ≡ Some j
of_join p e children j h = let P : Bool → Type 0 = λ b. (if b then Some j else None) ≡ Some j in subst P (sym h) refl

-- over a fork whose children may all end at once
pub on_over : (p : Program) (q : ℕ → ℕ) (m j : ℕ) (s : Step) → step_at p m ≡ Some s → join_at_once p (bits q) s ≡ Some j → (n : ℕ) → (j ≡ n) ↔ GoesOnBy p q m n
on_over p q m j s at is n = (
  λ e. let f = join_of p (bits q) s j is in let k = f.1 in over f.0 (cc) f.2,
  λ on. back on,
)
  where
    back : GoesOnBy p q m n → j ≡ n
    back (successor s' at' c) =
        let f = join_of p (bits q) s j is in
        let k = f.1 in
        let same : s' ≡ step.Fork f.0 j = cc in
        let P : Step → Type 0 = λ x. Contains (successors x) n in
        absurd (nothing_in n (subst P same c))
    back (over children at' may) =
        let f = join_of p (bits q) s j is in
        let k = f.1 in
        cc

-- else to the successors
pub on_plainly : (p : Program) (q : ℕ → ℕ) (m : ℕ) (s : Step) → step_at p m ≡ Some s → join_at_once p (bits q) s ≡ None → (n : ℕ) → Contains (successors s) n
    ↔ GoesOnBy p q m n
on_plainly p q m s at none n = (λ c. successor s at c, λ on. back on)
  where
    back : GoesOnBy p q m n → Contains (successors s) n
    back (successor s' at' c) =
        let same : s' ≡ s = cc in
        let P : Step → Type 0 = λ x. Contains (successors x) n in
        subst P same c
    back (over children at' may) =
        let same : s ≡ step.Fork children n = cc in
        let P : Step → Type 0 = λ x. join_at_once p (bits q) x ≡ None in
        let h = subst P same none in
        let k = of_join p (bits q) children n may in
        absurd (cc)

pub on_nowhere : (p : Program) (q : ℕ → ℕ) (m : ℕ) → step_at p m ≡ None → (n : ℕ) → ¬ GoesOnBy p q m n
on_nowhere p q m at n (successor s at' c) = cc
on_nowhere p q m at n (over children at' may) = cc

pub on_needed : (p : Program) (q : ℕ → ℕ) (Nodes : ℕ → Type 0) (table : List ℕ) (m x : ℕ) → m < length table → ((n : ℕ) → Nodes n ↔ GoesOnBy p q m n) →
    IsAsked Nodes table 1 x → IsNeeded (Falls (LeadsOn p q)) table m x
on_needed p q Nodes table m x lt is asked = falls_needed (LeadsOn p q) table m x lt
    (λ n w edge. let c = asked.covers n ((is n).1 edge.0) in let e = edge.1 in omega (arith, c, e))
    (elim asked.attained [ inl z ↦ inl z | inr h ↦ inr (h.0, 1, ((is h.0).0 h.1, refl), h.2) ])

pub on_towards : (p : Program) (q : ℕ → ℕ) (Nodes : ℕ → Type 0) (ranks : List ℕ) (m below : ℕ) (r : Option ℕ) → ((n : ℕ) → Nodes n ↔ GoesOnBy p q m n) →
    MatchOption r ((n : ℕ) → Nodes n → ¬ IsRanked ranks below n) (λ n. Nodes n × IsRanked ranks below n) →
    MatchOption r ((n : ℕ) → ¬ LeadsTo (LeadsOn p q) ranks m below n) (LeadsTo (LeadsOn p q) ranks m below)
on_towards p q Nodes ranks m below r is h = answer_turned r _ _ _ _
    (λ none n to. none n ((is n).1 to.edge.0) (record { ranked = to.ranked; falls = to.falls }))
    (λ n found. record { weight = 1; edge = ((is n).0 found.0, refl); ranked = found.1.ranked; falls = found.1.falls })
    h

pub on_strictly : (p : Program) (q : ℕ → ℕ) (Nodes : ℕ → Type 0) (ranks : List ℕ) (m below : ℕ) (r : Option ℕ) → ((n : ℕ) → slice_index ranks n < below)
    → ((n : ℕ) → Nodes n ↔ GoesOnBy p q m n) →
    MatchOption r ((n : ℕ) → Nodes n → ¬ IsRanked ranks below n) (λ n. Nodes n × IsRanked ranks below n) →
    MatchOption r ((n : ℕ) → ¬ LeadsStrictlyTo (LeadsOn p q) ranks m n) (LeadsStrictlyTo (LeadsOn p q) ranks m)
on_strictly p q Nodes ranks m below r small is h = answer_turned r _ _ _ _
    (λ none n to. none n ((is n).1 to.edge.0) (record { ranked = to.ranked; falls = small n }))
    (λ n found. record { weight = 1; edge = ((is n).0 found.0, refl); strict = omega arith; ranked = found.1.ranked })
    h

-- the join of a fork is at once where its children may all end, and else not
pub join_told : (p : Program) (e : ℕ → Bool) (s : Step) (children : List ℕ) (j : ℕ) → s ≡ step.Fork children j → entry_bits p e children ≡ true
    → Some j ≡ join_at_once p e s
join_told p e s children j is h =
    let P : Step → Type 0 = λ x. Some j ≡ join_at_once p e x in
    subst P (sym is) (sym (of_join p e children j h))

pub no_join_told : (p : Program) (e : ℕ → Bool) (s : Step) (children : List ℕ) (j : ℕ) → s ≡ step.Fork children j → entry_bits p e children ≡ false
    → None ≡ join_at_once p e s
no_join_told p e s children j is h =
    let P : Step → Type 0 = λ x. None ≡ join_at_once p e x in
    let Q : Bool → Type 0 = λ b. None ≡ (if b then Some j else None) in
    subst P (sym is) (subst Q (sym h) refl)

-- one node alone is next
pub next_over : (p : Program) (q : ℕ → ℕ) (m j : ℕ) (s : Step) → step_at p m ≡ Some s → join_at_once p (bits q) s ≡ Some j → (n : ℕ)
    → ((Some j ≡ Some n) ⊎ (None ≡ Some n)) ↔ GoesOnBy p q m n
next_over p q m j s at is n =
    let f = on_over p q m j s at is n in
    (λ next. elim next [ inl e ↦ f.0 (cc) | inr e ↦ absurd (cc) ], λ on. inl (let e = f.1 on in cc))

pub next_on : (p : Program) (q : ℕ → ℕ) (m : ℕ) (s : Step) (Nodes : ℕ → Type 0) → step_at p m ≡ Some s → join_at_once p (bits q) s ≡ None
    → ((n : ℕ) → Nodes n ↔ Contains (successors s) n) → (n : ℕ) → Nodes n ↔ GoesOnBy p q m n
next_on p q m s Nodes at none is n =
    let f = on_plainly p q m s at none n in
    (λ next. f.0 ((is n).0 next), λ on. (is n).1 (f.1 on))
