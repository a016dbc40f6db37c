-- The order of priorities: its edges, and what they ask.
use Rattle.std.proofs.Common.{ℕ, ◌≡◌, ◌<◌, ◌≤◌, ◌⊎◌, inl, inr, max, Option, MatchOption, List, length, refl, arith}
use Rattle.std.specs.Prelude.{slice_index, ◌↔◌}
use Rattle.sc_graph.specs.Program.{Program}
use Rattle.sc_graph.specs.Protocol.{Instant, ProtocolEdge}
use Rattle.conflict_edges.specs.declared.edges.Followers.{Followers}
use Rattle.conflict_edges.specs.Followers.{AreFollowers}
use Rattle.least_or_cycle.specs.Least.{IsNeeded, IsPart, Keeps}
use Rattle.least_or_cycle.specs.Walks.{Falls, LeadsTo, LeadsStrictlyTo}
use Rattle.priority_weights.specs.Edges.{InOrder}
use Rattle.priority_weights.specs.Inside.Ordered.{IsFollower}
use Rattle.priority_weights.specs.Inside.Next.{IsAsked, IsRanked, IsSomeAsked}
use Rattle.priority_weights.proofs.Asking.{falls_needed, falls_part, answer_turned}

pub protocol_edges : (p : Program) (m : ℕ) (f : Followers) → AreFollowers p m f → (n : ℕ) → (IsFollower p m f.updates.now n ⊎ IsFollower p m f.reads.now n)
    ↔ ProtocolEdge p m n
protocol_edges p m f are n = (
  λ h. elim h [ inl u ↦ are.edge n (inl u.0) u.1 | inr r ↦ are.edge n (inr r.0) r.1 ],
  λ e. elim (are.each n e) [ inl u ↦ inl (u, e.concurrent) | inr r ↦ inr (r, e.concurrent) ],
)

pub order_needed : (p : Program) (table : List ℕ) (m x y : ℕ) → m < length table → IsAsked (Instant p m) table 0 x → IsAsked (ProtocolEdge p m) table 1 y
    → IsNeeded (Falls (InOrder p)) table m (max x y)
order_needed p table m x y lt a b = falls_needed (InOrder p) table m (max x y) lt
    (λ n w edge. elim edge [
      | inl e ↦ (let c = a.covers n e.0 in let z = e.1 in omega (arith, c, z))
      | inr e ↦ (let c = b.covers n e.0 in let z = e.1 in omega (arith, c, z))
    ])
    (elim (less_or_not x y) [
      | inl le ↦ (let e : max x y ≡ y = omega (arith, le) in elim b.attained [
        | inl z ↦ inl (omega (arith, e, z))
        | inr h ↦ inr (h.0, 1, inr (h.1, refl), (let k = h.2 in omega (arith, e, k)))
      ])
      | inr le ↦ (let e : max x y ≡ x = omega (arith, le) in elim a.attained [
        | inl z ↦ inl (omega (arith, e, z))
        | inr h ↦ inr (h.0, 0, inl (h.1, refl), (let k = h.2 in omega (arith, e, k)))
      ])
    ])
  where
    less_or_not : (a b : ℕ) → (a ≤ b) ⊎ (b ≤ a)
    less_or_not a b = grind arith

pub order_part : (p : Program) (table : List ℕ) (m x y : ℕ) → m < length table → IsAsked (Instant p m) table 0 x → IsSomeAsked (ProtocolEdge p m) table 1 y →
    IsPart (Falls (InOrder p)) table m (max x y)
order_part p table m x y lt a b = falls_part (InOrder p) table m (max x y) lt
    (elim (less_or_not x y) [
      | inl le ↦ (let e : max x y ≡ y = omega (arith, le) in elim b [
        | inl z ↦ inl (omega (arith, e, z))
        | inr h ↦ inr (h.0, 1, inr (h.1, refl), (let k = h.2 in omega (arith, e, k)))
      ])
      | inr le ↦ (let e : max x y ≡ x = omega (arith, le) in elim a.attained [
        | inl z ↦ inl (omega (arith, e, z))
        | inr h ↦ inr (h.0, 0, inl (h.1, refl), (let k = h.2 in omega (arith, e, k)))
      ])
    ])
  where
    less_or_not : (a b : ℕ) → (a ≤ b) ⊎ (b ≤ a)
    less_or_not a b = grind arith

-- a table keeps the order where it never rises along instantaneous edges and falls along protocol edges
pub order_kept : (p : Program) (table : List ℕ) (count : ℕ) → ((m : ℕ) → m < count → (n : ℕ) → Instant p m n → slice_index table n ≤ slice_index table m) →
    ((m n : ℕ) → ProtocolEdge p m n → slice_index table n < slice_index table m) → Keeps (Falls (InOrder p)) count (slice_index table)
order_kept p table count instants protocol = record {
  each = λ m lt. record {
    falls = λ n w edge. elim edge [
      | inl e ↦ (let h = instants m lt n e.0 in let z = e.1 in omega (arith, h, z))
      | inr e ↦ (let h = protocol m n e.0 in let z = e.1 in omega (arith, h, z))
    ];
  };
}

pub order_towards : (p : Program) (ranks : List ℕ) (m below : ℕ) (r : Option ℕ) → ((n : ℕ) → Instant p m n → ¬ IsRanked ranks below n) →
    MatchOption r ((n : ℕ) → ProtocolEdge p m n → ¬ IsRanked ranks below n) (λ n. ProtocolEdge p m n × IsRanked ranks below n) →
    MatchOption r ((n : ℕ) → ¬ LeadsTo (InOrder p) ranks m below n) (LeadsTo (InOrder p) ranks m below)
order_towards p ranks m below r instants h = answer_turned r _ _ _ _
    (λ none n to. elim to.edge [
      | inl e ↦ instants n e.0 (record { ranked = to.ranked; falls = to.falls })
      | inr e ↦ none n e.0 (record { ranked = to.ranked; falls = to.falls })
    ])
    (λ n found. record { weight = 1; edge = inr (found.0, refl); ranked = found.1.ranked; falls = found.1.falls })
    h

pub order_instantly : (p : Program) (ranks : List ℕ) (m below n : ℕ) → Instant p m n × IsRanked ranks below n → LeadsTo (InOrder p) ranks m below n
order_instantly p ranks m below n found = record { weight = 0; edge = inl (found.0, refl); ranked = found.1.ranked; falls = found.1.falls }

pub order_strictly : (p : Program) (ranks : List ℕ) (m below : ℕ) (r : Option ℕ) → ((n : ℕ) → slice_index ranks n < below) →
    MatchOption r ((n : ℕ) → ProtocolEdge p m n → ¬ IsRanked ranks below n) (λ n. ProtocolEdge p m n × IsRanked ranks below n) →
    MatchOption r ((n : ℕ) → ¬ LeadsStrictlyTo (InOrder p) ranks m n) (LeadsStrictlyTo (InOrder p) ranks m)
order_strictly p ranks m below r small h = answer_turned r _ _ _ _
    (λ none n to. elim to.edge [
      | inl e ↦ (let z = e.1 in let strict = to.strict in omega (arith, z, strict))
      | inr e ↦ none n e.0 (record { ranked = to.ranked; falls = small n })
    ])
    (λ n found. record { weight = 1; edge = inr (found.0, refl); strict = omega arith; ranked = found.1.ranked })
    h
