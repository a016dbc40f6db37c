-- Capped ranks are ranks: behind a step no rank is greater than the greatest before it, and a step that writes has its priority.
use Rattle.std.proofs.Common.{◌≡◌, ◌≢◌, ℕ, ◌≤◌, ◌⊎◌, inl, inr, ⊎_elim, Bool, true, false, Some, refl, ap}
use Rattle.std.proofs.Common.{subst, arith}
use Rattle.std.proofs.lemmas.Bool.{cases_Bool}
use Rattle.std.proofs.Math.Nat.{min-le_left, min-le_right, min-eq_left}
use Rattle.sc_values.specs.Access.{Access, Writing, Nothing, Init, Update, no_access, Precedes}
use Rattle.sc_values.specs.Access.{Clash, two_inits, two_updates}
use Rattle.sc_values.specs.Access.{MayPrecede}
use Rattle.sc_graph.specs.Tick.{Inputs}
use Rattle.chart_lowering_laws.proofs.Ordering.{nothing_second}
use Rattle.preemption_laws.proofs.Greatest.{Leads, leader}
use Rattle.abort_expansion_laws.specs.Ticks.{Reactive}
use Rattle.abort_expansion_laws.proofs.Commuting.{plain_second}
use Rattle.preemption_laws.specs.ChartRanks.{HasRanks}
use Rattle.preemption_laws.specs.CappedRanks.{capped, HasCappedRanks}

-- ---- a step that writes nothing may come behind each other one, and one that does nothing before each

pub both_write : (a b : Access) → Clash a b → (a.writes ≢ Nothing) × (b.writes ≢ Nothing)
both_write a b (two_inits x i j differ) = (λ e. by_first e, λ e. by_second e)
  where
    by_first : a.writes ≢ Nothing
    by_first e = let w = i.1 in absurd cc

    by_second : b.writes ≢ Nothing
    by_second e = let w = j.1 in absurd cc
both_write a b (two_updates x f g u v differ) = (λ e. absurd cc, λ e. absurd cc)

pub idle_first : (a b : Access) → a ≡ no_access → MayPrecede a b
idle_first a b idle =
    record {
      no_order = λ before. nothing_second b (subst (Precedes b) idle before);
      no_clash = λ clash. (both_write a b clash).0 (ap (λ z. z.writes) idle);
    }

writes_or_not : (w : Writing) → (w ≡ Nothing) ⊎ (w ≢ Nothing)
writes_or_not Nothing = inl refl
writes_or_not (Init x literal) = inr (λ e. absurd cc)
writes_or_not (Update x f) = inr (λ e. absurd cc)

-- ---- capped numbers

pub capped_within : (free : Bool) (cap n : ℕ) → capped free cap n ≤ cap
capped_within true cap n = omega arith
capped_within false cap n = min-le_right n cap

capped_below : (free : Bool) (cap n : ℕ) → free ≡ false → capped free cap n ≤ n
capped_below false cap n is = min-le_left n cap
capped_below true cap n is = absurd cc

capped_is : (free : Bool) (cap n : ℕ) → free ≡ false → n ≤ cap → capped free cap n ≡ n
capped_is false cap n is le = min-eq_left le
capped_is true cap n is le = absurd cc

module _ (r : Reactive) (Accepted : Inputs → Type 0) (has : HasCappedRanks r Accepted) where
  abbrev C : Type 0
  C = r.machine.Configuration

  abbrev Now : Type 0
  Now = has.Known × ℕ

  abbrev rank : Now → ℕ → ℕ
  rank k u = capped (has.free k.0 u) k.1 (has.priority k.0 u)

  -- ---- a greatest rank, where somebody is enabled

  leading : (c : C) (k : Now) (t : ℕ) → r.machine.enabled c t ≡ true → (v : ℕ) × Leads (r.machine.enabled c) (rank k) (has.threads c) v
  leading c k t on = ⊎_elim (λ first. first) (λ none. let off : r.machine.enabled c t ≡ false = none t (has.among c t on) in absurd cc)
      (leader (r.machine.enabled c) (rank k) (has.threads c))

  -- ---- they are ranks

  module _ (c d : C) (k l : Now) (t u a : ℕ) (here : has.Holds c k.0 k.1) (there : has.Holds d l.0 l.1) (on : r.machine.enabled c t ≡ true)
      (on_too : r.machine.enabled d u ≡ true) (apart : r.machine.ForkedApart t u a) (low : rank l u ≤ rank k t) where
    by_writing : (r.machine.access d u).writes ≢ Nothing → MayPrecede (r.machine.access c t) (r.machine.access d u)
    by_writing writes = ⊎_elim (λ free. idle_first (r.machine.access c t) (r.machine.access d u) (has.is_free c k.0 k.1 t here free))
        (λ busy. has.order c d k.0 l.0 k.1 l.1 t u a here there on on_too apart writes (by busy)) (cases_Bool (has.free k.0 t))
      where
        never_free : has.free l.0 u ≡ false
        never_free = ⊎_elim (λ free. absurd (writes (ap (λ z. z.writes) (has.is_free d l.0 l.1 u there free)))) (λ busy. busy) (cases_Bool (has.free l.0 u))

        by : has.free k.0 t ≡ false → has.priority l.0 u ≤ has.priority k.0 t
        by busy =
            let is : rank l u ≡ has.priority l.0 u =
            capped_is (has.free l.0 u) l.1 (has.priority l.0 u) never_free (has.uncapped d l.0 l.1 u there on_too writes) in
            let below : rank k t ≤ has.priority k.0 t = capped_below (has.free k.0 t) k.1 (has.priority k.0 t) busy in
            omega (arith, is, below, low)

    in_order : MayPrecede (r.machine.access c t) (r.machine.access d u)
    in_order = ⊎_elim (plain_second (r.machine.access c t) (r.machine.access d u)) by_writing (writes_or_not (r.machine.access d u).writes)

  falls : (c d : C) (k : Now) (t : ℕ) → has.Holds c k.0 k.1 → r.machine.step t c ≡ Some d →
      (l : Now) × has.Holds d l.0 l.1
      × ((u : ℕ) → r.machine.enabled d u ≡ true → (v : ℕ) × (r.machine.enabled c v ≡ true) × (rank l u ≤ rank k v))
  falls c d k t here steps =
      let first : (v : ℕ) × Leads (r.machine.enabled c) (rank k) (has.threads c) v = leading c k t (has.turns c d t steps) in
      let next = has.goes c d k.0 k.1 (rank k first.0) t here steps (λ u on. first.1.greatest u (has.among c u on) on) in (
        (next.0, rank k first.0),
        next.1,
        λ u on. (first.0, first.1.on, capped_within (has.free next.0 u) (rank k first.0) (has.priority next.0 u)),
      )

  pub capped_are_ranks : HasRanks r Accepted
  capped_are_ranks =
      record {
        Known = Now;
        Holds = λ c k. has.Holds c k.0 k.1;
        rank = rank;
        begins = λ ticks ends inputs accepted takes reaction.
            let x = has.begins ticks ends inputs accepted takes reaction in ((x.0, x.1), x.2);
        falls = falls;
        order = λ c d k l t u a here there on on_too apart low. in_order c d k l t u a here there on on_too apart low;
      }
