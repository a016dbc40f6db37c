-- Below some children of one thread, while that thread takes no step, priorities stay low once they are.
use Rattle.std.proofs.Common.{◌≡◌, ◌≢◌, ℕ, zero, suc, ◌<◌, ◌≤◌, ◌⊎◌, Contains, sym, ap, ◌∙◌, subst, arith, inl, inr, ⊎_elim, Some}
use Rattle.std.proofs.lemmas.Option.{same_Some}
use Rattle.sc_values.specs.Access.{Precedes}
use Rattle.sc_graph.specs.declared.tables.Tables.{Tables}
use Rattle.sc_graph.specs.declared.control.Control.{Control}
use Rattle.sc_graph.specs.declared.control.Status.{Status}
use Rattle.sc_graph.specs.declared.control.Status.TheVariants as status
use Rattle.sc_graph.specs.declared.place.Place.TheVariants as place
use Rattle.sc_graph.specs.Program.{Program, parent_of}
use Rattle.sc_graph.specs.Threads.{IsFork, Descends, Below, ConcurrentNodes}
use Rattle.sc_graph.specs.Accesses.{accesses}
use Rattle.sc_graph.specs.Control.{status_of}
use Rattle.sc_graph.specs.Steps.{Effect, after, effect}
use Rattle.sc_graph.specs.Tick.{IsConfiguration}
use Rattle.sc_graph.specs.Protocol.{Instant}
use Rattle.sc_graph.specs.Tables.{priority, priority_of}
use Rattle.sc_graph.specs.Valid.{IsFormed, IsValid}
use Rattle.tick_laws.proofs.Lists.{same_or_not, contained}
use Rattle.tick_laws.proofs.Formed.{JoinOf, join_of, child_parent, valid_formed}
use Rattle.tick_laws.proofs.RulesGive.{flow}
use Rattle.tick_laws.proofs.Views.{Completes, Enabled, stands, completes, does, enabled_from_effect}
use Rattle.tick_laws.proofs.Sound.{fork_of_join}
use Rattle.tick_laws.proofs.StepMoves.{StepMoves, step_moves}
use Rattle.tick_laws.proofs.ConfigurationKept.{after_other}
use Rattle.tick_laws.proofs.Falling.{StandsAt, stands_priority, Came, stayed, arrived, came}

-- u is t, its child or its parent
abbrev pub Near : Program → ℕ → ℕ → Type 0
Near p t u = (u ≡ t) ⊎ ((parent_of p u ≡ Some t) ⊎ (parent_of p t ≡ Some u))

-- it was enabled where it stands
abbrev pub Stays : Program → Control → Control → ℕ → Type 0
Stays p c d u = Enabled p c u × (status_of d u ≡ status_of c u)

module _ (p : Program) (formed : IsFormed p) (c : Control) (ok : IsConfiguration p c) (t : ℕ) (e : Effect) (m : StepMoves p c t e) where
  parent_once : (k : ℕ) (a b : ℕ) → parent_of p k ≡ Some a → parent_of p k ≡ Some b → a ≡ b
  parent_once k a b x y = same_Some a b (sym x ∙ y)

  standing_near : (u n : ℕ) → status_of (after e c) u ≡ status.At n → Stays p c (after e c) u ⊎ Near p t u
  standing_near u n at = ⊎_elim (λ same. inr (inl same)) (λ ne. ⊎_elim (λ child. inr (inr (inl (m.parent u child)))) (other ne) (contained m.children u))
      (same_or_not u t)
    where
      other : u ≢ t → ¬ Contains m.children u → Stays p c (after e c) u ⊎ Near p t u
      other ne none = let same = after_other p formed c t e m u ne none in inl (stands n (sym same ∙ at), same)

  completing_near : (u : ℕ) → Completes p (after e c) u → Stays p c (after e c) u ⊎ Near p t u
  completing_near u w = ⊎_elim (λ same. inr (inl same)) (λ ne. ⊎_elim (λ child. inr (inr (inl (m.parent u child)))) (other ne) (contained m.children u))
      (same_or_not u t)
    where
      other : u ≢ t → ¬ Contains m.children u → Stays p c (after e c) u ⊎ Near p t u
      other ne none = ⊎_elim last before (contained w.children t)
        where
          same : status_of (after e c) u ≡ status_of c u
          same = after_other p formed c t e m u ne none

          fork : (of : JoinOf p w.join w.children) → IsFork p of.fork u w.children w.join
          fork of = fork_of_join p formed c ok u w.join w.children (sym same ∙ w.at) of

          of : JoinOf p w.join w.children
          of = join_of p w.join w.children w.joined

          last : Contains w.children t → Stays p c (after e c) u ⊎ Near p t u
          last h = inr (inr (inr (child_parent p formed of.fork u w.children w.join t (fork of) h)))

          unmoved : ¬ Contains w.children t → (k : ℕ) → Contains w.children k → status_of (after e c) k ≡ status_of c k
          unmoved out k h =
              after_other p formed c t e m k (λ e. out (subst (Contains w.children) e h))
              (λ in_children. ne (parent_once k u t (child_parent p formed of.fork u w.children w.join k (fork of) h) (m.parent k in_children)))

          before : ¬ Contains w.children t → Stays p c (after e c) u ⊎ Near p t u
          before out =
              inl (
                completes (record {
                  join = w.join;
                  children = w.children;
                  at = sym same ∙ w.at;
                  joined = w.joined;
                  ended = λ k h. sym (unmoved out k h) ∙
                      w.ended k h;
                }),
                same,
              )

  near : (u : ℕ) → Enabled p (after e c) u → Stays p c (after e c) u ⊎ Near p t u
  near u (stands n at) = standing_near u n at
  near u (completes w) = completing_near u w

-- below one of these threads, all children of r
abbrev pub Under : Program → (ℕ → Type 0) → ℕ → Type 0
Under p Child u = (k : ℕ) × Child k × Below p u k

-- each enabled thread of these has a priority below `top`, or stands where it is excused
abbrev pub LowUnder : Program → Tables → (In : ℕ → Type 0) (Excused : Status → Type 0) → ℕ → Control → Type 0
LowUnder p q In Excused top c = (u : ℕ) → In u → Enabled p c u → (priority_of q (status_of c u) < top) ⊎ Excused (status_of c u)

-- who is near a thread below them is below them too, or is r
near_under : (p : Program) (Child : ℕ → Type 0) (r : ℕ) → ((k : ℕ) → Child k → parent_of p k ≡ Some r) → (t u : ℕ) → t ≢ r → Under p Child u → Near p t u →
    Under p Child t
near_under p Child r of_r t u ne in_u (inl same) = subst (Under p Child) same in_u
near_under p Child r of_r t u ne in_u (inr (inl up)) = by_depth in_u.2.generations in_u.2.descends
  where
    by_depth : (n : ℕ) → Descends p n u in_u.0 → Under p Child t
    by_depth zero d = absurd (ne (same_Some t r (sym up ∙ (ap (parent_of p) d ∙ of_r in_u.0 in_u.1))))
    by_depth (suc n) d =
        let same : d.0 ≡ t = same_Some d.0 t (sym d.1 ∙ up) in
        (in_u.0, in_u.1, record { generations = n; descends = subst (λ z. Descends p n z in_u.0) same d.2 })
near_under p Child r of_r t u ne in_u (inr (inr down)) = (
  in_u.0,
  in_u.1,
  record
      { generations = suc in_u.2.generations; descends = (u, down, in_u.2.descends) },
)

-- below them, while r takes no step, each enabled thread stays below `top`, or stands excused: what an excused place leads to is
-- below `top`, or excused as well
pub low_under_kept : (p : Program) (q : Tables) → IsValid p q → (Child : ℕ → Type 0) (Excused : Status → Type 0) (r : ℕ) →
    ((k : ℕ) → Child k → parent_of p k ≡ Some r) →
    (c : Control) → IsConfiguration p c → (t : ℕ) (e : Effect) → effect p c t ≡ Some e → t ≢ r → (top : ℕ) →
    ((m n : ℕ) → Excused (status_of c t) → StandsAt (status_of c t) m → Instant p m n →
    (priority q n < top) ⊎ ((s : Status) → StandsAt s n → Excused s)) →
    LowUnder p q (Under p Child) Excused top c → LowUnder p q (Under p Child) Excused top (after e c)
low_under_kept p q valid Child Excused r of_r c ok t e h ne top excuse low u within on =
    by_near (near p formed c ok t e (step_moves p formed c ok t e (does p c t e h)) u on)
  where
    formed : IsFormed p
    formed = valid_formed p q valid

    Goal : Type 0
    Goal = (priority_of q (status_of (after e c) u) < top) ⊎ Excused (status_of (after e c) u)

    by_stays : Stays p c (after e c) u → Goal
    by_stays s = subst (λ z. (priority_of q z < top) ⊎ Excused z) (sym s.1) (low u within s.0)

    by_edge : (m n : ℕ) → StandsAt (status_of c t) m → StandsAt (status_of (after e c) u) n → Instant p m n →
        (priority_of q (status_of c t) < top) ⊎ Excused (status_of c t) → Goal
    by_edge m n at there edge (inl lt) =
        inl (omega (arith, (flow p q valid).falls m n edge, stands_priority q (status_of c t) m at, stands_priority q (status_of (after e c) u) n there, lt))
    by_edge m n at there edge (inr x) =
        ⊎_elim (λ lt. inl (omega (arith, lt, stands_priority q (status_of (after e c) u) n there))) (λ still. inr (still (status_of (after e c) u) there))
        (excuse m n x at edge)

    by_came : Under p Child t → Came p c (after e c) t u → Goal
    by_came in_t (stayed before same) = by_stays (before, same)
    by_came in_t (arrived m n at there edge) = by_edge m n at there edge (low t in_t (enabled_from_effect p c t e h))

    by_near : Stays p c (after e c) u ⊎ Near p t u → Goal
    by_near (inl s) = by_stays s
    by_near (inr n) = by_came (near_under p Child r of_r t u ne within n) (came p formed c ok t e h u on)

-- the test of a monitor at node g leads to node s, which raises the flag. A node w that stands below s and is to come
-- before g cannot be: each thread inside reads the flag first
pub never_before : (p : Program) (q : Tables) → IsValid p q → (g s w : ℕ) → Instant p g s → priority q w < priority q s → ConcurrentNodes p w g →
    Precedes (accesses p w) (accesses p g) → ⊥
never_before p q valid g s w leads low both first =
    let falls : priority q g < priority q w = valid.protocol (place.Pair w g) (record { concurrent = both; precedes = first }) in
    let goes : priority q s ≤ priority q g = (flow p q valid).falls g s leads in
    absurd (omega (arith, falls, goes, low))
