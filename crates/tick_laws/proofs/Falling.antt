-- The greatest priority of a enabled thread never rises: who is enabled after a step was enabled before it, or
-- came there along an instantaneous edge from the step's node.
use Rattle.std.proofs.Common.{◌≡◌, ◌≢◌, ℕ, ◌≤◌, Some, [], ◌∷◌, Contains, refl, ap, subst, sym, ◌∙◌, ⊎_elim, arith}
use Rattle.std.proofs.lemmas.Option.{same_Some}
use Rattle.sc_graph.specs.declared.program.Step.TheVariants as step
use Rattle.sc_graph.specs.declared.tables.Tables.{Tables}
use Rattle.sc_graph.specs.declared.control.Control.{Control}
use Rattle.sc_graph.specs.declared.control.Status.{Status}
use Rattle.sc_graph.specs.declared.control.Status.TheVariants as status
use Rattle.sc_graph.specs.Program.{Program, entry_of, owner_of, step_at}
use Rattle.sc_graph.specs.Threads.{IsFork}
use Rattle.sc_graph.specs.Control.{status_of, joined_at}
use Rattle.sc_graph.specs.Steps.{Effect, after, effect, enters}
use Rattle.sc_graph.specs.Tick.{IsConfiguration}
use Rattle.sc_graph.specs.Protocol.{successors, Instant, by_successor, by_entry, by_exit}
use Rattle.sc_graph.specs.Tables.{priority, priority_of}
use Rattle.sc_graph.specs.Valid.{IsFormed, IsValid}
use Rattle.tick_laws.specs.WithinTick.{Tops, NoHigher, as_before, no_higher}
use Rattle.tick_laws.proofs.Lists.{same_or_not, contained, contains_none, contains_head}
use Rattle.tick_laws.proofs.Formed.{JoinOf, join_of, joined_is, some_child, valid_formed}
use Rattle.tick_laws.proofs.RulesGive.{flow}
use Rattle.tick_laws.proofs.Views.{Completes, Enabled, stands, completes, Does, simple, forks, joins, Simple, Forks, Joins, Enters, GoesTo, does, enabled_view}
use Rattle.tick_laws.proofs.Views.{enabled_from, enabled_from_effect}
use Rattle.tick_laws.proofs.Sound.{node_owned, waits_owned, forks_is, fork_of_join}
use Rattle.tick_laws.proofs.StepMoves.{StepMoves, simple_moves, forks_moves, joins_moves}
use Rattle.tick_laws.proofs.ConfigurationKept.{after_self, after_child, after_other}

-- a thread with this status stands at a node, or waits at a join, of this number
abbrev pub StandsAt : Status → ℕ → Type 0
StandsAt (status.At n) m = n ≡ m
StandsAt (status.Waiting j) m = j ≡ m
StandsAt other m = ⊥

pub stands_priority : (q : Tables) (s : Status) (m : ℕ) → StandsAt s m → priority_of q s ≡ priority q m
stands_priority q status.Absent m h = absurd h
stands_priority q (status.At n) m h = ap (priority q) h
stands_priority q (status.Waiting j) m h = ap (priority q) h
stands_priority q (status.Paused d) m h = absurd h
stands_priority q status.Ended m h = absurd h

stands_by : (s : Status) (n : ℕ) → s ≡ status.At n → StandsAt s n
stands_by s n h = subst (λ s. StandsAt s n) (sym h) refl

waits_by : (s : Status) (j : ℕ) → s ≡ status.Waiting j → StandsAt s j
waits_by s j h = subst (λ s. StandsAt s j) (sym h) refl

-- how thread u came to be enabled after a step of thread t
pub data Came (p : Program) (c d : Control) (t u : ℕ) : Type 0 where
  stayed : Enabled p c u → status_of d u ≡ status_of c u → Came p c d t u
  arrived : (m n : ℕ) → StandsAt (status_of c t) m → StandsAt (status_of d u) n → Instant p m n → Came p c d t u

-- where the step of thread t leads, in one form for all steps
record Onward (p : Program) (c : Control) (t : ℕ) (e : Effect) (m : StepMoves p c t e) : Type 0 where
  from : ℕ
  at : StandsAt (status_of c t) from
  owned : owner_of p from ≡ Some t
  goes : (n : ℕ) → m.to ≡ status.At n → Instant p from n
  enters_at : (k n : ℕ) → Contains m.children k → (m.f k).1 ≡ status.At n → Instant p from n
  lives : (k : ℕ) → Contains m.children k → (m.f k).1 ≢ status.Ended
  exits : m.to ≡ status.Ended → step_at p from ≡ Some step.Exit
  waits : (j : ℕ) → m.to ≡ status.Waiting j → IsFork p from t m.children j

module _ (p : Program) (formed : IsFormed p) (c : Control) (ok : IsConfiguration p c) (t : ℕ) (e : Effect) where
  onward_simple : (d : Simple p c t e) → Onward p c t e (simple_moves p formed c ok t e d)
  onward_simple d =
      record {
        from = d.node;
        at = stands_by (status_of c t) d.node d.at;
        owned = node_owned p formed c ok t d.node d.at;
        goes = λ n h. by_successor d.taken d.found (goes_on d.to n h d.goes);
        enters_at = λ k n h. absurd (contains_none k h);
        lives = λ k h. absurd (contains_none k h);
        exits = λ h. d.found ∙ ap Some (goes_out d.to h d.goes);
        waits = λ j h. absurd (never_waits d.to j h d.goes);
      }
    where
      goes_on : (to : Status) (n : ℕ) → to ≡ status.At n → GoesTo p t d.taken to → Contains (successors d.taken) n
      goes_on to n h goes = let there : GoesTo p t d.taken (status.At n) = subst (GoesTo p t d.taken) h goes in there.0

      goes_out : (to : Status) → to ≡ status.Ended → GoesTo p t d.taken to → d.taken ≡ step.Exit
      goes_out to h goes = subst (GoesTo p t d.taken) h goes

      never_waits : (to : Status) (j : ℕ) → to ≡ status.Waiting j → GoesTo p t d.taken to → ⊥
      never_waits to j h goes = subst (GoesTo p t d.taken) h goes

  onward_forks : (d : Forks p c t e) → Onward p c t e (forks_moves p formed c ok t e d)
  onward_forks d =
      record {
        from = d.node;
        at = stands_by (status_of c t) d.node d.at;
        owned = fork.owned;
        goes = λ n h. absurd (cc);
        enters_at = λ k n h entered. by_entry t d.children d.join k fork h ((d.entered k h).is ∙ ap Some (same_entry k n (d.entered k h) entered));
        lives = λ k h ended. not_ended k (d.entered k h) ended;
        exits = λ h. absurd (cc);
        waits = λ j h. subst (IsFork p d.node t d.children) (same_join j h) fork;
      }
    where
      fork : IsFork p d.node t d.children d.join
      fork = forks_is p formed c ok t e d

      same_entry : (k n : ℕ) (i : Enters p k) → (enters k (entry_of p k)).1 ≡ status.At n → i.entry ≡ n
      same_entry k n i h = let there : status.At i.entry ≡ status.At n = sym (ap (λ o. (enters k o).1) i.is) ∙ h in cc

      not_ended : (k : ℕ) → Enters p k → (enters k (entry_of p k)).1 ≡ status.Ended → ⊥
      not_ended k i h = let there : status.At i.entry ≡ status.Ended = sym (ap (λ o. (enters k o).1) i.is) ∙ h in cc

      same_join : (j : ℕ) → status.Waiting d.join ≡ status.Waiting j → d.join ≡ j
      same_join j h = cc

  onward_joins : (d : Joins p c t e) → Onward p c t e (joins_moves p formed c ok t e d)
  onward_joins d =
      record {
        from = d.join;
        at = waits_by (status_of c t) d.join d.at;
        owned = waits_owned p formed c ok t d.join d.at;
        goes = λ n h. by_successor (step.Join d.onward) d.found (subst (Contains (d.onward ∷ [])) (same_node n h) (contains_head d.onward []));
        enters_at = λ k n h entered. absurd (cc);
        lives = λ k h ended. cc;
        exits = λ h. absurd (cc);
        waits = λ j h. absurd (cc);
      }
    where
      same_node : (n : ℕ) → status.At d.onward ≡ status.At n → d.onward ≡ n
      same_node n h = cc

  module _ (m : StepMoves p c t e) (o : Onward p c t e m) where
    own_to : (u : ℕ) (s : Status) → u ≡ t → status_of (after e c) u ≡ s → m.to ≡ s
    own_to u s same h = sym (after_self p formed c t e m) ∙ (ap (status_of (after e c)) (sym same) ∙ h)

    came_standing : (u n : ℕ) → status_of (after e c) u ≡ status.At n → Came p c (after e c) t u
    came_standing u n at = ⊎_elim own (λ ne. ⊎_elim child (other ne) (contained m.children u)) (same_or_not u t)
      where
        there : StandsAt (status_of (after e c) u) n
        there = stands_by (status_of (after e c) u) n at

        own : u ≡ t → Came p c (after e c) t u
        own same = arrived o.from n o.at there (o.goes n (own_to u (status.At n) same at))

        child : Contains m.children u → Came p c (after e c) t u
        child h = arrived o.from n o.at there (o.enters_at u n h (sym (after_child p formed c t e m u h) ∙ at))

        other : u ≢ t → ¬ Contains m.children u → Came p c (after e c) t u
        other ne none = let same = after_other p formed c t e m u ne none in stayed (stands n (sym same ∙ at)) same

    came_completing : (u : ℕ) → Completes p (after e c) u → Came p c (after e c) t u
    came_completing u w = ⊎_elim own (λ ne. ⊎_elim child (other ne) (contained m.children u)) (same_or_not u t)
      where
        own : u ≡ t → Came p c (after e c) t u
        own same =
            let fork : IsFork p o.from t m.children w.join = o.waits w.join (own_to u (status.Waiting w.join) same w.at) in
            let k : (k : ℕ) × Contains m.children k = some_child p formed o.from t m.children w.join fork in
            absurd (o.lives k.0 k.1 (sym (after_child p formed c t e m k.0 k.1)
            ∙ w.ended k.0 (subst (λ ks. Contains ks k.0) (same_children (joined_is p formed o.from t m.children w.join fork)) k.1)))
          where
            same_children : joined_at p w.join ≡ Some m.children → m.children ≡ w.children
            same_children h = same_Some m.children w.children (sym h ∙ w.joined)

        child : Contains m.children u → Came p c (after e c) t u
        child h = absurd (m.is_idle u w.join h (sym (after_child p formed c t e m u h) ∙ w.at))

        other : u ≢ t → ¬ Contains m.children u → Came p c (after e c) t u
        other ne none = ⊎_elim last before (contained w.children t)
          where
            same : status_of (after e c) u ≡ status_of c u
            same = after_other p formed c t e m u ne none

            last : Contains w.children t → Came p c (after e c) t u
            last h =
                let of : JoinOf p w.join w.children = join_of p w.join w.children w.joined in
                let fork : IsFork p of.fork u w.children w.join = fork_of_join p formed c ok u w.join w.children (sym same ∙ w.at) of in
                arrived o.from w.join o.at (waits_by (status_of (after e c) u) w.join w.at)
                (by_exit of.fork u w.children t fork h o.owned (o.exits (own_to t status.Ended refl (w.ended t h))))

            unmoved : ¬ Contains w.children t → (k : ℕ) → Contains w.children k → status_of (after e c) k ≡ status_of c k
            unmoved out k h =
                after_other p formed c t e m k (λ e. out (subst (Contains w.children) e h))
                (λ in_children. o.lives k in_children (sym (after_child p formed c t e m k in_children) ∙ w.ended k h))

            before : ¬ Contains w.children t → Came p c (after e c) t u
            before out = stayed (completes
                (record { join = w.join; children = w.children; at = sym same ∙ w.at; joined = w.joined; ended = λ k h. sym (unmoved out k h) ∙ w.ended k h }))
                same

  pub came : effect p c t ≡ Some e → (u : ℕ) → Enabled p (after e c) u → Came p c (after e c) t u
  came h u r = of (does p c t e h)
    where
      by : (m : StepMoves p c t e) → Onward p c t e m → Enabled p (after e c) u → Came p c (after e c) t u
      by m o (stands n at) = came_standing m o u n at
      by m o (completes w) = came_completing m o u w

      of : Does p c t e → Came p c (after e c) t u
      of (simple d) = by (simple_moves p formed c ok t e d) (onward_simple d) r
      of (forks d) = by (forks_moves p formed c ok t e d) (onward_forks d) r
      of (joins d) = by (joins_moves p formed c ok t e d) (onward_joins d) r

-- an enabled thread is where it was before, or came to a place no higher than the one that the step left
pub never_higher : (p : Program) (q : Tables) → IsValid p q → (c : Control) → IsConfiguration p c → (t : ℕ) (e : Effect) → effect p c t ≡ Some e → (u : ℕ)
    → Enabled p (after e c) u → NoHigher p q c (after e c) t u
never_higher p q valid c ok t e h u on = by (came p (valid_formed p q valid) c ok t e h u on)
  where
    by : Came p c (after e c) t u → NoHigher p q c (after e c) t u
    by (stayed before same) = as_before (enabled_from p c u before) same
    by (arrived m n at there edge) =
        no_higher (omega (arith, (flow p q valid).falls m n edge, stands_priority q (status_of c t) m at, stands_priority q (status_of (after e c) u) n there))

pub low_kept : (p : Program) (q : Tables) → IsValid p q → (top : ℕ) (c : Control) → IsConfiguration p c → (t : ℕ) (e : Effect) → effect p c t ≡ Some e
    → Tops p q top c → Tops p q top (after e c)
low_kept p q valid top c ok t e h low u on = by (never_higher p q valid c ok t e h u (enabled_view p (after e c) u on))
  where
    by : NoHigher p q c (after e c) t u → priority_of q (status_of (after e c) u) ≤ top
    by (as_before before same) = subst (λ s. priority_of q s ≤ top) (sym same) (low u before)
    by (no_higher le) = omega (arith, le, low t (enabled_from p c t (enabled_from_effect p c t e h)))
