-- While a thread or one below it goes, nobody above it steps; when it has ended, the join above it is no higher than where it ended.
use Rattle.std.proofs.Common.{◌≡◌, ◌≢◌, ℕ, zero, suc, ◌≤◌, ◌⊎◌, inl, inr, ⊎_elim, Option, Some, None, List, [], ◌∷◌, Contains, refl, sym, ap, subst, ◌∙◌}
use Rattle.std.proofs.Common.{arith}
use Rattle.std.proofs.lemmas.Option.{same_Some}
use Rattle.sc_values.specs.Runs.{replay}
use Rattle.sc_graph.specs.declared.control.Control.{Control}
use Rattle.sc_graph.specs.declared.control.Status.{Status}
use Rattle.sc_graph.specs.declared.control.Status.TheVariants as status
use Rattle.sc_graph.specs.declared.tables.Tables.{Tables}
use Rattle.sc_graph.specs.Program.{Program, parent_of}
use Rattle.sc_graph.specs.Threads.{IsFork, Descends, Below}
use Rattle.sc_graph.specs.Control.{status_of, joined_at}
use Rattle.sc_graph.specs.Steps.{Effect, after, effect}
use Rattle.sc_graph.specs.Steps as nodes
use Rattle.sc_graph.specs.Machine.{machine}
use Rattle.sc_graph.specs.Protocol.{by_exit}
use Rattle.sc_graph.specs.Tables.{priority, priority_of}
use Rattle.sc_graph.specs.Tick.{IsConfiguration, IsPresent}
use Rattle.sc_graph.specs.Valid.{IsFormed, IsValid}
use Rattle.tick_laws.specs.WithinTick.{NoHigher, as_before, no_higher}
use Rattle.tick_laws.proofs.Lists.{and_then_some, same_or_not, contained}
use Rattle.tick_laws.proofs.Formed.{ChildOf, JoinOf, join_of, joined_is, fork_of, child_parent, valid_formed}
use Rattle.tick_laws.proofs.RulesGive.{flow}
use Rattle.tick_laws.proofs.Views.{Enabled, stands, completes, GoesTo, Does, simple, forks, joins, does, enabled_view, enabled_from}
use Rattle.tick_laws.proofs.Views.{enabled_from_effect}
use Rattle.tick_laws.proofs.Sound.{fork_of_join, node_owned}
use Rattle.tick_laws.proofs.StepMoves.{StepMoves, step_moves, simple_moves, forks_moves, joins_moves}
use Rattle.tick_laws.proofs.ConfigurationKept.{after_self, after_other, configuration_kept}
use Rattle.tick_laws.proofs.RunsOn.{SteppedBy, stepped_by}
use Rattle.tick_laws.proofs.Kin.{not_above, below_parent, below_self}
use Rattle.tick_laws.proofs.Tree.{below_above, below_trans}
use Rattle.tick_laws.proofs.Falling.{never_higher}
use Rattle.preemption_laws.specs.LowLines.{IsGoing, LowBelow, LowLine, LinesStayLow}

-- thread b goes, or has ended and its parent waits at a low join, or has no parent
data Blocks (p : Program) (q : Tables) (top : ℕ) (c : Control) (b : ℕ) : Type 0 where
  going : IsGoing (status_of c b) → Blocks p q top c b
  ended : (w j : ℕ) → status_of c b ≡ status.Ended → parent_of p b ≡ Some w → status_of c w ≡ status.Waiting j → priority q j ≤ top → Blocks p q top c b
  alone : parent_of p b ≡ None → Blocks p q top c b

record StaysLow (p : Program) (q : Tables) (top a : ℕ) (c : Control) : Type 0 where
  over : ℕ
  below : Below p a over
  low : LowBelow p q top over c
  blocks : Blocks p q top c over

pub going_present : (s : Status) → IsGoing s → IsPresent s
going_present (status.At n) h = tt
going_present (status.Waiting j) h = tt
going_present (status.Paused d) h = tt
going_present status.Absent h = h
going_present status.Ended h = tt

going_or_ended : (s : Status) → IsPresent s → IsGoing s ⊎ (s ≡ status.Ended)
going_or_ended (status.At n) h = inl tt
going_or_ended (status.Waiting j) h = inl tt
going_or_ended (status.Paused d) h = inl tt
going_or_ended status.Ended h = inr refl
going_or_ended status.Absent h = absurd h

pub never_ended : (s : Status) → IsGoing s → s ≡ status.Ended → ⊥
never_ended s h e = subst IsGoing e h

ended_present : (s : Status) → s ≡ status.Ended → IsPresent s
ended_present s h = subst IsPresent (sym h) tt

waits_not_ended : (s : Status) (j : ℕ) → s ≡ status.Waiting j → s ≡ status.Ended → ⊥
waits_not_ended s j h k = absurd cc

at_or_waits : (s : Status) (n j : ℕ) → s ≡ status.At n → s ≡ status.Waiting j → ⊥
at_or_waits s n j h k = absurd cc

one_join : (s : Status) (i j : ℕ) → s ≡ status.Waiting i → s ≡ status.Waiting j → i ≡ j
one_join s i j h k = cc

-- of two threads above a third, one is above the other
pub of_two_above : (p : Program) (n m t a b : ℕ) → Descends p n t a → Descends p m t b → Below p a b ⊎ Below p b a
of_two_above p zero m t a b d e = inl (record { generations = m; descends = subst (λ v. Descends p m v b) d e })
of_two_above p (suc n) zero t a b d e = inr (record { generations = suc n; descends = subst (λ v. Descends p (suc n) v a) e d })
of_two_above p (suc n) (suc m) t a b d e =
    of_two_above p n m d.0 a b d.2 (subst (λ v. Descends p m v b) (same_Some e.0 d.0 (sym e.1 ∙ d.1)) e.2)

module _ (p : Program) (q : Tables) (valid : IsValid p q) where
  formed : IsFormed p
  formed = valid_formed p q valid

  module _ (c : Control) (ok : IsConfiguration p c) where
    -- who waits for a thread that has not ended is not enabled
    pub waits_on : (b w : ℕ) → parent_of p b ≡ Some w → IsPresent (status_of c b) → status_of c b ≢ status.Ended → Enabled p c w → ⊥
    waits_on b w parent here not_ended on = by on
      where
        f : ChildOf p b w
        f = fork_of p formed b w parent

        waits : status_of c w ≡ status.Waiting f.join
        waits = (ok.present f.fork w f.children f.join b f.is f.child).0 here

        by : Enabled p c w → ⊥
        by (stands n at) = at_or_waits (status_of c w) n f.join at waits
        by (completes h) =
            let same : h.join ≡ f.join = one_join (status_of c w) h.join f.join h.at waits in
            let joined : joined_at p h.join ≡ Some f.children = ap (joined_at p) same ∙ joined_is p formed f.fork w f.children f.join f.is in
            let those : h.children ≡ f.children = same_Some h.children f.children (sym h.joined ∙ joined) in
            not_ended (h.ended b (subst (λ ks. Contains ks b) (sym those) f.child))

    module _ (t : ℕ) (e : Effect) (h : effect p c t ≡ Some e) where
      m : StepMoves p c t e
      m = step_moves p formed c ok t e (does p c t e h)

      abbrev next : Control
      next = after e c

      -- ---- a step of no parent of b

      module _ (top b : ℕ) (low : LowBelow p q top b c) (other : parent_of p b ≢ Some t) where
        -- who is enabled below b was so before, where it stood, or is there by a step of one below b
        abbrev Before : ℕ → Type 0
        Before u = (Enabled p c u × (status_of next u ≡ status_of c u)) ⊎ Below p t b

        by_child : (u : ℕ) → Below p u b → parent_of p u ≡ Some t → Before u
        by_child u under parent = by_depth under.generations under.descends
          where
            by_depth : (n : ℕ) → Descends p n u b → Before u
            by_depth zero d = absurd (other (ap (parent_of p) (sym d) ∙ parent))
            by_depth (suc n) d =
                let same : d.0 ≡ t = same_Some d.0 t (sym d.1 ∙ parent) in inr (subst (λ z. Below p z b) same (record { generations = n; descends = d.2 }))

        by_others : (u : ℕ) → Below p u b → u ≢ t → ¬ Contains m.children u → Enabled p next u → Before u
        by_others u under ne out on = by on
          where
            same : status_of next u ≡ status_of c u
            same = after_other p formed c t e m u ne out

            by : Enabled p next u → Before u
            by (stands n at) = inl (stands n (sym same ∙ at), same)
            by (completes w) = ⊎_elim last before (contained w.children t)
              where
                of : JoinOf p w.join w.children
                of = join_of p w.join w.children w.joined

                fork : IsFork p of.fork u w.children w.join
                fork = fork_of_join p formed c ok u w.join w.children (sym same ∙ w.at) of

                last : Contains w.children t → Before u
                last child = inr (below_parent p t u b (child_parent p formed of.fork u w.children w.join t fork child) under)

                unmoved : ¬ Contains w.children t → (k : ℕ) → Contains w.children k → status_of next k ≡ status_of c k
                unmoved none k child =
                    after_other p formed c t e m k (λ is. none (subst (Contains w.children) is child))
                    (λ moved. ne (same_Some u t (sym (child_parent p formed of.fork u w.children w.join k fork child) ∙ m.parent k moved)))

                before : ¬ Contains w.children t → Before u
                before none =
                    inl (
                      completes (record {
                        join = w.join;
                        children = w.children;
                        at = sym same ∙ w.at;
                        joined = w.joined;
                        ended = λ k child. sym (unmoved none k child) ∙ w.ended k child;
                      }),
                      same,
                    )

        before : (u : ℕ) → Below p u b → Enabled p next u → Before u
        before u under on =
            ⊎_elim (λ same. inr (subst (λ z. Below p z b) same under))
            (λ ne. ⊎_elim (λ child. by_child u under (m.parent u child)) (λ out. by_others u under ne out on) (contained m.children u))
            (same_or_not u t)

        below_still : LowBelow p q top b next
        below_still u under on = ⊎_elim stays moves (before u under (enabled_view p next u on))
          where
            stays : Enabled p c u × (status_of next u ≡ status_of c u) → priority_of q (status_of next u) ≤ top
            stays s = subst (λ z. priority_of q z ≤ top) (sym s.1) (low u under (enabled_from p c u s.0))

            moves : Below p t b → priority_of q (status_of next u) ≤ top
            moves there = by (never_higher p q valid c ok t e h u (enabled_view p next u on))
              where
                by : NoHigher p q c next t u → priority_of q (status_of next u) ≤ top
                by (as_before was same) = subst (λ z. priority_of q z ≤ top) (sym same) (low u under was)
                by (no_higher le) = let less = low t there (enabled_from p c t (enabled_from_effect p c t e h)) in omega (arith, le, less)

        -- b is where it was
        still : b ≢ t → status_of next b ≡ status_of c b
        still ne = after_other p formed c t e m b ne (λ child. other (m.parent b child))

        waits_still : (w j : ℕ) → parent_of p b ≡ Some w → status_of c w ≡ status.Waiting j → status_of next w ≡ status.Waiting j
        waits_still w j parent waits =
            after_other p formed c t e m w (λ same. other (parent ∙ ap Some same)) (λ child. m.was_idle w j child waits) ∙ waits

        blocks_still : b ≢ t → Blocks p q top c b → Blocks p q top next b
        blocks_still ne (going goes) = going (subst IsGoing (sym (still ne)) goes)
        blocks_still ne (ended w j is parent waits le) = ended w j (still ne ∙ is) parent (waits_still w j parent waits) le
        blocks_still ne (alone none) = alone none

      -- ---- a step of b itself

      -- it ends at a node of its own, which leads to the join above it
      ends : (top w : ℕ) → priority_of q (status_of c t) ≤ top → parent_of p t ≡ Some w → status_of next t ≡ status.Ended → Blocks p q top next t
      ends top w low parent is =
          ended w f.join is parent ((ok_next.present f.fork w f.children f.join t f.is f.child).0 (ended_present (status_of next t) is)) (by (does p c t e h))
        where
          f : ChildOf p t w
          f = fork_of p formed t w parent

          ok_next : IsConfiguration p next
          ok_next = configuration_kept p formed c t e ok h

          to : (n : StepMoves p c t e) → n.to ≡ status.Ended
          to n = sym (after_self p formed c t e n) ∙ is

          by : Does p c t e → priority q f.join ≤ top
          by (simple d) = by_node (subst (GoesTo p t d.taken) (to (simple_moves p formed c ok t e d)) d.goes)
            where
              by_node : GoesTo p t d.taken status.Ended → priority q f.join ≤ top
              by_node exits =
                  let falls : priority q f.join ≤ priority q d.node =
                  (flow p q valid).falls d.node f.join
                  (by_exit f.fork w f.children t f.is f.child (node_owned p formed c ok t d.node d.at) (d.found ∙ ap Some exits)) in
                  let here : priority q d.node ≤ top = subst (λ s. priority_of q s ≤ top) d.at low in omega (arith, falls, here)
          by (forks d) = let wrong : status.Waiting d.join ≡ status.Ended = to (forks_moves p formed c ok t e d) in absurd cc
          by (joins d) = let wrong : status.At d.onward ≡ status.Ended = to (joins_moves p formed c ok t e d) in absurd cc

      blocks_itself : (top : ℕ) → LowBelow p q top t c → Blocks p q top next t
      blocks_itself top low = by (parent_of p t) refl
        where
          here : priority_of q (status_of c t) ≤ top
          here = low t (below_self p t) (enabled_from p c t (enabled_from_effect p c t e h))

          by : (o : Option ℕ) → parent_of p t ≡ o → Blocks p q top next t
          by None none = alone none
          by (Some w) parent = ⊎_elim going (ends top w here parent)
              (going_or_ended (status_of next t) (subst IsPresent (sym (after_self p formed c t e m)) m.is_present))

      -- ---- a step of b's parent: b has ended, and the parent goes on

      module _ (top b : ℕ) (parent : parent_of p b ≡ Some t) (j : ℕ) (waits : status_of c t ≡ status.Waiting j) (le : priority q j ≤ top) where
        low_at_join : priority_of q (status_of c t) ≤ top
        low_at_join = subst (λ s. priority_of q s ≤ top) (sym waits) le

        parent_low : LowBelow p q top t next
        parent_low u under on = by (never_higher p q valid c ok t e h u (enabled_view p next u on))
          where
            by : NoHigher p q c next t u → priority_of q (status_of next u) ≤ top
            by (as_before was same) =
                ⊎_elim (λ is. subst (λ z. priority_of q z ≤ top) (sym (same ∙ ap (status_of c) is)) low_at_join)
                (λ ne. absurd (not_above p formed c ok u t (enabled_view p c u was) (enabled_from_effect p c t e h) ne under)) (same_or_not u t)
            by (no_higher less) = omega (arith, less, low_at_join)

        parent_goes : IsGoing (status_of next t)
        parent_goes = by (does p c t e h)
          where
            by : Does p c t e → IsGoing (status_of next t)
            by (simple d) = absurd (at_or_waits (status_of c t) d.node j d.at waits)
            by (forks d) = absurd (at_or_waits (status_of c t) d.node j d.at waits)
            by (joins d) = subst IsGoing (sym (after_self p formed c t e (joins_moves p formed c ok t e d))) tt

      -- ---- one step

      module _ (top a : ℕ) (x : StaysLow p q top a c) where
        by_parent : parent_of p x.over ≡ Some t → Blocks p q top c x.over → StaysLow p q top a next
        by_parent parent (going goes) =
            absurd (waits_on x.over t parent (going_present (status_of c x.over) goes) (never_ended (status_of c x.over) goes) (enabled_from_effect p c t e h))
        by_parent parent (alone none) = let wrong : None ≡ Some t = sym none ∙ parent in absurd cc
        by_parent parent (ended w j is of waits le) =
            let same : w ≡ t = same_Some w t (sym of ∙ parent) in
            let waits_here : status_of c t ≡ status.Waiting j = ap (status_of c) (sym same) ∙ waits in
            record {
              over = t;
              below = below_above p a x.over t x.below parent;
              low = parent_low top x.over parent j waits_here le;
              blocks = going (parent_goes top x.over parent j waits_here le);
            }

        by_other : parent_of p x.over ≢ Some t → StaysLow p q top a next
        by_other other =
            record {
              over = x.over;
              below = x.below;
              low = below_still top x.over x.low other;
              blocks = ⊎_elim (λ same. subst (Blocks p q top next) (sym same) (blocks_itself top (subst (λ z. LowBelow p q top z c) same x.low)))
                  (λ ne. blocks_still top x.over x.low other ne x.blocks) (same_or_not x.over t);
            }

        step_low : StaysLow p q top a next
        step_low = by (parent_of p x.over) refl
          where
            by : (o : Option ℕ) → parent_of p x.over ≡ o → StaysLow p q top a next
            by None none = by_other (λ some. absurd (no_parent (sym none ∙ some)))
              where
                no_parent : None ≡ Some t → ⊥
                no_parent h = absurd cc
            by (Some w) parent = ⊎_elim (λ same. by_parent (parent ∙ ap Some same) x.blocks)
                (λ ne. by_other (λ some. ne (same_Some w t (sym parent ∙ some)))) (same_or_not w t)

  -- ---- a run

  run_low : (run : List ℕ) (c d : Control) → IsConfiguration p c → replay (machine p) run c ≡ Some d → (a top : ℕ) → StaysLow p q top a c →
      IsConfiguration p d × StaysLow p q top a d
  run_low [] c d ok h a top x = (subst (IsConfiguration p) (same_Some c d h) ok, subst (StaysLow p q top a) (same_Some c d h) x)
  run_low (t ∷ run) c d ok h a top x =
      let mid = and_then_some (replay (machine p) run) (nodes.step p t c) d h in
      let s : SteppedBy p t c mid.0 = stepped_by p t c mid.0 mid.1 in
      run_low run mid.0 d (subst (IsConfiguration p) s.leads (configuration_kept p formed c t s.e ok s.is)) mid.2 a top
      (subst (StaysLow p q top a) s.leads (step_low c ok t s.e s.is top a x))

  -- ---- who is above a thread that blocks

  module _ (c : Control) (ok : IsConfiguration p c) where
    pub above_present : (b u n : ℕ) → Descends p (suc n) b u → IsPresent (status_of c b) → status_of c b ≢ status.Ended → Enabled p c u → ⊥
    above_present b u zero d here not_ended on = waits_on c ok b u (d.1 ∙ ap Some d.2) here not_ended on
    above_present b u (suc n) d here not_ended on =
        let f : ChildOf p b d.0 = fork_of p formed b d.0 d.1 in
        let waits : status_of c d.0 ≡ status.Waiting f.join = (ok.present f.fork d.0 f.children f.join b f.is f.child).0 here in
        above_present d.0 u n d.2 (subst IsPresent (sym waits) tt) (waits_not_ended (status_of c d.0) f.join waits) on

  module _ (c : Control) (ok : IsConfiguration p c) (top a : ℕ) (x : StaysLow p q top a c) where
    above_ended : (w j u n : ℕ) → Descends p n w u → status_of c w ≡ status.Waiting j → priority q j ≤ top → Enabled p c u → priority_of q (status_of c u) ≤ top
    above_ended w j u zero d waits le on = subst (λ v. priority_of q (status_of c v) ≤ top) d (subst (λ s. priority_of q s ≤ top) (sym waits) le)
    above_ended w j u (suc n) d waits le on =
        absurd (above_present c ok w u n d (subst IsPresent (sym waits) tt) (waits_not_ended (status_of c w) j waits) on)

    -- above b's parent nobody is enabled as long as that waits
    above_by : (u n : ℕ) → Descends p n x.over u → Enabled p c u → Blocks p q top c x.over → priority_of q (status_of c u) ≤ top
    above_by u zero d on blocks = x.low u (record { generations = zero; descends = sym d }) (enabled_from p c u on)
    above_by u (suc n) d on (alone none) = let wrong : None ≡ Some d.0 = sym none ∙ d.1 in absurd cc
    above_by u (suc n) d on (going goes) =
        absurd (above_present c ok x.over u n d (going_present (status_of c x.over) goes) (never_ended (status_of c x.over) goes) on)
    above_by u (suc n) d on (ended w j is parent waits le) =
        above_ended w j u n (subst (λ v. Descends p n v u) (same_Some d.0 w (sym d.1 ∙ parent)) d.2) waits le on

    -- who is on the line of a is below b or above it
    on_line_low : LowLine p q top a c
    on_line_low u (inl under) on = x.low u (below_trans p u a x.over under x.below) on
    on_line_low u (inr above) on =
        ⊎_elim (λ low. above_by u low.generations low.descends (enabled_view p c u on) x.blocks)
        (λ under. x.low u under on)
        (of_two_above p x.below.generations above.generations a x.over u x.below.descends above.descends)

pub lines_stay_low : LinesStayLow
lines_stay_low p q valid run c d ok leads a top goes low =
    let those : IsConfiguration p d × StaysLow p q top a d =
    run_low p q valid run c d ok leads a top (record { over = a; below = below_self p a; low = low; blocks = going goes }) in
    on_line_low p q valid d those.0 top a those.1
