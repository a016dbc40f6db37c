-- A tick starts within its budget. Threads are served in the order of their numbers: each has the credit
-- that its parent handed to it, and one that waits keeps its join's weight and hands its children their bounds.
use Rattle.std.proofs.Common.{◌≡◌, ◌≢◌, ℕ, zero, suc, ◌+◌, ◌≤◌, ◌<◌, ◌⊎◌, true, unwrap_or, Some, List, length, slice_get, Contains, refl, ap, subst, sym, ◌∙◌}
use Rattle.std.proofs.Common.{inl, inr, ⊎_elim, arith}
use Rattle.std.proofs.lemmas.Bool.{cases_eq, cases_lt}
use Rattle.std.proofs.lemmas.Option.{slice_get_past}
use Rattle.sc_graph.specs.declared.program.Thread.{Thread}
use Rattle.sc_graph.specs.declared.program.Step.TheVariants as step
use Rattle.sc_graph.specs.declared.tables.Tables.{Tables}
use Rattle.sc_graph.specs.declared.control.Control.{Control}
use Rattle.sc_graph.specs.declared.control.Status.{Status}
use Rattle.sc_graph.specs.declared.control.Status.TheVariants as status
use Rattle.sc_graph.specs.declared.place.Place.TheVariants as place
use Rattle.sc_graph.specs.Program.{Program, entry_of, parent_of, owner_of, step_at, is_join}
use Rattle.sc_graph.specs.Threads.{IsFork}
use Rattle.sc_graph.specs.Control.{status_of}
use Rattle.sc_graph.specs.Tick.{IsPlace, IsPresent, IsConfiguration, Rests, Inputs, AreAccepted, woken, start}
use Rattle.sc_graph.specs.Tables.{weight, bound}
use Rattle.sc_graph.specs.Structure.{JoinsAt, ExactlyOne, BelongsToOne}
use Rattle.sc_graph.specs.Costs.{child_bounds, entry_weight, BoundHolds}
use Rattle.sc_graph.specs.Valid.{IsFormed, IsValid}
use Rattle.tick_laws.specs.WithinTick.{total, Covers, Paid}
use Rattle.tick_laws.proofs.Lists.{map_some, slice_get_there}
use Rattle.tick_laws.proofs.Formed.{ChildOf, valid_formed, has_owner, join_step, depth_step, join_owned, depth_owned, fork_join_owned, child_parent}
use Rattle.tick_laws.proofs.Formed.{parent_below, fork_of, one_fork_joins, fork_children, owner_in_range}
use Rattle.tick_laws.proofs.Kin.{present_in_range, has_parent}
use Rattle.tick_laws.proofs.RulesGive.{bounds}
use Rattle.tick_laws.proofs.Ledger.{among, apart, replaced, handed, total_zero, replaced_same, replaced_other, handed_apart, Handed, handed_cases}
use Rattle.tick_laws.proofs.Ledger.{total-replaced_le, total-replaced, total-handed_le, child_bounds_total}
use Rattle.tick_laws.proofs.Starting.{wakes, enters, Starts, starts, start_config}

-- what a thread has when its turn to be served comes: the root the budget, another one its bound
abbrev due : Tables → ℕ → ℕ
due q zero = q.budget
due q (suc t) = bound q (suc t)

-- what the credit of a thread must be where it stands
abbrev Needs : Tables → ℕ → Status → Type 0
Needs q credit (status.At n) = weight q n ≤ credit
Needs q credit (status.Waiting j) = weight q j ≤ credit
Needs q credit other = Unit {0}

-- each thread at a node has enough for it when its turn comes
abbrev IsFresh : Tables → Control → Type 0
IsFresh q d = (t n : ℕ) → status_of d t ≡ status.At n → weight q n ≤ due q t

-- the first n threads are served
record Served (p : Program) (q : Tables) (d : Control) (n : ℕ) : Type 0 where
  pub credit : ℕ → ℕ
  pub done : (t : ℕ) → t < n → Needs q (credit t) (status_of d t)
  pub handed_on : (t : ℕ) → n ≤ t → IsPresent (status_of d t) → ((u : ℕ) → parent_of p t ≡ Some u → u < n) → due q t ≤ credit t
  pub within : total credit (length p.threads) ≤ q.budget

-- the fork at whose join a thread waits, and what its bound covers there
record WaitsFor (p : Program) (q : Tables) (t j : ℕ) : Type 0 where
  pub fork : ℕ
  pub children : List ℕ
  pub is : IsFork p fork t children j
  pub covered : weight q j + child_bounds q children ≤ due q t

below_suc : (t n : ℕ) → t < suc n → (t ≡ n) ⊎ (t < n)
below_suc t n lt = ⊎_elim inl (λ ne. inr (omega (arith, ne, lt))) (cases_eq t n)

module _ (p : Program) (q : Tables) (valid : IsValid p q) where
  formed : IsFormed p
  formed = valid_formed p q valid

  bound_holds : (t : ℕ) → t < length p.threads → BoundHolds p q t
  bound_holds t lt = let a : (x : Thread) × (slice_get p.threads t ≡ Some x) = slice_get_there p.threads t lt in (bounds p q valid).holds t a.0 a.1

  due_bound : (t n : ℕ) → n < t → due q t ≡ bound q t
  due_bound zero n lt = absurd (omega (arith, lt))
  due_bound (suc t) n lt = refl

  bound_due : (t : ℕ) → bound q t ≤ due q t
  bound_due zero = (bounds p q valid).budget.root
  bound_due (suc t) = omega arith

  fork_at_join : (t j : ℕ) → is_join p t j ≡ true → (n : ℕ) × (ks : List ℕ) × IsFork p n t ks j
  fork_at_join t j h =
      let s : (m : ℕ) × (step_at p j ≡ Some (step.Join m)) = join_step p t j h in
      let a = map_some (λ x. x.step) (slice_get p.nodes j) (step.Join s.0) s.1 in
      let one : ExactlyOne (JoinsAt p j) = subst (BelongsToOne p j) a.2 (formed.structure (place.Node j) a.0 a.1).belongs in
      let o : (u : ℕ) × (owner_of p one.one ≡ Some u) = has_owner p one.one (step.Fork one.is.children j) one.is.forks in
      let f : IsFork p one.one o.0 one.is.children j = record { owned = o.1; forks = one.is.forks } in (
        one.one,
        one.is.children,
        subst (λ u. IsFork p one.one u one.is.children j) (same_owner o.0 (fork_join_owned p formed one.one o.0 one.is.children j f))
            f,
      )
    where
      same_owner : (u : ℕ) → owner_of p j ≡ Some u → u ≡ t
      same_owner u e = let mine = join_owned p t j h in cc

  waits_for : (t j : ℕ) → is_join p t j ≡ true → WaitsFor p q t j
  waits_for t j h =
      let f : (n : ℕ) × (ks : List ℕ) × IsFork p n t ks j = fork_at_join t j h in
      let owned = join_owned p t j h in
      let holds : BoundHolds p q t = bound_holds t (owner_in_range p formed j t owned) in
      record { fork = f.0; children = f.1; is = f.2; covered = omega (arith, holds.joins f.0 j f.1 owned f.2.forks, bound_due t) }

  module _ (d : Control) (ok : IsConfiguration p d) (fresh : IsFresh q d) where
    -- a present child stands under a fork at whose join its parent waits
    under_fork : (t u : ℕ) → IsPresent (status_of d t) → parent_of p t ≡ Some u → (of : ChildOf p t u) × (status_of d u ≡ status.Waiting of.join)
    under_fork t u present parent =
        let of : ChildOf p t u = fork_of p formed t u parent in
        (of, (ok.present of.fork u of.children of.join t of.is of.child).0 present)

    -- where thread n does not wait, its turn changes nothing
    stays : (n : ℕ) (s : Served p q d n) → Needs q (s.credit n) (status_of d n) → ((j : ℕ) → status_of d n ≢ status.Waiting j) → Served p q d (suc n)
    stays n s needs idle =
        record {
          credit = s.credit;
          done = λ t lt. ⊎_elim (λ e. subst (λ u. Needs q (s.credit u) (status_of d u)) (sym e) needs) (s.done t) (below_suc t n lt);
          handed_on = λ t le present reached. s.handed_on t (omega (arith, le)) present
              (λ u parent. before t u present parent (below_suc u n (reached u parent)));
          within = s.within;
        }
      where
        before : (t u : ℕ) → IsPresent (status_of d t) → parent_of p t ≡ Some u → (u ≡ n) ⊎ (u < n) → u < n
        before t u present parent (inl e) =
            let under : (of : ChildOf p t u) × (status_of d u ≡ status.Waiting of.join) = under_fork t u present parent in
            absurd (idle under.0.join (ap (status_of d) (sym e) ∙ under.1))
        before t u present parent (inr lt) = lt

    -- where it waits, it keeps its join's weight and hands on the rest
    pays : (n j : ℕ) → n < length p.threads → (s : Served p q d n) → due q n ≤ s.credit n → status_of d n ≡ status.Waiting j → Served p q d (suc n)
    pays n j lt s own e =
        record {
          credit = credit;
          done = λ t below. done t (below_suc t n below);
          handed_on = λ t le present reached. handed_on t (omega (arith, le)) present reached (handed_cases (bound q) w.children s.credit t);
          within = within;
        }
      where
        w : WaitsFor p q n j
        w = waits_for n j (subst (IsPlace p n) e (ok.places n))

        handed_out : ℕ → ℕ
        handed_out = handed (bound q) w.children s.credit

        credit : ℕ → ℕ
        credit = replaced handed_out n (weight q j)

        no_child : (t : ℕ) → t ≤ n → ¬ Contains w.children t
        no_child t le child = absurd (omega (arith, le, parent_below p formed t n (child_parent p formed w.fork n w.children j t w.is child)))

        done : (t : ℕ) → (t ≡ n) ⊎ (t < n) → Needs q (credit t) (status_of d t)
        done t (inl same) = subst (Needs q (credit t)) (sym (ap (status_of d) same ∙ e)) (omega (arith, replaced_same handed_out n t (weight q j) same))
        done t (inr below) =
            let kept : credit t ≡ s.credit t = replaced_other handed_out n t (weight q j) (λ h. omega (arith, h, below))
            ∙ handed_apart (bound q) w.children s.credit t (no_child t (omega (arith, below))) in
            subst (λ c. Needs q c (status_of d t)) (sym kept) (s.done t below)

        handed_on : (t : ℕ) → n < t → IsPresent (status_of d t) → ((u : ℕ) → parent_of p t ≡ Some u → u < suc n) → Handed (bound q) w.children s.credit t
            → due q t ≤ credit t
        handed_on t above present reached (among child h) =
            omega (arith, due_bound t n above, h, replaced_other handed_out n t (weight q j) (λ h. omega (arith, h, above)))
        handed_on t above present reached (apart other h) =
            omega (
              arith,
              s.handed_on t (omega (arith, above)) present (λ u parent. before u parent (below_suc u n (reached u parent))),
              h,
              replaced_other handed_out n t (weight q j) (λ h. omega (arith, h, above)),
            )
          where
            before : (u : ℕ) → parent_of p t ≡ Some u → (u ≡ n) ⊎ (u < n) → u < n
            before u parent (inl same) =
                let under : (of : ChildOf p t n) × (status_of d n ≡ status.Waiting of.join) = under_fork t n present (parent ∙ ap Some same) in
                absurd (other (in_same under.0 (same_waiting under.0.join j (sym under.1 ∙ e))))
              where
                same_waiting : (i j : ℕ) → status.Waiting i ≡ status.Waiting j → i ≡ j
                same_waiting i j h = cc

                in_same : (of : ChildOf p t n) → of.join ≡ j → Contains w.children t
                in_same of h =
                    let f : IsFork p of.fork n of.children j = subst (IsFork p of.fork n of.children) h of.is in
                    let one : of.fork ≡ w.fork = one_fork_joins p formed of.fork w.fork n n of.children w.children j f w.is in
                    subst (λ ks. Contains ks t) (fork_children p w.fork n n of.children w.children j j (subst (λ m. IsFork p m n of.children j) one f) w.is)
                    of.child
            before u parent (inr below) = below

        within : total credit (length p.threads) ≤ q.budget
        within =
            omega (
              arith,
              total-replaced handed_out n (weight q j) (length p.threads) lt,
              total-handed_le (bound q) w.children s.credit (length p.threads),
              handed_apart (bound q) w.children s.credit n (no_child n (omega arith)),
              child_bounds_total q w.children,
              w.covered,
              own,
              s.within,
            )

    own_due : (n : ℕ) (s : Served p q d n) → IsPresent (status_of d n) → due q n ≤ s.credit n
    own_due n s present = s.handed_on n (omega arith) present (λ u parent. parent_below p formed n u parent)

    serve : (n : ℕ) → n < length p.threads → Served p q d n → Served p q d (suc n)
    serve n lt s = at (status_of d n) refl
      where
        at : (x : Status) → status_of d n ≡ x → Served p q d (suc n)
        at status.Absent e = stays n s (subst (Needs q (s.credit n)) (sym e) tt) (λ j h. cc)
        at (status.At m) e = stays n s (subst (Needs q (s.credit n)) (sym e) (omega (arith, fresh n m e, own_due n s (subst IsPresent (sym e) tt)))) (λ j h. cc)
        at (status.Waiting j) e = pays n j lt s (own_due n s (subst IsPresent (sym e) tt)) e
        at (status.Paused m) e = stays n s (subst (Needs q (s.credit n)) (sym e) tt) (λ j h. cc)
        at status.Ended e = stays n s (subst (Needs q (s.credit n)) (sym e) tt) (λ j h. cc)

    served : (n : ℕ) → n ≤ length p.threads → Served p q d n
    served zero le =
        record {
          credit = replaced (λ _. 0) 0 q.budget;
          done = λ t lt. absurd (omega (arith, lt));
          handed_on = λ t _ present reached. first t present reached;
          within = omega (arith, total-replaced_le (λ _. 0) 0 q.budget (length p.threads), total_zero (length p.threads));
        }
      where
        first : (t : ℕ) → IsPresent (status_of d t) → ((u : ℕ) → parent_of p t ≡ Some u → u < 0) → due q t ≤ replaced (λ _. 0) 0 q.budget t
        first zero present reached = omega arith
        first (suc t) present reached =
            let up : (u : ℕ) × (parent_of p (suc t) ≡ Some u) = has_parent p formed d ok (suc t) (present_in_range p formed d ok (suc t) present)
            (omega arith) in
            absurd (omega (arith, reached up.0 up.1))
    served (suc n) le = serve n le (served n (omega (arith, le)))

    covered : (t credit : ℕ) (x : Status) → Needs q credit x → Covers p q (λ _. true) t credit x
    covered t credit status.Absent h = tt
    covered t credit (status.At n) h = record { steps = h; ends = λ _. refl }
    covered t credit (status.Waiting j) h = λ n ks fork ends. record { steps = h; ends = λ _. refl }
    covered t credit (status.Paused m) h = tt
    covered t credit status.Ended h = refl

    paid : Paid p q q.budget d 0
    paid =
        let s : Served p q d (length p.threads) = served (length p.threads) (omega arith) in
        record {
          credit = s.credit;
          may = λ _. true;
          each = λ t. each s t (cases_lt t (length p.threads));
          within = omega (arith, s.within);
        }
      where
        each : (s : Served p q d (length p.threads)) (t : ℕ) → (t < length p.threads) ⊎ (length p.threads ≤ t)
            → Covers p q (λ _. true) t (s.credit t) (status_of d t)
        each s t (inl lt) = covered t (s.credit t) (status_of d t) (s.done t lt)
        each s t (inr le) = subst (Covers p q (λ _. true) t (s.credit t))
            (sym (ap (λ o. unwrap_or o status.Absent) (slice_get_past d.statuses t (omega (arith, le, ok.threads))))) tt

  fresh_start : (inputs : Inputs) (c : Control) → Rests p c → IsFresh q (start p inputs c)
  fresh_start inputs c rests t n e = at (starts p inputs c t)
    where
      at : Starts p c (start p inputs c) t → weight q n ≤ due q t
      at (wakes h) = was (status_of c t) (rests.configuration.places t) (rests.nobody_at t) (sym h ∙ e)
        where
          was : (x : Status) → IsPlace p t x → ((m : ℕ) → x ≢ status.At m) → woken x ≡ status.At n → weight q n ≤ due q t
          was status.Absent own nobody i = absurd (cc)
          was (status.At m) own nobody i = absurd (nobody m refl)
          was (status.Waiting j) own nobody i = absurd (cc)
          was (status.Paused m) own nobody i =
              let s : (k : ℕ) × (step_at p m ≡ Some (step.Depth k)) = depth_step p t m own in
              let owned = depth_owned p t m own in
              let same : m ≡ n = cc in
              subst (λ m. weight q m ≤ due q t) same (omega (arith, (bound_holds t (owner_in_range p formed m t owned)).depths m s.0 owned s.1, bound_due t))
          was status.Ended own nobody i = absurd (cc)
      at (enters m root entry absent h) =
          let same : status.At m ≡ status.At n = sym h ∙ e in
          enough t m root (ap (entry_weight q) entry) same
        where
          enough : (t m : ℕ) → t ≡ 0 → entry_weight q (entry_of p 0) ≡ weight q m → status.At m ≡ status.At n → weight q n ≤ due q t
          enough t m root w same =
              let here : m ≡ n = cc in
              omega (arith, ap (due q) root, ap (weight q) here, w, (bounds p q valid).budget.entry)

  -- a tick starts within its budget
  pub start_paid : (inputs : Inputs) (c : Control) → Rests p c → AreAccepted p inputs → Paid p q q.budget (start p inputs c) 0
  start_paid inputs c rests accepted = paid (start p inputs c) (start_config p formed inputs accepted c rests) (fresh_start inputs c rests)
