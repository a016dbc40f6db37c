-- Each step is paid for from the credit of its thread.
use Rattle.std.proofs.Common.{◌≡◌, ◌≢◌, ℕ, suc, ◌+◌, ◌≤◌, ◌<◌, Bool, true, Some, List, [], length, Contains, if◌then◌else◌, refl, ap, subst, subst₂, sym, ◌∙◌}
use Rattle.std.proofs.Common.{⊎_elim, arith}
use Rattle.sc_graph.specs.declared.program.Step.{Step}
use Rattle.sc_graph.specs.declared.program.Step.TheVariants as step
use Rattle.sc_graph.specs.declared.tables.Tables.{Tables}
use Rattle.sc_graph.specs.declared.control.Control.{Control}
use Rattle.sc_graph.specs.declared.control.Status.{Status}
use Rattle.sc_graph.specs.declared.control.Status.TheVariants as status
use Rattle.sc_graph.specs.Program.{Program, entry_of, parent_of, step_at}
use Rattle.sc_graph.specs.Threads.{IsFork}
use Rattle.sc_graph.specs.Control.{status_of}
use Rattle.sc_graph.specs.Steps.{Effect, after, effect, enters}
use Rattle.sc_graph.specs.Tick.{IsConfiguration}
use Rattle.sc_graph.specs.Tables.{weight}
use Rattle.sc_graph.specs.Costs.{entry_weight, entry_end_bit, entries_end}
use Rattle.sc_graph.specs.Valid.{IsFormed, IsValid}
use Rattle.tick_laws.specs.WithinTick.{AllEnd, Affords, Covers, Paid}
use Rattle.tick_laws.proofs.Lists.{same_or_not, contained, contains_none, contains_head, list_all_from}
use Rattle.tick_laws.proofs.Formed.{JoinOf, join_of, valid_formed, child_parent, parent_below, one_fork_joins, fork_children}
use Rattle.tick_laws.proofs.RulesGive.{weights, end_bits}
use Rattle.tick_laws.proofs.Views.{Does, simple, forks, joins, Simple, Forks, Joins, Enters, GoesTo, does}
use Rattle.tick_laws.proofs.Moves.{known}
use Rattle.tick_laws.proofs.Sound.{forks_is, fork_of_join}
use Rattle.tick_laws.proofs.StepMoves.{StepMoves, simple_moves, forks_moves, joins_moves}
use Rattle.tick_laws.proofs.ConfigurationKept.{after_self, after_child, after_other}
use Rattle.tick_laws.proofs.Ledger.{replaced, handed, replaced_same, replaced_other, handed_among, handed_apart, total-replaced, total-handed_le}
use Rattle.tick_laws.proofs.Ledger.{entry_weights_total}

-- what a thread keeps where its step alone leads
abbrev left : Tables → Status → ℕ
left q (status.At m) = weight q m
left q other = 0

-- the credit of a thread that doesn't move covers what it did
same_cover : (p : Program) (q : Tables) (before now : ℕ → Bool) (t credit : ℕ) (s : Status) → now t ≡ before t
    → ((n : ℕ) (ks : List ℕ) (j : ℕ) → IsFork p n t ks j → AllEnd now ks → AllEnd before ks) → Covers p q before t credit s → Covers p q now t credit s
same_cover p q before now t credit status.Absent same children h = tt
same_cover p q before now t credit (status.At n) same children h = record { steps = h.steps; ends = λ e. same ∙ h.ends e }
same_cover p q before now t credit (status.Waiting j) same children h = λ n ks fork ends. let a = h n ks fork (children n ks j fork ends) in
    record { steps = a.steps; ends = λ e. same ∙ a.ends e }
same_cover p q before now t credit (status.Paused d) same children h = tt
same_cover p q before now t credit status.Ended same children h = same ∙ h

module _ (p : Program) (q : Tables) (valid : IsValid p q) (c : Control) (ok : IsConfiguration p c) (t : ℕ) (e : Effect) (bound spent : ℕ)
    (paid : Paid p q bound c spent) where
  formed : IsFormed p
  formed = valid_formed p q valid

  -- a cover at the credit and the status that a thread has after the step
  covers_at : (may : ℕ → Bool) (k : ℕ) (credit : ℕ → ℕ) (x : ℕ) (s : Status) → credit k ≡ x → status_of (after e c) k ≡ s → Covers p q may k x s
      → Covers p q may k (credit k) (status_of (after e c) k)
  covers_at may k credit x s same_credit same_status h = subst₂ (Covers p q may k) (sym same_credit) (sym same_status) h

  standing_there : status_of c t ≢ status.Absent → t < length p.threads
  standing_there here = subst (λ n. t < n) ok.threads (known c.statuses t here)

  -- what a thread keeps covers where a step of its own alone leads
  goes_covered : (n : ℕ) (s : Step) (to : Status) → step_at p n ≡ Some s → GoesTo p t s to → Affords q (paid.may t) (paid.credit t) n
      → Covers p q paid.may t (left q to) to
  goes_covered n s status.Absent found goes had = absurd goes
  goes_covered n s (status.At m) found goes had = record { steps = omega arith; ends = λ h. had.ends ((end_bits p q valid).successor n m s found goes.0 h) }
  goes_covered n s (status.Waiting j) found goes had = absurd goes
  goes_covered n s (status.Paused m) found goes had = tt
  goes_covered n s status.Ended found goes had = had.ends ((end_bits p q valid).exit n (found ∙ ap Some goes))

  goes_less : (n : ℕ) (s : Step) (to : Status) → step_at p n ≡ Some s → GoesTo p t s to → 1 + left q to ≤ weight q n
  goes_less n s status.Absent found goes = absurd goes
  goes_less n s (status.At m) found goes = (weights p q valid).successor n m s found goes.0
  goes_less n s (status.Waiting j) found goes = absurd goes
  goes_less n s (status.Paused m) found goes = (weights p q valid).some n s found
  goes_less n s status.Ended found goes = (weights p q valid).some n s found

  pay_simple : Simple p c t e → Paid p q bound (after e c) (suc spent)
  pay_simple d =
      record {
        credit = credit;
        may = paid.may;
        each = λ k. ⊎_elim (own k) (other k) (same_or_not k t);
        within = omega (
          arith,
          total-replaced paid.credit t (left q d.to) (length p.threads) (standing_there here),
          goes_less d.node d.taken d.to d.found d.goes,
          had.steps,
          paid.within,
        );
      }
    where
      m : StepMoves p c t e
      m = simple_moves p formed c ok t e d

      here : status_of c t ≢ status.Absent
      here h = let at = d.at in absurd (cc)

      had : Affords q (paid.may t) (paid.credit t) d.node
      had = subst (Covers p q paid.may t (paid.credit t)) d.at (paid.each t)

      credit : ℕ → ℕ
      credit = replaced paid.credit t (left q d.to)

      own : (k : ℕ) → k ≡ t → Covers p q paid.may k (credit k) (status_of (after e c) k)
      own k same =
          subst (λ k. Covers p q paid.may k (credit k) (status_of (after e c) k)) (sym same)
          (covers_at paid.may t credit (left q d.to) d.to (replaced_same paid.credit t t (left q d.to) refl) (after_self p formed c t e m)
          (goes_covered d.node d.taken d.to d.found d.goes had))

      other : (k : ℕ) → k ≢ t → Covers p q paid.may k (credit k) (status_of (after e c) k)
      other k ne = covers_at paid.may k credit (paid.credit k) (status_of c k) (replaced_other paid.credit t k (left q d.to) ne)
          (after_other p formed c t e m k ne (contains_none k)) (paid.each k)

  pay_forks : Forks p c t e → Paid p q bound (after e c) (suc spent)
  pay_forks d =
      record {
        credit = credit;
        may = may;
        each = λ k. ⊎_elim (own k) (λ ne. ⊎_elim (child k ne) (other k ne) (contained d.children k)) (same_or_not k t);
        within =
            omega (
              arith,
              total-replaced out t stays (length p.threads) (standing_there here),
              total-handed_le entering d.children paid.credit (length p.threads),
              handed_apart entering d.children paid.credit t no_child,
              entry_weights_total p q d.children,
              (weights p q valid).fork d.node d.join d.children d.found,
              had.steps,
              paid.within,
            );
      }
    where
      m : StepMoves p c t e
      m = forks_moves p formed c ok t e d

      fork : IsFork p d.node t d.children d.join
      fork = forks_is p formed c ok t e d

      here : status_of c t ≢ status.Absent
      here h = let at = d.at in absurd (cc)

      had : Affords q (paid.may t) (paid.credit t) d.node
      had = subst (Covers p q paid.may t (paid.credit t)) d.at (paid.each t)

      no_child : ¬ Contains d.children t
      no_child h = absurd (omega (arith, parent_below p formed t t (child_parent p formed d.node t d.children d.join t fork h)))

      entering : ℕ → ℕ
      entering k = entry_weight q (entry_of p k)

      ending : ℕ → Bool
      ending k = entry_end_bit q (entry_of p k)

      may : ℕ → Bool
      may = handed ending d.children paid.may

      stays : ℕ
      stays = if entries_end p q d.children then weight q d.join else 0

      out : ℕ → ℕ
      out = handed entering d.children paid.credit

      credit : ℕ → ℕ
      credit = replaced out t stays

      joined : (n : ℕ) (ks : List ℕ) → IsFork p n t ks d.join → AllEnd may ks → Affords q (may t) stays d.join
      joined n ks f ends =
          let same : n ≡ d.node = one_fork_joins p formed n d.node t t ks d.children d.join f fork in
          let children : ks ≡ d.children = fork_children p d.node t t ks d.children d.join d.join (subst (λ n. IsFork p n t ks d.join) same f) fork in
          let all : entries_end p q d.children ≡ true = list_all_from ending d.children (λ k h. sym (handed_among ending d.children paid.may k h)
          ∙ ends k (subst (λ ks. Contains ks k) (sym children) h)) in
          record {
            steps = omega (arith, ap (λ b. if b then weight q d.join else 0) all);
            ends = λ h. handed_apart ending d.children paid.may t no_child ∙ had.ends ((end_bits p q valid).fork d.node d.join d.children d.found all h);
          }

      own : (k : ℕ) → k ≡ t → Covers p q may k (credit k) (status_of (after e c) k)
      own k same =
          subst (λ k. Covers p q may k (credit k) (status_of (after e c) k)) (sym same)
          (covers_at may t credit stays (status.Waiting d.join) (replaced_same out t t stays refl) (after_self p formed c t e m) joined)

      child : (k : ℕ) → k ≢ t → Contains d.children k → Covers p q may k (credit k) (status_of (after e c) k)
      child k ne h =
          let i : Enters p k = d.entered k h in
          covers_at may k credit (weight q i.entry) (status.At i.entry)
          (replaced_other out t k stays ne ∙ (handed_among entering d.children paid.credit k h ∙ ap (entry_weight q) i.is))
          (after_child p formed c t e m k h ∙ ap (λ o. (enters k o).1) i.is)
          (record { steps = omega arith; ends = λ b. handed_among ending d.children paid.may k h ∙ (ap (entry_end_bit q) i.is ∙ b) })

      other : (k : ℕ) → k ≢ t → ¬ Contains d.children k → Covers p q may k (credit k) (status_of (after e c) k)
      other k ne none =
          covers_at may k credit (paid.credit k) (status_of c k) (replaced_other out t k stays ne ∙ handed_apart entering d.children paid.credit k none)
          (after_other p formed c t e m k ne none)
          (same_cover p q paid.may may k (paid.credit k) (status_of c k) (handed_apart ending d.children paid.may k none) others (paid.each k))
        where
          same_parent : (l : ℕ) → parent_of p l ≡ Some k → parent_of p l ≡ Some t → k ≡ t
          same_parent l h i = cc

          others : (n : ℕ) (ks : List ℕ) (j : ℕ) → IsFork p n k ks j → AllEnd may ks → AllEnd paid.may ks
          others n ks j f ends l in_ks =
              let parent : parent_of p l ≡ Some k = child_parent p formed n k ks j l f in_ks in
              sym (handed_apart ending d.children paid.may l (λ h. ne (same_parent l parent (child_parent p formed d.node t d.children d.join l fork h))))
              ∙ ends l in_ks

  pay_joins : Joins p c t e → Paid p q bound (after e c) (suc spent)
  pay_joins d =
      record {
        credit = credit;
        may = paid.may;
        each = λ k. ⊎_elim (own k) (λ ne. ⊎_elim (child k ne) (other k ne) (contained d.children k)) (same_or_not k t);
        within = omega (
          arith,
          total-replaced paid.credit t (weight q d.onward) (length p.threads) (standing_there here),
          (weights p q valid).successor d.join d.onward (step.Join d.onward) d.found (contains_head d.onward []),
          had.steps,
          paid.within,
        );
      }
    where
      m : StepMoves p c t e
      m = joins_moves p formed c ok t e d

      of : JoinOf p d.join d.children
      of = join_of p d.join d.children d.joined

      here : status_of c t ≢ status.Absent
      here h = let at = d.at in absurd (cc)

      waited : (n : ℕ) (ks : List ℕ) → IsFork p n t ks d.join → AllEnd paid.may ks → Affords q (paid.may t) (paid.credit t) d.join
      waited = subst (Covers p q paid.may t (paid.credit t)) d.at (paid.each t)

      ended : AllEnd paid.may d.children
      ended k h = subst (Covers p q paid.may k (paid.credit k)) (d.ended k h) (paid.each k)

      had : Affords q (paid.may t) (paid.credit t) d.join
      had = waited of.fork d.children (fork_of_join p formed c ok t d.join d.children d.at of) ended

      credit : ℕ → ℕ
      credit = replaced paid.credit t (weight q d.onward)

      goes_on : Affords q (paid.may t) (weight q d.onward) d.onward
      goes_on = record {
        steps = omega arith;
        ends = λ h. had.ends ((end_bits p q valid).successor d.join d.onward (step.Join d.onward) d.found (contains_head d.onward []) h);
      }

      own : (k : ℕ) → k ≡ t → Covers p q paid.may k (credit k) (status_of (after e c) k)
      own k same =
          subst (λ k. Covers p q paid.may k (credit k) (status_of (after e c) k)) (sym same)
          (covers_at paid.may t credit (weight q d.onward) (status.At d.onward) (replaced_same paid.credit t t (weight q d.onward) refl)
          (after_self p formed c t e m) goes_on)

      child : (k : ℕ) → k ≢ t → Contains d.children k → Covers p q paid.may k (credit k) (status_of (after e c) k)
      child k ne h = subst (Covers p q paid.may k (credit k)) (sym (after_child p formed c t e m k h)) tt

      other : (k : ℕ) → k ≢ t → ¬ Contains d.children k → Covers p q paid.may k (credit k) (status_of (after e c) k)
      other k ne none = covers_at paid.may k credit (paid.credit k) (status_of c k) (replaced_other paid.credit t k (weight q d.onward) ne)
          (after_other p formed c t e m k ne none) (paid.each k)

  pay_does : Does p c t e → Paid p q bound (after e c) (suc spent)
  pay_does (simple d) = pay_simple d
  pay_does (forks d) = pay_forks d
  pay_does (joins d) = pay_joins d

-- a step is paid for
pub pay : (p : Program) (q : Tables) → IsValid p q → (c : Control) → IsConfiguration p c → (t : ℕ) (e : Effect) (bound spent : ℕ) → effect p c t ≡ Some e
    → Paid p q bound c spent → Paid p q bound (after e c) (suc spent)
pay p q valid c ok t e bound spent h paid = pay_does p q valid c ok t e bound spent paid (does p c t e h)
