-- A step of a configuration gives a configuration.
use Rattle.std.proofs.Common.{◌≡◌, ◌≢◌, ◌↔◌, ℕ, ◌<◌, List, map, set, Some, Contains, sym, ap, subst, ◌∙◌, ⊎_elim, arith, length-set}
use Rattle.sc_graph.specs.declared.control.Control.{Control}
use Rattle.sc_graph.specs.declared.control.Status.{Status}
use Rattle.sc_graph.specs.declared.control.Status.TheVariants as status
use Rattle.sc_graph.specs.Program.{Program, parent_of}
use Rattle.sc_graph.specs.Threads.{IsFork}
use Rattle.sc_graph.specs.Control.{status_of}
use Rattle.sc_graph.specs.Steps.{Effect, after, moved, effect}
use Rattle.sc_graph.specs.Tick.{IsConfiguration, IsPlace, IsPresent}
use Rattle.sc_graph.specs.Valid.{IsFormed}
use Rattle.tick_laws.proofs.Lists.{same_or_not, contained}
use Rattle.tick_laws.proofs.Formed.{child_parent, parent_below}
use Rattle.tick_laws.proofs.Views.{Does, does}
use Rattle.tick_laws.proofs.Moves.{standing, known, standing_same, standing_other, moved_length, moved_other, moved_all, movers_of}
use Rattle.tick_laws.proofs.KindsKept.{values_kept, kinds_kept}
use Rattle.tick_laws.proofs.StepMoves.{StepMoves, ChildIs, present, absent, untouched, step_moves}

absent_not_present : (s : Status) → IsPresent s → s ≢ status.Absent
absent_not_present s h e = subst IsPresent e h

module _ (p : Program) (formed : IsFormed p) (c : Control) (t : ℕ) (e : Effect) (m : StepMoves p c t e) where
  not_own_child : ¬ Contains m.children t
  not_own_child h = let less : t < t = parent_below p formed t t (m.parent t h) in absurd (omega arith)

  stands_by : (k : ℕ) → status_of (after e c) k ≡ standing (moved (map m.f m.children) (set c.statuses t m.to)) k
  stands_by k = ap (λ moves. standing (moved moves c.statuses) k) m.moves

  -- where each thread stands after a step
  pub after_self : status_of (after e c) t ≡ m.to
  after_self =
      stands_by t
      ∙ (moved_other (map m.f m.children) (set c.statuses t m.to) t (λ h. not_own_child (movers_of m.f m.own m.children t h))
      ∙ standing_same c.statuses t m.to (known c.statuses t (absent_not_present (status_of c t) m.was_present)))

  pub after_child : (k : ℕ) → Contains m.children k → status_of (after e c) k ≡ (m.f k).1
  after_child k h = stands_by k ∙ moved_all m.f m.own m.children (set c.statuses t m.to) k h
      (subst (λ n. k < n) (sym (length-set c.statuses t m.to)) (m.within k h))

  pub after_other : (k : ℕ) → k ≢ t → ¬ Contains m.children k → status_of (after e c) k ≡ status_of c k
  after_other k ne out =
      stands_by k
      ∙ (moved_other (map m.f m.children) (set c.statuses t m.to) k (λ h. out (movers_of m.f m.own m.children k h))
      ∙ standing_other c.statuses t k m.to ne)

  module _ (ok : IsConfiguration p c) where
    -- each thread stays at a place of its own
    place_kept : (k : ℕ) → IsPlace p k (status_of (after e c) k)
    place_kept k = ⊎_elim self others (same_or_not k t)
      where
        self : k ≡ t → IsPlace p k (status_of (after e c) k)
        self same = subst (λ k. IsPlace p k (status_of (after e c) k)) (sym same) (subst (IsPlace p t) (sym after_self) m.place)

        others : k ≢ t → IsPlace p k (status_of (after e c) k)
        others ne =
            ⊎_elim (λ h. subst (IsPlace p k) (sym (after_child k h)) (m.child_place k h))
            (λ out. subst (IsPlace p k) (sym (after_other k ne out)) (ok.places k))
            (contained m.children k)

    -- a child's presence and its parent's waiting
    abbrev Agree : ℕ → ℕ → ℕ → Type 0
    Agree u j k = (IsPresent (status_of (after e c) k)) ↔ (status_of (after e c) u ≡ status.Waiting j)

    both_false : (u j k : ℕ) → ¬ IsPresent (status_of (after e c) k) → status_of (after e c) u ≢ status.Waiting j → Agree u j k
    both_false u j k none away = (λ h. absurd (none h), λ h. absurd (away h))

    own_settled : (j k : ℕ) → k ≢ t → ChildIs c m.children m.f m.to j k → Agree t j k
    own_settled j k ne (present child here waits) =
        (λ h. after_self ∙ waits, λ h. subst IsPresent (sym (after_child k child)) here)
    own_settled j k ne (absent child gone away) =
        both_false t j k (λ h. subst IsPresent (after_child k child ∙ gone) h) (λ h. away (sym after_self ∙ h))
    own_settled j k ne (untouched out none away) =
        both_false t j k (λ h. none (subst IsPresent (after_other k ne out) h)) (λ h. away (sym after_self ∙ h))

    present_kept : (n u : ℕ) (ls : List ℕ) (j k : ℕ) → IsFork p n u ls j → Contains ls k → Agree u j k
    present_kept n u ls j k f child = ⊎_elim own (λ ne. ⊎_elim (of_child ne) (of_other ne) (contained m.children u)) (same_or_not u t)
      where
        parent : parent_of p k ≡ Some u
        parent = child_parent p formed n u ls j k f child

        less : u < k
        less = parent_below p formed k u parent

        own : u ≡ t → Agree u j k
        own same =
            subst (λ u. Agree u j k) (sym same)
            (own_settled j k (λ e. absurd (omega (arith, less, same, e))) (m.settled n ls j k (subst (λ u. IsFork p n u ls j) same f) child))

        -- no child of the step has u as its parent
        no_step_child : u ≢ t → ¬ Contains m.children k
        no_step_child ne h = let other : parent_of p k ≡ Some t = m.parent k h in let mine : parent_of p k ≡ Some u = parent in ne (cc)

        of_child : u ≢ t → Contains m.children u → Agree u j k
        of_child ne in_children =
            let upper : t < u = parent_below p formed u t (m.parent u in_children) in
            both_false u j k
            (λ h. m.was_idle u j in_children
            ((ok.present n u ls j k f child).0 (subst IsPresent (after_other k (λ e. absurd (omega (arith, less, upper, e))) (no_step_child ne)) h)))
            (λ h. m.is_idle u j in_children (sym (after_child u in_children) ∙ h))

        of_other : u ≢ t → ¬ Contains m.children u → Agree u j k
        of_other ne out = ⊎_elim of_self of_rest (same_or_not k t)
          where
            same_u : status_of (after e c) u ≡ status_of c u
            same_u = after_other u ne out

            old : (IsPresent (status_of c k)) ↔ (status_of c u ≡ status.Waiting j)
            old = ok.present n u ls j k f child

            of_self : k ≡ t → Agree u j k
            of_self same = (
              λ h. same_u ∙ old.0 (subst (λ k. IsPresent (status_of c k)) (sym same) m.was_present),
              λ h. subst (λ k. IsPresent (status_of (after e c) k)) (sym same) (subst IsPresent (sym after_self) m.is_present),
            )

            of_rest : k ≢ t → Agree u j k
            of_rest other =
                let same_k : status_of (after e c) k ≡ status_of c k = after_other k other (no_step_child ne) in
                (λ h. same_u ∙ old.0 (subst IsPresent same_k h), λ h. subst IsPresent (sym same_k) (old.1 (sym same_u ∙ h)))

-- a step keeps what a configuration is
pub configuration_kept : (p : Program) → IsFormed p → (c : Control) (t : ℕ) (e : Effect) → IsConfiguration p c → effect p c t ≡ Some e
    → IsConfiguration p (after e c)
configuration_kept p formed c t e ok h =
    let d : Does p c t e = does p c t e h in
    let m : StepMoves p c t e = step_moves p formed c ok t e d in
    record {
      values = values_kept e c ∙ ok.values;
      kinds = kinds_kept p c t e d ok.kinds;
      threads = moved_length e.moves c.statuses ∙ ok.threads;
      places = place_kept p formed c t e m ok;
      present = present_kept p formed c t e m ok;
    }
