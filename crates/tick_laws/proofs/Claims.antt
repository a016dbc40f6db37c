-- Several threads of the greatest priority at once: their steps stand in no order and in no conflict,
-- and each stays the same and stays a leader's whatever of the others is taken before it.
use Rattle.std.proofs.Common.{◌≡◌, ◌≢◌, ℕ, ◌<◌, ◌≤◌, Some, List, [], ◌∷◌, slice_get, ◌++◌, length, length-append, sym, subst, arith}
use Rattle.sc_values.specs.Access.{Reads, Precedes}
use Rattle.sc_graph.specs.declared.tables.Tables.{Tables}
use Rattle.sc_graph.specs.declared.control.Control.{Control}
use Rattle.sc_graph.specs.Program.{Program}
use Rattle.sc_graph.specs.Tables.{priority_of}
use Rattle.sc_graph.specs.Control.{status_of, access_at}
use Rattle.sc_graph.specs.Priority.{Leads, PriorityRun}
use Rattle.sc_graph.specs.Steps.{Effect, after, effect, step}
use Rattle.sc_graph.specs.Tick.{IsConfiguration}
use Rattle.sc_graph.specs.Valid.{IsFormed, IsValid}
use Rattle.tick_laws.specs.WithinTick.{Tops}
use Rattle.tick_laws.proofs.Formed.{valid_formed}
use Rattle.tick_laws.proofs.Views.{Enabled, Does, enabled_view, enabled_from, enabled_from_effect, does}
use Rattle.tick_laws.proofs.Sound.{keeps_self, stays_enabled}
use Rattle.tick_laws.proofs.Diamond.{Free, reads_kept, writes, effect_kept}
use Rattle.tick_laws.proofs.Falling.{low_kept}
use Rattle.tick_laws.proofs.RunsOn.{replay_push}
use Rattle.tick_laws.specs.OneEnd.{OneEnd}
use Rattle.tick_laws.proofs.EnabledPairs.{enabled_no_clash, enabled_edge_falls}

module _ (p : Program) (q : Tables) (valid : IsValid p q) (c : Control) (ok : IsConfiguration p c) where
  -- no leader must come before another
  pub no_edge : (t u : ℕ) → t ≢ u → Leads p q c t → Leads p q c u → ¬ Precedes (access_at p (status_of c t)) (access_at p (status_of c u))
  no_edge t u ne t_leads u_leads precedes =
      let falls : priority_of q (status_of c u) < priority_of q (status_of c t) = enabled_edge_falls p q valid c ok t u ne (enabled_view p c t t_leads.enabled)
      (enabled_view p c u u_leads.enabled) precedes in
      let least : priority_of q (status_of c t) ≤ priority_of q (status_of c u) = u_leads.greatest t t_leads.enabled in
      absurd (omega arith)

  -- two leaders' steps may come in either order
  pub leaders_free : (t u : ℕ) → t ≢ u → Leads p q c t → Leads p q c u → Free (access_at p (status_of c t)) (access_at p (status_of c u))
  leaders_free t u ne t_leads u_leads =
      record {
        not_before = no_edge t u ne t_leads u_leads;
        not_after = no_edge u t (λ e. ne (sym e)) u_leads t_leads;
        no_clash = enabled_no_clash p q valid c ok t u ne (enabled_view p c t t_leads.enabled) (enabled_view p c u u_leads.enabled);
      }

  -- a leader's step stays what it was after another leader's
  pub claim_kept : (t u : ℕ) → t ≢ u → Leads p q c t → Leads p q c u → (e f : Effect) → effect p c t ≡ Some e → effect p c u ≡ Some f → effect p (after f c) t
      ≡ Some e
  claim_kept t u ne t_leads u_leads e f by_t by_u =
      effect_kept p (valid_formed p q valid) c ok t u ne e f by_t by_u (leaders_free t u ne t_leads u_leads)

  -- and finds what it reads as it was
  pub operands_kept : (t u : ℕ) → t ≢ u → Leads p q c t → Leads p q c u → (f : Effect) → effect p c u ≡ Some f → (x : ℕ)
      → Reads (access_at p (status_of c t)) x →
      slice_get (after f c).variables x ≡ slice_get c.variables x
  operands_kept t u ne t_leads u_leads f by_u x reads =
      reads_kept (access_at p (status_of c t)) (access_at p (status_of c u)) (leaders_free t u ne t_leads u_leads) c.variables f.change
      (writes p c u f (does p c u f by_u)) x reads

  -- a leader leads on after another thread's step
  pub leads_kept : (t u : ℕ) → t ≢ u → Leads p q c t → (f : Effect) → effect p c u ≡ Some f → Leads p q (after f c) t
  leads_kept t u ne leads f by_u =
      record {
        enabled = enabled_from p (after f c) t (stays_enabled p formed c ok t u ne t_enabled u_enabled f does_u);
        greatest = λ v v_enabled. subst (λ s. priority_of q (status_of (after f c) v) ≤ priority_of q s) (sym stands) (low v v_enabled);
      }
    where
      formed : IsFormed p
      formed = valid_formed p q valid

      t_enabled : Enabled p c t
      t_enabled = enabled_view p c t leads.enabled

      u_enabled : Enabled p c u
      u_enabled = enabled_from_effect p c u f by_u

      does_u : Does p c u f
      does_u = does p c u f by_u

      stands : status_of (after f c) t ≡ status_of c t
      stands = keeps_self p formed c ok t u ne t_enabled f does_u

      low : Tops p q (priority_of q (status_of c t)) (after f c)
      low = low_kept p q valid (priority_of q (status_of c t)) c ok u f by_u leads.greatest

-- while somebody leads, a priority run is below the budget
pub room : (p : Program) (q : Tables) (c : Control) → OneEnd p q c → (run : List ℕ) (d : Control) → PriorityRun p q run c d → (t : ℕ) → Leads p q d t
    → length run < q.budget
room p q c one run d by_priority t leads =
    let runs = (one.of_priority run d by_priority).runs in
    let next : (e : Control) × (step p t d ≡ Some e) = (one.of_each run d runs).defined t leads.enabled in
    let bounded : length (run ++ t ∷ []) ≤ q.budget = (one.of_each (run ++ t ∷ []) next.0 (replay_push p run t c d next.0 runs next.1)).bounded in
    let long = length-append run (t ∷ []) in
    omega arith
