-- From each configuration of a tick a complete priority run exists, and each run is within the budget.
use Rattle.std.proofs.Common.{◌≡◌, ℕ, zero, suc, ◌+◌, ◌≤◌, ◌<◌, ◌⊎◌, Bool, true, false, Some, option_and_then, List, [], ◌∷◌, length, refl, ap, subst, ◌∙◌, inl}
use Rattle.std.proofs.Common.{inr, ⊎_elim, arith}
use Rattle.std.proofs.lemmas.Option.{same_Some}
use Rattle.std.proofs.lemmas.Bool.{cases_lt, cases_Bool}
use Rattle.sc_values.specs.Runs.{replay, IsOver}
use Rattle.sc_graph.specs.declared.tables.Tables.{Tables}
use Rattle.sc_graph.specs.declared.control.Control.{Control}
use Rattle.sc_graph.specs.Program.{Program}
use Rattle.sc_graph.specs.Control.{status_of, is_enabled, IsEnabled, status_enabled}
use Rattle.sc_graph.specs.Steps.{Effect, after, effect, step}
use Rattle.sc_graph.specs.Machine.{machine}
use Rattle.sc_graph.specs.Tables.{priority_of}
use Rattle.sc_graph.specs.Priority.{Leads}
use Rattle.sc_graph.specs.Tick.{IsConfiguration, Rests}
use Rattle.sc_graph.specs.Valid.{IsFormed, IsValid}
use Rattle.tick_laws.specs.OneEnd.{HasEnd, OfEach}
use Rattle.tick_laws.specs.WithinTick.{Paid}
use Rattle.tick_laws.proofs.Lists.{map_some, and_then_some}
use Rattle.tick_laws.proofs.Formed.{valid_formed}
use Rattle.tick_laws.proofs.Views.{enabled_view}
use Rattle.tick_laws.proofs.Kin.{enabled_present, present_in_range}
use Rattle.tick_laws.proofs.ConfigurationKept.{configuration_kept}
use Rattle.tick_laws.proofs.Credits.{pay}
use Rattle.tick_laws.proofs.RunsOn.{effect_steps}
use Rattle.tick_laws.proofs.Progress.{defined, step_defined}

-- nobody is enabled, so nobody is at a node
pub rests_when_over : (p : Program) (c : Control) → IsConfiguration p c → IsOver (machine p) c → Rests p c
rests_when_over p c ok over = record { configuration = ok; nobody_at = λ t n at. stuck (ap (status_enabled p c) at) (over t) }
  where
    stuck : {b : Bool} → b ≡ true → b ≡ false → ⊥
    stuck h i = cc

-- among the first n threads one that leads, or none is enabled
data LeaderBelow (p : Program) (q : Tables) (c : Control) (n : ℕ) : Type 0 where
  one_leads : (t : ℕ) → IsEnabled p c t → ((u : ℕ) → u < n → IsEnabled p c u → priority_of q (status_of c u) ≤ priority_of q (status_of c t))
      → LeaderBelow p q c n
  none_enabled : ((u : ℕ) → u < n → is_enabled p c u ≡ false) → LeaderBelow p q c n

module _ (p : Program) (q : Tables) (c : Control) where
  leader_next : (n : ℕ) → LeaderBelow p q c n → (is_enabled p c n ≡ true) ⊎ (is_enabled p c n ≡ false) → LeaderBelow p q c (suc n)
  leader_next n (one_leads t on best) (inl here) =
      ⊎_elim
      (λ less. one_leads n here (λ u lt also. up_to u lt (λ below. omega (arith, best u below also, less)) (λ e. omega (arith, ap height e))))
      (λ least. one_leads t on (λ u lt also. up_to u lt (λ below. best u below also) (λ e. omega (arith, ap height e, least))))
      (cases_lt (height t) (height n))
    where
      height : ℕ → ℕ
      height u = priority_of q (status_of c u)

      up_to : {P : Type 0} (u : ℕ) → u < suc n → (u < n → P) → (u ≡ n → P) → P
      up_to u lt below same = ⊎_elim below (λ le. same (omega (arith, le, lt))) (cases_lt u n)
  leader_next n (one_leads t on best) (inr off) =
      one_leads t on (λ u lt also. ⊎_elim (λ below. best u below also) (λ le. absurd (apart u (omega (arith, le, lt)) also)) (cases_lt u n))
    where
      apart : (u : ℕ) → u ≡ n → is_enabled p c u ≡ true → ⊥
      apart u e also = let off_too = ap (is_enabled p c) e ∙ off in cc
  leader_next n (none_enabled off) (inl here) =
      one_leads n here (λ u lt also. ⊎_elim (λ below. absurd (apart u below also)) (λ le. omega (arith, ap height (same u le lt))) (cases_lt u n))
    where
      height : ℕ → ℕ
      height u = priority_of q (status_of c u)

      same : (u : ℕ) → n ≤ u → u < suc n → u ≡ n
      same u le lt = omega (arith, le, lt)

      apart : (u : ℕ) → u < n → is_enabled p c u ≡ true → ⊥
      apart u below also = let off_too = off u below in cc
  leader_next n (none_enabled off) (inr here) =
      none_enabled (λ u lt. ⊎_elim (off u) (λ le. ap (is_enabled p c) (same u le lt) ∙ here) (cases_lt u n))
    where
      same : (u : ℕ) → n ≤ u → u < suc n → u ≡ n
      same u le lt = omega (arith, le, lt)

  leader_below : (n : ℕ) → LeaderBelow p q c n
  leader_below zero = none_enabled (λ u lt. absurd (omega (arith, lt)))
  leader_below (suc n) = leader_next n (leader_below n) (cases_Bool (is_enabled p c n))

-- a thread leads, or no thread is enabled
pub data Leader (p : Program) (q : Tables) (c : Control) : Type 0 where
  leads : (t : ℕ) → Leads p q c t → Leader p q c
  over : IsOver (machine p) c → Leader p q c

module _ (p : Program) (q : Tables) (valid : IsValid p q) where
  formed : IsFormed p
  formed = valid_formed p q valid

  enabled_in_range : (c : Control) → IsConfiguration p c → (u : ℕ) → IsEnabled p c u → u < length p.threads
  enabled_in_range c ok u on = present_in_range p formed c ok u (enabled_present p c u (enabled_view p c u on))

  pub leader : (c : Control) → IsConfiguration p c → Leader p q c
  leader c ok = of (leader_below p q c (length p.threads))
    where
      of : LeaderBelow p q c (length p.threads) → Leader p q c
      of (one_leads t on best) = leads t (record { enabled = on; greatest = λ u also. best u (enabled_in_range c ok u also) also })
      of (none_enabled off) = over (λ u. ⊎_elim (λ on. absurd (apart u on)) (λ off. off) (cases_Bool (is_enabled p c u)))
        where
          apart : (u : ℕ) → is_enabled p c u ≡ true → ⊥
          apart u on = let off_too = off u (enabled_in_range c ok u on) in cc

  finished : (c : Control) → IsConfiguration p c → IsOver (machine p) c → HasEnd p q c
  finished c ok done =
      record { run = []; end = c; by_priority = refl; complete = record { runs = refl; over = done }; rests = rests_when_over p c ok done }

  goes_first : (c : Control) (t : ℕ) (e : Effect) → effect p c t ≡ Some e → Leads p q c t → HasEnd p q (after e c) → HasEnd p q c
  goes_first c t e h first rest =
      record {
        run = t ∷ rest.run;
        end = rest.end;
        by_priority = (first, (after e c, effect_steps p t c e h, rest.by_priority));
        complete = record {
          runs = ap (option_and_then (replay (machine p) rest.run)) (effect_steps p t c e h) ∙ rest.complete.runs;
          over = rest.complete.over;
        };
        rests = rest.rests;
      }

  -- the leaders' steps come to an end within the budget
  finish : (fuel spent : ℕ) → q.budget ≤ spent + fuel → (c : Control) → IsConfiguration p c → Paid p q q.budget c spent → HasEnd p q c
  finish zero spent enough c ok paid = at (leader c ok)
    where
      at : Leader p q c → HasEnd p q c
      at (over done) = finished c ok done
      at (leads t first) =
          let e : (e : Effect) × (effect p c t ≡ Some e) = defined p q valid c ok t (enabled_view p c t first.enabled) in
          absurd (omega (arith, (pay p q valid c ok t e.0 q.budget spent e.1 paid).within, enough))
  finish (suc fuel) spent enough c ok paid = at (leader c ok) (finish fuel)
    where
      at : Leader p q c → ((spent : ℕ) → q.budget ≤ spent + fuel → (c : Control) → IsConfiguration p c → Paid p q q.budget c spent → HasEnd p q c)
          → HasEnd p q c
      at (over done) rest = finished c ok done
      at (leads t first) rest =
          let e : (e : Effect) × (effect p c t ≡ Some e) = defined p q valid c ok t (enabled_view p c t first.enabled) in
          goes_first c t e.0 e.1 first (rest (suc spent) (omega (arith, enough)) (after e.0 c) (configuration_kept p formed c t e.0 ok e.1)
          (pay p q valid c ok t e.0 q.budget spent e.1 paid))

  -- where a run leads that has been paid for
  pub record Reached (bound spent : ℕ) (d : Control) : Type 0 where
    pub ok : IsConfiguration p d
    pub paid : Paid p q bound d spent

  pub reached : (run : List ℕ) (c d : Control) (bound spent : ℕ) → IsConfiguration p c → Paid p q bound c spent → replay (machine p) run c ≡ Some d
      → Reached bound (spent + length run) d
  reached [] c d bound spent ok paid h =
      let same : c ≡ d = same_Some c d h in
      subst (λ n. Reached bound n d) (omega arith) (record { ok = subst (IsConfiguration p) same ok; paid = subst (λ d. Paid p q bound d spent) same paid })
  reached (t ∷ run) c d bound spent ok paid h =
      let mid = and_then_some (replay (machine p) run) (step p t c) d h in
      let e = map_some (λ e. after e c) (effect p c t) mid.0 mid.1 in
      subst (λ n. Reached bound n d) (more spent (length run))
      (reached run (after e.0 c) d bound (suc spent) (configuration_kept p formed c t e.0 ok e.1) (pay p q valid c ok t e.0 bound spent e.1 paid)
      (ap (replay (machine p) run) e.2 ∙ mid.2))
    where
      more : (m n : ℕ) → suc m + n ≡ m + suc n
      more m n = omega arith

  -- what holds of each run
  pub of_each : (c : Control) → IsConfiguration p c → Paid p q q.budget c 0 → (run : List ℕ) (d : Control) → replay (machine p) run c ≡ Some d
      → OfEach p q run d
  of_each c ok paid run d h =
      let at : Reached q.budget (0 + length run) d = reached run c d q.budget 0 ok paid h in
      record {
        configuration = at.ok;
        bounded = omega (arith, at.paid.within);
        defined = λ t on. step_defined p q valid d at.ok t (enabled_view p d t on);
        goes_on = finish q.budget (0 + length run) (omega arith) d at.ok at.paid;
      }

  pub has_end : (c : Control) → IsConfiguration p c → Paid p q q.budget c 0 → HasEnd p q c
  has_end c ok paid = finish q.budget 0 (omega arith) c ok paid
