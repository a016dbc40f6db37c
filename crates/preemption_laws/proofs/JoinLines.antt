-- A thread of a graph that waits at a join: from its first step on its line is no higher than the join; and where the line below it is low, so is the join.
use Rattle.std.proofs.Common.{◌≡◌, ℕ, ◌≤◌, inr, ⊎_elim, Some, List, [], ◌∷◌, Contains, refl, ap, subst, ◌∙◌, option_and_then, arith}
use Rattle.sc_values.specs.Runs.{replay}
use Rattle.sc_graph.specs.declared.control.Control.{Control}
use Rattle.sc_graph.specs.declared.control.Status.TheVariants as status
use Rattle.sc_graph.specs.declared.tables.Tables.{Tables}
use Rattle.sc_graph.specs.Control.{status_of, IsEnabled}
use Rattle.sc_graph.specs.Machine.{machine}
use Rattle.sc_graph.specs.Program.{Program}
use Rattle.sc_graph.specs.Steps as nodes
use Rattle.sc_graph.specs.Tables.{priority, priority_of}
use Rattle.sc_graph.specs.Threads.{Below}
use Rattle.sc_graph.specs.Tick.{IsConfiguration}
use Rattle.sc_graph.specs.Valid.{IsValid}
use Rattle.tick_laws.proofs.Formed.{valid_formed}
use Rattle.tick_laws.proofs.Lists.{and_then_some, same_or_not, contains_none, contains_cons}
use Rattle.tick_laws.proofs.RunsOn.{SteppedBy, stepped_by}
use Rattle.tick_laws.proofs.Views.{enabled_from, enabled_from_effect}
use Rattle.tick_laws.proofs.WithinTick.{laws_within_tick}
use Rattle.preemption_laws.proofs.LinesAhead.{LowAhead, LowOnceStepped, enabled_ahead}
use Rattle.preemption_laws.proofs.StillAtJoins.{still_waits}

-- the first step of a thread in a run
record FirstStep (p : Program) (a : ℕ) (run : List ℕ) (m n : Control) : Type 0 where
  before : List ℕ
  there : Control
  next : Control
  behind : List ℕ
  leads : replay (machine p) before m ≡ Some there
  out : ¬ Contains before a
  steps : nodes.step p a there ≡ Some next
  goes_on : replay (machine p) (a ∷ behind) there ≡ Some n

first_step : (p : Program) (a : ℕ) (run : List ℕ) (m n : Control) → replay (machine p) run m ≡ Some n → Contains run a → FirstStep p a run m n
first_step p a [] m n leads has = absurd (contains_none a has)
first_step p a (t ∷ run) m n leads has =
    ⊎_elim here
    (λ other. there other (first_step p a run mid.0 n mid.2 (⊎_elim (λ same. absurd (other same)) (λ rest. rest) (contains_cons t a run has))))
    (same_or_not t a)
  where
    mid : (z : Control) × (nodes.step p t m ≡ Some z) × (replay (machine p) run z ≡ Some n)
    mid = and_then_some (replay (machine p) run) (nodes.step p t m) n leads

    here : t ≡ a → FirstStep p a (t ∷ run) m n
    here same =
        record {
          before = [];
          there = m;
          next = mid.0;
          behind = run;
          leads = refl;
          out = λ none. contains_none a none;
          steps = subst (λ v. nodes.step p v m ≡ Some mid.0) same mid.1;
          goes_on = subst (λ v. replay (machine p) (v ∷ run) m ≡ Some n) same leads;
        }

    there : ¬ (t ≡ a) → FirstStep p a run mid.0 n → FirstStep p a (t ∷ run) m n
    there other further =
        record {
          before = t ∷ further.before;
          there = further.there;
          next = further.next;
          behind = further.behind;
          leads = ap (option_and_then (replay (machine p) further.before)) mid.1 ∙ further.leads;
          out = λ has. ⊎_elim (λ same. other same) (λ rest. further.out rest) (contains_cons t a further.before has);
          steps = further.steps;
          goes_on = further.goes_on;
        }

module _ (p : Program) (q : Tables) (valid : IsValid p q) (m : Control) (ok : IsConfiguration p m) (u j : ℕ) (waits : status_of m u ≡ status.Waiting j) where
  module _ (run : List ℕ) (n : Control) (leads : replay (machine p) run m ≡ Some n) (has : Contains run u) where
    first : FirstStep p u run m n
    first = first_step p u run m n leads has

    fine : IsConfiguration p first.there
    fine = (laws_within_tick p q valid).kept first.before m first.there ok first.leads

    waits_there : status_of first.there u ≡ status.Waiting j
    waits_there = still_waits p (valid_formed p q valid) u j first.before m first.there ok first.leads first.out waits

    enabled_there : IsEnabled p first.there u
    enabled_there =
        let s : SteppedBy p u first.there first.next = stepped_by p u first.there first.next first.steps in
        enabled_from p first.there u (enabled_from_effect p first.there u s.e s.is)

  -- once it has stepped
  pub low_behind_join : (top : ℕ) → priority q j ≤ top → LowOnceStepped p q top u m
  low_behind_join top le run n leads has w line on =
      let f : FirstStep p u run m n = first run n leads has in
      let less : priority_of q (status_of n w) ≤ priority_of q (status_of f.there u) =
      enabled_ahead p q valid f.there (fine run n leads has) u (enabled_there run n leads has) (u ∷ f.behind) n f.goes_on w line on in
      let is : priority_of q (status_of f.there u) ≡ priority q j = ap (priority_of q) (waits_there run n leads has) in
      omega (less, is, le, arith)

  -- before it does
  pub low_at_join : (top t : ℕ) → Below p t u → LowAhead p q top t m → (run : List ℕ) (n : Control) → replay (machine p) run m ≡ Some n → Contains run u →
      priority q j ≤ top
  low_at_join top t under low run n leads has =
      let f : FirstStep p u run m n = first run n leads has in
      subst (λ z. priority_of q z ≤ top) (waits_there run n leads has)
      (low f.before f.there f.leads u (inr under) (enabled_there run n leads has))
