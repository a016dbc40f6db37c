-- The node at which an enabled thread stands: if that is no join, the thread is at it.
use Rattle.std.proofs.Common.{◌≡◌, ℕ, Some, sym, ap, subst, ◌∙◌}
use Rattle.sc_graph.specs.declared.control.Control.{Control}
use Rattle.sc_graph.specs.declared.control.Status.{Status}
use Rattle.sc_graph.specs.declared.control.Status.TheVariants as status
use Rattle.sc_graph.specs.declared.program.Step.{Step}
use Rattle.sc_graph.specs.declared.program.Step.TheVariants as steps
use Rattle.sc_graph.specs.declared.tables.Tables.{Tables}
use Rattle.sc_graph.specs.Control.{status_of}
use Rattle.sc_graph.specs.Program.{Program, step_at}
use Rattle.sc_graph.specs.Tables.{priority, priority_of}
use Rattle.sc_graph.specs.Valid.{IsFormed}
use Rattle.tick_laws.proofs.Falling.{StandsAt}
use Rattle.tick_laws.proofs.Formed.{join_of, join_step, fork_joins}
use Rattle.tick_laws.proofs.Views.{Enabled, stands, completes}
use Rattle.preemption_laws.proofs.TestsThere.{IsTest, one_step}

pub at_priority : (q : Tables) (s : Status) (n : ℕ) → StandsAt s n → priority_of q s ≡ priority q n
at_priority q status.Absent n h = absurd h
at_priority q (status.At k) n h = ap (priority q) h
at_priority q (status.Waiting j) n h = ap (priority q) h
at_priority q (status.Paused d) n h = absurd h
at_priority q status.Ended n h = absurd h

-- who is enabled at a test is there: it is no join
pub at_test : (p : Program) → IsFormed p → (m : Control) (u n : ℕ) (s : Step) → IsTest s → Enabled p m u → StandsAt (status_of m u) n →
    step_at p n ≡ Some s → status_of m u ≡ status.At n
at_test p formed m u n s test (stands k is) there found = is ∙ ap status.At (subst (λ z. StandsAt z n) is there)
at_test p formed m u n s test (completes w) there found =
    let same : w.join ≡ n = subst (λ z. StandsAt z n) w.at there in
    let of = join_of p w.join w.children w.joined in
    let joins = join_step p of.thread w.join (fork_joins p formed of.fork of.thread w.children w.join of.is) in
    absurd (subst IsTest (one_step (steps.Join joins.0) s (step_at p w.join) joins.1 (ap (step_at p) same ∙ found)) test)

-- where nobody is at a node where a thread resumes, nobody is enabled there: it is no join
pub no_resume : (p : Program) → IsFormed p → (m : Control) (u n to : ℕ) →
    ((depth z : ℕ) → status_of m u ≡ status.At depth → step_at p depth ≡ Some (steps.Depth z) → ⊥) → Enabled p m u → StandsAt (status_of m u) n →
    step_at p n ≡ Some (steps.Depth to) → ⊥
no_resume p formed m u n to none (stands k is) there found =
    let same : k ≡ n = subst (λ s. StandsAt s n) is there in none k to is (subst (λ z. step_at p z ≡ Some (steps.Depth to)) (sym same) found)
no_resume p formed m u n to none (completes w) there found =
    let same : w.join ≡ n = subst (λ s. StandsAt s n) w.at there in
    let of = join_of p w.join w.children w.joined in
    let joins = join_step p of.thread w.join (fork_joins p formed of.fork of.thread w.children w.join of.is) in
    let wrong : Some (steps.Join joins.0) ≡ Some (steps.Depth to) = sym joins.1 ∙ (ap (step_at p) same ∙ found) in absurd cc
