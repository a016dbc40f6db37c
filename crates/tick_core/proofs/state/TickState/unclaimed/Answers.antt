use Rattle.std.proofs.Common.{subst, sym, ap, ◌∙◌, inl, inr}
use Rattle.sc_graph.specs.Control.{status_of}
use Rattle.sc_graph.specs.Tables.{priority_of}
use Rattle.tick_core.specs.State.{InTick}
use Rattle.tick_core.specs.Inside.Turns.{NothingToClaim, IsUnclaimed}
use Rattle.tick_core.proofs.LeadingThreads.{nothing_in, first_leads, first_waits}
use Rattle.tick_core.proofs.state.TickState.unclaimed.Goals as goal

pub returns-in_default : goal.returns-in_default
returns-in_default c =
    subst NothingToClaim c.self.view_is
    (nothing_in _ c.self.invariant.0 c.self.inside.rows c.self.invariant.4 c.self.inside.claimed c.self.inside.level c.self.invariant.5 c.in_default.ensures)

pub returns-then-self-eq0 : goal.returns-then-self-eq0
returns-then-self-eq0 c =
    subst (λ (s : InTick). IsUnclaimed s c.in-Some.thread) c.self.view_is
    (first_leads _ c.self.invariant.0 c.self.inside.rows c.self.invariant.4 c.self.inside.claimed c.self.inside.level c.self.invariant.5 c.in-Some.thread
    c.in-Some.ensures (inl c.if-self-eq0.true))

pub returns-then-priority-self : goal.returns-then-priority-self
returns-then-priority-self c =
    subst (λ (s : InTick). IsUnclaimed s c.in-Some.thread) c.self.view_is
    (first_leads _ c.self.invariant.0 c.self.inside.rows c.self.invariant.4 c.self.inside.claimed c.self.inside.level c.self.invariant.5 c.in-Some.thread
    c.in-Some.ensures
    (inr (ap (λ (s : InTick). priority_of s.image.tables (status_of s.present c.in-Some.thread)) c.self.view_is
    ∙ (sym c.priority.ensures ∙ c.if-priority-self.true))))

pub returns-else-priority-self : goal.returns-else-priority-self
returns-else-priority-self c =
    subst NothingToClaim c.self.view_is
    (first_waits _ c.self.invariant.0 c.self.inside.rows c.self.invariant.4 c.self.inside.claimed c.self.inside.level c.self.invariant.5 c.in-Some.thread
    c.in-Some.ensures c.if-self-eq0.false
    (λ same. c.if-priority-self.false
    (c.priority.ensures ∙ (sym (ap (λ (s : InTick). priority_of s.image.tables (status_of s.present c.in-Some.thread)) c.self.view_is) ∙ same))))
