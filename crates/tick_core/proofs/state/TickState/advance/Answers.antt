use Rattle.std.proofs.lemmas.Grind.{common_steps}
use Rattle.std.proofs.Common.{◌∙◌, length, length-set, refl, sym, ap, subst, arith, None, slice_get}
use Rattle.std.specs.Prelude.{IfSome, count_by, is_some}
use Rattle.sc_graph.specs.Control.{status_of}
use Rattle.tick_laws.proofs.Lists.{get_set_same}
use Rattle.tick_core.specs.Inside.Astir.{Gains}
use Rattle.tick_core.specs.Space.Sorting.{AreSorted, children_at}
use Rattle.tick_core.specs.Inside.Onward.{MayStep, Goes, LeadsOn}
use Rattle.tick_core.specs.Inside.Work.{value_at}
use Rattle.tick_core.specs.State.{InTick}
use Rattle.tick_core.proofs.StateKept.{configuration, leads_at, step_is_defined, has_room, has_place, kept_advanced}
use Rattle.tick_core.proofs.Counts.{open_advanced}
use Rattle.tick_core.proofs.Covered.{fits_stepped}
use Rattle.tick_core.proofs.LeadingThreads.{leads_next}
use Rattle.tick_core.proofs.state.TickState.advance.Goals as goal

pub push_reserved-requires : goal.push_reserved-requires
push_reserved-requires c =
    omega (
      arith,
      has_room _ c.self.invariant.0 c.args.thread (leads_at _ _ c.args.thread c.self.view_is c.requires.leads),
      c.self.inside.history.ok.0,
      c.self.invariant.2,
    )

pub close_one-requires-clause-place : goal.close_one-requires-clause-place
close_one-requires-clause-place c = has_place _ c.self.invariant.0 c.args.thread (leads_at _ _ c.args.thread c.self.view_is c.requires.leads)

pub step_on-next-requires-clause-may : goal.step_on-next-requires-clause-may
step_on-next-requires-clause-may c =
    let program_is = c.program.ensures ∙ ap (λ i. i.program) c.image-image.ensures.value in
    let tables_is = c.tables.ensures.value ∙ ap (λ i. i.tables) c.image-image.ensures.value in
    let leads = leads_at _ _ c.args.thread c.self.view_is c.requires.leads in
    subst (λ p. MayStep p c.tables.result.now c.self.inside.joins c.self.inside.present c.args.thread c.args.value c.deref.result.now
    c.close_one.new.claimed c.self.inside.living.items c.self.inside.rows) (sym program_is)
    (subst (λ q. MayStep c.self.inside.verified.now.program q c.self.inside.joins c.self.inside.present c.args.thread c.args.value c.deref.result.now
    c.close_one.new.claimed c.self.inside.living.items c.self.inside.rows) (sym tables_is)
    (record {
      forks = c.self.invariant.3;
      valid = c.self.invariant.0.valid;
      configuration = configuration _ c.self.invariant.0;
      place = omega (arith, has_place _ c.self.invariant.0 c.args.thread leads, c.self.invariant.0.places);
      enabled = leads.enabled;
      defined = step_is_defined _ c.self.invariant.0 c.args.thread leads;
      value_is = c.requires.value ∙ ap (λ (s : InTick). value_at s.image.program s.present (status_of s.present c.args.thread)) (sym c.self.view_is);
      unclaimed = ap (λ xs. slice_get xs c.args.thread) (c.deref.ensures.value ∙ c.close_one.ensures.closed)
          ∙ get_set_same c.self.inside.claims.items c.args.thread None (has_place _ c.self.invariant.0 c.args.thread leads);
      opened = record {
        places = ap length (c.deref.ensures.value ∙ c.close_one.ensures.closed) ∙ (length-set _ c.args.thread None ∙ c.self.invariant.0.places);
        counted = c.close_one.ensures.counted ∙ ap (count_by is_some) (sym c.deref.ensures.value);
      };
      counted = c.self.invariant.6;
      own_rows = c.self.invariant.4.own_rows;
    }))

pub invariant_of-self : goal.invariant_of-self
invariant_of-self c =
    let program_is = c.program.ensures ∙ ap (λ i. i.program) c.image-image.ensures.value in
    let tables_is = c.tables.ensures.value ∙ ap (λ i. i.tables) c.image-image.ensures.value in
    let leads = leads_at _ _ c.args.thread c.self.view_is c.requires.leads in
    let steps : Goes c.self.inside.verified.now.program c.self.inside.verified.now.tables c.self.inside.present c.step_on-next.new.control c.args.thread
    c.deref.result.now c.self.inside.rows c.step_on-next.new.rows c.step_on-next.new.living.items =
    subst (λ p. Goes p c.self.inside.verified.now.tables c.self.inside.present c.step_on-next.new.control c.args.thread c.deref.result.now c.self.inside.rows
    c.step_on-next.new.rows c.step_on-next.new.living.items) program_is
    (subst (λ q. Goes c.program.result.now q c.self.inside.present c.step_on-next.new.control c.args.thread c.deref.result.now c.self.inside.rows
    c.step_on-next.new.rows c.step_on-next.new.living.items) tables_is c.step_on-next.ensures.goes) in (
      kept_advanced _ c.self.invariant.0 _ c.args.thread c.args.worker leads
          (record {
            image_is = refl;
            begun_is = refl;
            stepped = steps.stepped;
            history_is = c.push_reserved.ensures.items;
            claims_are = c.close_one.ensures.closed;
          }),
      c.self.invariant.1,
      omega (arith, c.self.invariant.2, c.push_reserved.ensures.capacity),
      c.self.invariant.3,
      subst (λ xs. AreSorted c.self.inside.verified.now.program c.self.inside.verified.now.tables c.step_on-next.new.control xs c.step_on-next.new.rows)
          c.deref.ensures.value
          (steps.sorted c.self.inside.claims.items c.self.invariant.4 (c.deref.ensures.value ∙ c.close_one.ensures.closed)),
      open_advanced _ c.self.invariant.0 c.self.inside.claimed c.self.inside.level c.self.invariant.5 _ c.args.thread c.args.worker c.close_one.new.claimed
          (record {
            image_is = refl;
            begun_is = refl;
            stepped = steps.stepped;
            history_is = c.push_reserved.ensures.items;
            claims_are = c.close_one.ensures.closed;
          })
          c.close_one.ensures.counted,
      steps.counts,
      c.self.invariant.7,
      fits_stepped c.self.inside.verified.now.program c.self.inside.verified.now.tables c.self.invariant.0.valid c.self.inside.present
          c.step_on-next.new.control (configuration _ c.self.invariant.0) c.args.thread leads.enabled steps.stepped c.self.inside.begun c.self.inside.listed
          c.step_on-next.new.listed c.self.invariant.8
          (subst (λ p. Gains c.self.inside.listed (children_at p (status_of c.self.inside.present c.args.thread)) c.step_on-next.new.listed) program_is
          c.step_on-next.ensures.listed),
    )

pub returns-clause-next : goal.returns-clause-next
returns-clause-next c =
    let program_is = c.program.ensures ∙ ap (λ i. i.program) c.image-image.ensures.value in
    let tables_is = c.tables.ensures.value ∙ ap (λ i. i.tables) c.image-image.ensures.value in
    let leads = leads_at _ _ c.args.thread c.self.view_is c.requires.leads in
    let steps : Goes c.self.inside.verified.now.program c.self.inside.verified.now.tables c.self.inside.present c.step_on-next.new.control c.args.thread
    c.deref.result.now c.self.inside.rows c.step_on-next.new.rows c.step_on-next.new.living.items =
    subst (λ p. Goes p c.self.inside.verified.now.tables c.self.inside.present c.step_on-next.new.control c.args.thread c.deref.result.now c.self.inside.rows
    c.step_on-next.new.rows c.step_on-next.new.living.items) program_is
    (subst (λ q. Goes c.program.result.now q c.self.inside.present c.step_on-next.new.control c.args.thread c.deref.result.now c.self.inside.rows
    c.step_on-next.new.rows c.step_on-next.new.living.items) tables_is c.step_on-next.ensures.goes) in
    leads_next _ _ c.self.invariant.0 c.args.thread c.args.worker leads
    (record {
      image_is = refl;
      begun_is = refl;
      stepped = steps.stepped;
      history_is = c.push_reserved.ensures.items;
      claims_are = c.close_one.ensures.closed;
    })
    c.self.inside.rows c.self.invariant.4 c.step_on-next.result
    (subst (λ p. IfSome c.step_on-next.result (LeadsOn p c.self.inside.verified.now.tables c.self.inside.present c.step_on-next.new.control c.args.thread
    c.self.inside.rows)) program_is
    (subst (λ q. IfSome c.step_on-next.result (LeadsOn c.program.result.now q c.self.inside.present c.step_on-next.new.control c.args.thread
    c.self.inside.rows)) tables_is c.step_on-next.ensures.on))

pub returns-clause-step : goal.returns-clause-step
returns-clause-step c = grind (arith, common_steps) steps 2000000
