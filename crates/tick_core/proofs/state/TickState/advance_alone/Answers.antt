use Rattle.std.proofs.Common.{◌≡◌, ◌∙◌, refl, sym, ap, subst, arith, Some, option_map, slice_set}
use Rattle.std.specs.Prelude.{IfSome, IsSome}
use Rattle.std.specs.Bool.{OnTrue}
use Rattle.tick_core.specs.Rows.{HasRoom}
use Rattle.sc_graph.specs.Control.{status_of}
use Rattle.sc_graph.specs.Steps.{after, node_effect}
use Rattle.tick_core.specs.Inside.Onward.{LeadsOn, StaysAt, own_row, step_here}
use Rattle.tick_core.specs.Inside.Work.{value_of}
use Rattle.tick_core.specs.State.{InTick, Advances}
use Rattle.tick_core.proofs.KeptBehind.{kept_behind, node_defined, stepped_alone, room_alone, goes_alone, leads_alone, lists_nobody}
use Rattle.tick_core.proofs.LeadingThreads.{leads_next}
use Rattle.tick_core.proofs.StateKept.{leads_at, step_is_defined, has_room, has_place, kept_advanced}
use Rattle.tick_core.proofs.state.TickState.advance_alone.Goals as goal
use Rattle.tick_core.proofs.state.TickState.advance_alone.Goals.{then-stays, else-stays}

pub push_reserved-requires : goal.push_reserved-requires
push_reserved-requires c =
    omega (
      arith,
      has_room _ c.self.invariant.0 c.args.thread (leads_at _ _ c.args.thread c.self.view_is c.requires.leads),
      c.self.inside.history.ok.0,
      c.self.invariant.2,
    )

pub close_one-requires-clause-place : goal.close_one-requires-clause-place
close_one-requires-clause-place c = has_place _ c.self.invariant.0 c.args.thread (leads_at _ _ c.args.thread c.self.view_is c.requires.leads)

pub take_own_step-next-requires-clause-defined : goal.take_own_step-next-requires-clause-defined
take_own_step-next-requires-clause-defined c =
    let program_is = c.program.ensures ∙ ap (λ i. i.program) c.image-image.ensures.value in
    let here = subst (λ (s : InTick). step_here s.image.program (status_of s.present c.args.thread) ≡ Some c.args.step.now) (sym c.self.view_is)
    c.requires.at in
    subst (λ p. IsSome (node_effect p c.self.inside.present c.args.thread c.args.step.now)) (sym program_is)
    (node_defined c.self.inside.verified.now.program c.self.inside.present c.args.thread c.args.step.now here
    (step_is_defined _ c.self.invariant.0 c.args.thread (leads_at _ _ c.args.thread c.self.view_is c.requires.leads)))

pub take_own_step-next-requires-clause-value : goal.take_own_step-next-requires-clause-value
take_own_step-next-requires-clause-value c = subst (λ (s : InTick). c.args.value ≡ value_of s.present c.args.step.now) (sym c.self.view_is) c.requires.value

pub move_on-stays-requires : goal.move_on-stays-requires
move_on-stays-requires c =
    let program_is = c.program.ensures ∙ ap (λ i. i.program) c.image-image.ensures.value in
    let tables_is = c.tables.ensures.value ∙ ap (λ i. i.tables) c.image-image.ensures.value in
    let here = subst (λ (s : InTick). step_here s.image.program (status_of s.present c.args.thread) ≡ Some c.args.step.now) (sym c.self.view_is)
    c.requires.at in
    subst (λ q. HasRoom c.self.inside.rows c.args.thread (own_row q c.take_own_step-next.result)) (sym tables_is)
    (room_alone _ c.self.invariant.0 c.args.thread (leads_at _ _ c.args.thread c.self.view_is c.requires.leads) c.args.step.now here
    c.take_own_step-next.new.control c.take_own_step-next.result
    (subst (λ p. option_map (λ e. after e c.self.inside.present) (node_effect p c.self.inside.present c.args.thread c.args.step.now)
    ≡ Some c.take_own_step-next.new.control) program_is c.take_own_step-next.ensures.stepped)
    c.take_own_step-next.ensures.alone c.self.inside.rows c.self.invariant.4)

pub invariant_of-self : goal.invariant_of-self
invariant_of-self c =
    let program_is = c.program.ensures ∙ ap (λ i. i.program) c.image-image.ensures.value in
    let tables_is = c.tables.ensures.value ∙ ap (λ i. i.tables) c.image-image.ensures.value in
    let here = subst (λ (s : InTick). step_here s.image.program (status_of s.present c.args.thread) ≡ Some c.args.step.now) (sym c.self.view_is)
    c.requires.at in
    let leads = leads_at _ _ c.args.thread c.self.view_is c.requires.leads in
    let taken : option_map (λ e. after e c.self.inside.present)
    (node_effect c.self.inside.verified.now.program c.self.inside.present c.args.thread c.args.step.now) ≡ Some c.take_own_step-next.new.control =
    subst (λ p. option_map (λ e. after e c.self.inside.present) (node_effect p c.self.inside.present c.args.thread c.args.step.now)
    ≡ Some c.take_own_step-next.new.control) program_is c.take_own_step-next.ensures.stepped in
    let advances : Advances _ (record {
      image = c.self.inside.verified.now;
      begun = c.self.inside.begun;
      present = c.take_own_step-next.new.control;
      history = c.push_reserved.new.self.items;
      claims = c.close_one.new.claims.items;
    }) c.args.thread c.args.worker =
    record {
      image_is = refl;
      begun_is = refl;
      stepped = stepped_alone _ c.self.invariant.0 c.args.thread leads c.args.step.now here _ _ taken c.take_own_step-next.ensures.alone;
      history_is = c.push_reserved.ensures.items;
      claims_are = c.close_one.ensures.closed;
    } in
    let keeps =
    kept_behind _ _ c.self.invariant.0 c.args.thread c.args.worker leads advances c.self.inside.rows c.move_on-stays.new.rows c.self.inside.claimed
    c.close_one.new.claimed c.self.inside.level c.self.inside.living.items c.self.inside.living.items c.self.inside.listed c.self.inside.listed
    (record { sorted = c.self.invariant.4; opened = c.self.invariant.5; counted = c.self.invariant.6; fits = c.self.invariant.8 })
    (goes_alone _ c.self.invariant.0 c.args.thread leads c.args.step.now here _ _ taken c.take_own_step-next.ensures.alone c.self.inside.rows c.self.invariant.4
    c.self.inside.living.items c.self.invariant.6 c.close_one.new.claims.items c.close_one.ensures.closed c.move_on-stays.new.rows
    (subst (λ q. c.move_on-stays.new.rows ≡ record c.self.inside.rows {
      classes = slice_set c.self.inside.rows.classes c.args.thread (own_row q c.take_own_step-next.result);
    }) tables_is c.move_on-stays.ensures.set))
    c.close_one.ensures.counted
    (lists_nobody _ c.self.invariant.0 c.args.thread leads c.args.step.now here _ _ taken c.take_own_step-next.ensures.alone c.self.inside.listed) in (
      kept_advanced _ c.self.invariant.0 _ c.args.thread c.args.worker leads advances,
      c.self.invariant.1,
      omega (arith, c.self.invariant.2, c.push_reserved.ensures.capacity),
      c.self.invariant.3,
      keeps.sorted,
      keeps.opened,
      keeps.counted,
      c.self.invariant.7,
      keeps.fits,
    )

pub returns-clause-step : goal.returns-clause-step
returns-clause-step c =
    let program_is = c.program.ensures ∙ ap (λ i. i.program) c.image-image.ensures.value in
    let here = subst (λ (s : InTick). step_here s.image.program (status_of s.present c.args.thread) ≡ Some c.args.step.now) (sym c.self.view_is)
    c.requires.at in
    let leads = leads_at _ _ c.args.thread c.self.view_is c.requires.leads in
    let taken : option_map (λ e. after e c.self.inside.present)
    (node_effect c.self.inside.verified.now.program c.self.inside.present c.args.thread c.args.step.now) ≡ Some c.take_own_step-next.new.control =
    subst (λ p. option_map (λ e. after e c.self.inside.present) (node_effect p c.self.inside.present c.args.thread c.args.step.now)
    ≡ Some c.take_own_step-next.new.control) program_is c.take_own_step-next.ensures.stepped in
    let advances : Advances _ (record {
      image = c.self.inside.verified.now;
      begun = c.self.inside.begun;
      present = c.take_own_step-next.new.control;
      history = c.push_reserved.new.self.items;
      claims = c.close_one.new.claims.items;
    }) c.args.thread c.args.worker =
    record {
      image_is = refl;
      begun_is = refl;
      stepped = stepped_alone _ c.self.invariant.0 c.args.thread leads c.args.step.now here _ _ taken c.take_own_step-next.ensures.alone;
      history_is = c.push_reserved.ensures.items;
      claims_are = c.close_one.ensures.closed;
    } in
    subst (λ (s : InTick). Advances s (record {
      image = c.self.inside.verified.now;
      begun = c.self.inside.begun;
      present = c.take_own_step-next.new.control;
      history = c.push_reserved.new.self.items;
      claims = c.close_one.new.claims.items;
    }) c.args.thread c.args.worker) c.self.view_is advances

pub returns-clause-next : goal.returns-clause-next
returns-clause-next c =
    let tables_is = c.tables.ensures.value ∙ ap (λ i. i.tables) c.image-image.ensures.value in
    let program_is = c.program.ensures ∙ ap (λ i. i.program) c.image-image.ensures.value in
    let here = subst (λ (s : InTick). step_here s.image.program (status_of s.present c.args.thread) ≡ Some c.args.step.now) (sym c.self.view_is)
    c.requires.at in
    let leads = leads_at _ _ c.args.thread c.self.view_is c.requires.leads in
    let taken : option_map (λ e. after e c.self.inside.present)
    (node_effect c.self.inside.verified.now.program c.self.inside.present c.args.thread c.args.step.now) ≡ Some c.take_own_step-next.new.control =
    subst (λ p. option_map (λ e. after e c.self.inside.present) (node_effect p c.self.inside.present c.args.thread c.args.step.now)
    ≡ Some c.take_own_step-next.new.control) program_is c.take_own_step-next.ensures.stepped in
    let advances : Advances _ (record {
      image = c.self.inside.verified.now;
      begun = c.self.inside.begun;
      present = c.take_own_step-next.new.control;
      history = c.push_reserved.new.self.items;
      claims = c.close_one.new.claims.items;
    }) c.args.thread c.args.worker =
    record {
      image_is = refl;
      begun_is = refl;
      stepped = stepped_alone _ c.self.invariant.0 c.args.thread leads c.args.step.now here _ _ taken c.take_own_step-next.ensures.alone;
      history_is = c.push_reserved.ensures.items;
      claims_are = c.close_one.ensures.closed;
    } in
    leads_next _ _ c.self.invariant.0 c.args.thread c.args.worker leads advances c.self.inside.rows c.self.invariant.4 c.if-stays.result
    (elim c.if-stays.branch [
      | then-stays w ↦ subst (λ o. IfSome o (LeadsOn c.self.inside.verified.now.program c.self.inside.verified.now.tables c.self.inside.present
          c.take_own_step-next.new.control c.args.thread c.self.inside.rows)) (sym w.result-is)
          (leads_alone _ c.self.invariant.0 c.args.thread leads c.args.step.now here _ _ taken c.take_own_step-next.ensures.alone c.self.inside.rows
          c.self.invariant.4
          (subst (λ q. StaysAt q c.args.thread c.self.inside.rows c.take_own_step-next.result) tables_is
          (subst (λ b. OnTrue b (StaysAt c.tables.result.now c.args.thread c.self.inside.rows c.take_own_step-next.result)) w.if-stays.true
          c.move_on-stays.ensures.stays)))
      | else-stays w ↦ subst (λ o. IfSome o (LeadsOn c.self.inside.verified.now.program c.self.inside.verified.now.tables c.self.inside.present
          c.take_own_step-next.new.control c.args.thread c.self.inside.rows)) (sym w.result-is) tt
    ])

pub returns-clause-within : goal.returns-clause-within
returns-clause-within c =
    omega (arith, has_room _ c.self.invariant.0 c.args.thread (leads_at _ _ c.args.thread c.self.view_is c.requires.leads), c.push_reserved.ensures.len)
