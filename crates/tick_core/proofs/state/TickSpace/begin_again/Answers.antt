use Rattle.std.proofs.lemmas.Grind.{common_steps}
use Rattle.std.proofs.Common.{◌<◌, ◌∙◌, length, arith, ap, sym, subst}
use Rattle.sc_graph.specs.Tick.{IsConfiguration}
use Rattle.sc_graph.specs.Valid.{IsValid}
use Rattle.sc_graph.specs.declared.control.Control.{Control}
use Rattle.tick_core.specs.State.{BeginsTick}
use Rattle.tick_core.specs.Space.Living.{CountsLiving}
use Rattle.tick_core.specs.Space.Sorting.{OwnRows, StandSorted}
use Rattle.tick_core.specs.Space.There.{AllListed, AreListed}
use Rattle.tick_core.proofs.Covered.{everybody_there}
use Rattle.tick_core.proofs.StartKept.{begins_configuration}
use Rattle.tick_core.proofs.state.TickSpace.begin_again.Goals as goal

pub copy_into-requires-clause-values : goal.copy_into-requires-clause-values
copy_into-requires-clause-values c =
    let begins : BeginsTick c.self.inside.verified.now.program c.args.begun = subst (λ i. BeginsTick i.program c.args.begun) (sym c.self.view_is) c.requires in
    c.self.invariant.spare.values ∙ sym (begins_configuration c.self.inside.verified.now c.args.begun c.image-image.ensures.valid begins).values

pub copy_into-requires-clause-statuses : goal.copy_into-requires-clause-statuses
copy_into-requires-clause-statuses c =
    let begins : BeginsTick c.self.inside.verified.now.program c.args.begun = subst (λ i. BeginsTick i.program c.args.begun) (sym c.self.view_is) c.requires in
    c.self.invariant.spare.statuses ∙ sym (begins_configuration c.self.inside.verified.now c.args.begun c.image-image.ensures.valid begins).threads

pub count_and_sort-requires-clause-valid : goal.count_and_sort-requires-clause-valid
count_and_sort-requires-clause-valid c =
    subst (λ p. IsValid p c.tables.result.now) (sym (c.program-program.ensures ∙ ap (λ i. i.program) c.image-image.ensures.value))
    (subst (IsValid c.self.inside.verified.now.program) (sym (c.tables.ensures.value ∙ ap (λ i. i.tables) c.image-image.ensures.value))
    c.image-image.ensures.valid)

pub count_and_sort-requires-clause-configuration : goal.count_and_sort-requires-clause-configuration
count_and_sort-requires-clause-configuration c =
    let begins : BeginsTick c.self.inside.verified.now.program c.args.begun = subst (λ i. BeginsTick i.program c.args.begun) (sym c.self.view_is) c.requires in
    subst (λ p. IsConfiguration p c.copy_into.new.to) (sym (c.program-program.ensures ∙ ap (λ i. i.program) c.image-image.ensures.value))
    (subst (IsConfiguration c.self.inside.verified.now.program) (sym c.copy_into.ensures)
    (begins_configuration c.self.inside.verified.now c.args.begun c.image-image.ensures.valid begins))

pub count_and_sort-requires-clause-rows : goal.count_and_sort-requires-clause-rows
count_and_sort-requires-clause-rows c =
    subst (λ p. OwnRows p c.tables.result.now c.self.inside.room.rows) (sym (c.program-program.ensures ∙ ap (λ i. i.program) c.image-image.ensures.value))
    (subst (λ q. OwnRows c.self.inside.verified.now.program q c.self.inside.room.rows)
    (sym (c.tables.ensures.value ∙ ap (λ i. i.tables) c.image-image.ensures.value)) c.self.invariant.rows)

pub begin_in-requires-clause-begins : goal.begin_in-requires-clause-begins
begin_in-requires-clause-begins c = subst (λ i. BeginsTick i.program c.args.begun) (sym c.self.view_is) c.requires

pub begin_in-requires-clause-listed : goal.begin_in-requires-clause-listed
begin_in-requires-clause-listed c =
    let p_is = c.program-program.ensures ∙ ap (λ i. i.program) c.image-image.ensures.value in
    let begins : BeginsTick c.self.inside.verified.now.program c.args.begun = subst (λ i. BeginsTick i.program c.args.begun) (sym c.self.view_is) c.requires in
    everybody_there c.self.inside.verified.now.program c.self.inside.verified.now.tables c.image-image.ensures.valid c.args.begun
    c.list_everybody.new.listed.items (begins_configuration c.self.inside.verified.now c.args.begun c.image-image.ensures.valid begins)
    (λ t below. c.list_everybody.ensures.listed t (subst (λ p. t < length p.threads) (sym p_is) below))

pub begin_in-requires-clause-counted : goal.begin_in-requires-clause-counted
begin_in-requires-clause-counted c =
    let p_is = c.program-program.ensures ∙ ap (λ i. i.program) c.image-image.ensures.value in
    subst (λ d. CountsLiving c.self.inside.verified.now.program d c.count_and_sort.new.counts.items) c.copy_into.ensures
    (subst (λ p. CountsLiving p c.copy_into.new.to c.count_and_sort.new.counts.items) p_is c.count_and_sort.ensures.counted)

pub begin_in-requires-clause-sorted : goal.begin_in-requires-clause-sorted
begin_in-requires-clause-sorted c =
    let p_is = c.program-program.ensures ∙ ap (λ i. i.program) c.image-image.ensures.value in
    let q_is = c.tables.ensures.value ∙ ap (λ i. i.tables) c.image-image.ensures.value in
    subst (λ d. StandSorted c.self.inside.verified.now.program c.self.inside.verified.now.tables d c.count_and_sort.new.rows) c.copy_into.ensures
    (subst (λ q. StandSorted c.self.inside.verified.now.program q c.copy_into.new.to c.count_and_sort.new.rows) q_is
    (subst (λ p. StandSorted p c.tables.result.now c.copy_into.new.to c.count_and_sort.new.rows) p_is c.count_and_sort.ensures.sorted))

pub begin_in-requires-clause-space : goal.begin_in-requires-clause-space
begin_in-requires-clause-space c =
    let p_is = c.program-program.ensures ∙ ap (λ i. i.program) c.image-image.ensures.value in
    let q_is = c.tables.ensures.value ∙ ap (λ i. i.tables) c.image-image.ensures.value in
    let begins : BeginsTick c.self.inside.verified.now.program c.args.begun = subst (λ i. BeginsTick i.program c.args.begun) (sym c.self.view_is) c.requires in
    let ok = begins_configuration c.self.inside.verified.now c.args.begun c.image-image.ensures.valid begins in
    let listed : AreListed c.args.begun.statuses c.list_everybody.new.listed.items =
    everybody_there c.self.inside.verified.now.program c.self.inside.verified.now.tables c.image-image.ensures.valid c.args.begun
    c.list_everybody.new.listed.items ok (λ t below. c.list_everybody.ensures.listed t (subst (λ p. t < length p.threads) (sym p_is) below)) in
    record {
      kinds_are = c.self.invariant.kinds_are;
      no_claim = c.self.invariant.no_claim;
      forks = c.self.invariant.forks;
      rows = subst (λ q. OwnRows c.self.inside.verified.now.program q c.count_and_sort.new.rows) q_is
          (subst (λ p. OwnRows p c.tables.result.now c.count_and_sort.new.rows) p_is c.count_and_sort.ensures.sorted.own_rows);
      history = c.self.invariant.history;
      living = c.count_and_sort.ensures.counted.long ∙ ap (λ p. length p.threads) p_is;
      given = c.self.invariant.given;
      listed = omega (arith, c.self.invariant.listed, c.list_everybody.ensures.room);
      present = subst (λ (d : Control). AllListed d.statuses c.list_everybody.new.listed.items) (sym c.copy_into.ensures) listed.all;
      spare = record {
        values = ap (λ (d : Control). length d.variables) c.copy_into.ensures ∙ ok.values;
        statuses = ap (λ (d : Control). length d.statuses) c.copy_into.ensures ∙ ok.threads;
      };
    }

pub count_and_sort-requires-clause-places : goal.count_and_sort-requires-clause-places
count_and_sort-requires-clause-places c = grind (arith, common_steps) steps 2000000

pub returns : goal.returns
returns c = grind (arith, common_steps) steps 2000000
