use Rattle.std.proofs.lemmas.Grind.{common_steps}
use Rattle.std.proofs.Common.{◌∙◌, ap, sym, subst, arith, rules}
use Rattle.sc_graph.specs.Tick.{IsConfiguration}
use Rattle.tick_core.specs.Inside.Astir.{AstirListed}
use Rattle.tick_core.specs.Space.Sorting.{OwnRows}
use Rattle.tick_core.proofs.Covered.{astir_of_all}
use Rattle.tick_core.proofs.StartKept.{begins_configuration}
use Rattle.tick_core.proofs.state.listing.begin_listed.Goals as goal

pub sort_listed-requires-clause-configuration : goal.sort_listed-requires-clause-configuration
sort_listed-requires-clause-configuration c =
    subst (λ p. IsConfiguration p c.args.begun) (sym (c.program.ensures ∙ ap (λ i. i.program) c.image-image.ensures.value))
    (begins_configuration c.args.verified.now c.args.begun c.image-image.ensures.valid c.requires.begins)

pub sort_listed-requires-clause-listed : goal.sort_listed-requires-clause-listed
sort_listed-requires-clause-listed c =
    subst (AstirListed c.args.begun.statuses) (sym c.as_slice.ensures.value)
    (astir_of_all c.args.begun.statuses c.args.room.listed.items c.requires.listed.all)

pub begin_in-requires-clause-space : goal.begin_in-requires-clause-space
begin_in-requires-clause-space c =
    record {
      kinds_are = c.requires.space.kinds_are;
      no_claim = c.requires.space.no_claim;
      forks = c.requires.space.forks;
      rows = subst (λ q. OwnRows c.args.verified.now.program q c.sort_listed.new.rows) (c.tables.ensures.value ∙ ap (λ i. i.tables) c.image-image.ensures.value)
          (subst (λ p. OwnRows p c.tables.result.now c.sort_listed.new.rows) (c.program.ensures ∙ ap (λ i. i.program) c.image-image.ensures.value)
          c.sort_listed.ensures.own_rows);
      history = c.requires.space.history;
      living = c.requires.space.living;
      given = c.requires.space.given;
      listed = c.requires.space.listed;
      present = c.requires.space.present;
      spare = c.requires.space.spare;
    }

pub sort_listed-requires-clause-rows : goal.sort_listed-requires-clause-rows
sort_listed-requires-clause-rows c = grind (arith, common_steps) steps 2000000

pub begin_in-requires-clause-counted : goal.begin_in-requires-clause-counted
begin_in-requires-clause-counted c = grind (arith, common_steps) steps 2000000

pub begin_in-requires-clause-sorted : goal.begin_in-requires-clause-sorted
begin_in-requires-clause-sorted c = grind (arith, common_steps) steps 2000000

pub sort_listed-requires-clause-counts : goal.sort_listed-requires-clause-counts
sort_listed-requires-clause-counts c = search rules

pub sort_listed-requires-clause-valid : goal.sort_listed-requires-clause-valid
sort_listed-requires-clause-valid c = search rules
