use Rattle.std.proofs.lemmas.Grind.{common_steps}
use Rattle.std.proofs.Common.{◌∙◌, None, length, arith, refl, ap, sym, subst}
use Rattle.std.proofs.lemmas.List.{length-map}
use Rattle.tick_core.specs.State.{BeginsTick}
use Rattle.tick_core.specs.Space.Living.{CountsLiving}
use Rattle.tick_core.specs.Space.Sorting.{StandSorted}
use Rattle.tick_core.proofs.StateKept.{holds_begun, no_claims_at}
use Rattle.tick_core.proofs.Counts.{sorted_free, none_open_at}
use Rattle.tick_core.proofs.Covered.{fits_begun}
use Rattle.tick_core.proofs.Opened.{none_counted}
use Rattle.tick_core.proofs.state.listing.begin_in.Goals as goal

pub invariant_of-result : goal.invariant_of-result
invariant_of-result c =
    let begins : BeginsTick c.args.verified.now.program c.args.begun = c.requires.begins in (
      holds_begun c.args.verified.now begins.resting begins.inputs _ c.requires.valid begins.rests
          (record {
            accepted = begins.accepted;
            image_is = refl;
            begun_is = begins.is;
            present_is = c.requires.same ∙ begins.is;
            no_step = c.clear.ensures.items;
            claims_are = c.requires.space.no_claim;
          }),
      c.requires.space.kinds_are,
      omega (arith, c.requires.space.history, c.clear.ensures.capacity),
      c.requires.space.forks,
      sorted_free c.args.verified.now.program c.args.verified.now.tables c.args.room.spare c.args.room.claims.items c.args.room.rows
          (ap length c.requires.space.no_claim ∙ length-map c.args.verified.now.program.threads (λ _. None))
          (none_counted c.args.room.claims.items
          (no_claims_at c.args.verified.now.program.threads c.args.room.claims.items c.requires.space.no_claim))
          (subst (λ d. StandSorted c.args.verified.now.program c.args.verified.now.tables d c.args.room.rows) (sym c.requires.same) c.requires.sorted),
      none_open_at _ 0 (no_claims_at c.args.verified.now.program.threads c.args.room.claims.items c.requires.space.no_claim),
      subst (λ d. CountsLiving c.args.verified.now.program d c.args.room.living.items) (sym c.requires.same) c.requires.counted,
      c.requires.space.given,
      fits_begun c.args.verified.now.program c.args.begun c.args.room.spare _ c.requires.same c.requires.space.listed c.requires.listed,
    )

pub returns : goal.returns
returns c = grind (arith, common_steps) steps 2000000
