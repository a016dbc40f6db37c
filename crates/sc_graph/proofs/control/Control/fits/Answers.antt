use Rattle.std.proofs.lemmas.Grind.{common_steps}
use Rattle.std.proofs.Common.{subst, arith}
use Rattle.sc_graph.specs.Inside.Fits.{HaveKinds}
use Rattle.sc_graph.proofs.AtRest.{rests_by_parts, children_at_rest}
use Rattle.sc_graph.proofs.control.Control.fits.Goals as goal

pub returns : goal.returns
returns c = (
  λ yes.
      rests_by_parts _ _
      (subst (HaveKinds c.args.program.now) c.as_slice.ensures (c.have_kinds.ensures.0 c.if-not-have_kinds.false))
      (c.rest_in_place.ensures.0 c.if-not-rest_in_place.false)
      (c.all_children_stand.ensures.0 yes),
  λ rests. c.all_children_stand.ensures.1 (children_at_rest _ _ rests),
)

pub returns-then-not-rest_in_place : goal.returns-then-not-rest_in_place
returns-then-not-rest_in_place c = grind (arith, common_steps) steps 2000000

pub returns-then-not-have_kinds : goal.returns-then-not-have_kinds
returns-then-not-have_kinds c = grind (arith, common_steps) steps 2000000
