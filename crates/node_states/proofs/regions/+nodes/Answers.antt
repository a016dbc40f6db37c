use Rattle.std.proofs.lemmas.Grind.{common_steps}
use Rattle.std.proofs.Common.{◌≡◌, ◌++◌, IfOk, map, ap, sym, subst, ◌∙◌, arith}
use Rattle.node_states.specs.Nodes.{Nodes, region_over, piece_of_region, piece_of_state}
use Rattle.node_states.proofs.RegionNodes.{region_nodes}
use Rattle.node_states.proofs.regions.+nodes.Goals as goal

pub lay_region-returns : goal.lay_region-returns
lay_region-returns t c =
    let is : region_over (map piece_of_state c.as_slice-states.result.now) c.args.number ≡ (piece_of_region c.args.region.now).nodes c.args.number =
    ap (λ ss. region_over (map piece_of_state ss) c.args.number) c.as_slice-states.ensures ∙ sym (region_nodes c.args.region.now c.args.number) in
    subst (λ (xs : Nodes). IfOk c.lay_states.result (λ x. c.lay_states.new.nodes ≡ c.args.nodes.now ++ xs)) is c.lay_states.ensures

pub lay_regions-loop-region-preserved : goal.lay_regions-loop-region-preserved
lay_regions-loop-region-preserved t c = grind (arith, common_steps) steps 2000000
