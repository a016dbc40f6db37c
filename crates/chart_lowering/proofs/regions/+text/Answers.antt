use Rattle.std.proofs.lemmas.Grind.{common_steps, elements}
use Rattle.std.proofs.Common.{ℕ, ◌+◌, List, map, ap, sym, ◌∙◌, arith}
use Rattle.core_charts.specs.declared.region.Region.{Region}
use Rattle.core_charts.specs.declared.region.State.{State}
use Rattle.chart_lowering.specs.Lowering.{labels_in_initial, labels_in_states, numbers, body_from, piece_of_state}
use Rattle.chart_lowering.proofs.RegionBodies.{region_body, region_labels}
use Rattle.chart_lowering.proofs.regions.+text.Goals as goal

pub body_of-returns-clause-statements : goal.body_of-returns-clause-statements
body_of-returns-clause-statements t c =
    let n : ℕ = c.args.number in
    let region : Region = c.args.region.now in
    let xs : List State = c.as_slice-states.result.now in
    let Numbers : List State → List ℕ = λ ys. numbers (map piece_of_state ys) n (n + labels_in_initial (map piece_of_state ys)) in
    let End : List State → ℕ = λ ys. n + labels_in_states (map piece_of_state ys) in
    c.in_ok-statements.ensures
    ∙ ap (λ ns. body_from (map piece_of_state xs) ns c.in_ok-numbers.numbers.end) c.in_ok-numbers.ensures.states
    ∙ ap (body_from (map piece_of_state xs) (Numbers xs)) c.in_ok-numbers.ensures.end
    ∙ ap (λ ys. body_from (map piece_of_state ys) (Numbers ys) (End ys)) c.as_slice-states.ensures
    ∙ sym (region_body region n)

pub body_of-returns-clause-next : goal.body_of-returns-clause-next
body_of-returns-clause-next t c =
    let region : Region = c.args.region.now in
    omega (
      arith,
      c.in_ok-numbers.ensures.end,
      c.in_ok-next.ensures.sum,
      region_labels region,
      ap (λ ys. labels_in_states (map piece_of_state ys)) c.as_slice-states.ensures,
    )

pub body_of-returns-clause-within : goal.body_of-returns-clause-within
body_of-returns-clause-within t c = grind (arith, elements) steps 2000000

pub branches_of-returns-clause-within : goal.branches_of-returns-clause-within
branches_of-returns-clause-within t c = grind (arith, elements) steps 2000000

pub statements_of-returns : goal.statements_of-returns
statements_of-returns t c = grind (arith, elements) steps 2000000

pub branches_of-loop-region-preserved : goal.branches_of-loop-region-preserved
branches_of-loop-region-preserved t c = grind (arith, common_steps) steps 2000000

pub branches_of-returns-clause-bodies : goal.branches_of-returns-clause-bodies
branches_of-returns-clause-bodies t c = grind (arith, common_steps) steps 2000000

pub branches_of-returns-clause-next : goal.branches_of-returns-clause-next
branches_of-returns-clause-next t c = grind (arith, common_steps) steps 2000000

pub texts_of-returns-in_default : goal.texts_of-returns-in_default
texts_of-returns-in_default t c = grind (arith, common_steps) steps 2000000

pub texts_of-returns : goal.texts_of-returns
texts_of-returns t c = grind (arith, common_steps) steps 2000000
