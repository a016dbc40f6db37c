use Rattle.std.proofs.lemmas.Grind.{common_steps}
use Rattle.std.proofs.Common.{◌≡◌, ℕ, suc, ◌-◌, [], drop, ap, sym, ◌∙◌, arith}
use Rattle.std.proofs.lemmas.List.{drop_all}
use Rattle.chart_warnings.specs.Warnings.{told_in_order, told_regions}
use Rattle.chart_warnings.proofs.telling.Told.+told.Goals as goal

pub tell_regions-returns : goal.tell_regions-returns
tell_regions-returns t c =
    let vs : _ = c.args.variables.now in
    let rs : _ = c.args.regions.now in
    let i : ℕ = c.loop-region.region-index in
    let none : drop i rs ≡ [] = drop_all i rs c.loop-region-test.false in
    let levels : suc (c.args.levels - 1) ≡ c.args.levels = omega (arith, c.if-levels-eq0.false) in
    sym (ap (λ xs. told_in_order (told_regions vs (c.args.levels - 1)) vs xs c.loop-region.self) none)
    ∙ c.loop-region.invariant
    ∙ ap (λ n. told_regions vs n rs c.args.self.now) levels

pub tell_regions-loop-region-preserved : goal.tell_regions-loop-region-preserved
tell_regions-loop-region-preserved t c = grind (arith, common_steps) steps 2000000

pub tell_states-loop-place-preserved : goal.tell_states-loop-place-preserved
tell_states-loop-place-preserved t c = grind (arith, common_steps) steps 2000000
