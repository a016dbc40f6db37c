use Rattle.std.proofs.lemmas.Grind.{common_steps}
use Rattle.std.proofs.Common.{◌≡◌, ◌∙◌, ap, sym, position, Some, slice_range, rules, arith}
use Rattle.trace_lines.specs.Lines.{is_feed, after_line}
use Rattle.trace_lines.proofs.Cut.{after_line-range}
use Rattle.trace_lines.proofs.lines.Lines.move_line.Goals as goal

pub returns-in_ok-extend_from_slice-in-Some-clause-rest : goal.returns-in_ok-extend_from_slice-in-Some-clause-rest
returns-in_ok-extend_from_slice-in-Some-clause-rest c =
    let inside = c.self.inside in
    let found : position is_feed (slice_range inside.piece.items inside.from inside.to) ≡ Some c.in-Some.before =
    let is : inside.feed ≡ Some c.in-Some.before = search rules in
    sym c.self.invariant.3 ∙ is in
    after_line-range inside.piece.items inside.from inside.to c.in-Some.before c.self.invariant.0 c.self.invariant.1 found
    ∙ ap after_line c.self.view_is

pub returns-in_ok-extend_from_slice-in-None-clause-rest : goal.returns-in_ok-extend_from_slice-in-None-clause-rest
returns-in_ok-extend_from_slice-in-None-clause-rest c = grind (arith, common_steps) steps 2000000

pub slice_bounds-feed_in-start : goal.slice_bounds-feed_in-start
slice_bounds-feed_in-start c = grind (arith, common_steps) steps 2000000

pub slice_bounds-feed_in-count : goal.slice_bounds-feed_in-count
slice_bounds-feed_in-count c = grind (arith, common_steps) steps 2000000

pub returns-in_ok-extend_from_slice-in-None-clause-line : goal.returns-in_ok-extend_from_slice-in-None-clause-line
returns-in_ok-extend_from_slice-in-None-clause-line c = grind (arith, common_steps) steps 2000000
