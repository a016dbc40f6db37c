use Rattle.std.proofs.Common.{List, ℕ, drop, subst, IsTrue}
use Rattle.std.specs.Prelude.{◌↔◌}
use Rattle.sc_text.specs.FirstToken.{IsNext}
use Rattle.sc_text.proofs.Scanning.{slice_rest}
use Rattle.chart_texts.specs.FirstWord.{extended}
use Rattle.chart_texts.specs.Inside.{PassesFront, PassesNoFront}
use Rattle.chart_texts.proofs.Begins.{step, step_within, next_tells, at_end}
use Rattle.chart_texts.proofs.first_word.begins_extended.Goals as goal

pub loop-at-preserved : goal.loop-at-preserved
loop-at-preserved c =
    let passed : PassesFront (drop c.loop-at.at c.args.text.now) c.in-Some.length =
    subst (λ t. PassesFront t c.in-Some.length) (slice_rest c.loop-at.at c.args.text.now) c.in-Some.ensures in
    record {
      within = step_within c.loop-at.at c.in-Some.length c.args.text.now c.loop-at.invariant.within passed;
      same = step c.loop-at.at c.in-Some.length c.args.text.now c.loop-at.invariant.same passed;
    }

pub returns-in-None : goal.returns-in-None
returns-in-None c =
    let rest : List ℕ = drop c.loop-at.at c.args.text.now in
    let same = slice_rest c.loop-at.at c.args.text.now in
    next_tells c.args.text.now rest c.is_next.result c.loop-at.invariant.same (subst PassesNoFront same c.in-None.ensures)
    (subst (λ t. IsTrue c.is_next.result ↔ IsNext extended t) same c.is_next.ensures)

pub returns : goal.returns
returns c = at_end c.loop-at.at c.args.text.now c.loop-at-test.false c.loop-at.invariant.same
