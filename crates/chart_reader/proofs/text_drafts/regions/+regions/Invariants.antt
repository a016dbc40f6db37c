use Rattle.std.proofs.Common.{◌+◌, ◌-◌, ◌*◌}
use Rattle.grammar.specs.Read.{read}
use Rattle.sc_text.specs.declared.word.Word.TheVariants as word
use Rattle.sc_text.specs.Expression.{expression}
use Rattle.chart_reader.specs.ChartText.{the_word, listed, state_first, state, states, region, within}
use Rattle.chart_reader.specs.Inside.TextDrafts.{IsFilling}
use Rattle.chart_reader.proofs.text_drafts.regions.+regions.Given as goal

abbrev pub decreases-regions : goal.decreases-regions
decreases-regions l = 8 * l.depth + 6

abbrev pub decreases-region : goal.decreases-region
decreases-region l = 8 * l.depth + 5

abbrev pub decreases-braced_states : goal.decreases-braced_states
decreases-braced_states l = 8 * l.depth + 4

abbrev pub decreases-states : goal.decreases-states
decreases-states l = 8 * l.depth + 3

abbrev pub decreases-state : goal.decreases-state
decreases-state l = 8 * l.depth + 2

abbrev pub decreases-body : goal.decreases-body
decreases-body l = 8 * l.depth + 1

abbrev pub decreases-inside : goal.decreases-inside
decreases-inside l = 8 * l.depth

abbrev pub invariant-regions-loop-used : goal.invariant-regions-loop-used
invariant-regions-loop-used l =
    IsFilling (read (listed (region (expression 0) (within (expression 0) l.fn.depth)) (region (expression 0) (within (expression 0) l.fn.depth)))
    l.fn.ahead.tokens.now) (region (expression 0) (within (expression 0) l.fn.depth)) (the_word word.Region) l.fn.found l.found (l.most - l.used)
    l.ahead.tokens.now

abbrev pub invariant-states-loop-used : goal.invariant-states-loop-used
invariant-states-loop-used l =
    IsFilling (read (states (expression 0) (within (expression 0) l.fn.depth)) l.fn.ahead.tokens.now) (state (expression 0) (within (expression 0) l.fn.depth))
    state_first l.fn.found l.found (l.most - l.used) l.ahead.tokens.now
