use Rattle.std.proofs.Common.{rules, ◌≡◌, true, refl, ◌∙◌}
use Rattle.grammar.specs.Read.{read, starts}
use Rattle.sc_text.specs.declared.read_fault.ReadFault.{ReadFault}
use Rattle.sc_text.specs.Expression.{text_tokens, expression}
use Rattle.sc_text.specs.Reading.{Stops}
use Rattle.chart_reader.specs.ChartText.{transition_first}
use Rattle.extended_reader.specs.Draft.{parted}
use Rattle.extended_reader.specs.ExtendedText.{transition, transitions}
use Rattle.extended_reader.specs.Inside.TextDrafts.{put_way, put_ways}
use Rattle.extended_reader.proofs.Putting.{putting_ends, putting_over, putting_stops, putting_on, ways_put}
use Rattle.extended_reader.proofs.Pieces.{transitions_put}
use Rattle.extended_reader.proofs.text_drafts.transitions.transitions.Goals as goal

pub loop-used-init : goal.loop-used-init
loop-used-init c = transitions_put _ _ _ refl

pub returns : goal.returns
unfolding transitions
returns c =
    putting_over put_way (transition (expression 0)) transition_first _ _ _ parted put_ways ways_put _ _ _ c.loop-used-test.false c.loop-used.invariant

pub returns-then-not-transition_follows : goal.returns-then-not-transition_follows
unfolding transitions
returns-then-not-transition_follows c =
    let over = c.if-not-transition_follows.true in
    putting_ends put_way (transition (expression 0)) transition_first _ _ _ parted put_ways ways_put _ _ c.loop-used.invariant
    (search (rules, over, c.transition_follows.ensures))

pub returns-in_err-put_transition : goal.returns-in_err-put_transition
unfolding transitions
returns-in_err-put_transition c =
    let on = c.if-not-transition_follows.false in
    let more : starts text_tokens transition_first c.loop-used.ahead.tokens.now ≡ true = search (rules, on, c.transition_follows.ensures) in
    let stops : (f : ReadFault) → Stops c.args.end (read (transition (expression 0)) c.loop-used.ahead.tokens.now) f
    → Stops c.args.end (read (transitions (expression 0)) c.args.ahead.now.tokens.now) f =
    λ f. putting_stops put_way (transition (expression 0)) transition_first _ _ _ parted put_ways ways_put _ _ _ c.args.end f c.loop-used-test.true
    c.loop-used.invariant more in
    search (rules, stops)

pub loop-used-preserved : goal.loop-used-preserved
loop-used-preserved c =
    let on = c.if-not-transition_follows.false in
    let more : starts text_tokens transition_first c.loop-used.ahead.tokens.now ≡ true = search (rules, on, c.transition_follows.ensures) in
    putting_on put_way (transition (expression 0)) transition_first _ _ _ _ _ _ _ _ c.loop-used-test.true c.loop-used.invariant more
    c.in_ok-put_transition.ensures
