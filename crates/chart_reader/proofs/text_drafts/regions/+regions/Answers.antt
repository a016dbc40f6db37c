use Rattle.std.proofs.Common.{rules, ◌≡◌, true, false, refl}
use Rattle.grammar.specs.Read.{read, starts}
use Rattle.sc_text.specs.declared.read_fault.ReadFault.{ReadFault}
use Rattle.sc_text.specs.declared.word.Word.TheVariants as word
use Rattle.sc_text.specs.declared.sign.Sign.TheVariants as sign
use Rattle.sc_text.specs.Expression.{text_tokens, expression}
use Rattle.sc_text.specs.Reading.{Stops}
use Rattle.sc_text.proofs.Outcomes.{either_way}
use Rattle.chart_reader.specs.Inside.TextDrafts.{FillsBoth}
use Rattle.chart_reader.specs.ChartText.{the_word, the_sign, listed, state_first, state, states, region, within}
use Rattle.chart_reader.proofs.Nesting.{regions_fill, states_fill, inside_read, braced_fills, braced_fills_stops, bare_fills, bare_stops, nested_fills}
use Rattle.chart_reader.proofs.Nesting.{brace_stops, no_first_state, regions_stop, simple_fills, state_gives, too_deep_stops}
use Rattle.chart_reader.proofs.Nesting.{leaving_stops}
use Rattle.chart_reader.proofs.Filling.{filling_ends, filling_over, filling_stops, filling_on}
use Rattle.chart_reader.proofs.Same.{reading_so}
use Rattle.chart_reader.proofs.text_drafts.regions.+regions.Goals as goal

pub regions-loop-used-init : goal.regions-loop-used-init
regions-loop-used-init t c = regions_fill _ _ _ _ _ _ _ c.in_ok-first.ensures refl c.in_ok-push.ensures.ok

pub regions-returns-then-not-word_follows : goal.regions-returns-then-not-word_follows
regions-returns-then-not-word_follows t c =
    let over = c.if-not-word_follows.true in
    filling_ends (region (expression 0) (within (expression 0) c.args.depth)) (the_word word.Region) _ _ _ _ _ c.loop-used.invariant
    (search (rules, over, c.word_follows.ensures))

pub regions-returns-in_err-next : goal.regions-returns-in_err-next
regions-returns-in_err-next t c =
    let on = c.if-not-word_follows.false in
    let more : starts text_tokens (the_word word.Region) c.loop-used.ahead.tokens.now ≡ true = search (rules, on, c.word_follows.ensures) in
    let stops : (f : ReadFault) → Stops c.args.end (read (region (expression 0) (within (expression 0) c.args.depth)) c.loop-used.ahead.tokens.now) f
    → Stops c.args.end (read
    (listed (region (expression 0) (within (expression 0) c.args.depth)) (region (expression 0) (within (expression 0) c.args.depth)))
    c.args.ahead.now.tokens.now) f =
    λ f. filling_stops (region (expression 0) (within (expression 0) c.args.depth)) (the_word word.Region) _ _ _ _ _ _ c.args.end f c.loop-used-test.true
    c.loop-used.invariant more in
    search (rules, stops)

pub regions-loop-used-preserved : goal.regions-loop-used-preserved
regions-loop-used-preserved t c =
    let on = c.if-not-word_follows.false in
    let more : starts text_tokens (the_word word.Region) c.loop-used.ahead.tokens.now ≡ true = search (rules, on, c.word_follows.ensures) in
    filling_on (region (expression 0) (within (expression 0) c.args.depth)) (the_word word.Region) _ _ _ _ _ _ _ _ _ c.loop-used-test.true c.loop-used.invariant
    more c.in_ok-next.ensures c.in_ok-push-2.ensures.ok

pub states-loop-used-init : goal.states-loop-used-init
states-loop-used-init t c = states_fill _ _ _ _ _ _ _ c.in_ok-first.ensures refl c.in_ok-push.ensures.ok

pub states-returns-then-not-state_follows : goal.states-returns-then-not-state_follows
states-returns-then-not-state_follows t c =
    let over = c.if-not-state_follows.true in
    filling_ends (state (expression 0) (within (expression 0) c.args.depth)) state_first _ _ _ _ _ c.loop-used.invariant
    (search (rules, over, c.state_follows.ensures))

pub states-returns-in_err-next : goal.states-returns-in_err-next
states-returns-in_err-next t c =
    let on = c.if-not-state_follows.false in
    let more : starts text_tokens state_first c.loop-used.ahead.tokens.now ≡ true = search (rules, on, c.state_follows.ensures) in
    let stops : (f : ReadFault) → Stops c.args.end (read (state (expression 0) (within (expression 0) c.args.depth)) c.loop-used.ahead.tokens.now) f
    → Stops c.args.end (read (states (expression 0) (within (expression 0) c.args.depth)) c.args.ahead.now.tokens.now) f =
    λ f. filling_stops (state (expression 0) (within (expression 0) c.args.depth)) state_first _ _ _ _ _ _ c.args.end f c.loop-used-test.true
    c.loop-used.invariant
    more in
    search (rules, stops)

pub states-loop-used-preserved : goal.states-loop-used-preserved
states-loop-used-preserved t c =
    let on = c.if-not-state_follows.false in
    let more : starts text_tokens state_first c.loop-used.ahead.tokens.now ≡ true = search (rules, on, c.state_follows.ensures) in
    filling_on (state (expression 0) (within (expression 0) c.args.depth)) state_first _ _ _ _ _ _ _ _ _ c.loop-used-test.true c.loop-used.invariant more
    c.in_ok-next.ensures c.in_ok-push-2.ensures.ok

pub regions-returns : goal.regions-returns
regions-returns t c =
    filling_over (region (expression 0) (within (expression 0) c.args.depth)) (the_word word.Region) _ _ _ _ _ _ c.loop-used-test.false c.loop-used.invariant

pub states-returns : goal.states-returns
states-returns t c =
    filling_over (state (expression 0) (within (expression 0) c.args.depth)) state_first _ _ _ _ _ _ c.loop-used-test.false c.loop-used.invariant

pub braced_states-returns : goal.braced_states-returns
braced_states-returns t c =
    either_way _ c.skip_sign-2.ensures
    (λ x. braced_fills (states (expression 0) (within (expression 0) c.args.depth)) c.args.ahead.now.tokens.now _ _ _ _ c.in_ok-skip_sign.ensures
    c.in_ok-states.ensures _)
    (λ f. braced_fills_stops (states (expression 0) (within (expression 0) c.args.depth)) c.args.ahead.now.tokens.now _ _ _ _ c.in_ok-skip_sign.ensures
    c.in_ok-states.ensures _ f)

pub body-returns : goal.body-returns
body-returns t c =
    let on = c.if-sign_follows.false in
    let braced : starts text_tokens (the_sign sign.Semicolon) c.args.ahead.now.tokens.now ≡ false = search (rules, on, c.sign_follows.ensures) in
    reading_so (λ o. FillsBoth o c.args.regions.now c.inside.new.found c.args.transitions.now c.inside.new.transitions c.inside.new.ahead.tokens.now) _ _
    c.args.end _ (inside_read c.args.depth c.args.ahead.now.tokens.now _ braced c.in_ok-skip_sign.ensures)
    c.inside.ensures

pub inside-returns-then-not-word_follows : goal.inside-returns-then-not-word_follows
inside-returns-then-not-word_follows t c =
    let over = c.if-not-word_follows.true in
    let bare : starts text_tokens (the_word word.Region) c.args.ahead.now.tokens.now ≡ false = search (rules, over, c.word_follows.ensures) in
    either_way _ c.leaving.ensures (λ x. bare_fills _ _ _ _ _ _ bare) (λ f. bare_stops _ _ _ f bare)

pub inside-returns : goal.inside-returns
inside-returns t c =
    let on = c.if-not-word_follows.false in
    let begins : starts text_tokens (the_word word.Region) c.args.ahead.now.tokens.now ≡ true = search (rules, on, c.word_follows.ensures) in
    let some = c.if-depth-eq0.false in
    either_way _ c.leaving-2.ensures (λ x. nested_fills _ _ _ _ _ begins some c.in_ok-regions.ensures _ _ _)
    (λ f. leaving_stops _ _ _ _ _ begins some c.in_ok-regions.ensures _ f)

pub body-returns-then-sign_follows : goal.body-returns-then-sign_follows
body-returns-then-sign_follows t c = search (rules, simple_fills)

pub inside-returns-then-depth-eq0 : goal.inside-returns-then-depth-eq0
inside-returns-then-depth-eq0 t c = search (rules, too_deep_stops)

pub state-returns : goal.state-returns
state-returns t c = search (rules, state_gives)

pub states-returns-in_err-first : goal.states-returns-in_err-first
states-returns-in_err-first t c = search (rules, no_first_state)

pub body-returns-in_err-skip_sign : goal.body-returns-in_err-skip_sign
body-returns-in_err-skip_sign t c = search (rules, brace_stops)

pub inside-returns-in_err-regions : goal.inside-returns-in_err-regions
inside-returns-in_err-regions t c = search (rules, regions_stop)
