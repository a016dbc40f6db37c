use Rattle.std.proofs.Common.{rules, ◌≡◌, true, false, refl, ap}
use Rattle.grammar.specs.Read.{read, starts}
use Rattle.sc_text.specs.declared.read_fault.ReadFault.{ReadFault}
use Rattle.sc_text.specs.declared.word.Word.TheVariants as word
use Rattle.sc_text.specs.declared.sign.Sign.TheVariants as sign
use Rattle.sc_text.specs.Expression.{text_tokens, expression}
use Rattle.sc_text.specs.Reading.{Stops}
use Rattle.sc_text.proofs.Outcomes.{either_way}
use Rattle.chart_reader.specs.ChartText.{the_word, the_sign, state_first}
use Rattle.chart_reader.proofs.Same.{reading_so}
use Rattle.extended_reader.specs.Draft.{gathered}
use Rattle.extended_reader.specs.ExtendedText.{rowed, state, region, within}
use Rattle.extended_reader.specs.Inside.TextDrafts.{Puts, put_part, put_parts, put_body}
use Rattle.extended_reader.proofs.Putting.{putting_ends, putting_over, putting_stops, putting_on, parts_put}
use Rattle.extended_reader.proofs.Nesting.{regions_put, states_put, no_first_region, no_first_state, region_puts, state_puts, braced_puts, braced_puts_stops}
use Rattle.extended_reader.proofs.Nesting.{brace_stops, regions_stop, too_deep_stops}
use Rattle.extended_reader.proofs.Nesting.{simple_puts, acting_read, acting_puts, inside_stops, bare_puts, bare_stops, nested_puts, leaving_stops}
use Rattle.extended_reader.proofs.text_drafts.regions.+regions.Goals as goal

pub regions-loop-used-init : goal.regions-loop-used-init
regions-loop-used-init t c = regions_put _ _ _ _ _ _ c.in_ok-region.ensures refl

pub regions-returns-in_err-region : goal.regions-returns-in_err-region
regions-returns-in_err-region t c =
    let stops : (f : ReadFault) → Stops c.args.end (read (region (expression 0) (within (expression 0) c.args.depth)) c.args.ahead.now.tokens.now) f
    → Stops c.args.end (read (rowed (region (expression 0) (within (expression 0) c.args.depth))) c.args.ahead.now.tokens.now) f =
    λ f. no_first_region _ _ c.args.end f in
    search (rules, stops)

pub regions-returns : goal.regions-returns
regions-returns t c =
    putting_over put_part (region (expression 0) (within (expression 0) c.args.depth)) (the_word word.Region) _ _ _ gathered put_parts parts_put _ _ _
    c.loop-used-test.false c.loop-used.invariant

pub regions-returns-then-not-word_follows : goal.regions-returns-then-not-word_follows
regions-returns-then-not-word_follows t c =
    let over = c.if-not-word_follows.true in
    putting_ends put_part (region (expression 0) (within (expression 0) c.args.depth)) (the_word word.Region) _ _ _ gathered put_parts parts_put _ _
    c.loop-used.invariant (search (rules, over, c.word_follows.ensures))

pub regions-returns-in_err-region-2 : goal.regions-returns-in_err-region-2
regions-returns-in_err-region-2 t c =
    let on = c.if-not-word_follows.false in
    let more : starts text_tokens (the_word word.Region) c.loop-used.ahead.tokens.now ≡ true = search (rules, on, c.word_follows.ensures) in
    let stops : (f : ReadFault) → Stops c.args.end (read (region (expression 0) (within (expression 0) c.args.depth)) c.loop-used.ahead.tokens.now) f
    → Stops c.args.end (read (rowed (region (expression 0) (within (expression 0) c.args.depth))) c.args.ahead.now.tokens.now) f =
    λ f. putting_stops put_part (region (expression 0) (within (expression 0) c.args.depth)) (the_word word.Region) _ _ _ gathered put_parts parts_put _ _ _
    c.args.end f c.loop-used-test.true c.loop-used.invariant more in
    search (rules, stops)

pub regions-loop-used-preserved : goal.regions-loop-used-preserved
regions-loop-used-preserved t c =
    let on = c.if-not-word_follows.false in
    let more : starts text_tokens (the_word word.Region) c.loop-used.ahead.tokens.now ≡ true = search (rules, on, c.word_follows.ensures) in
    putting_on put_part (region (expression 0) (within (expression 0) c.args.depth)) (the_word word.Region) _ _ _ _ _ _ _ _ c.loop-used-test.true
    c.loop-used.invariant more c.in_ok-region-2.ensures

pub states-loop-used-init : goal.states-loop-used-init
states-loop-used-init t c = states_put _ _ _ _ _ _ c.in_ok-state.ensures refl

pub states-returns-in_err-state : goal.states-returns-in_err-state
states-returns-in_err-state t c =
    let stops : (f : ReadFault) → Stops c.args.end (read (state (expression 0) (within (expression 0) c.args.depth)) c.args.ahead.now.tokens.now) f
    → Stops c.args.end (read (rowed (state (expression 0) (within (expression 0) c.args.depth))) c.args.ahead.now.tokens.now) f =
    λ f. no_first_state _ _ c.args.end f in
    search (rules, stops)

pub states-returns : goal.states-returns
states-returns t c =
    putting_over put_part (state (expression 0) (within (expression 0) c.args.depth)) state_first _ _ _ gathered put_parts parts_put _ _ _
    c.loop-used-test.false c.loop-used.invariant

pub states-returns-then-not-state_follows : goal.states-returns-then-not-state_follows
states-returns-then-not-state_follows t c =
    let over = c.if-not-state_follows.true in
    putting_ends put_part (state (expression 0) (within (expression 0) c.args.depth)) state_first _ _ _ gathered put_parts parts_put _ _
    c.loop-used.invariant (search (rules, over, c.state_follows.ensures))

pub states-returns-in_err-state-2 : goal.states-returns-in_err-state-2
states-returns-in_err-state-2 t c =
    let on = c.if-not-state_follows.false in
    let more : starts text_tokens state_first c.loop-used.ahead.tokens.now ≡ true = search (rules, on, c.state_follows.ensures) in
    let stops : (f : ReadFault) → Stops c.args.end (read (state (expression 0) (within (expression 0) c.args.depth)) c.loop-used.ahead.tokens.now) f
    → Stops c.args.end (read (rowed (state (expression 0) (within (expression 0) c.args.depth))) c.args.ahead.now.tokens.now) f =
    λ f. putting_stops put_part (state (expression 0) (within (expression 0) c.args.depth)) state_first _ _ _ gathered put_parts parts_put _ _ _
    c.args.end f c.loop-used-test.true c.loop-used.invariant more in
    search (rules, stops)

pub states-loop-used-preserved : goal.states-loop-used-preserved
states-loop-used-preserved t c =
    let on = c.if-not-state_follows.false in
    let more : starts text_tokens state_first c.loop-used.ahead.tokens.now ≡ true = search (rules, on, c.state_follows.ensures) in
    putting_on put_part (state (expression 0) (within (expression 0) c.args.depth)) state_first _ _ _ _ _ _ _ _ c.loop-used-test.true
    c.loop-used.invariant more c.in_ok-state-2.ensures

pub region-returns-in_ok-push-in-Ok : goal.region-returns-in_ok-push-in-Ok
region-returns-in_ok-push-in-Ok t c =
    region_puts _ _ _ _ _ _ _ _ _ _ _ c.in_ok-named.ensures c.in-Ok.ensures c.new-states.ensures c.in_ok-push-in-Ok.ensures.ok

pub state-returns-in_ok-push-in-Ok : goal.state-returns-in_ok-push-in-Ok
state-returns-in_ok-push-in-Ok t c =
    state_puts _ _ _ _ _ _ _ _ _ _ _ _ _ _ _ _ _ c.flag-is_initial.ensures c.flag-is_final.ensures c.in_ok-named.ensures c.in-Ok.ensures
    c.new-regions.ensures c.new-transitions.ensures c.in_ok-push-in-Ok.ensures.ok

pub braced_states-returns : goal.braced_states-returns
braced_states-returns t c =
    either_way _ c.skip_sign-2.ensures
    (λ x. braced_puts (rowed (state (expression 0) (within (expression 0) c.args.depth))) put_parts c.args.ahead.now.tokens.now _ _ _ _
    c.in_ok-skip_sign.ensures c.in_ok-states.ensures _)
    (λ f. braced_puts_stops (rowed (state (expression 0) (within (expression 0) c.args.depth))) put_parts c.args.ahead.now.tokens.now _ _ _ _
    c.in_ok-skip_sign.ensures c.in_ok-states.ensures _ f)

pub body-returns-then-sign_follows : goal.body-returns-then-sign_follows
body-returns-then-sign_follows t c =
    let on = c.if-sign_follows.true in
    let begins : starts text_tokens (the_sign sign.Semicolon) c.args.ahead.now.tokens.now ≡ true = search (rules, on, c.sign_follows.ensures) in
    simple_puts _ _ _ _ _ _ ((c.args.found.now, c.args.transitions.now), c.args.rows.now) _ begins c.behind-ahead.ensures c.new.ensures c.actions_of.ensures
    (ap (λ l. record { entries = l; ways = c.args.rows.now.ways }) c.in_ok-push.ensures.ok)

pub body-returns : goal.body-returns
body-returns t c =
    let on = c.if-sign_follows.false in
    let braced : starts text_tokens (the_sign sign.Semicolon) c.args.ahead.now.tokens.now ≡ false = search (rules, on, c.sign_follows.ensures) in
    reading_so (λ o. Puts o (put_body c.args.is_final) ((c.args.found.now, c.args.transitions.now), c.args.rows.now)
    ((c.acting.new.found, c.acting.new.transitions), c.acting.new.rows) c.acting.new.ahead.tokens.now) _ _ c.args.end _
    (acting_read c.args.depth c.args.ahead.now.tokens.now _ braced c.in_ok-skip_sign.ensures) c.acting.ensures

pub acting-returns : goal.acting-returns
acting-returns t c =
    either_way _ c.inside.ensures
    (λ x. acting_puts _ _ _ _ _ _ _ _ ((c.args.found.now, c.args.transitions.now), c.args.rows.now) _ _ c.in_ok-put_row.ensures c.new-own.ensures
    c.actions_of.ensures (ap (λ l. record { entries = l; ways = c.args.rows.now.ways }) c.in_ok-push.ensures.ok))
    (λ f. inside_stops _ _ _ _ _ _ f c.in_ok-put_row.ensures)

pub inside-returns-then-not-word_follows : goal.inside-returns-then-not-word_follows
inside-returns-then-not-word_follows t c =
    let over = c.if-not-word_follows.true in
    let bare : starts text_tokens (the_word word.Region) c.args.ahead.now.tokens.now ≡ false = search (rules, over, c.word_follows.ensures) in
    either_way _ c.leaving.ensures (λ x. bare_puts _ _ _ ((c.args.found.now, c.args.transitions.now), c.args.rows.now) _ _ _ bare refl)
    (λ f. bare_stops _ _ _ f bare)

pub inside-returns : goal.inside-returns
inside-returns t c =
    let on = c.if-not-word_follows.false in
    let begins : starts text_tokens (the_word word.Region) c.args.ahead.now.tokens.now ≡ true = search (rules, on, c.word_follows.ensures) in
    let some = c.if-depth-eq0.false in
    either_way _ c.leaving-2.ensures (λ x p. nested_puts _ _ _ _ _ begins some c.in_ok-regions.ensures _ _ _ _ _ p refl)
    (λ f. leaving_stops _ _ _ _ _ begins some c.in_ok-regions.ensures _ f)

pub inside-returns-then-depth-eq0 : goal.inside-returns-then-depth-eq0
inside-returns-then-depth-eq0 t c = search (rules, too_deep_stops)

pub body-returns-in_err-skip_sign : goal.body-returns-in_err-skip_sign
body-returns-in_err-skip_sign t c = search (rules, brace_stops)

pub inside-returns-in_err-regions : goal.inside-returns-in_err-regions
inside-returns-in_err-regions t c = search (rules, regions_stop)
