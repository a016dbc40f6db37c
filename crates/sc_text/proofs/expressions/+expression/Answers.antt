use Rattle.std.proofs.lemmas.Grind.{common_steps, elements}
use Rattle.sc_text.proofs.Nesting.{atom_deep, call_reads, call_stops, called_reads, first_stops, flat_leaf_reads, flat_leaf_stops, function_stops, inside_reads}
use Rattle.sc_text.proofs.Nesting.{inside_stops, leaf_reads, leaf_stops, minus_deep, negated_reads, negated_stops, no_minus_reads, no_minus_stops, no_not_reads}
use Rattle.sc_text.proofs.Nesting.{no_not_stops, not_deep, not_reads, not_stops, opening_stops, second_stops}
use Rattle.std.proofs.Common.{◌≡◌, ◌-◌, ◌<◌, true, length, arith, rules}
use Rattle.grammar.specs.Read.{read, starts}
use Rattle.sc_text.specs.declared.read_fault.ReadFault.{ReadFault}
use Rattle.sc_text.specs.Expression.{text_tokens, within}
use Rattle.sc_text.specs.Levels.{whole, behind_operand, begins_behind}
use Rattle.sc_text.specs.Reading.{Stops}
use Rattle.sc_text.proofs.Chains.{going_ends, going_stops, compared_reads, divided_reads, divided_stops, first_sum_stops, going_first, going_first_stops}
use Rattle.sc_text.proofs.Chains.{going_on, lone_sum_reads, operator_stops, right_reads, right_stops, second_sum_stops}
use Rattle.sc_text.proofs.expressions.+expression.Goals as goal

pub chain-returns-then-not-goes_on : goal.chain-returns-then-not-goes_on
chain-returns-then-not-goes_on t c =
    let over = c.if-not-goes_on.true in
    going_ends _ _ _ _ _ _ _ c.loop-used.invariant (search (rules, over, c.goes_on.ensures))

pub chain-returns-in_err-rest-2 : goal.chain-returns-in_err-rest-2
chain-returns-in_err-rest-2 t c =
    let within_most = c.loop-used-test.true in
    let some : 0 < length c.in_ok-rest.rest.now - c.loop-used.used = omega arith in
    let on = c.if-not-goes_on.false in
    let more : starts text_tokens (begins_behind c.args.level) c.loop-used.rest.now ≡ true = search (rules, on, c.goes_on.ensures) in
    let stops : (f : ReadFault) → Stops c.args.end (read (behind_operand c.args.level (within c.args.depth)) c.loop-used.rest.now) f
    → Stops c.args.end (read (whole c.args.level (within c.args.depth)) c.args.tokens.now) f =
    λ f. going_stops _ _ _ _ _ _ _ c.args.end f some c.loop-used.invariant more in
    search (rules, stops)

pub atom-returns-then-encloses : goal.atom-returns-then-encloses
atom-returns-then-encloses t c = search (rules, atom_deep)

pub call-returns-in_err-operator : goal.call-returns-in_err-operator
call-returns-in_err-operator t c = search (rules, function_stops)

pub chain-loop-used-init : goal.chain-loop-used-init
chain-loop-used-init t c = search (rules, going_first)

pub comparison-returns-in_err-rest : goal.comparison-returns-in_err-rest
comparison-returns-in_err-rest t c = search (rules, first_sum_stops)

pub negation-returns-in_err-rest : goal.negation-returns-in_err-rest
negation-returns-in_err-rest t c = search (rules, no_not_stops)

pub right-returns-in_err-rest : goal.right-returns-in_err-rest
right-returns-in_err-rest t c = search (rules, divided_stops)

pub unary-returns-in_err-rest : goal.unary-returns-in_err-rest
unary-returns-in_err-rest t c = search (rules, no_minus_stops)

pub atom-returns-in_err-rest : goal.atom-returns-in_err-rest
atom-returns-in_err-rest t c = search (rules, flat_leaf_stops)

pub call-returns-in_err-inside : goal.call-returns-in_err-inside
call-returns-in_err-inside t c = search (rules, opening_stops)

pub chain-returns-in_err-rest : goal.chain-returns-in_err-rest
chain-returns-in_err-rest t c = search (rules, going_first_stops)

pub comparison-returns-then-not-compares : goal.comparison-returns-then-not-compares
comparison-returns-then-not-compares t c = search (rules, lone_sum_reads)

pub negation-returns-then-not-word_follows : goal.negation-returns-then-not-word_follows
negation-returns-then-not-word_follows t c = search (rules, no_not_reads)

pub right-returns-then-divides : goal.right-returns-then-divides
right-returns-then-divides t c = search (rules, divided_reads)

pub unary-returns-then-not-sign_follows : goal.unary-returns-then-not-sign_follows
unary-returns-then-not-sign_follows t c = search (rules, no_minus_reads)

pub atom-returns-then-depth-eq0 : goal.atom-returns-then-depth-eq0
atom-returns-then-depth-eq0 t c = search (rules, flat_leaf_reads)

pub call-returns-in_err-second : goal.call-returns-in_err-second
call-returns-in_err-second t c = search (rules, first_stops)

pub negation-returns-then-depth-eq0 : goal.negation-returns-then-depth-eq0
negation-returns-then-depth-eq0 t c = search (rules, not_deep)

pub right-returns-in_err-operator : goal.right-returns-in_err-operator
right-returns-in_err-operator t c = search (rules, operator_stops)

pub unary-returns-then-depth-eq0 : goal.unary-returns-then-depth-eq0
unary-returns-then-depth-eq0 t c = search (rules, minus_deep)

pub atom-returns-in_err-rest-2 : goal.atom-returns-in_err-rest-2
atom-returns-in_err-rest-2 t c = search (rules, inside_stops)

pub call-returns-in_err-after : goal.call-returns-in_err-after
call-returns-in_err-after t c = search (rules, second_stops)

pub comparison-returns-in_err-after : goal.comparison-returns-in_err-after
comparison-returns-in_err-after t c = search (rules, second_sum_stops)

pub negation-returns-in_err-rest-2 : goal.negation-returns-in_err-rest-2
negation-returns-in_err-rest-2 t c = search (rules, not_stops)

pub right-returns-in_err-after : goal.right-returns-in_err-after
right-returns-in_err-after t c = search (rules, right_stops)

pub unary-returns-in_err-rest-2 : goal.unary-returns-in_err-rest-2
unary-returns-in_err-rest-2 t c = search (rules, negated_stops)

pub atom-returns-then-sign_follows : goal.atom-returns-then-sign_follows
atom-returns-then-sign_follows t c = search (rules, inside_reads)

pub call-returns : goal.call-returns
call-returns t c = search (rules, called_reads)

pub comparison-returns : goal.comparison-returns
comparison-returns t c = search (rules, compared_reads)

pub negation-returns : goal.negation-returns
negation-returns t c = search (rules, not_reads)

pub right-returns : goal.right-returns
right-returns t c = search (rules, right_reads)

pub unary-returns : goal.unary-returns
unary-returns t c = search (rules, negated_reads)

pub atom-returns-in_err-rest-3 : goal.atom-returns-in_err-rest-3
atom-returns-in_err-rest-3 t c = search (rules, call_stops)

pub chain-loop-used-preserved : goal.chain-loop-used-preserved
chain-loop-used-preserved t c = search (rules, going_on)

pub atom-returns-then-calls : goal.atom-returns-then-calls
atom-returns-then-calls t c = search (rules, call_reads)

pub atom-returns-in_err-rest-4 : goal.atom-returns-in_err-rest-4
atom-returns-in_err-rest-4 t c = search (rules, leaf_stops)

pub atom-returns : goal.atom-returns
atom-returns t c = search (rules, leaf_reads)

pub closed-returns : goal.closed-returns
closed-returns t c = grind (arith, elements) steps 2000000

pub operand-returns : goal.operand-returns
operand-returns t c = grind (arith, elements) steps 2000000

pub chain-returns : goal.chain-returns
chain-returns t c = grind (arith, common_steps) steps 2000000
