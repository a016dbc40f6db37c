use Rattle.std.proofs.Common.{rules, ◌≡◌, true, refl}
use Rattle.grammar.specs.Grammar.{many}
use Rattle.grammar.specs.Predictive.{first}
use Rattle.grammar.specs.Read.{read, starts}
use Rattle.sc_text.specs.declared.read_fault.ReadFault.{ReadFault}
use Rattle.sc_text.specs.Expression.{text_tokens}
use Rattle.sc_text.specs.Reading.{Stops}
use Rattle.chart_reader.proofs.Filling.{many_fills, filling_ends, filling_over, filling_stops, filling_on}
use Rattle.chart_reader.proofs.text_drafts.rows.put_row.Goals as goal

pub loop-used-init : goal.loop-used-init
loop-used-init g c = many_fills g.P.Part.phrase (first g.P.Part.phrase) refl _ _ _ refl

pub returns-then-not-follows : goal.returns-then-not-follows
returns-then-not-follows g c =
    let over = c.if-not-follows.true in
    filling_ends g.P.Part.phrase (first g.P.Part.phrase) _ _ _ _ _ c.loop-used.invariant (search (rules, over, c.follows.ensures))

pub returns-in_err-next : goal.returns-in_err-next
returns-in_err-next g c =
    let on = c.if-not-follows.false in
    let more : starts text_tokens (first g.P.Part.phrase) c.loop-used.ahead.tokens.now ≡ true = search (rules, on, c.follows.ensures) in
    let stops : (f : ReadFault) → Stops c.args.end (read g.P.Part.phrase c.loop-used.ahead.tokens.now) f
    → Stops c.args.end (read (many g.P.Part.phrase) c.args.ahead.now.tokens.now) f =
    λ f. filling_stops g.P.Part.phrase (first g.P.Part.phrase) _ _ _ _ _ _ c.args.end f c.loop-used-test.true c.loop-used.invariant more in
    search (rules, stops)

pub loop-used-preserved : goal.loop-used-preserved
loop-used-preserved g c =
    let on = c.if-not-follows.false in
    let more : starts text_tokens (first g.P.Part.phrase) c.loop-used.ahead.tokens.now ≡ true = search (rules, on, c.follows.ensures) in
    filling_on g.P.Part.phrase (first g.P.Part.phrase) _ _ _ _ _ _ _ _ _ c.loop-used-test.true c.loop-used.invariant more c.in_ok-next.ensures
    c.in_ok-push.ensures.ok

pub returns : goal.returns
returns g c = filling_over g.P.Part.phrase (first g.P.Part.phrase) _ _ _ _ _ _ c.loop-used-test.false c.loop-used.invariant
