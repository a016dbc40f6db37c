use Rattle.std.proofs.Common.{◌≡◌, ◌-◌, ◌<◌, true, length, arith, rules}
use Rattle.grammar.specs.Grammar.{many}
use Rattle.grammar.specs.Read.{read, starts}
use Rattle.sc_text.specs.declared.read_fault.ReadFault.{ReadFault}
use Rattle.sc_text.specs.Expression.{text_tokens}
use Rattle.sc_text.specs.Reading.{Stops}
use Rattle.scl_reader.specs.Program.{declaration}
use Rattle.sc_text.specs.DraftParts.{roles}
use Rattle.scl_reader.proofs.Declaring.{declarations_end, declarations_stop}
use Rattle.scl_reader.proofs.text_drafts.declarations.declarations.Goals as goal

pub returns-then-not-role_follows : goal.returns-then-not-role_follows
returns-then-not-role_follows c =
    let over = c.if-not-role_follows.true in
    declarations_end _ _ _ _ _ c.loop-used.invariant (search (rules, over, c.role_follows.ensures))

pub returns-in_err-rest : goal.returns-in_err-rest
returns-in_err-rest c =
    let within_most = c.loop-used-test.true in
    let some : 0 < length c.args.tokens.now - c.loop-used.used = omega arith in
    let on = c.if-not-role_follows.false in
    let more : starts text_tokens roles c.loop-used.rest.now ≡ true = search (rules, on, c.role_follows.ensures) in
    let stops : (f : ReadFault) → Stops c.args.end (read declaration c.loop-used.rest.now) f → Stops c.args.end (read (many declaration) c.args.tokens.now) f =
    λ f. declarations_stop _ _ _ _ _ c.args.end f some c.loop-used.invariant more in
    search (rules, stops)
