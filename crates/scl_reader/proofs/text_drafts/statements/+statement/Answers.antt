use Rattle.std.proofs.Common.{◌≡◌, ℕ, ◌-◌, ◌<◌, true, false, length, [], ◌∷◌, arith, rules}
use Rattle.grammar.specs.Grammar.{one, many}
use Rattle.grammar.specs.Read.{read, starts}
use Rattle.sc_text.specs.declared.word.Word.TheVariants as word
use Rattle.sc_text.specs.declared.sign.Sign.TheVariants as sign
use Rattle.sc_text.specs.declared.read_fault.ReadFault.{ReadFault}
use Rattle.sc_text.specs.Classes.{TheWord, TheSign}
use Rattle.sc_text.specs.Expression.{text_tokens}
use Rattle.sc_text.specs.Reading.{Stops}
use Rattle.sc_text.proofs.Outcomes.{either_way}
use Rattle.scl.specs.Rules.{if_limit}
use Rattle.scl_reader.specs.Program.{branch, fork}
use Rattle.scl_reader.specs.Inside.TextDrafts.{statement_classes}
use Rattle.scl_reader.specs.Within.{within}
use Rattle.scl_reader.proofs.Blocks.{close_stops, block_reads, else_reads, else_stops, body_stops, choice_reads, first_stops, if_word_stops, open_stops}
use Rattle.scl_reader.proofs.Blocks.{second_stops, test_stops}
use Rattle.scl_reader.proofs.Choosing.{no_if_reads, no_if_stops, if_reads, if_stops, simple_reads, simple_stops, fork_reads, fork_stops, fork_deep, if_deep}
use Rattle.scl_reader.proofs.Forks.{join_stops, join_end_stops, branch_body_stops, branch_reads, branches_stop, first_branch_stops, opening_stops}
use Rattle.scl_reader.proofs.Loops.{within_ends, within_stops, branches_end, branch_stops, branches_go_on, within_goes_on}
use Rattle.scl_reader.proofs.text_drafts.statements.+statement.Goals as goal

pub statements-returns-then-not-statement_follows : goal.statements-returns-then-not-statement_follows
statements-returns-then-not-statement_follows t c =
    let over = c.if-not-statement_follows.true in
    within_ends _ _ _ _ _ _ _ c.loop-used.invariant (search (rules, over, c.statement_follows.ensures))

pub statements-returns-in_err-rest : goal.statements-returns-in_err-rest
statements-returns-in_err-rest t c =
    let within_most = c.loop-used-test.true in
    let some : 0 < length c.args.tokens.now - c.loop-used.used = omega arith in
    let on = c.if-not-statement_follows.false in
    let more : starts text_tokens statement_classes c.loop-used.rest.now ≡ true = search (rules, on, c.statement_follows.ensures) in
    let stops : (f : ReadFault) → Stops c.args.end (read (within c.args.forks c.args.ifs) c.loop-used.rest.now) f
    → Stops c.args.end (read (many (within c.args.forks c.args.ifs)) c.args.tokens.now) f =
    λ f. within_stops _ _ _ _ _ _ _ c.args.end f some c.loop-used.invariant more in
    search (rules, stops)

pub branches-returns-then-not-word_follows : goal.branches-returns-then-not-word_follows
branches-returns-then-not-word_follows t c =
    let over = c.if-not-word_follows.true in
    branches_end _ _ _ _ _ _ c.loop-used.invariant (search (rules, over, c.word_follows.ensures))

pub branches-returns-in_err-rest : goal.branches-returns-in_err-rest
branches-returns-in_err-rest t c =
    let within_most = c.loop-used-test.true in
    let some : 0 < length c.args.tokens.now - c.loop-used.used = omega arith in
    let on = c.if-not-word_follows.false in
    let more : starts text_tokens (TheWord word.Par ∷ []) c.loop-used.rest.now ≡ true = search (rules, on, c.word_follows.ensures) in
    let stops : (f : ReadFault) → Stops c.args.end (read (branch word.Par (within c.args.forks if_limit)) c.loop-used.rest.now) f
    → Stops c.args.end (read (many (branch word.Par (within c.args.forks if_limit))) c.args.tokens.now) f =
    λ f. branch_stops _ _ _ _ _ _ c.args.end f some c.loop-used.invariant more in
    search (rules, stops)

pub fork-returns-in_err-joined : goal.fork-returns-in_err-joined
fork-returns-in_err-joined t c =
    let stops : (f : ReadFault) → Stops c.args.end (read (one {L = text_tokens} (TheWord word.Join ∷ [])) c.in_ok-rest.rest.now) f
    → Stops c.args.end (read (fork (within c.args.forks if_limit)) c.args.tokens.now) f =
    λ f. join_stops _ _ _ _ _ c.in_ok-more.ensures _ _ c.in_ok-rest.ensures c.args.end f in
    search (rules, stops)

pub fork-returns-in_err-after : goal.fork-returns-in_err-after
fork-returns-in_err-after t c =
    let stops : (f : ReadFault) → Stops c.args.end (read (one {L = text_tokens} (TheSign sign.Semicolon ∷ [])) c.in_ok-joined.joined.now) f
    → Stops c.args.end (read (fork (within c.args.forks if_limit)) c.args.tokens.now) f =
    λ f. join_end_stops _ _ _ _ _ c.in_ok-more.ensures _ _ c.in_ok-rest.ensures _ c.in_ok-joined.ensures c.args.end f in
    search (rules, stops)

pub statement-returns-then-not-word_follows : goal.statement-returns-then-not-word_follows
statement-returns-then-not-word_follows t c =
    let over = c.if-not-word_follows.true in
    let other : starts text_tokens (TheWord word.If ∷ []) c.args.tokens.now ≡ false = search (rules, over, c.word_follows.ensures) in
    either_way _ c.no_if.ensures (λ x. no_if_reads _ _ _ _ _ _ other) (λ f. no_if_stops _ _ _ _ f other)

pub statement-returns : goal.statement-returns
statement-returns t c =
    let on = c.if-not-word_follows.false in
    let begins : starts text_tokens (TheWord word.If ∷ []) c.args.tokens.now ≡ true = search (rules, on, c.word_follows.ensures) in
    let some = c.if-ifs-eq0.false in
    either_way _ c.choice.ensures (λ x. if_reads _ _ _ _ _ _ some begins) (λ f. if_stops _ _ _ _ f some begins)

pub no_if-returns-then-not-word_follows : goal.no_if-returns-then-not-word_follows
no_if-returns-then-not-word_follows t c =
    let over = c.if-not-word_follows.true in
    let other : starts text_tokens (TheWord word.Fork ∷ []) c.args.tokens.now ≡ false = search (rules, over, c.word_follows.ensures) in
    either_way _ c.simple.ensures (λ x. simple_reads _ _ _ _ _ other) (λ f. simple_stops _ _ _ f other)

pub no_if-returns : goal.no_if-returns
no_if-returns t c =
    let on = c.if-not-word_follows.false in
    let begins : starts text_tokens (TheWord word.Fork ∷ []) c.args.tokens.now ≡ true = search (rules, on, c.word_follows.ensures) in
    let some = c.if-forks-eq0.false in
    either_way _ c.fork.ensures (λ x. fork_reads _ _ _ _ _ some begins) (λ f. fork_stops _ _ _ f some begins)

pub block-returns : goal.block-returns
block-returns t c =
    either_way _ c.past_sign-2.ensures (λ x. block_reads (within c.args.forks c.args.ifs) c.args.tokens.now _ c.in_ok-body.ensures _ _ _ c.in_ok-rest.ensures _)
    (λ f. close_stops (within c.args.forks c.args.ifs) c.args.tokens.now _ c.in_ok-body.ensures _ _ _ c.in_ok-rest.ensures _ f)

pub otherwise-returns : goal.otherwise-returns
otherwise-returns t c =
    let on = c.if-not-word_follows.false in
    let begins : starts text_tokens (TheWord word.Else ∷ []) c.args.tokens.now ≡ true = search (rules, on, c.word_follows.ensures) in
    either_way _ c.block.ensures (λ x. else_reads (within c.args.forks c.args.ifs) c.args.tokens.now _ _ _ _ begins c.behind.ensures)
    (λ f. else_stops (within c.args.forks c.args.ifs) c.args.tokens.now _ _ f begins c.behind.ensures)

pub block-returns-in_err-body : goal.block-returns-in_err-body
block-returns-in_err-body t c = search (rules, open_stops)

pub branch-returns-in_err-body : goal.branch-returns-in_err-body
branch-returns-in_err-body t c = search (rules, opening_stops)

pub choice-returns-in_err-opened : goal.choice-returns-in_err-opened
choice-returns-in_err-opened t c = search (rules, if_word_stops)

pub fork-returns-in_err-more : goal.fork-returns-in_err-more
fork-returns-in_err-more t c = search (rules, first_branch_stops)

pub no_if-returns-then-forks-eq0 : goal.no_if-returns-then-forks-eq0
no_if-returns-then-forks-eq0 t c = search (rules, fork_deep)

pub statement-returns-then-ifs-eq0 : goal.statement-returns-then-ifs-eq0
statement-returns-then-ifs-eq0 t c = search (rules, if_deep)

pub block-returns-in_err-rest : goal.block-returns-in_err-rest
block-returns-in_err-rest t c = search (rules, body_stops)

pub branch-returns-in_err-rest : goal.branch-returns-in_err-rest
branch-returns-in_err-rest t c = search (rules, branch_body_stops)

pub choice-returns-in_err-test : goal.choice-returns-in_err-test
choice-returns-in_err-test t c = search (rules, test_stops)

pub fork-returns-in_err-rest : goal.fork-returns-in_err-rest
fork-returns-in_err-rest t c = search (rules, branches_stop)

pub branch-returns : goal.branch-returns
branch-returns t c = search (rules, branch_reads)

pub choice-returns-in_err-rest : goal.choice-returns-in_err-rest
choice-returns-in_err-rest t c = search (rules, first_stops)

pub choice-returns-in_err-after : goal.choice-returns-in_err-after
choice-returns-in_err-after t c = search (rules, second_stops)

pub branches-loop-used-preserved : goal.branches-loop-used-preserved
branches-loop-used-preserved t c = search (rules, branches_go_on)

pub choice-returns : goal.choice-returns
choice-returns t c = search (rules, choice_reads)

pub statements-loop-used-preserved : goal.statements-loop-used-preserved
statements-loop-used-preserved t c = search (rules, within_goes_on)
