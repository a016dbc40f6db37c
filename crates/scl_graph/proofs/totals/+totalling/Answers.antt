use Rattle.std.proofs.lemmas.Grind.{common_steps}
use Rattle.std.proofs.Common.{◌≡◌, List, ap, sym, subst, ◌∙◌, arith, rules}
use Rattle.std.specs.Option.{SomeIff}
use Rattle.scl.specs.declared.statement.Statement.{Statement}
use Rattle.scl_graph.specs.declared.totals.Totals.{Totals}
use Rattle.scl_graph.specs.Inside.Totals.{AreCounted, sum, totals, totals_of, totals_of_all}
use Rattle.scl_graph.proofs.Pieces.{piece_of_if, piece_of_assign, piece_of_fork, piece_of_goto, piece_of_label, piece_of_pause}
use Rattle.scl_graph.proofs.totals.+totalling.Goals as goal

pub statement_totals-returns-in_ok-plus-in-If : goal.statement_totals-returns-in_ok-plus-in-If
statement_totals-returns-in_ok-plus-in-If t c =
    let a : List Statement = c.in-If.first in
    let b : List Statement = c.in-If.second in
    let one : Totals = record { nodes = 1; threads = 0; lower = 0; jumps = 0 } in
    let first : c.in_ok-first-in-If.first ≡ totals_of_all a = c.in_ok-first-in-If.ensures.1 ∙ ap totals_of_all c.as_slice.ensures in
    let second : c.in_ok-second-in-If.second ≡ totals_of_all b = c.in_ok-second-in-If.ensures.1 ∙ ap totals_of_all c.as_slice-in-If.ensures in
    let whole : totals_of c.args.statement.now ≡ sum one (sum (totals_of_all a) (totals_of_all b)) =
    ap totals_of c.in-If.is ∙ ap (λ p. totals p.counts) (piece_of_if c.in-If.test a b) in
    let is : sum c.nodes-in-If.result c.in_ok-plus-in-If.field-0 ≡ totals_of c.args.statement.now =
    ap (λ n. sum n c.in_ok-plus-in-If.field-0) c.nodes-in-If.ensures
    ∙ ap (sum one) (c.in_ok-plus-in-If.ensures.1 ∙ ap (λ x. sum x c.in_ok-second-in-If.second) first ∙ ap (sum (totals_of_all a)) second)
    ∙ sym whole in
    let Answers : Totals → Type 0 = λ x. SomeIff c.plus-in-If.result (AreCounted x) x in
    subst Answers is c.plus-in-If.ensures

pub statement_totals-returns-in-Assign : goal.statement_totals-returns-in-Assign
statement_totals-returns-in-Assign t c = search (rules, piece_of_assign)

pub totals_of-returns-in_err-statement_totals : goal.totals_of-returns-in_err-statement_totals
totals_of-returns-in_err-statement_totals t c = grind (arith, common_steps) steps 2000000

pub totals_of-returns-in_err-total : goal.totals_of-returns-in_err-total
totals_of-returns-in_err-total t c = grind (arith, common_steps) steps 2000000

pub totals_of-loop-statement-preserved : goal.totals_of-loop-statement-preserved
totals_of-loop-statement-preserved t c = grind (arith, common_steps) steps 2000000

pub totals_of-returns : goal.totals_of-returns
totals_of-returns t c = grind (arith, common_steps) steps 2000000

pub statement_totals-returns-in-Label : goal.statement_totals-returns-in-Label
statement_totals-returns-in-Label t c = search (rules, piece_of_label)

pub statement_totals-returns-in-Goto : goal.statement_totals-returns-in-Goto
statement_totals-returns-in-Goto t c = search (rules, piece_of_goto)

pub statement_totals-returns-in-Pause : goal.statement_totals-returns-in-Pause
statement_totals-returns-in-Pause t c = search (rules, piece_of_pause)

pub statement_totals-returns-in_err-first-in-If : goal.statement_totals-returns-in_err-first-in-If
statement_totals-returns-in_err-first-in-If t c = search (rules, piece_of_if)

pub statement_totals-returns-in_err-second-in-If : goal.statement_totals-returns-in_err-second-in-If
statement_totals-returns-in_err-second-in-If t c = search (rules, piece_of_if)

pub statement_totals-returns-in_err-plus-in-If : goal.statement_totals-returns-in_err-plus-in-If
statement_totals-returns-in_err-plus-in-If t c = search (rules, piece_of_if)

pub statement_totals-loop-branch-init : goal.statement_totals-loop-branch-init
statement_totals-loop-branch-init t c = search (rules, piece_of_fork)

pub statement_totals-returns-in_err-totals_of-in-Fork : goal.statement_totals-returns-in_err-totals_of-in-Fork
statement_totals-returns-in_err-totals_of-in-Fork t c = grind (arith, common_steps) steps 2000000

pub statement_totals-returns-in_err-as_branch-in-Fork : goal.statement_totals-returns-in_err-as_branch-in-Fork
statement_totals-returns-in_err-as_branch-in-Fork t c = grind (arith, common_steps) steps 2000000

pub statement_totals-returns-in_err-total-in-Fork : goal.statement_totals-returns-in_err-total-in-Fork
statement_totals-returns-in_err-total-in-Fork t c = grind (arith, common_steps) steps 2000000

pub statement_totals-loop-branch-preserved : goal.statement_totals-loop-branch-preserved
statement_totals-loop-branch-preserved t c = grind (arith, common_steps) steps 2000000

pub statement_totals-returns-after-loop-branch : goal.statement_totals-returns-after-loop-branch
statement_totals-returns-after-loop-branch t c = grind (arith, common_steps) steps 2000000

pub statement_totals-plus-requires-in-loop-branch : goal.statement_totals-plus-requires-in-loop-branch
statement_totals-plus-requires-in-loop-branch t c = grind (arith, common_steps) steps 2000000

pub statement_totals-plus-requires-in-If : goal.statement_totals-plus-requires-in-If
statement_totals-plus-requires-in-If t c = grind (arith, common_steps) steps 2000000
