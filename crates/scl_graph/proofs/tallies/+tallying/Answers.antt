use Rattle.std.proofs.lemmas.Grind.{common_steps}
use Rattle.std.proofs.Common.{◌≡◌, List, ap, map, sym, ◌∙◌, arith}
use Rattle.std.proofs.lemmas.List.{drop_all}
use Rattle.scl.specs.declared.statement.Statement.{Statement}
use Rattle.scl_graph.specs.declared.tallies.Tally.{Tally}
use Rattle.scl_graph.specs.Inside.Tallies.{fork_tally, if_tally, tally_of}
use Rattle.scl_graph.proofs.Laid.{ok_then}
use Rattle.scl_graph.proofs.Tallied.{all_made, fork_counted, if_counted, tally_of_fork, tally_of_if}
use Rattle.scl_graph.proofs.tallies.+tallying.Goals as goal

pub tally_of-tally_of_if-requires : goal.tally_of-tally_of_if-requires
tally_of-tally_of_if-requires t c =
    if_counted c.args.statement.now c.in-If.test c.in-If.first c.in-If.second c.in_ok-first-in-If.first c.in_ok-second-in-If.second c.in-If.is
    (c.in_ok-first-in-If.ensures ∙ ap (map tally_of) c.as_slice.ensures)
    (c.in_ok-second-in-If.ensures ∙ ap (map tally_of) c.as_slice-in-If.ensures)
    c.requires

pub tally_of-returns-in_ok-second-in-If : goal.tally_of-returns-in_ok-second-in-If
tally_of-returns-in_ok-second-in-If t c =
    let a : List Statement = c.in-If.first in
    let b : List Statement = c.in-If.second in
    let p : List Tally = c.in_ok-first-in-If.first in
    let q : List Tally = c.in_ok-second-in-If.second in
    let first : p ≡ map tally_of a = c.in_ok-first-in-If.ensures ∙ ap (map tally_of) c.as_slice.ensures in
    let second : q ≡ map tally_of b = c.in_ok-second-in-If.ensures ∙ ap (map tally_of) c.as_slice-in-If.ensures in
    ok_then c.tally_of_if.result
    (λ v. v ≡ if_tally p q)
    (λ v. v ≡ tally_of c.args.statement.now)
    (λ v h. h
    ∙ ap (λ x. if_tally x q) first
    ∙ ap (λ x. if_tally (map tally_of a) x) second
    ∙ sym (ap tally_of c.in-If.is ∙ tally_of_if c.in-If.test a b))
    c.tally_of_if.ensures

pub tally_of-tally_of_fork-requires : goal.tally_of-tally_of_fork-requires
tally_of-tally_of_fork-requires t c =
    let items : List (List Statement) = c.as_slice-branch-items.result.now in
    let parts : List (List Tally) = c.loop-branch.parts in
    let made : parts ≡ map (map tally_of) items =
    all_made items _ parts (drop_all c.loop-branch.branch-index items c.loop-branch-test.false) c.loop-branch.invariant.made in
    fork_counted c.args.statement.now c.in-Fork.branches parts c.in-Fork.is (made ∙ ap (map (map tally_of)) c.as_slice-branch-items.ensures) c.requires

pub tally_of-returns-after-loop-branch : goal.tally_of-returns-after-loop-branch
tally_of-returns-after-loop-branch t c =
    let items : List (List Statement) = c.as_slice-branch-items.result.now in
    let parts : List (List Tally) = c.loop-branch.parts in
    let made : parts ≡ map (map tally_of) items =
    all_made items _ parts (drop_all c.loop-branch.branch-index items c.loop-branch-test.false) c.loop-branch.invariant.made in
    c.tally_of_fork.ensures
    ∙ ap fork_tally (made ∙ ap (map (map tally_of)) c.as_slice-branch-items.ensures)
    ∙ sym (ap tally_of c.in-Fork.is ∙ tally_of_fork c.in-Fork.branches)

pub tallies_of-loop-statement-preserved : goal.tallies_of-loop-statement-preserved
tallies_of-loop-statement-preserved t c = grind (arith, common_steps) steps 2000000

pub tallies_of-returns : goal.tallies_of-returns
tallies_of-returns t c = grind (arith, common_steps) steps 2000000

pub tally_of-loop-branch-preserved : goal.tally_of-loop-branch-preserved
tally_of-loop-branch-preserved t c = grind (arith, common_steps) steps 2000000
