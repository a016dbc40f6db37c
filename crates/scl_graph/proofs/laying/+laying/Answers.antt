use borrow.Author.Rules.{get_or_read}
use Rattle.std.proofs.Common.{rules, ◌≡◌, ℕ, suc, ◌+◌, List, [], ◌∷◌, ◌++◌, drop, map, ap, sym, subst, ◌∙◌}
use Rattle.std.proofs.lemmas.List.{drop_all, take_rest}
use Rattle.sc_values.specs.Expr.{postorder}
use Rattle.sc_graph.specs.declared.program.Node.{Node}
use Rattle.sc_graph.specs.declared.program.Step.TheVariants as step
use Rattle.scl.specs.declared.statement.Statement.{Statement}
use Rattle.scl.specs.declared.statement.Statement.TheFolds as statement
use Rattle.scl.specs.declared.statement.Statement.TheViews.{out-Statement}
use Rattle.scl_graph.specs.declared.numbers.NodeCounts.{NodeCounts}
use Rattle.scl_graph.specs.declared.numbers.NodeNumbers.{NodeNumbers}
use Rattle.scl_graph.specs.declared.way.Way.{Way}
use Rattle.scl_graph.specs.Graph.{node}
use Rattle.scl_graph.specs.Inside.Laying.{HasRoom, IsLaid, after, children, past, way_behind, way_in}
use Rattle.scl_graph.specs.Inside.Tallies.{fork_tally, tally_of}
use Rattle.scl_graph.specs.Counting.{AreSmall, branches_counts, counts_of, counts_of_all}
use Rattle.scl_graph.proofs.Branching.{fork_room, if_room_first, if_room_node, if_room_second}
use Rattle.scl_graph.proofs.Laid.{laid_none, laid_more, leads_behind, laid_if, laid_fork, ok_then, room_at, room_more, split_at}
use Rattle.scl_graph.proofs.Tallied.{first_part, fork_is, second_part, tally_at, within_tallies}
use Rattle.scl_graph.proofs.laying.+laying.Goals as goal

pub lay-loop-i-init : goal.lay-loop-i-init
lay-loop-i-init g t c = record { room = c.requires.room; ahead = c.way_of-ahead.ensures; laid = λ new h. h }

pub lay-loop-i-preserved : goal.lay-loop-i-preserved
lay-loop-i-preserved g t c =
    let target : Way → ℕ = g.T.Targets.target c.args.targets.now in
    let xs : List Statement = c.args.statements.now in
    let s : Statement = c.index-statements-i.result in
    let rest : List Statement = drop (c.loop-i.i + 1) xs in
    let here : NodeNumbers = c.loop-i.here in
    let behind : Way = c.args.behind.now in
    let before : List Node = c.loop-i.nodes in
    let middle : List Node = c.lay_statement.new.nodes in
    let split : drop c.loop-i.i xs ≡ s ∷ rest = split_at xs c.loop-i.i s c.loop-i-test.true c.index-statements-i.is in
    let next : c.past-next.result ≡ past here (counts_of s) = c.past-next.ensures ∙ ap (past here) c.known_statement_counts.ensures in
    let ahead : c.loop-i.ahead ≡ way_in (s ∷ rest) here.node behind = c.loop-i.invariant.ahead ∙ ap (λ zs. way_in zs here.node behind) split in
    let leads : c.way_behind-leads.result ≡ way_in rest (past here (counts_of s)).node behind =
    c.way_behind-leads.ensures
    ∙ ap (λ zs. way_behind (out-Statement s) zs c.past-next.result.node c.loop-i.ahead behind) (take_rest xs (c.loop-i.i + 1))
    ∙ ap (λ m. way_behind (out-Statement s) rest m.node c.loop-i.ahead behind) next
    ∙ leads_behind s rest here c.loop-i.ahead behind ahead in
    let Room : NodeNumbers → Type 0 = λ m. HasRoom m (counts_of_all rest) in
    let Fits : List Statement → Type 0 = λ zs. HasRoom here (counts_of_all zs) in
    let One : Way → Type 0 = λ w. IsLaid target c.args.owner (s ∷ []) here w before middle in
    record {
      room = subst Room (sym next) (room_more here s rest (subst Fits split c.loop-i.invariant.room));
      ahead = leads ∙ ap (λ m. way_in rest m.node behind) (sym next);
      laid = λ new h.
          let Whole : List Statement → Type 0 = λ zs. IsLaid target c.args.owner zs here behind before new in
          let Others : NodeNumbers → Type 0 = λ m. IsLaid target c.args.owner rest m behind middle new in
          c.loop-i.invariant.laid new
          (subst Whole (sym split) (laid_more target c.args.owner s rest here behind before middle new (subst One leads c.in_ok-lay_statement.ensures)
          (subst Others next h)));
    }

pub lay-returns : goal.lay-returns
lay-returns g t c =
    let target : Way → ℕ = g.T.Targets.target c.args.targets.now in
    let nodes : List Node = c.loop-i.nodes in
    let Left : List Statement → Type 0 = λ zs. IsLaid target c.args.owner zs c.loop-i.here c.args.behind.now nodes nodes in
    c.loop-i.invariant.laid nodes
    (subst Left (sym (drop_all c.loop-i.i c.args.statements.now c.loop-i-test.false)) (laid_none target c.args.owner c.loop-i.here c.args.behind.now nodes))

pub lay_statement-returns-in_ok-lay-in-If : goal.lay_statement-returns-in_ok-lay-in-If
lay_statement-returns-in_ok-lay-in-If g t c =
    let target : Way → ℕ = g.T.Targets.target c.args.targets.now in
    let o : ℕ = c.args.owner in
    let s : Statement = c.args.statement.now in
    let at : NodeNumbers = c.args.at in
    let behind : Way = c.args.behind.now in
    let a : List Statement = c.in-If.first in
    let b : List Statement = c.in-If.second in
    let old : List Node = c.args.nodes.now in
    let tested : List Node = c.lay_test.new.nodes in
    let middle : List Node = c.lay.new.nodes in
    let inside : c.after_a_node-inside.result ≡ after 1 at = c.after_a_node-inside.ensures in
    let further : c.past-further.result ≡ past (after 1 at) (counts_of_all a) =
    c.past-further.ensures
    ∙ ap (λ m. past m c.known_counts.result) inside
    ∙ ap (past (after 1 at)) (c.known_counts.ensures.counts ∙ ap counts_of_all c.as_slice-first.ensures) in
    let to_first : c.target-then.result ≡ target (way_in a (1 + at.node) behind) =
    c.target-then.ensures
    ∙ ap target (c.way_of.ensures ∙ ap (λ zs. way_in zs c.after_a_node-inside.result.node behind) c.as_slice-first.ensures
    ∙ ap (λ m. way_in a m.node behind) inside) in
    let to_second : c.target-other.result ≡ target (way_in b (1 + at.node + (counts_of_all a).nodes) behind) =
    c.target-other.ensures
    ∙ ap target (c.way_of-in-If.ensures ∙ ap (λ zs. way_in zs c.past-further.result.node behind) c.as_slice-second.ensures
    ∙ ap (λ m. way_in b m.node behind) further) in
    let test : ℕ → ℕ → List Node = λ m n. old ++ node o (step.Cond (postorder c.in-If.test) m n) ∷ [] in
    let put : tested ≡ test (target (way_in a (1 + at.node) behind)) (target (way_in b (1 + at.node + (counts_of_all a).nodes) behind)) =
    c.in_ok-lay_test-in-If.ensures
    ∙ ap (λ m. test m c.target-other.result) to_first
    ∙ ap (test (target (way_in a (1 + at.node) behind))) to_second in
    let FirstAt : NodeNumbers → Type 0 = λ m. IsLaid target o a m behind tested middle in
    let FirstOf : List Statement → Type 0 = λ zs. IsLaid target o zs c.after_a_node-inside.result behind tested middle in
    let first : IsLaid target o a (after 1 at) behind tested middle = subst FirstAt inside (subst FirstOf c.as_slice-first.ensures c.in_ok-lay-in-If.ensures) in
    let new : List Node = c.lay-in-If.new.nodes in
    let SecondAt : NodeNumbers → Type 0 = λ m. IsLaid target o b m behind middle new in
    let SecondOf : List Statement → Type 0 = λ zs. IsLaid target o zs c.past-further.result behind middle new in
    ok_then c.lay-in-If.result
    (λ v. IsLaid target o c.as_slice-second.result.now c.past-further.result behind middle new)
    (λ v. IsLaid target o (s ∷ []) at behind old new)
    (λ v h. laid_if target o s at behind old tested middle new c.in-If.test a b c.in-If.is put first
    (subst SecondAt further (subst SecondOf c.as_slice-second.ensures h)))
    c.lay-in-If.ensures

pub lay_statement-returns-in_ok-forked-in-Fork : goal.lay_statement-returns-in_ok-forked-in-Fork
lay_statement-returns-in_ok-forked-in-Fork g t c =
    let target : Way → ℕ = g.T.Targets.target c.args.targets.now in
    let o : ℕ = c.args.owner in
    let at : NodeNumbers = c.args.at in
    let behind : Way = c.args.behind.now in
    let old : List Node = c.args.nodes.now in
    let new : List Node = c.lay_fork.new.nodes in
    let ks : List ℕ = c.in_ok-forked-in-Fork.forked in
    let forked : ks ≡ children c.in-Fork.branches at.thread = c.in_ok-forked-in-Fork.ensures ∙ ap (λ bs. children bs at.thread) c.as_slice.ensures in
    let put : List ℕ → ℕ → List Node = λ cs n. old ++ node o (step.Fork cs (suc at.node)) ∷ node o (step.Join n) ∷ [] in
    ok_then c.lay_fork.result
    (λ v. new ≡ put ks c.target-in-Fork.result)
    (λ v. IsLaid target o (c.args.statement.now ∷ []) at behind old new)
    (λ v h. laid_fork target o c.args.statement.now at behind old new c.in-Fork.branches c.in-Fork.is (h ∙ ap (λ cs. put cs c.target-in-Fork.result) forked
    ∙ ap (put (children c.in-Fork.branches at.thread)) c.target-in-Fork.ensures))
    c.lay_fork.ensures

pub lay_statement-children_of-requires-clause-small : goal.lay_statement-children_of-requires-clause-small
lay_statement-children_of-requires-clause-small g t c =
    let Small : List (List Statement) → Type 0 = λ bs. AreSmall (branches_counts bs) in
    subst Small (sym c.as_slice.ensures) (fork_room c.args.at c.args.statement.now c.in-Fork.branches c.in-Fork.is c.requires.room).small

pub lay_statement-children_of-requires-clause-tallied : goal.lay_statement-children_of-requires-clause-tallied
lay_statement-children_of-requires-clause-tallied g t c =
    fork_is c.args.statement.now c.args.tally.now c.in-Fork.branches c.in-Fork.is c.requires.tallied
    ∙ ap (λ bs. fork_tally (map (map tally_of) bs)) (sym c.as_slice.ensures)

pub lay-lay_statement-requires : goal.lay-lay_statement-requires
lay-lay_statement-requires g t c =
    let xs : List Statement = c.args.statements.now in
    let s : Statement = c.index-statements-i.result in
    let i : ℕ = c.loop-i.i in
    let room : HasRoom c.loop-i.here (counts_of s) = room_at c.loop-i.here xs i s c.loop-i.invariant.room c.loop-i-test.true c.index-statements-i.is in
    let tallied : c.index-tallies-i.result ≡ tally_of s =
    tally_at xs c.args.tallies.now i s c.index-tallies-i.result c.requires.tallied c.loop-i-test.true c.index-statements-i.is c.index-tallies-i.is in
    λ κs within. (search (rules, statement.the_lemmas, get_or_read), (search rules, (room, tallied)))

pub lay-known_statement_counts-requires-clause-small : goal.lay-known_statement_counts-requires-clause-small
lay-known_statement_counts-requires-clause-small g t c =
    let s : Statement = c.index-statements-i.result in
    (room_at c.loop-i.here c.args.statements.now c.loop-i.i s c.loop-i.invariant.room c.loop-i-test.true c.index-statements-i.is).small

pub lay-past-next-requires : goal.lay-past-next-requires
lay-past-next-requires g t c =
    let s : Statement = c.index-statements-i.result in
    let Fits : NodeCounts → Type 0 = λ k. HasRoom c.loop-i.here k in
    subst Fits (sym c.known_statement_counts.ensures)
    (room_at c.loop-i.here c.args.statements.now c.loop-i.i s c.loop-i.invariant.room c.loop-i-test.true c.index-statements-i.is)

pub lay_statement-after_a_node-inside-requires : goal.lay_statement-after_a_node-inside-requires
lay_statement-after_a_node-inside-requires g t c =
    if_room_node c.args.at c.args.statement.now c.in-If.test c.in-If.first c.in-If.second c.in-If.is c.requires.room

pub lay_statement-known_counts-requires-clause-small : goal.lay_statement-known_counts-requires-clause-small
lay_statement-known_counts-requires-clause-small g t c =
    let Small : List Statement → Type 0 = λ zs. AreSmall (counts_of_all zs) in
    subst Small (sym c.as_slice-first.ensures)
    (if_room_first c.args.at c.args.statement.now c.in-If.test c.in-If.first c.in-If.second c.in-If.is c.requires.room).small

pub lay_statement-past-further-requires : goal.lay_statement-past-further-requires
lay_statement-past-further-requires g t c =
    let counts : c.known_counts.result ≡ counts_of_all c.in-If.first = c.known_counts.ensures.counts ∙ ap counts_of_all c.as_slice-first.ensures in
    let At : NodeNumbers → Type 0 = λ m. HasRoom m c.known_counts.result in
    let Of : NodeCounts → Type 0 = λ k. HasRoom (after 1 c.args.at) k in
    subst At (sym c.after_a_node-inside.ensures)
    (subst Of (sym counts) (if_room_first c.args.at c.args.statement.now c.in-If.test c.in-If.first c.in-If.second c.in-If.is c.requires.room))

pub lay_statement-lay-requires : goal.lay_statement-lay-requires
lay_statement-lay-requires g t c =
    let At : NodeNumbers → Type 0 = λ m. HasRoom m (counts_of_all c.as_slice-first.result.now) in
    let Of : List Statement → Type 0 = λ zs. HasRoom (after 1 c.args.at) (counts_of_all zs) in
    let room : HasRoom c.after_a_node-inside.result (counts_of_all c.as_slice-first.result.now) =
    subst At (sym c.after_a_node-inside.ensures) (subst Of (sym c.as_slice-first.ensures)
    (if_room_first c.args.at c.args.statement.now c.in-If.test c.in-If.first c.in-If.second c.in-If.is c.requires.room)) in
    let tallied : c.part-in-If.result.now ≡ map tally_of c.as_slice-first.result.now =
    c.part-in-If.ensures
    ∙ first_part c.args.statement.now c.args.tally.now c.in-If.test c.in-If.first c.in-If.second c.in-If.is c.requires.tallied
    ∙ ap (map tally_of) (sym c.as_slice-first.ensures) in
    λ κs within. (search (rules, statement.the_lemmas), (search rules, (room, tallied)))

pub lay_statement-lay-requires-in-If : goal.lay_statement-lay-requires-in-If
lay_statement-lay-requires-in-If g t c =
    let counts : c.known_counts.result ≡ counts_of_all c.in-If.first = c.known_counts.ensures.counts ∙ ap counts_of_all c.as_slice-first.ensures in
    let further : c.past-further.result ≡ past (after 1 c.args.at) (counts_of_all c.in-If.first) =
    c.past-further.ensures ∙ ap (λ m. past m c.known_counts.result) c.after_a_node-inside.ensures ∙ ap (past (after 1 c.args.at)) counts in
    let At : NodeNumbers → Type 0 = λ m. HasRoom m (counts_of_all c.as_slice-second.result.now) in
    let Of : List Statement → Type 0 = λ zs. HasRoom (past (after 1 c.args.at) (counts_of_all c.in-If.first)) (counts_of_all zs) in
    let room : HasRoom c.past-further.result (counts_of_all c.as_slice-second.result.now) =
    subst At (sym further) (subst Of (sym c.as_slice-second.ensures)
    (if_room_second c.args.at c.args.statement.now c.in-If.test c.in-If.first c.in-If.second c.in-If.is c.requires.room)) in
    let tallied : c.part-in-If-2.result.now ≡ map tally_of c.as_slice-second.result.now =
    c.part-in-If-2.ensures
    ∙ second_part c.args.statement.now c.args.tally.now c.in-If.test c.in-If.first c.in-If.second c.in-If.is c.requires.tallied
    ∙ ap (map tally_of) (sym c.as_slice-second.ensures) in
    λ κs within. (search (rules, statement.the_lemmas), (search rules, (room, tallied)))

pub lay-known_statement_counts-requires-clause-tallied : goal.lay-known_statement_counts-requires-clause-tallied
lay-known_statement_counts-requires-clause-tallied g t c = search (rules, tally_at)

pub lay_statement-known_counts-requires-clause-tallied : goal.lay_statement-known_counts-requires-clause-tallied
lay_statement-known_counts-requires-clause-tallied g t c = search (rules, first_part)

pub lay-bounds-tallies-i : goal.lay-bounds-tallies-i
lay-bounds-tallies-i g t c = search (rules, within_tallies)
