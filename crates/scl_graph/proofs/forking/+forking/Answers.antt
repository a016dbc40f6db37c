use borrow.Author.Rules.{get_or_read}
use Rattle.std.proofs.Common.{rules, ◌≡◌, ℕ, ◌+◌, Some, List, [], ◌∷◌, drop, map, ap, sym, subst, ◌∙◌}
use Rattle.std.proofs.lemmas.List.{drop_all}
use Rattle.sc_graph.specs.declared.program.Node.{Node}
use Rattle.sc_graph.specs.declared.program.Thread.{Thread}
use Rattle.scl.specs.declared.statement.Statement.{Statement}
use Rattle.scl.specs.declared.statement.Statement.TheFolds as statement
use Rattle.scl_graph.specs.declared.numbers.NodeCounts.{NodeCounts}
use Rattle.scl_graph.specs.declared.numbers.NodeNumbers.{NodeNumbers}
use Rattle.scl_graph.specs.declared.way.Way.{Way}
use Rattle.scl_graph.specs.Counting.{AreSmall, counts_of, counts_of_all}
use Rattle.scl_graph.specs.Inside.Laying.{HasRoom, after, past}
use Rattle.scl_graph.specs.Inside.Tallies.{fork_tally, tally_of}
use Rattle.scl_graph.specs.Inside.Forking.{AreBranchesLaid, AreForkedLaid, HasBranchRoom, HasBranchesRoom, IsThreadLaid, inside, past_branch}
use Rattle.scl_graph.proofs.Laid.{ok_then, room_at, room_more, split_at}
use Rattle.scl_graph.proofs.Branching.{branch_room, branches_at, branches_more, branches_none, fork_room, forked_fork, forked_if, forked_more, forked_none}
use Rattle.scl_graph.proofs.Branching.{further_room, if_room_first, if_room_node, if_room_second, inner_room}
use Rattle.scl_graph.proofs.Tallied.{branch_part, first_part, fork_is, second_part, tally_at, within_tallies}
use Rattle.scl_graph.proofs.forking.+forking.Goals as goal

pub lay_forked-loop-i-init : goal.lay_forked-loop-i-init
lay_forked-loop-i-init g t c = record { room = c.requires.room; laid = λ news new h. h }

pub lay_forked-loop-i-preserved : goal.lay_forked-loop-i-preserved
lay_forked-loop-i-preserved g t c =
    let target : Way → ℕ = g.T.Targets.target c.args.targets.now in
    let o : ℕ = c.args.owner in
    let xs : List Statement = c.args.statements.now in
    let s : Statement = c.index-statements-i.result in
    let i : ℕ = c.loop-i.i in
    let rest : List Statement = drop (i + 1) xs in
    let here : NodeNumbers = c.loop-i.here in
    let x : List Thread = c.loop-i.laid.threads in
    let y : List Thread = c.lay_forked_by.new.laid.threads in
    let a : List Node = c.loop-i.laid.nodes in
    let b : List Node = c.lay_forked_by.new.laid.nodes in
    let split : drop i xs ≡ s ∷ rest = split_at xs i s c.loop-i-test.true c.index-statements-i.is in
    let next : c.past-here.result ≡ past here (counts_of s) = c.past-here.ensures ∙ ap (past here) c.known_statement_counts.ensures in
    let Room : NodeNumbers → Type 0 = λ m. HasRoom m (counts_of_all rest) in
    let Fits : List Statement → Type 0 = λ zs. HasRoom here (counts_of_all zs) in
    record {
      room = subst Room (sym next) (room_more here s rest (subst Fits split c.loop-i.invariant.room));
      laid = λ news new h.
          let Whole : List Statement → Type 0 = λ zs. AreForkedLaid target o zs here x news a new in
          let Others : NodeNumbers → Type 0 = λ m. AreForkedLaid target o rest m y news b new in
          c.loop-i.invariant.laid news new
          (subst Whole (sym split) (forked_more target o s rest here x y news a b new c.in_ok-lay_forked_by.ensures (subst Others next h)));
    }

pub lay_forked-returns : goal.lay_forked-returns
lay_forked-returns g t c =
    let target : Way → ℕ = g.T.Targets.target c.args.targets.now in
    let here : NodeNumbers = c.loop-i.here in
    let threads : List Thread = c.loop-i.laid.threads in
    let nodes : List Node = c.loop-i.laid.nodes in
    let Left : List Statement → Type 0 = λ zs. AreForkedLaid target c.args.owner zs here threads threads nodes nodes in
    c.loop-i.invariant.laid threads nodes
    (subst Left (sym (drop_all c.loop-i.i c.args.statements.now c.loop-i-test.false)) (forked_none target c.args.owner here threads nodes))

pub lay_forked_by-returns-in_ok-lay_forked-in-If : goal.lay_forked_by-returns-in_ok-lay_forked-in-If
lay_forked_by-returns-in_ok-lay_forked-in-If g t c =
    let target : Way → ℕ = g.T.Targets.target c.args.targets.now in
    let o : ℕ = c.args.owner in
    let s : Statement = c.args.statement.now in
    let at : NodeNumbers = c.args.at in
    let a : List Statement = c.in-If.first in
    let b : List Statement = c.in-If.second in
    let x : List Thread = c.args.laid.now.threads in
    let y : List Thread = c.lay_forked.new.laid.threads in
    let l : List Node = c.args.laid.now.nodes in
    let m : List Node = c.lay_forked.new.laid.nodes in
    let n : List Node = c.lay_forked-in-If.new.laid.nodes in
    let z : List Thread = c.lay_forked-in-If.new.laid.threads in
    let within : c.after_a_node-inside.result ≡ after 1 at = c.after_a_node-inside.ensures in
    let further : c.past-further.result ≡ past (after 1 at) (counts_of_all a) =
    c.past-further.ensures
    ∙ ap (λ k. past k c.known_counts.result) within
    ∙ ap (past (after 1 at)) (c.known_counts.ensures.counts ∙ ap counts_of_all c.as_slice-first.ensures) in
    let FirstAt : NodeNumbers → Type 0 = λ k. AreForkedLaid target o a k x y l m in
    let FirstOf : List Statement → Type 0 = λ zs. AreForkedLaid target o zs c.after_a_node-inside.result x y l m in
    let first : AreForkedLaid target o a (after 1 at) x y l m = subst FirstAt within (subst FirstOf c.as_slice-first.ensures c.in_ok-lay_forked-in-If.ensures)
    in
    let SecondAt : NodeNumbers → Type 0 = λ k. AreForkedLaid target o b k y z m n in
    let SecondOf : List Statement → Type 0 = λ zs. AreForkedLaid target o zs c.past-further.result y z m n in
    ok_then c.lay_forked-in-If.result
    (λ v. AreForkedLaid target o c.as_slice-second.result.now c.past-further.result y z m n)
    (λ v. AreForkedLaid target o (s ∷ []) at x z l n)
    (λ v h. forked_if target o s at x y z l m n c.in-If.test a b c.in-If.is first (subst SecondAt further (subst SecondOf c.as_slice-second.ensures h)))
    c.lay_forked-in-If.ensures

pub lay_forked_by-loop-place-init : goal.lay_forked_by-loop-place-init
lay_forked_by-loop-place-init g t c =
    let target : Way → ℕ = g.T.Targets.target c.args.targets.now in
    let o : ℕ = c.args.owner in
    let at : NodeNumbers = c.args.at in
    let x : List Thread = c.args.laid.now.threads in
    let a : List Node = c.args.laid.now.nodes in
    let Room : List (List Statement) → Type 0 = λ zs. HasBranchesRoom at zs in
    record {
      room = subst Room (sym c.as_slice-bodies.ensures) (fork_room at c.args.statement.now c.in-Fork.branches c.in-Fork.is c.requires.room);
      laid = λ news new h.
          let Of : List (List Statement) → Type 0 = λ zs. AreBranchesLaid target o zs at x news a new in
          forked_fork target o c.args.statement.now at x news a new c.in-Fork.branches c.in-Fork.is (subst Of c.as_slice-bodies.ensures h);
    }

pub lay_forked_by-loop-place-preserved : goal.lay_forked_by-loop-place-preserved
lay_forked_by-loop-place-preserved g t c =
    let target : Way → ℕ = g.T.Targets.target c.args.targets.now in
    let o : ℕ = c.args.owner in
    let here : NodeNumbers = c.loop-place.here in
    let items : List (List Statement) = c.as_slice-bodies.result.now in
    let i : ℕ = c.loop-place.place in
    let b : List Statement = c.index-bodies-place.result in
    let rest : List (List Statement) = drop (i + 1) items in
    let w : List Thread = c.loop-place.laid.threads in
    let x : List Thread = c.lay_thread.new.laid.threads in
    let y : List Thread = c.lay_forked-in-loop-place.new.laid.threads in
    let k : List Node = c.loop-place.laid.nodes in
    let l : List Node = c.lay_thread.new.laid.nodes in
    let m : List Node = c.lay_forked-in-loop-place.new.laid.nodes in
    let split : drop i items ≡ b ∷ rest = split_at items i b c.loop-place-test.true c.index-bodies-place.is in
    let counted : c.known_counts-counts.result ≡ counts_of_all b = c.known_counts-counts.ensures.counts ∙ ap counts_of_all c.as_slice-body.ensures in
    let inner : c.inside-inside.result ≡ inside here (counts_of_all b) = c.inside-inside.ensures ∙ ap (inside here) counted in
    let next : c.past_branch-here.result ≡ past_branch here (counts_of_all b) = c.past_branch-here.ensures ∙ ap (past_branch here) counted in
    let OneAt : NodeNumbers → Type 0 = λ n. IsThreadLaid target (Some o) here.thread b n w x k l in
    let OneOf : List Statement → Type 0 = λ zs. IsThreadLaid target (Some o) here.thread zs c.inside-inside.result w x k l in
    let one : IsThreadLaid target (Some o) here.thread b (inside here (counts_of_all b)) w x k l = subst OneAt inner
    (subst OneOf c.as_slice-body.ensures c.in_ok-lay_thread-in-Fork.ensures) in
    let NestedAt : NodeNumbers → Type 0 = λ n. AreForkedLaid target here.thread b n x y l m in
    let NestedOf : List Statement → Type 0 = λ zs. AreForkedLaid target here.thread zs c.inside-inside.result x y l m in
    let nested : AreForkedLaid target here.thread b (inside here (counts_of_all b)) x y l m = subst NestedAt inner
    (subst NestedOf c.as_slice-body.ensures c.in_ok-lay_forked-in-Fork.ensures) in
    let Fits : List (List Statement) → Type 0 = λ zs. HasBranchesRoom here zs in
    let Room : NodeNumbers → Type 0 = λ n. HasBranchesRoom n rest in
    record {
      room = subst Room (sym next) (further_room here b rest (subst Fits split c.loop-place.invariant.room));
      laid = λ news new h.
          let Whole : List (List Statement) → Type 0 = λ zs. AreBranchesLaid target o zs here w news k new in
          let Others : NodeNumbers → Type 0 = λ n. AreBranchesLaid target o rest n y news m new in
          c.loop-place.invariant.laid news new
          (subst Whole (sym split) (branches_more target o b rest here w x y news k l m new one nested (subst Others next h)));
    }

pub lay_forked_by-known_counts-counts-requires-clause-tallied : goal.lay_forked_by-known_counts-counts-requires-clause-tallied
lay_forked_by-known_counts-counts-requires-clause-tallied g t c =
    let items : List (List Statement) = c.as_slice-bodies.result.now in
    let i : ℕ = c.loop-place.place in
    let b : List Statement = c.index-bodies-place.result in
    let whole : c.args.tally.now ≡ fork_tally (map (map tally_of) items) =
    fork_is c.args.statement.now c.args.tally.now c.in-Fork.branches c.in-Fork.is c.requires.tallied
    ∙ ap (λ bs. fork_tally (map (map tally_of) bs)) (sym c.as_slice-bodies.ensures) in
    c.part-tallies.ensures
    ∙ branch_part c.args.tally.now items i b whole c.loop-place-test.true c.index-bodies-place.is
    ∙ ap (map tally_of) (sym c.as_slice-body.ensures)

pub lay_forked_by-lay_thread-requires-clause-tallied : goal.lay_forked_by-lay_thread-requires-clause-tallied
lay_forked_by-lay_thread-requires-clause-tallied g t c =
    let items : List (List Statement) = c.as_slice-bodies.result.now in
    let i : ℕ = c.loop-place.place in
    let b : List Statement = c.index-bodies-place.result in
    let whole : c.args.tally.now ≡ fork_tally (map (map tally_of) items) =
    fork_is c.args.statement.now c.args.tally.now c.in-Fork.branches c.in-Fork.is c.requires.tallied
    ∙ ap (λ bs. fork_tally (map (map tally_of) bs)) (sym c.as_slice-bodies.ensures) in
    c.part-tallies.ensures
    ∙ branch_part c.args.tally.now items i b whole c.loop-place-test.true c.index-bodies-place.is
    ∙ ap (map tally_of) (sym c.as_slice-body.ensures)

pub lay_forked-lay_forked_by-requires : goal.lay_forked-lay_forked_by-requires
lay_forked-lay_forked_by-requires g t c =
    let xs : List Statement = c.args.statements.now in
    let s : Statement = c.index-statements-i.result in
    let i : ℕ = c.loop-i.i in
    let room : HasRoom c.loop-i.here (counts_of s) = room_at c.loop-i.here xs i s c.loop-i.invariant.room c.loop-i-test.true c.index-statements-i.is in
    let tallied : c.index-tallies-i.result ≡ tally_of s =
    tally_at xs c.args.tallies.now i s c.index-tallies-i.result c.requires.tallied c.loop-i-test.true c.index-statements-i.is c.index-tallies-i.is in
    λ κs within. (search (rules, statement.the_lemmas, get_or_read), (search rules, (room, tallied)))

pub lay_forked-known_statement_counts-requires-clause-small : goal.lay_forked-known_statement_counts-requires-clause-small
lay_forked-known_statement_counts-requires-clause-small g t c =
    let s : Statement = c.index-statements-i.result in
    (room_at c.loop-i.here c.args.statements.now c.loop-i.i s c.loop-i.invariant.room c.loop-i-test.true c.index-statements-i.is).small

pub lay_forked-past-here-requires : goal.lay_forked-past-here-requires
lay_forked-past-here-requires g t c =
    let s : Statement = c.index-statements-i.result in
    let Fits : NodeCounts → Type 0 = λ k. HasRoom c.loop-i.here k in
    subst Fits (sym c.known_statement_counts.ensures)
    (room_at c.loop-i.here c.args.statements.now c.loop-i.i s c.loop-i.invariant.room c.loop-i-test.true c.index-statements-i.is)

pub lay_forked_by-after_a_node-inside-requires : goal.lay_forked_by-after_a_node-inside-requires
lay_forked_by-after_a_node-inside-requires g t c =
    if_room_node c.args.at c.args.statement.now c.in-If.test c.in-If.first c.in-If.second c.in-If.is c.requires.room

pub lay_forked_by-known_counts-requires-clause-small : goal.lay_forked_by-known_counts-requires-clause-small
lay_forked_by-known_counts-requires-clause-small g t c =
    let Small : List Statement → Type 0 = λ zs. AreSmall (counts_of_all zs) in
    subst Small (sym c.as_slice-first.ensures)
    (if_room_first c.args.at c.args.statement.now c.in-If.test c.in-If.first c.in-If.second c.in-If.is c.requires.room).small

pub lay_forked_by-past-further-requires : goal.lay_forked_by-past-further-requires
lay_forked_by-past-further-requires g t c =
    let counts : c.known_counts.result ≡ counts_of_all c.in-If.first = c.known_counts.ensures.counts ∙ ap counts_of_all c.as_slice-first.ensures in
    let At : NodeNumbers → Type 0 = λ m. HasRoom m c.known_counts.result in
    let Of : NodeCounts → Type 0 = λ k. HasRoom (after 1 c.args.at) k in
    subst At (sym c.after_a_node-inside.ensures)
    (subst Of (sym counts) (if_room_first c.args.at c.args.statement.now c.in-If.test c.in-If.first c.in-If.second c.in-If.is c.requires.room))

pub lay_forked_by-lay_forked-requires : goal.lay_forked_by-lay_forked-requires
lay_forked_by-lay_forked-requires g t c =
    let At : NodeNumbers → Type 0 = λ m. HasRoom m (counts_of_all c.as_slice-first.result.now) in
    let Of : List Statement → Type 0 = λ zs. HasRoom (after 1 c.args.at) (counts_of_all zs) in
    let room : HasRoom c.after_a_node-inside.result (counts_of_all c.as_slice-first.result.now) =
    subst At (sym c.after_a_node-inside.ensures) (subst Of (sym c.as_slice-first.ensures)
    (if_room_first c.args.at c.args.statement.now c.in-If.test c.in-If.first c.in-If.second c.in-If.is c.requires.room)) in
    let tallied : c.part-in-If.result.now ≡ map tally_of c.as_slice-first.result.now =
    c.part-in-If.ensures
    ∙ first_part c.args.statement.now c.args.tally.now c.in-If.test c.in-If.first c.in-If.second c.in-If.is c.requires.tallied
    ∙ ap (map tally_of) (sym c.as_slice-first.ensures) in
    λ κs within. (search (rules, statement.the_lemmas), (search rules, (room, tallied)))

pub lay_forked_by-lay_forked-requires-in-If : goal.lay_forked_by-lay_forked-requires-in-If
lay_forked_by-lay_forked-requires-in-If g t c =
    let counts : c.known_counts.result ≡ counts_of_all c.in-If.first = c.known_counts.ensures.counts ∙ ap counts_of_all c.as_slice-first.ensures in
    let further : c.past-further.result ≡ past (after 1 c.args.at) (counts_of_all c.in-If.first) =
    c.past-further.ensures ∙ ap (λ m. past m c.known_counts.result) c.after_a_node-inside.ensures ∙ ap (past (after 1 c.args.at)) counts in
    let At : NodeNumbers → Type 0 = λ m. HasRoom m (counts_of_all c.as_slice-second.result.now) in
    let Of : List Statement → Type 0 = λ zs. HasRoom (past (after 1 c.args.at) (counts_of_all c.in-If.first)) (counts_of_all zs) in
    let room : HasRoom c.past-further.result (counts_of_all c.as_slice-second.result.now) =
    subst At (sym further) (subst Of (sym c.as_slice-second.ensures)
    (if_room_second c.args.at c.args.statement.now c.in-If.test c.in-If.first c.in-If.second c.in-If.is c.requires.room)) in
    let tallied : c.part-in-If-2.result.now ≡ map tally_of c.as_slice-second.result.now =
    c.part-in-If-2.ensures
    ∙ second_part c.args.statement.now c.args.tally.now c.in-If.test c.in-If.first c.in-If.second c.in-If.is c.requires.tallied
    ∙ ap (map tally_of) (sym c.as_slice-second.ensures) in
    λ κs within. (search (rules, statement.the_lemmas), (search rules, (room, tallied)))

pub lay_forked_by-known_counts-counts-requires-clause-small : goal.lay_forked_by-known_counts-counts-requires-clause-small
lay_forked_by-known_counts-counts-requires-clause-small g t c =
    let items : List (List Statement) = c.as_slice-bodies.result.now in
    let i : ℕ = c.loop-place.place in
    let here : NodeNumbers = c.loop-place.here in
    let body : List Statement = c.as_slice-body.result.now in
    let room : HasBranchesRoom here (body ∷ drop (i + 1) items) =
    branches_at here items i c.index-bodies-place.result body c.loop-place.invariant.room c.loop-place-test.true c.index-bodies-place.is
    c.as_slice-body.ensures in
    (inner_room here body (drop (i + 1) items) room).small

pub lay_forked_by-inside-inside-requires : goal.lay_forked_by-inside-inside-requires
lay_forked_by-inside-inside-requires g t c =
    let items : List (List Statement) = c.as_slice-bodies.result.now in
    let i : ℕ = c.loop-place.place in
    let here : NodeNumbers = c.loop-place.here in
    let body : List Statement = c.as_slice-body.result.now in
    let room : HasBranchesRoom here (body ∷ drop (i + 1) items) =
    branches_at here items i c.index-bodies-place.result body c.loop-place.invariant.room c.loop-place-test.true c.index-bodies-place.is
    c.as_slice-body.ensures in
    let Fits : NodeCounts → Type 0 = λ k. HasBranchRoom here k in
    subst Fits (sym c.known_counts-counts.ensures.counts) (branch_room here body (drop (i + 1) items) room)

pub lay_forked_by-lay_thread-requires-clause-room : goal.lay_forked_by-lay_thread-requires-clause-room
lay_forked_by-lay_thread-requires-clause-room g t c =
    let items : List (List Statement) = c.as_slice-bodies.result.now in
    let i : ℕ = c.loop-place.place in
    let here : NodeNumbers = c.loop-place.here in
    let body : List Statement = c.as_slice-body.result.now in
    let room : HasBranchesRoom here (body ∷ drop (i + 1) items) =
    branches_at here items i c.index-bodies-place.result body c.loop-place.invariant.room c.loop-place-test.true c.index-bodies-place.is
    c.as_slice-body.ensures in
    let Fits : NodeNumbers → Type 0 = λ m. HasRoom m (counts_of_all body) in
    let within : c.inside-inside.result ≡ inside here (counts_of_all body) = c.inside-inside.ensures ∙ ap (inside here) c.known_counts-counts.ensures.counts in
    subst Fits (sym within) (inner_room here body (drop (i + 1) items) room)

pub lay_forked_by-lay_forked-requires-in-loop-place : goal.lay_forked_by-lay_forked-requires-in-loop-place
lay_forked_by-lay_forked-requires-in-loop-place g t c =
    let items : List (List Statement) = c.as_slice-bodies.result.now in
    let i : ℕ = c.loop-place.place in
    let here : NodeNumbers = c.loop-place.here in
    let body : List Statement = c.as_slice-body.result.now in
    let room : HasBranchesRoom here (body ∷ drop (i + 1) items) =
    branches_at here items i c.index-bodies-place.result body c.loop-place.invariant.room c.loop-place-test.true c.index-bodies-place.is
    c.as_slice-body.ensures in
    let Fits : NodeNumbers → Type 0 = λ m. HasRoom m (counts_of_all body) in
    let within : c.inside-inside.result ≡ inside here (counts_of_all body) = c.inside-inside.ensures ∙ ap (inside here) c.known_counts-counts.ensures.counts in
    let inner : HasRoom c.inside-inside.result (counts_of_all body) = subst Fits (sym within) (inner_room here body (drop (i + 1) items) room) in
    λ κs lives. (search (rules, statement.the_lemmas, get_or_read), (search rules, (inner, c.known_counts-counts.ensures.tallied)))

pub lay_forked_by-past_branch-here-requires : goal.lay_forked_by-past_branch-here-requires
lay_forked_by-past_branch-here-requires g t c =
    let items : List (List Statement) = c.as_slice-bodies.result.now in
    let i : ℕ = c.loop-place.place in
    let here : NodeNumbers = c.loop-place.here in
    let body : List Statement = c.as_slice-body.result.now in
    let room : HasBranchesRoom here (body ∷ drop (i + 1) items) =
    branches_at here items i c.index-bodies-place.result body c.loop-place.invariant.room c.loop-place-test.true c.index-bodies-place.is
    c.as_slice-body.ensures in
    let Fits : NodeCounts → Type 0 = λ k. HasBranchRoom here k in
    subst Fits (sym c.known_counts-counts.ensures.counts) (branch_room here body (drop (i + 1) items) room)

pub lay_forked_by-returns-after-loop-place : goal.lay_forked_by-returns-after-loop-place
lay_forked_by-returns-after-loop-place g t c =
    let target : Way → ℕ = g.T.Targets.target c.args.targets.now in
    let here : NodeNumbers = c.loop-place.here in
    let threads : List Thread = c.loop-place.laid.threads in
    let nodes : List Node = c.loop-place.laid.nodes in
    let Left : List (List Statement) → Type 0 = λ zs. AreBranchesLaid target c.args.owner zs here threads threads nodes nodes in
    c.loop-place.invariant.laid threads nodes (subst Left (sym (drop_all c.loop-place.place c.as_slice-bodies.result.now c.loop-place-test.false))
    (branches_none target c.args.owner here threads nodes))

pub lay_forked-known_statement_counts-requires-clause-tallied : goal.lay_forked-known_statement_counts-requires-clause-tallied
lay_forked-known_statement_counts-requires-clause-tallied g t c = search (rules, tally_at)

pub lay_forked_by-known_counts-requires-clause-tallied : goal.lay_forked_by-known_counts-requires-clause-tallied
lay_forked_by-known_counts-requires-clause-tallied g t c = search (rules, first_part)

pub lay_forked-bounds-tallies-i : goal.lay_forked-bounds-tallies-i
lay_forked-bounds-tallies-i g t c = search (rules, within_tallies)
