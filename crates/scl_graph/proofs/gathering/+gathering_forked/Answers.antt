use borrow.Author.Rules.{get_or_read}
use Rattle.std.proofs.Common.{rules, arith, ◌≡◌, ℕ, ◌+◌, List, [], ◌∷◌, drop, map, ap, sym, subst, ◌∙◌}
use Rattle.std.proofs.lemmas.Grind.{common_steps}
use Rattle.std.proofs.lemmas.List.{drop_all}
use Rattle.scl.specs.declared.statement.Statement.{Statement}
use Rattle.scl.specs.declared.statement.Statement.TheFolds as statement
use Rattle.scl_graph.specs.declared.landing.Landing.{Landing}
use Rattle.scl_graph.specs.declared.landing.Landing.TheVariants as lands
use Rattle.scl_graph.specs.declared.numbers_ahead.NumbersAhead.{NumbersAhead}
use Rattle.scl_graph.specs.declared.totals.Totals.{Totals}
use Rattle.scl_graph.specs.Inside.Totals.{AreCounted, HasBranchRoom, HasBranchesRoom, HasRoom, after, inside, past, past_branch, totals_of, totals_of_all}
use Rattle.scl_graph.specs.Inside.Tallies.{fork_tally, tally_of}
use Rattle.scl_graph.specs.Inside.Gathering.{AreBranchesGathered, AreForkedGathered, IsGathered, Noted}
use Rattle.scl_graph.proofs.Laid.{ok_then, split_at}
use Rattle.scl_graph.proofs.GatheredBelow.{branches_gathered_more, branches_gathered_none, lower_fork, lower_if, lower_more, lower_none}
use Rattle.scl_graph.proofs.NumberRooms.{numbers_branch_room, numbers_branches_at, numbers_fork_room, numbers_further_room, numbers_if_first}
use Rattle.scl_graph.proofs.NumberRooms.{numbers_if_node, numbers_if_second, numbers_inner_room, numbers_room_at, numbers_room_more}
use Rattle.scl_graph.proofs.Tallied.{branch_part, first_part, fork_is, second_part, tally_at, within_tallies}
use Rattle.scl_graph.proofs.gathering.+gathering_forked.Goals as goal

pub gather_forked-loop-i-init : goal.gather_forked-loop-i-init
gather_forked-loop-i-init t c = record { room = c.requires.room; gathered = λ new h. h }

pub gather_forked-loop-i-preserved : goal.gather_forked-loop-i-preserved
gather_forked-loop-i-preserved t c =
    let xs : List Statement = c.args.statements.now in
    let s : Statement = c.index-statements-i.result in
    let i : ℕ = c.loop-i.i in
    let rest : List Statement = drop (i + 1) xs in
    let here : NumbersAhead = c.loop-i.here in
    let x : Noted = c.loop-i.labels in
    let y : Noted = c.gather_forked_by.new.labels in
    let split : drop i xs ≡ s ∷ rest = split_at xs i s c.loop-i-test.true c.index-statements-i.is in
    let next : c.past-here.result ≡ past here (totals_of s) = c.past-here.ensures ∙ ap (past here) c.known_statement_totals.ensures in
    let Room : NumbersAhead → Type 0 = λ m. HasRoom m (totals_of_all rest) in
    let Fits : List Statement → Type 0 = λ zs. HasRoom here (totals_of_all zs) in
    record {
      room = subst Room (sym next) (numbers_room_more here s rest (subst Fits split c.loop-i.invariant.room));
      gathered = λ new h.
          let Whole : List Statement → Type 0 = λ zs. AreForkedGathered zs here x new in
          let Others : NumbersAhead → Type 0 = λ m. AreForkedGathered rest m y new in
          c.loop-i.invariant.gathered new (subst Whole (sym split) (lower_more s rest here x y new c.in_ok-gather_forked_by.ensures (subst Others next h)));
    }

pub gather_forked-returns : goal.gather_forked-returns
gather_forked-returns t c =
    let here : NumbersAhead = c.loop-i.here in
    let labels : Noted = c.loop-i.labels in
    let Left : List Statement → Type 0 = λ zs. AreForkedGathered zs here labels labels in
    c.loop-i.invariant.gathered labels (subst Left (sym (drop_all c.loop-i.i c.args.statements.now c.loop-i-test.false)) (lower_none here labels))

pub gather_forked_by-returns-in_ok-gather_forked-in-If : goal.gather_forked_by-returns-in_ok-gather_forked-in-If
gather_forked_by-returns-in_ok-gather_forked-in-If t c =
    let s : Statement = c.args.statement.now in
    let at : NumbersAhead = c.args.at in
    let a : List Statement = c.in-If.first in
    let b : List Statement = c.in-If.second in
    let x : Noted = c.args.labels.now in
    let y : Noted = c.gather_forked.new.labels in
    let z : Noted = c.gather_forked-in-If.new.labels in
    let within : c.after_a_node-inside.result ≡ after 1 at = c.after_a_node-inside.ensures in
    let further : c.past-further.result ≡ past (after 1 at) (totals_of_all a) =
    c.past-further.ensures
    ∙ ap (λ k. past k c.known_totals.result) within
    ∙ ap (past (after 1 at)) (c.known_totals.ensures.totals ∙ ap totals_of_all c.as_slice-first.ensures) in
    let FirstAt : NumbersAhead → Type 0 = λ k. AreForkedGathered a k x y in
    let FirstOf : List Statement → Type 0 = λ zs. AreForkedGathered zs c.after_a_node-inside.result x y in
    let first : AreForkedGathered a (after 1 at) x y = subst FirstAt within (subst FirstOf c.as_slice-first.ensures c.in_ok-gather_forked-in-If.ensures) in
    let SecondAt : NumbersAhead → Type 0 = λ k. AreForkedGathered b k y z in
    let SecondOf : List Statement → Type 0 = λ zs. AreForkedGathered zs c.past-further.result y z in
    ok_then c.gather_forked-in-If.result
    (λ v. AreForkedGathered c.as_slice-second.result.now c.past-further.result y z)
    (λ v. AreForkedGathered (s ∷ []) at x z)
    (λ v h. lower_if s at x y z c.in-If.test a b c.in-If.is first (subst SecondAt further (subst SecondOf c.as_slice-second.ensures h)))
    c.gather_forked-in-If.ensures

pub gather_forked_by-loop-place-init : goal.gather_forked_by-loop-place-init
gather_forked_by-loop-place-init t c =
    let at : NumbersAhead = c.args.at in
    let x : Noted = c.args.labels.now in
    let Room : List (List Statement) → Type 0 = λ zs. HasBranchesRoom at zs in
    record {
      room = subst Room (sym c.as_slice-bodies.ensures) (numbers_fork_room at c.args.statement.now c.in-Fork.branches c.in-Fork.is c.requires.room);
      gathered = λ new h.
          let Of : List (List Statement) → Type 0 = λ zs. AreBranchesGathered zs at x new in
          lower_fork c.args.statement.now at x new c.in-Fork.branches c.in-Fork.is (subst Of c.as_slice-bodies.ensures h);
    }

pub gather_forked_by-loop-place-preserved : goal.gather_forked_by-loop-place-preserved
gather_forked_by-loop-place-preserved t c =
    let here : NumbersAhead = c.loop-place.here in
    let items : List (List Statement) = c.as_slice-bodies.result.now in
    let i : ℕ = c.loop-place.place in
    let b : List Statement = c.index-bodies-place.result in
    let rest : List (List Statement) = drop (i + 1) items in
    let w : Noted = c.loop-place.labels in
    let x : Noted = c.gather.new.labels in
    let y : Noted = c.gather_forked-in-loop-place.new.labels in
    let split : drop i items ≡ b ∷ rest = split_at items i b c.loop-place-test.true c.index-bodies-place.is in
    let counted : c.known_totals-totals.result ≡ totals_of_all b = c.known_totals-totals.ensures.totals ∙ ap totals_of_all c.as_slice-body.ensures in
    let inner : c.inside-inside.result ≡ inside here (totals_of_all b) = c.inside-inside.ensures ∙ ap (inside here) counted in
    let next : c.past_branch-here.result ≡ past_branch here (totals_of_all b) = c.past_branch-here.ensures ∙ ap (past_branch here) counted in
    let EndAt : NumbersAhead → Totals → Landing = λ m k. lands.Node (m.node + k.nodes) in
    let OneOf : List Statement → Type 0 = λ zs. IsGathered zs c.inside-inside.result (EndAt c.inside-inside.result c.known_totals-totals.result) w x in
    let OneAt : NumbersAhead → Type 0 = λ m. IsGathered b m (EndAt m c.known_totals-totals.result) w x in
    let OneEnd : Totals → Type 0 = λ k. IsGathered b (inside here (totals_of_all b)) (EndAt (inside here (totals_of_all b)) k) w x in
    let one : IsGathered b (inside here (totals_of_all b)) (EndAt (inside here (totals_of_all b)) (totals_of_all b)) w x =
    subst OneEnd counted (subst OneAt inner (subst OneOf c.as_slice-body.ensures c.in_ok-gather-in-Fork.ensures)) in
    let NestedAt : NumbersAhead → Type 0 = λ m. AreForkedGathered b m x y in
    let NestedOf : List Statement → Type 0 = λ zs. AreForkedGathered zs c.inside-inside.result x y in
    let nested : AreForkedGathered b (inside here (totals_of_all b)) x y = subst NestedAt inner
    (subst NestedOf c.as_slice-body.ensures c.in_ok-gather_forked-in-Fork.ensures) in
    let Fits : List (List Statement) → Type 0 = λ zs. HasBranchesRoom here zs in
    let Room : NumbersAhead → Type 0 = λ m. HasBranchesRoom m rest in
    record {
      room = subst Room (sym next) (numbers_further_room here b rest (subst Fits split c.loop-place.invariant.room));
      gathered = λ new h.
          let Whole : List (List Statement) → Type 0 = λ zs. AreBranchesGathered zs here w new in
          let Others : NumbersAhead → Type 0 = λ m. AreBranchesGathered rest m y new in
          c.loop-place.invariant.gathered new (subst Whole (sym split) (branches_gathered_more b rest here w x y new one nested (subst Others next h)));
    }

pub gather_forked_by-returns-after-loop-place : goal.gather_forked_by-returns-after-loop-place
gather_forked_by-returns-after-loop-place t c =
    let here : NumbersAhead = c.loop-place.here in
    let labels : Noted = c.loop-place.labels in
    let Left : List (List Statement) → Type 0 = λ zs. AreBranchesGathered zs here labels labels in
    c.loop-place.invariant.gathered labels (subst Left (sym (drop_all c.loop-place.place c.as_slice-bodies.result.now c.loop-place-test.false))
    (branches_gathered_none here labels))

pub gather_forked_by-known_totals-totals-requires-clause-tallied : goal.gather_forked_by-known_totals-totals-requires-clause-tallied
gather_forked_by-known_totals-totals-requires-clause-tallied t c =
    let items : List (List Statement) = c.as_slice-bodies.result.now in
    let i : ℕ = c.loop-place.place in
    let whole : c.args.tally.now ≡ fork_tally (map (map tally_of) items) =
    fork_is c.args.statement.now c.args.tally.now c.in-Fork.branches c.in-Fork.is c.requires.tallied
    ∙ ap (λ bs. fork_tally (map (map tally_of) bs)) (sym c.as_slice-bodies.ensures) in
    c.part-tallies.ensures
    ∙ branch_part c.args.tally.now items i c.index-bodies-place.result whole c.loop-place-test.true c.index-bodies-place.is
    ∙ ap (map tally_of) (sym c.as_slice-body.ensures)

pub gather_forked-gather_forked_by-requires : goal.gather_forked-gather_forked_by-requires
gather_forked-gather_forked_by-requires t c =
    let xs : List Statement = c.args.statements.now in
    let s : Statement = c.index-statements-i.result in
    let i : ℕ = c.loop-i.i in
    let room : HasRoom c.loop-i.here (totals_of s) = numbers_room_at c.loop-i.here xs i s c.loop-i.invariant.room c.loop-i-test.true c.index-statements-i.is in
    let tallied : c.index-tallies-i.result ≡ tally_of s =
    tally_at xs c.args.tallies.now i s c.index-tallies-i.result c.requires.tallied c.loop-i-test.true c.index-statements-i.is c.index-tallies-i.is in
    (search (rules, statement.the_lemmas, get_or_read), (room, tallied))

pub gather_forked-past-here-requires : goal.gather_forked-past-here-requires
gather_forked-past-here-requires t c =
    let s : Statement = c.index-statements-i.result in
    let Fits : Totals → Type 0 = λ k. HasRoom c.loop-i.here k in
    subst Fits (sym c.known_statement_totals.ensures)
    (numbers_room_at c.loop-i.here c.args.statements.now c.loop-i.i s c.loop-i.invariant.room c.loop-i-test.true c.index-statements-i.is)

pub gather_forked_by-after_a_node-inside-requires : goal.gather_forked_by-after_a_node-inside-requires
gather_forked_by-after_a_node-inside-requires t c =
    numbers_if_node c.args.at c.args.statement.now c.in-If.test c.in-If.first c.in-If.second c.in-If.is c.requires.room

pub gather_forked_by-known_totals-requires-clause-counted : goal.gather_forked_by-known_totals-requires-clause-counted
gather_forked_by-known_totals-requires-clause-counted t c =
    let Small : List Statement → Type 0 = λ zs. AreCounted (totals_of_all zs) in
    subst Small (sym c.as_slice-first.ensures)
    (numbers_if_first c.args.at c.args.statement.now c.in-If.test c.in-If.first c.in-If.second c.in-If.is c.requires.room).counted

pub gather_forked_by-past-further-requires : goal.gather_forked_by-past-further-requires
gather_forked_by-past-further-requires t c =
    let counts : c.known_totals.result ≡ totals_of_all c.in-If.first = c.known_totals.ensures.totals ∙ ap totals_of_all c.as_slice-first.ensures in
    let At : NumbersAhead → Type 0 = λ m. HasRoom m c.known_totals.result in
    let Of : Totals → Type 0 = λ k. HasRoom (after 1 c.args.at) k in
    subst At (sym c.after_a_node-inside.ensures)
    (subst Of (sym counts) (numbers_if_first c.args.at c.args.statement.now c.in-If.test c.in-If.first c.in-If.second c.in-If.is c.requires.room))

pub gather_forked_by-gather_forked-requires : goal.gather_forked_by-gather_forked-requires
gather_forked_by-gather_forked-requires t c =
    let At : NumbersAhead → Type 0 = λ m. HasRoom m (totals_of_all c.as_slice-first.result.now) in
    let Of : List Statement → Type 0 = λ zs. HasRoom (after 1 c.args.at) (totals_of_all zs) in
    let room : HasRoom c.after_a_node-inside.result (totals_of_all c.as_slice-first.result.now) =
    subst At (sym c.after_a_node-inside.ensures) (subst Of (sym c.as_slice-first.ensures)
    (numbers_if_first c.args.at c.args.statement.now c.in-If.test c.in-If.first c.in-If.second c.in-If.is c.requires.room)) in
    let tallied : c.part-in-If.result.now ≡ map tally_of c.as_slice-first.result.now =
    c.part-in-If.ensures
    ∙ first_part c.args.statement.now c.args.tally.now c.in-If.test c.in-If.first c.in-If.second c.in-If.is c.requires.tallied
    ∙ ap (map tally_of) (sym c.as_slice-first.ensures) in
    (search (rules, statement.the_lemmas), (room, tallied))

pub gather_forked_by-gather_forked-requires-in-If : goal.gather_forked_by-gather_forked-requires-in-If
gather_forked_by-gather_forked-requires-in-If t c =
    let counts : c.known_totals.result ≡ totals_of_all c.in-If.first = c.known_totals.ensures.totals ∙ ap totals_of_all c.as_slice-first.ensures in
    let further : c.past-further.result ≡ past (after 1 c.args.at) (totals_of_all c.in-If.first) =
    c.past-further.ensures ∙ ap (λ m. past m c.known_totals.result) c.after_a_node-inside.ensures ∙ ap (past (after 1 c.args.at)) counts in
    let At : NumbersAhead → Type 0 = λ m. HasRoom m (totals_of_all c.as_slice-second.result.now) in
    let Of : List Statement → Type 0 = λ zs. HasRoom (past (after 1 c.args.at) (totals_of_all c.in-If.first)) (totals_of_all zs) in
    let room : HasRoom c.past-further.result (totals_of_all c.as_slice-second.result.now) =
    subst At (sym further) (subst Of (sym c.as_slice-second.ensures)
    (numbers_if_second c.args.at c.args.statement.now c.in-If.test c.in-If.first c.in-If.second c.in-If.is c.requires.room)) in
    let tallied : c.part-in-If-2.result.now ≡ map tally_of c.as_slice-second.result.now =
    c.part-in-If-2.ensures
    ∙ second_part c.args.statement.now c.args.tally.now c.in-If.test c.in-If.first c.in-If.second c.in-If.is c.requires.tallied
    ∙ ap (map tally_of) (sym c.as_slice-second.ensures) in
    (search (rules, statement.the_lemmas), (room, tallied))

pub gather_forked_by-known_totals-totals-requires-clause-counted : goal.gather_forked_by-known_totals-totals-requires-clause-counted
gather_forked_by-known_totals-totals-requires-clause-counted t c =
    let items : List (List Statement) = c.as_slice-bodies.result.now in
    let i : ℕ = c.loop-place.place in
    let here : NumbersAhead = c.loop-place.here in
    let body : List Statement = c.as_slice-body.result.now in
    let room : HasBranchesRoom here (body ∷ drop (i + 1) items) =
    numbers_branches_at here items i c.index-bodies-place.result body c.loop-place.invariant.room c.loop-place-test.true c.index-bodies-place.is
    c.as_slice-body.ensures in
    (numbers_inner_room here body (drop (i + 1) items) room).counted

pub gather_forked_by-inside-inside-requires : goal.gather_forked_by-inside-inside-requires
gather_forked_by-inside-inside-requires t c =
    let items : List (List Statement) = c.as_slice-bodies.result.now in
    let i : ℕ = c.loop-place.place in
    let here : NumbersAhead = c.loop-place.here in
    let body : List Statement = c.as_slice-body.result.now in
    let room : HasBranchesRoom here (body ∷ drop (i + 1) items) =
    numbers_branches_at here items i c.index-bodies-place.result body c.loop-place.invariant.room c.loop-place-test.true c.index-bodies-place.is
    c.as_slice-body.ensures in
    let Fits : Totals → Type 0 = λ k. HasBranchRoom here k in
    subst Fits (sym c.known_totals-totals.ensures.totals) (numbers_branch_room here body (drop (i + 1) items) room)

pub gather_forked_by-gather-requires-clause-room : goal.gather_forked_by-gather-requires-clause-room
gather_forked_by-gather-requires-clause-room t c =
    let items : List (List Statement) = c.as_slice-bodies.result.now in
    let i : ℕ = c.loop-place.place in
    let here : NumbersAhead = c.loop-place.here in
    let body : List Statement = c.as_slice-body.result.now in
    let room : HasBranchesRoom here (body ∷ drop (i + 1) items) =
    numbers_branches_at here items i c.index-bodies-place.result body c.loop-place.invariant.room c.loop-place-test.true c.index-bodies-place.is
    c.as_slice-body.ensures in
    let Fits : NumbersAhead → Type 0 = λ m. HasRoom m (totals_of_all body) in
    let within : c.inside-inside.result ≡ inside here (totals_of_all body) = c.inside-inside.ensures ∙ ap (inside here) c.known_totals-totals.ensures.totals in
    subst Fits (sym within) (numbers_inner_room here body (drop (i + 1) items) room)

pub gather_forked_by-gather_forked-requires-in-loop-place : goal.gather_forked_by-gather_forked-requires-in-loop-place
gather_forked_by-gather_forked-requires-in-loop-place t c =
    let items : List (List Statement) = c.as_slice-bodies.result.now in
    let i : ℕ = c.loop-place.place in
    let here : NumbersAhead = c.loop-place.here in
    let body : List Statement = c.as_slice-body.result.now in
    let room : HasBranchesRoom here (body ∷ drop (i + 1) items) =
    numbers_branches_at here items i c.index-bodies-place.result body c.loop-place.invariant.room c.loop-place-test.true c.index-bodies-place.is
    c.as_slice-body.ensures in
    let Fits : NumbersAhead → Type 0 = λ m. HasRoom m (totals_of_all body) in
    let within : c.inside-inside.result ≡ inside here (totals_of_all body) = c.inside-inside.ensures ∙ ap (inside here) c.known_totals-totals.ensures.totals in
    let inner : HasRoom c.inside-inside.result (totals_of_all body) = subst Fits (sym within) (numbers_inner_room here body (drop (i + 1) items) room) in
    (grind (statement.the_lemmas, arith, common_steps) steps 2000000, (inner, c.known_totals-totals.ensures.tallied))

pub gather_forked_by-past_branch-here-requires : goal.gather_forked_by-past_branch-here-requires
gather_forked_by-past_branch-here-requires t c =
    let items : List (List Statement) = c.as_slice-bodies.result.now in
    let i : ℕ = c.loop-place.place in
    let here : NumbersAhead = c.loop-place.here in
    let body : List Statement = c.as_slice-body.result.now in
    let room : HasBranchesRoom here (body ∷ drop (i + 1) items) =
    numbers_branches_at here items i c.index-bodies-place.result body c.loop-place.invariant.room c.loop-place-test.true c.index-bodies-place.is
    c.as_slice-body.ensures in
    let Fits : Totals → Type 0 = λ k. HasBranchRoom here k in
    subst Fits (sym c.known_totals-totals.ensures.totals) (numbers_branch_room here body (drop (i + 1) items) room)

pub gather_forked-known_statement_totals-requires : goal.gather_forked-known_statement_totals-requires
gather_forked-known_statement_totals-requires t c = search (rules, tally_at)

pub gather_forked_by-known_totals-requires-clause-tallied : goal.gather_forked_by-known_totals-requires-clause-tallied
gather_forked_by-known_totals-requires-clause-tallied t c = search (rules, first_part)

pub gather_forked-bounds-tallies-i : goal.gather_forked-bounds-tallies-i
gather_forked-bounds-tallies-i t c = search (rules, within_tallies)
