use borrow.Author.Rules.{get_or_read}
use Rattle.std.proofs.Common.{rules, ◌≡◌, ℕ, ◌+◌, List, [], ◌∷◌, drop, map, ap, sym, subst, ◌∙◌}
use Rattle.std.proofs.lemmas.List.{drop_all, take_rest}
use Rattle.scl.specs.declared.statement.Statement.{Statement}
use Rattle.scl.specs.declared.statement.Statement.TheFolds as statement
use Rattle.scl.specs.declared.statement.Statement.TheViews.{out-Statement}
use Rattle.scl_graph.specs.declared.landing.Landing.{Landing}
use Rattle.scl_graph.specs.declared.numbers_ahead.NumbersAhead.{NumbersAhead}
use Rattle.scl_graph.specs.declared.totals.Totals.{Totals}
use Rattle.scl_graph.specs.Inside.Tallies.{tally_of}
use Rattle.scl_graph.specs.Inside.Totals.{AreCounted, HasRoom, after, past, totals_of, totals_of_all}
use Rattle.scl_graph.specs.Inside.Gathering.{IsGathered, Noted, landing_behind, landing_in}
use Rattle.scl_graph.proofs.Laid.{ok_then, split_at}
use Rattle.scl_graph.proofs.Gathered.{gathered_if, gathered_more, gathered_none, lands_behind}
use Rattle.scl_graph.proofs.NumberRooms.{numbers_if_first, numbers_if_node, numbers_if_second, numbers_room_at, numbers_room_more}
use Rattle.scl_graph.proofs.Tallied.{first_part, second_part, tally_at, within_tallies}
use Rattle.scl_graph.proofs.gathering.+gathering.Goals as goal

pub gather-loop-i-init : goal.gather-loop-i-init
gather-loop-i-init t c = record { room = c.requires.room; ahead = c.landing_of-ahead.ensures; gathered = λ new h. h }

pub gather-loop-i-preserved : goal.gather-loop-i-preserved
gather-loop-i-preserved t c =
    let xs : List Statement = c.args.statements.now in
    let s : Statement = c.index-statements-i.result in
    let i : ℕ = c.loop-i.i in
    let rest : List Statement = drop (i + 1) xs in
    let here : NumbersAhead = c.loop-i.here in
    let behind : Landing = c.args.behind.now in
    let old : Noted = c.loop-i.labels in
    let middle : Noted = c.gather_statement.new.labels in
    let split : drop i xs ≡ s ∷ rest = split_at xs i s c.loop-i-test.true c.index-statements-i.is in
    let next : c.past-next.result ≡ past here (totals_of s) = c.past-next.ensures ∙ ap (past here) c.known_statement_totals.ensures in
    let ahead : c.loop-i.ahead ≡ landing_in (s ∷ rest) here.node here.goto behind =
    c.loop-i.invariant.ahead ∙ ap (λ zs. landing_in zs here.node here.goto behind) split in
    let leads : c.landing_behind-leads.result ≡ landing_in rest (past here (totals_of s)).node (past here (totals_of s)).goto behind =
    c.landing_behind-leads.ensures
    ∙ ap (λ zs. landing_behind (out-Statement s) zs c.past-next.result c.loop-i.ahead behind) (take_rest xs (i + 1))
    ∙ ap (λ m. landing_behind (out-Statement s) rest m c.loop-i.ahead behind) next
    ∙ lands_behind s rest here c.loop-i.ahead behind ahead in
    let Room : NumbersAhead → Type 0 = λ m. HasRoom m (totals_of_all rest) in
    let Fits : List Statement → Type 0 = λ zs. HasRoom here (totals_of_all zs) in
    let One : Landing → Type 0 = λ w. IsGathered (s ∷ []) here w old middle in
    record {
      room = subst Room (sym next) (numbers_room_more here s rest (subst Fits split c.loop-i.invariant.room));
      ahead = leads ∙ ap (λ m. landing_in rest m.node m.goto behind) (sym next);
      gathered = λ new h.
          let Whole : List Statement → Type 0 = λ zs. IsGathered zs here behind old new in
          let Others : NumbersAhead → Type 0 = λ m. IsGathered rest m behind middle new in
          c.loop-i.invariant.gathered new
          (subst Whole (sym split) (gathered_more s rest here behind old middle new (subst One leads c.in_ok-gather_statement.ensures)
          (subst Others next h)));
    }

pub gather-returns : goal.gather-returns
gather-returns t c =
    let labels : Noted = c.loop-i.labels in
    let Left : List Statement → Type 0 = λ zs. IsGathered zs c.loop-i.here c.args.behind.now labels labels in
    c.loop-i.invariant.gathered labels
    (subst Left (sym (drop_all c.loop-i.i c.args.statements.now c.loop-i-test.false)) (gathered_none c.loop-i.here c.args.behind.now labels))

pub gather_statement-returns-in_ok-gather-in-If : goal.gather_statement-returns-in_ok-gather-in-If
gather_statement-returns-in_ok-gather-in-If t c =
    let s : Statement = c.args.statement.now in
    let at : NumbersAhead = c.args.at in
    let behind : Landing = c.args.behind.now in
    let a : List Statement = c.in-If.first in
    let b : List Statement = c.in-If.second in
    let x : Noted = c.args.labels.now in
    let y : Noted = c.gather.new.labels in
    let z : Noted = c.gather-in-If.new.labels in
    let within : c.after_a_node-inside.result ≡ after 1 at = c.after_a_node-inside.ensures in
    let further : c.past-further.result ≡ past (after 1 at) (totals_of_all a) =
    c.past-further.ensures
    ∙ ap (λ k. past k c.known_totals.result) within
    ∙ ap (past (after 1 at)) (c.known_totals.ensures.totals ∙ ap totals_of_all c.as_slice-first.ensures) in
    let FirstAt : NumbersAhead → Type 0 = λ k. IsGathered a k behind x y in
    let FirstOf : List Statement → Type 0 = λ zs. IsGathered zs c.after_a_node-inside.result behind x y in
    let first : IsGathered a (after 1 at) behind x y = subst FirstAt within (subst FirstOf c.as_slice-first.ensures c.in_ok-gather-in-If.ensures) in
    let SecondAt : NumbersAhead → Type 0 = λ k. IsGathered b k behind y z in
    let SecondOf : List Statement → Type 0 = λ zs. IsGathered zs c.past-further.result behind y z in
    ok_then c.gather-in-If.result
    (λ v. IsGathered c.as_slice-second.result.now c.past-further.result behind y z)
    (λ v. IsGathered (s ∷ []) at behind x z)
    (λ v h. gathered_if s at behind x y z c.in-If.test a b c.in-If.is first (subst SecondAt further (subst SecondOf c.as_slice-second.ensures h)))
    c.gather-in-If.ensures

pub gather-gather_statement-requires : goal.gather-gather_statement-requires
gather-gather_statement-requires t c =
    let xs : List Statement = c.args.statements.now in
    let s : Statement = c.index-statements-i.result in
    let i : ℕ = c.loop-i.i in
    let room : HasRoom c.loop-i.here (totals_of s) = numbers_room_at c.loop-i.here xs i s c.loop-i.invariant.room c.loop-i-test.true c.index-statements-i.is in
    let tallied : c.index-tallies-i.result ≡ tally_of s =
    tally_at xs c.args.tallies.now i s c.index-tallies-i.result c.requires.tallied c.loop-i-test.true c.index-statements-i.is c.index-tallies-i.is in
    (search (rules, statement.the_lemmas, get_or_read), (room, tallied))

pub gather-past-next-requires : goal.gather-past-next-requires
gather-past-next-requires t c =
    let s : Statement = c.index-statements-i.result in
    let Fits : Totals → Type 0 = λ k. HasRoom c.loop-i.here k in
    subst Fits (sym c.known_statement_totals.ensures)
    (numbers_room_at c.loop-i.here c.args.statements.now c.loop-i.i s c.loop-i.invariant.room c.loop-i-test.true c.index-statements-i.is)

pub gather_statement-after_a_node-inside-requires : goal.gather_statement-after_a_node-inside-requires
gather_statement-after_a_node-inside-requires t c =
    numbers_if_node c.args.at c.args.statement.now c.in-If.test c.in-If.first c.in-If.second c.in-If.is c.requires.room

pub gather_statement-known_totals-requires-clause-counted : goal.gather_statement-known_totals-requires-clause-counted
gather_statement-known_totals-requires-clause-counted t c =
    let Small : List Statement → Type 0 = λ zs. AreCounted (totals_of_all zs) in
    subst Small (sym c.as_slice-first.ensures)
    (numbers_if_first c.args.at c.args.statement.now c.in-If.test c.in-If.first c.in-If.second c.in-If.is c.requires.room).counted

pub gather_statement-past-further-requires : goal.gather_statement-past-further-requires
gather_statement-past-further-requires t c =
    let counts : c.known_totals.result ≡ totals_of_all c.in-If.first = c.known_totals.ensures.totals ∙ ap totals_of_all c.as_slice-first.ensures in
    let At : NumbersAhead → Type 0 = λ m. HasRoom m c.known_totals.result in
    let Of : Totals → Type 0 = λ k. HasRoom (after 1 c.args.at) k in
    subst At (sym c.after_a_node-inside.ensures)
    (subst Of (sym counts) (numbers_if_first c.args.at c.args.statement.now c.in-If.test c.in-If.first c.in-If.second c.in-If.is c.requires.room))

pub gather_statement-gather-requires : goal.gather_statement-gather-requires
gather_statement-gather-requires t c =
    let At : NumbersAhead → Type 0 = λ m. HasRoom m (totals_of_all c.as_slice-first.result.now) in
    let Of : List Statement → Type 0 = λ zs. HasRoom (after 1 c.args.at) (totals_of_all zs) in
    let room : HasRoom c.after_a_node-inside.result (totals_of_all c.as_slice-first.result.now) =
    subst At (sym c.after_a_node-inside.ensures) (subst Of (sym c.as_slice-first.ensures)
    (numbers_if_first c.args.at c.args.statement.now c.in-If.test c.in-If.first c.in-If.second c.in-If.is c.requires.room)) in
    let tallied : c.part-in-If.result.now ≡ map tally_of c.as_slice-first.result.now =
    c.part-in-If.ensures
    ∙ first_part c.args.statement.now c.args.tally.now c.in-If.test c.in-If.first c.in-If.second c.in-If.is c.requires.tallied
    ∙ ap (map tally_of) (sym c.as_slice-first.ensures) in
    (search (rules, statement.the_lemmas), (room, tallied))

pub gather_statement-gather-requires-in-If : goal.gather_statement-gather-requires-in-If
gather_statement-gather-requires-in-If t c =
    let counts : c.known_totals.result ≡ totals_of_all c.in-If.first = c.known_totals.ensures.totals ∙ ap totals_of_all c.as_slice-first.ensures in
    let further : c.past-further.result ≡ past (after 1 c.args.at) (totals_of_all c.in-If.first) =
    c.past-further.ensures ∙ ap (λ m. past m c.known_totals.result) c.after_a_node-inside.ensures ∙ ap (past (after 1 c.args.at)) counts in
    let At : NumbersAhead → Type 0 = λ m. HasRoom m (totals_of_all c.as_slice-second.result.now) in
    let Of : List Statement → Type 0 = λ zs. HasRoom (past (after 1 c.args.at) (totals_of_all c.in-If.first)) (totals_of_all zs) in
    let room : HasRoom c.past-further.result (totals_of_all c.as_slice-second.result.now) =
    subst At (sym further) (subst Of (sym c.as_slice-second.ensures)
    (numbers_if_second c.args.at c.args.statement.now c.in-If.test c.in-If.first c.in-If.second c.in-If.is c.requires.room)) in
    let tallied : c.part-in-If-2.result.now ≡ map tally_of c.as_slice-second.result.now =
    c.part-in-If-2.ensures
    ∙ second_part c.args.statement.now c.args.tally.now c.in-If.test c.in-If.first c.in-If.second c.in-If.is c.requires.tallied
    ∙ ap (map tally_of) (sym c.as_slice-second.ensures) in
    (search (rules, statement.the_lemmas), (room, tallied))

pub gather-known_statement_totals-requires : goal.gather-known_statement_totals-requires
gather-known_statement_totals-requires t c = search (rules, tally_at)

pub gather_statement-known_totals-requires-clause-tallied : goal.gather_statement-known_totals-requires-clause-tallied
gather_statement-known_totals-requires-clause-tallied t c = search (rules, first_part)

pub gather-bounds-tallies-i : goal.gather-bounds-tallies-i
gather-bounds-tallies-i t c = search (rules, within_tallies)
