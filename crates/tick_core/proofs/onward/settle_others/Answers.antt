use Rattle.std.proofs.Common.{◌≡◌, List, ℕ, refl, sym, subst}
use Rattle.sc_graph.specs.Control.{status_of}
use Rattle.tick_core.specs.Inside.Astir.{Gains}
use Rattle.tick_core.specs.Space.Living.{CountsLiving}
use Rattle.tick_core.specs.Space.Sorting.{ready_row, sorted_one, sorted_parent, sorted_all, ended_parent}
use Rattle.tick_core.proofs.Unmoved.{children_in_at}
use Rattle.tick_core.proofs.onward.settle_others.Goals as goal

pub sort_after-requires-clause-counts : goal.sort_after-requires-clause-counts
sort_after-requires-clause-counts c =
    subst (CountsLiving c.args.program.now c.args.control.now) (sym c.deref.ensures.value)
    (subst (CountsLiving c.args.program.now c.args.control.now) (sym c.count_after.ensures) c.requires.counts)

pub sort_after-requires-clause-places : goal.sort_after-requires-clause-places
sort_after-requires-clause-places c =
    children_in_at c.args.program.now c.args.program.now c.args.tables.now c.requires.valid refl c.args.status c.children_at-children.result.now
    c.children_at-children.ensures

pub returns-clause-sorted : goal.returns-clause-sorted
returns-clause-sorted c =
    subst (λ (ks : List ℕ). c.sort_after.new.rows ≡ sorted_all (ready_row c.args.program.now c.args.tables.now c.args.control.now c.args.claims.now) ks
    (sorted_parent (ready_row c.args.program.now c.args.tables.now c.args.control.now c.args.claims.now)
    (sorted_one (ready_row c.args.program.now c.args.tables.now c.args.control.now c.args.claims.now) c.args.rows.now c.args.thread)
    (ended_parent c.args.program.now c.args.thread (status_of c.args.control.now c.args.thread))))
    c.children_at-children.ensures c.sort_after.ensures.sorted

pub returns-clause-listed : goal.returns-clause-listed
returns-clause-listed c = subst (λ ks. Gains c.args.listed.now ks c.add_all.new.self) c.children_at-children.ensures c.add_all.ensures
