use Rattle.std.proofs.Common.{◌≡◌, ◌<◌, ◌∙◌, ◌++◌, ◌∷◌, [], Some, slice_get, length, refl, sym, ap, subst, arith}
use Rattle.std.proofs.lemmas.Bool.{OnTrue_at}
use Rattle.std.proofs.lemmas.Option.{slice_get_read, slice_get_within}
use Rattle.tick_core.specs.Space.There.{Keeps, ListedBelow, children_waited, waited_at}
use Rattle.sc_graph.specs.Control.{status_of}
use Rattle.tick_core.proofs.ListedThreads.{root_listed, none_counted_yet, keeps_more, lists_from, enters_from, listed_more, counted_more}
use Rattle.tick_core.proofs.ListedThreads.{all_listed, all_listed_counted}
use Rattle.tick_core.proofs.there.list_all.Goals as goal

pub loop-at-init : goal.loop-at-init
loop-at-init c =
    let items_are = c.push_reserved.ensures.items ∙ ap (λ xs. xs ++ 0 ∷ []) c.clear.ensures.items in
    record {
      within = omega (arith, ap length items_are, c.if-room-eq0.false);
      kept = refl;
      places = refl;
      below = subst (ListedBelow c.args.program.now c.args.control.now 0) (sym items_are) (root_listed c.args.program.now c.args.control.now);
      counted = none_counted_yet c.args.program.now c.args.control.now _ c.args.living.now.items;
      passed = omega arith;
    }

pub loop-at-preserved : goal.loop-at-preserved
loop-at-preserved c =
    let p = c.args.program.now in
    let d = c.args.control.now in
    let xs = c.loop-at.listed.items in
    let thread = c.index-thread.result.now in
    let within : c.loop-at.at < length xs = omega (arith, c.loop-at-test.true, c.len.ensures) in
    let is : slice_get xs c.loop-at.at ≡ Some thread = slice_get_read _ _ _ _ refl within c.index-thread.ensures in
    let listed_are : c.list_children.new.listed.items ≡ xs ++ children_waited p (status_of d thread) =
    OnTrue_at c.if-not-list_children.false c.list_children.ensures.listed in
    let counts_are : c.list_children.new.living.items ≡ waited_at p d c.loop-at.living.items thread (status_of d thread) =
    OnTrue_at c.if-not-list_children.false c.list_children.ensures.counted in
    let keeps : Keeps xs c.list_children.new.listed.items =
    keeps_more xs (children_waited p (status_of d thread)) c.list_children.new.listed.items listed_are in
    record {
      within = c.list_children.ensures.within;
      kept = c.list_children.ensures.room ∙ c.loop-at.invariant.kept;
      places = c.list_children.ensures.places ∙ c.loop-at.invariant.places;
      below =
          listed_more p d c.loop-at.at xs c.list_children.new.listed.items within thread is keeps c.loop-at.invariant.below
          (lists_from p d thread xs c.list_children.new.listed.items (status_of d thread) refl listed_are);
      counted =
          counted_more p d c.loop-at.at xs c.list_children.new.listed.items within thread is keeps c.loop-at.living.items
          c.list_children.new.living.items c.loop-at.invariant.counted
          (enters_from p d thread c.loop-at.living.items c.list_children.new.living.items (status_of d thread) refl counts_are);
      passed = omega (arith, slice_get_within c.list_children.new.listed.items c.loop-at.at thread (keeps.each c.loop-at.at thread is));
    }

pub returns-clause-listed : goal.returns-clause-listed
returns-clause-listed c =
    all_listed c.args.program.now c.requires.formed c.args.control.now c.requires.configuration c.loop-at.listed.items c.loop-at.at
    (omega (arith, c.loop-at-test.false, c.len.ensures)) c.loop-at.invariant.below

pub returns-clause-counted : goal.returns-clause-counted
returns-clause-counted c =
    all_listed_counted c.args.program.now c.requires.formed c.args.control.now c.requires.configuration c.loop-at.listed.items c.loop-at.at
    (omega (arith, c.loop-at-test.false, c.len.ensures)) c.loop-at.invariant.below c.loop-at.living.items (c.loop-at.invariant.places ∙ c.requires.places)
    c.loop-at.invariant.counted
