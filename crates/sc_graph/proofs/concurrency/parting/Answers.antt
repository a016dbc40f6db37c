use Rattle.std.proofs.Common.{ℕ, ◌≡◌, ◌<◌, Some, None, sym, subst, arith}
use Rattle.sc_graph.specs.Program.{parent_of}
use Rattle.sc_graph.specs.Inside.Parting.{PartAt}
use Rattle.sc_graph.proofs.Tree.{part_here, part_swapped, never_root, never_from_itself}
use Rattle.sc_graph.proofs.Formed.{falls_upwards}
use Rattle.sc_graph.proofs.Parting.{alike_left, alike_right}
use Rattle.sc_graph.proofs.concurrency.parting.Goals as goal

pub returns-then-over_left-over_right : goal.returns-then-over_left-over_right
returns-then-over_left-over_right c =
    let left : parent_of c.args.program.now c.loop-left.left ≡ Some c.in-Some-Some.over_left = sym c.in-Some-Some.ensures in
    let right : parent_of c.args.program.now c.loop-left.right ≡ Some c.in-Some-Some.over_left =
    subst (λ t. parent_of c.args.program.now c.loop-left.right ≡ Some t) (sym c.if-over_left-over_right.true) (sym c.in-Some-Some.ensures') in (
      c.in-Some-Some.over_left,
      c.loop-left.invariant.down c.loop-left.left c.loop-left.right c.in-Some-Some.over_left
          (part_here c.args.program.now c.loop-left.left c.loop-left.right c.in-Some-Some.over_left left right c.loop-left-test.true),
    )

pub loop-left-smaller-then-over_left-over_right-2 : goal.loop-left-smaller-then-over_left-over_right-2
loop-left-smaller-then-over_left-over_right-2 c =
    let left : parent_of c.args.program.now c.loop-left.left ≡ Some c.in-Some-Some.over_left = sym c.in-Some-Some.ensures in
    let less : c.in-Some-Some.over_left < c.loop-left.left = (falls_upwards c.args.program.now c.requires).falls c.loop-left.left c.in-Some-Some.over_left left
    in
    omega arith

pub loop-left-preserved-then-over_left-over_right-2 : goal.loop-left-preserved-then-over_left-over_right-2
loop-left-preserved-then-over_left-over_right-2 c =
    let left : parent_of c.args.program.now c.loop-left.left ≡ Some c.in-Some-Some.over_left = sym c.in-Some-Some.ensures in
    let right : parent_of c.args.program.now c.loop-left.right ≡ Some c.in-Some-Some.over_right = sym c.in-Some-Some.ensures' in
    alike_left c.args.program.now (falls_upwards c.args.program.now c.requires) c.args.first c.args.second c.loop-left.left c.loop-left.right
    c.in-Some-Some.over_left c.in-Some-Some.over_right left right c.if-over_left-over_right-2.true c.loop-left.invariant

pub loop-left-smaller : goal.loop-left-smaller
loop-left-smaller c =
    let right : parent_of c.args.program.now c.loop-left.right ≡ Some c.in-Some-Some.over_right = sym c.in-Some-Some.ensures' in
    let less : c.in-Some-Some.over_right < c.loop-left.right = (falls_upwards c.args.program.now c.requires).falls c.loop-left.right c.in-Some-Some.over_right
    right in
    omega arith

pub loop-left-preserved : goal.loop-left-preserved
loop-left-preserved c =
    let left : parent_of c.args.program.now c.loop-left.left ≡ Some c.in-Some-Some.over_left = sym c.in-Some-Some.ensures in
    let right : parent_of c.args.program.now c.loop-left.right ≡ Some c.in-Some-Some.over_right = sym c.in-Some-Some.ensures' in
    let less : c.in-Some-Some.over_left < c.in-Some-Some.over_right = omega arith in
    alike_right c.args.program.now (falls_upwards c.args.program.now c.requires) c.args.first c.args.second c.loop-left.left c.loop-left.right
    c.in-Some-Some.over_left c.in-Some-Some.over_right left right less c.loop-left.invariant

pub returns-in_default : goal.returns-in_default
returns-in_default c = λ l r a x.
    let root : parent_of c.args.program.now c.loop-left.right ≡ None = sym c.in_default.ensures' in
    never_root c.args.program.now c.loop-left.right c.loop-left.left r l a root
    (part_swapped c.args.program.now c.loop-left.left c.loop-left.right l r a (c.loop-left.invariant.up l r a x))

pub returns-in_default-2 : goal.returns-in_default-2
returns-in_default-2 c = λ l r a x.
    let root : parent_of c.args.program.now c.loop-left.left ≡ None = cc in
    never_root c.args.program.now c.loop-left.left c.loop-left.right l r a root (c.loop-left.invariant.up l r a x)

pub returns : goal.returns
returns c = λ l r a x.
    let same : c.loop-left.left ≡ c.loop-left.right = c.loop-left-test.false in
    never_from_itself c.args.program.now (falls_upwards c.args.program.now c.requires) c.loop-left.right l r a
    (subst (λ (t : ℕ). PartAt c.args.program.now t c.loop-left.right l r a) same (c.loop-left.invariant.up l r a x))
