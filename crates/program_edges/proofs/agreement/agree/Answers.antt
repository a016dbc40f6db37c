use Rattle.std.proofs.Common.{ℕ, arith, below_more, get_or}
use Rattle.program_edges.specs.Inside.Agreement.{IsNotedAbove}
use Rattle.program_edges.proofs.Agreeing.{noted_still, none_conflict}
use Rattle.program_edges.proofs.Variables.{of_each}
use Rattle.program_edges.proofs.agreement.agree.Goals as goal

pub loop-n-preserved : goal.loop-n-preserved
loop-n-preserved c =
    let p = c.args.program.now in
    let noted = c.note_all.ensures c.if-not-note_all.false in
    let P : ℕ → Type 0 = λ k. IsNotedAbove p c.args.way c.args.x c.note_all.new.seen.items (get_or c.args.nodes.now k 0) in
    below_more P _ (λ k h. noted_still p c.args.way c.args.x c.loop-n.seen.items c.note_all.new.seen.items (get_or c.args.nodes.now k 0) noted.keeps
    (c.loop-n.invariant k h)) noted.gains

pub returns : goal.returns
returns c = λ t.
    let p = c.args.program.now in
    let P : ℕ → Type 0 = λ n. IsNotedAbove p c.args.way c.args.x c.loop-n.seen.items n in
    none_conflict p c.args.way c.args.x c.args.nodes.now c.loop-n.seen.items c.requires.writers
    (of_each c.args.nodes.now P (λ k h. c.loop-n.invariant k (omega (arith, h))))
