use Rattle.std.proofs.Common.{ℕ, ◌≡◌, ◌+◌, List, sym, subst, arith}
use Rattle.std.specs.Prelude.{slice_index}
use Rattle.sc_graph.specs.declared.program.Step.{Step}
use Rattle.priority_weights.specs.Inside.Entries.{bits, entry_sum, join_weight, step_weight}
use Rattle.priority_weights.proofs.weights.step_weight.Goals as goal

pub returns-in-Fork : goal.returns-in-Fork
returns-in-Fork c =
    let p = c.args.program.now in
    let e = bits (slice_index c.args.ends.now) in
    let w = slice_index c.args.table.now in
    let P : List ℕ → Type 0 = λ ks. c.entry_sum.result ≡ entry_sum p w ks in
    let Q : List ℕ → Type 0 = λ ks. c.join_weight.result ≡ join_weight p e w ks c.in-Fork.join in
    let R : Step → Type 0 = λ s. 1 + c.entry_sum.result + c.join_weight.result ≡ step_weight p e w s in
    let a = subst P c.as_slice.ensures c.entry_sum.ensures.value in
    let b = subst Q c.as_slice-in-Fork.ensures c.join_weight.ensures.value in
    subst R (sym c.in-Fork.is) (omega (arith, a, b))
