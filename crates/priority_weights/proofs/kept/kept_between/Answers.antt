use Rattle.std.proofs.Common.{ℕ, List, subst}
use Rattle.sc_graph.specs.Program.{Program}
use Rattle.program_edges.specs.AlongVariables.{AllFall}
use Rattle.program_edges.proofs.Standing.{all_fall}
use Rattle.priority_weights.proofs.kept.kept_between.Goals as goal

pub returns : goal.returns
returns c = λ yes.
    let p = c.args.program.now in
    let q = c.args.table.now in
    let least : List ℕ = c.in_ok-least.least in
    let greatest : List ℕ = c.in_ok-greatest.greatest in
    let Of : Program → Type 0 = λ r. AllFall r q c.as_slice.result.now c.as_slice-2.result.now in
    let From : List ℕ → Type 0 = λ xs. AllFall p q xs c.as_slice-2.result.now in
    let To : List ℕ → Type 0 = λ ys. AllFall p q least ys in
    all_fall p q c.args.firsts.now least c.args.seconds.now greatest c.in_ok-least.ensures c.in_ok-greatest.ensures
    (subst To c.as_slice-2.ensures (subst From c.as_slice.ensures (subst Of c.requires (c.all_fall.ensures yes))))
