use Rattle.std.proofs.Common.{◌≡◌, ℕ, suc, ◌+◌, List, [], ap, sym, subst, arith}
use Rattle.scl.specs.declared.statement.Statement.{Statement}
use Rattle.scl_graph.specs.declared.landing.Landing.TheVariants as lands
use Rattle.scl_graph.specs.declared.numbers_ahead.NumbersAhead.{NumbersAhead}
use Rattle.scl_graph.specs.declared.totals.Totals.{Totals}
use Rattle.scl_graph.specs.Inside.Gathering.{AreForkedGathered, IsGathered, IsThreadGathered, Noted}
use Rattle.scl_graph.specs.Inside.Resolving.{start}
use Rattle.scl_graph.specs.Inside.Totals.{totals_of_all}
use Rattle.scl_graph.proofs.GatheredBelow.{thread_gathered}
use Rattle.scl_graph.proofs.resolving.labels_of.Goals as goal

pub returns : goal.returns
returns c =
    let b : List Statement = c.args.body.now in
    let t : Totals = c.args.totals in
    let k : Totals = totals_of_all b in
    let middle : Noted = c.gather.new.labels in
    let new : Noted = c.gather_forked.new.labels in
    let is : t ≡ k = c.requires.totals in
    let nodes : t.nodes ≡ k.nodes = ap (λ r. r.nodes) is in
    let node : t.nodes ≡ 0 + k.nodes = omega (arith, nodes) in
    let base : t.nodes + 1 ≡ suc k.nodes = omega (arith, nodes) in
    let At : ℕ → NumbersAhead = λ n. record { node = 0; thread = 1; base = n; goto = 0 } in
    let From : Noted → Type 0 = λ l. IsGathered b (At (t.nodes + 1)) (lands.Node t.nodes) l middle in
    let To : ℕ → Type 0 = λ n. IsGathered b (At (t.nodes + 1)) (lands.Node n) [] middle in
    let Own : ℕ → Type 0 = λ n. IsGathered b (At n) (lands.Node (0 + k.nodes)) [] middle in
    let own : IsGathered b (At (suc k.nodes)) (lands.Node (0 + k.nodes)) [] middle =
    subst Own base (subst To node (subst From c.none-labels.ensures c.in_ok-gather.ensures)) in
    let Lower : ℕ → Type 0 = λ n. AreForkedGathered b (At n) middle new in
    let lower : AreForkedGathered b (At (suc k.nodes)) middle new = subst Lower base c.in_ok-gather_forked.ensures in
    let Whole : Totals → Type 0 = λ r. IsThreadGathered b (start r) [] new in
    subst Whole (sym is) (thread_gathered b (start k) [] middle new (omega arith) own lower)
