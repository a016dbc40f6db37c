use Rattle.std.proofs.Common.{ℕ, ◌≡◌, ◌≤◌, ◌+◌, List, length, subst, sym, arith}
use Rattle.verifier.specs.Inside.Each.{EachOf}
use Rattle.program_edges.specs.Extremes.{StandFor}
use Rattle.verifier.proofs.Each.{each_none, each_more}
use Rattle.verifier.proofs.extremes.put_extremes.Goals as goal

pub loop-x-init : goal.loop-x-init
loop-x-init c =
    let P : List ℕ → List ℕ → Type 0 = StandFor c.args.program.now c.args.tables.now.priorities c.args.extreme in
    subst (λ (made : List (List ℕ)). EachOf P 0 c.args.users.now made) (sym c.requires) (each_none P c.args.users.now)

pub loop-x-preserved : goal.loop-x-preserved
loop-x-preserved c =
    let P : List ℕ → List ℕ → Type 0 = StandFor c.args.program.now c.args.tables.now.priorities c.args.extreme in
    subst (λ (made : List (List ℕ)). EachOf P (c.loop-x.x + 1) c.args.users.now made) (sym c.in_ok-push.ensures.ok)
    (each_more P c.loop-x.x c.args.users.now c.loop-x.lists c.in_ok-list.list c.loop-x.invariant
    (subst (λ (nodes : List ℕ). P nodes c.in_ok-list.list) c.of.ensures c.in_ok-list.ensures))

pub returns : goal.returns
returns c =
    let P : List ℕ → List ℕ → Type 0 = StandFor c.args.program.now c.args.tables.now.priorities c.args.extreme in
    let end : c.variable_count-x-end.result ≤ c.loop-x.x = c.loop-x-test.false in
    let below : c.loop-x.x ≤ c.variable_count-x-end.result = c.loop-x.auto.x-end in
    let count = c.variable_count-x-end.ensures in
    let all : c.loop-x.x ≡ length c.args.program.now.variables = omega (arith, end, below, count) in
    subst (λ (n : ℕ). EachOf P n c.args.users.now c.loop-x.lists) all c.loop-x.invariant
