use mathlib.Core.Bool.{true≢false}
use Rattle.std.proofs.Common.{ℕ, ◌≡◌, ◌++◌, ◌∷◌, List, [], true, sym, subst, ◌∙◌}
use Rattle.program_edges.specs.Inside.TakingIn.{OwnedAlike, TakesIn}
use Rattle.program_edges.proofs.Gaining.{on_ok}
use Rattle.program_edges.proofs.Standing.{takes_last, takes_none, takes_place}
use Rattle.program_edges.proofs.extremes.take_in.Goals as goal

pub set-requires : goal.set-requires
set-requires g c =
    let alike : OwnedAlike c.args.program.now c.args.chosen.now c.of-at.result c.args.n c.in-Some.other =
    subst (λ (l : List ℕ). OwnedAlike c.args.program.now l c.of-at.result c.args.n c.in-Some.other) c.as_slice.ensures c.in-Some.ensures in
    alike.within

pub returns-then-beats : goal.returns-then-beats
returns-then-beats g c =
    let p = c.args.program.now in
    let q = g.N.Numbers.table c.args.numbers.now in
    let old : List ℕ = c.args.chosen.now in
    let n = c.args.n in
    let other = c.in-Some.other in
    let at = c.of-at.result in
    let alike : OwnedAlike p old at n other = subst (λ (l : List ℕ). OwnedAlike p l at n other) c.as_slice.ensures c.in-Some.ensures in
    subst (λ (new : List ℕ). TakesIn p q c.args.extreme old new n) (sym c.set.ensures)
    (takes_place p q c.args.extreme old at n other alike (c.beats.ensures.0 c.if-beats.true))

pub returns-else-beats : goal.returns-else-beats
returns-else-beats g c =
    let p = c.args.program.now in
    let q = g.N.Numbers.table c.args.numbers.now in
    let old : List ℕ = c.args.chosen.now in
    let n = c.args.n in
    let other = c.in-Some.other in
    let at = c.of-at.result in
    let alike : OwnedAlike p old at n other = subst (λ (l : List ℕ). OwnedAlike p l at n other) c.as_slice.ensures c.in-Some.ensures in
    takes_none p q c.args.extreme old at n other alike (λ b. let yes : c.beats.result ≡ true = c.beats.ensures.1 b in true≢false (sym yes ∙ c.if-beats.false))

pub returns-in-None : goal.returns-in-None
returns-in-None g c =
    let p = c.args.program.now in
    let q = g.N.Numbers.table c.args.numbers.now in
    let old : List ℕ = c.args.chosen.now in
    let n = c.args.n in
    on_ok c.push.result (c.push.new.self ≡ old ++ n ∷ []) (TakesIn p q c.args.extreme old c.push.new.self n)
    (λ e. subst (λ (new : List ℕ). TakesIn p q c.args.extreme old new n) (sym e) (takes_last p q c.args.extreme old n))
    c.push.ensures.ok
