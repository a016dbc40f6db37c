use Rattle.std.proofs.Common.{ℕ, ◌≡◌, ◌≤◌, ◌+◌, ◌++◌, ◌∷◌, List, [], Vec, Global, length, map, get_or, sym, ◌∙◌, subst, arith}
use Rattle.std.proofs.lemmas.List.{length-map, length-append}
use Rattle.program_edges.proofs.Gaining.{empty_more, unused_from}
use Rattle.program_edges.proofs.node_lists.NodeLists.none.Goals as goal

pub loop-preserved : goal.loop-preserved
loop-preserved c = (
  let P : List (Vec ℕ Global) → Type 0 = λ items. length items ≡ c.loop.counter + 1 in
      let count : length c.loop.lists.items ≡ c.loop.counter = c.loop.invariant.0 in
      let more : length (c.loop.lists.items ++ c.new.result ∷ []) ≡ length c.loop.lists.items + 1 = length-append c.loop.lists.items (c.new.result ∷ []) in
      subst P (sym c.in_ok-push.ensures.items) (omega (arith, more, count)),
  λ x. let P : List (Vec ℕ Global) → Type 0 = λ items. get_or (map (λ v. v.items) items) x [] ≡ [] in
      subst P (sym c.in_ok-push.ensures.items)
      (empty_more (λ (v : Vec ℕ Global). v.items) c.loop.lists.items c.new.result c.new.ensures.items c.loop.invariant.1 x),
)

pub returns : goal.returns
returns c =
    let end : c.args.count ≤ c.loop.counter = c.loop-test.false in
    let below : c.loop.counter ≤ c.args.count = c.loop.auto.counter-end in
    let all : c.loop.counter ≡ c.args.count = omega (arith, end, below) in
    unused_from (map (λ (v : Vec ℕ Global). v.items) c.loop.lists.items) c.args.count (length-map c.loop.lists.items (λ (v : Vec ℕ Global). v.items)
    ∙ c.loop.invariant.0 ∙ all) c.loop.invariant.1
