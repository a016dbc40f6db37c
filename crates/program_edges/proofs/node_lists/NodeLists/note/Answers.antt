use Rattle.std.proofs.Common.{ℕ, ◌≡◌, ◌<◌, ◌⊎◌, List, Vec, Global, length, map, subst, arith}
use Rattle.std.specs.Prelude.{Contains, ◌↔◌}
use Rattle.std.specs.Result.{OnOk}
use Rattle.std.proofs.Math.ListN.{set}
use Rattle.program_edges.specs.Users.{Gains}
use Rattle.program_edges.proofs.Gaining.{on_ok, gains_one}
use Rattle.program_edges.proofs.node_lists.NodeLists.note.Goals as goal

pub returns-then-at-len : goal.returns-then-at-len
returns-then-at-len c =
    let lists : List (Vec ℕ Global) = c.self.inside.lists.items in
    let x = c.args.x in
    let n = c.args.n in
    let old : Vec ℕ Global = c.index_mut.result.now in
    let new : Vec ℕ Global = c.note_last.new.nodes in
    let items : Vec ℕ Global → List ℕ = λ v. v.items in
    let now : List (List ℕ) = map items (set lists x new) in
    let More : Vec ℕ Global → Type 0 = λ v. (m : ℕ) → Contains new.items m ↔ (Contains v.items m ⊎ (m ≡ n)) in
    let within : x < length lists = (let lt = c.if-at-len.true in let e = c.len.ensures in let same = c.self.inside.lists.ok.0 in omega (arith, lt, e, same)) in
    let P : List (List ℕ) → Type 0 = λ before. OnOk c.note_last.result (Gains before now n (λ y. y ≡ x)) in
    subst P c.self.view_is
    (on_ok c.note_last.result (More old) (Gains (map items lists) now n (λ y. y ≡ x))
    (λ more. gains_one items lists x n old new within (subst More c.index_mut.ensures.value more))
    c.note_last.ensures)
