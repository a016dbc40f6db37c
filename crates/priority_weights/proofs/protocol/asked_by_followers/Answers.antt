use mathlib.Core.Bool.{true≢false}
use Rattle.std.proofs.Common.{ℕ, ◌≡◌, ◌≤◌, ◌+◌, true, get_or, ◌∙◌, refl, sym, subst, arith}
use Rattle.std.specs.Prelude.{slice_index}
use Rattle.sc_graph.specs.Threads.{ConcurrentNodes}
use Rattle.priority_weights.specs.Inside.Ordered.{IsFollower}
use Rattle.priority_weights.specs.Inside.Next.{IsAsked}
use Rattle.priority_weights.proofs.Asking.{Before, asked_up, asked_same, asked_alike, before_end}
use Rattle.priority_weights.proofs.protocol.asked_by_followers.Goals.{then-asked-more+then-are_concurrent, else-asked-more}
use Rattle.priority_weights.proofs.protocol.asked_by_followers.Goals.{else-asked-more-via-then-asked-more+else-are_concurrent}
use Rattle.priority_weights.proofs.protocol.asked_by_followers.Goals.{else-asked-more-via-else-asked-more}
use Rattle.priority_weights.proofs.protocol.asked_by_followers.Goals as goal

pub loop-follower-preserved : goal.loop-follower-preserved
loop-follower-preserved c =
    let p = c.args.edges.now in
    let table = c.args.table.now in
    let i = c.loop-follower.follower-index in
    let m : ℕ = get_or c.args.followers.now i 0 in
    let N : ℕ → ℕ → Type 0 = λ k n. (n ≡ get_or c.args.followers.now k 0) × ConcurrentNodes p c.args.node n in
    let P : ℕ → Type 0 = λ x. IsAsked (Before N (i + 1)) table 1 x in
    let first = c.entry.ensures in
    let second = c.from-more.ensures in
    let more : 1 + slice_index table m ≡ 1 + c.from-more.result = omega (arith, first, second) in
    elim c.if-asked-more.branch [
      | then-asked-more+then-are_concurrent w ↦
          let lt = w.if-asked-more.true in
          let is = w.asked-is in
          let here : ConcurrentNodes p c.args.node m = w.are_concurrent.ensures.0 w.if-are_concurrent.true in
          let Q : ℕ → Type 0 = λ k. ConcurrentNodes p c.args.node k in
          let e : 1 + slice_index table m ≡ c.if-asked-more.asked = omega (arith, more, is) in
          subst P e (asked_up N table 1 i c.loop-follower.asked m c.loop-follower.invariant (omega (arith, lt, more)) (refl, here) (λ n h. h.0))
      | else-asked-more w ↦
          let is = w.asked-is in
          let all : (n : ℕ) → N i n → 1 + slice_index table n ≤ c.loop-follower.asked = λ n h.
          let R : ℕ → Type 0 = λ k. 1 + slice_index table k ≤ c.loop-follower.asked in
          elim w.else-asked-more.branch [
            | else-asked-more-via-then-asked-more+else-are_concurrent w' ↦
                let Q : ℕ → Type 0 = λ k. ConcurrentNodes p c.args.node k in
                let yes : w'.are_concurrent.result ≡ true = w'.are_concurrent.ensures.1 (subst Q h.0 h.1) in
                let no = w'.if-are_concurrent.false in
                absurd (true≢false (sym yes ∙ no))
            | else-asked-more-via-else-asked-more w' ↦
                let le = w'.if-asked-more.false in
                subst R (sym h.0) (omega (arith, le, more))
          ] in
          subst P (sym is) (asked_same N table 1 i c.loop-follower.asked c.loop-follower.invariant all)
    ]

pub returns : goal.returns
returns c =
    let p = c.args.edges.now in
    let followers = c.args.followers.now in
    let N : ℕ → ℕ → Type 0 = λ k n. (n ≡ get_or followers k 0) × ConcurrentNodes p c.args.node n in
    let end = c.loop-follower-test.false in
    let all = c.loop-follower.auto.follower-index-end in
    let contained = before_end followers c.loop-follower.follower-index (omega (arith, end)) (omega (arith, all)) in
    asked_alike (Before N c.loop-follower.follower-index) (IsFollower p c.args.node followers) c.args.table.now 1 c.loop-follower.asked
    (λ n. (
      λ b. ((contained n).0 (b.0, b.1, b.2.0), b.2.1),
      λ h. let b = (contained n).1 h.0 in (b.0, b.1, (b.2, h.1)),
    ))
    c.loop-follower.invariant
