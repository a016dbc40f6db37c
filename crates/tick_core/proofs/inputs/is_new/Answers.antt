use mathlib.Core.Bool.{true≢false}
use Rattle.std.proofs.Common.{◌≡◌, ◌≢◌, ◌∙◌, true, refl, sym}
use Rattle.std.proofs.lemmas.Option.{slice_get_read}
use Rattle.sc_graph.proofs.Each.{each_more, each_of_all}
use Rattle.tick_core.proofs.inputs.is_new.Goals as goal

pub returns-then-same_name : goal.returns-then-same_name
returns-then-same_name c = (
  λ no. absurd (true≢false (sym no)),
  λ new. absurd (new _ _ (slice_get_read _ _ _ _ refl c.loop-other-test.true c.other-item.is) (c.same_name.ensures.0 c.if-same_name.true)),
)

pub loop-other-preserved : goal.loop-other-preserved
loop-other-preserved c =
    each_more (λ a. a.0 ≢ c.args.input.now.0) _ _ _ c.loop-other-test.true c.other-item.is c.loop-other.invariant
    (λ same. let yes : c.same_name.result ≡ true = c.same_name.ensures.1 same in let no = c.if-same_name.false in true≢false (sym yes ∙ no))

pub returns : goal.returns
returns c = (λ yes. each_of_all (λ a. a.0 ≢ c.args.input.now.0) _ _ c.loop-other-test.false c.loop-other.invariant, λ new. refl)
