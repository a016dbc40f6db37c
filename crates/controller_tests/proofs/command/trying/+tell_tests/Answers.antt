use Rattle.std.proofs.Common.{◌≡◌, ◌∷◌, rules, string_bytes}
use Rattle.controller_tests.specs.Inside.Judging.{verdict_seen}
use Rattle.controller_tests.proofs.Tried.{first_told, more_tried, of_refusal, one_tried}
use Rattle.controller_tests.proofs.command.trying.+tell_tests.Goals as goal

pub returns-in_err-tell-in-Some-clause-first : goal.returns-in_err-tell-in-Some-clause-first
returns-in_err-tell-in-Some-clause-first g t c =
    let cut : c.args.names.now ≡ c.in-Some.name.now ∷ c.in-Some.names.now = search rules in
    of_refusal _ _ (first_told string_bytes _ _ _ _ _ _ _ (verdict_seen c.in_ok-came-in-Some.came) cut c.as_str.ensures.value
    c.in_ok-came-in-Some.ensures.comes)

pub returns-in_err-others-in-Some-clause-first : goal.returns-in_err-others-in-Some-clause-first
returns-in_err-others-in-Some-clause-first g t c =
    let cut : c.args.names.now ≡ c.in-Some.name.now ∷ c.in-Some.names.now = search rules in
    of_refusal _ _ (more_tried string_bytes _ _ _ _ _ _ _ _ (verdict_seen c.in_ok-came-in-Some.came) cut c.as_str.ensures.value
    c.in_ok-came-in-Some.ensures.comes c.in_err-others-in-Some.ensures.first)

pub returns-in_ok-others-in-Some-clause-told : goal.returns-in_ok-others-in-Some-clause-told
returns-in_ok-others-in-Some-clause-told g t c =
    let cut : c.args.names.now ≡ c.in-Some.name.now ∷ c.in-Some.names.now = search rules in
    one_tried string_bytes _ _ _ _ _ _ _ _ _ _ _ _ (verdict_seen c.in_ok-came-in-Some.came) _ _ _ _ cut c.as_str.ensures.value
    c.as_str-in-Some.ensures.value c.in_ok-came-in-Some.ensures.comes c.in_ok-tell-in-Some.ensures c.in_ok-others-in-Some.ensures.told
    c.counted.ensures.passed c.counted.ensures.failed
