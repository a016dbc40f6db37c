use Rattle.std.proofs.Common.{◌≡◌, ◌∙◌, true, rules}
use Rattle.controller_tests.proofs.Listed.{test_there}
use Rattle.controller_tests.proofs.folders.is_test.Goals as goal

pub returns : goal.returns
returns c =
    let yes : c.is_text.result ≡ true = search rules in
    test_there c.args.names.now c.args.name.now c.as_str.result.now c.is_text.result c.is_among.result c.is_text.ensures yes
    (c.as_str.ensures.value ∙ c.in_ok-ticks.ensures) c.is_among.ensures
