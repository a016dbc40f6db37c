use Rattle.std.proofs.lemmas.Grind.{common_steps}
use Rattle.std.proofs.Common.{◌≡◌, ◌≢◌, ◌==◌, ◌∷◌, [], false, ap, length, ◌∙◌, rules, arith}
use Rattle.ruled_runs.proofs.Lists.{waits_more}
use Rattle.ruled_runs.proofs.controls.statuses.waits_at.Goals as goal

pub returns-then-not-is_empty : goal.returns-then-not-is_empty
returns-then-not-is_empty c =
    let rest = c.in_ok-one.rest.now in
    let begins : c.args.list.now ≡ c.in_ok-one.one.now ∷ rest = search rules in
    let longer : false ≡ (length rest == 0) = c.if-not-is_empty.ensures in
    let some : rest ≢ [] = λ none. let never : false ≡ (0 == 0) = longer ∙ ap (λ xs. length xs == 0) none in absurd cc in
    waits_more c.args.list.now rest c.in_ok-one.one.now begins some

pub returns : goal.returns
returns c = grind (arith, common_steps) steps 2000000
