use Rattle.std.proofs.Common.{◌≡◌, IsSome, false, true, List, [], is_some, option_and_then, length, sym, ap, ◌∙◌, arith}
use Rattle.std.proofs.lemmas.Bool.{le-leb, leb-true}
use Rattle.sc_values.specs.Code.{loads, IsWellFormed}
use Rattle.sc_values.specs.Limits.{load_limit}
use Rattle.sc_values.specs.Inside.Stack.{alone, tested}
use Rattle.sc_values.specs.declared.operation.Operation.{Operation}
use Rattle.sc_values.proofs.Testing.{formed_where, formed_leaves}
use Rattle.sc_values.proofs.well_formed.is_well_formed.Goals as goal

pub returns-then-is_some : goal.returns-then-is_some
returns-then-is_some c =
    let code = c.args.code.now in
    let kinds = c.args.kinds.now in
    let same = c.operations-operations.ensures.value in
    let count : c.load_count.result ≡ length (loads code) = rw same at c.load_count.ensures in
    let leaves : IsSome (option_and_then alone (tested kinds code [])) =
    sym (c.is_some.ensures ∙ ap is_some c.kind_of_code.ensures ∙ ap (λ (o : List Operation). is_some (option_and_then alone (tested kinds o []))) same)
    ∙ c.if-is_some.true in (
      λ few. (let low = leb-true _ load_limit few in
          formed_where kinds code leaves c.operations-operations.ensures.long (omega (arith, count, low))),
      λ (formed : IsWellFormed kinds code). (let low = formed.within.loaded in le-leb c.load_count.result load_limit (omega (arith, count, low))),
    )

pub returns-else-is_some : goal.returns-else-is_some
returns-else-is_some c =
    let code = c.args.code.now in
    let kinds = c.args.kinds.now in
    let same = c.operations-operations.ensures.value in
    let is = c.is_some.ensures ∙ ap is_some c.kind_of_code.ensures ∙ ap (λ (o : List Operation). is_some (option_and_then alone (tested kinds o []))) same in
    let no = c.if-is_some.false in (
      λ (yes : c.is_some.result ≡ true). absurd (let both : false ≡ true = sym no ∙ yes in cc),
      λ formed. is ∙ formed_leaves kinds code formed,
    )
