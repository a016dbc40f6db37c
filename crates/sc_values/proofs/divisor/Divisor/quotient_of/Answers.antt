use Rattle.std.proofs.Common.{◌∙◌, FitsSigned, rules}
use Rattle.std.specs.Int.{int_wrapping_div, w32}
use Rattle.std.proofs.lemmas.Int.{to_z-of_z}
use Rattle.sc_values.proofs.Division.{divided}
use Rattle.sc_values.proofs.divisor.Divisor.quotient_of.Goals as goal

pub returns : goal.returns
returns c =
    let fits : FitsSigned w32 c.args.self.number = search rules in
    to_z-of_z w32 c.wrapping_div.result (record { sfits = c.wrapping_div.type_inv })
    ∙ c.wrapping_div.ensures
    ∙ (λ i. int_wrapping_div w32 (to_z-of_z w32 c.args.dividend c.ranges.dividend i) (to_z-of_z w32 c.args.self.number fits i))
    ∙ divided c.args.dividend c.args.self c.ranges.dividend
