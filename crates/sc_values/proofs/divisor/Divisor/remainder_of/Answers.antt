use Rattle.std.proofs.Common.{◌∙◌, FitsSigned, rules}
use Rattle.std.specs.Int.{w32}
use Rattle.std.specs.Int.RustNames.{int_rem}
use Rattle.std.proofs.lemmas.Int.{to_z-of_z}
use Rattle.sc_values.proofs.Division.{left_over}
use Rattle.sc_values.proofs.divisor.Divisor.remainder_of.Goals as goal

pub returns : goal.returns
returns c =
    let fits : FitsSigned w32 c.args.self.number = search rules in
    to_z-of_z w32 c.wrapping_rem.result (record { sfits = c.wrapping_rem.type_inv })
    ∙ c.wrapping_rem.ensures
    ∙ (λ i. int_rem (to_z-of_z w32 c.args.dividend c.ranges.dividend i) (to_z-of_z w32 c.args.self.number fits i))
    ∙ left_over c.args.dividend c.args.self fits
