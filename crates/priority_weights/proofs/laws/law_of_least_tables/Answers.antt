use Rattle.priority_weights.proofs.Validity.{least_valid}
use Rattle.priority_weights.proofs.laws.law_of_least_tables.Goals as goal

pub returns : goal.returns
returns c = least_valid
