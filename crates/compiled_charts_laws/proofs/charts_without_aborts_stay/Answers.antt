use Rattle.compiled_charts_laws.proofs.Plain.{expands_to_itself, stands_for_itself}
use Rattle.compiled_charts_laws.proofs.charts_without_aborts_stay.Goals as goal

pub returns : goal.returns
returns c = λ chart rules none. record { core = expands_to_itself chart rules none; states = stands_for_itself chart rules none }
