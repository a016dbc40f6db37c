use Rattle.std.proofs.Common.{length}
use Rattle.abort_expansion_laws.specs.CoreRows.{expanded_of, pair}
use Rattle.abort_expansion_laws.proofs.Proved.{stages_kept, is_pair}
use Rattle.abort_expansion_laws.proofs.stages_are_kept.Goals as goal

pub returns : goal.returns
returns c = λ k core i rows tree core_tree counts written_at log fits spared climbs ordered.
    stages_kept (pair k core i rows tree counts written_at) (is_pair k core (expanded_of k core i rows) tree core_tree (length k.variables) counts written_at)
    log fits spared climbs ordered
