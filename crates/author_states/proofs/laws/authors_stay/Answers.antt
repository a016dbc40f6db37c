use Rattle.author_states.proofs.Once.{each_once}
use Rattle.author_states.proofs.Staying.{authors_stay}
use Rattle.author_states.proofs.laws.authors_stay.Goals as goal

pub returns : goal.returns
returns c = record { stay = authors_stay; each_once = each_once }
