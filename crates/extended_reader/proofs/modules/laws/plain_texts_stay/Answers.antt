use Rattle.extended_reader.proofs.ModulesInOrder.{stays}
use Rattle.extended_reader.proofs.modules.laws.plain_texts_stay.Goals as goal

pub returns : goal.returns
returns c = record { stays = stays }
