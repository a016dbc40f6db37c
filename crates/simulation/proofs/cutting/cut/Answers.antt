use Rattle.simulation.proofs.cutting.cut.Goals as goal

pub returns : goal.returns
returns c = c.split_once.ensures.byte c.requires (λ w o found. found)
