-- How far a source was read.
use Rattle.std.proofs.Common.{Option}
use Rattle.sc_values.specs.declared.streams.Progress.{Progress}
use Rattle.sc_values.specs.Streams.{StaysOpen, IsNotReadBehind}

pub not_read : (p : Option Progress) → IsNotReadBehind p p
not_read p was is = cc

pub behind_on : (p q r : Option Progress) → StaysOpen p q → IsNotReadBehind q r → IsNotReadBehind p r
behind_on p q r stays read was = read (stays was)
