use Rattle.probe.proofs.Seats.{sees}
use Rattle.probe.proofs.copies.Seat.look.Goals as goal

pub enter_as-requires : goal.enter_as-requires
enter_as-requires c x = sees _ _ x
