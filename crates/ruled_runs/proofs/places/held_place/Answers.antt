use Rattle.std.proofs.Common.{Err, ap}
use Rattle.ruled_runs.proofs.places.held_place.Goals as goal

pub returns-in_ok-shown_name-in-Err-Unfit-clause-lacks : goal.returns-in_ok-shown_name-in-Err-Unfit-clause-lacks
returns-in_ok-shown_name-in-Err-Unfit-clause-lacks c =
    (c.in-Err-Unfit.ensures.none (ap Err c.in-Err-Unfit.field-0-is), c.in_ok-shown_name-in-Err-Unfit.ensures)
