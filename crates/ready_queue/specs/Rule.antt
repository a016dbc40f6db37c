-- What a clause reads of a queue and of its passes.
use Rattle.std.specs.Prelude.{ℕ}
use Rattle.crossbeam_queue.specs.Passes as passes
use Rattle.tick_core.specs.Claims.{Claim}
use Rattle.ready_queue.specs.declared.queue.Hand.{Hand}
use Rattle.ready_queue.specs.declared.queue.ReadyQueue.{ReadyQueue}

-- what a pass has put and taken
abbrev pub hand_of : passes.Pass Claim Hand → Hand
hand_of pass = passes.view pass

-- it is a pass of this queue
abbrev pub IsPassOf : ReadyQueue → passes.Pass Claim Hand → Type 0
IsPassOf queue pass = passes.IsPassOf queue.line pass

-- how many claims it has room for
abbrev pub places_of : ReadyQueue → ℕ
places_of queue = passes.ruled_capacity queue.line
