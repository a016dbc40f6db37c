-- Who may work on what is shared.
use Rattle.crossbeam_queue.specs.Passes.{Pass}
use Rattle.tick_core.specs.Claims.{Claim}
use Rattle.ready_queue.specs.declared.queue.Hand.{Hand}
use Rattle.ready_queue.specs.Rule.{IsPassOf}
use Rattle.worker_pool.specs.declared.of_image.OfImage.{Ghosts}
use Rattle.worker_pool.specs.declared.shared.Shared.{Shared}

module _ {J G : Type 0} {P : Ghosts J} where
  -- it is a pass to this queue: who has it may put claims there, and take some
  abbrev pub IsPassTo : Shared J G P → Pass Claim Hand → Type 0
  IsPassTo shared pass = IsPassOf shared.queue pass
