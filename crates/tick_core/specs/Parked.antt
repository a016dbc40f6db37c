-- The space of ticks without its image.
use Rattle.std.specs.Prelude.{◌≡◌, ◌≤◌, None, length, map, vec_capacity}
use Rattle.sc_graph.specs.Program.{kinds}
use Rattle.bytecode.specs.Image.{Image}
use Rattle.tick_core.specs.declared.state.parking.ParkedSpace.{ParkedSpace}
use Rattle.tick_core.specs.Space.Joins.{FindsForks}
use Rattle.tick_core.specs.Space.Sorting.{OwnRows}
use Rattle.tick_core.specs.Space.Given.{HasPlaces}
use Rattle.tick_core.specs.Space.There.{AllListed}

-- it is made for the ticks of this image: its tables are of its program, and it has room for each node, thread and variable
pub record IsSpaceOf (image : Image) (space : ParkedSpace) : Type 0 where
  pub kinds_are : space.variable_kinds.items ≡ kinds image.program
  pub no_claim : space.claims.items ≡ map (λ _. None) image.program.threads
  pub forks : FindsForks image.program space.joins
  pub rows : OwnRows image.program image.tables space.rows
  pub history : image.tables.budget ≤ vec_capacity space.history
  pub living : length space.living.items ≡ length image.program.threads
  pub given : length space.given ≡ length image.program.variables
  pub listed : length image.program.threads ≤ vec_capacity space.listed
  pub present : AllListed space.spare.statuses space.listed.items
  pub spare : HasPlaces image.program space.spare
