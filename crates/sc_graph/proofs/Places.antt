-- A rule that is kept at each sort of place is kept everywhere.
use Rattle.std.proofs.Common.{ℕ}
use Rattle.sc_graph.specs.declared.place.Place.{Place}
use Rattle.sc_graph.specs.declared.place.Place.TheVariants as place
use Rattle.sc_graph.specs.Program.{Program}
use Rattle.sc_graph.specs.Size.{CountsFit, ProgramFitsAt}
use Rattle.sc_graph.specs.Structure.{StructureAt}

pub fits_everywhere : (p : Program) → CountsFit p → ((x : ℕ) → ProgramFitsAt p (place.Variable x)) → ((t : ℕ) → ProgramFitsAt p (place.Thread t))
    → ((n : ℕ) → ProgramFitsAt p (place.Node n)) → (at : Place) → ProgramFitsAt p at
fits_everywhere p counts variables threads nodes place.Image = counts
fits_everywhere p counts variables threads nodes (place.Variable x) = variables x
fits_everywhere p counts variables threads nodes (place.Thread t) = threads t
fits_everywhere p counts variables threads nodes (place.Node n) = nodes n
fits_everywhere p counts variables threads nodes (place.Pair m n) = tt

pub stands_everywhere : (p : Program) → ((t : ℕ) → StructureAt p (place.Thread t)) → ((n : ℕ) → StructureAt p (place.Node n)) → (at : Place) → StructureAt p at
stands_everywhere p threads nodes (place.Thread t) = threads t
stands_everywhere p threads nodes (place.Node n) = nodes n
stands_everywhere p threads nodes place.Image = tt
stands_everywhere p threads nodes (place.Variable x) = tt
stands_everywhere p threads nodes (place.Pair m n) = tt
