-- The links of a program: for each thread its fork, for each join its fork, for each depth its pause.
use Rattle.std.specs.Prelude.{ℕ, ◌≡◌, ◌<◌, ◌↔◌, Option, Some, None, List, length, slice_get, unwrap_or, IsSome, IfSome}
use Rattle.sc_graph.specs.declared.links.Found.{Found}
use Rattle.sc_graph.specs.declared.links.Found.TheVariants as found
use Rattle.sc_graph.specs.declared.links.Links.{Links}
use Rattle.sc_graph.specs.declared.program.Step.TheVariants as step
use Rattle.sc_graph.specs.Program.{Program, step_at}
use Rattle.sc_graph.specs.Structure.{ForksChild, JoinsAt, ExactlyOne}

abbrev pub only : Found → Option ℕ
only found.Nobody = None
only (found.Alone n) = Some n
only found.Several = None

-- what was found for number k; nobody past the end
abbrev pub found_at : List Found → ℕ → Found
found_at slots k = unwrap_or (slice_get slots k) found.Nobody

-- the only node that was found for number k
abbrev pub only_at : List Found → ℕ → Option ℕ
only_at slots k = only (found_at slots k)

-- the number alone of which this holds; none: of no number it holds, or of several
pub record IsSole (P : ℕ → Type 0) (sole : Option ℕ) : Type 0 where
  pub once : IsSome sole ↔ ExactlyOne P
  pub is : IfSome sole P

-- the links tell, for each thread and node of the program, which node alone forks it or pauses to it
pub record Tells (p : Program) (l : Links) : Type 0 where
  pub forks : (t : ℕ) → t < length p.threads → IsSole (ForksChild p t) (only_at l.forks t)
  pub joins : (j : ℕ) → j < length p.nodes → IsSole (JoinsAt p j) (only_at l.joins j)
  pub pauses : (d : ℕ) → d < length p.nodes → IsSole (λ n. step_at p n ≡ Some (step.Surf d)) (only_at l.pauses d)
