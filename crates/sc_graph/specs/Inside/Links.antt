-- What a node alone is to be: the fork of a thread, the fork of a join, the pause of a depth.
use Rattle.std.specs.Prelude.{ℕ, ◌≡◌, ◌<◌, Some, length}
use Rattle.sc_graph.specs.declared.program.Step.TheVariants as step
use Rattle.sc_graph.specs.declared.links.Link.{Link}
use Rattle.sc_graph.specs.declared.links.Link.TheVariants as link
use Rattle.sc_graph.specs.Program.{Program, step_at}
use Rattle.sc_graph.specs.Structure.{ForksChild, JoinsAt}

abbrev pub IsLink : Program → Link → ℕ → Type 0
IsLink p (link.Child k) n = ForksChild p k n
IsLink p (link.Join j) n = JoinsAt p j n
IsLink p (link.Depth d) n = step_at p n ≡ Some (step.Surf d)

-- what is to be linked is there
abbrev pub IsInRange : Program → Link → Type 0
IsInRange p (link.Child k) = k < length p.threads
IsInRange p (link.Join j) = j < length p.nodes
IsInRange p (link.Depth d) = d < length p.nodes
