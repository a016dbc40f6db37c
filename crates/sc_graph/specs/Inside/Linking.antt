-- How links are found: what each node adds to what was found before.
use Rattle.std.specs.Prelude.{ℕ, ◌≡◌, nat_eq, Option, List, [], ◌∷◌, length, slice_set, if◌then◌else◌}
use Rattle.sc_graph.specs.declared.links.Found.{Found}
use Rattle.sc_graph.specs.declared.links.Found.TheVariants as found
use Rattle.sc_graph.specs.declared.links.Link.{Link}
use Rattle.sc_graph.specs.declared.links.Link.TheVariants as link
use Rattle.sc_graph.specs.declared.links.Links.{Links}
use Rattle.sc_graph.specs.declared.program.Step.{Step}
use Rattle.sc_graph.specs.declared.program.Step.TheVariants as step
use Rattle.sc_graph.specs.Program.{Program}
use Rattle.sc_graph.specs.Links.{found_at, only_at, Tells}
use Rattle.sc_graph.specs.Valid.{IsFormed}

abbrev pub noted : Found → ℕ → Found
noted found.Nobody n = found.Alone n
noted (found.Alone m) n = if nat_eq m n then found.Alone m else found.Several
noted found.Several n = found.Several

-- node n was noted for number k
abbrev pub noted_at : List Found → ℕ → ℕ → List Found
noted_at slots k n = slice_set slots k (noted (found_at slots k) n)

abbrev pub noted_all : List ℕ → ℕ → List Found → List Found
noted_all [] n slots = slots
noted_all (k ∷ targets) n slots = noted_all targets n (noted_at slots k n)

-- node n with this step was noted for all that it links to
abbrev pub after_step : Step → ℕ → Links → Links
after_step (step.Fork children join) n l =
    record { forks = noted_all children n l.forks; joins = noted_at l.joins join n; pauses = l.pauses }
after_step (step.Surf depth) n l = record { forks = l.forks; joins = l.joins; pauses = noted_at l.pauses depth n }
after_step other n l = l

pub record IsBlank (threads nodes : ℕ) (l : Links) : Type 0 where
  pub forks : length l.forks ≡ threads
  pub joins : length l.joins ≡ nodes
  pub pauses : length l.pauses ≡ nodes
  pub no_fork : (t : ℕ) → found_at l.forks t ≡ found.Nobody
  pub no_join : (j : ℕ) → found_at l.joins j ≡ found.Nobody
  pub no_pause : (d : ℕ) → found_at l.pauses d ≡ found.Nobody

abbrev pub only_link : Links → Link → Option ℕ
only_link l (link.Child k) = only_at l.forks k
only_link l (link.Join j) = only_at l.joins j
only_link l (link.Depth d) = only_at l.pauses d

-- the links of a formed program
pub record LinksFormed (p : Program) (l : Links) : Type 0 where
  pub formed : IsFormed p
  pub told : Tells p l
