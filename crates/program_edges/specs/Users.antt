-- The nodes that use each variable, and lists of nodes by the number of something.
use Rattle.std.specs.Prelude.{ℕ, ◌≡◌, ◌<◌, ◌⊎◌, List, [], length, get_or, Contains}
use Rattle.sc_values.specs.declared.operator.Combination.{Combination}
use Rattle.sc_values.specs.Access.{Inits, Updates, Reads}
use Rattle.sc_graph.specs.Program.{Program}
use Rattle.sc_graph.specs.Accesses.{accesses}
use Rattle.program_edges.specs.declared.users.Use.{Use}
use Rattle.program_edges.specs.declared.users.Users.{Users}
use Rattle.program_edges.specs.declared.users.Use.TheVariants as way

-- node n initializes, updates or reads variable x
abbrev pub InitsAt : Program → ℕ → ℕ → Type 0
InitsAt p x n = Inits (accesses p n) x

abbrev pub UpdatesAt : Program → ℕ → ℕ → Type 0
UpdatesAt p x n = (f : Combination) × Updates (accesses p n) x f

abbrev pub ReadsAt : Program → ℕ → ℕ → Type 0
ReadsAt p x n = Reads (accesses p n) x

-- the list has exactly the numbers of which this holds
pub record Lists (numbers : List ℕ) (P : ℕ → Type 0) : Type 0 where
  pub each : (n : ℕ) → P n → Contains numbers n
  pub only : (n : ℕ) → Contains numbers n → P n

abbrev pub UsesAt : Program → Use → ℕ → ℕ → Type 0
UsesAt p way.Init x n = InitsAt p x n
UsesAt p way.Update x n = UpdatesAt p x n
UsesAt p way.Read x n = ReadsAt p x n

-- for each of so many numbers the list of exactly the nodes that use it
pub record ListsEach (count : ℕ) (Uses : ℕ → ℕ → Type 0) (lists : List (List ℕ)) : Type 0 where
  pub each : (x : ℕ) → x < count → Lists (get_or lists x []) (Uses x)

-- so many lists with no node in any
pub record IsUnused (count : ℕ) (lists : List (List ℕ)) : Type 0 where
  pub long : length lists ≡ count
  pub unused : (x n : ℕ) → ¬ Contains (get_or lists x []) n

-- node n was put into the lists of the numbers that it uses, and nothing else was changed
pub record Gains (old new : List (List ℕ)) (n : ℕ) (Uses : ℕ → Type 0) : Type 0 where
  pub count : length new ≡ length old
  pub keeps : (x m : ℕ) → Contains (get_or old x []) m → Contains (get_or new x []) m
  pub gains : (x : ℕ) → x < length old → Uses x → Contains (get_or new x []) n
  pub only : (x m : ℕ) → Contains (get_or new x []) m → Contains (get_or old x []) m ⊎ ((m ≡ n) × Uses x)

-- the users of the variables
pub record UsersOf (p : Program) (u : Users) : Type 0 where
  pub inits : ListsEach (length p.variables) (InitsAt p) u.inits
  pub updates : ListsEach (length p.variables) (UpdatesAt p) u.updates
  pub reads : ListsEach (length p.variables) (ReadsAt p) u.reads
