-- What is noted of the nodes below a fork that write one variable in one way.
use Rattle.std.specs.Prelude.{ℕ, ◌≡◌, ◌⊎◌, Some, List, slice_get, IsTrue}
use Rattle.sc_values.specs.Access.{Clash}
use Rattle.sc_graph.specs.Program.{Program, owner_of}
use Rattle.sc_graph.specs.Accesses.{accesses}
use Rattle.sc_graph.specs.Structure.{ForksChild}
use Rattle.sc_graph.specs.Threads.{Below}
use Rattle.program_edges.specs.Users.{InitsAt, UpdatesAt}
use Rattle.program_edges.specs.declared.agreement.Seen.{Seen}
use Rattle.program_edges.specs.declared.users.Use.{Use}
use Rattle.program_edges.specs.declared.users.Use.TheVariants as way

-- node n writes variable x in this way; nobody writes by reading
abbrev pub IsWriter : Program → Use → ℕ → ℕ → Type 0
IsWriter p way.Init x n = InitsAt p x n
IsWriter p way.Update x n = UpdatesAt p x n
IsWriter p way.Read x n = ⊥

-- all that was seen lies below one child, or is alike
abbrev pub IsQuiet : Seen → Type 0
IsQuiet s = IsTrue s.together ⊎ IsTrue s.alike

-- it is noted of node n, which lies below child c
pub record IsNoted (p : Program) (w : Use) (x : ℕ) (s : Seen) (c n : ℕ) : Type 0 where
  pub writer : IsWriter p w x s.first
  pub together : IsTrue s.together → s.child ≡ c
  pub alike : IsTrue s.alike → ¬ Clash (accesses p s.first) (accesses p n)
  pub quiet : IsQuiet s

-- so at a fork
pub record IsNotedAt (p : Program) (w : Use) (x : ℕ) (seen : List Seen) (fork c n : ℕ) : Type 0 where
  pub here : Seen
  pub stands : slice_get seen fork ≡ Some here
  pub noted : IsNoted p w x here c n

-- what was noted is noted still, and node n below child c too, where all is quiet
pub record Takes (p : Program) (w : Use) (x : ℕ) (old new : Seen) (c n : ℕ) : Type 0 where
  pub keeps : (b m : ℕ) → IsNoted p w x old b m → IsQuiet new → IsNoted p w x new b m
  pub gains : IsQuiet new → IsNoted p w x new c n

-- what was noted at some fork is noted there still
pub record KeepsNotes (p : Program) (w : Use) (x : ℕ) (old new : List Seen) : Type 0 where
  pub kept : (fork c n : ℕ) → IsNotedAt p w x old fork c n → IsNotedAt p w x new fork c n

pub record NotesAt (p : Program) (w : Use) (x : ℕ) (old new : List Seen) (fork c n : ℕ) : Type 0 where
  pub keeps : KeepsNotes p w x old new
  pub gains : IsNotedAt p w x new fork c n

pub record NotesChild (p : Program) (w : Use) (x : ℕ) (old new : List Seen) (c n : ℕ) : Type 0 where
  pub keeps : KeepsNotes p w x old new
  pub gains : (fork : ℕ) → ForksChild p c fork → IsNotedAt p w x new fork c n

-- node n, of thread t, is noted at each fork above it
pub record NotesAbove (p : Program) (w : Use) (x : ℕ) (old new : List Seen) (t n : ℕ) : Type 0 where
  pub keeps : KeepsNotes p w x old new
  pub gains : (fork c : ℕ) → Below p t c → ForksChild p c fork → IsNotedAt p w x new fork c n

abbrev pub IsNotedAbove : Program → Use → ℕ → List Seen → ℕ → Type 0
IsNotedAbove p w x seen n = (t fork c : ℕ) → owner_of p n ≡ Some t → Below p t c → ForksChild p c fork → IsNotedAt p w x seen fork c n

pub record NotesAll (p : Program) (w : Use) (x : ℕ) (old new : List Seen) (n : ℕ) : Type 0 where
  pub keeps : KeepsNotes p w x old new
  pub gains : IsNotedAbove p w x new n
