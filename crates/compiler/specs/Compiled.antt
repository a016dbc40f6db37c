-- What compiling a program gives: its image with the least tables, or why it has none.
use Rattle.std.specs.Prelude.{ℕ, ◌≡◌, ◌≤◌, List}
use Rattle.sc_graph.specs.Limits.{budget_limit}
use Rattle.sc_graph.specs.Program.{Program}
use Rattle.sc_graph.specs.Protocol.{WriteConflict}
use Rattle.sc_graph.specs.Valid.{IsValid}
use Rattle.sc_graph.specs.declared.tables.Tables.{Tables}
use Rattle.bytecode.specs.Image.{Image}
use Rattle.verifier.specs.Verdict.{IsLowestBroken}
use Rattle.verifier.specs.declared.rule.Rule.{Rule}
use Rattle.verifier.specs.declared.rule.Rule.TheVariants as rule
use Rattle.verifier.specs.declared.rule.Refusal.{Refusal}
use Rattle.verifier.specs.declared.rule.Refusal.TheVariants as refusal
use Rattle.program_edges.specs.Conflicts.{HasNoConflict}
use Rattle.conflict_edges.specs.declared.fault.ConflictFault.{ConflictFault}
use Rattle.conflict_edges.specs.declared.fault.ConflictFault.TheVariants as conflict
use Rattle.priority_weights.specs.Edges.{IsInstantLoop, IsOrderCycle, HasNoWalk}
use Rattle.priority_weights.specs.LeastTables.{AreLeast}
use Rattle.priority_weights.specs.declared.fault.TablesFault.{TablesFault}
use Rattle.priority_weights.specs.declared.fault.TablesFault.TheVariants as no_tables
use Rattle.compiler.specs.declared.fault.CompileFault.{CompileFault}
use Rattle.compiler.specs.declared.fault.CompileFault.TheVariants as fault

-- the image is that of the program with its least tables, and valid
pub record IsCompiled (p : Program) (image : Image) : Type 0 where
  pub program : image.program ≡ p
  pub least : AreLeast p image.tables
  pub valid : IsValid p image.tables

-- no two of its nodes conflict, none of its walks is closed, and these are its least tables, which keep the limit of the budget
pub record HasTables (p : Program) (q : Tables) : Type 0 where
  pub none : HasNoConflict p
  pub no_walk : HasNoWalk p
  pub least : AreLeast p q
  pub budget : q.budget ≤ budget_limit

-- two nodes write in conflict
abbrev pub Conflicts : Program → ConflictFault → Type 0
Conflicts p (conflict.WriteWrite m n) = WriteConflict p m n
Conflicts p conflict.Memory = Unit {0}

-- flow within one tick closes; or it does not, and instantaneous and protocol edges close
abbrev pub HasAWalk : Program → TablesFault → Type 0
HasAWalk p (no_tables.InstantLoop walk) = IsInstantLoop p walk
HasAWalk p (no_tables.Cyclic walk) = ((other : List ℕ) → ¬ IsInstantLoop p other) × IsOrderCycle p walk
HasAWalk p no_tables.Memory = Unit {0}

-- the rules about the codes and assignments of steps, which no tables keep or break
abbrev pub IsAboutSteps : Rule → Type 0
IsAboutSteps rule.Code = Unit {0}
IsAboutSteps rule.Assignment = Unit {0}
IsAboutSteps other = ⊥

-- with its least tables such a rule is the lowest that is broken
abbrev pub BreaksARule : Program → Refusal → Type 0
BreaksARule p (refusal.Broken broken) = IsAboutSteps broken.rule × ((q : Tables) × AreLeast p q × IsLowestBroken p q broken)
BreaksARule p refusal.Memory = Unit {0}

-- why a program has no image: conflicts come before walks, and these before rules
abbrev pub LacksImage : Program → CompileFault → Type 0
LacksImage p (fault.Expansion f) = ⊥
LacksImage p (fault.Graph f) = ⊥
LacksImage p (fault.Conflict f) = Conflicts p f
LacksImage p (fault.Tables f) = HasNoConflict p × HasAWalk p f
LacksImage p (fault.Rule r) = HasNoConflict p × HasNoWalk p × BreaksARule p r
