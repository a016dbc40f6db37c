-- From a graph to its image.
use Rattle.std.proofs.Common.{◌≡◌, Bool, true, false, subst, sym, IsTrue}
use Rattle.std.proofs.Math.Logic.{∥∥₁_elim, ∥∥₁_map}
use Rattle.sc_graph.specs.declared.place.Place.{Place}
use Rattle.sc_graph.specs.declared.tables.Tables.{Tables}
use Rattle.sc_graph.specs.Program.{Program}
use Rattle.sc_graph.specs.Valid.{IsFormed, IsValid}
use Rattle.priority_weights.specs.LeastTables.{AreLeast}
use Rattle.bytecode.specs.Image.{Image}
use Rattle.scl.specs.declared.program.Scl.{Scl}
use Rattle.scl.specs.Numbering.{numbered}
use Rattle.scl.specs.Rules.{KeepsRules}
use Rattle.scl_graph.specs.Answers.{IsGraph}
use Rattle.scl_graph_laws.specs.Keeps.{Keeps}
use Rattle.scl_graph_laws.proofs.RunsKept.{program_keeps_runs}
use Rattle.scl_graph_laws.specs.Laws.{KeepsStepRules}
use Rattle.scl_graph_laws.proofs.Forming.{program_is_formed}
use Rattle.scl_graph_laws.proofs.StepRules.{program_keeps_step_rules}
use Rattle.verifier.specs.Verdict.{KeptAt}
use Rattle.verifier.specs.declared.rule.Rule.{Rule}
use Rattle.verifier.specs.declared.rule.Rule.TheVariants as rule
use Rattle.verifier.specs.declared.rule.Broken.{Broken}
use Rattle.verifier.specs.declared.rule.Refusal.TheVariants as refusal
use Rattle.compiler.specs.Compiled.{BreaksARule, IsAboutSteps, IsCompiled, LacksImage}
use Rattle.compiler.specs.Texts.{IsImageOf, SclLacksImage}
use Rattle.compiler.specs.declared.fault.CompileFault.{CompileFault}
use Rattle.compiler.specs.declared.fault.CompileFault.TheVariants as fault

-- the graph of an SCL program keeps its runs, is formed, and keeps the rules about steps
answered : (scl : Scl) (q : Program) → KeepsRules scl.name scl.variables scl.body → IsGraph scl q → Keeps (numbered scl) q × IsFormed q × KeepsStepRules q
answered scl q kept graph = (
  subst (λ q. Keeps (numbered scl) q) (sym graph.is) (program_keeps_runs scl kept graph.no_loop),
  subst IsFormed (sym graph.is) (program_is_formed scl kept graph.no_loop graph.fits),
  subst KeepsStepRules (sym graph.is) (program_keeps_step_rules scl kept graph.no_loop graph.fits),
)

pub graph_formed : (scl : Scl) (q : Program) → IsGraph scl q → ∥ IsFormed q ∥₁
graph_formed scl q graph = ∥∥₁_map scl.kept (λ kept. (answered scl q kept graph).1)

pub image_of_graph : (scl : Scl) (q : Program) (image : Image) → IsGraph scl q → IsCompiled q image → IsImageOf scl image
image_of_graph scl q image graph compiled =
    let graph' : IsGraph scl image.program = subst (IsGraph scl) (sym compiled.program) graph in
    record {
      graph = graph';
      runs = ∥∥₁_map scl.kept (λ kept. (answered scl image.program kept graph').0);
      least = subst (λ p. AreLeast p image.tables) (sym compiled.program) compiled.least;
      valid = subst (λ p. IsValid p image.tables) (sym compiled.program) compiled.valid;
    }

no_proof : IsProp ⊥
no_proof a = absurd a

-- so none of these is broken
about_steps_kept : (q : Program) (r : Rule) (tables : Tables) (at : Place) → KeepsStepRules q → IsAboutSteps r → ¬ KeptAt r q tables at → ⊥
about_steps_kept q rule.Code tables at kept about breaks = breaks (kept.code at)
about_steps_kept q rule.Assignment tables at kept about breaks = breaks (kept.assignment at)
about_steps_kept q rule.Size tables at kept about breaks = about
about_steps_kept q rule.Structure tables at kept about breaks = about
about_steps_kept q rule.EndBit tables at kept about breaks = about
about_steps_kept q rule.NoConflict tables at kept about breaks = about
about_steps_kept q rule.Flow tables at kept about breaks = about
about_steps_kept q rule.Protocol tables at kept about breaks = about
about_steps_kept q rule.Weight tables at kept about breaks = about
about_steps_kept q rule.Bound tables at kept about breaks = about

breaks_none : (scl : Scl) (q : Program) (broken : Broken) → IsGraph scl q → BreaksARule q (refusal.Broken broken) → ⊥
breaks_none scl q broken graph breaks =
    ∥∥₁_elim scl.kept no_proof (λ kept. about_steps_kept q broken.rule breaks.1.0 broken.place (answered scl q kept graph).2 breaks.0 breaks.1.2.breaks)

pub graph_refused : (scl : Scl) (q : Program) (f : CompileFault) → IsGraph scl q → LacksImage q f → SclLacksImage scl f
graph_refused scl q (fault.Expansion f) graph refused = absurd refused
graph_refused scl q (fault.Graph f) graph refused = absurd refused
graph_refused scl q (fault.Conflict f) graph refused = record { program = q; graph = graph; refused = refused }
graph_refused scl q (fault.Tables f) graph refused = record { program = q; graph = graph; refused = refused }
graph_refused scl q (fault.Rule (refusal.Broken broken)) graph refused = absurd (breaks_none scl q broken graph refused.2)
graph_refused scl q (fault.Rule refusal.Memory) graph refused = record { program = q; graph = graph; refused = refused }

-- so a test of it is passed
clash : (b : Bool) → b ≡ true → b ≡ false → ⊥
clash b holds fails = cc

pub is_formed : (scl : Scl) (q : Program) (b : Bool) → IsGraph scl q → (IsFormed q → IsTrue b) → b ≡ false → ⊥
is_formed scl q b graph test is =
    ∥∥₁_elim (graph_formed scl q graph) no_proof (λ formed. clash b (test formed) is)
