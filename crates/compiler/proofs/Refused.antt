-- Why a program has no image, by the fault of one pass.
use Rattle.std.proofs.Common.{◌≡◌, ◌≤◌, ℕ, List, Result, Err, subst₂}
use Rattle.sc_graph.specs.Program.{Program}
use Rattle.sc_graph.specs.Limits.{budget_limit}
use Rattle.sc_graph.specs.Protocol.{NoConflictAt, WriteConflict}
use Rattle.sc_graph.specs.Size.{BudgetFitsAt}
use Rattle.sc_graph.specs.Valid.{IsFormed}
use Rattle.sc_graph.specs.declared.place.Place.{Place}
use Rattle.sc_graph.specs.declared.place.Place.TheVariants as place
use Rattle.sc_graph.specs.declared.tables.Tables.{Tables}
use Rattle.bytecode.specs.Image.{Image}
use Rattle.verifier.specs.Verdict.{IsLowestBroken, KeptAt}
use Rattle.verifier.specs.declared.rule.Rule.{Rule}
use Rattle.verifier.specs.declared.rule.Rule.TheVariants as rule
use Rattle.verifier.specs.declared.rule.Broken.{Broken}
use Rattle.verifier.specs.declared.rule.Refusal.{Refusal}
use Rattle.verifier.specs.declared.rule.Refusal.TheVariants as refusal
use Rattle.program_edges.specs.Conflicts.{HasNoConflict}
use Rattle.conflict_edges.specs.declared.fault.ConflictFault.{ConflictFault}
use Rattle.conflict_edges.specs.declared.fault.ConflictFault.TheVariants as conflict
use Rattle.priority_weights.specs.Edges.{IsInstantLoop, IsOrderCycle}
use Rattle.priority_weights.specs.LeastTables.{AreLeast}
use Rattle.priority_weights.specs.declared.fault.TablesFault.{TablesFault}
use Rattle.priority_weights.specs.declared.fault.TablesFault.TheVariants as no_tables
use Rattle.compiler.specs.Compiled.{Conflicts, HasAWalk, BreaksARule, IsAboutSteps}

pub conflicts_by : {A : Type 0} (r : Result A ConflictFault) (p : Program) (f : ConflictFault) → r ≡ Err f →
    ((m n : ℕ) → r ≡ Err (conflict.WriteWrite m n) → WriteConflict p m n) → Conflicts p f
conflicts_by r p (conflict.WriteWrite m n) is each = each m n is
conflicts_by r p conflict.Memory is each = tt

pub has_a_walk : {A : Type 0} (r : Result A TablesFault) (p : Program) (f : TablesFault) → r ≡ Err f →
    ((walk : List ℕ) → r ≡ Err (no_tables.InstantLoop walk) → IsInstantLoop p walk) →
    ((walk : List ℕ) → r ≡ Err (no_tables.Cyclic walk) → IsOrderCycle p walk) →
    ((walk other : List ℕ) → r ≡ Err (no_tables.Cyclic walk) → ¬ IsInstantLoop p other) → HasAWalk p f
has_a_walk r p (no_tables.InstantLoop walk) is loop cyclic no_loop = loop walk is
has_a_walk r p (no_tables.Cyclic walk) is loop cyclic no_loop = (λ other. no_loop walk other is, cyclic walk is)
has_a_walk r p no_tables.Memory is loop cyclic no_loop = tt

budget_fits : (q : Tables) → q.budget ≤ budget_limit → (at : Place) → BudgetFitsAt q at
budget_fits q le place.Image = le
budget_fits q le (place.Variable x) = tt
budget_fits q le (place.Thread t) = tt
budget_fits q le (place.Node n) = tt
budget_fits q le (place.Pair m n) = tt

none_at : (p : Program) → HasNoConflict p → (at : Place) → NoConflictAt p at
none_at p h (place.Pair m n) = h.none m n
none_at p h place.Image = tt
none_at p h (place.Variable x) = tt
none_at p h (place.Thread t) = tt
none_at p h (place.Node n) = tt

-- the other rules are kept by a formed program without conflicts with its least tables
about_steps : (p : Program) (q : Tables) (r : Rule) (at : Place) → IsFormed p → HasNoConflict p → AreLeast p q → q.budget ≤ budget_limit → ¬ KeptAt r p q at →
    IsAboutSteps r
about_steps p q rule.Size at formed none least le breaks = breaks (formed.size at, budget_fits q le at)
about_steps p q rule.Structure at formed none least le breaks = breaks (formed.structure at)
about_steps p q rule.Code at formed none least le breaks = tt
about_steps p q rule.Assignment at formed none least le breaks = tt
about_steps p q rule.EndBit at formed none least le breaks = breaks (least.keeps.end_bit at)
about_steps p q rule.NoConflict at formed none least le breaks = breaks (none_at p none at)
about_steps p q rule.Flow at formed none least le breaks = breaks (least.keeps.flow at)
about_steps p q rule.Protocol at formed none least le breaks = breaks (least.keeps.protocol at)
about_steps p q rule.Weight at formed none least le breaks = breaks (least.keeps.weight at)
about_steps p q rule.Bound at formed none least le breaks = breaks (least.keeps.bound at)

-- the image is that of the program with its least tables
pub breaks_a_rule : {A : Type 0} (r : Result A Refusal) (p : Program) (q : Tables) (i : Image) (f : Refusal) → r ≡ Err f →
    (i.program ≡ p) × (i.tables ≡ q) → IsFormed p → HasNoConflict p → AreLeast p q → q.budget ≤ budget_limit →
    ((broken : Broken) → r ≡ Err (refusal.Broken broken) → IsLowestBroken i.program i.tables broken) → BreaksARule p f
breaks_a_rule r p q i (refusal.Broken broken) is parts formed none least le each =
    let P : Program → Tables → Type 0 = λ x y. IsLowestBroken x y broken in
    let lowest : IsLowestBroken p q broken = subst₂ P parts.0 parts.1 (each broken is) in
    (about_steps p q broken.rule broken.place formed none least le lowest.breaks, (q, least, lowest))
breaks_a_rule r p q i refusal.Memory is parts formed none least le each = tt
