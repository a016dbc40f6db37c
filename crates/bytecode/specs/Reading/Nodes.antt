-- Reading threads, steps and nodes.
use Rattle.std.specs.Prelude.{ℕ, zero, suc, List, length, ◌==◌, Option, Some, None, Ok, Err, if◌then◌else◌}
use Rattle.std.specs.Int.{w16, w32}
use Rattle.sc_graph.specs.declared.program.Step.{Step}
use Rattle.sc_graph.specs.declared.program.Step.TheVariants as step
use Rattle.sc_graph.specs.Limits.{no_parent}
use Rattle.bytecode.specs.declared.rows.ThreadRow.{ThreadRow}
use Rattle.bytecode.specs.declared.rows.NodeRow.{NodeRow}
use Rattle.bytecode.specs.declared.fault.DecodeFault.TheVariants as fault
use Rattle.bytecode.specs.Reading.{◌>>=◌, Reader, each_at}
use Rattle.bytecode.specs.Reading.Fields.{byte_at, number_at, choice_at, flags, combinations}
use Rattle.bytecode.specs.Reading.Codes.{code_at}

abbrev pub parent_of : ℕ → Option ℕ
parent_of n = if n == no_parent then None else Some n

unfoldable pub thread_at : Reader ThreadRow
thread_at bytes = do
  parent ← number_at w16 bytes
  entry ← number_at w16 parent.1
  bound ← number_at w32 entry.1
  Ok (record { thread = record { parent = parent_of parent.0; entry = entry.0 }; bound = bound.0 }, bound.1)

unfoldable pub assign_at : ℕ → Reader Step
assign_at version bytes = do
  variable ← number_at w16 bytes
  next ← number_at w16 variable.1
  code ← code_at version next.1
  Ok (step.Assign variable.0 code.0 next.0, code.1)

unfoldable pub update_at : ℕ → Reader Step
update_at version bytes = do
  variable ← number_at w16 bytes
  combine ← choice_at combinations variable.1
  next ← number_at w16 combine.1
  code ← code_at version next.1
  Ok (step.Update variable.0 combine.0 code.0 next.0, code.1)

unfoldable pub cond_at : ℕ → Reader Step
cond_at version bytes = do
  target ← number_at w16 bytes
  other ← number_at w16 target.1
  code ← code_at version other.1
  Ok (step.Cond code.0 target.0 other.0, code.1)

unfoldable pub fork_at : Reader Step
fork_at bytes = do
  join ← number_at w16 bytes
  count ← byte_at join.1
  children ← each_at (number_at w16) count.0 count.1
  Ok (step.Fork children.0 join.0, children.1)

-- a step that names one node and nothing else
unfoldable pub target_at : (ℕ → Step) → Reader Step
target_at step bytes = do
  target ← number_at w16 bytes
  Ok (step target.0, target.1)

-- what comes behind the tag of a step, which begins these bytes
unfoldable pub step_body : ℕ → List ℕ → ℕ → Reader Step
step_body version bytes zero rest = Ok (step.Exit, rest)
step_body version bytes (suc zero) rest = assign_at version rest
step_body version bytes (suc (suc zero)) rest = update_at version rest
step_body version bytes (suc (suc (suc zero))) rest = cond_at version rest
step_body version bytes (suc (suc (suc (suc zero)))) rest = fork_at rest
step_body version bytes (suc (suc (suc (suc (suc zero))))) rest = target_at step.Join rest
step_body version bytes (suc (suc (suc (suc (suc (suc zero)))))) rest = target_at step.Surf rest
step_body version bytes (suc (suc (suc (suc (suc (suc (suc zero))))))) rest = target_at step.Depth rest
step_body version bytes (suc (suc (suc (suc (suc (suc (suc (suc n)))))))) rest = Err (fault.Field (length bytes))

unfoldable pub tagged_step_at : ℕ → Reader Step
tagged_step_at version bytes = do
  tag ← byte_at bytes
  step_body version bytes tag.0 tag.1

unfoldable pub node_at : ℕ → Reader NodeRow
node_at version bytes = do
  owner ← number_at w16 bytes
  priority ← number_at w16 owner.1
  weight ← number_at w16 priority.1
  end_bit ← choice_at flags weight.1
  step ← tagged_step_at version end_bit.1
  Ok (
    record {
      node = record { owner = owner.0; step = step.0 };
      priority = priority.0;
      weight = weight.0;
      end_bit = end_bit.0;
    },
    step.1,
  )
