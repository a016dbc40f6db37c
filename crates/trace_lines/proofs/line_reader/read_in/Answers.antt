use Rattle.std.proofs.Common.{arith}
use Rattle.std.proofs.lemmas.Grind.{elements}
use Rattle.trace_lines.proofs.line_reader.read_in.Goals as goal

pub returns-in_err-keep-clause-kept : goal.returns-in_err-keep-clause-kept
returns-in_err-keep-clause-kept c = c.keep.ensures.kept c.args.interface.now c.requires.kept c.in_ok-inputs.ensures.ok

pub returns-clause-kept : goal.returns-clause-kept
returns-clause-kept c = c.keep.ensures.kept c.args.interface.now c.requires.kept c.in_ok-inputs.ensures.ok

pub returns-then-is_kept_at-clause-kept : goal.returns-then-is_kept_at-clause-kept
returns-then-is_kept_at-clause-kept c = grind (arith, elements) steps 2000000

pub returns-then-is_kept_at-clause-ok : goal.returns-then-is_kept_at-clause-ok
returns-then-is_kept_at-clause-ok c = grind (arith, elements) steps 2000000

pub returns-then-is_kept_at-clause-not_json : goal.returns-then-is_kept_at-clause-not_json
returns-then-is_kept_at-clause-not_json c = grind (arith, elements) steps 2000000

pub returns-then-is_kept_at-clause-input : goal.returns-then-is_kept_at-clause-input
returns-then-is_kept_at-clause-input c = grind (arith, elements) steps 2000000

pub returns-clause-ok : goal.returns-clause-ok
returns-clause-ok c = grind (arith, elements) steps 2000000

pub returns-clause-not_json : goal.returns-clause-not_json
returns-clause-not_json c = grind (arith, elements) steps 2000000

pub returns-clause-input : goal.returns-clause-input
returns-clause-input c = grind (arith, elements) steps 2000000
