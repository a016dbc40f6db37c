use Rattle.std.proofs.Common.{inr}
use Rattle.command_files.proofs.compiled.compile_read.Goals as goal

pub returns-in-Ok-compile_source-clause-compiled : goal.returns-in-Ok-compile_source-clause-compiled
returns-in-Ok-compile_source-clause-compiled c = record {
  scl = c.in-Ok.source.scl;
  text = c.in-Ok.ensures.text;
  read = c.in-Ok.ensures.read;
  compiled = c.in-Ok-compile_source.ensures.compiled;
}

pub returns-in-Err-compile_source-clause-fault : goal.returns-in-Err-compile_source-clause-fault
returns-in-Err-compile_source-clause-fault c =
    inr (c.in-Ok.source.scl, c.in-Ok.ensures.text, c.in-Ok.ensures.read, c.in-Err-compile_source.ensures.refused)
