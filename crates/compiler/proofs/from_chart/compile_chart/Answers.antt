use Rattle.std.proofs.Common.{rules}
use Rattle.compiler.proofs.Charts.{image_of_chart, no_image}
use Rattle.compiler.proofs.from_chart.compile_chart.Goals as goal

pub returns-clause-compiled : goal.returns-clause-compiled
returns-clause-compiled c =
    image_of_chart c.args.chart.now c.in_ok-scl.scl c.compile_scl.result c.in_ok-scl.ensures.scl c.compile_scl.ensures.compiled

pub returns-clause-refused : goal.returns-clause-refused
returns-clause-refused c = search (rules, no_image)
