-- Why a chart has no core text.
use Rattle.std.proofs.Common.{inl, inr}
use Rattle.core_charts.specs.Chart.{Chart}
use Rattle.abort_expansion.specs.Answers as expansion
use Rattle.abort_expansion.specs.declared.fault.ExpandFault.{ExpandFault}
use Rattle.abort_expansion.specs.declared.fault.ExpandFault.TheVariants as expanding
use Rattle.chart_texts.specs.CoreText.{LacksCoreText}
use Rattle.compiler.specs.declared.fault.CompileFault.TheVariants as compiling
use Rattle.command_texts.specs.Cores.{ChartLacksCore}

-- a chart without a core chart, or with one that has no text
pub not_expanded : (c : Chart) (f : ExpandFault) → expansion.LacksCore c f → ChartLacksCore c (compiling.Expansion f)
not_expanded c expanding.Limit none = inl none
not_expanded c expanding.Memory none = tt

pub not_written : (c : Chart) → LacksCoreText c → ChartLacksCore c (compiling.Expansion expanding.Limit)
not_written c none = inr none
