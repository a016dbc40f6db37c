-- From what a text spells to what is drawn.
use Rattle.std.proofs.Common.{ℕ, List, inl, inr}
use Rattle.sc_graph.specs.Program.{Program}
use Rattle.sc_text.specs.declared.language.Language.TheVariants as language
use Rattle.sc_text.specs.FirstToken.{IsIn}
use Rattle.scl.specs.declared.program.Scl.{Scl}
use Rattle.scl_reader.specs.Read.{IsRead}
use Rattle.core_charts.specs.Chart.{Chart}
use Rattle.chart_reader.specs.Read as charts_read
use Rattle.compiler.specs.Charts.{IsSclOf, LacksScl}
use Rattle.compiler.specs.declared.fault.CompileFault.{CompileFault}
use Rattle.scl_graph.specs.Answers.{IsGraph, LacksGraph}
use Rattle.scl_graph.specs.declared.fault.GraphFault.{GraphFault}
use Rattle.compiler.specs.declared.fault.CompileFault.TheVariants as compiling
use Rattle.command_files.specs.declared.fault.LoadFault.TheVariants as load
use Rattle.command_texts.specs.Drawing.{HasDrawing, TextLacksDrawing}

pub chart_drawn : (text : List ℕ) (chart : Chart) (scl : Scl) → IsIn text language.Chart → charts_read.IsRead text chart → IsSclOf chart scl → HasDrawing text
chart_drawn text chart scl is_in read is = record {
  language = language.Chart;
  is_in = is_in;
  scl = scl;
  spells = record { chart = chart; read = read; is = is };
  graph = tt;
}

pub no_scl : (text : List ℕ) (chart : Chart) (f : CompileFault) → IsIn text language.Chart → charts_read.IsRead text chart → LacksScl chart f
    → TextLacksDrawing text (load.Program f)
no_scl text chart (compiling.Expansion f) is_in read none = inl (record { is_chart = is_in; chart = chart; read = read; none = none })
no_scl text chart (compiling.Graph f) is_in read none = absurd none
no_scl text chart (compiling.Conflict f) is_in read none = absurd none
no_scl text chart (compiling.Tables f) is_in read none = absurd none
no_scl text chart (compiling.Rule f) is_in read none = absurd none

pub graph_drawn : (text : List ℕ) (scl : Scl) (p : Program) → IsIn text language.Scl → IsRead text scl → IsGraph scl p → HasDrawing text
graph_drawn text scl p is_in read graph = record { language = language.Scl; is_in = is_in; scl = scl; spells = read; graph = (p, graph) }

pub no_graph : (text : List ℕ) (scl : Scl) (f : GraphFault) → IsIn text language.Scl → IsRead text scl → LacksGraph scl f
    → TextLacksDrawing text (load.Program (compiling.Graph f))
no_graph text scl f is_in read none = inr (record { is_scl = is_in; scl = scl; read = read; none = none })
