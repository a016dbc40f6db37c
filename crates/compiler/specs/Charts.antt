-- What compiling a chart gives: the image of its SCL program, or why it has none.
use Rattle.std.specs.Prelude.{◌≡◌}
use Rattle.core_charts.specs.declared.features.Features.TheVariants as features
use Rattle.core_charts.specs.Chart.{Chart}
use Rattle.core_charts.specs.Rules.{IsChart}
use Rattle.abort_expansion.specs.Answers.{LacksCore}
use Rattle.abort_expansion.specs.Expansion.{IsExpandable, expanded}
use Rattle.chart_lowering.specs.Lowering.{lowered}
use Rattle.scl.specs.declared.program.Scl.{Scl}
use Rattle.scl.specs.Rules.{KeepsRules}
use Rattle.bytecode.specs.Image.{Image}
use Rattle.compiler.specs.Texts.{IsImageOf, SclLacksImage}
use Rattle.compiler.specs.declared.fault.CompileFault.{CompileFault}
use Rattle.compiler.specs.declared.fault.CompileFault.TheVariants as fault

-- the SCL program of a chart: the lowering of its expansion. The expansion keeps the rules of core charts, and the program
-- those of SCL
pub record IsSclOf (chart : Chart) (scl : Scl) : Type 0 where
  pub expandable : IsExpandable chart
  pub core : IsChart features.Core (expanded chart)
  pub rules : ∥ KeepsRules scl.name scl.variables scl.body ∥₁
  pub named : scl.name ≡ (expanded chart).name
  pub declared : scl.variables ≡ (expanded chart).variables
  pub body : scl.body ≡ lowered (expanded chart)

-- a chart has no SCL program, for this fault
abbrev pub LacksScl : Chart → CompileFault → Type 0
LacksScl chart (fault.Expansion f) = LacksCore chart f
LacksScl chart other = ⊥

-- the image is that of the SCL program of a chart
pub record IsImageOfChart (chart : Chart) (image : Image) : Type 0 where
  pub scl : Scl
  pub lowers : IsSclOf chart scl
  pub image_of : IsImageOf scl image

-- the SCL program of a chart has no image, for this fault
pub record LoweredLacksImage (chart : Chart) (f : CompileFault) : Type 0 where
  pub scl : Scl
  pub lowers : IsSclOf chart scl
  pub refused : SclLacksImage scl f

-- why a chart has no image: that it has no SCL program comes before what that lacks
abbrev pub ChartLacksImage : Chart → CompileFault → Type 0
ChartLacksImage chart (fault.Expansion f) = LacksCore chart f
ChartLacksImage chart other = LoweredLacksImage chart other
