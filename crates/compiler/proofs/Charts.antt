-- From the SCL program of a chart to its image.
use Rattle.std.proofs.Common.{◌≡◌, Result, Ok, Err, IfOk, ap, subst, ◌∙◌}
use Rattle.core_charts.specs.declared.features.Features.TheVariants as features
use Rattle.core_charts.specs.Chart.{Chart}
use Rattle.core_charts.specs.Rules.{IsChart}
use Rattle.abort_expansion.specs.Expansion.{IsExpandable, expanded}
use Rattle.chart_lowering.specs.Lowering.{lowered}
use Rattle.scl.specs.declared.program.Scl.{Scl}
use Rattle.bytecode.specs.Image.{Image}
use Rattle.compiler.specs.Texts.{IsImageOf, SclLacksImage}
use Rattle.compiler.specs.Charts.{IsSclOf, LacksScl, IsImageOfChart, ChartLacksImage}
use Rattle.compiler.specs.declared.fault.CompileFault.{CompileFault}
use Rattle.compiler.specs.declared.fault.CompileFault.TheVariants as fault

-- the lowering of the expansion is the program of the chart
pub lowering_of : (chart core : Chart) (scl : Scl) → IsExpandable chart → core ≡ expanded chart → IsChart features.Core core → scl.name ≡ core.name →
    scl.variables ≡ core.variables → scl.body ≡ lowered core → IsSclOf chart scl
lowering_of chart core scl expandable same rules named declared body = record {
  expandable = expandable;
  core = subst (IsChart features.Core) same rules;
  rules = scl.kept;
  named = named ∙ ap (λ (c : Chart). c.name) same;
  declared = declared ∙ ap (λ (c : Chart). c.variables) same;
  body = body ∙ ap lowered same;
}

-- what is made of the program's image is the image of the chart
pub image_of_chart : {E : Type 0} (chart : Chart) (scl : Scl) (r : Result Image E) → IsSclOf chart scl → IfOk r (IsImageOf scl) → IfOk r (IsImageOfChart chart)
image_of_chart chart scl (Ok image) lowers is = record { scl = scl; lowers = lowers; image_of = is }
image_of_chart chart scl (Err f) lowers is = tt

pub no_scl : (chart : Chart) (f : CompileFault) → LacksScl chart f → ChartLacksImage chart f
no_scl chart (fault.Expansion f) none = none
no_scl chart (fault.Graph f) none = absurd none
no_scl chart (fault.Conflict f) none = absurd none
no_scl chart (fault.Tables f) none = absurd none
no_scl chart (fault.Rule f) none = absurd none

pub no_image : (chart : Chart) (scl : Scl) (f : CompileFault) → IsSclOf chart scl → SclLacksImage scl f → ChartLacksImage chart f
no_image chart scl (fault.Expansion f) lowers refused = absurd refused.refused
no_image chart scl (fault.Graph f) lowers refused = record { scl = scl; lowers = lowers; refused = refused }
no_image chart scl (fault.Conflict f) lowers refused = record { scl = scl; lowers = lowers; refused = refused }
no_image chart scl (fault.Tables f) lowers refused = record { scl = scl; lowers = lowers; refused = refused }
no_image chart scl (fault.Rule f) lowers refused = record { scl = scl; lowers = lowers; refused = refused }
