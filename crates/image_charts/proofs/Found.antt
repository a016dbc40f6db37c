-- What was found of a text and an image.
use Rattle.std.proofs.Common.{◌≡◌, ◌∙◌, ℕ, true, Option, List, ◌++◌, map, refl, ap}
use Rattle.std.specs.Prelude.{Result, Ok, Err, OnOk}
use Rattle.std.specs.Str.{IsUtf8}
use Rattle.json.specs.Print.{quoted}
use Rattle.serde_json.specs.Written.{members_text}
use Rattle.sc_graph.specs.declared.control.Control.{Control}
use Rattle.core_charts.specs.Chart.{Chart}
use Rattle.chart_reader.specs.Read.{IsRead}
use Rattle.author_states.specs.Author.{AuthorsStates}
use Rattle.bytecode.specs.Image.{Image}
use Rattle.node_states.specs.Active.{active_states}
use Rattle.core_charts.specs.Paths.{paths_of}
use Rattle.compiled_charts.specs.Compiled.{CompiledChart, IsCompiledChart}
use Rattle.command_files.specs.declared.fault.LoadFault.{LoadFault}
use Rattle.command_files.specs.declared.fault.LoadFault.TheVariants as fault
use Rattle.state_traces.specs.Lines.{paths_at, states_member}
use Rattle.state_traces.specs.Listed.{states_text}
use Rattle.state_traces.proofs.Listed.{told_by as listed}
use Rattle.image_charts.specs.Charts.{IsNotChartOf, NamedStates, state_words}
use Rattle.image_charts.specs.Inside.Beside.{Differ, LacksIt, TellsOfChart}
use Rattle.image_charts.specs.Written.{TellsOf, told_by}

-- the chart of an image, compiled
pub tells_of_chart : (image : Image) (chart : Chart) (authors : Option AuthorsStates) (compiled : CompiledChart) (states : NamedStates)
    → IsCompiledChart chart compiled → compiled.image ≡ image → states ≡ told_by authors (record { compiled = compiled; paths = paths_of chart })
    → TellsOfChart chart image authors states
tells_of_chart image chart authors compiled states is same told = record { compiled = compiled; is = is; same = same; told = told }

-- the chart has another image
pub differ : (name : List ℕ) (image : Image) (chart : Chart) (compiled : CompiledChart) (f : LoadFault) → IsCompiledChart chart compiled
    → Differ name compiled.image image f → LacksIt name chart image f
differ name image chart compiled fault.Memory is differs = tt
differ name image chart compiled (fault.Source shown) is differs =
    (differs.0, record { compiled = compiled; is = is; differs = differs.1 })
differ name image chart compiled (fault.Image f) is differs = absurd differs
differ name image chart compiled (fault.Rule f) is differs = absurd differs
differ name image chart compiled (fault.Text f) is differs = absurd differs
differ name image chart compiled (fault.Program f) is differs = absurd differs
differ name image chart compiled (fault.File shown) is differs = absurd differs

-- the text spells the chart of the image
pub tells_of : (bytes : List ℕ) (image : Image) (chart : Chart) (authors : Option AuthorsStates) (states : NamedStates) → IsUtf8 bytes
    → IsRead bytes chart → TellsOfChart chart image authors states → TellsOf bytes image authors states
tells_of bytes image chart authors states text read tells = record {
  own = record { compiled = tells.compiled; paths = paths_of chart };
  is = record { chart = chart; text = text; read = read; compiled = tells.is; same = tells.same; paths = refl };
  told = tells.told;
}

-- the text spells a chart that has no image, or another one
pub lacks : (name bytes : List ℕ) (image : Image) (chart : Chart) (f : LoadFault) → IsUtf8 bytes → IsRead bytes chart → LacksIt name chart image f
    → IsNotChartOf name bytes image f
lacks name bytes image chart fault.Memory text read gone = tt
lacks name bytes image chart (fault.Program f) text read gone = record { chart = chart; text = text; read = read; none = gone }
lacks name bytes image chart (fault.Source shown) text read gone =
    let other = gone.1 in
    (gone.0, record { chart = chart; text = text; read = read; compiled = other.compiled; is = other.is; differs = other.differs })
lacks name bytes image chart (fault.Image f) text read gone = absurd gone
lacks name bytes image chart (fault.Rule f) text read gone = absurd gone
lacks name bytes image chart (fault.Text f) text read gone = absurd gone
lacks name bytes image chart (fault.File shown) text read gone = absurd gone

-- what was put behind a line tells of the active states
states_told : (s : NamedStates) (c : Control) (shown : List (List ℕ)) (active line line' : List ℕ)
    → active ≡ active_states s.compiled.nodes s.compiled.states c → shown ≡ map quoted s.paths
    → line' ≡ line ++ states_text shown active → line' ≡ line ++ members_text true (state_words s c)
states_told s c shown active line line' is same put =
    put ∙ ap (λ t. line ++ t) (listed shown s.paths active same) ∙ ap (λ ns. line ++ members_text true (states_member (paths_at s.paths ns))) is

pub states_put : {A E : Type 0} (r : Result A E) (s : NamedStates) (c : Control) (shown : List (List ℕ)) (active line line' : List ℕ)
    → active ≡ active_states s.compiled.nodes s.compiled.states c → shown ≡ map quoted s.paths
    → OnOk r (line' ≡ line ++ states_text shown active) → OnOk r (line' ≡ line ++ members_text true (state_words s c))
states_put (Ok a) s c shown active line line' is same put = states_told s c shown active line line' is same put
states_put (Err e) s c shown active line line' is same put = tt
