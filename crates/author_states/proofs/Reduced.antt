-- From an extended chart that was read to the source for which its text stands.
use Rattle.std.proofs.Common.{◌≡◌, ℕ, List, inr, refl}
use Rattle.std.specs.Str.{IsUtf8}
use Rattle.author_states.specs.Author.{AuthorsStates, author_states}
use Rattle.author_states.specs.Authored.{HasAuthored, IsAuthored}
use Rattle.author_states.specs.Inside.Texts.{IsUnreduced}
use Rattle.command_files.specs.Counting.{files_failed}
use Rattle.command_files.specs.declared.fault.LoadFault.{LoadFault}
use Rattle.command_files.specs.declared.fault.LoadFault.TheVariants as fault
use Rattle.command_files.specs.Standing.{AreReduced, BytesLackReduced, StandsFor}
use Rattle.extended_charts.specs.declared.extended.ExtendedChart.{ExtendedChart}
use Rattle.extended_reader.specs.Read.{IsRead}
use Rattle.chart_texts.specs.ReducedText.{IsReducedText}

-- ---- what was read

pub has_authored : (written source : List ℕ) (chart : ExtendedChart) (states : AuthorsStates) → IsUtf8 written → IsRead written chart
    → IsReducedText chart source → states ≡ author_states chart → HasAuthored written source states
has_authored written source chart states text read reduced are =
    record { is_text = text; chart = chart; read = read; reduced = reduced; states_are = are }

pub lacks_reduced : (written : List ℕ) (chart : ExtendedChart) (f : LoadFault) → IsUtf8 written → IsRead written chart → IsUnreduced chart f
    → BytesLackReduced written f
lacks_reduced written chart fault.Memory text read none = tt
lacks_reduced written chart (fault.Program f) text read none =
    (none.0, record { is_text = text; chart = chart; read = read; none = none.1 })
lacks_reduced written chart (fault.Text f) text read none = absurd none
lacks_reduced written chart (fault.Image f) text read none = absurd none
lacks_reduced written chart (fault.Rule f) text read none = absurd none
lacks_reduced written chart (fault.File shown) text read none = absurd none
lacks_reduced written chart (fault.Source shown) text read none = absurd none

-- no file failed where there is no such text
pub quiet : (written : List ℕ) (f : LoadFault) → BytesLackReduced written f → files_failed f ≡ 0
quiet written fault.Memory none = refl
quiet written (fault.Program f) none = refl
quiet written (fault.Text f) none = refl
quiet written (fault.Image f) none = absurd none
quiet written (fault.Rule f) none = absurd none
quiet written (fault.File shown) none = absurd none
quiet written (fault.Source shown) none = absurd none

-- ---- what is written stands for the text of the reduced chart

pub are_reduced : (written source : List ℕ) (states : AuthorsStates) → IsAuthored written source states → AreReduced written source
are_reduced written source states is = record {
  begins = is.begins;
  reduced = record { is_text = is.has.is_text; chart = is.has.chart; read = is.has.read; reduced = is.has.reduced };
}

pub stands_so : (written source : List ℕ) (states : AuthorsStates) → IsAuthored written source states → StandsFor written source
stands_so written source states is = inr (are_reduced written source states is)
