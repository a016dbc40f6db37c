-- From a source that is the chart of an image, or is not, to the text that stands for it.
use Rattle.std.proofs.Common.{◌≡◌, ℕ, List, None, Some, inl, inr, refl}
use Rattle.author_states.specs.Author.{AuthorsStates}
use Rattle.author_states.proofs.Reduced.{stands_so}
use Rattle.author_states.specs.Authored.{IsAuthored}
use Rattle.bytecode.specs.Image.{Image}
use Rattle.command_files.specs.declared.fault.LoadFault.{LoadFault}
use Rattle.command_files.specs.declared.fault.LoadFault.TheVariants as load
use Rattle.command_files.specs.Counting.{files_failed}
use Rattle.command_files.specs.Standing.{AreAsWritten}
use Rattle.image_charts.specs.Charts.{IsNotChartOf, NamedStates}
use Rattle.image_charts.specs.Written.{IsNoTextBeside, IsTextBeside, TellsOf}

-- ---- what is told

pub own_text : (written : List ℕ) (image : Image) (states : NamedStates) → AreAsWritten written written → TellsOf written image None states
    → IsTextBeside written image states
own_text written image states itself tells = record { source = written; authors = None; stands = itself; tells = tells }

pub extended_text : (written source : List ℕ) (authors : AuthorsStates) (image : Image) (states : NamedStates) → IsAuthored written source authors
    → TellsOf source image (Some authors) states → IsTextBeside written image states
extended_text written source authors image states authored tells =
    record { source = source; authors = Some authors; stands = authored; tells = tells }

-- ---- why nothing is

pub not_own : (name written : List ℕ) (image : Image) (f : LoadFault) → AreAsWritten written written → IsNotChartOf name written image f
    → IsNoTextBeside name written image f
not_own name written image f itself not = inr (record { source = written; stands = inl itself; not = not })

pub not_extended : (name written source : List ℕ) (authors : AuthorsStates) (image : Image) (f : LoadFault) → IsAuthored written source authors
    → IsNotChartOf name source image f → IsNoTextBeside name written image f
not_extended name written source authors image f authored not =
    inr (record { source = source; stands = stands_so written source authors authored; not = not })

-- no file failed where bytes are not the chart
pub quiet : (name bytes : List ℕ) (image : Image) (f : LoadFault) → IsNotChartOf name bytes image f → files_failed f ≡ 0
quiet name bytes image load.Memory not = refl
quiet name bytes image (load.File shown) not = absurd not
quiet name bytes image (load.Image f) not = refl
quiet name bytes image (load.Rule f) not = refl
quiet name bytes image (load.Text f) not = refl
quiet name bytes image (load.Program f) not = refl
quiet name bytes image (load.Source shown) not = refl
