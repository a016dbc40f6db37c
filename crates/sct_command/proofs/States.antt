-- What a run with states leaves of an image and its chart.
use Rattle.std.proofs.Common.{◌≡◌, ℕ, List, Option, Result, Ok, Err, IfErr, OnOk}
use Rattle.bytecode.specs.Image.{Image}
use Rattle.command_files.specs.Files.{Contents}
use Rattle.image_charts.specs.Charts.{NamedStates, state_words}
use Rattle.image_charts.specs.Files.{HasStates}
use Rattle.trace_player.specs.Trace.{Good}
use Rattle.state_traces.specs.Trace.{Plays}
use Rattle.sct_command.specs.declared.fault.Fault.{Fault}
use Rattle.sct_command.specs.declared.fault.Fault.TheVariants as fault
use Rattle.sct_command.specs.TellingStates.{PlaysStates, RefusesStates, RefusesWords}

-- ---- what the player leaves

plays : (files : Option Contents) (name chart : List ℕ) (image : Image) (states : NamedStates) (input old new : Option (List ℕ))
    → HasStates files name chart image states → ((out : List (List ℕ)) × Plays (state_words states) image input old new out Good)
    → PlaysStates files name chart input old new
plays files name chart image states input old new there (out, is) =
    record { image = image; states = states; has = there; out = out; plays = is }

stops : (files : Option Contents) (name chart : List ℕ) (image : Image) (states : NamedStates) (input old new : Option (List ℕ)) (f : Fault)
    → HasStates files name chart image states → RefusesWords (state_words states) image input old new f
    → RefusesStates files name chart input old new f
stops files name chart image states input old new (fault.Play f cause) there (leaves, met) =
    record { image = image; states = states; has = there; leaves = leaves; met = met }
stops files name chart image states input old new (fault.Files f) there refuses = absurd refuses
stops files name chart image states input old new fault.Write there refuses = absurd refuses
stops files name chart image states input old new fault.Tests there refuses = absurd refuses
stops files name chart image states input old new (fault.Place shown) there refuses = absurd refuses

pub played : {T : Type 0} (r : Result T Fault) (files : Option Contents) (name chart : List ℕ) (image : Image) (states : NamedStates)
    (input old new : Option (List ℕ)) → HasStates files name chart image states
    → OnOk r ((out : List (List ℕ)) × Plays (state_words states) image input old new out Good) → OnOk r (PlaysStates files name chart input old new)
played (Ok done) files name chart image states input old new there is = plays files name chart image states input old new there is
played (Err f) files name chart image states input old new there is = tt

pub stopped : {T : Type 0} (r : Result T Fault) (files : Option Contents) (name chart : List ℕ) (image : Image) (states : NamedStates)
    (input old new : Option (List ℕ)) → HasStates files name chart image states
    → IfErr r (RefusesWords (state_words states) image input old new) → IfErr r (RefusesStates files name chart input old new)
stopped (Ok done) files name chart image states input old new there is = tt
stopped (Err f) files name chart image states input old new there is = stops files name chart image states input old new f there is
