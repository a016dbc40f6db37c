-- What a run leaves, step by step.
use Rattle.std.proofs.Common.{◌≡◌, ℕ, List, Option, Some, None, Result, Ok, Err, OnOk, IfErr, inl, inr}
use Rattle.bytecode.specs.Image.{Image}
use Rattle.command_files.specs.declared.fault.LoadFault.{LoadFault}
use Rattle.command_files.specs.declared.fault.LoadFault.TheVariants as load
use Rattle.command_files.specs.Files.{Contents, HasBytes}
use Rattle.command_files.specs.Images.{FileLacksImage, IsLoaded}
use Rattle.trace_player.specs.Trace.{Good}
use Rattle.ruled_runs.specs.declared.traces.place.RunPlace.{RunPlace}
use Rattle.ruled_runs.specs.declared.traces.rules.Rules.{Rules}
use Rattle.ruled_runs.specs.Trace.{Plays, at_first}
use Rattle.ruled_runs.specs.declared.fault.RuledFault.{RuledFault}
use Rattle.ruled_runs.specs.declared.fault.RuledFault.TheVariants as fault
use Rattle.ruled_runs.specs.Inside.Held.{PlaysAndKeeps, PlaysAndLoses, RefusesKeeping, RefusesPlaying}
use Rattle.ruled_runs.specs.Places.{BeginsAt, BeginsIn, IsKept, IsNotKept, LacksPlaceIn}
use Rattle.ruled_runs.specs.Runs.{LosesPlace, RefusesRun, RunsBy}

-- ---- from a place on

pub not_played : (rules : Rules) (image : Image) (first : RunPlace) (files files' : Option Contents) (save : Option (List ℕ)) (input old new : Option (List ℕ))
    (f : RuledFault) → RefusesPlaying rules image first input old new f → files' ≡ files → RefusesKeeping rules image first files files' save input old new f
not_played rules image first files files' save input old new (fault.Files f) refuses same = absurd refuses
not_played rules image first files files' save input old new (fault.Place shown) refuses same = absurd refuses
not_played rules image first files files' save input old new (fault.Play f cause) refuses same = (refuses, same)

pub not_kept : (rules : Rules) (image : Image) (first last : RunPlace) (files files' : Option Contents) (save : Option (List ℕ))
    (input old new : Option (List ℕ)) (f : LoadFault) → ((out : List (List ℕ)) × Plays rules image first input old new out Good last)
    → IsNotKept save f → files' ≡ files
    → RefusesKeeping rules image first files files' save input old new (fault.Files f)
not_kept rules image first last files files' save input old new f plays lost same =
    (record { out = plays.0; last = last; plays = plays.1; lost = lost }, same)

pub kept : (rules : Rules) (image : Image) (first last : RunPlace) (files files' : Option Contents) (save : Option (List ℕ)) (input old new : Option (List ℕ))
    → ((out : List (List ℕ)) × Plays rules image first input old new out Good last) → IsKept files files' save last
    → PlaysAndKeeps rules image first files files' save input old new
kept rules image first last files files' save input old new plays is = record { out = plays.0; last = last; plays = plays.1; kept = is }

-- ---- by the image in a file

pub no_image : (rules : Rules) (files files' : Option Contents) (name : List ℕ) (from save : Option (List ℕ)) (input old new : Option (List ℕ)) (f : LoadFault)
    → FileLacksImage files name f → files' ≡ files → new ≡ old → RefusesRun rules files files' name from save input old new (fault.Files f)
no_image rules files files' name from save input old new f lacks same kept = inl (inl lacks, same, kept)

pub no_file : (rules : Rules) (files files' : Option Contents) (name from : List ℕ) (save : Option (List ℕ)) (input old new : Option (List ℕ)) (f : LoadFault)
    → FileLacksImage files from f → files' ≡ files → new ≡ old → RefusesRun rules files files' name (Some from) save input old new (fault.Files f)
no_file rules files files' name from save input old new f lacks same kept = inl (inr lacks, same, kept)

pub no_place : (rules : Rules) (image : Image) (files files' : Option Contents) (name from bytes : List ℕ) (save : Option (List ℕ))
    (input old new : Option (List ℕ)) (f : RuledFault) → IsLoaded files name image → HasBytes files from bytes → LacksPlaceIn bytes image.program from f
    → files' ≡ files → new ≡ old → RefusesRun rules files files' name (Some from) save input old new f
no_place rules image files files' name from bytes save input old new (fault.Files load.Memory) loaded held lacks same kept = inl (inl tt, same, kept)
no_place rules image files files' name from bytes save input old new (fault.Files (load.Image f)) loaded held lacks same kept = absurd lacks
no_place rules image files files' name from bytes save input old new (fault.Files (load.Rule f)) loaded held lacks same kept = absurd lacks
no_place rules image files files' name from bytes save input old new (fault.Files (load.Text f)) loaded held lacks same kept = absurd lacks
no_place rules image files files' name from bytes save input old new (fault.Files (load.Program f)) loaded held lacks same kept = absurd lacks
no_place rules image files files' name from bytes save input old new (fault.Files (load.File shown)) loaded held lacks same kept = absurd lacks
no_place rules image files files' name from bytes save input old new (fault.Files (load.Source shown)) loaded held lacks same kept = absurd lacks
no_place rules image files files' name from bytes save input old new (fault.Place shown) loaded held lacks same kept =
    (record { image = image; loaded = loaded; none = (record { bytes = bytes; held = held; none = lacks.0 }, lacks.1) }, same, kept)
no_place rules image files files' name from bytes save input old new (fault.Play f cause) loaded held lacks same kept = absurd lacks

runs : (rules : Rules) (image : Image) (first : RunPlace) (files files' : Option Contents) (name : List ℕ) (from save : Option (List ℕ))
    (input old new : Option (List ℕ)) → IsLoaded files name image → BeginsAt files image.program from first
    → PlaysAndKeeps rules image first files files' save input old new → RunsBy rules files files' name from save input old new
runs rules image first files files' name from save input old new loaded begins is =
    record {
      image = image;
      loaded = loaded;
      first = first;
      begins = begins;
      out = is.out;
      last = is.last;
      plays = is.plays;
      kept = is.kept;
    }

loses : (rules : Rules) (image : Image) (first : RunPlace) (files : Option Contents) (name : List ℕ) (from save : Option (List ℕ))
    (input old new : Option (List ℕ)) (f : LoadFault) → IsLoaded files name image → BeginsAt files image.program from first
    → PlaysAndLoses rules image first save input old new f → LosesPlace rules files name from save input old new f
loses rules image first files name from save input old new f loaded begins is =
    record {
      image = image;
      loaded = loaded;
      first = first;
      begins = begins;
      out = is.out;
      last = is.last;
      plays = is.plays;
      lost = is.lost;
    }

refuses : (rules : Rules) (image : Image) (first : RunPlace) (files files' : Option Contents) (name : List ℕ) (from save : Option (List ℕ))
    (input old new : Option (List ℕ)) (f : RuledFault) → IsLoaded files name image → BeginsAt files image.program from first
    → RefusesKeeping rules image first files files' save input old new f → RefusesRun rules files files' name from save input old new f
refuses rules image first files files' name from save input old new (fault.Play f cause) loaded begins is =
    (record { image = image; loaded = loaded; first = first; begins = begins; leaves = is.0.0; met = is.0.1 }, is.1)
refuses rules image first files files' name from save input old new (fault.Place shown) loaded begins is = absurd is
refuses rules image first files files' name from save input old new (fault.Files f) loaded begins is =
    inr (loses rules image first files name from save input old new f loaded begins is.0, is.1)

ran : {T : Type 0} (r : Result T RuledFault) (rules : Rules) (image : Image) (first : RunPlace) (files files' : Option Contents) (name : List ℕ)
    (from save : Option (List ℕ)) (input old new : Option (List ℕ)) → IsLoaded files name image → BeginsAt files image.program from first
    → OnOk r (PlaysAndKeeps rules image first files files' save input old new) → OnOk r (RunsBy rules files files' name from save input old new)
ran (Ok done) rules image first files files' name from save input old new loaded begins is =
    runs rules image first files files' name from save input old new loaded begins is
ran (Err f) rules image first files files' name from save input old new loaded begins is = tt

refused : {T : Type 0} (r : Result T RuledFault) (rules : Rules) (image : Image) (first : RunPlace) (files files' : Option Contents) (name : List ℕ)
    (from save : Option (List ℕ)) (input old new : Option (List ℕ)) → IsLoaded files name image → BeginsAt files image.program from first
    → IfErr r (RefusesKeeping rules image first files files' save input old new) → IfErr r (RefusesRun rules files files' name from save input old new)
refused (Ok done) rules image first files files' name from save input old new loaded begins is = tt
refused (Err f) rules image first files files' name from save input old new loaded begins is =
    refuses rules image first files files' name from save input old new f loaded begins is

-- from before the first tick on

pub first_ran : {T : Type 0} (r : Result T RuledFault) (rules : Rules) (image : Image) (first : RunPlace) (files files' : Option Contents) (name : List ℕ)
    (save : Option (List ℕ)) (input old new : Option (List ℕ)) → IsLoaded files name image → first ≡ at_first image.program
    → OnOk r (PlaysAndKeeps rules image first files files' save input old new) → OnOk r (RunsBy rules files files' name None save input old new)
first_ran r rules image first files files' name save input old new loaded begins is =
    ran r rules image first files files' name None save input old new loaded begins is

pub first_refused : {T : Type 0} (r : Result T RuledFault) (rules : Rules) (image : Image) (first : RunPlace) (files files' : Option Contents) (name : List ℕ)
    (save : Option (List ℕ)) (input old new : Option (List ℕ)) → IsLoaded files name image → first ≡ at_first image.program
    → IfErr r (RefusesKeeping rules image first files files' save input old new) → IfErr r (RefusesRun rules files files' name None save input old new)
first_refused r rules image first files files' name save input old new loaded begins is =
    refused r rules image first files files' name None save input old new loaded begins is

-- from the place in a file on

pub next_ran : {T : Type 0} (r : Result T RuledFault) (rules : Rules) (image : Image) (first : RunPlace) (files files' : Option Contents)
    (name from bytes : List ℕ) (save : Option (List ℕ)) (input old new : Option (List ℕ)) → IsLoaded files name image
    → HasBytes files from bytes → BeginsIn bytes first
    → OnOk r (PlaysAndKeeps rules image first files files' save input old new) → OnOk r (RunsBy rules files files' name (Some from) save input old new)
next_ran r rules image first files files' name from bytes save input old new loaded held begins is =
    ran r rules image first files files' name (Some from) save input old new loaded (record { bytes = bytes; held = held; begins = begins }) is

pub next_refused : {T : Type 0} (r : Result T RuledFault) (rules : Rules) (image : Image) (first : RunPlace) (files files' : Option Contents)
    (name from bytes : List ℕ) (save : Option (List ℕ)) (input old new : Option (List ℕ)) → IsLoaded files name image → HasBytes files from bytes
    → BeginsIn bytes first → IfErr r (RefusesKeeping rules image first files files' save input old new)
    → IfErr r (RefusesRun rules files files' name (Some from) save input old new)
next_refused r rules image first files files' name from bytes save input old new loaded held begins is =
    refused r rules image first files files' name (Some from) save input old new loaded (record { bytes = bytes; held = held; begins = begins }) is
