-- What a run under rules leaves, in the words of the program.
use Rattle.std.proofs.Common.{◌≡◌, ◌≢◌, ◌⊎◌, ℕ, ◌+◌, List, Option, Some, None, Result, Ok, Err, OnOk, IfErr, true, inl, inr, refl}
use Rattle.command_files.specs.Files.{Contents}
use Rattle.command_words.specs.Said.{Rules as Asked}
use Rattle.ruled_runs.specs.declared.fault.RuledFault.{RuledFault}
use Rattle.ruled_runs.specs.declared.fault.RuledFault.TheVariants as run
use Rattle.ruled_runs.specs.Failing as run_failing
use Rattle.std.specs.Option.{is_some}
use Rattle.ruled_runs.specs.Places.{IsKept}
use Rattle.ruled_runs.specs.Runs.{RefusesRun, RunsBy}
use Rattle.trace_player.specs.declared.player.PlayFault.TheVariants as play_fault
use Rattle.sct_command.specs.Failing.{files_failed, reads_failed, writes_failed}
use Rattle.sct_command.specs.Running.{RefusesUnder, fault_of_run, line_rules}

pub refused : (files files' : Option Contents) (name : List ℕ) (rules : Asked) (input old new : Option (List ℕ)) (f : RuledFault)
    → RefusesRun (line_rules rules) files files' name rules.from rules.save input old new f
    → RefusesUnder files files' name rules input old new (fault_of_run f)
refused files files' name rules input old new (run.Files f) is = is
refused files files' name rules input old new (run.Place shown) is = is
refused files files' name rules input old new (run.Play f cause) is = is

-- streams and files failed as often
pub reads : (f : RuledFault) → reads_failed (fault_of_run f) ≡ run_failing.reads_failed f
reads (run.Files f) = refl
reads (run.Place shown) = refl
reads (run.Play play_fault.Read cause) = refl
reads (run.Play play_fault.Write cause) = refl
reads (run.Play play_fault.Memory cause) = refl
reads (run.Play (play_fault.Input line) cause) = refl
reads (run.Play (play_fault.NotJson line) cause) = refl

pub writes : (f : RuledFault) → writes_failed (fault_of_run f) ≡ run_failing.writes_failed f
writes (run.Files f) = refl
writes (run.Place shown) = refl
writes (run.Play play_fault.Read cause) = refl
writes (run.Play play_fault.Write cause) = refl
writes (run.Play play_fault.Memory cause) = refl
writes (run.Play (play_fault.Input line) cause) = refl
writes (run.Play (play_fault.NotJson line) cause) = refl

pub missed : (f : RuledFault) → files_failed (fault_of_run f) ≡ run_failing.files_failed f
missed (run.Files f) = refl
missed (run.Place shown) = refl
missed (run.Play f cause) = refl

-- where no place is kept, no file changed
pub unchanged : {T : Type 0} (r : Result T RuledFault) (files files' : Option Contents) (name : List ℕ) (rules : Asked) (input old new : Option (List ℕ))
    → OnOk r (RunsBy (line_rules rules) files files' name rules.from rules.save input old new)
    → IfErr r (RefusesRun (line_rules rules) files files' name rules.from rules.save input old new) → is_some rules.save ≢ true → files' ≡ files
unchanged (Ok done) files files' name rules input old new runs refuses none = kept_by rules.save runs.kept none
  where
    kept_by : (save : Option (List ℕ)) → IsKept files files' save runs.last → is_some save ≢ true → files' ≡ files
    kept_by None kept none = kept
    kept_by (Some other) kept none = absurd (none refl)
unchanged (Err (run.Play f cause)) files files' name rules input old new runs refuses none = refuses.1
unchanged (Err (run.Place shown)) files files' name rules input old new runs refuses none = refuses.1
unchanged (Err (run.Files f)) files files' name rules input old new runs (inl refuses) none = refuses.1
unchanged (Err (run.Files f)) files files' name rules input old new runs (inr refuses) none = refuses.1
