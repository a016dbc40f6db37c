-- From what is told of tests to what is left of them.
use Rattle.std.proofs.Common.{◌≡◌, ◌≢◌, ℕ, Bool, List, Option, subst}
use Rattle.std.specs.Io.KnownBytes.{Appends}
use Rattle.command_files.specs.Files.{Contents}
use Rattle.controller_tests.specs.Run.{TriesTests}
use Rattle.sc_values.specs.Streams.{GrowsInto}
use Rattle.sct_command.specs.Testing.{TestsFail, TestsPass, TestsTold}

pub all_passed : (writes : Bool) (files new : Option Contents) (words : List (List ℕ)) (failing : ℕ) (text bytes : List ℕ) (taken taken' : Option (List ℕ))
    → TriesTests writes files new words failing text → failing ≡ 0 → bytes ≡ text → Appends taken taken' bytes
    → TestsPass writes files new words taken taken'
all_passed writes files new words failing text bytes taken taken' tries none same written =
    record {
      text = text;
      tries = subst (λ n. TriesTests writes files new words n text) none tries;
      written = subst (Appends taken taken') same written;
    }

pub some_failed : (writes : Bool) (files new : Option Contents) (words : List (List ℕ)) (failing : ℕ) (text bytes : List ℕ) (taken taken' : Option (List ℕ))
    → TriesTests writes files new words failing text → failing ≢ 0 → bytes ≡ text → Appends taken taken' bytes
    → TestsFail writes files new words taken taken'
some_failed writes files new words failing text bytes taken taken' tries some same written =
    record { failing = failing; some = some; text = text; tries = tries; written = subst (Appends taken taken') same written }

pub told_in_part : (writes : Bool) (files new : Option Contents) (words : List (List ℕ)) (failing : ℕ) (text bytes : List ℕ) (taken taken' : Option (List ℕ))
    → TriesTests writes files new words failing text → bytes ≡ text → GrowsInto taken taken' bytes
    → TestsTold writes files new words taken taken'
told_in_part writes files new words failing text bytes taken taken' tries same grows =
    record { failing = failing; text = text; tries = tries; in_part = subst (GrowsInto taken taken') same grows }
