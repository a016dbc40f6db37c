-- Words that one reason wants are wanted by this or another one; what makes a refusal; and what is said beside.
use Rattle.std.proofs.Common.{◌≡◌, ◌≢◌, ℕ, ◌+◌, Bool, true, false, List, [], ◌∷◌, Option, None, codes, refl, sym, subst, arith, inl, inr}
use Rattle.std.specs.Prelude.{◌⊎◌, ◌||◌}
use Rattle.sct_command.specs.declared.fault.Fault.{Fault}
use Rattle.command_files.specs.declared.fault.LoadFault.TheVariants as load
use Rattle.command_files.specs.Files.{Contents}
use Rattle.command_words.specs.Request.{Request}
use Rattle.sct_command.specs.declared.fault.Fault.TheVariants as fault
use Rattle.sct_command.specs.Answer.{CountsFiles, IsRefused, Refuses, SaysBeside, SaysOfRefusal, Seen, TellsBeside, TellsFault}
use Rattle.sct_command.specs.Beside.{GoesOut, IsSaid}
use Rattle.sct_command.specs.Failing.{reads_failed, writes_failed}
use Rattle.sct_command.specs.Writing.{WritesPart}
use Rattle.sct_command.specs.Words.{StandsBehind, TellsLines, fault_line}

-- words that are wanted only where these are stand behind the line where these are wanted
behind_if : (f : Fault) (a b : Bool) (report words : List ℕ) → (a ≡ true → b ≡ true) → StandsBehind f a report words → StandsBehind f b report words
behind_if f a b report words only (inl is) = inl is
behind_if f a b report words only (inr (wanted, are)) = inr (only wanted, are)

is_if : (f : Fault) (a b : Bool) (report text : List ℕ) → (a ≡ true → b ≡ true) → TellsLines f a report text ⊎ (text ≡ fault_line (codes "E52"))
    → TellsLines f b report text ⊎ (text ≡ fault_line (codes "E52"))
is_if f a b report text only (inl lines) =
    inl (record { words = lines.words; behind = behind_if f a b report lines.words only lines.behind; is = lines.is })
is_if f a b report text only (inr memory) = inr memory

pub told_if : (f : Fault) (a b : Bool) (report : List ℕ) (old new : Option (List ℕ)) (failures failures' : ℕ) → (a ≡ true → b ≡ true)
    → TellsFault f a report old new failures failures' → TellsFault f b report old new failures failures'
told_if f a b report old new failures failures' only told =
    record { text = told.text; is = is_if f a b report told.text only told.is; grows = told.grows; whole = told.whole }

more : (a b : Bool) → a ≡ true → (a || b) ≡ true
more true b is = refl
more false b is = (let wrong : false ≡ true = is in absurd cc)

pub told_more : (f : Fault) (a b : Bool) (report : List ℕ) (old new : Option (List ℕ)) (failures failures' : ℕ)
    → TellsFault f a report old new failures failures' → TellsFault f (a || b) report old new failures failures'
told_more f a b report old new failures failures' told = told_if f a (a || b) report old new failures failures' (more a b) told

pub is_refused : (before after : Seen) (request asked : Option Request) (wanted given : Bool) (report : List ℕ) (f : Fault)
    → request ≡ asked → given ≡ wanted
    → Refuses before.files.contents after.files.contents asked before.input.to_come before.output.taken after.output.taken f
    → CountsFiles asked f before.files.failures after.files.failures → after.input.failures ≡ before.input.failures + reads_failed f
    → after.output.failures ≡ before.output.failures + writes_failed f → SaysOfRefusal before.files.contents asked given f report
    → TellsFault f given report before.errors.taken after.errors.taken before.errors.failures after.errors.failures
    → IsRefused before after request wanted
is_refused before after request asked wanted given report f same is why counts read write says tells =
    record {
      fault = f;
      why =
          subst (λ r. Refuses before.files.contents after.files.contents r before.input.to_come before.output.taken after.output.taken f) (sym same)
          why;
      counts = subst (λ r. CountsFiles r f before.files.failures after.files.failures) (sym same) counts;
      read = read;
      write = write;
      report = report;
      reported =
          subst (λ w. SaysOfRefusal before.files.contents request w f report) is
          (subst (λ r. SaysOfRefusal before.files.contents r given f report) (sym same) says);
      tells =
          subst (λ w. TellsFault f w report before.errors.taken after.errors.taken before.errors.failures after.errors.failures) is tells;
    }

none_more : (n m : ℕ) → m ≡ n → m ≡ n + 0
none_more n m same = omega (arith, same)

-- memory was refused for words that ask for nothing
pub memory_refused : (before after : Seen) (request : Option Request) (people other : Bool) → request ≡ None
    → after.files.failures ≡ before.files.failures → after.input.failures ≡ before.input.failures
    → after.output.taken ≡ before.output.taken → after.output.failures ≡ before.output.failures
    → TellsFault (fault.Files load.Memory) people [] before.errors.taken after.errors.taken before.errors.failures after.errors.failures
    → IsRefused before after request (people || other)
memory_refused before after request people other none missed read taken write tells =
    is_refused before after request None (people || other) (people || other) [] (fault.Files load.Memory) none refl taken
    (none_more _ _ missed) (none_more _ _ read) (none_more _ _ write) refl (told_more (fault.Files load.Memory) people other [] _ _ _ _ tells)

-- the help could not be shown
pub help_refused : (before after : Seen) (request : Option Request) (people other : Bool) → request ≡ None
    → after.files.failures ≡ before.files.failures → after.input.failures ≡ before.input.failures
    → WritesPart before.output.taken after.output.taken → after.output.failures ≡ before.output.failures + 1
    → TellsFault fault.Write people [] before.errors.taken after.errors.taken before.errors.failures after.errors.failures
    → IsRefused before after request (people || other)
help_refused before after request people other none missed read part once tells =
    is_refused before after request None (people || other) (people || other) [] fault.Write none refl part
    (none_more _ _ missed) (none_more _ _ read) once refl (told_more fault.Write people other [] _ _ _ _ tells)

-- ---- what is said beside what was done

-- nothing is said where nothing was asked for
pub nothing_beside : (files : Option Contents) (request : Option Request) (warns : Bool) (old new : Option (List ℕ)) (failures failures' : ℕ)
    → request ≡ None → new ≡ old → TellsBeside files request warns old new failures failures'
nothing_beside files request warns old new failures failures' none same =
    record { said = []; is = subst (λ r. SaysBeside files r warns []) (sym none) refl; goes = same }

pub beside : (files : Option Contents) (request asked : Option Request) (warns given : Bool) (said : List ℕ) (old new : Option (List ℕ))
    (failures failures' : ℕ) → request ≡ asked → warns ≡ given → SaysBeside files asked given said → IsSaid said old new failures failures'
    → TellsBeside files request warns old new failures failures'
beside files request asked warns given said old new failures failures' same is says goes =
    record {
      said = said;
      is = subst (λ w. SaysBeside files request w said) (sym is) (subst (λ r. SaysBeside files r given said) (sym same) says);
      goes = goes;
    }

pub said_nothing : (said : List ℕ) (old new : Option (List ℕ)) (failures failures' : ℕ) → said ≡ [] → new ≡ old
    → IsSaid said old new failures failures'
said_nothing [] old new failures failures' none same = same
said_nothing (byte ∷ bytes) old new failures failures' none same = (let is : byte ∷ bytes ≡ [] = none in absurd cc)

pub said_some : (said : List ℕ) (old new : Option (List ℕ)) (failures failures' : ℕ) → said ≢ []
    → GoesOut said old new failures failures' → IsSaid said old new failures failures'
said_some [] old new failures failures' some goes = absurd (some refl)
said_some (byte ∷ bytes) old new failures failures' some goes = goes
