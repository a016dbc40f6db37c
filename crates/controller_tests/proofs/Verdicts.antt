-- From what was found in files to what a test comes to.
use Rattle.std.proofs.Common.{◌≡◌, ◌≢◌, ℕ, Bool, true, Option, List, [], ◌++◌, codes, refl, sym, subst, inl, inr}
use Rattle.bytecode.specs.Image.{Image}
use Rattle.command_files.specs.declared.fault.LoadFault.{LoadFault}
use Rattle.command_files.specs.FaultText.{fault_text, shown_name}
use Rattle.command_files.specs.Files.{Contents, HasBytes, IsFree, IsTaken, Stores}
use Rattle.command_files.specs.Images.{FileLacksImage}
use Rattle.command_files.specs.Standing.{FileLacksSource}
use Rattle.command_files.specs.Storing.{IsNotStored}
use Rattle.controller_tests.specs.Inside.Judging.{Judges, JudgesOther, StopsSo}
use Rattle.controller_tests.specs.Inside.Saying.{SaysDifference}
use Rattle.controller_tests.specs.States.{IsReal, TellsActive, TellsThem}
use Rattle.controller_tests.specs.Verdict.{ComesTo, Failed, FailsTest, HasTicks, LacksTicks, Passed, Verdict, Written, ticks_name, trace_name}
use Rattle.controller_tests.proofs.Tested as tested
use Rattle.controller_tests.specs.declared.difference.Difference.{Difference}
use Rattle.controller_tests.specs.Outcome.{LacksTrace, MakesTrace, Misses, Stops}
use Rattle.controller_tests.specs.Replay.{LacksTick, TellsStates}
use Rattle.image_charts.proofs.TextImages.{no_compiled_in}
use Rattle.image_charts.specs.Charts.{NamedStates}
use Rattle.image_charts.specs.Written.{HasNoChart, IsNoTextBeside, IsTextBeside, MakesImage, MakesNoImage}
use Rattle.node_states.specs.Active.{active_states}
use Rattle.trace_player.specs.declared.player.PlayFault.{PlayFault}
use Rattle.trace_player.specs.declared.player.PlayFault.TheVariants as play_fault
use Rattle.trace_player.specs.FaultText.{play_fault_text}
use Rattle.trace_player.specs.Trace.{Good}

-- ---- why there are no ticks

pub no_source : (files : Option Contents) (name : List ℕ) (f : LoadFault) → FileLacksSource files name f → LacksTicks files name f
no_source files name f none = inl (inl none)

pub no_image : (files : Option Contents) (name bytes seen : List ℕ) (f : LoadFault) → HasBytes files name bytes → seen ≡ bytes
    → MakesNoImage seen f → LacksTicks files name f
no_image files name bytes seen f held same none = inl (no_compiled_in files name bytes seen f held same none)

pub no_ticks : (files : Option Contents) (name : List ℕ) (f : LoadFault) → FileLacksImage files (ticks_name name) f → LacksTicks files name f
no_ticks files name f none = inr none

-- ---- there are ticks

pub has_ticks : (files middle : Option Contents) (name bytes seen : List ℕ) (image : Image) (ticks : List ℕ) → HasBytes files name bytes
    → seen ≡ bytes → MakesImage seen image → middle ≡ files → HasBytes middle (ticks_name name) ticks → HasTicks files name bytes image ticks
has_ticks files middle name bytes seen image ticks held same makes stay there = record {
  held = held;
  makes = subst (λ b. MakesImage b image) same makes;
  ticks_held = subst (λ m. HasBytes m (ticks_name name) ticks) stay there;
}

-- ---- the states that are active

pub tells_them : (s : NamedStates) (image : Image) (ticks said : List ℕ) (line : ℕ)
    → TellsStates image s.paths (λ c. active_states s.compiled.nodes s.compiled.states c) ticks line said → TellsThem s image ticks line said
tells_them s image ticks said line tells = inl tells

pub tells_none : (s : NamedStates) (image : Image) (ticks said : List ℕ) (line : ℕ) → said ≡ [] → LacksTick image ticks line
    → TellsThem s image ticks line said
tells_none s image ticks said line none lacks = inr (none, lacks)

pub tells_chart : (s : NamedStates) (name bytes : List ℕ) (image : Image) (ticks said : List ℕ) (line : ℕ) → IsTextBeside bytes image s
    → TellsThem s image ticks line said → TellsActive name bytes image ticks line said
tells_chart s name bytes image ticks said line is tells = inl (record { states = s; is = is; tells = tells })

pub no_chart : (name bytes : List ℕ) (image : Image) (ticks said : List ℕ) (line : ℕ) → said ≡ [] → HasNoChart bytes
    → TellsActive name bytes image ticks line said
no_chart name bytes image ticks said line none is = inr (none, inl is)

pub no_states : (name bytes : List ℕ) (image : Image) (ticks said : List ℕ) (line : ℕ) (f : LoadFault) → said ≡ [] → ¬ HasNoChart bytes
    → IsNoTextBeside name bytes image f → IsReal f → TellsActive name bytes image ticks line said
no_states name bytes image ticks said line f none chart is real = inr (none, inr (record { chart = chart; fault = f; none = is; real = real }))

-- ---- what a comparison comes to

pub judged_other : (name bytes : List ℕ) (image : Image) (ticks wanted said : List ℕ) (d : Difference) → Misses image ticks wanted d
    → SaysDifference name bytes image ticks d said → Judges name bytes image ticks wanted (Failed said)
judged_other name bytes image ticks wanted said d misses says = inl (record { difference = d; misses = misses; says = says })

pub judged_stopped : (name bytes : List ℕ) (image : Image) (ticks wanted said : List ℕ) (f : PlayFault) → Stops image ticks f
    → said ≡ shown_name (ticks_name name) ++ (codes ": " ++ (play_fault_text f ++ codes "\n")) → Judges name bytes image ticks wanted (Failed said)
judged_stopped name bytes image ticks wanted said f stops is = inr (record { fault = f; stops = stops; is = is })

-- a line of the ticks ends the trace
stopped_test : (writes : Bool) (files : Option Contents) (name bytes : List ℕ) (image : Image) (ticks said : List ℕ) → HasTicks files name bytes image ticks
    → StopsSo name image ticks said → FailsTest writes files name said
stopped_test writes files name bytes image ticks said has s =
    inr (inl (record { bytes = bytes; image = image; ticks = ticks; has = has; fault = s.fault; stops = s.stops; is = s.is }))

missed_test : (writes : Bool) (files : Option Contents) (name bytes : List ℕ) (image : Image) (ticks wanted said : List ℕ)
    → HasTicks files name bytes image ticks → HasBytes files (trace_name name) wanted → JudgesOther name bytes image ticks wanted said
    → FailsTest writes files name said
missed_test writes files name bytes image ticks wanted said has held j =
    inl (record {
      bytes = bytes;
      image = image;
      ticks = ticks;
      has = has;
      wanted = wanted;
      wanted_held = held;
      difference = j.difference;
      misses = j.misses;
      told = j.says.told;
      tells = j.says.tells;
      active = j.says.active;
      states = j.says.states;
      is = j.says.is;
    })

comes_to : (writes : Bool) (files : Option Contents) (name bytes : List ℕ) (image : Image) (ticks wanted : List ℕ) (v : Verdict)
    → HasTicks files name bytes image ticks → HasBytes files (trace_name name) wanted → Judges name bytes image ticks wanted v
    → ComesTo writes files files name v
comes_to writes files name bytes image ticks wanted Passed has held passes =
    (record { bytes = bytes; image = image; ticks = ticks; has = has; wanted = wanted; wanted_held = held; passes = passes }, refl)
comes_to writes files name bytes image ticks wanted Written has held none = absurd none
comes_to writes files name bytes image ticks wanted (Failed said) has held (inl other) =
    (missed_test writes files name bytes image ticks wanted said has held other, refl)
comes_to writes files name bytes image ticks wanted (Failed said) has held (inr stops) =
    (stopped_test writes files name bytes image ticks said has stops, refl)

pub judged : (writes : Bool) (files new : Option Contents) (name place bytes : List ℕ) (image : Image) (ticks wanted : List ℕ) (v : Verdict)
    → place ≡ trace_name name → new ≡ files → HasTicks files name bytes image ticks → HasBytes files place wanted
    → Judges name bytes image ticks wanted v → ComesTo writes files new name v
judged writes files new name place bytes image ticks wanted v named same has held judges =
    subst (λ f. ComesTo writes files f name v) (sym same)
    (comes_to writes files name bytes image ticks wanted v has (subst (λ n. HasBytes files n wanted) named held) judges)

-- the same, of bytes that are seen again
pub judged_again : (writes : Bool) (files new : Option Contents) (name place bytes : List ℕ) (image : Image) (ticks wanted seen : List ℕ) (v : Verdict)
    → place ≡ trace_name name → new ≡ files → HasTicks files name bytes image ticks → HasBytes files place wanted → seen ≡ wanted
    → Judges name bytes image ticks seen v → ComesTo writes files new name v
judged_again writes files new name place bytes image ticks wanted seen v named same has held again judges =
    judged writes files new name place bytes image ticks wanted v named same has held (subst (λ w. Judges name bytes image ticks w v) again judges)

pub unread : (writes : Bool) (files new : Option Contents) (name place said : List ℕ) (f : LoadFault) → place ≡ trace_name name → new ≡ files
    → (writes ≡ true → IsTaken files (trace_name name)) → FileLacksImage files place f
    → said ≡ shown_name name ++ (codes ": " ++ (fault_text f ++ codes "\n")) → IsReal f → ComesTo writes files new name (Failed said)
unread writes files new name place said f named same taken lacks is real =
    (inr (inr (record { fault = f; lacks = inr (inl (subst (λ n. FileLacksImage files n f) named lacks, taken)); real = real; is = is })), same)

-- ---- what writing comes to

pub stopped_so : (name : List ℕ) (image : Image) (ticks said : List ℕ) (f : PlayFault) → LacksTrace image ticks f → f ≢ play_fault.Memory
    → said ≡ shown_name (ticks_name name) ++ (codes ": " ++ (play_fault_text f ++ codes "\n")) → StopsSo name image ticks said
stopped_so name image ticks said f lacks refused is = record { fault = f; stops = tested.at_line image ticks f lacks refused; is = is }

pub written : (files new : Option Contents) (name place bytes : List ℕ) (image : Image) (ticks trace : List ℕ) → place ≡ trace_name name
    → HasTicks files name bytes image ticks → IsFree files (trace_name name) → MakesTrace image ticks trace Good → Stores files new place trace
    → ComesTo true files new name Written
written files new name place bytes image ticks trace named has free made stored = (
  record {
    bytes = bytes;
    image = image;
    ticks = ticks;
    has = has;
    missing = free;
    trace = trace;
    made = made;
    stored = subst (λ n. Stores files new n trace) named stored;
  },
  refl,
)

pub stopped : (files new : Option Contents) (name bytes : List ℕ) (image : Image) (ticks said : List ℕ) → HasTicks files name bytes image ticks
    → StopsSo name image ticks said → new ≡ files → ComesTo true files new name (Failed said)
stopped files new name bytes image ticks said has stops same = (stopped_test true files name bytes image ticks said has stops, same)

pub not_stored : (files new : Option Contents) (name place said : List ℕ) (f : LoadFault) → place ≡ trace_name name → IsFree files (trace_name name)
    → IsNotStored place f → said ≡ shown_name name ++ (codes ": " ++ (fault_text f ++ codes "\n")) → IsReal f → new ≡ files
    → ComesTo true files new name (Failed said)
not_stored files new name place said f named free lacks is real same = (
  inr (inr (record {
    fault = f;
    lacks = inr (inr (subst (λ n. IsNotStored n f) named lacks, free, refl));
    real = real;
    is = is;
  })),
  same,
)

-- ---- where traces are wanted to be written

pub where_wanted : (writes : Bool) (files new : Option Contents) (name : List ℕ) (v : Verdict) → writes ≡ true → ComesTo true files new name v
    → ComesTo writes files new name v
where_wanted writes files new name v wanted comes = subst (λ b. ComesTo b files new name v) (sym wanted) comes

-- ---- there is no test

pub no_test : (writes : Bool) (files new : Option Contents) (name said : List ℕ) (f : LoadFault) → LacksTicks files name f
    → said ≡ shown_name name ++ (codes ": " ++ (fault_text f ++ codes "\n")) → IsReal f → new ≡ files → ComesTo writes files new name (Failed said)
no_test writes files new name said f lacks is real same = (inr (inr (record { fault = f; lacks = inl lacks; real = real; is = is })), same)
