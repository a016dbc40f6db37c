-- Whatever the order of events, a tick keeps what it holds, its image and its start.
use Rattle.std.proofs.Common.{◌≡◌, ℕ, ◌≤◌, inl, inr, List, [], ◌∷◌, length, map, refl, sym, ap, subst, ◌∙◌, arith}
use Rattle.std.specs.Prelude.{IsSome}
use Rattle.sc_values.specs.Runs.{IsAdmissible, IsOver}
use Rattle.sc_graph.specs.declared.control.Control.{Control}
use Rattle.sc_graph.specs.Control.{status_of, IsEnabled}
use Rattle.sc_graph.specs.Machine.{machine}
use Rattle.sc_graph.specs.Steps.{step}
use Rattle.sc_graph.specs.Tick.{Inputs, AreAccepted, Rests, start}
use Rattle.sc_graph.specs.Valid.{IsValid}
use Rattle.sc_graph.specs.Priority.{Leads, PriorityRun}
use Rattle.bytecode.specs.Image.{Image}
use Rattle.tick_core.specs.declared.state.Turn.{Turn}
use Rattle.tick_core.specs.declared.state.Turn.TheVariants as turn
use Rattle.tick_core.specs.Claims.{Claim, Done, present_operands}
use Rattle.tick_core.specs.Stepping.{code_at}
use Rattle.tick_core.specs.State.{InTick, Holds, IsFresh, threads_of}
use Rattle.tick_core.specs.Turns.{Answers, GivesClaim, Commits, GivesBack}
use Rattle.tick_core.specs.Whole.{WholeTick}
use Rattle.tick_core.specs.Events.{Event, Asks, Brings, Returns, Happens, Happen, begun, Replays, EveryOrderReplays}
use Rattle.tick_core.specs.Events.{Played, Plays, PlayAll, AreWhole, AllTicksEndAlike}
use Rattle.tick_core.proofs.StateKept.{holds_begun, kept_claimed, kept_closed, kept_advanced, enabled_defined, Finished, finished, SoFar, shown}

-- what no event changes
record Keeps (s s' : InTick) : Type 0 where
  holds : Holds s'
  image_is : s'.image ≡ s.image
  begun_is : s'.begun ≡ s.begun

unchanged : (s s' : InTick) → Holds s → s' ≡ s → Keeps s s'
unchanged s s' h same = record { holds = subst Holds (sym same) h; image_is = ap (λ x. x.image) same; begun_is = ap (λ x. x.begun) same }

claimed : (s s' : InTick) (worker : ℕ) (a : Claim) → Holds s → worker ≤ 8 → GivesClaim s s' worker a → Keeps s s'
claimed s s' worker a h small gives =
    record {
      holds = subst Holds (sym gives.after) (kept_claimed s h a.thread a fresh);
      image_is = ap (λ x. x.image) gives.after;
      begun_is = ap (λ x. x.begun) gives.after;
    }
  where
    fresh : IsFresh s.image.program s.image.tables s.present (length s.history) a.thread a
    fresh = record {
      thread = refl;
      worker = omega (arith, small, gives.by);
      leads = gives.leads;
      node = gives.node;
      code = gives.code;
      checked = gives.checked;
      operands = gives.operands;
      before = omega (arith, gives.commits);
    }

answered : (s s' : InTick) (worker : ℕ) → Holds s → worker ≤ 8 → (answer : Turn) → Answers s s' worker answer → Keeps s s'
answered s s' worker h small turn.Over answers = unchanged s s' h answers.1
answered s s' worker h small turn.NoneNow answers = unchanged s s' h answers.1
answered s s' worker h small (turn.Claim a) answers = claimed s s' worker a h small answers

committed : (s s' : InTick) (d : Done) (at : ℕ) → Holds s → Commits s s' d at → Keeps s s'
committed s s' d at h commits =
    record {
      holds = kept_advanced s h s' d.claim.thread d.claim.worker (h.fresh d.claim.thread d.claim commits.was_open).leads commits.advances;
      image_is = commits.advances.image_is;
      begun_is = commits.advances.begun_is;
    }

given_back : (s s' : InTick) (a : Claim) → Holds s → GivesBack s s' a → Keeps s s'
given_back s s' a h gives =
    record {
      holds = subst Holds (sym gives.after) (kept_closed s h a.thread);
      image_is = ap (λ x. x.image) gives.after;
      begun_is = ap (λ x. x.begun) gives.after;
    }

keeps : (e : Event) (s s' : InTick) → Holds s → Happens e s s' → Keeps s s'
keeps (Asks worker) s s' h happens = answered s s' worker h happens.0 happens.1.0 happens.1.1
keeps (Brings d) s s' h (inl commits) = committed s s' d commits.0 h commits.1
keeps (Brings d) s s' h (inr refused) = unchanged s s' h refused.same
keeps (Returns a) s s' h (inl gives) = given_back s s' a h gives
keeps (Returns a) s s' h (inr refused) = unchanged s s' h refused.same

all_keep : (events : List Event) (s s' : InTick) → Holds s → Happen events s s' → Keeps s s'
all_keep [] s s' h happen = unchanged s s' h happen
all_keep (e ∷ events) s s' h happen =
    let first = keeps e s happen.0 h happen.1 in
    let others = all_keep events happen.0 s' first.holds happen.2 in
    record { holds = others.holds; image_is = others.image_is ∙ first.image_is; begun_is = others.begun_is ∙ first.begun_is }

replays : (image : Image) (c : Control) (s : InTick) → Holds s → s.image ≡ image → s.begun ≡ c → Replays image c s
replays image c s h image_is begun_is =
    record {
      run = subst (λ b. PriorityRun image.program image.tables (threads_of s.history) b s.present) begun_is
          (subst (λ i. PriorityRun i.program i.tables (threads_of s.history) s.begun s.present) image_is h.run);
      admissible = subst (λ b. IsAdmissible (machine image.program) (threads_of s.history) b) begun_is
          (subst (λ i. IsAdmissible (machine i.program) (threads_of s.history) s.begun) image_is so_far.admissible);
      within = subst (λ i. length s.history ≤ i.tables.budget) image_is so_far.within;
      defined = subst (λ i. (t : ℕ) → IsEnabled i.program s.present t → IsSome (step i.program t s.present)) image_is (enabled_defined s h);
      leads = λ t a is. subst (λ i. Leads i.program i.tables s.present t) image_is (h.fresh t a is).leads;
      operands = λ t a is. subst (λ i. a.operands ≡ present_operands s.present.variables (code_at i.program (status_of s.present t))) image_is
          (h.fresh t a is).operands;
    }
  where
    so_far : SoFar s s.history
    so_far = shown s s s.history refl h refl

-- what every state of a tick begun so keeps
all_kept : (image : Image) (c : Control) (inputs : Inputs) → IsValid image.program image.tables → Rests image.program c → AreAccepted image.program inputs →
    (events : List Event) (s : InTick) → Happen events (begun image inputs c) s → Keeps (begun image inputs c) s
all_kept image c inputs valid rests accepted events s happen =
    let h = holds_begun image c inputs (begun image inputs c) valid rests
    (record { accepted = accepted; image_is = refl; begun_is = refl; present_is = refl; no_step = refl; claims_are = refl }) in
    all_keep events (begun image inputs c) s h happen

pub every_order_replays : EveryOrderReplays
every_order_replays image c inputs valid rests accepted events s happen =
    let all = all_kept image c inputs valid rests accepted events s happen in
    replays image (start image.program inputs c) s all.holds all.image_is all.begun_is

-- a tick that was played is whole, and rests
pub record IsWhole (image : Image) (b : Control) (played : Played) : Type 0 where
  tick : WholeTick image b (threads_of played.history) played.end
  rests : Rests image.program played.end

whole_at : (image : Image) (b : Control) (s : InTick) → Holds s → s.image ≡ image → s.begun ≡ b → IsOver (machine image.program) s.present →
    IsWhole image b (record { history = s.history; end = s.present })
whole_at image b s h image_is begun_is over =
    record {
      tick = subst (λ x. WholeTick image x (threads_of s.history) s.present) begun_is
          (subst (λ i. WholeTick i s.begun (threads_of s.history) s.present) image_is ended.tick);
      rests = subst (λ i. Rests i.program s.present) image_is ended.rests;
    }
  where
    over_there : IsOver (machine s.image.program) s.present
    over_there = subst (λ i. IsOver (machine i.program) s.present) (sym image_is) over

    ended : Finished s s.present s.history
    ended = finished s s s.present s.history refl h over_there refl refl

whole : (image : Image) (c : Control) (inputs : Inputs) (played : Played) → IsValid image.program image.tables → Rests image.program c →
    Plays image inputs c played → IsWhole image (start image.program inputs c) played
whole image c inputs played valid rests plays =
    let all = all_kept image c inputs valid rests plays.accepted plays.events plays.last plays.happen in
    subst (IsWhole image (start image.program inputs c)) (sym plays.is)
    (whole_at image (start image.program inputs c) plays.last all.holds all.image_is all.begun_is plays.over)

-- two plays of one tick end alike
one_end : (image : Image) (b : Control) (played other : Played) → IsWhole image b played → IsWhole image b other → other.end ≡ played.end
one_end image b played other w v =
    w.tick.one_end other.end (record { run = threads_of other.history; complete = v.tick.complete; admissible = v.tick.admissible })

all_whole : (image : Image) → IsValid image.program image.tables → (inputs : List Inputs) (c : Control) → Rests image.program c →
    (played : List Played) → PlayAll image inputs c played → AreWhole image inputs c played
all_whole image valid [] c rests [] plays = tt
all_whole image valid [] c rests (played ∷ others) plays = absurd plays
all_whole image valid (i ∷ inputs) c rests [] plays = absurd plays
all_whole image valid (i ∷ inputs) c rests (played ∷ others) plays =
    let w = whole image c i played valid rests plays.0 in
    (w.tick, w.rests, all_whole image valid inputs played.end w.rests others plays.1)

all_alike : (image : Image) → IsValid image.program image.tables → (inputs : List Inputs) (c : Control) → Rests image.program c →
    (played other : List Played) → PlayAll image inputs c played → PlayAll image inputs c other → map (λ t. t.end) other ≡ map (λ t. t.end) played
all_alike image valid [] c rests [] [] plays others = refl
all_alike image valid [] c rests [] (o ∷ other) plays others = absurd others
all_alike image valid [] c rests (p ∷ played) other plays others = absurd plays
all_alike image valid (i ∷ inputs) c rests [] other plays others = absurd plays
all_alike image valid (i ∷ inputs) c rests (p ∷ played) [] plays others = absurd others
all_alike image valid (i ∷ inputs) c rests (p ∷ played) (o ∷ other) plays others =
    let w = whole image c i p valid rests plays.0 in
    let v = whole image c i o valid rests others.0 in
    let same : o.end ≡ p.end = one_end image (start image.program i c) p o w v in
    let rest = all_alike image valid inputs p.end w.rests played other plays.1 (subst (λ d. PlayAll image inputs d other) same others.1) in
    cc

pub all_ticks_end_alike : AllTicksEndAlike
all_ticks_end_alike image c inputs valid rests played plays =
    (all_whole image valid inputs c rests played plays, λ other others. all_alike image valid inputs c rests played other plays others)
