-- What the state of a tick keeps, from its beginning through every event.
use Rattle.std.proofs.Common.{◌≡◌, ◌≢◌, ℕ, ◌+◌, ◌<◌, ◌≤◌, List, [], ◌∷◌, ◌++◌, map, length, length-append, length-set, take, get_or, Option, Some, None}
use Rattle.std.proofs.Common.{option_map, slice_get, slice_set, refl, sym, ap, subst, ◌∙◌, ◌⊎◌, inl, inr, arith}
use Rattle.std.specs.Prelude.{IsSome, is_some, is_none, IsTrue, ◌↔◌, MatchOption, unwrap_or, zero, suc, true, false}
use Rattle.std.proofs.lemmas.List.{length-map, map-append, append-nil, append_assoc, take_more}
use Rattle.std.proofs.lemmas.Option.{slice_get-map, slice_get_within}
use Rattle.sc_graph.specs.declared.program.Thread.{Thread}
use Rattle.sc_graph.specs.declared.control.Control.{Control}
use Rattle.sc_graph.specs.Program.{Program}
use Rattle.sc_graph.specs.Tick.{Inputs, AreAccepted, Rests, start}
use Rattle.sc_graph.specs.Valid.{IsValid}
use Rattle.bytecode.specs.Image.{Image}
use Rattle.tick_core.specs.declared.history.Entry.{Entry}
use Rattle.tick_core.specs.Claims.{Claim}
use Rattle.tick_core.specs.State.{InTick, Holds, BeginsTick, threads_of}
use Rattle.sc_graph.specs.declared.place.Place.TheVariants as place
use Rattle.sc_graph.specs.Limits.{budget_limit}
use Rattle.sc_graph.specs.declared.tables.Tables.{Tables}
use Rattle.sc_graph.specs.declared.control.Status.{Status}
use Rattle.sc_graph.specs.declared.control.Status.TheVariants as status
use Rattle.sc_graph.specs.Control.{status_of, status_enabled, is_enabled, IsEnabled}
use Rattle.sc_graph.specs.Machine.{machine}
use Rattle.sc_values.specs.Runs.{IsOver, IsAdmissible}
use Rattle.sc_graph.specs.Steps.{step}
use Rattle.sc_graph.specs.Tick.{IsConfiguration}
use Rattle.sc_graph.specs.Priority.{Leads, PriorityRun}
use Rattle.tick_laws.specs.OneEnd.{OneEnd, OfPriority, OfEach}
use Rattle.tick_laws.proofs.Lists.{same_or_not, get_set_same, get_set_other}
use Rattle.tick_laws.proofs.Claims.{room}
use Rattle.tick_laws.proofs.Formed.{valid_formed}
use Rattle.tick_laws.proofs.Starting.{start_config}
use Rattle.tick_laws.proofs.RunsOn.{priority_push}
use Rattle.tick_laws.proofs.Finishing.{rests_when_over}
use Rattle.tick_laws.proofs.Final.{one_end_of_tick}
use Rattle.tick_core.specs.Claims.{value_by}
use Rattle.tick_core.specs.Inside.Work.{value_at}
use Rattle.tick_core.specs.State.{IsFresh, Advances, GoesBy}
use Rattle.tick_core.specs.Whole.{WholeTick}
use Rattle.tick_core.specs.Inside.Turns.{DropsClaims}
use Rattle.tick_core.proofs.Fresh.{fresh_kept, fresh_value}

none_of : (o : Option Thread) (a : Claim) → option_map (λ _. None) o ≢ Some (Some a)
none_of None a is = cc
none_of (Some x) a is = cc

pub no_claims_at : (threads : List Thread) (claims : List (Option Claim)) → claims ≡ map (λ _. None) threads →
    (t : ℕ) (a : Claim) → slice_get claims t ≢ Some (Some a)
no_claims_at threads claims none t a is =
    none_of (slice_get threads t) a (sym (slice_get-map (λ _. None) threads t) ∙ (sym (ap (λ xs. slice_get xs t) none) ∙ is))

-- a state in which a tick was just begun
pub record Begins (image : Image) (c : Control) (inputs : Inputs) (s : InTick) : Type 0 where
  pub accepted : AreAccepted image.program inputs
  pub image_is : s.image ≡ image
  pub begun_is : s.begun ≡ start image.program inputs c
  pub present_is : s.present ≡ start image.program inputs c
  pub no_step : s.history ≡ []
  pub claims_are : s.claims ≡ map (λ _. None) image.program.threads

pub holds_begun : (image : Image) (c : Control) (inputs : Inputs) (s : InTick) → IsValid image.program image.tables →
    Rests image.program c → Begins image c inputs s → Holds s
holds_begun image c inputs s valid rests begins =
    let p_is = begins.image_is in
    record {
      valid = subst (λ i. IsValid i.program i.tables) (sym p_is) valid;
      begins = subst (λ i. BeginsTick i.program s.begun) (sym p_is)
          (record { resting = c; inputs = inputs; rests = rests; accepted = begins.accepted; is = begins.begun_is });
      run = subst (λ h. PriorityRun s.image.program s.image.tables (threads_of h) s.begun s.present) (sym begins.no_step)
          (begins.begun_is ∙ sym begins.present_is);
      places = ap length begins.claims_are ∙ (length-map image.program.threads (λ _. None) ∙ ap (λ i. length i.program.threads) (sym p_is));
      fresh = λ t a is. absurd (no_claims_at image.program.threads s.claims begins.claims_are t a is);
    }

-- where a tick begins is a configuration
pub begun_configuration : (image : Image) (c : Control) (inputs : Inputs) → IsValid image.program image.tables → Rests image.program c
    → AreAccepted image.program inputs → IsConfiguration image.program (start image.program inputs c)
begun_configuration image c inputs valid rests accepted = start_config image.program (valid_formed image.program image.tables valid) inputs accepted c rests

no_thread : Thread
no_thread = record { parent = None; entry = 0 }

abbrev pub unclaimed : Thread → Option Claim
unclaimed t = None

-- one more thread without a claim
pub none_more : (threads : List Thread) (n : ℕ) → n < length threads → map unclaimed (take (n + 1) threads) ≡ map unclaimed (take n threads) ++ None ∷ []
none_more threads n below =
    ap (map unclaimed) (take_more threads n no_thread below) ∙ map-append unclaimed (take n threads) (get_or threads n no_thread ∷ [])

-- what is open besides the claim that was closed
pub still_open : (claims : List (Option Claim)) (t u : ℕ) (a : Claim) → slice_get (slice_set claims t None) u ≡ Some (Some a)
    → (u ≢ t) × (slice_get claims u ≡ Some (Some a))
still_open claims t u a is = go (same_or_not u t)
  where
    go : (u ≡ t) ⊎ (u ≢ t) → (u ≢ t) × (slice_get claims u ≡ Some (Some a))
    go (inl same) =
        let here : slice_get (slice_set claims t None) t ≡ Some (Some a) = sym (ap (slice_get (slice_set claims t None)) same) ∙ is in
        let long : length (slice_set claims t None) ≡ length claims = length-set claims t None in
        let below : t < length claims = omega (arith, long, slice_get_within (slice_set claims t None) t (Some a) here) in
        let none : slice_get (slice_set claims t None) t ≡ Some None = get_set_same claims t None below in
        absurd cc
    go (inr other) = (other, sym (get_set_other claims t u None other) ∙ is)

abbrev pub tick : Image → Control → Control → List Entry → List (Option Claim) → InTick
tick image begun present history claims = record { image = image; begun = begun; present = present; history = history; claims = claims }

pub same_tick : (image image' : Image) (begun begun' present present' : Control) (history history' : List Entry) (claims claims' : List (Option Claim)) →
    image ≡ image' → begun ≡ begun' → present ≡ present' → history ≡ history' → claims ≡ claims' →
    tick image begun present history claims ≡ tick image' begun' present' history' claims'
same_tick image image' begun begun' present present' history history' claims claims' i b p h c =
    ap (λ x. tick x begun present history claims) i ∙ (ap (λ x. tick image' x present history claims) b
    ∙ (ap (λ x. tick image' begun' x history claims) p ∙ (ap (λ x. tick image' begun' present' x claims) h ∙ ap (tick image' begun' present' history') c)))

drops_is : (s s' : InTick) → DropsClaims s s' → s' ≡ record s { claims = s'.claims }
drops_is s s' drops = same_tick s'.image s.image s'.begun s.begun s'.present s.present s'.history s.history s'.claims s'.claims drops.image_is drops.begun_is
    drops.present_is drops.history_is refl

advances_is : (s s' : InTick) (t worker : ℕ) → Advances s s' t worker →
    s' ≡ record {
      image = s.image;
      begun = s.begun;
      present = s'.present;
      history = s.history ++ record { thread = t; worker = worker } ∷ [];
      claims = slice_set s.claims t None;
    }
advances_is s s' t worker advances =
    same_tick s'.image s.image s'.begun s.begun s'.present s'.present s'.history _ s'.claims _ advances.image_is advances.begun_is refl advances.history_is
    advances.claims_are

pub leads_at : (s s' : InTick) (t : ℕ) → s ≡ s' → Leads s'.image.program s'.image.tables s'.present t → Leads s.image.program s.image.tables s.present t
leads_at s s' t same leads = subst (λ s. Leads s.image.program s.image.tables s.present t) (sym same) leads

pub enabled_within : (p : Program) (c : Control) (t : ℕ) → IsEnabled p c t → t < length c.statuses
enabled_within p c t enabled = go (slice_get c.statuses t) refl
  where
    go : (o : Option Status) → slice_get c.statuses t ≡ o → t < length c.statuses
    go None is = absurd (let no : is_enabled p c t ≡ false = ap (λ o. status_enabled p c (unwrap_or o status.Absent)) is in cc)
    go (Some st) is = slice_get_within c.statuses t st is

-- a search for a leader tells whether the tick is over
pub over_or_led : (p : Program) (q : Tables) (c : Control) (o : Option ℕ) → MatchOption o (IsOver (machine p) c) (Leads p q c) → IsTrue (is_none o)
    ↔ (IsOver (machine p) c)
over_or_led p q c None over = (λ h. over, λ h. refl)
over_or_led p q c (Some t) leads = (λ h. absurd cc, λ over. let enabled = leads.enabled in let no = over t in absurd cc)

-- steps of one worker alone
pub alone_begins : (worker : ℕ) (s s' : InTick) → DropsClaims s s' → GoesBy worker s s'
alone_begins worker s s' drops =
    record {
      image_is = drops.image_is;
      begun_is = drops.begun_is;
      more = [];
      history_is = drops.history_is ∙ sym (append-nil s.history);
      alone = λ i e is. absurd (none_in i e is);
      no_claim = drops.no_claim;
    }
  where
    none_in : (i : ℕ) (e : Entry) → slice_get [] i ≡ Some e → ⊥
    none_in i e is = omega (arith, slice_get_within [] i e is)

pub alone_goes_on : (worker : ℕ) (s s' s'' : InTick) (t : ℕ) → GoesBy worker s s' → Advances s' s'' t worker → GoesBy worker s s''
alone_goes_on worker s s' s'' t alone advances =
    record {
      image_is = advances.image_is ∙ alone.image_is;
      begun_is = advances.begun_is ∙ alone.begun_is;
      more = alone.more ++ one ∷ [];
      history_is = advances.history_is ∙ (ap (λ h. h ++ one ∷ []) alone.history_is ∙ append_assoc s.history alone.more (one ∷ []));
      alone = λ i e is. of_one i e is;
      no_claim = λ u a is. alone.no_claim u a (still_open s'.claims t u a (sym (ap (λ xs. slice_get xs u) advances.claims_are) ∙ is)).1;
    }
  where
    one : Entry
    one = record { thread = t; worker = worker }

    in_more : (more : List Entry) (i : ℕ) (e : Entry) → ((k : ℕ) (x : Entry) → slice_get more k ≡ Some x → x.worker ≡ worker)
        → slice_get (more ++ one ∷ []) i ≡ Some e → e.worker ≡ worker
    in_more [] zero e each is = let same : one ≡ e = cc in ap (λ x. x.worker) (sym same)
    in_more [] (suc i) e each is = absurd (omega (arith, slice_get_within [] i e is))
    in_more (x ∷ more) zero e each is = each zero e is
    in_more (x ∷ more) (suc i) e each is = in_more more i e (λ k y at. each (suc k) y at) is

    of_one : (i : ℕ) (e : Entry) → slice_get (alone.more ++ one ∷ []) i ≡ Some e → e.worker ≡ worker
    of_one i e is = in_more alone.more i e alone.alone is

-- what the law of one end says of a tick under way
module _ (s : InTick) (h : Holds s) where
  pub one_end : OneEnd s.image.program s.image.tables s.begun
  one_end =
      subst (OneEnd s.image.program s.image.tables) (sym h.begins.is)
      (one_end_of_tick s.image.program s.image.tables h.begins.resting h.begins.inputs h.valid h.begins.rests h.begins.accepted)

  pub so_far : OfPriority s.image.program s.image.tables s.begun (threads_of s.history) s.present
  so_far = one_end.of_priority (threads_of s.history) s.present h.run

  pub at_present : OfEach s.image.program s.image.tables (threads_of s.history) s.present
  at_present = one_end.of_each (threads_of s.history) s.present so_far.runs

  pub configuration : IsConfiguration s.image.program s.present
  configuration = at_present.configuration

  pub enabled_defined : (t : ℕ) → IsEnabled s.image.program s.present t → IsSome (step s.image.program t s.present)
  enabled_defined t enabled =
      let next : (e : Control) × (step s.image.program t s.present ≡ Some e) = at_present.defined t enabled in
      ap is_some next.1

  pub step_is_defined : (t : ℕ) → Leads s.image.program s.image.tables s.present t → IsSome (step s.image.program t s.present)
  step_is_defined t leads = enabled_defined t leads.enabled

  pub within_budget : length s.history ≤ s.image.tables.budget
  within_budget = omega (arith, at_present.bounded, length-map s.history (λ (e : Entry). e.thread))

  pub has_room : (t : ℕ) → Leads s.image.program s.image.tables s.present t → length s.history < s.image.tables.budget
  has_room t leads =
      omega (
        arith,
        length-map s.history (λ (e : Entry). e.thread),
        room s.image.program s.image.tables s.begun one_end (threads_of s.history) s.present h.run t leads,
      )

  -- who leads has a place among the claims
  pub has_place : (t : ℕ) → Leads s.image.program s.image.tables s.present t → t < length s.claims
  has_place t leads = omega (arith, enabled_within s.image.program s.present t leads.enabled, configuration.threads, h.places)

  pub budget_fits : s.image.tables.budget ≤ budget_limit
  budget_fits = (h.valid.size place.Image).1

  -- the value of an open claim is what the step of its thread takes
  pub open_value : (t : ℕ) (a : Claim) → slice_get s.claims t ≡ Some (Some a) → value_by a.code a.operands
      ≡ value_at s.image.program s.present (status_of s.present t)
  open_value t a is = fresh_value s.image.program s.image.tables s.present (length s.history) t a configuration (h.fresh t a is)

  kept_with : (claims : List (Option Claim)) → length claims ≡ length s.claims →
      ((t : ℕ) (a : Claim) → slice_get claims t ≡ Some (Some a) → IsFresh s.image.program s.image.tables s.present (length s.history) t a) →
      Holds (record s { claims = claims })
  kept_with claims long fresh =
      record { valid = h.valid; begins = h.begins; run = h.run; places = long ∙ h.places; fresh = fresh }

  -- with other claims, none of them open
  pub kept_dropped : (s' : InTick) → length s'.claims ≡ length s.claims → DropsClaims s s' → Holds s'
  kept_dropped s' long drops =
      subst Holds (sym (drops_is s s' drops)) (kept_with s'.claims long (λ t a is. absurd (drops.no_claim t a is)))

  -- with one claim closed
  pub kept_closed : (t : ℕ) → Holds (record s { claims = slice_set s.claims t None })
  kept_closed t =
      kept_with (slice_set s.claims t None) (length-set s.claims t None)
      (λ u a is. h.fresh u a (still_open s.claims t u a is).1)

  pub kept_closed_at : (t : ℕ) (claims : List (Option Claim)) → claims ≡ slice_set s.claims t None → Holds (record s { claims = claims })
  kept_closed_at t claims is = subst (λ xs. Holds (record s { claims = xs })) (sym is) (kept_closed t)

  -- with a fresh claim opened
  pub kept_claimed : (t : ℕ) (b : Claim) → IsFresh s.image.program s.image.tables s.present (length s.history) t b →
      Holds (record s { claims = slice_set s.claims t (Some b) })
  kept_claimed t b fresh =
      kept_with (slice_set s.claims t (Some b)) (length-set s.claims t (Some b)) (λ u a is. each u a is (same_or_not u t))
    where
      each : (u : ℕ) (a : Claim) → slice_get (slice_set s.claims t (Some b)) u ≡ Some (Some a) → (u ≡ t) ⊎ (u ≢ t) →
          IsFresh s.image.program s.image.tables s.present (length s.history) u a
      each u a is (inl same) =
          let here : slice_get (slice_set s.claims t (Some b)) t ≡ Some (Some a) = sym (ap (slice_get (slice_set s.claims t (Some b))) same) ∙ is in
          let long : length (slice_set s.claims t (Some b)) ≡ length s.claims = length-set s.claims t (Some b) in
          let below : t < length s.claims = omega (arith, long, slice_get_within (slice_set s.claims t (Some b)) t (Some a) here) in
          let one : Some (Some b) ≡ Some (Some a) = sym (get_set_same s.claims t (Some b) below) ∙ here in
          let it : b ≡ a = cc in
          subst (λ v. IsFresh s.image.program s.image.tables s.present (length s.history) v a) (sym same)
          (subst (IsFresh s.image.program s.image.tables s.present (length s.history) t) it fresh)
      each u a is (inr other) = h.fresh u a (sym (get_set_other s.claims t u (Some b) other) ∙ is)

  -- after a leader's step, of which the claim is closed
  pub kept_advanced : (s' : InTick) (t worker : ℕ) → Leads s.image.program s.image.tables s.present t → Advances s s' t worker → Holds s'
  kept_advanced s' t worker leads advances =
      subst Holds (sym (advances_is s s' t worker advances))
      (record {
        valid = h.valid;
        begins = h.begins;
        run = subst (λ run. PriorityRun s.image.program s.image.tables run s.begun s'.present)
            (sym (map-append (λ (e : Entry). e.thread) s.history (entry ∷ [])))
            (priority_push s.image.program s.image.tables (threads_of s.history) t s.begun s.present s'.present h.run leads advances.stepped);
        places = length-set s.claims t None ∙ h.places;
        fresh = λ u a is. other_fresh u a (still_open s.claims t u a is);
      })
    where
      entry : Entry
      entry = record { thread = t; worker = worker }

      other_fresh : (u : ℕ) (a : Claim) → (u ≢ t) × (slice_get s.claims u ≡ Some (Some a)) →
          IsFresh s.image.program s.image.tables s'.present (length (s.history ++ entry ∷ [])) u a
      other_fresh u a opened =
          subst (λ n. IsFresh s.image.program s.image.tables s'.present n u a) (sym (length-append s.history (entry ∷ [])))
          (fresh_kept s.image.program s.image.tables h.valid s.present configuration t u (length s.history) a s'.present opened.0 leads advances.stepped
          (h.fresh u a opened.1))

-- what holds of a finished tick: its last configuration, and its steps
pub record Finished (s : InTick) (end : Control) (history : List Entry) : Type 0 where
  pub rests : Rests s.image.program end
  pub tick : WholeTick s.image s.begun (threads_of history) end

finished_at : (s : InTick) → Holds s → IsOver (machine s.image.program) s.present → Finished s s.present s.history
finished_at s h over =
    record {
      rests = rests_when_over s.image.program s.present (configuration s h) over;
      tick = record {
        complete = record { runs = (so_far s h).runs; over = over };
        admissible = (so_far s h).admissible;
        within = (at_present s h).bounded;
        one_end = (so_far s h).one_end over;
        reordered = (so_far s h).reordered over;
      };
    }

pub finished : (was s : InTick) (end : Control) (history : List Entry) → was ≡ s → Holds was → IsOver (machine s.image.program) s.present → end ≡ s.present
    → history ≡ s.history → Finished s end history
finished was s end history same h over end_is history_is =
    subst (λ x. Finished s x history) (sym end_is) (subst (Finished s s.present) (sym history_is) (finished_at s (subst Holds same h) over))

pub few_entries : (s : InTick) → Holds s → (history : List Entry) → history ≡ s.history → length history < 4294967296
few_entries s h history same = omega (arith, within_budget s h, budget_fits s h, ap length same)

-- a leader's step leaves the history within the budget
pub room_left : (was s s' : InTick) (t worker : ℕ) → was ≡ s → Holds was → Leads s.image.program s.image.tables s.present t → Advances s s' t worker
    → length s'.history ≤ s'.image.tables.budget
room_left was s s' t worker same h leads advances =
    omega (
      arith,
      has_room s (subst Holds same h) t leads,
      ap length advances.history_is,
      length-append s.history (record { thread = t; worker = worker } ∷ []),
      ap (λ i. i.tables.budget) advances.image_is,
    )

-- what holds of the steps so far
pub record SoFar (s : InTick) (history : List Entry) : Type 0 where
  pub by_priority : PriorityRun s.image.program s.image.tables (threads_of history) s.begun s.present
  pub admissible : IsAdmissible (machine s.image.program) (threads_of history) s.begun
  pub within : length history ≤ s.image.tables.budget

shown_at : (s : InTick) → Holds s → SoFar s s.history
shown_at s h = record { by_priority = h.run; admissible = (so_far s h).admissible; within = within_budget s h }

pub shown : (was s : InTick) (history : List Entry) → was ≡ s → Holds was → history ≡ s.history → SoFar s history
shown was s history same h is = subst (SoFar s) (sym is) (shown_at s (subst Holds same h))

pub places_shown : (was s : InTick) (claims : List (Option Claim)) → was ≡ s → Holds was → claims ≡ s.claims → length claims ≡ length s.image.program.threads
places_shown was s claims same h is = ap length is ∙ (subst Holds same h).places

pub fresh_shown : (was s : InTick) (claims : List (Option Claim)) → was ≡ s → Holds was → claims ≡ s.claims →
    (t : ℕ) (a : Claim) → slice_get claims t ≡ Some (Some a) → IsFresh s.image.program s.image.tables s.present (length s.history) t a
fresh_shown was s claims same h is t a at = (subst Holds same h).fresh t a (sym (ap (λ xs. slice_get xs t) is) ∙ at)

-- where no claim is open, each place of a claim is bare
all_bare : (claims : List (Option Claim)) (threads : List Thread) → length claims ≡ length threads → ((t : ℕ) (a : Claim) → slice_get claims t ≢ Some (Some a))
    → claims ≡ map (λ _. None) threads
all_bare [] [] long none = refl
all_bare [] (x ∷ threads) long none = absurd (omega arith)
all_bare (c ∷ claims) [] long none = absurd (omega arith)
all_bare (None ∷ claims) (x ∷ threads) long none = ap (λ rest. None ∷ rest) (all_bare claims threads (omega arith) (λ t a. none (suc t) a))
all_bare (Some a ∷ claims) (x ∷ threads) long none = absurd (none zero a refl)

-- when a tick is over no claim is open
pub none_open : (was s : InTick) → was ≡ s → Holds was → IsOver (machine s.image.program) s.present → was.claims ≡ map (λ _. None) was.image.program.threads
none_open was s same h over =
    all_bare was.claims was.image.program.threads h.places (λ t a is. idle t a is)
  where
    idle : (t : ℕ) (a : Claim) → slice_get was.claims t ≡ Some (Some a) → ⊥
    idle t a is =
        let enabled : is_enabled was.image.program was.present t ≡ true = (h.fresh t a is).leads.enabled in
        let no : is_enabled was.image.program was.present t ≡ false = subst (λ x. IsOver (machine x.image.program) x.present) (sym same) over t in
        cc
