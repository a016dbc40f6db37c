-- All monitors around which nobody guards come to their tests: those that have yet to look at the strong flags around look. The others come to the look
-- at the flag of the outermost superstate around them in which somebody guards.
use Rattle.std.proofs.Common.{◌≡◌, ◌≢◌, ℕ, zero, suc, ◌<◌, ◌≤◌, ◌⊎◌, inl, inr, ⊎_elim, Bool, true, false, Option, Some, [], length}
use Rattle.std.proofs.Common.{Contains, refl, sym, ap, subst, ◌∙◌, arith}
use Rattle.std.proofs.lemmas.Option.{same_Some}
use Rattle.sc_values.specs.Access.{Access}
use Rattle.core_charts.specs.Aborts.{has_aborts}
use Rattle.chart_machine.specs.declared.standing.Standing.TheVariants as at
use Rattle.chart_machine.specs.declared.standing.Configuration.{Configuration}
use Rattle.chart_machine.specs.declared.table.Table.{Table}
use Rattle.chart_machine.specs.Turns.{standing_of, guards as has_to_guard, is_guarded}
use Rattle.chart_machine.specs.Machine.{machine}
use Rattle.chart_machine.proofs.Outside.{within_or_past}
use Rattle.tick_laws.proofs.Lists.{same_or_not}
use Rattle.abort_expansion_laws.specs.Stages.{Entry, Silent, Correspondence}
use Rattle.chart_machine_laws.proofs.LyingIn.{IsNested, around, holder}
use Rattle.abort_expansion_laws.specs.CoreRows.{own, IsState, Images, CoreRows}
use Rattle.abort_expansion_laws.specs.Related.{IsInside, Related}
use Rattle.abort_expansion_laws.proofs.StageReached.{Stage}
use Rattle.abort_expansion_laws.proofs.ImageSteps.{pair}
use Rattle.abort_expansion_laws.proofs.KnownVariables.{present_there}
use Rattle.abort_expansion_laws.proofs.StandsInside.{inside_present}
use Rattle.abort_expansion_laws.proofs.Segments.{Segment, segment_on}
use Rattle.abort_expansion_laws.proofs.StartingRegions.{CounterRows}
use Rattle.abort_expansion_laws.proofs.OpensFork.{OpeningRows}
use Rattle.abort_expansion_laws.proofs.OneMonitor.{one_monitor}
use Rattle.abort_expansion_laws.proofs.GuardFlag.{guard_flag}
use Rattle.abort_expansion_laws.proofs.HasLooked.{HasLooked}
use Rattle.abort_expansion_laws.proofs.LooksBefore.{looked_first}
use Rattle.abort_expansion_laws.proofs.LooksFirst.{open_or_out}
use Rattle.abort_expansion_laws.proofs.LooksOuter.{LooksNext, away, looks_outer}
use Rattle.abort_expansion_laws.proofs.Outermost.{Outermost, outermost, outermost_one}
use Rattle.abort_expansion_laws.proofs.Unchanged.{none_among}

module _ (k core : Table) (i : Images) where
  pub record IsReady (c d : Configuration) (o : ℕ) : Type 0 where
    -- where nobody guards around the superstate, its monitor has looked at the strong flags around
    pub looked : IsState k o → has_aborts (own k o) ≡ true → is_guarded k c (around k (holder k o)) ≡ false →
        HasLooked k core i o (standing_of c (holder k o)) (standing_of d (i.watcher_of o))
    -- where somebody does, it is at its look at the flag of the outermost one
    pub next : IsState k o → has_aborts (own k o) ≡ true → (s x : ℕ) → Contains (around k (holder k o)) s → (i.flags_of s).strong ≡ Some x →
        has_to_guard (standing_of c (holder k s)) ≡ true → is_guarded k c (around k (holder k s)) ≡ false → LooksNext i o x (standing_of d (i.watcher_of o))

  pub record AllReady (c d : Configuration) : Type 0 where
    pub related : Related k core i c d
    pub ready : (o : ℕ) → IsReady c d o

module _ (k core : Table) (i : Images) (rows : CoreRows k core i) (tree : IsNested k) (counts : ℕ → Bool) (written_at : ℕ → ℕ)
    (counters : CounterRows k core i rows counts written_at) (opening : OpeningRows k core i rows)
    (strong_at : (s x : ℕ) → (i.flags_of s).strong ≡ Some x → written_at x ≡ 0) (super_there : (q s : ℕ) → Contains (around k q) s → IsState k s)
    (Told : Configuration → Entry → Type 0)
    (told : (e : Configuration) (t : ℕ) (stage : Option (ℕ × ℕ)) (a : Access) → Told e (Silent t stage a)) (c : Configuration) where
  abbrev corr : Correspondence
  corr = pair k core i rows tree counts written_at

  -- those below a number are ready
  record Ready (n : ℕ) (d : Configuration) : Type 0 where
    related : Related k core i c d
    below : (u : ℕ) → u < n → IsReady k core i c d u

  abbrev Readied : Configuration → (Configuration → Type 0) → Type 0
  Readied d Reaches = Segment (machine core) corr Told d (Stage k i.thread_of c d) (λ z. Stage k i.thread_of c z) [] Reaches

  stays_so : (d : Configuration) (Reaches : Configuration → Type 0) → Reaches d → Readied d Reaches
  stays_so d Reaches reaches =
      record { log = []; last = d; follows = refl; charted = refl; fits = tt; climbs = λ rest climbs. climbs; reaches = reaches }

  one_more : (n u : ℕ) → u < suc n → u ≢ n → u < n
  one_more n u lt ne = grind arith

  with_own : (n : ℕ) (d : Configuration) → Ready n d → IsReady k core i c d n → Ready (suc n) d
  with_own n d ready own_one =
      record {
        related = ready.related;
        below = λ u lt.
            ⊎_elim (λ same. subst (IsReady k core i c d) (sym same) own_one) (λ ne. ready.below u (one_more n u lt ne)) (same_or_not u n);
      }

  at_least : (n : ℕ) (d : Configuration) → Ready n d → IsReady k core i c d n → Readied d (Ready (suc n))
  at_least n d ready own_one = stays_so d (Ready (suc n)) (with_own n d ready own_one)

  -- others stand as they did
  still_ready : (u : ℕ) (d z : Configuration) → (IsState k u → has_aborts (own k u) ≡ true → standing_of z (i.watcher_of u) ≡ standing_of d (i.watcher_of u)) →
      IsReady k core i c d u → IsReady k core i c z u
  still_ready u d z same ready =
      record {
        looked = λ there some free.
            subst (HasLooked k core i u (standing_of c (holder k u))) (sym (same there some)) (ready.looked there some free);
        next = λ there some s x inner flag guards_now free.
            subst (LooksNext i u x) (sym (same there some)) (ready.next there some s x inner flag guards_now free);
      }

  others_ready : (o : ℕ) (d z : Configuration) → IsState k o → has_aborts (own k o) ≡ true → Ready o d →
      ((t : ℕ) → t ≢ i.watcher_of o → standing_of z t ≡ standing_of d t) → (u : ℕ) → u < o → IsReady k core i c z u
  others_ready o d z here has ready others u lt =
      still_ready u d z
      (λ there some. others (i.watcher_of u) (λ same. absurd (less_differs (one_monitor k core i rows u o there some here has same)))) (ready.below u lt)
    where
      less_differs : u ≡ o → ⊥
      less_differs same = omega (lt, same, arith)

  -- the monitor of o looks at all strong flags around
  looks_all : (o : ℕ) (d : Configuration) → Ready o d → IsState k o → has_aborts (own k o) ≡ true → is_guarded k c (around k (holder k o)) ≡ false →
      Readied d (Ready (suc o))
  looks_all o d ready here has free =
      looked_first k core i rows tree counts written_at counters opening strong_at super_there Told told c d ready.related o here has free []
      (λ z. Stage k i.thread_of c z) (Ready (suc o))
      (λ z related_z looked others.
      stays_so z (Ready (suc o))
      (with_own o z (record { related = related_z; below = others_ready o d z here has ready others })
      (record {
        looked = λ is its own_free. looked;
        next = λ is its s x inner flag guards_now s_free.
            let wrong : true ≡ false =
            sym guards_now ∙ none_among (λ v. has_to_guard (standing_of c (holder k v))) (around k (holder k o)) s free inner in
            absurd cc;
      })))

  -- or at those further out than the outermost one in which somebody guards
  module _ (o : ℕ) (d : Configuration) (ready : Ready o d) (here : IsState k o) (has : has_aborts (own k o) ≡ true)
      (guarded_now : is_guarded k c (around k (holder k o)) ≡ true) where
    outer : Outermost k tree c (around k (holder k o))
    outer = outermost k tree c (around k (holder k o)) (holder k o) refl guarded_now

    -- this is all that is owed
    at_next : (z : Configuration) → ((s x : ℕ) → s ≡ outer.guard → (i.flags_of s).strong ≡ Some x → LooksNext i o x (standing_of z (i.watcher_of o))) →
        IsReady k core i c z o
    at_next z looks =
        record {
          looked = λ is its free. let wrong : true ≡ false = sym guarded_now ∙ free in absurd cc;
          next = λ is its s x inner flag guards_now free.
              looks s x (outermost_one k tree c (holder k o) s outer.guard inner outer.inner guards_now outer.guards_now free outer.free) flag;
        }

    looks_outside : standing_of d (i.watcher_of o) ≡ at.Outside → Readied d (Ready (suc o))
    looks_outside gone = at_least o d ready (at_next d (λ s x same flag. subst (LooksNext i o x) (sym gone) away))

    looks_inside : IsInside k core i o (standing_of c (holder k o)) → Readied d (Ready (suc o))
    looks_inside inner =
        let s : ℕ = outer.guard in
        let present = inside_present k core i o (standing_of c (holder k o)) inner in
        let flag : (n : ℕ) × ((i.flags_of s).strong ≡ Some n) =
        guard_flag k core i rows c d ready.related s (super_there (holder k o) s outer.inner)
        (ready.related.enclosed (holder k o) s (present_there k core i c d ready.related (holder k o) present) present outer.inner) outer.guards_now in
        let all = looks_outer k core i rows tree counts written_at counters opening strong_at super_there Told told c o here has s flag.0 outer.inner flag.1
        outer.guards_now outer.free d ready.related in
        record {
          log = all.log;
          last = all.last;
          follows = all.follows;
          charted = all.charted;
          fits = all.fits;
          climbs = all.climbs;
          reaches =
              with_own o all.last
              (record { related = all.reaches.related; below = others_ready o d all.last here has ready all.reaches.others })
              (at_next all.last
              (λ u x same own_flag.
              subst (λ n. LooksNext i o n (standing_of all.last (i.watcher_of o)))
              (same_Some flag.0 x (sym flag.1 ∙ (ap (λ v. (i.flags_of v).strong) (sym same) ∙ own_flag))) all.reaches.next));
        }

    looks_out : Readied d (Ready (suc o))
    looks_out =
        ⊎_elim looks_inside looks_outside
        (open_or_out k core i o (standing_of c (holder k o)) (standing_of d (i.watcher_of o)) (ready.related.watchers o here has))

  by_guards : (o : ℕ) (d : Configuration) → Ready o d → IsState k o → has_aborts (own k o) ≡ true → (b : Bool) →
      is_guarded k c (around k (holder k o)) ≡ b → Readied d (Ready (suc o))
  by_guards o d ready here has true guarded_now = looks_out o d ready here has guarded_now
  by_guards o d ready here has false free = looks_all o d ready here has free

  one_ready : (o : ℕ) (d : Configuration) → Ready o d → Readied d (Ready (suc o))
  one_ready o d ready = by_place (within_or_past o (length k.states))
    where
      by_aborts : (b : Bool) → has_aborts (own k o) ≡ b → IsState k o → Readied d (Ready (suc o))
      by_aborts false none here =
          at_least o d ready
          (record {
            looked = λ is its free. let wrong : true ≡ false = sym its ∙ none in absurd cc;
            next = λ is its s x inner flag guards_now free. let wrong : true ≡ false = sym its ∙ none in absurd cc;
          })
      by_aborts true has here = by_guards o d ready here has (is_guarded k c (around k (holder k o))) refl

      by_place : (o < length k.states) ⊎ (length k.states ≤ o) → Readied d (Ready (suc o))
      by_place (inl here) = by_aborts (has_aborts (own k o)) refl here
      by_place (inr past) =
          at_least o d ready
          (record {
            looked = λ is its free. absurd (omega (is, past, arith));
            next = λ is its s x inner flag guards_now free. absurd (omega (is, past, arith));
          })

  ready_to : (n : ℕ) (d : Configuration) → Related k core i c d → Readied d (Ready n)
  ready_to zero d related = stays_so d (Ready 0) (record { related = related; below = λ u lt. absurd (omega (lt, arith)) })
  ready_to (suc n) d related =
      let first = ready_to n d related in
      segment_on (machine core) corr Told d (Stage k i.thread_of c d) (λ z. Stage k i.thread_of c z) (λ z. Stage k i.thread_of c z) [] [] (Ready n)
      (Ready (suc n)) first (one_ready n first.last first.reaches)

  ready_one : (d : Configuration) → Ready (length k.states) d → (o : ℕ) → IsReady k core i c d o
  ready_one d ready o =
      record {
        looked = λ here has free. (ready.below o here).looked here has free;
        next = λ here has s x inner flag guards_now free. (ready.below o here).next here has s x inner flag guards_now free;
      }

  pub get_ready : (d : Configuration) → Related k core i c d →
      Segment (machine core) (pair k core i rows tree counts written_at) Told d (Stage k i.thread_of c d) (λ z. Stage k i.thread_of c z) []
      (AllReady k core i c)
  get_ready d related =
      let all = ready_to (length k.states) d related in
      record {
        log = all.log;
        last = all.last;
        follows = all.follows;
        charted = all.charted;
        fits = all.fits;
        climbs = all.climbs;
        reaches = record { related = all.reaches.related; ready = ready_one all.last all.reaches };
      }
