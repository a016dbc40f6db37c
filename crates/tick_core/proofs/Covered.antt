-- What the list of a tick covers: as the tick begins, behind each step, and as the next one begins.
use Rattle.std.proofs.Common.{◌≡◌, ◌≢◌, ℕ, zero, suc, ◌<◌, ◌≤◌, ◌⊎◌, true, false, vec_capacity, List, [], ◌∷◌, length, Option, Some, None, Contains, slice_get}
use Rattle.std.proofs.Common.{option_map, unwrap_or, refl, sym, ap, subst, ◌∙◌, inl, inr, arith}
use Rattle.std.proofs.lemmas.Bool.{OnTrue_at, OnTrue_from, cases_lt}
use Rattle.std.proofs.lemmas.List.{length-map}
use Rattle.std.proofs.lemmas.Option.{slice_get_past, slice_get-map}
use Rattle.sc_graph.specs.declared.control.Control.{Control}
use Rattle.sc_graph.specs.declared.control.Status.{Status}
use Rattle.sc_graph.specs.declared.control.Status.TheVariants as status
use Rattle.sc_graph.specs.declared.place.Place.TheVariants as place
use Rattle.sc_graph.specs.declared.tables.Tables.{Tables}
use Rattle.sc_graph.specs.Program.{Program}
use Rattle.sc_graph.specs.Control.{status_of, status_enabled, IsEnabled}
use Rattle.sc_graph.specs.Steps.{step}
use Rattle.sc_graph.specs.Tick.{IsConfiguration, IsPresent, woken, statuses_at_start}
use Rattle.sc_graph.specs.Valid.{IsValid}
use Rattle.tick_laws.proofs.Lists.{contained, contains_none, map_some, same_or_not, slice_get_there}
use Rattle.tick_core.specs.declared.listed.Listed.{Listed}
use Rattle.tick_core.specs.Inside.Astir.{IsAstir, AstirListed, Covers, FitsTick, Gains, StaysListed}
use Rattle.tick_core.specs.Space.Sorting.{children_at}
use Rattle.tick_core.specs.Space.There.{AllListed, AreListed}
use Rattle.tick_core.proofs.ListedThreads.{everybody_listed}
use Rattle.tick_core.proofs.Unmoved.{same_behind, stays_configuration}

present_of_astir : (s : Status) → IsAstir s → IsPresent s
present_of_astir status.Absent astir = absurd astir
present_of_astir (status.At n) astir = tt
present_of_astir (status.Waiting j) astir = tt
present_of_astir (status.Paused d) astir = tt
present_of_astir status.Ended astir = absurd astir

-- where all that are present are listed, all that are astir are
pub astir_of_all : (ss : List Status) (threads : List ℕ) → AllListed ss threads → AstirListed ss threads
astir_of_all ss threads h = record { each = λ t s is astir. h.each t s is (present_of_astir s astir) }

astir_in : (ss : List Status) (threads : List ℕ) → AstirListed ss threads → (t : ℕ) (o : Option Status) → slice_get ss t ≡ o
    → IsAstir (unwrap_or o status.Absent) → Contains threads t
astir_in ss threads h t None is astir = absurd astir
astir_in ss threads h t (Some s) is astir = h.each t s is astir

-- who is astir stands in the list
pub astir_of : (c : Control) (threads : List ℕ) → AstirListed c.statuses threads → (t : ℕ) → IsAstir (status_of c t) → Contains threads t
astir_of c threads h t astir = astir_in c.statuses threads h t (slice_get c.statuses t) refl astir

-- as a tick begins, all that are present are enough
pub covers_begun : (ss : List Status) (threads : List ℕ) → AreListed ss threads → Covers ss ss threads
covers_begun ss threads h = record { root = h.root; astir = astir_of_all ss threads h.all; changed = record { each = λ t. inr refl } }

-- everybody is enough
pub covers_everybody : (p : Program) (begun present : List Status) (threads : List ℕ) → 0 < length p.threads → length begun ≡ length p.threads
    → length present ≡ length p.threads → ((t : ℕ) → t < length p.threads → Contains threads t) → Covers begun present threads
covers_everybody p begun present threads some begun_long present_long each =
    record {
      root = each 0 some;
      astir = record { each = λ t s is astir. within t (cases_lt t (length present)) s is };
      changed = record { each = λ t. either t (cases_lt t (length present)) };
    }
  where
    within : (t : ℕ) → (t < length present) ⊎ (length present ≤ t) → (s : Status) → slice_get present t ≡ Some s → Contains threads t
    within t (inl less) s is = each t (omega (arith, less, present_long))
    within t (inr past) s is = let never : None ≡ Some s = sym (slice_get_past present t past) ∙ is in absurd (cc)

    either : (t : ℕ) → (t < length present) ⊎ (length present ≤ t) → Contains threads t ⊎ (slice_get begun t ≡ slice_get present t)
    either t (inl less) = inl (each t (omega (arith, less, present_long)))
    either t (inr past) = inr (slice_get_past begun t (omega (arith, past, present_long, begun_long)) ∙ sym (slice_get_past present t past))

pub some_thread : (p : Program) (q : Tables) → IsValid p q → 0 < length p.threads
some_thread p q valid = omega (arith, (valid.size place.Image).0.some_thread)

-- where each thread is listed, the root is, and all that are present are
pub everybody_there : (p : Program) (q : Tables) → IsValid p q → (c : Control) (threads : List ℕ) → IsConfiguration p c
    → ((t : ℕ) → t < length p.threads → Contains threads t) → AreListed c.statuses threads
everybody_there p q valid c threads ok each =
    record { root = each 0 (some_thread p q valid); all = everybody_listed p c threads ok each }

fixed_or_astir : (s : Status) → IsAstir s ⊎ (woken s ≡ s)
fixed_or_astir status.Absent = inr refl
fixed_or_astir (status.At n) = inr refl
fixed_or_astir (status.Waiting j) = inr refl
fixed_or_astir (status.Paused d) = inl tt
fixed_or_astir status.Ended = inr refl

woken_astir : (s : Status) → IsAstir (woken s) → IsAstir s
woken_astir status.Absent astir = absurd astir
woken_astir (status.At n) astir = tt
woken_astir (status.Waiting j) astir = tt
woken_astir (status.Paused d) astir = tt
woken_astir status.Ended astir = absurd astir

module _ (p : Program) (begun : List Status) (threads : List ℕ) (root : Contains threads 0) where
  started_astir : (ss : List Status) → ((t : ℕ) (s : Status) → slice_get ss t ≡ Some s → IsAstir s → Contains threads t) → (t : ℕ) (s : Status)
      → slice_get (statuses_at_start p ss) t ≡ Some s → IsAstir s → Contains threads t
  started_astir [] each t s is astir = absurd (cc)
  started_astir (x ∷ ss) each zero s is astir = root
  started_astir (x ∷ ss) each (suc t) s is astir =
      let was : (y : Status) × (slice_get ss t ≡ Some y) × (woken y ≡ s) = map_some woken (slice_get ss t) s (sym (slice_get-map woken ss t) ∙ is) in
      each (suc t) was.0 was.1 (woken_astir was.0 (subst IsAstir (sym was.2) astir))

  changed_at : (x : Status) (ss : List Status) (t : ℕ) → ((s : Status) → slice_get ss t ≡ Some s → IsAstir s → Contains threads (suc t))
      → slice_get begun (suc t) ≡ slice_get ss t → (o : Option Status) → slice_get ss t ≡ o
      → Contains threads (suc t) ⊎ (slice_get begun (suc t) ≡ slice_get (statuses_at_start p (x ∷ ss)) (suc t))
  changed_at x ss t each same None is = inr (same ∙ (is ∙ sym (slice_get-map woken ss t ∙ ap (option_map woken) is)))
  changed_at x ss t each same (Some s) is = by (fixed_or_astir s)
    where
      by : IsAstir s ⊎ (woken s ≡ s) → Contains threads (suc t) ⊎ (slice_get begun (suc t) ≡ slice_get (statuses_at_start p (x ∷ ss)) (suc t))
      by (inl astir) = inl (each s is astir)
      by (inr fixed) = inr (same ∙ (is ∙ sym (slice_get-map woken ss t ∙ (ap (option_map woken) is ∙ ap Some fixed))))

  started_changed : (ss : List Status) → ((t : ℕ) (s : Status) → slice_get ss t ≡ Some s → IsAstir s → Contains threads t) → (t : ℕ)
      → Contains threads t ⊎ (slice_get begun t ≡ slice_get ss t) → Contains threads t ⊎ (slice_get begun t ≡ slice_get (statuses_at_start p ss) t)
  started_changed [] each t h = h
  started_changed (x ∷ ss) each zero h = inl root
  started_changed (x ∷ ss) each (suc t) (inl inside) = inl inside
  started_changed (x ∷ ss) each (suc t) (inr same) = changed_at x ss t (each (suc t)) same (slice_get ss t) refl

-- whom the list covers at the end of a tick it covers at the start of the next one
pub covers_started : (p : Program) (begun ss : List Status) (threads : List ℕ) → Covers begun ss threads → Covers begun (statuses_at_start p ss) threads
covers_started p begun ss threads h =
    record {
      root = h.root;
      astir = record { each = started_astir p begun threads h.root ss h.astir.each };
      changed = record { each = λ t. started_changed p begun threads h.root ss h.astir.each t (h.changed.each t) };
    }

same_get : (xs ys : List Status) (t : ℕ) → length xs ≡ length ys → unwrap_or (slice_get xs t) status.Absent ≡ unwrap_or (slice_get ys t) status.Absent
    → slice_get xs t ≡ slice_get ys t
same_get xs ys t long same = by (cases_lt t (length xs))
  where
    by : (t < length xs) ⊎ (length xs ≤ t) → slice_get xs t ≡ slice_get ys t
    by (inr past) = slice_get_past xs t past ∙ sym (slice_get_past ys t (omega (arith, past, long)))
    by (inl less) =
        let x : (s : Status) × (slice_get xs t ≡ Some s) = slice_get_there xs t less in
        let y : (s : Status) × (slice_get ys t ≡ Some s) = slice_get_there ys t (omega (arith, less, long)) in
        x.1 ∙ (ap Some (ap (λ o. unwrap_or o status.Absent) (sym x.1) ∙ (same ∙ ap (λ o. unwrap_or o status.Absent) y.1)) ∙ sym y.1)

enabled_astir : (p : Program) (c : Control) (s : Status) → status_enabled p c s ≡ true → IsAstir s
enabled_astir p c status.Absent enabled = absurd (cc)
enabled_astir p c (status.At n) enabled = tt
enabled_astir p c (status.Waiting j) enabled = tt
enabled_astir p c (status.Paused d) enabled = absurd (cc)
enabled_astir p c status.Ended enabled = absurd (cc)

module _ (p : Program) (q : Tables) (valid : IsValid p q) (c d : Control) (ok : IsConfiguration p c) (t : ℕ) (enabled : IsEnabled p c t)
    (stepped : step p t c ≡ Some d) where
  still : (u : ℕ) → u ≢ t → ¬ Contains (children_at p (status_of c t)) u → slice_get d.statuses u ≡ slice_get c.statuses u
  still u other no_child =
      same_get d.statuses c.statuses u ((stays_configuration p q valid c d ok t stepped).threads ∙ sym ok.threads)
      (same_behind p q valid c d ok t stepped u other no_child)

  -- a step is covered where its children are listed too
  pub covers_stepped : (begun : List Status) (before after : List ℕ) → Covers begun c.statuses before → ((u : ℕ) → Contains before u → Contains after u)
      → ((u : ℕ) → Contains (children_at p (status_of c t)) u → Contains after u) → Covers begun d.statuses after
  covers_stepped begun before after h kept gained =
      record {
        root = kept 0 h.root;
        astir = record { each = λ u s is astir. each u s is astir (same_or_not u t) (contained (children_at p (status_of c t)) u) };
        changed = record { each = λ u. changed u (same_or_not u t) (contained (children_at p (status_of c t)) u) (h.changed.each u) };
      }
    where
      own : (u : ℕ) → u ≡ t → Contains after u
      own u same =
          kept u (subst (Contains before) (sym same) (astir_of c before h.astir t (enabled_astir p c (status_of c t) enabled)))

      each : (u : ℕ) (s : Status) → slice_get d.statuses u ≡ Some s → IsAstir s → (u ≡ t) ⊎ (u ≢ t)
          → Contains (children_at p (status_of c t)) u ⊎ ¬ Contains (children_at p (status_of c t)) u → Contains after u
      each u s is astir (inl same) child = own u same
      each u s is astir (inr other) (inl child) = gained u child
      each u s is astir (inr other) (inr no_child) = kept u (h.astir.each u s (sym (still u other no_child) ∙ is) astir)

      changed : (u : ℕ) → (u ≡ t) ⊎ (u ≢ t) → Contains (children_at p (status_of c t)) u ⊎ ¬ Contains (children_at p (status_of c t)) u
          → Contains before u ⊎ (slice_get begun u ≡ slice_get c.statuses u) → Contains after u ⊎ (slice_get begun u ≡ slice_get d.statuses u)
      changed u (inl same) child was = inl (own u same)
      changed u (inr other) (inl child) was = inl (gained u child)
      changed u (inr other) (inr no_child) (inl inside) = inl (kept u inside)
      changed u (inr other) (inr no_child) (inr same) = inr (same ∙ sym (still u other no_child))

  -- behind a step the list fits, where it has gained the children
  pub fits_stepped : (begun : Control) (before after : Listed) → FitsTick p begun c before → Gains before (children_at p (status_of c t)) after
      → FitsTick p begun d after
  fits_stepped begun before after h gains =
      record {
        room = omega (arith, h.room, gains.room);
        whole = OnTrue_from after.is_whole _ (λ holds. covers_stepped begun.statuses before.threads.items after.threads.items
            (OnTrue_at (gains.whole holds) h.whole) gains.kept (gains.gained holds));
        all = OnTrue_from after.is_all _ (λ holds. more (OnTrue_at (sym gains.all ∙ holds) h.all));
      }
    where
      more : AllListed begun.statuses before.threads.items → AllListed begun.statuses after.threads.items
      more all = record { each = λ u s is present. gains.kept u (all.each u s is present) }

-- who forks nobody and leaves nobody needs no more listed
pub gains_nobody : (listed : Listed) (children : List ℕ) → children ≡ [] → Gains listed children listed
gains_nobody listed children none =
    record {
      room = refl;
      all = refl;
      kept = λ t inside. inside;
      whole = λ holds. holds;
      gained = λ holds t inside. absurd (contains_none t (subst (λ ks. Contains ks t) none inside));
    }

-- as a tick begins the list fits, where all that are present are listed
pub fits_begun : (p : Program) (begun present : Control) (listed : Listed) → present ≡ begun → length p.threads ≤ vec_capacity listed.threads
    → AreListed begun.statuses listed.threads.items → FitsTick p begun present listed
fits_begun p begun present listed same room all =
    record {
      room = room;
      whole = OnTrue_from listed.is_whole _ (λ holds. subst (λ (d : Control). Covers begun.statuses d.statuses listed.threads.items) (sym same)
          (covers_begun begun.statuses listed.threads.items all));
      all = OnTrue_from listed.is_all _ (λ holds. all.all);
    }

-- after the start in place the list fits
pub fits_anew : (p : Program) (begun present : Control) (listed : Listed) → length p.threads ≤ vec_capacity listed.threads
    → listed.is_all ≡ false → Covers begun.statuses present.statuses listed.threads.items → FitsTick p begun present listed
fits_anew p begun present listed room not_all covers =
    record {
      room = room;
      whole = OnTrue_from listed.is_whole _ (λ holds. covers);
      all = OnTrue_from listed.is_all _ (λ holds. let never : true ≡ false = sym holds ∙ not_all in absurd (cc));
    }

-- where those that must stay stay listed, all are covered that stand the same as the tick began
pub covers_kept : (c : Control) (before after : List ℕ) (ss : List Status) → ss ≡ c.statuses → Contains before 0 → AstirListed c.statuses before
    → StaysListed c before after → Covers ss c.statuses after
covers_kept c before after ss same root astir stays =
    record {
      root = stays.each 0 root (inl refl);
      astir = record {
        each = λ t s is moves. stays.each t (astir.each t s is moves)
            (inr (subst IsAstir (sym (ap (λ o. unwrap_or o status.Absent) is)) moves));
      };
      changed = record { each = λ t. inr (ap (λ xs. slice_get xs t) same) };
    }

-- there are as many statuses at the start as before
pub start_long : (p : Program) (ss : List Status) → length (statuses_at_start p ss) ≡ length ss
start_long p [] = refl
start_long p (s ∷ ss) = ap suc (length-map ss woken)
