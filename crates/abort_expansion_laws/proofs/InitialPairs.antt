-- Where a superstate and its fork were just opened: in which states each region of it, each thread of these and the monitor begin.
use Rattle.std.proofs.Common.{◌≡◌, ℕ, suc, ◌<◌, inl, inr, ⊎_elim, Bool, true, false, List, [], ◌∷◌, ◌++◌, map, length, Contains}
use Rattle.std.proofs.Common.{refl, sym, ap, subst, ◌∙◌, arith, if◌then◌else◌}
use Rattle.std.proofs.lemmas.List.{append_assoc, map-append}
use Rattle.std.proofs.lemmas.List.Elements.{Contains-append_left, Contains-append_right}
use Rattle.core_charts.specs.declared.region.Transition.{Transition}
use Rattle.core_charts.specs.Aborts.{has_aborts}
use Rattle.core_charts.specs.Tests.{at_once}
use Rattle.chart_machine.specs.declared.standing.Standing.{Standing}
use Rattle.chart_machine.specs.declared.standing.Standing.TheVariants as at
use Rattle.chart_machine.specs.declared.standing.Move.{Move}
use Rattle.chart_machine.specs.declared.table.Table.{Table}
use Rattle.chart_machine.specs.Table.{state_at, region_at}
use Rattle.chart_machine.specs.Steps.{to, moved}
use Rattle.chart_machine.proofs.Outside.{within_or_past}
use Rattle.abort_expansion.specs.Superstates.{monitor_transitions}
use Rattle.tick_laws.proofs.Lists.{contains_get, contains_map, map_contains}
use Rattle.chart_machine_laws.specs.Tree.{IsTree, IsThere, around, holder}
use Rattle.chart_machine_laws.proofs.LyingIn.{none_in, head_in, tail_in, head_or_tail}
use Rattle.chart_machine_laws.proofs.ChartTables.{around_there}
use Rattle.abort_expansion_laws.specs.CoreRows.{own, IsState, IsSuper, Images, CoreRows, flags_around, WatcherImage}
use Rattle.abort_expansion_laws.proofs.TableEnds.{no_holder_past}
use Rattle.abort_expansion_laws.proofs.KnownVariables.{in_either}
use Rattle.abort_expansion_laws.proofs.Leaving.{at_number}
use Rattle.abort_expansion_laws.proofs.StartingRegions.{Once}
use Rattle.abort_expansion_laws.proofs.EnteredAlike.{BeginsAs, begins_there, begins_counting, AreEntered, watcher_enters, OpensAlike}
use Rattle.abort_expansion_laws.proofs.StateEntry.{Entry}
use Rattle.abort_expansion_laws.proofs.FreshInside.{all_entered, Fresh, Begins, Begun, begun_closed, begun_open, fresh_begins, first_standing}

-- ---- lists

pub once_mapped : (f : ℕ → ℕ) → ((a b : ℕ) → f a ≡ f b → a ≡ b) → (r : ℕ) (rs ws : List ℕ) → Once r rs → ¬ Contains ws (f r) → Once (f r) (map f rs ++ ws)
once_mapped f one r [] ws once out = absurd once
once_mapped f one r (x ∷ xs) ws once out =
    ⊎_elim
    (λ first. inl (
      ap f first.0,
      λ h.
          ⊎_elim (λ left. let u = contains_map f xs (f r) left in first.1 (subst (Contains xs) (one u.0 r u.2) u.1)) (λ right. out right)
          (in_either (map f xs) ws (f r) h),
    ))
    (λ later. inr ((λ e. later.0 (one x r e)), once_mapped f one r xs ws later.1 out)) once

pub once_last : (w : ℕ) (rs : List ℕ) → ¬ Contains rs w → Once w (rs ++ w ∷ [])
once_last w [] out = inl (refl, λ h. none_in w h)
once_last w (r ∷ rs) out =
    inr ((λ e. out (subst (Contains (r ∷ rs)) e (head_in r rs))), once_last w rs (λ h. out (tail_in r w rs h)))

pub entered_append : (k : Table) (xs ys : List ℕ) → all_entered k (xs ++ ys) ≡ all_entered k xs ++ all_entered k ys
entered_append k [] ys = refl
entered_append k (x ∷ xs) ys =
    ap (λ zs. (state_at k x).entered ++ zs) (entered_append k xs ys) ∙ sym (append_assoc (state_at k x).entered (all_entered k xs) (all_entered k ys))

-- a state that a region holds is there
pub held_there : (k : Table) (x r : ℕ) → holder k x ≡ r → IsThere k r → IsState k x
held_there k x r held there =
    ⊎_elim (λ lt. lt) (λ past. let none = no_holder_past k x past in absurd (omega (none, held, there.0, arith))) (within_or_past x (length k.states))

module _ (k core : Table) (i : Images) (rows : CoreRows k core i) (tree : IsTree k) (core_tree : IsTree core) where
  -- ---- in which states these regions and their threads begin

  pub record Pair (firsts core_firsts : List ℕ) (r : ℕ) : Type 0 where
    pub first : ℕ
    pub core_first : ℕ
    pub among : Contains firsts first
    pub core_among : Contains core_firsts core_first
    pub held : holder k first ≡ r
    pub begins : BeginsAs k core i r first core_first

  pub record Initials (rs : List ℕ) (moves core_moves : List Move) : Type 0 where
    pub firsts : List ℕ
    pub core_firsts : List ℕ
    pub chart : moves ≡ all_entered k firsts
    pub in_core : core_moves ≡ all_entered core core_firsts
    pub holders : map (holder k) firsts ≡ rs
    pub threads : map (holder core) core_firsts ≡ map i.thread_of rs
    pub pairs : (r : ℕ) → Contains rs r → Pair firsts core_firsts r

  pub held_by : (r x y : ℕ) → BeginsAs k core i r x y → holder core y ≡ i.thread_of r
  held_by r x y (begins_there place there is counted) =
      core_tree.held (i.thread_of r) y (contains_get (region_at core (i.thread_of r)).states place y there)
  held_by r x y (begins_counting place counter final counted row leads) = ap (λ z. z.holder) row

  pub initials : (rs : List ℕ) (moves core_moves : List Move) → AreEntered k core i rs moves core_moves → Initials rs moves core_moves
  initials [] ms os h =
      record {
        firsts = [];
        core_firsts = [];
        chart = h.0;
        in_core = h.1;
        holders = refl;
        threads = refl;
        pairs = λ r none. absurd (none_in r none);
      }
  initials (r ∷ rs) ms os h =
      let one = h.1.1.0 in
      let rest : Initials rs h.0 h.1.0 = initials rs h.0 h.1.0 h.1.1.1 in
      record {
        firsts = one.first ∷ rest.firsts;
        core_firsts = one.core_first ∷ rest.core_firsts;
        chart = one.chart ∙ ap (λ zs. (state_at k one.first).entered ++ zs) rest.chart;
        in_core = one.in_core ∙ ap (λ zs. (state_at core one.core_first).entered ++ zs) rest.in_core;
        holders = ap (λ z. z ∷ map (holder k) rest.firsts) one.held ∙ ap (λ zs. r ∷ zs) rest.holders;
        threads =
            ap (λ z. z ∷ map (holder core) rest.core_firsts) (held_by r one.first one.core_first one.begins) ∙
            ap (λ zs. i.thread_of r ∷ zs) rest.threads;
        pairs = λ q here.
            ⊎_elim
            (λ same. subst (Pair (one.first ∷ rest.firsts) (one.core_first ∷ rest.core_firsts)) same (record {
              first = one.first;
              core_first = one.core_first;
              among = head_in one.first rest.firsts;
              core_among = head_in one.core_first rest.core_firsts;
              held = one.held;
              begins = one.begins;
            }))
            (λ later. let p = rest.pairs q later in record {
              first = p.first;
              core_first = p.core_first;
              among = tail_in one.first p.first rest.firsts p.among;
              core_among = tail_in one.core_first p.core_first rest.core_firsts p.core_among;
              held = p.held;
              begins = p.begins;
            })
            (head_or_tail r q rs here);
      }

  -- ---- in the chart alone

  -- a state of a region of superstate s
  child_level : (s x : ℕ) → Contains (state_at k s).regions (holder k x) →
      IsState k x × (around k (holder k x) ≡ s ∷ around k (holder k s)) × (holder k x < suc (length k.regions))
  child_level s x h =
      let direct : around k (holder k x) ≡ s ∷ around k (holder k s) = tree.children s (holder k x) h in
      let there : IsThere k (holder k x) = around_there k (holder k x) s (subst (λ zs. Contains zs s) (sym direct) (head_in s (around k (holder k s)))) in
      (held_there k x (holder k x) refl there, direct, there.1)

  pub record ChartBegins (n : ℕ) (f : ℕ → Standing) (r : ℕ) : Type 0 where
    pub first : ℕ
    pub here : IsState k first
    pub held : holder k first ≡ r
    pub begins : Begins k n f first

  pub chart_begins : ((x : ℕ) → IsState k x → Entry k x) →
      ((s t : ℕ) (zs : List Standing) → IsState k s → ¬ Contains (around k t) s → at_number (moved (state_at k s).opened zs) t ≡ at_number zs t) →
      (f : ℕ → Standing) (s : ℕ) → OpensAlike k core i s → Fresh k (suc (length k.regions)) f s → (r : ℕ) → Contains (state_at k s).regions r →
      Once r (state_at k s).regions → ChartBegins (suc (length k.regions)) f r
  chart_begins entries elsewhere f s alike fresh r h once =
      let init = initials (state_at k s).regions (state_at k s).opened alike.inner alike.regions in
      let p = init.pairs r h in
      let level : (x : ℕ) → Contains init.firsts x →
      IsState k x × (around k (holder k x) ≡ s ∷ around k (holder k s)) × (holder k x < suc (length k.regions)) =
      λ x among. child_level s x (subst (λ zs. Contains zs (holder k x)) init.holders (map_contains (holder k) init.firsts x among)) in
      record {
        first = p.first;
        here = (level p.first p.among).0;
        held = p.held;
        begins =
            fresh_begins k tree entries elsewhere f s init.firsts fresh init.chart level p.first p.among
            (subst (Once (holder k p.first)) (sym init.holders) (subst (λ q. Once q (state_at k s).regions) (sym p.held) once));
      }

  module _ (entries : (x : ℕ) → IsState k x → Entry k x) (core_entries : (x : ℕ) → IsState core x → Entry core x)
      (elsewhere : (s t : ℕ) (zs : List Standing) → IsState k s → ¬ Contains (around k t) s →
      at_number (moved (state_at k s).opened zs) t ≡ at_number zs t)
      (core_elsewhere : (s t : ℕ) (zs : List Standing) → IsState core s → ¬ Contains (around core t) s →
      at_number (moved (state_at core s).opened zs) t ≡ at_number zs t)
      (f g : ℕ → Standing) (s : ℕ) (is : IsState k s) (super : IsSuper k s) (alike : OpensAlike k core i s)
      (fresh : Fresh k (suc (length k.regions)) f s) (core_fresh : Fresh core (suc (length core.regions)) g (i.main_of s)) where
    init : Initials (state_at k s).regions (state_at k s).opened alike.inner
    init = initials (state_at k s).regions (state_at k s).opened alike.inner alike.regions

    abbrev rs : List ℕ
    rs = (state_at k s).regions

    -- ---- in the chart

    chart_level : (x : ℕ) → Contains init.firsts x →
        IsState k x × (around k (holder k x) ≡ s ∷ around k (holder k s)) × (holder k x < suc (length k.regions))
    chart_level x h = child_level s x (subst (λ zs. Contains zs (holder k x)) init.holders (map_contains (holder k) init.firsts x h))

    -- ---- in the core

    abbrev watching : List ℕ
    watching = if has_aborts (own k s) then i.watching_of s ∷ [] else []

    abbrev watched_by : List ℕ
    watched_by = if has_aborts (own k s) then i.watcher_of s ∷ [] else []

    image : has_aborts (own k s) ≡ true → WatcherImage k core i s
    image has = rows.watcher s is has

    watching_entered : watcher_enters k core i s ≡ all_entered core watching
    watching_entered = by_aborts (has_aborts (own k s)) refl
      where
        by_aborts : (b : Bool) → has_aborts (own k s) ≡ b →
            (if b then to (i.watcher_of s) (at.Trying (i.watching_of s)
            (at_once (monitor_transitions (flags_around k core i (holder k s)) (i.flags_of s) (own k s)))) ∷ [] else []) ≡
            all_entered core (if b then i.watching_of s ∷ [] else [])
        by_aborts true has = sym (ap (λ z. z.entered ++ []) (image has).row)
        by_aborts false none = refl

    watching_held : map (holder core) watching ≡ watched_by
    watching_held = by_aborts (has_aborts (own k s)) refl
      where
        by_aborts : (b : Bool) → has_aborts (own k s) ≡ b →
            map (holder core) (if b then i.watching_of s ∷ [] else []) ≡ (if b then i.watcher_of s ∷ [] else [])
        by_aborts true has = ap (λ z. z.holder ∷ []) (image has).row
        by_aborts false none = refl

    abbrev core_all : List ℕ
    core_all = init.core_firsts ++ watching

    core_opens : (state_at core (i.main_of s)).opened ≡ all_entered core core_all
    core_opens =
        alike.fork ∙
        (ap (λ zs. zs ++ watcher_enters k core i s) init.in_core ∙
        (ap (λ zs. all_entered core init.core_firsts ++ zs) watching_entered ∙ sym (entered_append core init.core_firsts watching)))

    core_holders : map (holder core) core_all ≡ map i.thread_of rs ++ watched_by
    core_holders =
        map-append (holder core) init.core_firsts watching ∙
        (ap (λ zs. zs ++ map (holder core) watching) init.threads ∙ ap (λ zs. map i.thread_of rs ++ zs) watching_held)

    watcher_only : (t : ℕ) → Contains watched_by t → (has_aborts (own k s) ≡ true) × (t ≡ i.watcher_of s)
    watcher_only t h = by_aborts (has_aborts (own k s)) refl h
      where
        by_aborts : (b : Bool) → has_aborts (own k s) ≡ b → Contains (if b then i.watcher_of s ∷ [] else []) t →
            (has_aborts (own k s) ≡ true) × (t ≡ i.watcher_of s)
        by_aborts true has h = (has, ⊎_elim (λ same. sym same) (λ none. absurd (none_in t none)) (head_or_tail (i.watcher_of s) t [] h))
        by_aborts false none h = absurd (none_in t h)

    level_of : (t : ℕ) → Contains (map i.thread_of rs ++ watched_by) t →
        around core t ≡ i.main_of s ∷ around core (holder core (i.main_of s))
    level_of t h =
        ⊎_elim
        (λ first.
        let r = contains_map i.thread_of rs t first in
        subst (λ z. around core z ≡ i.main_of s ∷ around core (holder core (i.main_of s))) r.2
        (rows.encloses r.0 ∙
        (ap (map i.main_of) (tree.children s r.0 r.1) ∙
        ap (λ zs. i.main_of s ∷ zs) (sym (ap (around core) (rows.held s) ∙ rows.encloses (holder k s))))))
        (λ last.
        let w = watcher_only t last in
        ap (around core) w.1 ∙ ((image w.0).encloses ∙ ap (λ z. i.main_of s ∷ around core z) (sym (rows.held s))))
        (in_either (map i.thread_of rs) watched_by t h)

    core_level : (y : ℕ) → Contains core_all y →
        IsState core y × (around core (holder core y) ≡ i.main_of s ∷ around core (holder core (i.main_of s)))
        × (holder core y < suc (length core.regions))
    core_level y h =
        let direct = level_of (holder core y) (subst (λ zs. Contains zs (holder core y)) core_holders (map_contains (holder core) core_all y h)) in
        let there : IsThere core (holder core y) = around_there core (holder core y) (i.main_of s)
        (subst (λ zs. Contains zs (i.main_of s)) (sym direct) (head_in (i.main_of s) (around core (holder core (i.main_of s))))) in
        (held_there core y (holder core y) refl there, direct, there.1)

    core_begins : (y : ℕ) → Contains core_all y → Once (holder core y) (map i.thread_of rs ++ watched_by) →
        Begins core (suc (length core.regions)) g y
    core_begins y h once =
        fresh_begins core core_tree core_entries core_elsewhere g (i.main_of s) core_all core_fresh core_opens core_level y h
        (subst (Once (holder core y)) (sym core_holders) once)

    -- ---- a region and its thread

    pub record BothBegin (r : ℕ) : Type 0 where
      pub first : ℕ
      pub core_first : ℕ
      pub here : IsState k first
      pub held : holder k first ≡ r
      pub begins : BeginsAs k core i r first core_first
      pub chart : Begins k (suc (length k.regions)) f first
      pub in_core : Begins core (suc (length core.regions)) g core_first

    pub both_begin : (r : ℕ) → Contains (state_at k s).regions r → Once r (state_at k s).regions → BothBegin r
    both_begin r h once =
        let p = init.pairs r h in
        let thread : holder core p.core_first ≡ i.thread_of r = held_by r p.first p.core_first p.begins in
        record {
          first = p.first;
          core_first = p.core_first;
          here = (chart_level p.first p.among).0;
          held = p.held;
          begins = p.begins;
          chart =
              fresh_begins k tree entries elsewhere f s init.firsts fresh init.chart chart_level p.first p.among
              (subst (Once (holder k p.first)) (sym init.holders) (subst (λ q. Once q rs) (sym p.held) once));
          in_core =
              core_begins p.core_first (Contains-append_left init.core_firsts watching p.core_first p.core_among)
              (subst (λ t. Once t (map i.thread_of rs ++ watched_by)) (sym thread)
              (once_mapped i.thread_of rows.region_once r rs watched_by once
              (λ inner. let w = watcher_only (i.thread_of r) inner in (image w.0).no_thread r w.1)));
        }

    -- ---- the monitor

    pub watcher_stands : has_aborts (own k s) ≡ true →
        g (i.watcher_of s) ≡ at.Trying (i.watching_of s) (at_once (monitor_transitions (flags_around k core i (holder k s)) (i.flags_of s) (own k s)))
    watcher_stands has =
        by_begun
        (core_begins (i.watching_of s)
        (Contains-append_right init.core_firsts watching (i.watching_of s)
        (subst (λ b. Contains (if b then i.watching_of s ∷ [] else []) (i.watching_of s)) (sym has) (head_in (i.watching_of s) [])))
        (subst (λ t. Once t (map i.thread_of rs ++ watched_by)) (sym held)
        (subst (λ b. Once (i.watcher_of s) (map i.thread_of rs ++ (if b then i.watcher_of s ∷ [] else []))) (sym has)
        (once_last (i.watcher_of s) (map i.thread_of rs)
        (λ inner. let r = contains_map i.thread_of rs (i.watcher_of s) inner in (image has).no_thread r.0 r.2))))).begun
      where
        held : holder core (i.watching_of s) ≡ i.watcher_of s
        held = ap (λ z. z.holder) (image has).row

        entered : (state_at core (i.watching_of s)).entered ≡
            to (i.watcher_of s) (at.Trying (i.watching_of s)
            (at_once (monitor_transitions (flags_around k core i (holder k s)) (i.flags_of s) (own k s)))) ∷ []
        entered = ap (λ z. z.entered) (image has).row

        never_within : (u : ℕ) (tests : List Transition) (v : ℕ) (others : List Transition) → at.Within u tests ≡ at.Trying v others → ⊥
        never_within u tests v others e = absurd cc

        by_begun : Begun core (suc (length core.regions)) g (i.watching_of s) →
            g (i.watcher_of s) ≡ at.Trying (i.watching_of s) (at_once (monitor_transitions (flags_around k core i (holder k s)) (i.flags_of s) (own k s)))
        by_begun (begun_closed y never e here inside) = ap g (sym held) ∙ (here ∙ ap first_standing (sym e ∙ entered))
        by_begun (begun_open tests e here inside) = absurd (never_within (i.watching_of s) tests _ _ (ap first_standing (sym e ∙ entered)))
