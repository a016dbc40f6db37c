-- The first tick enters the regions of a chart: what of it waits in the core, and what holds of the chart alone.
use Rattle.std.proofs.Common.{◌≡◌, ◌≢◌, ℕ, zero, suc, ◌<◌, ◌⊎◌, inl, inr, ⊎_elim, true, List, [], ◌∷◌, map, length}
use Rattle.std.proofs.Common.{Contains, refl, sym, ap, subst, ◌∙◌, arith}
use Rattle.std.specs.List.{list_all}
use Rattle.std.proofs.lemmas.List.{length-map, append-nil}
use Rattle.sc_values.specs.Operator.{initial_value}
use Rattle.sc_graph.specs.Tick.{Inputs}
use Rattle.chart_machine.specs.declared.standing.Standing.{Standing}
use Rattle.chart_machine.specs.declared.standing.Standing.TheVariants as at
use Rattle.chart_machine.specs.declared.standing.Configuration.{Configuration}
use Rattle.chart_machine.specs.declared.table.RegionRow.{RegionRow}
use Rattle.chart_machine.specs.declared.table.Table.{Table}
use Rattle.chart_machine.specs.Turns.{standing_of, is_guarded, LiesIn, itself, deeper}
use Rattle.chart_machine.specs.Steps.{moved}
use Rattle.chart_machine.specs.Machine.{initial, start, is_outside, regions_at_start}
use Rattle.tick_laws.proofs.Lists.{contained, contains_map, map_contains}
use Rattle.chart_machine_laws.specs.Tree.{IsThere, around, holder}
use Rattle.chart_machine_laws.proofs.LyingIn.{none_in, head_in, head_or_tail}
use Rattle.chart_lowering_laws.proofs.Entering.{moved_length}
use Rattle.abort_expansion_laws.specs.CoreRows.{IsState, Images}
use Rattle.abort_expansion_laws.specs.Related.{IsInside, open_inside}
use Rattle.abort_expansion_laws.proofs.Leaving.{at_number}
use Rattle.abort_expansion_laws.proofs.StartingRegions.{Once}
use Rattle.abort_expansion_laws.proofs.WokenConfigurations.{started_size}
use Rattle.abort_expansion_laws.proofs.EnteredAlike.{AreEntered}
use Rattle.abort_expansion_laws.proofs.FreshInside.{Begins, all_entered, all_apart, in_one, look, begins_alike, nobody, nobody_there, nobody_size}
use Rattle.abort_expansion_laws.proofs.InitialPairs.{Initials, initials, held_by, held_there, once_mapped}
use Rattle.abort_expansion_laws.proofs.BeginningSorts.{Sort, sort_of, begins_so}
use Rattle.abort_expansion_laws.proofs.JustEntered.{EntryRows, Live, Reach, live, nowhere, reach}
use Rattle.abort_expansion_laws.proofs.ChartEntered.{Stood, stood_of, WasEntered, ChartReach, was_entered, none_there, chart_reach, stood_present}
use Rattle.abort_expansion_laws.proofs.NumberedRegions.{is_region}
use Rattle.abort_expansion_laws.proofs.AreaReached.{Above}

-- ---- where nobody was, the regions of the chart are entered

none_outside : (rs : List RegionRow) → list_all is_outside (map (λ r. at.Outside) rs) ≡ true
none_outside [] = refl
none_outside (r ∷ rs) = none_outside rs

pub first_regions : (k : Table) (inputs : Inputs) → (start k inputs (initial k)).regions ≡ moved k.opened (nobody k)
first_regions k inputs = ap (λ b. regions_at_start k b (nobody k)) (none_outside k.regions)

-- ---- of one table

module _ (k : Table) (inputs : Inputs) where
  abbrev c : Configuration
  c = start k inputs (initial k)

  pub first_size : length c.regions ≡ suc (length k.regions)
  first_size = ap length (first_regions k inputs) ∙ (moved_length k.opened (nobody k) ∙ nobody_size k)

  pub values_size : length c.variables ≡ length k.variables
  values_size = started_size inputs k.variables (initial k).variables (length-map k.variables (λ x. initial_value x.kind))

  pub first_at : (q : ℕ) → standing_of c q ≡ at_number (moved k.opened (nobody k)) q
  first_at q = ap (λ zs. at_number zs q) (first_regions k inputs)

module _ (k core : Table) (i : Images) (more : EntryRows k core i)
    (holds_there : (s : ℕ) → IsState k s → IsThere k (holder k s))
    (tops : List ℕ) (top_there : (r : ℕ) → Contains tops r → IsThere k r × (around k r ≡ [])) (once_top : (r : ℕ) → Contains tops r → Once r tops)
    (alike_top : AreEntered k core i tops k.opened core.opened) (inputs : Inputs) where
  abbrev at_first : Configuration
  at_first = start k inputs (initial k)

  abbrev core_at_first : Configuration
  core_at_first = start core inputs (initial core)

  abbrev f : ℕ → Standing
  f = standing_of at_first

  abbrev g : ℕ → Standing
  g = standing_of core_at_first

  abbrev n : ℕ
  n = suc (length k.regions)

  abbrev m : ℕ
  m = suc (length core.regions)

  init : Initials k core i more.rows more.tree more.core_tree tops k.opened core.opened
  init = initials k core i more.rows more.tree more.core_tree tops k.opened core.opened alike_top

  -- ---- the states in which the regions of the chart begin

  top_of : (x : ℕ) → Contains init.firsts x → Contains tops (holder k x)
  top_of x h = subst (λ zs. Contains zs (holder k x)) init.holders (map_contains (holder k) init.firsts x h)

  level : (x : ℕ) → Contains init.firsts x → IsState k x × (around k (holder k x) ≡ []) × (holder k x < length (nobody k))
  level x h =
      let its = top_there (holder k x) (top_of x h) in
      (held_there k x (holder k x) refl its.0, its.1, subst (λ z. holder k x < z) (sym (nobody_size k)) its.0.1)

  core_top : (y : ℕ) → Contains init.core_firsts y → (r : ℕ) × Contains tops r × (i.thread_of r ≡ holder core y)
  core_top y h =
      contains_map i.thread_of tops (holder core y) (subst (λ zs. Contains zs (holder core y)) init.threads (map_contains (holder core) init.core_firsts y h))

  bare : (r : ℕ) → Contains tops r → around core (i.thread_of r) ≡ []
  bare r h = more.rows.encloses r ∙ ap (map i.main_of) (top_there r h).1

  core_level : (y : ℕ) → Contains init.core_firsts y → IsState core y × (around core (holder core y) ≡ []) × (holder core y < length (nobody core))
  core_level y h =
      let r = core_top y h in
      let there : IsThere core (holder core y) = subst (IsThere core) r.2 (more.rows.region r.0 (top_there r.0 r.1).0).there in (
        held_there core y (holder core y) refl there,
        ap (around core) (sym r.2) ∙ bare r.0 r.1,
        subst (λ z. holder core y < z) (sym (nobody_size core)) there.1,
      )

  chart_moves : (q : ℕ) → standing_of at_first q ≡ at_number (moved (all_entered k init.firsts) (nobody k)) q
  chart_moves q = first_at k inputs q ∙ ap (λ ms. at_number (moved ms (nobody k)) q) init.chart

  core_moves : (t : ℕ) → standing_of core_at_first t ≡ at_number (moved (all_entered core init.core_firsts) (nobody core)) t
  core_moves t = first_at core inputs t ∙ ap (λ ms. at_number (moved ms (nobody core)) t) init.in_core

  first_begins : (r : ℕ) (h : Contains tops r) → Begins k n f (init.pairs r h).first
  first_begins r h =
      let p = init.pairs r h in
      begins_alike k n (λ q. at_number (moved (all_entered k init.firsts) (nobody k)) q) f p.first (λ q lies. chart_moves q)
      (subst (λ z. Begins k z (λ q. at_number (moved (all_entered k init.firsts) (nobody k)) q) p.first) (nobody_size k)
      (look k more.tree more.entries more.elsewhere [] init.firsts (nobody k) level p.first p.among
      (subst (Once (holder k p.first)) (sym init.holders) (subst (λ q. Once q tops) (sym p.held) (once_top r h)))
      (λ q lies. nobody_there k q)))

  core_begins : (r : ℕ) (h : Contains tops r) → Begins core m g (init.pairs r h).core_first
  core_begins r h =
      let p = init.pairs r h in
      let thread : holder core p.core_first ≡ i.thread_of r = held_by k core i more.rows more.tree more.core_tree r p.first p.core_first p.begins in
      begins_alike core m (λ t. at_number (moved (all_entered core init.core_firsts) (nobody core)) t) g p.core_first (λ t lies. core_moves t)
      (subst (λ z. Begins core z (λ t. at_number (moved (all_entered core init.core_firsts) (nobody core)) t) p.core_first) (nobody_size core)
      (look core more.core_tree more.core_entries more.core_elsewhere [] init.core_firsts (nobody core) core_level p.core_first p.core_among
      (subst (Once (holder core p.core_first)) (sym init.threads)
      (subst (λ t. Once t (map i.thread_of tops)) (sym thread)
      (subst (Once (i.thread_of r)) (append-nil (map i.thread_of tops))
      (once_mapped i.thread_of more.rows.region_once r tops [] (once_top r h) (λ none. none_in (i.thread_of r) none)))))
      (λ t lies. nobody_there core t)))

  -- whoever lies in no region of the chart is nowhere
  chart_apart : (q : ℕ) → around k q ≡ [] → ¬ Contains tops q → (p : ℕ) → LiesIn k p q → standing_of at_first p ≡ at.Outside
  chart_apart q round out p lies =
      chart_moves p ∙
      (all_apart k more.tree more.entries more.elsewhere init.firsts p (nobody k) (λ x h. (level x h).0)
      (λ x h lies_x.
      out (subst (Contains tops)
      (in_one k more.tree more.entries more.elsewhere p (holder k x) q ((level x h).1 ∙ sym round) lies_x lies) (top_of x h))) ∙
      nobody_there k p)

  core_apart : (q : ℕ) → around k q ≡ [] → ¬ Contains tops q → (t : ℕ) → LiesIn core t (i.thread_of q) → standing_of core_at_first t ≡ at.Outside
  core_apart q round out t lies =
      core_moves t ∙
      (all_apart core more.core_tree more.core_entries more.core_elsewhere init.core_firsts t (nobody core) (λ y h. (core_level y h).0)
      (λ y h lies_y.
      let r = core_top y h in
      let thread_bare : around core (i.thread_of q) ≡ [] = more.rows.encloses q ∙ ap (map i.main_of) round in
      let same : holder core y ≡ i.thread_of q = in_one core more.core_tree more.core_entries more.core_elsewhere t (holder core y) (i.thread_of q)
      ((core_level y h).1 ∙ sym thread_bare) lies_y lies in
      out (subst (Contains tops) (more.rows.region_once r.0 q (r.2 ∙ same)) r.1)) ∙
      nobody_there core t)

  -- ---- each region

  abbrev Anywhere : ℕ → Type 0
  Anywhere q = Unit {0}

  never_deeper : (q u : ℕ) (us : List ℕ) → around k q ≡ [] → around k q ≡ u ∷ us → ⊥
  never_deeper q u us none some = let wrong : [] ≡ u ∷ us = sym none ∙ some in absurd cc

  top_stands : (q : ℕ) → IsThere k q → around k q ≡ [] → Contains tops q → WasEntered k core i more f q
  top_stands q there round h =
      let p = init.pairs q h in
      record {
        stood = subst (Stood k core i more f) p.held (stood_of k core i more f p.first (level p.first p.among).0 (first_begins q h));
        parent = λ u us e. absurd (never_deeper q u us round e);
      }

  top_lives : (q : ℕ) → IsThere k q → around k q ≡ [] → Contains tops q → Live k core i more at_first core_at_first q
  top_lives q there round h =
      let p = init.pairs q h in
      let begins = subst (λ z. Rattle.abort_expansion_laws.proofs.EnteredAlike.BeginsAs k core i z p.first p.core_first) (sym p.held) p.begins in
      record {
        sort = subst (Sort k core i more.rows n m f g) p.held
            (sort_of k core i more.rows n m f g p.first p.core_first (level p.first p.among).0
            (held_by k core i more.rows more.tree more.core_tree (holder k p.first) p.first p.core_first begins)
            (begins_so k core i (holder k p.first) p.first p.core_first begins) (first_begins q h)
            (core_begins q h) (more.entries p.first (level p.first p.among).0));
        free = ap (is_guarded k at_first) round;
        parent = λ u us e. absurd (never_deeper q u us round e);
      }

  pub first_present : (r : ℕ) → Contains tops r → standing_of at_first r ≢ at.Outside
  first_present r h =
      let its = top_there r h in stood_present k core i more f r (top_stands r its.0 its.1 h).stood

  pub chart_reached : (q : ℕ) → IsThere k q → ChartReach k core i more f q
  chart_reached q there = chart_reach k core i more f Anywhere begins q there tt
    where
      begins : (q : ℕ) → IsThere k q → Anywhere q → ChartReach k core i more f q ⊎ Above k Anywhere q
      begins q there inner = by_round (around k q) refl
        where
          by_round : (zs : List ℕ) → around k q ≡ zs → ChartReach k core i more f q ⊎ Above k Anywhere q
          by_round [] round =
              ⊎_elim (λ h. inl (was_entered (top_stands q there round h))) (λ out. inl (none_there (chart_apart q round out))) (contained tops q)
          by_round (v ∷ vs) round =
              let its = more.super_around q v (subst (λ zs. Contains zs v) (sym round) (head_in v vs)) in
              inr (record { next = v; rest = vs; round = round; there = holds_there v its.0; inner = tt })

  pub reached : (q : ℕ) → IsThere k q → Reach k core i more at_first core_at_first q
  reached q there = reach k core i more at_first core_at_first Anywhere begins q there tt
    where
      begins : (q : ℕ) → IsThere k q → Anywhere q →
          Reach k core i more at_first core_at_first q ⊎ Above k Anywhere q
      begins q there inner = by_round (around k q) refl
        where
          by_round : (zs : List ℕ) → around k q ≡ zs →
              Reach k core i more at_first core_at_first q ⊎ Above k Anywhere q
          by_round [] round =
              ⊎_elim (λ h. inl (live (top_lives q there round h))) (λ out. inl (nowhere (chart_apart q round out) (core_apart q round out)))
              (contained tops q)
          by_round (v ∷ vs) round =
              let its = more.super_around q v (subst (λ zs. Contains zs v) (sym round) (head_in v vs)) in
              inr (record { next = v; rest = vs; round = round; there = holds_there v its.0; inner = tt })

  -- ---- of the chart alone

  pub no_region : standing_of at_first 0 ≡ at.Outside
  no_region =
      chart_moves 0 ∙
      (all_apart k more.tree more.entries more.elsewhere init.firsts 0 (nobody k) (λ x h. (level x h).0)
      (λ x h lies. not_zero (holder k x) (top_there (holder k x) (top_of x h)).0.0 lies) ∙ nobody_there k 0)
    where
      not_zero : (r : ℕ) → 0 < r → LiesIn k 0 r → ⊥
      not_zero r low (itself e) = absurd (omega (low, e, arith))
      not_zero r low (deeper u inner held) = none_in u inner

  pub no_thread : standing_of core_at_first 0 ≡ at.Outside
  no_thread =
      core_moves 0 ∙
      (all_apart core more.core_tree more.core_entries more.core_elsewhere init.core_firsts 0 (nobody core) (λ y h. (core_level y h).0)
      (λ y h lies. let r = core_top y h in not_zero (holder core y) (subst (λ z. 0 < z) r.2 (more.rows.region r.0 (top_there r.0 r.1).0).there.0) lies) ∙
      nobody_there core 0)
    where
      not_zero : (t : ℕ) → 0 < t → LiesIn core 0 t → ⊥
      not_zero t low (itself e) = absurd (omega (low, e, arith))
      not_zero t low (deeper u inner held) = none_in u inner

  pub present_there : (r : ℕ) → standing_of at_first r ≢ at.Outside → IsThere k r
  present_there = is_region k at_first no_region (first_size k inputs)

  -- who is there is inside of all that is around it
  -- from a region whose superstates around are entered to one of them
  abbrev Outwards : ℕ → ℕ → Type 0
  Outwards r s =
      (u : ℕ) → Contains (around k r) u → standing_of at_first (holder k u) ≢ at.Outside → Contains (around k (holder k u)) s →
      IsInside k core i s (standing_of at_first (holder k s))

  enclosed_below : (bound r s : ℕ) → r < bound → IsThere k r → standing_of at_first r ≢ at.Outside → Contains (around k r) s →
      IsInside k core i s (standing_of at_first (holder k s))
  enclosed_below zero r s lt there present inner = absurd (omega (lt, arith))
  enclosed_below (suc bound) r s lt there present inner =
      by_reach (chart_reached r there)
      (λ u in_u there_now tail.
      let up = more.tree.deeper r u in_u in
      enclosed_below bound (holder k u) s (omega (up, lt, arith)) (holds_there u (more.super_around r u in_u).0) there_now tail)
    where
      by_round : Outwards r s → (zs : List ℕ) → around k r ≡ zs → WasEntered k core i more f r → IsInside k core i s (standing_of at_first (holder k s))
      by_round outwards [] round l = absurd (none_in s (subst (λ zs. Contains zs s) round inner))
      by_round outwards (u ∷ us) round l =
          let opened = l.parent u us round in
          ⊎_elim
          (λ same.
          subst (λ z. IsInside k core i z (standing_of at_first (holder k z))) same (subst (IsInside k core i u) (sym opened.1) (open_inside opened.0)))
          (λ tail.
          outwards u (subst (λ zs. Contains zs u) (sym round) (head_in u us))
          (λ out. let wrong : at.Within u opened.0 ≡ at.Outside = sym opened.1 ∙ out in absurd cc)
          (subst (λ zs. Contains zs s) (more.tree.nested.upward r u us round) tail))
          (head_or_tail u s us (subst (λ zs. Contains zs s) round inner))

      by_reach : ChartReach k core i more f r → Outwards r s → IsInside k core i s (standing_of at_first (holder k s))
      by_reach (none_there none) outwards = absurd (present (none r (itself refl)))
      by_reach (was_entered l) outwards = by_round outwards (around k r) refl l

  pub all_enclosed : (r s : ℕ) → IsThere k r → standing_of at_first r ≢ at.Outside → Contains (around k r) s →
      IsInside k core i s (standing_of at_first (holder k s))
  all_enclosed r s there present inner = enclosed_below (suc r) r s (omega arith) there present inner
