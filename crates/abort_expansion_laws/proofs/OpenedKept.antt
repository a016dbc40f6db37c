-- Where a fork is opened, whoever is not in it stands as before: what was to be opened, started or joined is so still.
use Rattle.std.proofs.Common.{◌≡◌, ◌≢◌, ℕ, ◌<◌, Bool, true, false, Option, None, List, []}
use Rattle.std.proofs.Common.{◌∷◌, length, slice_set, Contains, sym, ap, subst, ◌∙◌, arith, ◌≤◌, pos, ◌++◌, refl}
use Rattle.std.proofs.lemmas.List.{length-set}
use Rattle.sc_values.specs.Access.{Access}
use Rattle.core_charts.specs.declared.region.Transition.{Transition}
use Rattle.chart_machine.specs.declared.standing.Standing.{Standing}
use Rattle.chart_machine.specs.declared.standing.Standing.TheVariants as at
use Rattle.chart_machine.specs.declared.standing.Configuration.{Configuration}
use Rattle.chart_machine.specs.declared.table.Table.{Table}
use Rattle.chart_machine.specs.Table.{state_at}
use Rattle.chart_machine.specs.Turns.{standing_of, is_guarded}
use Rattle.chart_machine.specs.Steps.{moved}
use Rattle.abort_expansion.specs.Transitions.{go}
use Rattle.abort_expansion.specs.Superstates.{resets}
use Rattle.chart_lowering_laws.proofs.Entering.{moved_length}
use Rattle.abort_expansion_laws.specs.Stages.{Entry, Silent}
use Rattle.abort_expansion_laws.specs.CoreRows.{Images, CoreRows, SplitImage, joins}
use Rattle.abort_expansion_laws.specs.Related.{is_behind}
use Rattle.chart_machine_laws.proofs.LyingIn.{IsNested, around, holder}
use Rattle.abort_expansion_laws.proofs.TablesCorrespond.{IsThere}
use Rattle.abort_expansion_laws.proofs.Leaving.{at_number, set_here, set_other}
use Rattle.abort_expansion_laws.proofs.Pending.{Sound, IsOpening, IsStarting, IsJoining, opening_kept, starting_kept, joining_kept}
use Rattle.abort_expansion_laws.proofs.Pending.{IsEmpty, Pending}
use Rattle.abort_expansion_laws.proofs.Pending.{behind_unprepared}
use Rattle.abort_expansion_laws.proofs.OpensFork.{OpeningRows, forked, forks, image}
use Rattle.abort_expansion_laws.proofs.OpenedRows.{Opens, ForkRows}
use Rattle.sc_values.specs.declared.value.Value.{Value}
use Rattle.sc_values.specs.declared.value.Value.TheVariants as value_is
use Rattle.abort_expansion_laws.proofs.Resets.{Every, set_all}
use Rattle.abort_expansion_laws.proofs.StartingRegions.{set_behind}
use Rattle.abort_expansion_laws.proofs.ThreadsAround.{thread_within, region_within}

pub set_all_behind : (xs : List (ℕ × ℕ)) (vs more : List Value) → Every (λ (x : ℕ × ℕ). length vs ≤ x.0) xs →
    (zs : List Value) × (set_all xs (vs ++ more) ≡ vs ++ zs)
set_all_behind [] vs more high = (more, refl)
set_all_behind (x ∷ xs) vs more high =
    let one = set_behind vs more x.0 (value_is.Int (pos x.1)) high.0 in
    let rest = set_all_behind xs vs one.0 high.1 in
    (rest.0, ap (set_all xs) one.1 ∙ rest.1)

module _ (k core : Table) (i : Images) (rows : CoreRows k core i) (tree : IsNested k) (counts : ℕ → Bool) (written_at : ℕ → ℕ)
    (Told : Configuration → Entry → Type 0) (told : (d : Configuration) (t : ℕ) (stage : Option (ℕ × ℕ)) (a : Access) → Told d (Silent t stage a))
    (deeper : (q s : ℕ) → Contains (around k q) s → holder k s < q) (more : OpeningRows k core i rows) (fork_rows : ForkRows k core i) (c : Configuration)
    (sound : Sound k core i c) (r : ℕ) (d : Configuration) (p : Pending k core i c r d) (there : IsThere k r) (s : ℕ) (held : holder k s ≡ r)
    (o : IsOpening k core i c d s) where
  abbrev h : ℕ
  h = i.thread_of (holder k s)

  abbrev fork : SplitImage k core i s
  fork = image k core i rows tree counts written_at Told told more c r d p there s held o

  abbrev W : Standing
  W = at.Within (i.main_of s) (joins fork.join ∷ [])

  abbrev z : Configuration
  z = forked k core i rows tree counts written_at Told told more c r d p there s held o

  abbrev d1 : Configuration
  d1 = record { variables = d.variables; regions = slice_set d.regions h W }

  in_chart : standing_of c r ≡ at.Within s o.tests
  in_chart = ap (standing_of c) (sym held) ∙ o.open_in_chart

  empty : IsEmpty k core i c d s
  empty = (p.ready s o).1.0

  free : is_guarded k c (around k (holder k s)) ≡ false
  free = (p.ready s o).1.1

  holder_there : IsThere k (holder k s)
  holder_there = subst (IsThere k) (sym held) there

  -- a region's thread is in the fork of a superstate that is around the region
  pub region_in : (u q : ℕ) → Contains (around core (i.thread_of q)) (i.main_of u) → Contains (around k q) u
  region_in u q inner =
      region_within k core i rows q u inner

  pub in_thread : (u q : ℕ) → Contains (around k q) u → Contains (around core (i.thread_of q)) (i.main_of u)
  in_thread u q inner = thread_within k core i rows q u inner

  not_in_itself : ¬ Contains (around k (holder k s)) s
  not_in_itself inner = let up = deeper (holder k s) s inner in omega (up, arith)

  h_out : ¬ Contains (around core h) (i.main_of s)
  h_out inner = not_in_itself (region_in s (holder k s) inner)

  h_there : h < length d.regions
  h_there = let lt = (rows.region (holder k s) holder_there).there.1 in let size = p.core_regions in omega (lt, size, arith)

  regions_are : z.regions ≡ moved (state_at core (i.main_of s)).opened d1.regions
  regions_are = ap (λ ms. moved ms d.regions) (forks k core i rows tree counts written_at Told told more c r d p there s held o)

  at_z : (t : ℕ) → standing_of z t ≡ at_number (moved (state_at core (i.main_of s)).opened d1.regions) t
  at_z t = ap (λ zs. at_number zs t) regions_are

  pub here : standing_of z h ≡ W
  here = at_z h ∙ (fork_rows.opens_inside s h d1.regions o.there o.super h_out ∙ set_here d.regions h W h_there)

  pub same : (t : ℕ) → t ≢ h → ¬ Contains (around core t) (i.main_of s) → standing_of z t ≡ standing_of d t
  same t ne out = at_z t ∙ (fork_rows.opens_inside s t d1.regions o.there o.super out ∙ set_other d.regions h t W ne)

  pub size : length z.regions ≡ length d.regions
  size = ap length regions_are ∙ (moved_length (state_at core (i.main_of s)).opened d1.regions ∙ length-set d.regions h W)

  in_fork_ne : (t : ℕ) → Contains (around core t) (i.main_of s) → t ≢ h
  in_fork_ne t inner e = h_out (subst (λ v. Contains (around core v) (i.main_of s)) e inner)

  pub opens_it : Opens k core i c d1 z s
  opens_it =
      record {
        tests = o.tests;
        there = o.there;
        chart_size = sound.chart_regions;
        core_size = length-set d.regions h W ∙ p.core_regions;
        same_size = size ∙ sym (length-set d.regions h W);
        open_in_chart = o.open_in_chart;
        untested = o.untested;
        free = free;
        fresh = (p.ready s o).0;
        empty = λ t inner. set_other d.regions h t W (in_fork_ne t inner) ∙ empty t inner;
        forked = λ t inner. at_z t;
        in_fork = λ apart. (fork.join, fork.joined, here);
      }

  -- ---- who is not in the fork stands as before
  -- whoever stands somewhere is not in the fork
  not_in_fork : (t : ℕ) → standing_of d t ≢ at.Outside → ¬ Contains (around core t) (i.main_of s)
  not_in_fork t present inner = present (empty t inner)

  pub keeps : (t : ℕ) (w : Standing) → t ≢ h → standing_of d t ≡ w → w ≢ at.Outside → standing_of z t ≡ w
  keeps t w ne is present = same t ne (not_in_fork t (λ e. present (sym is ∙ e))) ∙ is

  pub thread_same : (q : ℕ) → q ≢ r → ¬ Contains (around k q) s → standing_of z (i.thread_of q) ≡ standing_of d (i.thread_of q)
  thread_same q ne out = same (i.thread_of q) (λ e. ne (rows.region_once q (holder k s) e ∙ held)) (λ inner. out (region_in s q inner))

  same_super : (u : ℕ) (tests : List Transition) → standing_of c (holder k u) ≡ at.Within u tests → i.thread_of (holder k u) ≡ h → u ≡ s
  same_super u tests is e =
      let both : at.Within u tests ≡ at.Within s o.tests = sym is ∙ (ap (standing_of c) (rows.region_once (holder k u) (holder k s) e) ∙ o.open_in_chart) in cc

  pub opening_z : (u : ℕ) → u ≢ s → IsOpening k core i c d u → IsOpening k core i c z u
  opening_z u ne a =
      opening_kept k core i c d z u a
      (keeps (i.thread_of (holder k u)) _ (λ e. ne (same_super u a.tests a.open_in_chart e)) a.preparing (λ e. absurd cc))

  pub opening_not_here : (u : ℕ) → IsOpening k core i c z u → i.thread_of (holder k u) ≢ h
  opening_not_here u a e =
      let wrong : at.Trying (i.entry_of u) (go true None (resets (i.flags_of u) (length (state_at k u).regions)) a.fork ∷ []) ≡ W = sym a.preparing ∙
      (ap (standing_of z) e ∙ here) in
      absurd cc

  pub opening_back : (u : ℕ) → ¬ Contains (around k (holder k u)) s → IsOpening k core i c z u → IsOpening k core i c d u
  opening_back u out a =
      opening_kept k core i c z d u a
      (sym (same (i.thread_of (holder k u)) (opening_not_here u a) (λ inner. out (region_in s (holder k u) inner))) ∙ a.preparing)

  pub starting_z : (q u : ℕ) → q ≢ r → IsStarting k core i c d q u → IsStarting k core i c z q u
  starting_z q u ne a =
      starting_kept k core i c d z q u a
      (keeps (i.thread_of q) _ (λ e. ne (rows.region_once q (holder k s) e ∙ held)) a.counting (λ e. absurd cc))

  starting_not_r : (q u : ℕ) → standing_of c q ≡ at.Ended → q ≢ r
  starting_not_r q u over e = let wrong : at.Within s o.tests ≡ at.Ended = sym in_chart ∙ (ap (standing_of c) (sym e) ∙ over) in absurd cc

  pub starting_back : (q u : ℕ) → ¬ Contains (around k q) s → IsStarting k core i c z q u → IsStarting k core i c d q u
  starting_back q u out a =
      starting_kept k core i c z d q u a
      (sym (thread_same q (starting_not_r q u a.over_in_chart) out) ∙ a.counting)

  -- the superstate itself is prepared, and so is never joined
  pub not_joining : (u : ℕ) → is_behind k core i c u ≡ true → u ≢ s
  not_joining u over e =
      let none = behind_unprepared k core i c s (subst (λ v. is_behind k core i c v ≡ true) e over) in
      let wrong : true ≡ false = sym o.prepared ∙ none in absurd cc

  pub joining_z : (u : ℕ) → IsJoining k core i c d u → IsJoining k core i c z u
  joining_z u a =
      joining_kept k core i c d z u a
      (keeps (i.thread_of (holder k u)) _ (λ e. not_joining u a.over (same_super u a.tests a.open_in_chart e)) a.forked (λ e. absurd cc))

  pub joining_back : (u : ℕ) → ¬ Contains (around k (holder k u)) s → IsJoining k core i c z u → IsJoining k core i c d u
  joining_back u out a =
      joining_kept k core i c z d u a
      (sym (same (i.thread_of (holder k u)) (λ e. not_joining u a.over (same_super u a.tests a.open_in_chart e))
      (λ inner. out (region_in s (holder k u) inner))) ∙ a.forked)
