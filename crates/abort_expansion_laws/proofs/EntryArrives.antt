-- The last strong abort of a superstate on entry is not taken: the superstate is opened, and its thread comes to the resets of the
-- preparation.
use Rattle.std.proofs.Common.{◌≡◌, ◌≢◌, ℕ, suc, ◌≤◌, true, false, None, [], ◌∷◌, length, slice_set, Contains, refl, sym, ap, subst, ◌∙◌, arith}
use Rattle.std.proofs.lemmas.List.{length-set}
use Rattle.core_charts.specs.declared.region.Transition.{Transition}
use Rattle.core_charts.specs.Tests.{first_closing_tests}
use Rattle.chart_machine.specs.declared.standing.Standing.{Standing}
use Rattle.chart_machine.specs.declared.standing.Standing.TheVariants as at
use Rattle.chart_machine.specs.declared.standing.Configuration.{Configuration}
use Rattle.chart_machine.specs.declared.table.Table.{Table}
use Rattle.chart_machine.specs.Table.{state_at}
use Rattle.chart_machine.specs.Turns.{standing_of, has_ended, has_work, is_guarded, LiesIn, itself, deeper}
use Rattle.chart_machine.specs.Steps.{to, moved}
use Rattle.abort_expansion.specs.Transitions.{go}
use Rattle.abort_expansion.specs.Superstates.{resets}
use Rattle.chart_machine_laws.specs.Tree.{IsThere, around, holder}
use Rattle.chart_lowering_laws.proofs.Entering.{moved_length}
use Rattle.abort_expansion_laws.specs.CoreRows.{own, IsState, Images, flags_around}
use Rattle.abort_expansion_laws.specs.Related.{Related, IsInside}
use Rattle.abort_expansion_laws.specs.StageReached.{stage_of}
use Rattle.abort_expansion_laws.proofs.Leaving.{set_here, set_other}
use Rattle.abort_expansion_laws.proofs.TableEnds.{prepared_apart}
use Rattle.abort_expansion_laws.proofs.KnownVariables.{present_there}
use Rattle.abort_expansion_laws.proofs.FreshInside.{Fresh, NobodyIn, ElsewhereNobody, moved_alike, one_state}
use Rattle.abort_expansion_laws.proofs.BeginningSorts.{Sort, sort_prepares}
use Rattle.abort_expansion_laws.proofs.InitialPairs.{held_there}
use Rattle.abort_expansion_laws.proofs.JustEntered.{EntryRows}
use Rattle.abort_expansion_laws.proofs.ChartEntered.{stood_open}
use Rattle.abort_expansion_laws.proofs.EntryTestFails.{IsEntering, entering_back, entering_no_inside}
use Rattle.abort_expansion_laws.proofs.TargetEntered.{chart_none, core_none}
use Rattle.abort_expansion_laws.proofs.Arrives.{Arrives}

module _ (k core : Table) (i : Images) (more : EntryRows k core i) (c d : Configuration) (related : Related k core i c d) (q s : ℕ) (t : Transition)
    (stands : standing_of c q ≡ at.Entering s (t ∷ [])) (free : is_guarded k c (around k q) ≡ false) where
  abbrev g : ℕ
  g = i.thread_of q

  present : standing_of c q ≢ at.Outside
  present w = let wrong : at.Entering s (t ∷ []) ≡ at.Outside = sym stands ∙ w in absurd cc

  there : IsThere k q
  there = present_there k core i c d related q present

  pub thread : IsEntering k core i q s (t ∷ []) (standing_of d g)
  thread = entering_back k core i c q (standing_of c q) (standing_of d g) (related.regions q there) s (t ∷ []) stands

  abbrev opened : Standing
  opened = at.Within s (first_closing_tests (own k s))

  abbrev pub resetting : Standing
  resetting = at.Trying (i.entry_of s) (go true None (resets (i.flags_of s) (length (state_at k s).regions)) thread.fork ∷ [])

  abbrev pub next : Configuration
  next = record { variables = c.variables; regions = moved (to q opened ∷ (state_at k s).opened) c.regions }

  abbrev pub core_next : Configuration
  core_next = record { variables = d.variables; regions = slice_set d.regions g resetting }

  s_there : IsState k s
  s_there = held_there k s q thread.held there

  core_there : IsThere core g
  core_there = (more.rows.region q there).there

  -- ---- nobody was inside

  in_none : (u : ℕ) → holder k u ≡ q → IsInside k core i u (standing_of c q) → ⊥
  in_none u its inner = entering_no_inside k core i c q u s (t ∷ []) (standing_of c q) stands inner

  nobody : (p y : ℕ) → Contains (around k p) y → holder k y ≡ q → standing_of c p ≡ at.Outside
  nobody p y inner its = chart_none k core i more c d related q in_none p y inner its

  -- whoever lies in something of a region is another one
  other : (p y : ℕ) → Contains (around k p) y → holder k y ≡ q → p ≢ q
  other p y inner its same = let up = more.tree.deeper p y inner in absurd (omega (up, its, same, arith))

  core_other : (w y : ℕ) → Contains (around core w) y → holder core y ≡ g → w ≢ g
  core_other w y inner its same = let up = more.core_tree.deeper w y inner in absurd (omega (up, its, same, arith))

  -- ---- where the region comes to

  out_of_itself : ¬ Contains (around k q) s
  out_of_itself inner = let up = more.tree.deeper q s inner in let its = thread.held in absurd (omega (up, its, arith))

  here : standing_of next q ≡ opened
  here =
      more.elsewhere s q (slice_set c.regions q opened) s_there out_of_itself ∙
      set_here c.regions q opened (let lt = there.1 in let size = related.chart_regions in omega (lt, size, arith))

  fresh : Fresh k (suc (length k.regions)) (standing_of next) s
  fresh zs size none p inner =
      moved_alike (state_at k s).opened (slice_set c.regions q opened) zs p (length-set c.regions q opened ∙ (related.chart_regions ∙ sym size))
      (set_other c.regions q p opened (other p s inner thread.held) ∙ (nobody p s inner thread.held ∙ sym (none p inner)))

  others : ElsewhereNobody k (suc (length k.regions)) (standing_of next) q s
  others p y inner its ne =
      more.elsewhere s p (slice_set c.regions q opened) s_there
      (λ in_s. ne (one_state k more.tree more.entries more.elsewhere p s y in_s inner (its ∙ sym thread.held))) ∙
      (set_other c.regions q p opened (other p y inner its) ∙ nobody p y inner its)

  unchanged : (p : ℕ) → ¬ LiesIn k p q → standing_of next p ≡ standing_of c p
  unchanged p out =
      more.elsewhere s p (slice_set c.regions q opened) s_there (λ inner. out (deeper s inner thread.held)) ∙
      set_other c.regions q p opened (λ same. out (itself same))

  -- ---- and its thread

  core_here : standing_of core_next g ≡ resetting
  core_here = set_here d.regions g resetting (let lt = core_there.1 in let size = related.core_regions in omega (lt, size, arith))

  core_nobody : NobodyIn core (suc (length core.regions)) (standing_of core_next) g
  core_nobody w y inner its =
      set_other d.regions g w resetting (core_other w y inner its) ∙ core_none k core i more c d related q in_none w y inner its

  arrives_sort : Sort k core i more.rows (suc (length k.regions)) (suc (length core.regions)) (standing_of next) (standing_of core_next) q
  arrives_sort =
      sort_prepares s thread.fork s_there thread.super.0 thread.held (prepared_apart (flags_around k core i q) (own k s) thread.super.1) thread.super.1
      here fresh others core_nobody thread.leads core_here

  pub entry_arrives : Arrives k core i more c d q next core_next
  entry_arrives =
      record {
        there = there;
        present = present;
        going = ap has_ended stands;
        works = ap (has_work k c) stands;
        low = subst (λ z. stage_of k c z ≤ 1) (sym stands) (omega arith);
        free = free;
        none = nobody;
        chart_regions = moved_length (to q opened ∷ (state_at k s).opened) c.regions ∙ related.chart_regions;
        core_regions = length-set d.regions g resetting ∙ related.core_regions;
        chart_values = refl;
        core_values = refl;
        unchanged = unchanged;
        core_unchanged = λ w out. set_other d.regions g w resetting (λ same. out (itself same));
        goes = ap has_ended here;
        stood = stood_open s s_there thread.held here fresh others;
        sort = arrives_sort;
      }
