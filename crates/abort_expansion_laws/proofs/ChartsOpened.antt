-- What the moves of a fork make of its inside, of each expanded chart; so what was entered there settles.
use Rattle.std.proofs.Common.{◌≡◌, ℕ, ◌+◌, Bool, true, false, Option, None, [], ◌∷◌, Contains, refl, sym, ap, subst, ◌∙◌}
use Rattle.std.proofs.lemmas.Bool.{or_parts}
use Rattle.sc_values.specs.Access.{Access}
use Rattle.core_charts.specs.declared.features.Features.TheVariants as features
use Rattle.core_charts.specs.Aborts.{has_strong, has_weak, has_aborts}
use Rattle.core_charts.specs.Chart.{Chart}
use Rattle.core_charts.specs.Rules.{IsChart}
use Rattle.chart_machine.specs.declared.table.Table.{Table}
use Rattle.chart_machine.specs.declared.standing.Configuration.{Configuration}
use Rattle.chart_machine.specs.Table.{table, state_at}
use Rattle.chart_machine.specs.Machine.{machine}
use Rattle.abort_expansion.specs.Flags.{counts, given, one, weak_around}
use Rattle.abort_expansion.specs.Superstates.{is_prepared}
use Rattle.abort_expansion.specs.Expansion.{expanded}
use Rattle.chart_machine_laws.specs.Tree.{IsThere, around, holder}
use Rattle.chart_machine_laws.proofs.LyingIn.{head_in}
use Rattle.chart_machine_laws.proofs.ChartTables.{chart_is_tree, around_there}
use Rattle.abort_expansion_laws.specs.CoreRows.{own, IsSuper, Images, flags_around, pair}
use Rattle.abort_expansion_laws.specs.Related.{Related}
use Rattle.abort_expansion_laws.specs.Stages.{Entry, Silent}
use Rattle.abort_expansion_laws.specs.StageReached.{Stage}
use Rattle.abort_expansion_laws.proofs.Segments.{Segment}
use Rattle.abort_expansion_laws.proofs.Walked.{World, FlagsFit}
use Rattle.abort_expansion_laws.proofs.WalkedWhole.{world}
use Rattle.abort_expansion_laws.proofs.RowsOfCharts as whole
use Rattle.abort_expansion_laws.proofs.MoreRows.{alone, opening_rows, counter_rows, is_counter, strong_of}
use Rattle.abort_expansion_laws.proofs.OpenedInside.{opened_elsewhere, charts_enter}
use Rattle.abort_expansion_laws.proofs.OpenedRows.{OpenedRows}
use Rattle.abort_expansion_laws.proofs.TickRows.{alone_rows, fork_rows, start_rows}
use Rattle.abort_expansion_laws.proofs.EnteredMonitors.{Unflagged}
use Rattle.abort_expansion_laws.proofs.JustEntered.{EntryRows}
use Rattle.abort_expansion_laws.proofs.OpenedRowsHold.{opened_rows}
use Rattle.abort_expansion_laws.proofs.Pending.{Sound, Pending, Reached}
use Rattle.abort_expansion_laws.proofs.EnteredSettles.{entered_settles}
use Rattle.abort_expansion_laws.proofs.FlagStages.{FlagStages}

module _ (c : Chart) (rules : IsChart features.Extended c) (core_rules : IsChart features.Core (expanded c)) where
  abbrev k : Table
  k = table c

  abbrev core : Table
  core = table (expanded c)

  abbrev w : World
  w = world c rules

  abbrev i : Images
  i = whole.i c rules core_rules

  abbrev pub entry_rows : EntryRows k core i
  entry_rows =
      record {
        rows = whole.rows_of_chart c rules core_rules;
        tree = chart_is_tree features.Extended c rules;
        core_tree = chart_is_tree features.Core (expanded c) core_rules;
        entries = charts_enter features.Extended c rules;
        core_entries = charts_enter features.Core (expanded c) core_rules;
        elsewhere = λ s t zs here out. opened_elsewhere features.Extended c rules s t zs here out;
        core_elsewhere = λ s t zs here out. opened_elsewhere features.Core (expanded c) core_rules s t zs here out;
        alike = λ s here super. (whole.state_fits c rules core_rules s here).opens super;
        once = (counter_rows c rules core_rules).once;
        super_around = λ r s h. (whole.super_there c rules core_rules r s h, whole.super_around c rules core_rules r s h);
      }

  -- who is not prepared has no flags
  pub unflagged : (u : ℕ) → IsSuper k u → is_prepared (flags_around k core i (holder k u)) (own k u) ≡ false → Unflagged k core i u
  unflagged u super plain =
      let fits : FlagsFit w u = (whole.state_fits c rules core_rules u (whole.is_state_super c rules core_rules u super)).flags super in
      let both = or_parts (has_aborts (own k u)) (counts (weak_around (flags_around k core i (holder k u))) (own k u)) plain in
      let two = or_parts (has_strong (own k u)) (has_weak (own k u)) both.0 in
      record {
        strong = ap (λ z. z.strong) fits.are ∙ none (has_strong (own k u)) fits.first two.0;
        weak = ap (λ z. z.weak) fits.are ∙ none (has_weak (own k u)) (fits.first + one (has_strong (own k u))) two.1;
        counter =
            ap (λ z. z.counter) fits.are ∙
            none (counts (weak_around (flags_around k core i (holder k u))) (own k u))
            (fits.first + one (has_strong (own k u)) + one (has_weak (own k u))) both.1;
      }
    where
      none : (b : Bool) (x : ℕ) → b ≡ false → given b x ≡ None
      none true x e = absurd cc
      none false x e = refl

  pub charts_opened : OpenedRows k core i
  charts_opened =
      opened_rows k core i entry_rows (alone_rows c rules core_rules) (start_rows c rules core_rules) (alone c rules core_rules)
      (counter_rows c rules core_rules).counter_joins unflagged (whole.super_of c rules core_rules)

  -- so what was entered settles, one region after the other
  module _ (stages : FlagStages c rules core_rules) (Told : Configuration → Entry → Type 0)
      (told : (e : Configuration) (t : ℕ) (stage : Option (ℕ × ℕ)) (a : Access) → Told e (Silent t stage a)) where
    core_children : (s t : ℕ) → Contains (state_at core s).regions t → IsThere core t × (around core t ≡ s ∷ around core (holder core s))
    core_children s t h =
        let direct = entry_rows.core_tree.children s t h in
        (around_there core t s (subst (λ zs. Contains zs s) (sym direct) (head_in s (around core (holder core s)))), direct)

    pub charts_settle : (at_now core_at_now : Configuration) → Sound k core i at_now → Pending k core i at_now 0 core_at_now →
        Segment (machine core)
        (pair k core i (whole.rows_of_chart c rules core_rules) (whole.tree c rules core_rules).nested (is_counter c rules core_rules) stages.written_at)
        Told core_at_now (Reached k core i at_now core_at_now) (Stage k i.thread_of at_now) [] (Related k core i at_now)
    charts_settle at_now core_at_now sound pending =
        entered_settles k core i (whole.rows_of_chart c rules core_rules) (whole.tree c rules core_rules).nested
        (whole.core_tree c rules core_rules).nested (is_counter c rules core_rules) stages.written_at Told told
        (whole.tree c rules core_rules).deeper (whole.tree c rules core_rules).children core_children (opening_rows c rules core_rules)
        (fork_rows c rules core_rules) charts_opened stages.counters (strong_of c rules core_rules)
        stages.strong_zero (λ q s there h. whole.super_there c rules core_rules q s h) at_now sound core_at_now pending
