-- Regions that are concurrent in a chart have concurrent threads in its core chart, and so have the monitors of what they hold.
use Rattle.std.proofs.Common.{◌≡◌, ℕ, true, List, [], ◌∷◌, map, Contains, sym, ap, subst, ◌∙◌}
use Rattle.core_charts.specs.declared.features.Features.TheVariants as features
use Rattle.core_charts.specs.Aborts.{has_aborts}
use Rattle.core_charts.specs.Chart.{Chart}
use Rattle.core_charts.specs.Rules.{IsChart}
use Rattle.chart_machine.specs.declared.table.Table.{Table}
use Rattle.chart_machine.specs.Table.{table}
use Rattle.chart_machine.specs.Turns.{LiesIn, itself, deeper, SideBySide, holder_of, ForkedApart}
use Rattle.abort_expansion.specs.Expansion.{expanded}
use Rattle.chart_machine_laws.proofs.LyingIn.{around, holder, head_in, tail_in}
use Rattle.abort_expansion_laws.specs.CoreRows.{own, IsState, Images, CoreRows, WatcherImage}
use Rattle.abort_expansion_laws.proofs.TicksOfCharts as ticks
use Rattle.abort_expansion_laws.proofs.ThreadsAround.{thread_within}

module _ (c : Chart) (rules : IsChart features.Extended c) (core_rules : IsChart features.Core (expanded c)) where
  abbrev k : Table
  k = table c

  abbrev core : Table
  core = table (expanded c)

  abbrev i : Images
  i = ticks.i c rules core_rules

  abbrev rows : CoreRows k core i
  rows = ticks.rows c rules core_rules

  -- where region r lies, this thread lies
  abbrev pub LiesThere : ℕ → ℕ → Type 0
  LiesThere r t = (side : ℕ) → LiesIn k r side → LiesIn core t (i.thread_of side)

  pub thread_there : (r : ℕ) → LiesThere r (i.thread_of r)
  thread_there r side (itself same) = itself (ap i.thread_of same)
  thread_there r side (deeper s inner held) =
      deeper (i.main_of s) (thread_within k core i rows r s inner)
      (rows.held s ∙ ap i.thread_of held)

  pub monitor_there : (o r : ℕ) → IsState k o → has_aborts (own k o) ≡ true → holder k o ≡ r → LiesThere r (i.watcher_of o)
  monitor_there o r here has held side lies = by lies
    where
      image : WatcherImage k core i o
      image = rows.watcher o here has

      by : LiesIn k r side → LiesIn core (i.watcher_of o) (i.thread_of side)
      by (itself same) =
          deeper (i.main_of o)
          (subst (λ zs. Contains zs (i.main_of o)) (sym image.encloses) (head_in (i.main_of o) (around core (i.thread_of (holder k o)))))
          (rows.held o ∙ ap i.thread_of (held ∙ same))
      by (deeper s inner held_too) =
          deeper (i.main_of s)
          (subst (λ zs. Contains zs (i.main_of s)) (sym image.encloses)
          (tail_in (i.main_of o) (i.main_of s) (around core (i.thread_of (holder k o)))
          (thread_within k core i rows (holder k o) s (subst (λ h. Contains (around k h) s) (sym held) inner))))
          (rows.held s ∙ ap i.thread_of held_too)

  beside_too : (left right : ℕ) → SideBySide k left right → SideBySide core (i.thread_of left) (i.thread_of right)
  beside_too left right b =
      record {
        differ = λ same. b.differ (rows.region_once left right same);
        first = (rows.region left (b.first, b.first_there)).there.0;
        second = (rows.region right (b.second, b.second_there)).there.0;
        first_there = (rows.region left (b.first, b.first_there)).there.1;
        second_there = (rows.region right (b.second, b.second_there)).there.1;
        around = rows.encloses left ∙ (ap (map i.main_of) b.around ∙ sym (rows.encloses right));
      }

  holder_too : (left : ℕ) → holder_of core (around core (i.thread_of left)) ≡ i.thread_of (holder_of k (around k left))
  holder_too left = ap (holder_of core) (rows.encloses left) ∙ by (around k left)
    where
      by : (zs : List ℕ) → holder_of core (map i.main_of zs) ≡ i.thread_of (holder_of k zs)
      by [] = sym rows.root
      by (s ∷ zs) = rows.held s

  pub apart_in_core : (r u a t v : ℕ) → LiesThere r t → LiesThere u v → ForkedApart k r u a → ForkedApart core t v (i.thread_of a)
  apart_in_core r u a t v of_t of_v apart =
      record {
        left = i.thread_of apart.left;
        right = i.thread_of apart.right;
        beside = beside_too apart.left apart.right apart.beside;
        r_in = of_t apart.left apart.r_in;
        u_in = of_v apart.right apart.u_in;
        held = holder_too apart.left ∙ ap i.thread_of apart.held;
      }
