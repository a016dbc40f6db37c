-- The labels of a chart's states in its lowering, by number, and the layout that they give.
use Rattle.std.specs.Prelude.{ℕ, zero, suc, ◌+◌, Bool, true, false, Option, Some, None, List, [], ◌∷◌, ◌++◌, map, slice_get, unwrap_or, option_map}
use Rattle.std.specs.Prelude.{if◌then◌else◌}
use Rattle.core_charts.specs.declared.region.Transition.{Transition}
use Rattle.core_charts.specs.declared.region.Region.{Region}
use Rattle.core_charts.specs.declared.region.Region.TheOpen.{Region-F, State-F}
use Rattle.core_charts.specs.declared.region.Region.TheFolds.{fold-Region}
use Rattle.core_charts.specs.Chart.{Chart}
use Rattle.core_charts.specs.Tests.{at_once, terminations}
use Rattle.chart_machine.specs.declared.table.Table.{Table}
use Rattle.chart_machine.specs.Table.{table, region_at, region_numbers, subtree_of_region}
use Rattle.chart_lowering.specs.Lowering.{RegionPiece, StatePiece, region_piece, state_piece, label_name, labels_in, labels_in_initial, numbers, leaves_surely}
use Rattle.scl.specs.Block.{Block, End}
use Rattle.scl.specs.Labels.{Front, Jumps, Begins, front, behind_label, label_count}
use Rattle.chart_lowering_laws.specs.Layout.{Layout}

-- of a state: whether it is initial, the number of its label, and that of the label in front of its pause, where it
-- has one
pub record Mark : Type 0 where
  pub is_initial : Bool
  pub label : ℕ
  pub second : Option ℕ

-- what the lowering makes of a region, or of a state; and the marks of all states in it in the order of the text, where
-- its first label has number n
pub record RegionMarks : Type 0 where
  pub low : RegionPiece
  pub marks : (n : ℕ) → List Mark

pub record StateMarks : Type 0 where
  pub low : StatePiece
  pub marks : (n : ℕ) → List Mark

abbrev pub lows : List RegionMarks → List RegionPiece
lows = map (λ r. r.low)

abbrev pub low_states : List StateMarks → List StatePiece
low_states = map (λ s. s.low)

-- regions side by side, as `branches`
abbrev pub marks_beside : List RegionMarks → ℕ → List Mark
marks_beside [] n = []
marks_beside (r ∷ regions) n = r.marks n ++ marks_beside regions (n + r.low.labels)

-- the states of a region, as `texts`, but in the order of the text
abbrev pub marks_among : List StateMarks → List ℕ → List Mark
marks_among (s ∷ states) (n ∷ ns) = s.marks n ++ marks_among states ns
marks_among states ns = []

-- the second label, as `text_of`
abbrev pub second_behind : List Transition → ℕ → Option ℕ
second_behind [] n = Some n
second_behind (join ∷ others) n = None

abbrev pub second_of : Bool → List RegionPiece → List Transition → ℕ → Option ℕ
second_of true regions all n = None
second_of false [] all n = if leaves_surely (at_once all) then None else Some (suc n)
second_of false (r ∷ regions) all n = second_behind (terminations all) (suc n + labels_in (r ∷ regions))

abbrev pub region_marks : Region-F RegionMarks StateMarks → RegionMarks
region_marks r =
    let states : List StatePiece = low_states r.states in
    record {
      low = region_piece (record { name = r.name; states = states });
      marks = λ n. marks_among r.states (numbers states n (n + labels_in_initial states));
    }

abbrev pub state_marks : State-F RegionMarks StateMarks → StateMarks
state_marks s =
    record {
      low = state_piece (record { name = s.name; is_initial = s.is_initial; is_final = s.is_final; regions = lows s.regions; transitions = s.transitions });
      marks = λ n. record { is_initial = s.is_initial; label = n; second = second_of s.is_final (lows s.regions) s.transitions n } ∷ marks_beside s.regions
          (suc n);
    }

abbrev pub marks_of_region : Region → RegionMarks
marks_of_region = fold-Region RegionMarks StateMarks region_marks state_marks

-- of all states of a chart, in the order of the table's rows
abbrev pub marks : Chart → List Mark
marks c = marks_beside (map marks_of_region c.regions) 1

abbrev pub mark_at : List Mark → ℕ → Mark
mark_at all s = unwrap_or (slice_get all s) (record { is_initial = false; label = zero; second = None })

-- what is to be done from this label on
abbrev pub behind : Block → ℕ → Block
behind root n = unwrap_or (behind_label root (label_name n)) (End 0)

abbrev pub behind_some : Block → Option ℕ → Block
behind_some root (Some n) = behind root n
behind_some root None = End 0

-- the state that is marked as initial
abbrev pub initial_among : List Mark → List ℕ → ℕ
initial_among all [] = 0
initial_among all (s ∷ states) = if (mark_at all s).is_initial then s else initial_among all states

-- how many gotos stand in front of the first statement
abbrev pub hops : Block → ℕ → Front → ℕ
hops root m (Begins todo) = 0
hops root zero (Jumps g name) = 0
hops root (suc m) (Jumps g name) = suc (unwrap_or (option_map (λ k. hops root m (front k)) (behind_label root name)) 0)

abbrev pub layout_of : Table → List ℕ → List Mark → Block → Layout
layout_of k top all root =
    record {
      begin = λ s. behind root (mark_at all s).label;
      pause = λ s. behind_some root (mark_at all s).second;
      fork = λ s. behind root (mark_at all s).label;
      initial = λ r. initial_among all (region_at k r).states;
      top = top;
      rank = λ s. hops root (label_count root) (front (behind root (mark_at all s).label));
    }

abbrev pub layout : Chart → Block → Layout
layout c root = layout_of (table c) (region_numbers (map subtree_of_region c.regions) 1) (marks c) root
