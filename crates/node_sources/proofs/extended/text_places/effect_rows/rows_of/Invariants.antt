use Rattle.std.proofs.Common.{◌≡◌, ◌++◌, drop}
use Rattle.node_sources.specs.EffectRows.{rows_from}
use Rattle.node_sources.proofs.extended.text_places.effect_rows.rows_of.Given as goal

abbrev pub invariant-loop-count : goal.invariant-loop-count
invariant-loop-count l = l.rows ++ rows_from l.first (drop l.count-index l.counts) ≡ rows_from 0 l.counts
