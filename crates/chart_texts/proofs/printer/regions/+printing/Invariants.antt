use Rattle.std.proofs.Common.{◌≡◌, ◌++◌, drop, map, string_bytes}
use Rattle.chart_texts.specs.Layout.{among_all, in_row, piece_of_state, region_text}
use Rattle.chart_texts.proofs.printer.regions.+printing.Given as goal

abbrev pub invariant-put_regions-loop-region : goal.invariant-put_regions-loop-region
invariant-put_regions-loop-region l =
    string_bytes l.text ++ in_row (map (region_text l.variables) (drop l.region-index l.regions)) l.margin ≡
    string_bytes l.fn.text ++ in_row (map (region_text l.variables) l.regions) l.margin

abbrev pub invariant-put_states-loop-state : goal.invariant-put_states-loop-state
invariant-put_states-loop-state l =
    string_bytes l.text ++ among_all l.names.items (map (piece_of_state l.variables) (drop l.state-index l.states)) l.margin ≡
    string_bytes l.fn.text ++ among_all l.names.items (map (piece_of_state l.variables) l.states) l.margin
