use Rattle.std.proofs.Common.{◌≡◌, ◌++◌, ◌+◌, ◌<◌, ◌^◌, map, drop}
use Rattle.chart_lowering.specs.Lowering.{branches, labels_in, texts, piece_of_region, piece_of_state}
use Rattle.chart_lowering.proofs.regions.+text.Given as goal

abbrev pub invariant-branches_of-loop-region : goal.invariant-branches_of-loop-region
invariant-branches_of-loop-region l = record {
  made : l.bodies ++ branches (map piece_of_region (drop l.region-index l.regions)) l.next ≡ branches (map piece_of_region l.regions) l.number;
  within : l.next < 2 ^ 64;
  counted : l.next + labels_in (map piece_of_region (drop l.region-index l.regions)) ≡ l.number + labels_in (map piece_of_region l.regions);
}

abbrev pub invariant-texts_of-loop-place : goal.invariant-texts_of-loop-place
invariant-texts_of-loop-place l =
    l.text ++ texts l.are_initial l.at (map piece_of_state (drop l.place l.states)) (drop l.place l.numbers) ≡
    texts l.are_initial l.at (map piece_of_state l.states) l.numbers
