use Rattle.std.proofs.Common.{◌≡◌, ◌++◌, ◌-◌, string_bytes}
use Rattle.image_listing.specs.Cells.{spaces}
use Rattle.image_listing.proofs.cells.put_spaces.Given as goal

abbrev pub invariant-loop : goal.invariant-loop
invariant-loop l = string_bytes l.text ++ spaces (l.count - l.counter) ≡ string_bytes l.initial.text ++ spaces l.count
