use Rattle.std.proofs.Common.{◌≡◌, ◌++◌, drop, string_bytes}
use Rattle.image_listing.specs.Steps.{numbers_text}
use Rattle.image_listing.proofs.steps.numbers.Given as goal

abbrev pub invariant-loop-number : goal.invariant-loop-number
invariant-loop-number l = string_bytes l.text ++ numbers_text (drop l.number-index l.numbers) ≡ numbers_text l.numbers
