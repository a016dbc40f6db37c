use Rattle.std.proofs.Common.{◌≡◌, ℕ, ◌+◌, ◌-◌, ◌<◌, List, ◌++◌, append_assoc, ap, sym, ◌∙◌, codes, string_bytes, arith}
use Rattle.image_listing.specs.Cells.{spaces}
use Rattle.image_listing.proofs.Spaces.{spaces_left}
use Rattle.image_listing.proofs.cells.put_spaces.Goals as goal

pub loop-preserved : goal.loop-preserved
loop-preserved c =
    let within : c.loop.counter < c.args.count = omega arith in
    let more : string_bytes c.push_str.new.self ≡ string_bytes c.loop.text ++ codes " " = c.in_ok-push_str.ensures.bytes in
    ap (λ s. s ++ spaces (c.args.count - (c.loop.counter + 1))) more
    ∙ append_assoc (string_bytes c.loop.text) (codes " ") (spaces (c.args.count - (c.loop.counter + 1)))
    ∙ ap (λ s. string_bytes c.loop.text ++ s) (sym (spaces_left c.args.count c.loop.counter within))
    ∙ c.loop.invariant
