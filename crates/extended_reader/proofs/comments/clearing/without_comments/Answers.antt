use Rattle.std.proofs.Common.{subst, sym, rules, IsUtf8}
use Rattle.extended_reader.specs.Comments.{without_comments}
use Rattle.extended_reader.proofs.Characters.{clears_text}
use Rattle.extended_reader.proofs.comments.clearing.without_comments.Goals as goal

pub unreachable-requires : goal.unreachable-requires
unreachable-requires c =
    let is : IsUtf8 (without_comments c.as_bytes.result.now) = clears_text c.as_bytes.result.now c.as_bytes.ensures.utf8 in
    let text : IsUtf8 c.in_ok-bytes.bytes.items = subst IsUtf8 (sym c.in_ok-bytes.ensures) is in
    let ok = c.in-Err.ensures.succeeds in
    search (rules, text, ok)
