use Rattle.std.proofs.lemmas.Grind.{elements, common_steps}
use Rattle.std.proofs.Common.{◌≡◌, ◌∙◌, [], ◌<◌, sym, subst, false, true, length, vec_len, rules, arith}
use Rattle.std.specs.Io.KnownBytes.{Consumes, IsAtEnd}
use Rattle.std.proofs.KnownBytes.{prepend_known-nil}
use Rattle.trace_lines.specs.Lines.{ahead, has_feed, line_limit}
use Rattle.trace_lines.proofs.Ahead.{moves_all, moved_no_feed, reads, takes, takes_last, too_long_moved, nothing_read, something_taken}
use Rattle.trace_lines.proofs.lines.Lines.next.Goals as goal

pub returns-then-is_whole-clause-one : goal.returns-then-is_whole-clause-one
returns-then-is_whole-clause-one g c = moved_no_feed c.loop-is_whole.line.items c.loop-is_whole.self c.move_line.new.line.items
    c.loop-is_whole.invariant.no_feed c.in_ok-is_whole.ensures.line

pub returns-then-not-branch-clause-one : goal.returns-then-not-branch-clause-one
returns-then-not-branch-clause-one g c = moved_no_feed c.loop-is_whole.line.items c.loop-is_whole.self c.move_line.new.line.items
    c.loop-is_whole.invariant.no_feed c.in_ok-is_whole.ensures.line

pub returns-then-is_whole-clause-line : goal.returns-then-is_whole-clause-line
returns-then-is_whole-clause-line g c =
    let start = ahead c.args.self.now (g.R.Source.to_come c.args.source.now) in
    let feed : has_feed c.loop-is_whole.self ≡ true = sym c.in_ok-is_whole.ensures.feed ∙ c.if-is_whole.true in
    rw (c.in_ok-is_whole.ensures.line, c.in_ok-is_whole.ensures.rest)
    (takes start (g.R.Source.to_come c.loop-is_whole.source) c.loop-is_whole.line.items c.loop-is_whole.self c.loop-is_whole.invariant.no_feed feed
    c.loop-is_whole.invariant.taken)

pub loop-is_whole-preserved : goal.loop-is_whole-preserved
loop-is_whole-preserved g c =
    let start = ahead c.args.self.now (g.R.Source.to_come c.args.source.now) in
    let before = g.R.Source.to_come c.loop-is_whole.source in
    let line = c.move_line.new.line.items in
    let feed : has_feed c.loop-is_whole.self ≡ false = sym c.in_ok-is_whole.ensures.feed ∙ c.if-is_whole.false in
    let moved : Consumes start (ahead [] before) line =
    moves_all start before c.loop-is_whole.line.items c.loop-is_whole.self line feed c.in_ok-is_whole.ensures.line c.loop-is_whole.invariant.taken in record {
      taken = reads start before (g.R.Source.to_come c.refill.new.source) line c.refill.new.self c.in_ok-refill.ensures.bytes moved;
      no_feed = moved_no_feed c.loop-is_whole.line.items c.loop-is_whole.self line c.loop-is_whole.invariant.no_feed c.in_ok-is_whole.ensures.line;
      none_failed = c.in_ok-refill.ensures.none_failed ∙ c.loop-is_whole.invariant.none_failed;
      going = λ e. c.in_ok-refill.ensures.going c.if-not-branch.false (c.loop-is_whole.invariant.going e);
      at_hand = λ e. let has = (c.loop-is_whole.invariant.at_hand e).1 in absurd cc;
    }

pub returns-then-not-branch-clause-line : goal.returns-then-not-branch-clause-line
returns-then-not-branch-clause-line g c =
    let start = ahead c.args.self.now (g.R.Source.to_come c.args.source.now) in
    let before = g.R.Source.to_come c.loop-is_whole.source in
    let line = c.move_line.new.line.items in
    let feed : has_feed c.loop-is_whole.self ≡ false = sym c.in_ok-is_whole.ensures.feed ∙ c.if-is_whole.false in
    let moved : Consumes start (ahead [] before) line =
    moves_all start before c.loop-is_whole.line.items c.loop-is_whole.self line feed c.in_ok-is_whole.ensures.line c.loop-is_whole.invariant.taken in
    let read = reads start before (g.R.Source.to_come c.refill.new.source) line c.refill.new.self c.in_ok-refill.ensures.bytes moved in
    let empty = nothing_read c.refill.new.self c.in_ok-refill.field-0 c.if-not-branch.true c.in_ok-refill.ensures.more.1 in
    let some = something_taken line (vec_len c.move_line.new.line) (search rules) c.if-is_empty.ensures in
    let ended = rw c.if-not-branch.true at c.in_ok-refill.ensures.end in
    takes_last start (g.R.Source.to_come c.refill.new.source) line c.refill.new.self
    (moved_no_feed c.loop-is_whole.line.items c.loop-is_whole.self line c.loop-is_whole.invariant.no_feed c.in_ok-is_whole.ensures.line) some empty ended read

pub returns-then-len-gt-LINE_LIMIT-clause-too_long : goal.returns-then-len-gt-LINE_LIMIT-clause-too_long
returns-then-len-gt-LINE_LIMIT-clause-too_long g c =
    let start = ahead c.args.self.now (g.R.Source.to_come c.args.source.now) in
    let line = c.move_line.new.line.items in
    let long : line_limit < length line = search rules in
    λ _. too_long_moved start (g.R.Source.to_come c.loop-is_whole.source) c.loop-is_whole.line.items c.loop-is_whole.self line
    c.loop-is_whole.invariant.no_feed c.in_ok-is_whole.ensures.line long c.loop-is_whole.invariant.taken

pub returns-then-not-branch-clause-last : goal.returns-then-not-branch-clause-last
returns-then-not-branch-clause-last g c =
    let to_come = g.R.Source.to_come c.refill.new.source in
    let empty = nothing_read c.refill.new.self c.in_ok-refill.field-0 c.if-not-branch.true c.in_ok-refill.ensures.more.1 in
    let ended : IsAtEnd to_come = rw c.if-not-branch.true at c.in_ok-refill.ensures.end in
    λ _. subst (λ held. IsAtEnd (ahead held to_come)) (sym empty) (subst IsAtEnd (sym (prepend_known-nil to_come)) ended)

pub returns-then-len-gt-LINE_LIMIT-clause-line : goal.returns-then-len-gt-LINE_LIMIT-clause-line
returns-then-len-gt-LINE_LIMIT-clause-line g c = grind (arith, elements) steps 2000000

pub returns-then-len-gt-LINE_LIMIT-clause-one : goal.returns-then-len-gt-LINE_LIMIT-clause-one
returns-then-len-gt-LINE_LIMIT-clause-one g c = grind (arith, elements) steps 2000000

pub returns-then-len-gt-LINE_LIMIT-clause-short : goal.returns-then-len-gt-LINE_LIMIT-clause-short
returns-then-len-gt-LINE_LIMIT-clause-short g c = grind (arith, elements) steps 2000000

pub returns-then-len-gt-LINE_LIMIT-clause-last : goal.returns-then-len-gt-LINE_LIMIT-clause-last
returns-then-len-gt-LINE_LIMIT-clause-last g c = grind (arith, elements) steps 2000000

pub returns-then-len-gt-LINE_LIMIT-clause-failed : goal.returns-then-len-gt-LINE_LIMIT-clause-failed
returns-then-len-gt-LINE_LIMIT-clause-failed g c = grind (arith, elements) steps 2000000

pub returns-then-len-gt-LINE_LIMIT-clause-none_failed : goal.returns-then-len-gt-LINE_LIMIT-clause-none_failed
returns-then-len-gt-LINE_LIMIT-clause-none_failed g c = grind (arith, elements) steps 2000000

pub returns-then-len-gt-LINE_LIMIT-clause-end : goal.returns-then-len-gt-LINE_LIMIT-clause-end
returns-then-len-gt-LINE_LIMIT-clause-end g c = grind (arith, elements) steps 2000000

pub returns-then-len-gt-LINE_LIMIT-clause-going : goal.returns-then-len-gt-LINE_LIMIT-clause-going
returns-then-len-gt-LINE_LIMIT-clause-going g c = grind (arith, elements) steps 2000000

pub returns-then-len-gt-LINE_LIMIT-clause-not_behind : goal.returns-then-len-gt-LINE_LIMIT-clause-not_behind
returns-then-len-gt-LINE_LIMIT-clause-not_behind g c = grind (arith, elements) steps 2000000

pub returns-then-len-gt-LINE_LIMIT-clause-at_hand : goal.returns-then-len-gt-LINE_LIMIT-clause-at_hand
returns-then-len-gt-LINE_LIMIT-clause-at_hand g c = grind (arith, elements) steps 2000000

pub returns-then-is_whole-clause-short : goal.returns-then-is_whole-clause-short
returns-then-is_whole-clause-short g c = grind (arith, elements) steps 2000000

pub returns-then-is_whole-clause-last : goal.returns-then-is_whole-clause-last
returns-then-is_whole-clause-last g c = grind (arith, elements) steps 2000000

pub returns-then-is_whole-clause-failed : goal.returns-then-is_whole-clause-failed
returns-then-is_whole-clause-failed g c = grind (arith, elements) steps 2000000

pub returns-then-is_whole-clause-none_failed : goal.returns-then-is_whole-clause-none_failed
returns-then-is_whole-clause-none_failed g c = grind (arith, elements) steps 2000000

pub returns-then-is_whole-clause-end : goal.returns-then-is_whole-clause-end
returns-then-is_whole-clause-end g c = grind (arith, elements) steps 2000000

pub returns-then-is_whole-clause-going : goal.returns-then-is_whole-clause-going
returns-then-is_whole-clause-going g c = grind (arith, elements) steps 2000000

pub returns-then-is_whole-clause-not_behind : goal.returns-then-is_whole-clause-not_behind
returns-then-is_whole-clause-not_behind g c = grind (arith, elements) steps 2000000

pub returns-then-is_whole-clause-too_long : goal.returns-then-is_whole-clause-too_long
returns-then-is_whole-clause-too_long g c = grind (arith, elements) steps 2000000

pub returns-then-is_whole-clause-at_hand : goal.returns-then-is_whole-clause-at_hand
returns-then-is_whole-clause-at_hand g c = grind (arith, elements) steps 2000000

pub returns-then-is_empty-clause-line : goal.returns-then-is_empty-clause-line
returns-then-is_empty-clause-line g c = grind (arith, elements) steps 2000000

pub returns-then-is_empty-clause-one : goal.returns-then-is_empty-clause-one
returns-then-is_empty-clause-one g c = grind (arith, elements) steps 2000000

pub returns-then-is_empty-clause-short : goal.returns-then-is_empty-clause-short
returns-then-is_empty-clause-short g c = grind (arith, elements) steps 2000000

pub returns-then-is_empty-clause-last : goal.returns-then-is_empty-clause-last
returns-then-is_empty-clause-last g c = grind (arith, elements) steps 2000000

pub returns-then-is_empty-clause-failed : goal.returns-then-is_empty-clause-failed
returns-then-is_empty-clause-failed g c = grind (arith, elements) steps 2000000

pub returns-then-is_empty-clause-none_failed : goal.returns-then-is_empty-clause-none_failed
returns-then-is_empty-clause-none_failed g c = grind (arith, elements) steps 2000000

pub returns-then-is_empty-clause-end : goal.returns-then-is_empty-clause-end
returns-then-is_empty-clause-end g c = grind (arith, elements) steps 2000000

pub returns-then-is_empty-clause-going : goal.returns-then-is_empty-clause-going
returns-then-is_empty-clause-going g c = grind (arith, elements) steps 2000000

pub returns-then-is_empty-clause-not_behind : goal.returns-then-is_empty-clause-not_behind
returns-then-is_empty-clause-not_behind g c = grind (arith, elements) steps 2000000

pub returns-then-is_empty-clause-too_long : goal.returns-then-is_empty-clause-too_long
returns-then-is_empty-clause-too_long g c = grind (arith, elements) steps 2000000

pub returns-then-is_empty-clause-at_hand : goal.returns-then-is_empty-clause-at_hand
returns-then-is_empty-clause-at_hand g c = grind (arith, elements) steps 2000000

pub returns-then-not-branch-clause-short : goal.returns-then-not-branch-clause-short
returns-then-not-branch-clause-short g c = grind (arith, elements) steps 2000000

pub returns-then-not-branch-clause-failed : goal.returns-then-not-branch-clause-failed
returns-then-not-branch-clause-failed g c = grind (arith, elements) steps 2000000

pub returns-then-not-branch-clause-none_failed : goal.returns-then-not-branch-clause-none_failed
returns-then-not-branch-clause-none_failed g c = grind (arith, elements) steps 2000000

pub returns-then-not-branch-clause-end : goal.returns-then-not-branch-clause-end
returns-then-not-branch-clause-end g c = grind (arith, elements) steps 2000000

pub returns-then-not-branch-clause-going : goal.returns-then-not-branch-clause-going
returns-then-not-branch-clause-going g c = grind (arith, elements) steps 2000000

pub returns-then-not-branch-clause-not_behind : goal.returns-then-not-branch-clause-not_behind
returns-then-not-branch-clause-not_behind g c = grind (arith, elements) steps 2000000

pub returns-then-not-branch-clause-too_long : goal.returns-then-not-branch-clause-too_long
returns-then-not-branch-clause-too_long g c = grind (arith, elements) steps 2000000

pub returns-then-not-branch-clause-at_hand : goal.returns-then-not-branch-clause-at_hand
returns-then-not-branch-clause-at_hand g c = grind (arith, elements) steps 2000000

pub loop-is_whole-smaller : goal.loop-is_whole-smaller
loop-is_whole-smaller g c = grind (arith, elements) steps 2000000

pub refill-requires : goal.refill-requires
refill-requires g c = grind (arith, common_steps) steps 2000000
