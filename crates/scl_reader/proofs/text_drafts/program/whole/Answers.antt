use Rattle.std.proofs.Common.{◌≡◌, true, rules, refl}
use Rattle.scl_reader.proofs.Programs.{whole_drafts, name_stops, scl_stops}
use Rattle.scl_reader.proofs.text_drafts.program.whole.Goals as goal

pub returns : goal.returns
returns c =
    let over : c.is_over.result ≡ true = search (rules, c.if-not-is_over.false) in
    whole_drafts _ _ c.in_ok-named.ensures _ c.in_ok-called.ensures _ c.behind.ensures _ _ _ _ _ c.in_ok-rest.ensures _ c.new-variables.ensures
    c.new-statements.ensures (c.is_over.ensures.0 over) refl

pub returns-in_err-named : goal.returns-in_err-named
returns-in_err-named c = search (rules, scl_stops)

pub returns-in_err-called : goal.returns-in_err-called
returns-in_err-called c = search (rules, name_stops)
