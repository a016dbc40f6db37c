use Rattle.std.proofs.lemmas.Grind.{elements}
use Rattle.std.proofs.Common.{◌≡◌, subst, arith}
use Rattle.sc_graph.specs.declared.tables.Tables.{Tables}
use Rattle.sc_graph.specs.Program.{Program}
use Rattle.verifier.specs.declared.rule.Refusal.TheVariants as refusal
use Rattle.verifier.specs.Verdict.{IsLowestBroken}
use Rattle.verifier.proofs.Lowest.{kept_of_valid}
use Rattle.verifier.proofs.verification.verify.Goals as goal

pub returns-in-Err-clause-broken : goal.returns-in-Err-clause-broken
returns-in-Err-clause-broken c = λ broken e.
    let same : c.refusal_without_memory-refusal.result ≡ refusal.Broken broken = cc e in
    subst (λ (p : Program). IsLowestBroken p c.args.image.tables broken) c.program-in-Err.ensures
    (subst (λ (q : Tables). IsLowestBroken c.program-in-Err.result.now q broken) c.tables-in-Err.ensures.value
    (c.refusal_without_memory-refusal.ensures.broken broken same))

pub returns-in-Err-clause-accepted : goal.returns-in-Err-clause-accepted
returns-in-Err-clause-accepted c = λ valid broken e.
    let same : c.refusal_without_memory-refusal.result ≡ refusal.Broken broken = cc e in
    let lowest : IsLowestBroken c.args.image.program c.args.image.tables broken =
    subst (λ (p : Program). IsLowestBroken p c.args.image.tables broken) c.program-in-Err.ensures
    (subst (λ (q : Tables). IsLowestBroken c.program-in-Err.result.now q broken) c.tables-in-Err.ensures.value
    (c.refusal_without_memory-refusal.ensures.broken broken same)) in
    lowest.breaks (kept_of_valid c.args.image.program c.args.image.tables valid broken.rule broken.place)

pub verify_by-requires : goal.verify_by-requires
verify_by-requires c = grind (arith, elements) steps 2000000
