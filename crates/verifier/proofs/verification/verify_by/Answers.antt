use Rattle.std.proofs.Common.{subst}
use Rattle.sc_graph.specs.declared.tables.Tables.{Tables}
use Rattle.sc_graph.specs.Program.{Program}
use Rattle.verifier.specs.declared.rule.Refusal.TheVariants as refusal
use Rattle.verifier.specs.Verdict.{IsLowestBroken}
use Rattle.verifier.proofs.verification.verify_by.Goals as goal

pub returns-clause-broken : goal.returns-clause-broken
returns-clause-broken c = λ broken e.
    subst (λ (p : Program). IsLowestBroken p c.args.image.tables broken) c.program.ensures
    (subst (λ (q : Tables). IsLowestBroken c.program.result.now q broken) c.tables.ensures.value
    (c.refusal_by-refusal.ensures.broken broken (c.verified_unless.ensures.refused (refusal.Broken broken) e)))
