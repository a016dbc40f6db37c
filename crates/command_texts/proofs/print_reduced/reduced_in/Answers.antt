use Rattle.command_texts.proofs.Lacking.{no_file, no_text}
use Rattle.std.proofs.Common.{ap, subst, sym, rules}
use Rattle.chart_texts.specs.Sources.{HasReduced}
use Rattle.command_texts.proofs.print_reduced.reduced_in.Goals as goal

pub returns-clause-made : goal.returns-clause-made
returns-clause-made g c = record {
  bytes = c.in_ok-bytes.bytes.items;
  held = c.in_ok-bytes.ensures.bytes;
  reduced =
      subst (λ b. HasReduced b c.into_bytes.result.items) c.deref.ensures.value
      (subst (λ t. HasReduced c.deref.result.now t) (ap (λ v. v.items) (sym c.into_bytes.ensures.value)) c.in_ok-text.ensures.text);
}

pub returns-in_err-bytes-clause-lacks : goal.returns-in_err-bytes-clause-lacks
returns-in_err-bytes-clause-lacks g c = search (rules, no_file)

pub returns-in_err-text-clause-lacks : goal.returns-in_err-text-clause-lacks
returns-in_err-text-clause-lacks g c = search (rules, no_text)
