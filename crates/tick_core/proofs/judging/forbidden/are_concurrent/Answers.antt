use mathlib.Core.Bool.{true≢false}
use Rattle.std.proofs.Common.{get_or, sym}
use Rattle.tick_core.proofs.Forbidding.{no_step, two_steps, concurrent_by, concurrent_threads, none_between, not_true, not_from}
use Rattle.tick_core.proofs.judging.forbidden.are_concurrent.Goals as goal

pub returns-in-Some : goal.returns-in-Some
returns-in-Some c =
    let two = two_steps c.args.steps.now c.args.first c.args.second c.requires.before c.requires.within in
    let s = get_or c.args.steps.now c.args.first no_step in
    let t = get_or c.args.steps.now c.args.second no_step in (
      λ e. concurrent_by c.args.program.now c.args.steps.now c.args.first c.args.second s t two c.in-Some.forking c.in-Some.ensures.apart
          (λ takes. not_true c.takes_between.result e (c.takes_between.ensures.1 takes)),
      λ both. not_from c.takes_between.result
          (λ e. none_between c.args.program.now c.args.steps.now c.args.first c.args.second s t two c.requires.formed c.in-Some.forking c.in-Some.ensures.apart
          both (c.takes_between.ensures.0 e)),
    )

pub returns-in-None : goal.returns-in-None
returns-in-None c =
    let two = two_steps c.args.steps.now c.args.first c.args.second c.requires.before c.requires.within in
    let s = get_or c.args.steps.now c.args.first no_step in
    let t = get_or c.args.steps.now c.args.second no_step in (
      λ e. absurd (true≢false (sym e)),
      λ both. c.in-None.ensures.concurrent.1 (concurrent_threads c.args.program.now c.args.steps.now c.args.first c.args.second s t two both),
    )
