use Rattle.std.proofs.Common.{◌≡◌, ℕ, ◌<◌, ◌++◌, List, length, drop, sym, subst, arith, length-drop}
use Rattle.sc_text.specs.Tokens.{AreTokens, IsFirstFault}
use Rattle.sc_text.specs.Inside.{IsStep, IsNoStep, token_at}
use Rattle.sc_text.proofs.Scanning.{fault_at, step_within, step_tokens, step_fault, tokens_end, slice_rest}
use Rattle.sc_text.proofs.scan.tokens.Goals as goal

pub returns-in-Err-clause-fault : goal.returns-in-Err-clause-fault
returns-in-Err-clause-fault c =
    let test : c.loop-at.at < length c.as_bytes-bytes.result.now = c.loop-at-test.true in
    let left = length-drop c.loop-at.at c.as_bytes-bytes.result.now in
    subst (λ t. IsFirstFault c.args.language 0 t c.in-Err.broken c.loop-at.at) c.as_bytes-bytes.ensures.value
    (c.loop-at.invariant.faulty c.in-Err.broken c.loop-at.at
    (fault_at c.args.language c.loop-at.at (drop c.loop-at.at c.as_bytes-bytes.result.now) c.in-Err.broken (omega arith)
    (subst (λ t. IsNoStep c.args.language t c.in-Err.broken) (slice_rest c.loop-at.at c.as_bytes-bytes.result.now) c.in-Err.ensures)))

pub loop-at-preserved : goal.loop-at-preserved
loop-at-preserved c =
    let bytes : List ℕ = c.as_bytes-bytes.result.now in
    let step : IsStep c.args.language (drop c.loop-at.at c.as_bytes-bytes.result.now) c.in-Ok.step =
    subst (λ t. IsStep c.args.language t c.in-Ok.step) (slice_rest c.loop-at.at c.as_bytes-bytes.result.now) c.in-Ok.ensures in
    let p = c.in_ok-put.ensures in
    let put : c.put.new.tokens ≡ c.loop-at.tokens ++ token_at c.loop-at.at c.in-Ok.step.kind = p in
    record {
      within = step_within c.args.language c.loop-at.at c.in-Ok.step.length bytes c.in-Ok.step.kind step.cuts step.gives c.loop-at.invariant.within;
      done = λ more a. subst (λ t. AreTokens c.args.language 0 bytes (t ++ more)) (sym put)
          (step_tokens c.args.language c.loop-at.at c.in-Ok.step.length bytes c.in-Ok.step.kind step.cuts step.gives c.loop-at.tokens more
          c.loop-at.invariant.done a);
      faulty = λ b place a. step_fault c.args.language c.loop-at.at c.in-Ok.step.length bytes c.in-Ok.step.kind step.cuts step.gives b place
          (c.loop-at.invariant.faulty b place) a;
    }

pub returns-clause-ok : goal.returns-clause-ok
returns-clause-ok c =
    subst (λ t. AreTokens c.args.language 0 t c.loop-at.tokens) c.as_bytes-bytes.ensures.value
    (tokens_end c.args.language c.loop-at.at c.as_bytes-bytes.result.now c.loop-at.tokens c.loop-at-test.false c.loop-at.invariant.done)
