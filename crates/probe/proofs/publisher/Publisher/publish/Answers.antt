use Rattle.std.proofs.lemmas.Grind.{common_steps}
use Rattle.std.proofs.Common.{◌≡◌, ◌++◌, ◌∷◌, [], Option, Some, None, take, length, length-append, subst, sym, ap, ◌∙◌, arith}
use Rattle.probe.specs.Progress.{Progress}
use Rattle.probe.specs.Inside.Copies.{IsAt}
use Rattle.probe.proofs.Last.{last_snoc, first_snoc}
use Rattle.probe.proofs.publisher.Publisher.publish.Goals as goal

pub of-next-requires : goal.of-next-requires
of-next-requires g c = rw (c.beginning.ensures, c.if-not-add.ensures.added) (last_snoc None c.in-Some.history.rows c.args.end)

pub put_in-requires : goal.put_in-requires
put_in-requires g c =
    let note = c.self.inside.note in
    let same : c.in-Some.history ≡ note = subst (λ (h : Option Progress). IsAt h note) (sym c.take.ensures.value ∙ c.in-Some.is) c.self.invariant.1 in
    let next : c.again.result ≡ c.add.new.self = c.again.ensures ∙ (c.of-next.ensures ∙ c.beginning.ensures) in
    let rows : c.again.result.rows ≡ note.rows ++ c.args.end ∷ [] = ap (λ p. p.rows) next
    ∙ (c.if-not-add.ensures.added ∙ ap (λ (p : Progress). p.rows ++ c.args.end ∷ []) same) in
    let publisher : c.again.result.publisher ≡ note.publisher = ap (λ p. p.publisher) next
    ∙ (c.if-not-add.ensures.publisher ∙ ap (λ (p : Progress). p.publisher) same) in
    (note, c.self.invariant.0, record { publisher = publisher; rows = (c.args.end ∷ [], sym rows) })

pub invariant_of-self-in-Ok : goal.invariant_of-self-in-Ok
invariant_of-self-in-Ok g c =
    let note = c.self.inside.note in
    let same : c.in-Some.history ≡ note = subst (λ (h : Option Progress). IsAt h note) (sym c.take.ensures.value ∙ c.in-Some.is) c.self.invariant.1 in
    let next : c.of-next.result ≡ c.add.new.self = c.of-next.ensures ∙ c.beginning.ensures in
    let rows : c.of-next.result.rows ≡ note.rows ++ c.args.end ∷ [] = ap (λ p. p.rows) next
    ∙ (c.if-not-add.ensures.added ∙ ap (λ (p : Progress). p.rows ++ c.args.end ∷ []) same) in
    let publisher : c.of-next.result.publisher ≡ note.publisher = ap (λ p. p.publisher) next
    ∙ (c.if-not-add.ensures.publisher ∙ ap (λ (p : Progress). p.publisher) same) in (
      c.in-Ok.ensures.shown ∙ ap Some c.again.ensures,
      sym next,
      c.self.invariant.2
          ∙ cc (publisher, ap (take 1) rows, first_snoc note.rows c.args.end c.self.invariant.3),
      omega (arith, ap length rows, length-append note.rows (c.args.end ∷ [])),
    )

pub returns-in-Ok-clause-shown : goal.returns-in-Ok-clause-shown
returns-in-Ok-clause-shown g c = grind (arith, common_steps) steps 2000000

pub invariant_of-self-in-Err-1 : goal.invariant_of-self-in-Err-1
invariant_of-self-in-Err-1 g c = grind (arith, common_steps) steps 2000000

pub returns-in-Ok-clause-publisher : goal.returns-in-Ok-clause-publisher
returns-in-Ok-clause-publisher g c = grind (arith, common_steps) steps 2000000

pub returns-in-Ok-clause-rows : goal.returns-in-Ok-clause-rows
returns-in-Ok-clause-rows g c = grind (arith, common_steps) steps 2000000
