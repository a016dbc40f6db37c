use Rattle.std.proofs.Common.{subst}
use Rattle.std.specs.Io.KnownBytes.{Appends}
use Rattle.simulation.specs.Lines.{greeting}
use Rattle.simulation.proofs.Turns.{all_from_start, some_from_start}
use Rattle.simulation.proofs.simulating.greet.Goals as goal

pub returns-clause-done : goal.returns-clause-done
returns-clause-done g c =
    let old = g.K.Sink.taken c.args.sink.now in
    let greeted = g.K.Sink.taken c.write.new.sink in
    let greets : Appends old greeted greeting = subst (Appends old greeted) c.as_bytes.ensures.value (c.write.ensures.whole c.if-not-write.false) in
    all_from_start c.go_on.result c.args.session.now.image c.args.session.now c.in_ok-lines.lines (g.S.Source.to_come c.args.source.now) old greeted
    (g.K.Sink.taken c.go_on.new.sink) c.requires c.in_ok-lines.ensures greets c.go_on.ensures.done

pub returns-clause-left : goal.returns-clause-left
returns-clause-left g c =
    let old = g.K.Sink.taken c.args.sink.now in
    let greeted = g.K.Sink.taken c.write.new.sink in
    let greets : Appends old greeted greeting = subst (Appends old greeted) c.as_bytes.ensures.value (c.write.ensures.whole c.if-not-write.false) in
    some_from_start c.go_on.result c.args.session.now.image c.args.session.now c.in_ok-lines.lines (g.S.Source.to_come c.args.source.now) old greeted
    (g.K.Sink.taken c.go_on.new.sink) c.requires c.in_ok-lines.ensures greets c.go_on.ensures.left
