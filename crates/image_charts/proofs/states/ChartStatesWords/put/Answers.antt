use Rattle.std.proofs.Common.{◌≡◌, map, string_bytes, rules}
use Rattle.json.specs.Print.{quoted}
use Rattle.node_states.specs.Active.{active_states}
use Rattle.image_charts.proofs.Found.{states_put}
use Rattle.image_charts.proofs.states.ChartStatesWords.put.Goals as goal

pub returns : goal.returns
returns c =
    let s = c.args.self.now in
    let active : c.as_slice.result.now ≡ active_states s.compiled.nodes s.compiled.states c.args.control.now = search rules in
    let same : map string_bytes c.deref.result.now ≡ map quoted s.paths = search rules in
    states_put c.put_states.result s c.args.control.now (map string_bytes c.deref.result.now) c.as_slice.result.now c.args.line.now.items
    c.put_states.new.line.items active same c.put_states.ensures
