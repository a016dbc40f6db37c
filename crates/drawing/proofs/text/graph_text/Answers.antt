use Rattle.std.proofs.Common.{◌≡◌, ℕ, List, ◌++◌, codes, string_bytes}
use Rattle.std.proofs.lemmas.Result.{IfOk-weaker}
use Rattle.drawing.specs.Drawing.{IsDrawing}
use Rattle.drawing.proofs.Putting.{finished, follows, put_as}
use Rattle.drawing.proofs.text.graph_text.Goals as goal

pub returns : goal.returns
returns c =
    let body : List ℕ = string_bytes c.in_ok-body.body in
    let whole : List ℕ = codes "digraph \"" ++ (c.args.name.now ++ (codes "\" {\n" ++ (body ++ codes "}\n"))) in
    IfOk-weaker _ (λ s. string_bytes s ≡ whole) (λ s. IsDrawing c.args.name.now (string_bytes s)) (λ s e. record { body = body; is = e })
    (finished string_bytes _ _ _ _ c.new-text.ensures
    (follows _ _ _ _ _ c.put.ensures
    (follows _ _ _ _ _ (put_as _ _ _ _ c.as_str.ensures c.put-2.ensures)
    (follows _ _ _ _ _ c.put-3.ensures
    (follows _ _ _ _ _ (put_as _ _ _ _ c.as_str-2.ensures.value c.put-4.ensures) c.put-5.ensures))))
    c.finish-2.ensures)
