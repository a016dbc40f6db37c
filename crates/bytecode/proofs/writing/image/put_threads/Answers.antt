use Rattle.std.proofs.lemmas.Grind.{elements}
use Rattle.std.proofs.Common.{◌≡◌, ◌+◌, ◌++◌, ◌∷◌, [], List, ℕ, None, get_or, length, take, refl, ap, ◌∙◌, arith}
use Rattle.std.proofs.lemmas.List.{flat_map_more}
use Rattle.bytecode.specs.declared.rows.ThreadRow.{ThreadRow}
use Rattle.bytecode.specs.Nodes.{thread_bytes}
use Rattle.bytecode.specs.Layout.{thread_rows}
use Rattle.bytecode.specs.Fits.{SayableThread}
use Rattle.bytecode.proofs.Columns.{thread_rows_more, all_push}
use Rattle.bytecode.proofs.writing.image.put_threads.Goals as goal

pub loop-t-preserved : goal.loop-t-preserved
loop-t-preserved c =
    let threads = c.threads-threads.result.now in
    let bounds = c.args.tables.now.bounds in
    let t = c.loop-t.t in
    let row : ThreadRow = record { thread = get_or threads t (record { parent = None; entry = 0 }); bound = c.bound.result } in
    let front = thread_rows (take t threads) bounds in
    let counted : length threads ≡ length c.args.program.now.threads = ap length c.threads-threads.ensures in
    let next : thread_rows (take (t + 1) threads) bounds ≡ front ++ row ∷ [] =
    thread_rows_more threads bounds t row (record { parent = None; entry = 0 }) (omega arith) (omega arith) refl c.bound.ensures in
    rw next (record {
      written = c.in_ok-put_thread.ensures.written ∙ ap (λ (bytes : List ℕ). bytes ++ thread_bytes row) c.loop-t.invariant.written
          ∙ flat_map_more thread_bytes c.args.out.now.items front row;
      fits = all_push SayableThread front row c.loop-t.invariant.fits c.in_ok-put_thread.ensures.fits;
    })

pub put_thread-requires : goal.put_thread-requires
put_thread-requires c = grind (arith, elements) steps 2000000

pub returns-clause-written : goal.returns-clause-written
returns-clause-written c = grind (arith, elements) steps 2000000

pub returns-clause-fits : goal.returns-clause-fits
returns-clause-fits c = grind (arith, elements) steps 2000000
