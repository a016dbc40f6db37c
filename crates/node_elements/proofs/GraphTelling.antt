-- Each node of the graph of a text does what stands at its point.
use Rattle.std.proofs.Common.{◌≡◌, ℕ, suc, ◌+◌, List, [], ◌∷◌, ◌++◌, map, refl, sym, ap, subst, ◌∙◌, append_assoc}
use Rattle.std.proofs.lemmas.List.{append-nil}
use Rattle.sc_values.specs.declared.expression.Expr.{Expr}
use Rattle.scl.specs.declared.program.Scl.{Scl}
use Rattle.scl.specs.declared.statement.Statement.{Statement}
use Rattle.scl.specs.declared.statement.Statement.TheOpen.{Statement-F}
use Rattle.scl.specs.declared.statement.Statement.TheOpen as text
use Rattle.scl.specs.declared.statement.Statement.TheViews.{roll-Statement}
use Rattle.scl.specs.declared.statement.Statement.TheFolds.{fold-roll-Statement, ind-Statement, map-Statement}
use Rattle.scl.specs.Block.{Block, End}
use Rattle.scl.specs.Numbering.{Numbers, Counts, beyond, branch_counts, branches_from, inside, numbered, pieces_of, thread_body}
use Rattle.scl.specs.Numbering as numbering
use Rattle.scl_graph.specs.declared.way.Way.{Way}
use Rattle.scl_graph.specs.declared.way.Way.TheVariants.{At}
use Rattle.scl_graph.specs.Graph.{among, below, end, of_thread, own, program_of, target, way}
use Rattle.node_elements.specs.declared.graph.origin.NodeOrigin.{NodeOrigin}
use Rattle.node_elements.specs.declared.graph.origin.NodeOrigin.TheVariants as node
use Rattle.node_elements.specs.Points.{Point, Ends, in_branches, in_row, points, points_of, text_points}
use Rattle.node_elements.specs.GraphOrigins.{Piece, behind_branches, behind_row, below_branches, below_row, node_origins, own_row, piece, piece_of, thread}
use Rattle.node_elements.specs.GraphLaws.{OriginsTellNodes}
use Rattle.node_elements.proofs.Standing.{AllDone, StandAt, done_append, done_at, done_length, reach, reach_append, stand_behind, stand_first, stand_whole}

-- of a piece of text its points, its origins, and its nodes fit together
pub record Tells (points : List Point) (p : Piece) (q : numbering.Piece) : Type 0 where
  pub behind : (n : ℕ) → p.behind n ≡ reach points n
  pub own : (all : List Point) (n : ℕ) → StandAt all n points →
      (go : Way → ℕ) (t : ℕ) (at : Numbers) (k : Block) (w : Way) (more : List NodeOrigin) → AllDone all more (own go t k w) →
      AllDone all (p.own n ++ more) (own go t (q.made at k) w)
  pub below : (all : List Point) (n : ℕ) → StandAt all n points → (go : Way → ℕ) (at : Numbers) (k : Block) (more : List NodeOrigin) →
      AllDone all more (below go k) → AllDone all (p.below n ++ more) (below go (q.made at k))

abbrev RowTells : List (List Point) → List Piece → List numbering.Piece → Type 0
RowTells [] [] [] = Unit {0}
RowTells (a ∷ cs) (p ∷ ps) (q ∷ qs) = Tells a p q × RowTells cs ps qs
RowTells cs ps qs = ⊥

-- what a row of pieces keeps, which has its own folds
pub record Row (points : List Point) (ps : List Piece) (q : numbering.Piece) : Type 0 where
  pub behind : (n : ℕ) → behind_row ps n ≡ reach points n
  pub own : (all : List Point) (n : ℕ) → StandAt all n points →
      (go : Way → ℕ) (t : ℕ) (at : Numbers) (k : Block) (w : Way) (more : List NodeOrigin) → AllDone all more (own go t k w) →
      AllDone all (own_row ps n ++ more) (own go t (q.made at k) w)
  pub below : (all : List Point) (n : ℕ) → StandAt all n points → (go : Way → ℕ) (at : Numbers) (k : Block) (more : List NodeOrigin) →
      AllDone all more (below go k) → AllDone all (below_row ps n ++ more) (below go (q.made at k))

-- the points behind others, by the number behind these
placed : (all : List Point) (n m : ℕ) (a b : List Point) → m ≡ reach a n → StandAt all n (a ++ b) → StandAt all m b
placed all n m a b is h = subst (λ m. StandAt all m b) (sym is) (stand_behind all n a b h)

row_tells : (cs : List (List Point)) (ps : List Piece) (qs : List numbering.Piece) → RowTells cs ps qs → Row (in_row cs) ps (numbering.in_row qs)
row_tells [] [] [] h = record { behind = λ n. refl; own = λ all n stands go t at k w more done. done; below = λ all n stands go at k more done. done }
row_tells [] [] (q ∷ qs) h = absurd h
row_tells [] (p ∷ ps) qs h = absurd h
row_tells (a ∷ cs) [] qs h = absurd h
row_tells (a ∷ cs) (p ∷ ps) [] h = absurd h
row_tells (a ∷ cs) (p ∷ ps) (q ∷ qs) h =
    let others : Row (in_row cs) ps (numbering.in_row qs) = row_tells cs ps qs h.1 in
    record {
      behind = λ n. others.behind (p.behind n) ∙ ap (reach (in_row cs)) (h.0.behind n) ∙ sym (reach_append a (in_row cs) n);
      own = λ all n stands go t at k w more done.
          let rest : Block = (numbering.in_row qs).made (beyond at q.counts) k in
          subst (λ os. AllDone all os (own go t (q.made at rest) w)) (sym (append_assoc (p.own n) (own_row ps (p.behind n)) more))
          (h.0.own all n (stand_first all n a (in_row cs) stands) go t at rest w (own_row ps (p.behind n) ++ more)
          (others.own all (p.behind n) (placed all n (p.behind n) a (in_row cs) (h.0.behind n) stands) go t (beyond at q.counts) k w more done));
      below = λ all n stands go at k more done.
          let rest : Block = (numbering.in_row qs).made (beyond at q.counts) k in
          subst (λ os. AllDone all os (below go (q.made at rest))) (sym (append_assoc (p.below n) (below_row ps (p.behind n)) more))
          (h.0.below all n (stand_first all n a (in_row cs) stands) go at rest (below_row ps (p.behind n) ++ more)
          (others.below all (p.behind n) (placed all n (p.behind n) a (in_row cs) (h.0.behind n) stands) go (beyond at q.counts) k more done));
    }

-- ---- each statement

assign_tells : (x : ℕ) (e : Expr) → Tells (points (text.Assign x e)) (piece (text.Assign x e)) (numbering.piece (text.Assign x e))
assign_tells x e = record {
  behind = λ n. refl;
  own = λ all n stands go t at k w more done. ((_, stands.0, (_, refl)), done);
  below = λ all n stands go at k more done. done;
}

label_tells : (name : List ℕ) → Tells (points (text.Label name)) (piece (text.Label name)) (numbering.piece (text.Label name))
label_tells name = record {
  behind = λ n. refl;
  own = λ all n stands go t at k w more done. done;
  below = λ all n stands go at k more done. done;
}

goto_tells : (name : List ℕ) → Tells (points (text.Goto name)) (piece (text.Goto name)) (numbering.piece (text.Goto name))
goto_tells name = record {
  behind = λ n. refl;
  own = λ all n stands go t at k w more done. done;
  below = λ all n stands go at k more done. done;
}

pause_tells : Tells (points text.Pause) (piece text.Pause) (numbering.piece text.Pause)
pause_tells = record {
  behind = λ n. refl;
  own = λ all n stands go t at k w more done. ((_, stands.0, (_, refl)), ((_, stands.0, (_, refl)), done));
  below = λ all n stands go at k more done. done;
}

-- a list that stands by itself
own_alone : (points : List Point) (ps : List Piece) (q : numbering.Piece) → Row points ps q → (all : List Point) (n : ℕ) → StandAt all n points →
    (go : Way → ℕ) (t : ℕ) (at : Numbers) (m : ℕ) (w : Way) → AllDone all (own_row ps n) (own go t (q.made at (End m)) w)
own_alone points ps q h all n stands go t at m w =
    subst (λ os. AllDone all os (own go t (q.made at (End m)) w)) (append-nil (own_row ps n)) (h.own all n stands go t at (End m) w [] tt)

below_alone : (points : List Point) (ps : List Piece) (q : numbering.Piece) → Row points ps q → (all : List Point) (n : ℕ) → StandAt all n points →
    (go : Way → ℕ) (at : Numbers) (m : ℕ) → AllDone all (below_row ps n) (below go (q.made at (End m)))
below_alone points ps q h all n stands go at m =
    subst (λ os. AllDone all os (below go (q.made at (End m)))) (append-nil (below_row ps n)) (h.below all n stands go at (End m) [] tt)

if_tells : (e : Expr) (a b : List (List Point)) (p r : List Piece) (q s : List numbering.Piece) → Row (in_row a) p (numbering.in_row q) →
    Row (in_row b) r (numbering.in_row s) → Tells (points (text.If e a b)) (piece (text.If e p r)) (numbering.piece (text.If e q s))
if_tells e a b p r q s first second = record {
  behind = λ n. second.behind (behind_row p (suc n)) ∙ ap (reach (in_row b)) (first.behind (suc n)) ∙
      sym (reach_append (in_row a) (in_row b) (suc n));
  own = λ all n stands go t at k w more done.
      let m : ℕ = behind_row p (suc n) in
      let u : Way = way k w in
      let in_first : Numbers = record at { node = 1 + at.node } in
      let in_second : Numbers = beyond in_first (numbering.in_row q).counts in
      let f : Block = (numbering.in_row q).made in_first (End 0) in
      let g : Block = (numbering.in_row s).made in_second (End 0) in
      let both : AllDone all (own_row p (suc n) ++ own_row r m) (own go t f u ++ own go t g u) =
      done_append all (own_row p (suc n)) (own_row r m) (own go t f u) (own go t g u)
      (own_alone (in_row a) p (numbering.in_row q) first all (suc n) (stand_first all (suc n) (in_row a) (in_row b) stands.1) go t in_first 0 u)
      (own_alone (in_row b) r (numbering.in_row s) second all m (placed all (suc n) m (in_row a) (in_row b) (first.behind (suc n)) stands.1) go t
      in_second 0 u) in
      ((_, stands.0, (_, _, refl)), done_append all (own_row p (suc n) ++ own_row r m) more (own go t f u ++ own go t g u) (own go t k w) both done);
  below = λ all n stands go at k more done.
      let m : ℕ = behind_row p (suc n) in
      let in_first : Numbers = record at { node = 1 + at.node } in
      let in_second : Numbers = beyond in_first (numbering.in_row q).counts in
      let f : Block = (numbering.in_row q).made in_first (End 0) in
      let g : Block = (numbering.in_row s).made in_second (End 0) in
      let both : AllDone all (below_row p (suc n) ++ below_row r m) (below go f ++ below go g) =
      done_append all (below_row p (suc n)) (below_row r m) (below go f) (below go g)
      (below_alone (in_row a) p (numbering.in_row q) first all (suc n) (stand_first all (suc n) (in_row a) (in_row b) stands.1) go in_first 0)
      (below_alone (in_row b) r (numbering.in_row s) second all m (placed all (suc n) m (in_row a) (in_row b) (first.behind (suc n)) stands.1) go
      in_second 0) in
      done_append all (below_row p (suc n) ++ below_row r m) more (below go f ++ below go g) (below go k) both done;
}

abbrev RowsTell : List (List (List Point)) → List (List Piece) → List (List numbering.Piece) → Type 0
RowsTell [] [] [] = Unit {0}
RowsTell (a ∷ cs) (p ∷ ps) (q ∷ qs) = Row (in_row a) p (numbering.in_row q) × RowsTell cs ps qs
RowsTell cs ps qs = ⊥

-- a thread with its end
thread_tells : (points : List Point) (ps : List Piece) (q : numbering.Piece) → Row points ps q → (all : List Point) (n : ℕ) → StandAt all n points →
    StandAt all (behind_row ps n) (Ends ∷ []) → (go : Way → ℕ) (t m : ℕ) (at : Numbers) → AllDone all (thread ps n) (of_thread go t (thread_body q m at))
thread_tells points ps q h all n stands ends go t m at =
    let body : Block = thread_body q m at in
    done_append all (own_row ps n) (node.First (behind_row ps n) ∷ []) (own go t body (At (end body))) _
    (own_alone points ps q h all n stands go t (record at { node = m }) (m + q.counts.nodes) (At (end body)))
    ((Ends, ends.0, refl), tt)

behind_all : (cs : List (List (List Point))) (ps : List (List Piece)) (qs : List (List numbering.Piece)) → RowsTell cs ps qs → (n : ℕ) →
    behind_branches ps n ≡ reach (in_branches cs) n
behind_all [] [] [] h n = refl
behind_all [] [] (q ∷ qs) h n = absurd h
behind_all [] (p ∷ ps) qs h n = absurd h
behind_all (a ∷ cs) [] qs h n = absurd h
behind_all (a ∷ cs) (p ∷ ps) [] h n = absurd h
behind_all (a ∷ cs) (p ∷ ps) (q ∷ qs) h n =
    behind_all cs ps qs h.1 (suc (behind_row p n)) ∙ ap (λ m. reach (in_branches cs) (suc m)) (h.0.behind n) ∙
    sym (reach_append (in_row a) (Ends ∷ in_branches cs) n)

branches_tell : (cs : List (List (List Point))) (ps : List (List Piece)) (qs : List (List numbering.Piece)) → RowsTell cs ps qs →
    (all : List Point) (n : ℕ) → StandAt all n (in_branches cs) → (go : Way → ℕ) (at : Numbers) →
    AllDone all (below_branches ps n) (among go (branches_from qs at))
branches_tell [] [] [] h all n stands go at = tt
branches_tell [] [] (q ∷ qs) h all n stands go at = absurd h
branches_tell [] (p ∷ ps) qs h all n stands go at = absurd h
branches_tell (a ∷ cs) [] qs h all n stands go at = absurd h
branches_tell (a ∷ cs) (p ∷ ps) [] h all n stands go at = absurd h
branches_tell (a ∷ cs) (p ∷ ps) (q ∷ qs) h all n stands go at =
    let c : Counts = (numbering.in_row q).counts in
    let within : Numbers = inside at c in
    let body : Block = thread_body (numbering.in_row q) at.base within in
    let here : StandAt all n (in_row a) = stand_first all n (in_row a) (Ends ∷ in_branches cs) stands in
    let later : StandAt all (behind_row p n) (Ends ∷ in_branches cs) = placed all n (behind_row p n) (in_row a) (Ends ∷ in_branches cs)
    (h.0.behind n) stands in
    done_append all (thread p n ++ below_row p n) (below_branches ps (suc (behind_row p n))) (of_thread go at.thread body ++ below go body) _
    (done_append all (thread p n) (below_row p n) (of_thread go at.thread body) (below go body)
    (thread_tells (in_row a) p (numbering.in_row q) h.0 all n here (later.0, tt) go at.thread at.base within)
    (below_alone (in_row a) p (numbering.in_row q) h.0 all n here go (record within { node = at.base }) (at.base + c.nodes)))
    (branches_tell cs ps qs h.1 all (suc (behind_row p n)) later.1 go (beyond at (branch_counts c)))

fork_tells : (cs : List (List (List Point))) (ps : List (List Piece)) (qs : List (List numbering.Piece)) → RowsTell cs ps qs →
    Tells (points (text.Fork cs)) (piece (text.Fork ps)) (numbering.piece (text.Fork qs))
fork_tells cs ps qs h = record {
  behind = λ n. behind_all cs ps qs h (suc n);
  own = λ all n stands go t at k w more done. ((_, stands.0, (_, _, refl)), ((_, stands.0, (_, refl)), done));
  below = λ all n stands go at k more done. done_append all (below_branches ps (suc n)) more (among go (branches_from qs at)) (below go k)
      (branches_tell cs ps qs h all (suc n) stands.1 go at) done;
}

-- ---- each text

abbrev TellsOf : Statement → Type 0
TellsOf s = Tells (points_of s) (piece_of s) (numbering.piece_of s)

abbrev Known : Type 0
Known = (s : Statement) × TellsOf s

known_each : (xs : List Known) →
    RowTells (map points_of (map (λ x. x.0) xs)) (map piece_of (map (λ x. x.0) xs)) (map numbering.piece_of (map (λ x. x.0) xs))
known_each [] = tt
known_each (x ∷ xs) = (x.1, known_each xs)

known_row : (xs : List Known) →
    Row (in_row (map points_of (map (λ x. x.0) xs))) (map piece_of (map (λ x. x.0) xs)) (numbering.in_row (map numbering.piece_of (map (λ x. x.0) xs)))
known_row xs = row_tells (map points_of (map (λ x. x.0) xs)) (map piece_of (map (λ x. x.0) xs)) (map numbering.piece_of (map (λ x. x.0) xs))
    (known_each xs)

known_rows : (xss : List (List Known)) →
    RowsTell (map (map points_of) (map (map (λ x. x.0)) xss)) (map (map piece_of) (map (map (λ x. x.0)) xss))
    (map (map numbering.piece_of) (map (map (λ x. x.0)) xss))
known_rows [] = tt
known_rows (xs ∷ xss) = (known_row xs, known_rows xss)

abbrev Layer : Statement-F Statement → Type 0
Layer z = Tells (points (map-Statement Statement (List Point) points_of z)) (piece (map-Statement Statement Piece piece_of z))
    (numbering.piece (map-Statement Statement numbering.Piece numbering.piece_of z))

at_layer : (y : Statement-F Known) → Layer (map-Statement Known Statement (λ x. x.0) y)
at_layer (text.Assign x e) = assign_tells x e
at_layer (text.Label name) = label_tells name
at_layer (text.Goto name) = goto_tells name
at_layer text.Pause = pause_tells
at_layer (text.If e a b) =
    if_tells e (map points_of (map (λ x. x.0) a)) (map points_of (map (λ x. x.0) b)) (map piece_of (map (λ x. x.0) a))
    (map piece_of (map (λ x. x.0) b)) (map numbering.piece_of (map (λ x. x.0) a)) (map numbering.piece_of (map (λ x. x.0) b)) (known_row a)
    (known_row b)
at_layer (text.Fork branches) =
    fork_tells (map (map points_of) (map (map (λ x. x.0)) branches)) (map (map piece_of) (map (map (λ x. x.0)) branches))
    (map (map numbering.piece_of) (map (map (λ x. x.0)) branches)) (known_rows branches)

statement_tells : (s : Statement) → TellsOf s
statement_tells = ind-Statement TellsOf (λ x y is.
    subst (λ a. Tells a (piece_of (roll-Statement x)) (numbering.piece_of (roll-Statement x))) (sym (fold-roll-Statement (List Point) points x))
    (subst (λ p. Tells (points (map-Statement Statement (List Point) points_of x)) p (numbering.piece_of (roll-Statement x)))
    (sym (fold-roll-Statement Piece piece x))
    (subst (λ q. Tells (points (map-Statement Statement (List Point) points_of x)) (piece (map-Statement Statement Piece piece_of x)) q)
    (sym (fold-roll-Statement numbering.Piece numbering.piece x))
    (subst Layer is (at_layer y)))))

each_tells : (statements : List Statement) → RowTells (map points_of statements) (map piece_of statements) (pieces_of statements)
each_tells [] = tt
each_tells (s ∷ statements) = (statement_tells s, each_tells statements)

program_tells : (p : Scl) → AllDone (text_points p.body) (node_origins p.body) (program_of (numbered p)).nodes
program_tells p =
    let all : List Point = text_points p.body in
    let cs : List Point = in_row (map points_of p.body) in
    let ps : List Piece = map piece_of p.body in
    let q : numbering.Piece = numbering.in_row (pieces_of p.body) in
    let row : Row cs ps q = row_tells (map points_of p.body) ps (pieces_of p.body) (each_tells p.body) in
    let at : Numbers = record { node = 0; thread = 1; base = suc q.counts.nodes; goto = 0 } in
    let go : Way → ℕ = target (numbered p).root in
    let whole : StandAt all 0 (cs ++ Ends ∷ []) = stand_whole all in
    let here : StandAt all 0 cs = stand_first all 0 cs (Ends ∷ []) whole in
    done_append all (thread ps 0) (below_row ps 0) (of_thread go 0 (numbered p).root) (below go (numbered p).root)
    (thread_tells cs ps q row all 0 here (placed all 0 (behind_row ps 0) cs (Ends ∷ []) (row.behind 0) whole) go 0 0 at)
    (below_alone cs ps q row all 0 here go at (0 + q.counts.nodes))

pub origins_tell : OriginsTellNodes
origins_tell p = record {
  each = done_length (text_points p.body) (node_origins p.body) (program_of (numbered p)).nodes (program_tells p);
  done = done_at (text_points p.body) (node_origins p.body) (program_of (numbered p)).nodes (program_tells p);
}
