-- What the rules of pairs of nodes say of two threads that are forked apart, and so of two enabled ones:
-- they don't clash, and priority falls where one must come before the other.
use Rattle.std.proofs.Common.{◌≡◌, ◌≢◌, ℕ, ◌<◌, Some, sym, ap, subst, subst₂, ◌∙◌, ⊎_elim}
use Rattle.std.proofs.lemmas.Option.{same_Some}
use Rattle.std.proofs.lemmas.Bool.{cases_order}
use Rattle.sc_values.specs.Access.{Precedes, Clash}
use Rattle.sc_graph.specs.declared.tables.Tables.{Tables}
use Rattle.sc_graph.specs.declared.control.Control.{Control}
use Rattle.sc_graph.specs.declared.place.Place.TheVariants as place
use Rattle.sc_graph.specs.Program.{Program, owner_of}
use Rattle.sc_graph.specs.Threads.{ForkedApart, ConcurrentNodes}
use Rattle.sc_graph.specs.Accesses.{accesses}
use Rattle.sc_graph.specs.Tables.{priority, priority_of}
use Rattle.sc_graph.specs.Control.{status_of, access_at}
use Rattle.sc_graph.specs.Tick.{IsConfiguration}
use Rattle.sc_graph.specs.Valid.{IsValid}
use Rattle.tick_laws.proofs.Formed.{valid_formed}
use Rattle.tick_laws.proofs.Kin.{apart_turned, enabled_meet}
use Rattle.tick_laws.proofs.Tree.{not_self_apart}
use Rattle.sc_values.proofs.Literals.{clash_turned}
use Rattle.tick_laws.proofs.Views.{Enabled, stands, completes}
use Rattle.tick_laws.proofs.Sound.{node_owned, waits_owned}

-- the node from which a enabled thread steps: its own, or the join at which it waits
pub record StepsFrom (p : Program) (q : Tables) (c : Control) (t : ℕ) : Type 0 where
  pub node : ℕ
  pub owned : owner_of p node ≡ Some t
  pub access : access_at p (status_of c t) ≡ accesses p node
  pub priority : priority_of q (status_of c t) ≡ priority q node

module _ (p : Program) (q : Tables) (valid : IsValid p q) where
  -- the nodes of two threads that a third forks apart
  nodes_apart : (m n t u a : ℕ) → owner_of p m ≡ Some t → owner_of p n ≡ Some u → ForkedApart p t u a → ConcurrentNodes p m n
  nodes_apart m n t u a of_m of_n apart = record {
    first = t;
    second = u;
    first_owner = of_m;
    second_owner = of_n;
    concurrent = record { forking = a; apart = apart };
  }

  -- don't clash
  pub no_clash : (m n t u a : ℕ) → owner_of p m ≡ Some t → owner_of p n ≡ Some u → ForkedApart p t u a → ¬ Clash (accesses p m) (accesses p n)
  no_clash m n t u a of_m of_n apart clash = ⊎_elim one_node (λ differ. ⊎_elim in_order turned differ) (cases_order m n)
    where
      one_node : m ≡ n → ⊥
      one_node e =
          not_self_apart p (valid_formed p q valid) t a
          (subst (λ v. ForkedApart p t v a) (same_Some u t (sym of_n ∙ (ap (owner_of p) (sym e) ∙ of_m))) apart)

      in_order : m < n → ⊥
      in_order h = valid.no_conflict (place.Pair m n) (record { in_order = h; concurrent = nodes_apart m n t u a of_m of_n apart; clash = clash })

      turned : n < m → ⊥
      turned h =
          valid.no_conflict (place.Pair n m)
          (record {
            in_order = h;
            concurrent = nodes_apart n m u t a of_n of_m (apart_turned p t u a apart);
            clash = clash_turned (accesses p m) (accesses p n) clash;
          })

  -- and priority falls strictly from the one that must come before
  pub edge_falls : (m n t u a : ℕ) → owner_of p m ≡ Some t → owner_of p n ≡ Some u → ForkedApart p t u a → Precedes (accesses p m) (accesses p n)
      → priority q n < priority q m
  edge_falls m n t u a of_m of_n apart precedes = valid.protocol (place.Pair m n)
      (record { concurrent = nodes_apart m n t u a of_m of_n apart; precedes = precedes })

  module _ (c : Control) (ok : IsConfiguration p c) where
    pub steps_from : (t : ℕ) → Enabled p c t → StepsFrom p q c t
    steps_from t (stands n at) = record {
      node = n;
      owned = node_owned p (valid_formed p q valid) c ok t n at;
      access = ap (access_at p) at;
      priority = ap (priority_of q) at;
    }
    steps_from t (completes h) = record {
      node = h.join;
      owned = waits_owned p (valid_formed p q valid) c ok t h.join h.at;
      access = ap (access_at p) h.at;
      priority = ap (priority_of q) h.at;
    }

    meet : (t u : ℕ) → t ≢ u → Enabled p c t → Enabled p c u → (a : ℕ) × ForkedApart p t u a
    meet t u ne r s = enabled_meet p (valid_formed p q valid) c ok t u r s ne

    -- the steps of two enabled threads don't clash
    pub enabled_no_clash : (t u : ℕ) → t ≢ u → Enabled p c t → Enabled p c u → ¬ Clash (access_at p (status_of c t)) (access_at p (status_of c u))
    enabled_no_clash t u ne r s clash =
        let from = steps_from t r in
        let to = steps_from u s in
        let m = meet t u ne r s in
        no_clash from.node to.node t u m.0 from.owned to.owned m.1 (subst₂ Clash from.access to.access clash)

    -- and priority falls strictly from the one that must come before
    pub enabled_edge_falls : (t u : ℕ) → t ≢ u → Enabled p c t → Enabled p c u → Precedes (access_at p (status_of c t)) (access_at p (status_of c u)) →
        priority_of q (status_of c u) < priority_of q (status_of c t)
    enabled_edge_falls t u ne r s precedes =
        let from = steps_from t r in
        let to = steps_from u s in
        let m = meet t u ne r s in
        let less : priority q to.node < priority q from.node = edge_falls from.node to.node t u m.0 from.owned to.owned m.1
        (subst₂ Precedes from.access to.access precedes) in
        subst₂ ◌<◌ (sym to.priority) (sym from.priority) less
