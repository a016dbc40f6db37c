-- The run that always takes a step of the greatest rank.
use Rattle.std.proofs.Common.{◌≡◌, ◌≢◌, ℕ, zero, suc, ◌≤◌, ⊎_elim, true, Option, Some, None, option_and_then, List, [], ◌∷◌}
use Rattle.std.proofs.Common.{length, refl, sym, ap, subst, ◌∙◌, arith}
use Rattle.std.proofs.lemmas.Bool.{cases_Bool}
use Rattle.std.proofs.lemmas.Option.{none-some, same_Some}
use Rattle.sc_values.specs.Access.{Access, MayPrecede}
use Rattle.sc_values.specs.Runs.{Machine, replay, IsOver, act_of, acts, acts_after}
use Rattle.sc_values.proofs.Order.{Clear, EachIsOpen, Orderly, admissible_from_orderly}
use Rattle.preemption_laws.proofs.Greatest.{Leads, NoneOf, leader}
use Rattle.preemption_laws.specs.Ranked.{Ranked, Next, ComesToAnEnd}

-- the first step of a run, and the rest of it
pub record Begins (m : Machine) (t : ℕ) (run : List ℕ) (c last : m.Configuration) : Type 0 where
  pub next : m.Configuration
  pub steps : m.step t c ≡ Some next
  pub rest : replay m run next ≡ Some last

pub begins : (m : Machine) (t : ℕ) (run : List ℕ) (c last : m.Configuration) → replay m (t ∷ run) c ≡ Some last → Begins m t run c last
begins m t run c last runs = at (m.step t c) refl runs
  where
    at : (o : Option m.Configuration) → m.step t c ≡ o → option_and_then (replay m run) o ≡ Some last → Begins m t run c last
    at None is h = absurd (none-some last h)
    at (Some d) is h = record { next = d; steps = is; rest = h }

-- what each step keeps, each run keeps
pub holds_along : (m : Machine) (P : m.Configuration → Type 0) → ((c d : m.Configuration) (t : ℕ) → P c → m.step t c ≡ Some d → P d) →
    (run : List ℕ) (c d : m.Configuration) → P c → replay m run c ≡ Some d → P d
holds_along m P keeps [] c d holds runs = subst P (same_Some c d runs) holds
holds_along m P keeps (t ∷ run) c d holds runs =
    let b : Begins m t run c d = begins m t run c d runs in holds_along m P keeps run b.next d (keeps c b.next t holds b.steps) b.rest

acts_on : (m : Machine) (t : ℕ) (run : List ℕ) (c d : m.Configuration) → m.step t c ≡ Some d → acts m (t ∷ run) c ≡ act_of m c t ∷ acts m run d
acts_on m t run c d steps = ap (λ o. act_of m c t ∷ acts_after m (acts m run) o) steps

module _ (m : Machine) (r : Ranked m) where
  -- nobody has a greater rank than this
  abbrev Tops : ℕ → m.Configuration → r.Known → Type 0
  Tops top c k = (u : ℕ) → m.enabled c u ≡ true → r.rank k u ≤ top

  -- ---- who had the greatest rank may precede all that follow

  tops_kept : (top : ℕ) (c d : m.Configuration) (k : r.Known) → (n : Next m r.Known r.Holds r.rank r.left c k d) → Tops top c k → Tops top d n.known
  tops_kept top c d k n tops u on = let before = n.falls u on in
      let low = tops before.0 before.1 in let less = before.2 in omega (arith, low, less)

  clear_first : (top t : ℕ) (access : Access) →
      ((d : m.Configuration) (l : r.Known) (u a : ℕ) → r.Holds d l → m.enabled d u ≡ true → m.ForkedApart t u a → r.rank l u ≤ top →
      MayPrecede access (m.access d u)) →
      (run : List ℕ) (IsOpen : ℕ → Type 0) (c last : m.Configuration) (k : r.Known) → r.Holds c k → Tops top c k → replay m run c ≡ Some last →
      Clear m.ForkedApart (record { thread = t; access = access }) IsOpen (acts m run c)
  clear_first top t access order [] IsOpen c last k holds tops runs = tt
  clear_first top t access order (u ∷ run) IsOpen c last k holds tops runs =
      let b : Begins m u run c last = begins m u run c last runs in
      let n : Next m r.Known r.Holds r.rank r.left c k b.next = r.next c b.next k u holds b.steps in
      let on : m.enabled c u ≡ true = r.turns c b.next u b.steps in
      subst (Clear m.ForkedApart (record { thread = t; access = access }) IsOpen) (sym (acts_on m u run c b.next b.steps)) (
        (λ a apart is_open. order c k u a holds on apart (tops u on)),
        clear_first top t access order run (λ a. IsOpen a × (u ≢ a)) b.next last n.known n.holds (tops_kept top c b.next k n tops) b.rest,
      )

  -- ---- the run by rank

  record Orders (c : m.Configuration) : Type 0 where
    run : List ℕ
    last : m.Configuration
    runs : replay m run c ≡ Some last
    over : IsOver m last
    orderly : Orderly m.ForkedApart (acts m run c)

  module _ (c : m.Configuration) (k : r.Known) (holds : r.Holds c k) where
    done : NoneOf (m.enabled c) (r.rank k) (r.threads c) → Orders c
    done none =
        record {
          run = [];
          last = c;
          runs = refl;
          over = λ u. ⊎_elim (λ on. let off = none u (r.among c k u holds on) in absurd cc) (λ off. off) (cases_Bool (m.enabled c u));
          orderly = tt;
        }

    module _ (t : ℕ) (leads : Leads (m.enabled c) (r.rank k) (r.threads c) t) where
      stepped : (d : m.Configuration) × (m.step t c ≡ Some d)
      stepped = r.defined c k t holds leads.on

      next : Next m r.Known r.Holds r.rank r.left c k stepped.0
      next = r.next c stepped.0 k t holds stepped.1

      first : Orders stepped.0 → Orders c
      first rest =
          record {
            run = t ∷ rest.run;
            last = rest.last;
            runs = ap (option_and_then (replay m rest.run)) stepped.1 ∙ rest.runs;
            over = rest.over;
            orderly = subst (Orderly m.ForkedApart) (sym (acts_on m t rest.run c stepped.0 stepped.1)) (
              clear_first (r.rank k t) t (m.access c t) (λ e l u a there on apart low. r.order c e k l t u a holds there leads.on on apart low)
                  rest.run EachIsOpen stepped.0 rest.last next.known next.holds
                  (tops_kept (r.rank k t) c stepped.0 k next (λ u on. leads.greatest u (r.among c k u holds on) on)) rest.runs,
              rest.orderly,
            );
          }

  finish : (fuel : ℕ) (c : m.Configuration) (k : r.Known) → r.Holds c k → r.left k ≤ fuel → Orders c
  finish zero c k holds enough = ⊎_elim (λ first. let n = next c k holds first.0 first.1 in let less = n.fewer in absurd (omega (arith, less, enough)))
      (done c k holds) (leader (m.enabled c) (r.rank k) (r.threads c))
  finish (suc fuel) c k holds enough = ⊎_elim
      (λ one. let n = next c k holds one.0 one.1 in let less = n.fewer in
      first c k holds one.0 one.1 (finish fuel (stepped c k holds one.0 one.1).0 n.known n.holds (omega (arith, less, enough))))
      (done c k holds) (leader (m.enabled c) (r.rank k) (r.threads c))

  bounded : (run : List ℕ) (c last : m.Configuration) (k : r.Known) → r.Holds c k → replay m run c ≡ Some last → length run ≤ r.left k
  bounded [] c last k holds runs = omega arith
  bounded (t ∷ run) c last k holds runs =
      let b : Begins m t run c last = begins m t run c last runs in
      let n : Next m r.Known r.Holds r.rank r.left c k b.next = r.next c b.next k t holds b.steps in
      let less = n.fewer in
      let rest : length run ≤ r.left n.known = bounded run b.next last n.known n.holds b.rest in omega (arith, less, rest)

  pub comes_to_an_end : (c : m.Configuration) (k : r.Known) → r.Holds c k → ComesToAnEnd m c (r.left k)
  comes_to_an_end c k holds =
      let o : Orders c = finish (r.left k) c k holds (omega arith) in
      record {
        bounded = λ run d runs. bounded run c d k holds runs;
        end = o.last;
        ends = record {
          run = o.run;
          complete = record { runs = o.runs; over = o.over };
          admissible = admissible_from_orderly m.ForkedApart (acts m o.run c) o.orderly;
        };
      }
