-- Machines that go alike step by step have the same runs.
use Rattle.std.proofs.Common.{◌≡◌, ℕ, Option, Some, None, List, [], ◌∷◌, refl, ap, sym, subst, ◌∙◌, option_and_then}
use Rattle.std.proofs.lemmas.Option.{same_Some}
use Rattle.sc_values.specs.Runs.{Machine, replay, IsOver, Act, act_of, acts, acts_after, IsOrdered, IsAdmissible, Ends}
use Rattle.scl_graph_laws.specs.Alike.{Both, IsAlike, EndsAlike, RunsAlike}

-- what one side has, the other has too
pub from_both : {A B : Type 0} (R : A → B → Type 0) (x : Option A) (y : Option B) (a : A) → Both R x y → x ≡ Some a → (b : B) × (y ≡ Some b) × R a b
from_both R (Some d) (Some b) a h e = (b, refl, subst (λ a. R a b) (same_Some d a e) h)
from_both R None y a h e = absurd (cc)
from_both R (Some d) None a h e = absurd h

pub both_back : {A B : Type 0} (R : A → B → Type 0) (x : Option A) (y : Option B) → Both R x y → Both (λ b a. R a b) y x
both_back R None None h = tt
both_back R (Some a) (Some b) h = h
both_back R None (Some b) h = absurd h
both_back R (Some a) None h = absurd h

pub both_then : {A B : Type 0} (R : A → B → Type 0) (f : A → Option A) (g : B → Option B) → ((a : A) (b : B) → R a b → Both R (f a) (g b))
    → (x : Option A) (y : Option B) → Both R x y → Both R (option_and_then f x) (option_and_then g y)
both_then R f g each None None h = tt
both_then R f g each (Some a) (Some b) h = each a b h
both_then R f g each None (Some b) h = absurd h
both_then R f g each (Some a) None h = absurd h

-- the order of steps is asked of concurrent threads alone
ordered : (F G : ℕ → ℕ → ℕ → Type 0) (steps others : List Act) → steps ≡ others → ((t u a : ℕ) → G t u a → F t u a) → IsOrdered F steps → IsOrdered G others
ordered F G steps others same apart h = subst (IsOrdered G) same
    (λ i j lt both. h i j lt (record {
      first = both.first;
      second = both.second;
      is_first = both.is_first;
      is_second = both.is_second;
      forking = both.forking;
      apart = apart both.first.thread both.second.thread both.forking both.apart;
      between = both.between;
    }))

module _ (m n : Machine) (R : m.Configuration → n.Configuration → Type 0) (alike : IsAlike m n R) where
  runs : (run : List ℕ) (a : m.Configuration) (b : n.Configuration) → R a b → Both R (replay m run a) (replay n run b)
  runs [] a b h = h
  runs (t ∷ run) a b h = both_then R (replay m run) (replay n run) (λ c d k. runs run c d k) (m.step t a) (n.step t b) (alike.step a b t h)

  same_after : (f : m.Configuration → List Act) (g : n.Configuration → List Act) → ((a : m.Configuration) (b : n.Configuration) → R a b → f a ≡ g b)
      → (x : Option m.Configuration) (y : Option n.Configuration) → Both R x y → acts_after m f x ≡ acts_after n g y
  same_after f g each None None h = refl
  same_after f g each (Some a) (Some b) h = each a b h
  same_after f g each None (Some b) h = absurd h
  same_after f g each (Some a) None h = absurd h

  same_acts : (run : List ℕ) (a : m.Configuration) (b : n.Configuration) → R a b → acts m run a ≡ acts n run b
  same_acts [] a b h = refl
  same_acts (t ∷ run) a b h =
      let rest : acts_after m (acts m run) (m.step t a) ≡ acts_after n (acts n run) (n.step t b) = same_after (acts m run) (acts n run)
      (λ c d k. same_acts run c d k) (m.step t a) (n.step t b) (alike.step a b t h) in
      ap (λ x. record { thread = t; access = x } ∷ acts_after m (acts m run) (m.step t a)) (alike.access a b t h) ∙ ap (λ r. act_of n b t ∷ r) rest

  admissible : (run : List ℕ) (a : m.Configuration) (b : n.Configuration) → R a b → IsAdmissible m run a → IsAdmissible n run b
  admissible run a b h = ordered m.ForkedApart n.ForkedApart (acts m run a) (acts n run b) (same_acts run a b h) (λ t u f. (alike.apart t u f).1)

  admissible_back : (run : List ℕ) (a : m.Configuration) (b : n.Configuration) → R a b → IsAdmissible n run b → IsAdmissible m run a
  admissible_back run a b h = ordered n.ForkedApart m.ForkedApart (acts n run b) (acts m run a) (sym (same_acts run a b h)) (λ t u f. (alike.apart t u f).0)

  over : (a : m.Configuration) (b : n.Configuration) → R a b → IsOver m a → IsOver n b
  over a b h o t = sym (alike.enabled a b t h) ∙ o t

  over_back : (a : m.Configuration) (b : n.Configuration) → R a b → IsOver n b → IsOver m a
  over_back a b h o t = alike.enabled a b t h ∙ o t

  ends : (a : m.Configuration) (b : n.Configuration) (d : m.Configuration) → R a b → Ends m a d → EndsAlike n m.Configuration R d b
  ends a b d h e =
      let at : _ = from_both R (replay m e.run a) (replay n e.run b) d (runs e.run a b h) e.complete.runs in
      record {
        end = at.0;
        is_end = record {
          run = e.run;
          complete = record { runs = at.1; over = over d at.0 at.2 e.complete.over };
          admissible = admissible e.run a b h e.admissible;
        };
        corresponds = at.2;
      }

  ends_back : (a : m.Configuration) (b : n.Configuration) (d : n.Configuration) → R a b → Ends n b d → EndsAlike m n.Configuration (λ e d. R d e) d a
  ends_back a b d h e =
      let at : _ = from_both (λ y x. R x y) (replay n e.run b) (replay m e.run a) d (both_back R (replay m e.run a) (replay n e.run b) (runs e.run a b h))
      e.complete.runs in
      record {
        end = at.0;
        is_end = record {
          run = e.run;
          complete = record { runs = at.1; over = over_back at.0 d at.2 e.complete.over };
          admissible = admissible_back e.run a b h e.admissible;
        };
        corresponds = at.2;
      }

  pub runs_alike : RunsAlike m n R
  runs_alike = record {
    enabled = alike.enabled;
    over = λ a b h. (over a b h, over_back a b h);
    runs = runs;
    admissible = λ run a b h. (admissible run a b h, admissible_back run a b h);
    ends = ends;
    ends_back = ends_back;
  }
