-- What a grammar's choices rest on, as closed lists: by these lemmas a language shows part by part
-- that it is predictive, each condition on the lists by computing.
use Rattle.std.proofs.Common.{◌≡◌, Bool, true, false, ◌&&◌, cond, List, [], refl, ◌∙◌, ap}
use Rattle.grammar.specs.Grammar.{Tokens, Grammar, One, Seq, Either, Maybe, Many, Made, Headed, Barred}
use Rattle.grammar.specs.Predictive.{union, disjoint, is_filled, empties, first, tails, Predictive}

pub record Shaped {L : Tokens} {A : Type 0} (g : Grammar L A) (void : Bool) (opens stops : List L.Class) : Type 0 where
  pub predictive : Predictive g
  pub voids : empties g ≡ void
  pub begins : first g ≡ opens
  pub ends : tails g ≡ stops

module _ (L : Tokens) where
  -- sets that compute from equal ones are apart as those are
  apart_as : (ks ks' ls ls' : List L.Class) → ks ≡ ks' → ls ≡ ls' → disjoint L ks' ls' ≡ true → disjoint L ks ls ≡ true
  apart_as ks ks' ls ls' e f d = ap (λ x. disjoint L x ls) e ∙ ap (disjoint L ks') f ∙ d

  joined_as : (v v' : Bool) (ks ks' ls ls' : List L.Class) → v ≡ v' → ks ≡ ks' → ls ≡ ls' → cond v (union L ks ls) ks ≡ cond v' (union L ks' ls') ks'
  joined_as v v' ks ks' ls ls' e f h =
      ap (λ b. cond b (union L ks ls) ks) e ∙ ap (λ x. cond v' (union L x ls) x) f ∙ ap (λ x. cond v' (union L ks' x) ks') h

  union_as : (ks ks' ls ls' : List L.Class) → ks ≡ ks' → ls ≡ ls' → union L ks ls ≡ union L ks' ls'
  union_as ks ks' ls ls' e f = ap (λ x. union L x ls) e ∙ ap (union L ks') f

module _ {L : Tokens} where
  pub shaped_one : (classes : List L.Class) → is_filled classes ≡ true → Shaped {L = L} (One classes) false classes []
  shaped_one classes e = record { predictive = e; voids = refl; begins = refl; ends = refl }

  pub shaped_seq : (A B : Type 0) (g : Grammar L A) (h : Grammar L B) (v w : Bool) (o t p s : List L.Class) → Shaped g v o t → Shaped h w p s
      → disjoint L p t ≡ true → Shaped (Seq A B g h) (v && w) (cond v (union L o p) o) (cond w (union L s t) s)
  shaped_seq A B g h v w o t p s a b d = record {
    predictive = (a.predictive, b.predictive, apart_as L _ _ _ _ b.begins a.ends d);
    voids = ap (λ x. x && empties h) a.voids ∙ ap (λ x. v && x) b.voids;
    begins = joined_as L _ _ _ _ _ _ a.voids a.begins b.begins;
    ends = joined_as L _ _ _ _ _ _ b.voids b.ends a.ends;
  }

  pub shaped_either : (A : Type 0) (g h : Grammar L A) (o t p s : List L.Class) → Shaped g false o t → Shaped h false p s → disjoint L p o ≡ true
      → Shaped (Either A g h) false (union L o p) (union L t s)
  shaped_either A g h o t p s a b d = record {
    predictive = (a.predictive, b.predictive, a.voids, b.voids, apart_as L _ _ _ _ b.begins a.begins d);
    voids = refl;
    begins = union_as L _ _ _ _ a.begins b.begins;
    ends = union_as L _ _ _ _ a.ends b.ends;
  }

  pub shaped_maybe : (A : Type 0) (g : Grammar L A) (o t : List L.Class) → Shaped g false o t → Shaped (Maybe A g) true o (union L o t)
  shaped_maybe A g o t a = record {
    predictive = (a.predictive, a.voids);
    voids = refl;
    begins = a.begins;
    ends = union_as L _ _ _ _ a.begins a.ends;
  }

  pub shaped_many : (A : Type 0) (g : Grammar L A) (o t : List L.Class) → Shaped g false o t → disjoint L o t ≡ true → Shaped (Many A g) true o (union L o t)
  shaped_many A g o t a d = record {
    predictive = (a.predictive, a.voids, apart_as L _ _ _ _ a.begins a.ends d);
    voids = refl;
    begins = a.begins;
    ends = union_as L _ _ _ _ a.begins a.ends;
  }

  pub shaped_made : (A B : Type 0) (f : A → B) (g : Grammar L A) (v : Bool) (o t : List L.Class) → Shaped g v o t → Shaped (Made A B f g) v o t
  shaped_made A B f g v o t a = record { predictive = a.predictive; voids = a.voids; begins = a.begins; ends = a.ends }

  pub shaped_headed : (A : Type 0) (g : Grammar L A) (o t : List L.Class) → Shaped g false o t → Shaped (Headed A g) false o t
  shaped_headed A g o t a = record { predictive = (a.predictive, a.voids); voids = refl; begins = a.begins; ends = a.ends }

  pub shaped_barred : (A : Type 0) (ks : List L.Class) (g : Grammar L A) (o t : List L.Class) → Shaped g false o t → disjoint L o ks ≡ true
      → Shaped (Barred A ks g) false (union L ks o) t
  shaped_barred A ks g o t a d = record {
    predictive = (a.predictive, a.voids, apart_as L _ _ _ _ a.begins refl d);
    voids = refl;
    begins = union_as L _ _ _ _ refl a.begins;
    ends = a.ends;
  }
