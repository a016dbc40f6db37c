-- Sums over two texts in a row, and sums that are related part by part.
use Rattle.std.proofs.Common.{◌≡◌, ℕ, List, ap, sym, ◌∙◌}
use Rattle.scl.specs.Block.{Block, End, Assign, Label, Goto, Pause, If, Fork, Branches, NoMore, Branch}
use Rattle.scl.specs.Labels.{before}
use Rattle.scl.specs.Sums.{Sum, total, total_among}

-- nothing adds nothing, and no matter which of three parts are put together first
pub record Adds {A : Type 0} (s : Sum A) : Type 0 where
  pub nothing : (a : A) → s.together s.nothing a ≡ a
  pub three : (a b c : A) → s.together (s.together a b) c ≡ s.together a (s.together b c)
  pub label : (name : List ℕ) (a b : A) → s.together (s.label name a) b ≡ s.label name (s.together a b)
  pub fork : (a b c : A) → s.together (s.fork a b) c ≡ s.fork a (s.together b c)

-- a list of statements has what it has itself, and then what follows it has
pub total_before : {A : Type 0} (s : Sum A) → Adds s → (b k : Block) → total s (before b k) ≡ s.together (total s b) (total s k)
total_before s adds (End n) k = sym (adds.nothing (total s k))
total_before s adds (Assign n x e rest) k = total_before s adds rest k
total_before s adds (Label name rest) k = ap (s.label name) (total_before s adds rest k) ∙ sym (adds.label name (total s rest) (total s k))
total_before s adds (Goto g name rest) k = total_before s adds rest k
total_before s adds (Pause n rest) k = total_before s adds rest k
total_before s adds (If n e first second rest) k =
    let lists : _ = s.together (total s first) (total s second) in
    ap (s.together lists) (total_before s adds rest k) ∙ sym (adds.three lists (total s rest) (total s k))
total_before s adds (Fork n branches rest) k =
    let forked : _ = total_among s branches in
    ap (s.fork forked) (total_before s adds rest k) ∙ sym (adds.fork forked (total s rest) (total s k))

-- what the parts of a text have by the one is related to what they have by the other
pub record AreRelated {A B : Type 0} (R : A → B → Type 0) (s : Sum A) (r : Sum B) : Type 0 where
  pub nothing : R s.nothing r.nothing
  pub together : (a b : A) (c d : B) → R a c → R b d → R (s.together a b) (r.together c d)
  pub label : (name : List ℕ) (a : A) (c : B) → R a c → R (s.label name a) (r.label name c)
  pub fork : (a b : A) (c d : B) → R a c → R b d → R (s.fork a b) (r.fork c d)
  pub branch : (t : ℕ) (body : Block) (a : A) (c : B) → R a c → R (s.branch t body a) (r.branch t body c)

-- so then is what the text has in all
mutual
  pub totals_related : {A B : Type 0} {R : A → B → Type 0} (s : Sum A) (r : Sum B) → AreRelated R s r → (b : Block) → R (total s b) (total r b)
  totals_related s r by (End n) = by.nothing
  totals_related s r by (Assign n x e rest) = totals_related s r by rest
  totals_related s r by (Label name rest) = by.label name (total s rest) (total r rest) (totals_related s r by rest)
  totals_related s r by (Goto g name rest) = totals_related s r by rest
  totals_related s r by (Pause n rest) = totals_related s r by rest
  totals_related s r by (If n e first second rest) =
      by.together (s.together (total s first) (total s second)) (total s rest) (r.together (total r first) (total r second)) (total r rest)
      (by.together (total s first) (total s second) (total r first) (total r second) (totals_related s r by first) (totals_related s r by second))
      (totals_related s r by rest)
  totals_related s r by (Fork n branches rest) =
      by.fork (total_among s branches) (total s rest) (total_among r branches) (total r rest) (totals_among_related s r by branches)
      (totals_related s r by rest)

  pub totals_among_related : {A B : Type 0} {R : A → B → Type 0} (s : Sum A) (r : Sum B) → AreRelated R s r → (branches : Branches)
      → R (total_among s branches) (total_among r branches)
  totals_among_related s r by NoMore = by.nothing
  totals_among_related s r by (Branch t body more) =
      by.together (s.branch t body (total s body)) (total_among s more) (r.branch t body (total r body)) (total_among r more)
      (by.branch t body (total s body) (total r body) (totals_related s r by body)) (totals_among_related s r by more)
