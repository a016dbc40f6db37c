-- Threads, steps and nodes: what is read is what is written, and what is written is read again.
use Rattle.std.proofs.Common.{◌≡◌, ℕ, zero, suc, ◌^◌, ◌<◌, Bool, true, false, cond, eqb, List, [], ◌∷◌, ◌++◌, length, Option, Some, None, Ok, refl, sym, ap}
use Rattle.std.proofs.Common.{subst, ◌∙◌, append_assoc, arith}
use Rattle.std.specs.Prelude.{IfSome}
use Rattle.std.specs.List.{flat_map}
use Rattle.std.specs.Int.{w16}
use Rattle.std.proofs.lemmas.Bool.{eqb-true, eqb-false, false_from_ne_true}
use Rattle.sc_graph.specs.declared.program.Step.{Step}
use Rattle.sc_graph.specs.declared.program.Step.TheVariants as step
use Rattle.sc_graph.specs.Limits.{no_parent}
use Rattle.bytecode.specs.declared.rows.ThreadRow.{ThreadRow}
use Rattle.bytecode.specs.declared.rows.NodeRow.{NodeRow}
use Rattle.bytecode.specs.Fields.{u16_bytes, u32_bytes, flag_number, combination_number}
use Rattle.bytecode.specs.Codes.{code_bytes}
use Rattle.bytecode.specs.Nodes.{parent_number, thread_bytes, step_bytes, node_bytes}
use Rattle.bytecode.specs.Fits.{SayableThread, SayableStep, SayableNode}
use Rattle.bytecode.specs.Reading.{◌>>=◌, each_at}
use Rattle.bytecode.specs.Reading.Fields.{byte_at, number_at}
use Rattle.bytecode.specs.Reading.Nodes.{parent_of, thread_at, assign_at, update_at, cond_at, fork_at, target_at, step_body, tagged_step_at, node_at}
use Rattle.bytecode.proofs.Readers.{IsBytes, bind_ok, ok_is, Takes, then_takes, IsRead, first, each_takes, each_again}
use Rattle.bytecode.proofs.FieldLaws.{byte_law, number16_law, number32_law, flag_law, combination_law}
use Rattle.bytecode.proofs.CodeLaws.{code_law, behind}

-- ---- threads

parent_when : (b : Bool) (n : ℕ) → eqb n no_parent ≡ b → n < 2 ^ 16
    → (parent_number (cond b None (Some n)) ≡ n) × IfSome (cond b None (Some n)) (λ p. p < no_parent)
parent_when true n e lt = (sym (eqb-true n no_parent e), tt)
parent_when false n e lt =
    let other : n ≡ no_parent → ⊥ = eqb-false n no_parent e in
    (refl, omega (arith, other))

parent_back : (parent : Option ℕ) → IfSome parent (λ p. p < no_parent) → parent_of (parent_number parent) ≡ parent
parent_back None fits = refl
parent_back (Some p) fits =
    let other : eqb p no_parent ≡ false = false_from_ne_true (eqb p no_parent) (λ e. let same : p ≡ no_parent = eqb-true p no_parent e in
    omega (arith, same, fits)) in
    rw other refl

parent_fits : (parent : Option ℕ) → IfSome parent (λ p. p < no_parent) → parent_number parent < 2 ^ 16
parent_fits None fits = omega arith
parent_fits (Some p) fits = omega (arith, fits)

thread_takes : (bytes : List ℕ) (x : ThreadRow × List ℕ) → IsBytes bytes → thread_at bytes ≡ Ok x → Takes bytes (thread_bytes x.0) x.1 × SayableThread x.0
unfolding thread_at thread_bytes
thread_takes bytes x fits e =
    let a = first number16_law bytes _ x fits e in
    let b = first number16_law a.got.1 _ x a.took.rest_bytes a.next in
    let c = first number32_law b.got.1 _ x b.took.rest_bytes b.next in
    let p = parent_when (eqb a.got.0 no_parent) a.got.0 refl a.fits in
    let made : ThreadRow × List ℕ = (record { thread = record { parent = parent_of a.got.0; entry = b.got.0 }; bound = c.got.0 }, c.got.1) in
    let parent : Takes bytes (u16_bytes (parent_number (parent_of a.got.0))) a.got.1 = subst (λ (n : ℕ). Takes bytes (u16_bytes n) a.got.1) (sym p.0) a.took in
    subst (λ (y : ThreadRow × List ℕ). Takes bytes (thread_bytes y.0) y.1 × SayableThread y.0) (ok_is made x c.next)
    (then_takes (then_takes parent b.took) c.took, record { parent = p.1; entry = b.fits; bound = c.fits })

thread_again : (t : ThreadRow) (rest : List ℕ) → SayableThread t → thread_at (thread_bytes t ++ rest) ≡ Ok (t, rest)
unfolding thread_at thread_bytes
thread_again t rest fits =
    let regrouped : thread_bytes t ++ rest ≡ u16_bytes (parent_number t.thread.parent) ++ (u16_bytes t.thread.entry ++ (u32_bytes t.bound ++ rest)) =
    simp append_assoc in
    ap thread_at regrouped ∙ rw (
      number16_law.again (parent_number t.thread.parent) (u16_bytes t.thread.entry ++ (u32_bytes t.bound ++ rest)) (parent_fits t.thread.parent fits.parent),
      number16_law.again t.thread.entry (u32_bytes t.bound ++ rest) fits.entry,
      number32_law.again t.bound rest fits.bound,
      parent_back t.thread.parent fits.parent,
    ) refl

pub thread_law : IsRead thread_at thread_bytes SayableThread
thread_law = record { takes = thread_takes; again = thread_again }

-- ---- steps

-- a step that these bytes are, behind its tag
abbrev StepTakes : ℕ → ℕ → List ℕ → Step × List ℕ → Type 0
StepTakes version tag rest x = Takes (tag ∷ rest) (step_bytes x.0) x.1 × (SayableStep version) x.0

assign_takes : (version : ℕ) (rest : List ℕ) (x : Step × List ℕ) → IsBytes rest → (assign_at version) rest ≡ Ok x → (StepTakes version) 1 rest x
unfolding assign_at step_bytes
assign_takes version rest x fits e =
    let a = first number16_law rest _ x fits e in
    let b = first number16_law a.got.1 _ x a.took.rest_bytes a.next in
    let c = first (code_law version) b.got.1 _ x b.took.rest_bytes b.next in
    let made : Step × List ℕ = (step.Assign a.got.0 c.got.0 b.got.0, c.got.1) in
    subst ((StepTakes version) 1 rest) (ok_is made x c.next) (behind 1 rest _ _ (then_takes (then_takes a.took b.took) c.took), (a.fits, b.fits, c.fits))

update_takes : (version : ℕ) (rest : List ℕ) (x : Step × List ℕ) → IsBytes rest → (update_at version) rest ≡ Ok x → (StepTakes version) 2 rest x
unfolding update_at step_bytes
update_takes version rest x fits e =
    let a = first number16_law rest _ x fits e in
    let f = first combination_law a.got.1 _ x a.took.rest_bytes a.next in
    let b = first number16_law f.got.1 _ x f.took.rest_bytes f.next in
    let c = first (code_law version) b.got.1 _ x b.took.rest_bytes b.next in
    let made : Step × List ℕ = (step.Update a.got.0 f.got.0 c.got.0 b.got.0, c.got.1) in
    subst ((StepTakes version) 2 rest) (ok_is made x c.next)
    (behind 2 rest _ _ (then_takes (then_takes a.took (then_takes f.took b.took)) c.took), (a.fits, b.fits, c.fits))

cond_takes : (version : ℕ) (rest : List ℕ) (x : Step × List ℕ) → IsBytes rest → (cond_at version) rest ≡ Ok x → (StepTakes version) 3 rest x
unfolding cond_at step_bytes
cond_takes version rest x fits e =
    let a = first number16_law rest _ x fits e in
    let b = first number16_law a.got.1 _ x a.took.rest_bytes a.next in
    let c = first (code_law version) b.got.1 _ x b.took.rest_bytes b.next in
    let made : Step × List ℕ = (step.Cond c.got.0 a.got.0 b.got.0, c.got.1) in
    subst ((StepTakes version) 3 rest) (ok_is made x c.next) (behind 3 rest _ _ (then_takes (then_takes a.took b.took) c.took), (a.fits, b.fits, c.fits))

fork_takes : (version : ℕ) (rest : List ℕ) (x : Step × List ℕ) → IsBytes rest → fork_at rest ≡ Ok x → (StepTakes version) 4 rest x
unfolding fork_at step_bytes
fork_takes version rest x fits e =
    let a = first number16_law rest _ x fits e in
    let n = first byte_law a.got.1 (λ count. each_at (number_at w16) count.0 count.1 >>= λ children. Ok (step.Fork children.0 a.got.0, children.1)) x
    a.took.rest_bytes a.next in
    let b = bind_ok (each_at (number_at w16) n.got.0 n.got.1) (λ children. Ok (step.Fork children.0 a.got.0, children.1)) x n.next in
    let t = each_takes number16_law n.got.0 n.got.1 b.0 n.took.rest_bytes b.1 in
    let counted : Takes a.got.1 (length b.0.0 ∷ flat_map u16_bytes b.0.0) b.0.1 =
    subst (λ (count : ℕ). Takes a.got.1 (count ∷ flat_map u16_bytes b.0.0) b.0.1) (sym t.1) (then_takes n.took t.0) in
    let made : Step × List ℕ = (step.Fork b.0.0 a.got.0, b.0.1) in
    subst ((StepTakes version) 4 rest) (ok_is made x b.2) (behind 4 rest _ _ (then_takes a.took counted), (a.fits, omega (arith, t.1, n.fits), t.2))

-- a step that is told by one node
target_takes : (version : ℕ) (tag : ℕ) (make : ℕ → Step) → ((n : ℕ) → step_bytes (make n) ≡ tag ∷ u16_bytes n)
    → ((n : ℕ) → n < 2 ^ 16 → (SayableStep version) (make n))
    → (rest : List ℕ) (x : Step × List ℕ) → IsBytes rest → target_at make rest ≡ Ok x → (StepTakes version) tag rest x
unfolding target_at
target_takes version tag make bytes_are fits_too rest x fits e =
    let a = first number16_law rest _ x fits e in
    let made : Step × List ℕ = (make a.got.0, a.got.1) in
    subst ((StepTakes version) tag rest) (ok_is made x a.next)
    (subst (λ (text : List ℕ). Takes (tag ∷ rest) text a.got.1) (sym (bytes_are a.got.0)) (behind tag rest _ _ a.took), fits_too a.got.0 a.fits)

body_takes : (version : ℕ) (bytes : List ℕ) (tag : ℕ) (rest : List ℕ) (x : Step × List ℕ) → IsBytes rest → (step_body version) bytes tag rest ≡ Ok x
    → (StepTakes version) tag rest x
unfolding step_body step_bytes
body_takes version bytes zero rest x fits e =
    let made : Step × List ℕ = (step.Exit, rest) in
    subst ((StepTakes version) 0 rest) (ok_is made x e) (record { parts = refl; rest_bytes = fits }, tt)
body_takes version bytes (suc zero) rest x fits e = (assign_takes version) rest x fits e
body_takes version bytes (suc (suc zero)) rest x fits e = (update_takes version) rest x fits e
body_takes version bytes (suc (suc (suc zero))) rest x fits e = (cond_takes version) rest x fits e
body_takes version bytes (suc (suc (suc (suc zero)))) rest x fits e = (fork_takes version) rest x fits e
body_takes version bytes (suc (suc (suc (suc (suc zero))))) rest x fits e = (target_takes version) 5 step.Join (λ n. refl) (λ n lt. lt) rest x fits e
body_takes version bytes (suc (suc (suc (suc (suc (suc zero)))))) rest x fits e = (target_takes version) 6 step.Surf (λ n. refl) (λ n lt. lt) rest x fits e
body_takes version bytes (suc (suc (suc (suc (suc (suc (suc zero))))))) rest x fits e = (target_takes version) 7 step.Depth (λ n. refl)
    (λ n lt. lt) rest x fits e
body_takes version bytes (suc (suc (suc (suc (suc (suc (suc (suc n)))))))) rest x fits e = absurd cc

step_takes : (version : ℕ) (bytes : List ℕ) (x : Step × List ℕ) → IsBytes bytes → (tagged_step_at version) bytes ≡ Ok x → Takes bytes (step_bytes x.0) x.1
    × (SayableStep version) x.0
unfolding tagged_step_at
step_takes version bytes x fits e =
    let a = first byte_law bytes (λ tag. (step_body version) bytes tag.0 tag.1) x fits e in
    subst (λ (from : List ℕ). Takes from (step_bytes x.0) x.1 × (SayableStep version) x.0) (sym a.took.parts)
    ((body_takes version) bytes a.got.0 a.got.1 x a.took.rest_bytes a.next)

step_again : (version : ℕ) (s : Step) (rest : List ℕ) → (SayableStep version) s → (tagged_step_at version) (step_bytes s ++ rest) ≡ Ok (s, rest)
unfolding tagged_step_at step_body step_bytes byte_at assign_at update_at cond_at fork_at target_at
step_again version step.Exit rest fits = refl
step_again version (step.Assign variable code next) rest fits =
    let regrouped : (u16_bytes variable ++ u16_bytes next ++ code_bytes code) ++ rest ≡ u16_bytes variable ++ (u16_bytes next ++ (code_bytes code ++ rest)) =
    simp append_assoc in
    ap (assign_at version) regrouped ∙ rw (
      number16_law.again variable (u16_bytes next ++ (code_bytes code ++ rest)) fits.0,
      number16_law.again next (code_bytes code ++ rest) fits.1,
      (code_law version).again code rest fits.2,
    ) refl
step_again version (step.Update variable combine code next) rest fits =
    let regrouped : (u16_bytes variable ++ combination_number combine ∷ u16_bytes next ++ code_bytes code) ++ rest
    ≡ u16_bytes variable ++ ((combination_number combine ∷ []) ++ (u16_bytes next ++ (code_bytes code ++ rest))) = simp append_assoc in
    ap (update_at version) regrouped ∙ rw (
      number16_law.again variable ((combination_number combine ∷ []) ++ (u16_bytes next ++ (code_bytes code ++ rest))) fits.0,
      combination_law.again combine (u16_bytes next ++ (code_bytes code ++ rest)) tt,
      number16_law.again next (code_bytes code ++ rest) fits.1,
      (code_law version).again code rest fits.2,
    ) refl
step_again version (step.Cond code target other) rest fits =
    let regrouped : (u16_bytes target ++ u16_bytes other ++ code_bytes code) ++ rest ≡ u16_bytes target ++ (u16_bytes other ++ (code_bytes code ++ rest)) =
    simp append_assoc in
    ap (cond_at version) regrouped ∙ rw (
      number16_law.again target (u16_bytes other ++ (code_bytes code ++ rest)) fits.0,
      number16_law.again other (code_bytes code ++ rest) fits.1,
      (code_law version).again code rest fits.2,
    ) refl
step_again version (step.Fork children join) rest fits =
    let regrouped : (u16_bytes join ++ length children ∷ flat_map u16_bytes children) ++ rest
    ≡ u16_bytes join ++ (length children ∷ (flat_map u16_bytes children ++ rest)) = simp append_assoc in
    ap fork_at regrouped ∙ rw (
      number16_law.again join (length children ∷ (flat_map u16_bytes children ++ rest)) fits.0,
      each_again number16_law children rest fits.2,
    ) refl
step_again version (step.Join next) rest fits = rw (number16_law.again next rest fits) refl
step_again version (step.Surf depth) rest fits = rw (number16_law.again depth rest fits) refl
step_again version (step.Depth next) rest fits = rw (number16_law.again next rest fits) refl

step_law : (version : ℕ) → IsRead (tagged_step_at version) step_bytes (SayableStep version)
step_law version = record { takes = (step_takes version); again = (step_again version) }

-- ---- nodes

node_takes : (version : ℕ) (bytes : List ℕ) (x : NodeRow × List ℕ) → IsBytes bytes → (node_at version) bytes ≡ Ok x → Takes bytes (node_bytes x.0) x.1
    × (SayableNode version) x.0
unfolding node_at node_bytes
node_takes version bytes x fits e =
    let a = first number16_law bytes _ x fits e in
    let b = first number16_law a.got.1 _ x a.took.rest_bytes a.next in
    let c = first number16_law b.got.1 _ x b.took.rest_bytes b.next in
    let d = first flag_law c.got.1 _ x c.took.rest_bytes c.next in
    let s = first (step_law version) d.got.1 _ x d.took.rest_bytes d.next in
    let made : NodeRow × List ℕ = (
      record { node = record { owner = a.got.0; step = s.got.0 }; priority = b.got.0; weight = c.got.0; end_bit = d.got.0 },
      s.got.1,
    ) in
    subst (λ (y : NodeRow × List ℕ). Takes bytes (node_bytes y.0) y.1 × (SayableNode version) y.0) (ok_is made x s.next) (
      then_takes (then_takes (then_takes a.took b.took) c.took) (then_takes d.took s.took),
      record { owner = a.fits; priority = b.fits; weight = c.fits; step = s.fits },
    )

node_again : (version : ℕ) (n : NodeRow) (rest : List ℕ) → (SayableNode version) n → (node_at version) (node_bytes n ++ rest) ≡ Ok (n, rest)
unfolding node_at node_bytes
node_again version n rest fits =
    let regrouped : node_bytes n ++ rest
    ≡ u16_bytes n.node.owner ++ (u16_bytes n.priority ++ (u16_bytes n.weight ++ ((flag_number n.end_bit ∷ []) ++ (step_bytes n.node.step ++ rest)))) =
    simp append_assoc in
    ap (node_at version) regrouped ∙ rw (
      number16_law.again n.node.owner (u16_bytes n.priority ++ (u16_bytes n.weight ++ ((flag_number n.end_bit ∷ []) ++ (step_bytes n.node.step ++ rest))))
          fits.owner,
      number16_law.again n.priority (u16_bytes n.weight ++ ((flag_number n.end_bit ∷ []) ++ (step_bytes n.node.step ++ rest))) fits.priority,
      number16_law.again n.weight ((flag_number n.end_bit ∷ []) ++ (step_bytes n.node.step ++ rest)) fits.weight,
      flag_law.again n.end_bit (step_bytes n.node.step ++ rest) tt,
      (step_law version).again n.node.step rest fits.step,
    ) refl

pub node_law : (version : ℕ) → IsRead (node_at version) node_bytes (SayableNode version)
node_law version = record { takes = (node_takes version); again = (node_again version) }
