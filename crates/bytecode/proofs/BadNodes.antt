-- The bad fields of threads and nodes.
use Rattle.std.proofs.Common.{◌≡◌, ◌≢◌, ℕ, zero, suc, ◌^◌, ◌<◌, Bool, false, List, [], ◌∷◌, ◌++◌, length, Result, Ok, Err, refl, ap, arith}
use Rattle.std.specs.List.{concat}
use Rattle.std.specs.Int.{w16, w32}
use Rattle.std.proofs.lemmas.List.{append-nil}
use Rattle.sc_values.specs.declared.operator.Combination.TheVariants as combine
use Rattle.sc_values.specs.declared.operation.Operation.{Operation}
use Rattle.sc_graph.specs.declared.program.Step.{Step}
use Rattle.sc_graph.specs.declared.program.Step.TheVariants as step
use Rattle.bytecode.specs.declared.rows.ThreadRow.{ThreadRow}
use Rattle.bytecode.specs.declared.rows.NodeRow.{NodeRow}
use Rattle.bytecode.specs.declared.fault.DecodeFault.{DecodeFault}
use Rattle.bytecode.specs.Fields.{u16_bytes, u32_bytes, combination_number, flag_number}
use Rattle.bytecode.specs.Nodes.{parent_number, thread_bytes, step_bytes, node_bytes}
use Rattle.bytecode.specs.Fits.{SayableCode, SayableThread, SayableStep, SayableNode}
use Rattle.bytecode.specs.FieldList.{byte, code_fields, thread_fields, step_fields, node_fields}
use Rattle.bytecode.specs.Reading.{◌>>=◌, each_at}
use Rattle.bytecode.specs.Reading.Fields.{byte_at, number_at, flags, combinations}
use Rattle.bytecode.specs.Reading.Codes.{code_at}
use Rattle.bytecode.specs.Reading.Nodes.{thread_at, assign_at, update_at, cond_at, fork_at, target_at, step_body, tagged_step_at, node_at}
use Rattle.bytecode.proofs.Readers.{IsBytes}
use Rattle.bytecode.proofs.FieldLaws.{IsBytes-rest, number16_law, flag_law, combination_law}
use Rattle.bytecode.proofs.BadFields.{Extends, step_on, begin_at, Breaks, broken, reads, CanBreak, met_first, met_behind, then_breaks, before_made, at_once}
use Rattle.bytecode.proofs.BadFields.{number_breaks_not, byte_breaks_not, same_left, choice_breaks}
use Rattle.bytecode.proofs.BadCodes.{each_spelt, code_spelt, code_breaks}

-- a number is never bad, so what comes behind it is
pub number_then : {B : Type 0} (Whole : List (List ℕ) → Type 0) (front : List (List ℕ)) (next : ℕ × List ℕ → Result B DecodeFault) (bytes : List ℕ) (left : ℕ)
    → IsBytes bytes
    → ((n : ℕ) (rest : List ℕ) → n < 2 ^ 16 → IsBytes rest → next (n, rest) ≡ broken left
    → Breaks Whole (front ++ (u16_bytes n ∷ [])) (λ b. next (n, b)) rest left)
    → (number_at w16 bytes >>= next) ≡ broken left → Breaks Whole front (λ b. number_at w16 b >>= next) bytes left
number_then Whole front next bytes left fits second e =
    then_breaks number16_law (λ n. u16_bytes n ∷ []) (λ n. append-nil (u16_bytes n)) Whole front next bytes left fits
    (λ failed. absurd (number_breaks_not w16 bytes left failed)) second e

-- ---- threads

pub thread_spelt : (t : ThreadRow) → concat (thread_fields t) ≡ thread_bytes t
unfolding thread_bytes u16_bytes u32_bytes
thread_spelt t = ap (λ (b : List ℕ). u16_bytes (parent_number t.thread.parent) ++ (u16_bytes t.thread.entry ++ b)) (append-nil (u32_bytes t.bound))

pub thread_breaks : CanBreak thread_at thread_fields SayableThread
unfolding thread_at
thread_breaks Whole front bytes left fits goes_on e =
    number_then Whole front _ bytes left fits
    (λ parent rest is rest_fits failed. number_then Whole (front ++ (u16_bytes parent ∷ [])) _ rest left rest_fits
    (λ entry last entry_is last_fits last_failed. absurd (number_breaks_not w32 last left (before_made (number_at w32 last) _ left last_failed))) failed) e

-- ---- steps

-- two numbers and a code
coded_breaks : {A : Type 0} (version : ℕ) (made : ℕ → ℕ → List Operation → A) (Whole : List (List ℕ) → Type 0) (front : List (List ℕ)) (bytes : List ℕ)
    (left : ℕ) → IsBytes bytes
    → ((m n : ℕ) (code : List Operation) → m < 2 ^ 16 → n < 2 ^ 16 → SayableCode version code
    → Extends Whole (front ++ (u16_bytes m ∷ u16_bytes n ∷ code_fields code)))
    → (number_at w16 bytes >>= λ first. number_at w16 first.1 >>= λ second. code_at version second.1 >>= λ code. reads (made first.0 second.0 code.0) code.1)
    ≡ broken left
    → Breaks Whole front (λ b. number_at w16 b >>= λ first. number_at w16 first.1 >>= λ second. code_at version second.1 >>= λ code.
    reads (made first.0 second.0 code.0) code.1) bytes left
coded_breaks version made Whole front bytes left fits goes_on e =
    number_then Whole front _ bytes left fits
    (λ m rest m_fits rest_fits failed. number_then Whole (front ++ (u16_bytes m ∷ [])) _ rest left rest_fits
    (λ n last n_fits last_fits last_failed. met_first Whole ((front ++ (u16_bytes m ∷ [])) ++ (u16_bytes n ∷ [])) (code_at version) _ last left
    (code_breaks version Whole ((front ++ (u16_bytes m ∷ [])) ++ (u16_bytes n ∷ [])) last left last_fits
    (λ code code_fits. step_on Whole (front ++ (u16_bytes m ∷ [])) (u16_bytes n ∷ []) (code_fields code)
    (step_on Whole front (u16_bytes m ∷ []) (u16_bytes n ∷ code_fields code) (goes_on m n code m_fits n_fits code_fits)))
    (before_made (code_at version last) _ left last_failed))) failed) e

update_breaks : (version : ℕ) (Whole : List (List ℕ) → Type 0) (front : List (List ℕ)) (bytes : List ℕ) (left : ℕ) → IsBytes bytes
    → ((s : Step) → SayableStep version s → Extends Whole (front ++ step_fields s)) → update_at version bytes ≡ broken left
    → Breaks Whole (front ++ (byte 2 ∷ [])) (update_at version) bytes left
unfolding update_at
update_breaks version Whole front bytes left fits goes_on e =
    let tagged : List (List ℕ) = front ++ (byte 2 ∷ []) in
    number_then Whole tagged _ bytes left fits
    (λ variable rest v_fits rest_fits failed.
    let named : List (List ℕ) = tagged ++ (u16_bytes variable ∷ []) in
    then_breaks combination_law (λ f. byte (combination_number f) ∷ []) (λ f. refl) Whole named _ rest left rest_fits
    (choice_breaks combinations 0 Whole named rest left
    (begin_at Whole named (byte 0 ∷ []) (u16_bytes 0 ∷ byte 0 ∷ []) (step_on Whole tagged (u16_bytes variable ∷ []) (byte 0 ∷ u16_bytes 0 ∷ byte 0 ∷ [])
    (step_on Whole front (byte 2 ∷ []) (u16_bytes variable ∷ byte 0 ∷ u16_bytes 0 ∷ byte 0 ∷ [])
    (goes_on (step.Update variable combine.Add [] 0) (v_fits, omega arith, (omega arith, tt)))))))
    (λ f rest2 any rest2_fits failed2.
    let combined : List (List ℕ) = named ++ (byte (combination_number f) ∷ []) in
    number_then Whole combined _ rest2 left rest2_fits
    (λ next last n_fits last_fits last_failed. met_first Whole (combined ++ (u16_bytes next ∷ [])) (code_at version) _ last left
    (code_breaks version Whole (combined ++ (u16_bytes next ∷ [])) last left last_fits
    (λ code code_fits. step_on Whole combined (u16_bytes next ∷ []) (code_fields code)
    (step_on Whole named (byte (combination_number f) ∷ []) (u16_bytes next ∷ code_fields code)
    (step_on Whole tagged (u16_bytes variable ∷ []) (byte (combination_number f) ∷ u16_bytes next ∷ code_fields code)
    (step_on Whole front (byte 2 ∷ []) (u16_bytes variable ∷ byte (combination_number f) ∷ u16_bytes next ∷ code_fields code)
    (goes_on (step.Update variable f code next) (v_fits, n_fits, code_fits))))))
    (before_made (code_at version last) _ left last_failed))) failed2) failed) e

-- neither of two readers met one
pub not_then : {A B : Type 0} (r : Result A DecodeFault) (f : A → Result B DecodeFault) (left : ℕ) → r ≢ broken left → ((x : A) → f x ≢ broken left)
    → (r >>= f) ≢ broken left
not_then (Ok x) f left first next e = next x e
not_then (Err d) f left first next e = first cc

numbers_break_not : (n : ℕ) (bytes : List ℕ) (left : ℕ) → each_at (number_at w16) n bytes ≢ broken left
unfolding each_at
numbers_break_not zero bytes left e = absurd cc
numbers_break_not (suc n) bytes left e =
    not_then (number_at w16 bytes) _ left (number_breaks_not w16 bytes left)
    (λ x failed. numbers_break_not n x.1 left (before_made (each_at (number_at w16) n x.1) _ left failed)) e

fork_breaks_not : (bytes : List ℕ) (left : ℕ) → fork_at bytes ≢ broken left
unfolding fork_at
fork_breaks_not bytes left e =
    not_then (number_at w16 bytes) _ left (number_breaks_not w16 bytes left)
    (λ join. not_then (byte_at join.1) _ left (byte_breaks_not join.1 left)
    (λ count failed. numbers_break_not count.0 count.1 left (before_made (each_at (number_at w16) count.0 count.1) _ left failed))) e

target_breaks_not : (made : ℕ → Step) (bytes : List ℕ) (left : ℕ) → target_at made bytes ≢ broken left
unfolding target_at
target_breaks_not made bytes left e = number_breaks_not w16 bytes left (before_made (number_at w16 bytes) _ left e)

step_spelt : (s : Step) → concat (step_fields s) ≡ step_bytes s
unfolding step_bytes u16_bytes
step_spelt step.Exit = refl
step_spelt (step.Assign variable code next) = ap (λ (t : List ℕ). 1 ∷ u16_bytes variable ++ u16_bytes next ++ t) (code_spelt code)
step_spelt (step.Update variable combine code next) = ap (λ (t : List ℕ). 2 ∷ u16_bytes variable ++ combination_number combine ∷ u16_bytes next ++ t)
    (code_spelt code)
step_spelt (step.Cond code target other) = ap (λ (t : List ℕ). 3 ∷ u16_bytes target ++ u16_bytes other ++ t) (code_spelt code)
step_spelt (step.Fork children join) =
    ap (λ (t : List ℕ). 4 ∷ u16_bytes join ++ length children ∷ t) (each_spelt u16_bytes (λ t. u16_bytes t ∷ []) (λ t. append-nil (u16_bytes t)) children)
step_spelt (step.Join next) = ap (λ (t : List ℕ). 5 ∷ t) (append-nil (u16_bytes next))
step_spelt (step.Surf depth) = ap (λ (t : List ℕ). 6 ∷ t) (append-nil (u16_bytes depth))
step_spelt (step.Depth next) = ap (λ (t : List ℕ). 7 ∷ t) (append-nil (u16_bytes next))

step_body_breaks : (version tag : ℕ) (rest : List ℕ) (Whole : List (List ℕ) → Type 0) (front : List (List ℕ)) (left : ℕ) → IsBytes rest
    → ((s : Step) → SayableStep version s → Extends Whole (front ++ step_fields s)) → step_body version (tag ∷ rest) tag rest ≡ broken left
    → Breaks Whole front (tagged_step_at version) (tag ∷ rest) left
unfolding tagged_step_at byte_at step_body assign_at cond_at
step_body_breaks version zero rest Whole front left fits goes_on e = absurd cc
step_body_breaks version (suc zero) rest Whole front left fits goes_on e =
    met_behind Whole front (byte 1 ∷ []) (1 ∷ []) (tagged_step_at version) (assign_at version) (1 ∷ rest) rest left refl refl (λ more. refl)
    (coded_breaks version (λ variable next code. step.Assign variable code next) Whole (front ++ (byte 1 ∷ [])) rest left fits
    (λ variable next code v n c. step_on Whole front (byte 1 ∷ []) (u16_bytes variable ∷ u16_bytes next ∷ code_fields code)
    (goes_on (step.Assign variable code next) (v, n, c))) e)
step_body_breaks version (suc (suc zero)) rest Whole front left fits goes_on e =
    met_behind Whole front (byte 2 ∷ []) (2 ∷ []) (tagged_step_at version) (update_at version) (2 ∷ rest) rest left refl refl (λ more. refl)
    (update_breaks version Whole front rest left fits goes_on e)
step_body_breaks version (suc (suc (suc zero))) rest Whole front left fits goes_on e =
    met_behind Whole front (byte 3 ∷ []) (3 ∷ []) (tagged_step_at version) (cond_at version) (3 ∷ rest) rest left refl refl (λ more. refl)
    (coded_breaks version (λ target other code. step.Cond code target other) Whole (front ++ (byte 3 ∷ [])) rest left fits
    (λ target other code t o c. step_on Whole front (byte 3 ∷ []) (u16_bytes target ∷ u16_bytes other ∷ code_fields code)
    (goes_on (step.Cond code target other) (t, o, c))) e)
step_body_breaks version (suc (suc (suc (suc zero)))) rest Whole front left fits goes_on e = absurd (fork_breaks_not rest left e)
step_body_breaks version (suc (suc (suc (suc (suc zero))))) rest Whole front left fits goes_on e = absurd (target_breaks_not step.Join rest left e)
step_body_breaks version (suc (suc (suc (suc (suc (suc zero)))))) rest Whole front left fits goes_on e = absurd (target_breaks_not step.Surf rest left e)
step_body_breaks version (suc (suc (suc (suc (suc (suc (suc zero))))))) rest Whole front left fits goes_on e = absurd (target_breaks_not step.Depth rest left e)
step_body_breaks version (suc (suc (suc (suc (suc (suc (suc (suc n)))))))) rest Whole front left fits goes_on e =
    at_once Whole front (tagged_step_at version) (suc (suc (suc (suc (suc (suc (suc (suc n))))))) ∷ []) rest (byte 0) left (goes_on step.Exit tt) refl
    (same_left {A = Step × List ℕ} (suc (length rest)) left e) refl

step_breaks : (version : ℕ) → CanBreak (tagged_step_at version) step_fields (SayableStep version)
unfolding tagged_step_at byte_at
step_breaks version Whole front [] left fits goes_on e = absurd cc
step_breaks version Whole front (tag ∷ rest) left fits goes_on e = step_body_breaks version tag rest Whole front left (IsBytes-rest tag rest fits) goes_on e

-- ---- nodes

pub node_spelt : (n : NodeRow) → concat (node_fields n) ≡ node_bytes n
unfolding node_bytes u16_bytes
node_spelt n =
    ap (λ (t : List ℕ). u16_bytes n.node.owner ++ u16_bytes n.priority ++ u16_bytes n.weight ++ flag_number n.end_bit ∷ t) (step_spelt n.node.step)

-- a node of these parts
abbrev made_node : ℕ → ℕ → ℕ → Bool → Step → NodeRow
made_node owner priority weight end_bit s = record { node = record { owner = owner; step = s }; priority = priority; weight = weight; end_bit = end_bit }

pub node_breaks : (version : ℕ) → CanBreak (node_at version) node_fields (SayableNode version)
unfolding node_at
node_breaks version Whole front bytes left fits goes_on e =
    number_then Whole front _ bytes left fits
    (λ owner rest1 o_fits fits1 failed1.
    let front1 : List (List ℕ) = front ++ (u16_bytes owner ∷ []) in
    number_then Whole front1 _ rest1 left fits1
    (λ priority rest2 p_fits fits2 failed2.
    let front2 : List (List ℕ) = front1 ++ (u16_bytes priority ∷ []) in
    number_then Whole front2 _ rest2 left fits2
    (λ weight rest3 w_fits fits3 failed3.
    let front3 : List (List ℕ) = front2 ++ (u16_bytes weight ∷ []) in
    let whole : (b : Bool) (s : Step) → SayableStep version s → Extends Whole (front3 ++ (byte (flag_number b) ∷ step_fields s)) =
    λ b s s_fits. step_on Whole front2 (u16_bytes weight ∷ []) (byte (flag_number b) ∷ step_fields s)
    (step_on Whole front1 (u16_bytes priority ∷ []) (u16_bytes weight ∷ byte (flag_number b) ∷ step_fields s)
    (step_on Whole front (u16_bytes owner ∷ []) (u16_bytes priority ∷ u16_bytes weight ∷ byte (flag_number b) ∷ step_fields s)
    (goes_on (made_node owner priority weight b s) (record { owner = o_fits; priority = p_fits; weight = w_fits; step = s_fits })))) in
    then_breaks flag_law (λ b. byte (flag_number b) ∷ []) (λ b. refl) Whole front3 _ rest3 left fits3
    (choice_breaks flags 0 Whole front3 rest3 left (begin_at Whole front3 (byte 0 ∷ []) (byte 0 ∷ []) (whole false step.Exit tt)))
    (λ b last any last_fits last_failed. met_first Whole (front3 ++ (byte (flag_number b) ∷ [])) (tagged_step_at version) _ last left
    (step_breaks version Whole (front3 ++ (byte (flag_number b) ∷ [])) last left last_fits
    (λ s s_fits. step_on Whole front3 (byte (flag_number b) ∷ []) (step_fields s) (whole b s s_fits))
    (before_made (tagged_step_at version last) _ left last_failed))) failed3) failed2) failed1) e
