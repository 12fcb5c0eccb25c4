-- The checks of the structure, as lists of checks.
use Rattle.std.proofs.Common.{◌<◌, get_or, ◌≡◌, ℕ, zero, suc, ◌+◌, List, [], ◌∷◌, ◌++◌, Option, Some, None, Bool, true, false, refl, sym, ap, ◌∙◌, length, slice_get, if◌then◌else◌, arith}
use Rattle.std.specs.Prelude.{is_some}
use Rattle.insn.specs.declared.insn.Insn.{Insn}
use Rattle.insn.specs.Insn.{units_of}
use Rattle.insn.specs.Program.{slots_of, starts_of}
use Rattle.insn.proofs.SlotLemmas.{length-starts_of, length-slots_of-cons, units_some}
use Rattle.std.proofs.lemmas.Option.{slice_get-get_or, slice_get_read}
use Rattle.verify.specs.declared.error.VerifyError.{VerifyError}
use Rattle.verify.specs.declared.error.VerifyError.TheVariants.{At}
use Rattle.verify.specs.declared.reason.Reason.TheVariants.{LastNotExit}
use Rattle.verify.specs.Structure.{Check, first_fault, jump_checks, checks_at, checks_from, last_checks, is_exit, structural_fault}

-- A fault of the first checks comes before all others.
pub first_fault-append_some : (checks more : List Check) (fault : VerifyError) → first_fault checks ≡ Some fault → first_fault (checks ++ more) ≡ Some fault
first_fault-append_some [] more fault e = absurd (cc)
first_fault-append_some (check ∷ checks) more fault e = by_test check.0 (λ h. first_fault-append_some checks more fault h) e
  where
    by_test : (b : Bool) → (first_fault checks ≡ Some fault → first_fault (checks ++ more) ≡ Some fault) →
        (if b then Some check.1 else first_fault checks) ≡ Some fault → (if b then Some check.1 else first_fault (checks ++ more)) ≡ Some fault
    by_test true ih h = h
    by_test false ih h = ih h

-- If the first checks find no fault, the others decide.
pub first_fault-append_none : (checks more : List Check) → first_fault checks ≡ None → first_fault (checks ++ more) ≡ first_fault more
first_fault-append_none [] more e = refl
first_fault-append_none (check ∷ checks) more e = by_test check.0 (λ h. first_fault-append_none checks more h) e
  where
    by_test : (b : Bool) → (first_fault checks ≡ None → first_fault (checks ++ more) ≡ first_fault more) →
        (if b then Some check.1 else first_fault checks) ≡ None → (if b then Some check.1 else first_fault (checks ++ more)) ≡ first_fault more
    by_test true ih h = absurd (cc)
    by_test false ih h = ih h

-- The last check is the one of the last instruction, at the unit where it starts.
pub last_checks-at : (is : List Insn) (from k unit : ℕ) (i : Insn) → suc k ≡ length is → slice_get (starts_of from is) k ≡ Some unit → slice_get is k ≡ Some i →
    last_checks from is ≡ (if is_exit i then false else true, At LastNotExit unit) ∷ []
last_checks-at [] from k unit i e s at = absurd (omega arith)
last_checks-at (j ∷ []) from zero unit i e s at =
    let u : from ≡ unit = cc in
    let same : j ≡ i = cc in
    rw (u, same) refl
last_checks-at (j ∷ []) from (suc k) unit i e s at = absurd (omega arith)
last_checks-at (j ∷ l ∷ is) from zero unit i e s at = absurd (omega arith)
last_checks-at (j ∷ l ∷ is) from (suc k) unit i e s at =
    let f : suc k ≡ length (l ∷ is) = omega arith in
    last_checks-at (l ∷ is) (from + units_of j) k unit i f s at

-- If the last instruction is the exit, it has no fault.
pub last_is_exit : (is : List Insn) (k : ℕ) (i : Insn) → suc k ≡ length is → i ≡ get_or is k i → is_exit i ≡ true → None ≡ first_fault (last_checks 0 is)
last_is_exit is k i e at exit =
    let lt : k < length is = omega arith in
    let starts : k < length (starts_of 0 is) = omega (arith, length-starts_of 0 is) in
    let checks = last_checks-at is 0 k (get_or (starts_of 0 is) k 0) i e (slice_get-get_or (starts_of 0 is) k 0 starts) (slice_get_read is (length is) k i refl lt at) in
    sym (ap first_fault checks ∙ ap (λ (b : Bool). first_fault ((if b then false else true, At LastNotExit (get_or (starts_of 0 is) k 0)) ∷ [])) exit)

-- Any other last instruction has this fault.
pub last_is_other : (is : List Insn) (k unit : ℕ) (i : Insn) → suc k ≡ length is → i ≡ get_or is k i → is_exit i ≡ false → slice_get (starts_of 0 is) k ≡ Some unit →
    Some (At LastNotExit unit) ≡ first_fault (last_checks 0 is)
last_is_other is k unit i e at other start =
    let lt : k < length is = omega arith in
    let checks = last_checks-at is 0 k unit i e start (slice_get_read is (length is) k i refl lt at) in
    sym (ap first_fault checks ∙ ap (λ (b : Bool). first_fault ((if b then false else true, At LastNotExit unit) ∷ [])) other)

-- A fault of the jumps is the program's fault.
pub jumps_some : (program : List Insn) (answer : Option VerifyError) (fault : VerifyError) → answer ≡ first_fault (checks_from program 0 program) → answer ≡ Some fault → Some fault ≡ structural_fault program
jumps_some program answer fault e some = sym (first_fault-append_some (checks_from program 0 program) (last_checks 0 program) fault (sym e ∙ some))

-- Otherwise the fault of the last instruction is.
pub jumps_none : (program : List Insn) (answer last : Option VerifyError) → answer ≡ first_fault (checks_from program 0 program) → answer ≡ None → last ≡ first_fault (last_checks 0 program) →
    last ≡ structural_fault program
jumps_none program answer last e none f = f ∙ sym (first_fault-append_none (checks_from program 0 program) (last_checks 0 program) (sym e ∙ none))

-- ---- index by index

-- The checks of the instructions from an index on.
abbrev pub rest_at : List Insn → ℕ → List Insn → ℕ → List Check
rest_at program unit is zero = checks_from program unit is
rest_at program unit [] (suc index) = []
rest_at program unit (i ∷ is) (suc index) = rest_at program (unit + units_of i) is index

rest_step : (program is : List Insn) (unit k : ℕ) → k < length is → rest_at program unit is k ≡ checks_at program unit is k ++ rest_at program unit is (suc k)
rest_step program [] unit k lt = absurd (omega arith)
rest_step program (i ∷ is) unit zero lt = refl
rest_step program (i ∷ is) unit (suc k) lt = rest_step program is (unit + units_of i) k (omega arith)

rest_end : (program is : List Insn) (unit : ℕ) → rest_at program unit is (length is) ≡ []
rest_end program [] unit = refl
rest_end program (i ∷ is) unit = rest_end program is (unit + units_of i)

-- They are those from the unit where the instruction starts.
pub checks_here : (program is : List Insn) (from k unit : ℕ) (i : Insn) → k < length is → slice_get (starts_of from is) k ≡ Some unit → slice_get is k ≡ Some i →
    checks_at program from is k ≡ jump_checks program unit i
checks_here program [] from k unit i lt s at = absurd (omega arith)
checks_here program (j ∷ is) from zero unit i lt s at =
    let u : from ≡ unit = cc in
    let same : j ≡ i = cc in
    rw (u, same) refl
checks_here program (j ∷ is) from (suc k) unit i lt s at = checks_here program is (from + units_of j) k unit i (omega arith) s at

-- This is a unit of the program.
pub start_inside : (is : List Insn) (from k unit : ℕ) → k < length is → slice_get (starts_of from is) k ≡ Some unit → unit < from + length (slots_of is)
start_inside [] from k unit lt s = absurd (omega arith)
start_inside (i ∷ is) from zero unit lt s =
    let u : from ≡ unit = cc in
    omega (arith, units_some i, length-slots_of-cons i is)
start_inside (i ∷ is) from (suc k) unit lt s =
    omega (arith, start_inside is (from + units_of i) k unit (omega arith) s, length-slots_of-cons i is)

-- The fault of an instruction at its unit is that of its index.
pub fault_at_unit : (program : List Insn) (k unit : ℕ) (i : Insn) (answer : Option VerifyError) → k < length program → i ≡ get_or program k i → slice_get (starts_of 0 program) k ≡ Some unit →
    answer ≡ first_fault (jump_checks program unit i) → answer ≡ first_fault (checks_at program 0 program k)
fault_at_unit program k unit i answer lt at start e =
    e ∙ ap first_fault (sym (checks_here program program 0 k unit i lt start (slice_get_read program (length program) k i refl lt at)))

-- An instruction that is not a jump has no fault.
pub no_fault : (program : List Insn) (k : ℕ) (i : Insn) → k < length program → i ≡ get_or program k i → ((unit : ℕ) → jump_checks program unit i ≡ []) →
    false ≡ is_some (first_fault (checks_at program 0 program k))
no_fault program k i lt at none =
    let starts : k < length (starts_of 0 program) = omega (arith, length-starts_of 0 program) in
    let unit : ℕ = get_or (starts_of 0 program) k 0 in
    sym (ap (λ (checks : List Check). is_some (first_fault checks)) (checks_here program program 0 k unit i lt (slice_get-get_or (starts_of 0 program) k 0 starts) (slice_get_read program (length program) k i refl lt at) ∙ none unit))

-- The first fault of the instructions from an index on.
pub fault_found : (program : List Insn) (k : ℕ) (answer whole : Option VerifyError) → k < length program → whole ≡ first_fault (rest_at program 0 program k) →
    answer ≡ first_fault (checks_at program 0 program k) → is_some answer ≡ true → answer ≡ whole
fault_found program k None whole lt same e some = absurd cc
fault_found program k (Some fault) whole lt same e some =
    sym (same ∙ (ap first_fault (rest_step program program 0 k lt)
    ∙ first_fault-append_some (checks_at program 0 program k) (rest_at program 0 program (suc k)) fault (sym e)))

-- If an instruction has no fault, it is the first fault of the later ones.
is_none_at : (o : Option VerifyError) → false ≡ is_some o → o ≡ None
is_none_at None e = refl
is_none_at (Some fault) e = absurd cc

pub fault_further : (program : List Insn) (k : ℕ) (whole : Option VerifyError) → k < length program → whole ≡ first_fault (rest_at program 0 program k) →
    false ≡ is_some (first_fault (checks_at program 0 program k)) → whole ≡ first_fault (rest_at program 0 program (k + 1))
fault_further program k whole lt same none =
    let next : suc k ≡ k + 1 = omega arith in
    same ∙ (ap first_fault (rest_step program program 0 k lt)
    ∙ (first_fault-append_none (checks_at program 0 program k) (rest_at program 0 program (suc k)) (is_none_at (first_fault (checks_at program 0 program k)) none)
    ∙ ap (λ (n : ℕ). first_fault (rest_at program 0 program n)) next))

-- After the last instruction there is no fault.
pub no_further : (program : List Insn) (k : ℕ) (whole : Option VerifyError) → k ≡ length program → whole ≡ first_fault (rest_at program 0 program k) → None ≡ whole
no_further program k whole end same = sym (same ∙ ap (λ (n : ℕ). first_fault (rest_at program 0 program n)) end ∙ ap first_fault (rest_end program program 0))
