-- Lemmas about a program that is changed at one instruction: it is made instruction by instruction, and is well-formed.
use Rattle.std.proofs.Common.{◌≡◌, ◌∙◌, ℕ, ◌+◌, ◌*◌, ◌<◌, ◌≤◌, List, [], ◌∷◌, ◌++◌, Bool, true, false, Some, None, ap, append_assoc, append-nil, arith, get_or, length, sym, take, refl}
use Rattle.std.specs.Prelude.{◌==◌, nat_lt, if◌then◌else◌}
use Rattle.std.specs.List.{AllByRecursion}
use Rattle.std.proofs.lemmas.List.{length-append, take_more}
use Rattle.insn.specs.declared.insn.Insn.{Insn}
use Rattle.insn.specs.declared.insn.Insn.TheVariants.{SignExtend}
use Rattle.insn.specs.Insn.{units_of, IsInsn, IsWell}
use Rattle.insn.specs.Program.{slots_of}
use Rattle.insn.proofs.SlotLemmas.{length-slots_of-cons, units_bound, units_some}
use Rattle.reaching.specs.declared.edits.Edit.{Edit}
use Rattle.reaching.specs.declared.edits.Edit.TheVariants.{Before, Instead, Moved}
use Rattle.reaching.specs.Mends.{grown, stretched, put_at, passed, edited, mended}

-- One more instruction appends the instructions that it becomes.
mended-push : (edit : Edit) (place unit : ℕ) (xs : List Insn) (i : Insn)
    → mended edit place unit (xs ++ i ∷ []) ≡ mended edit place unit xs ++ edited edit place (unit + length (slots_of xs)) i
mended-push edit place unit [] i =
    let e : unit ≡ unit + 0 = omega arith in
    append-nil (edited edit place unit i) ∙ ap (λ n. edited edit place n i) e
mended-push edit place unit (j ∷ xs) i =
    let e : unit + units_of j + length (slots_of xs) ≡ unit + length (slots_of (j ∷ xs)) = omega (arith, length-slots_of-cons j xs) in
    let first : List Insn = edited edit place unit j in
    ap (λ l. first ++ l) (mended-push edit place (unit + units_of j) xs i ∙ ap (λ n. mended edit place (unit + units_of j) xs ++ edited edit place n i) e)
    ∙ sym (append_assoc first (mended edit place (unit + units_of j) xs) (edited edit place (unit + length (slots_of (j ∷ xs))) i))

pub mended_so_far : (out new : List Insn) (xs : List Insn) (edit : Edit) (place k unit : ℕ) (i : Insn) → k < length xs → i ≡ get_or xs k i → unit ≡ length (slots_of (take k xs))
    → out ≡ mended edit place 0 (take k xs) → new ≡ out ++ edited edit place unit i
    → new ≡ mended edit place 0 (take (k + 1) xs)
mended_so_far out new xs edit place k unit i lt at here so_far more =
    let e : unit ≡ 0 + length (slots_of (take k xs)) = omega arith in
    rw (take_more xs k i lt, ← at, mended-push edit place 0 (take k xs) i, ← e, more, so_far) refl

-- The unit at which an instruction begins is less than the number of units of the program.
pub starts_inside : (xs : List Insn) (k unit : ℕ) (i : Insn) → k < length xs → i ≡ get_or xs k i → unit ≡ length (slots_of (take k xs)) → unit < length (slots_of xs)
starts_inside xs k unit i lt at here = omega (arith, units_bound xs k unit (units_of i) i lt at here refl, units_some i)

-- ---- the instructions are well-formed

insn_well : (i : Insn) → IsInsn i → IsWell i
insn_well (SignExtend w part dst src) h = h.0
insn_well i h = tt

stretched_well : (more place unit : ℕ) (i : Insn) → IsInsn i → IsWell (stretched more place unit i)
stretched_well more place unit (SignExtend w part dst src) h = h.0
stretched_well more place unit i h = tt

put_well : (edit : Edit) (i : Insn) (rest : List Insn) → IsInsn i → AllByRecursion IsWell rest → AllByRecursion IsWell (put_at edit i ++ rest)
put_well (Before operation dst operand) i rest h more = (tt, (insn_well i h, more))
put_well (Instead operation dst operand) i rest h more = (tt, more)
put_well (Moved None number pointer) i rest h more = (tt, (tt, more))
put_well (Moved (Some mask) number pointer) i rest h more = (tt, (tt, (tt, more)))

edited_well : (edit : Edit) (place unit : ℕ) (i : Insn) (rest : List Insn) → IsInsn i → AllByRecursion IsWell rest → AllByRecursion IsWell (edited edit place unit i ++ rest)
edited_well edit place unit i rest h more = by_test (unit == place) (nat_lt unit place)
  where
    by_test : (s t : Bool) → AllByRecursion IsWell ((if s then put_at edit i else (if t then stretched (grown edit) place unit i else i) ∷ []) ++ rest)
    by_test true t = put_well edit i rest h more
    by_test false true = (stretched_well (grown edit) place unit i h, more)
    by_test false false = (insn_well i h, more)

pub mended_well : (edit : Edit) (place unit : ℕ) (is : List Insn) → AllByRecursion IsInsn is → AllByRecursion IsWell (mended edit place unit is)
mended_well edit place unit [] h = tt
mended_well edit place unit (i ∷ is) h = edited_well edit place unit i (mended edit place (unit + units_of i) is) h.0 (mended_well edit place (unit + units_of i) is h.1)

-- ---- the number of instructions

put_few : (edit : Edit) (i : Insn) → length (put_at edit i) ≤ 3
put_few (Before operation dst operand) i = omega arith
put_few (Instead operation dst operand) i = omega arith
put_few (Moved None number pointer) i = omega arith
put_few (Moved (Some mask) number pointer) i = omega arith

pub edited_few : (edit : Edit) (place unit : ℕ) (i : Insn) → length (edited edit place unit i) ≤ 3
edited_few edit place unit i = by_test (unit == place)
  where
    by_test : (s : Bool) → length (if s then put_at edit i else passed edit place unit i ∷ []) ≤ 3
    by_test true = put_few edit i
    by_test false = omega arith

-- Each instruction becomes at most three.
pub few_more : (out new more : List Insn) (k : ℕ) → length out ≤ 3 * k → length more ≤ 3 → new ≡ out ++ more → length new ≤ 3 * (k + 1)
few_more out new more k less three e = rw e (omega (arith, length-append out more))
