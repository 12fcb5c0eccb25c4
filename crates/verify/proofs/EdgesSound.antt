-- What is known if a conditional jump is taken, or is not, describes the states in which it is, or is not.
use Rattle.std.proofs.Common.{◌≡◌, ◌∙◌, ℕ, ◌^◌, ◌<◌, List, length, Bool, Option, Some, None, Ok, IfSome, refl, arith, length-set}
use Rattle.std.specs.Prelude.{◌==◌, option_map, slice_set}
use Rattle.std.specs.Int.{w64, cast_unsigned}
use Rattle.word.specs.declared.Width.{Width}
use Rattle.word.specs.declared.Width.TheVariants.{W32, W64}
use Rattle.word.specs.declared.Condition.{Condition}
use Rattle.word.specs.Arithmetic.{taken, compared}
use Rattle.insn.specs.declared.insn.Operand.{Operand}
use Rattle.insn.specs.declared.insn.Operand.TheVariants.{Register, Immediate}
use Rattle.semantics.specs.declared.value.Value.{Value}
use Rattle.semantics.specs.declared.value.Value.TheVariants as value
use Rattle.semantics.specs.State.{State, value_at, operand_value}
use Rattle.semantics.specs.Step.{condition_of}
use Rattle.absval.specs.declared.number_set.NumberSet.{NumberSet}
use Rattle.absval.specs.NumberSets.{HaveBoth, single, refined}
use Rattle.absval.specs.declared.value.AbsVal.{AbsVal}
use Rattle.absval.specs.Contains.{Contains}
use Rattle.verify.specs.declared.comparison.Comparison.{Comparison}
use Rattle.verify.specs.declared.state.AbsState.{AbsState}
use Rattle.verify.specs.Describes.{RegistersDescribe, Describes}
use Rattle.verify.specs.Registers.{known_at, refined_known, edge_by, edge_known}
use Rattle.verify.specs.Transfer.{narrowed}
use Rattle.verify.proofs.BranchLemmas.{decided_by, decided_used}
use Rattle.verify.proofs.Zips.{AllZip-narrow}
use Rattle.range.proofs.RangeRows.{by_test}
use Rattle.absval.proofs.SetRows.{AreSets, single_set, single_of, refined_sets, refined_have}
use Rattle.verify.proofs.Meanings.{IsWord, AllWell, meant_at, stands_at, all_set}
use Rattle.absval.proofs.ValueRows.{IsWell}
use Rattle.verify.proofs.StepSound.{IsMeant}
use Rattle.absval.specs.declared.value.AbsVal.TheVariants.{Unset, Number, Pointer}

-- ---- two values

-- Two values remain, and they contain these two.
abbrev HoldEnds : Option (AbsVal × AbsVal) → Value → Value → Type 0
HoldEnds None x y = ⊥
HoldEnds (Some e) x y = Contains e.0 x × Contains e.1 y

abbrev MeantEnds : Option (AbsVal × AbsVal) → Type 0
MeantEnds None = Unit {0}
MeantEnds (Some e) = IsWell e.0 × IsWell e.1

numbers_hold : (o : Option (NumberSet × NumberSet)) (i j : ℕ) → HaveBoth o i j → HoldEnds (option_map (λ e. (Number e.0, Number e.1)) o) (value.Number i) (value.Number j)
numbers_hold None i j h = h
numbers_hold (Some e) i j h = h

numbers_meant : (o : Option (NumberSet × NumberSet)) → AreSets o → MeantEnds (option_map (λ e. (Number e.0, Number e.1)) o)
numbers_meant None h = tt
numbers_meant (Some e) h = h

refined_hold : (w : Width) (c : Condition) (way : Bool) (a b : AbsVal) (x y : Value) → IsWell a → IsWell b → Contains a x → Contains b y → condition_of w c x y ≡ Ok way → HoldEnds (refined_known w c way a b) x y
refined_hold w c way Unset b x y h k p q e = (p, q)
refined_hold w c way (Pointer region o) b x y h k p q e = (p, q)
refined_hold w c way (Number m) Unset x y h k p q e = (p, q)
refined_hold w c way (Number m) (Pointer region o) x y h k p q e = (p, q)
refined_hold w c way (Number m) (Number n) value.Unset y h k p q e = absurd p
refined_hold w c way (Number m) (Number n) (value.Pointer region o) y h k p q e = absurd p
refined_hold w c way (Number m) (Number n) (value.Number i) value.Unset h k p q e = absurd q
refined_hold w c way (Number m) (Number n) (value.Number i) (value.Pointer region o) h k p q e = absurd q
refined_hold w c way (Number m) (Number n) (value.Number i) (value.Number j) h k p q e =
    let same : compared w c i j ≡ way = cc in numbers_hold (refined w c way m n) i j (refined_have w c way m n i j h k p q same)

refined_meant : (w : Width) (c : Condition) (way : Bool) (a b : AbsVal) → IsWell a → IsWell b → MeantEnds (refined_known w c way a b)
refined_meant w c way Unset b h k = (h, k)
refined_meant w c way (Pointer region o) b h k = (h, k)
refined_meant w c way (Number m) Unset h k = (h, k)
refined_meant w c way (Number m) (Pointer region o) h k = (h, k)
refined_meant w c way (Number m) (Number n) h k = numbers_meant (refined w c way m n) (refined_sets w c way m n h k)

-- ---- registers

abbrev HoldAll : Option (List AbsVal) → List Value → Type 0
HoldAll None vs = ⊥
HoldAll (Some es) vs = RegistersDescribe es vs

-- The same number of registers as before, and well-formed.
abbrev KeptAll : ℕ → Option (List AbsVal) → Type 0
KeptAll n None = Unit {0}
KeptAll n (Some es) = AllWell es × (length es ≡ n)

taken_word : (w : Width) (n : ℕ) → n < 2 ^ 64 → taken w n < 2 ^ 64
taken_word W32 n h = omega arith
taken_word W64 n h = h

one_holds : (es : List AbsVal) (vs : List Value) (dst : ℕ) (y : Value) (o : Option (AbsVal × AbsVal)) → RegistersDescribe es vs → HoldEnds o (value_at vs dst) y → HoldAll (option_map (λ e. slice_set es dst e.0) o) vs
one_holds es vs dst y None z h = h
one_holds es vs dst y (Some e) z h = AllZip-narrow Contains es vs dst e.0 value.Unset z h.0

two_hold : (es : List AbsVal) (vs : List Value) (dst src : ℕ) (o : Option (AbsVal × AbsVal)) → RegistersDescribe es vs → HoldEnds o (value_at vs dst) (value_at vs src) →
    HoldAll (option_map (λ e. slice_set (slice_set es dst e.0) src e.1) o) vs
two_hold es vs dst src None z h = h
two_hold es vs dst src (Some e) z h = AllZip-narrow Contains (slice_set es dst e.0) vs src e.1 value.Unset (AllZip-narrow Contains es vs dst e.0 value.Unset z h.0) h.1

one_kept : (es : List AbsVal) (dst : ℕ) (o : Option (AbsVal × AbsVal)) → AllWell es → MeantEnds o → KeptAll (length es) (option_map (λ e. slice_set es dst e.0) o)
one_kept es dst None all h = tt
one_kept es dst (Some e) all h = (all_set es dst e.0 all h.0, length-set es dst e.0)

two_kept : (es : List AbsVal) (dst src : ℕ) (o : Option (AbsVal × AbsVal)) → AllWell es → MeantEnds o → KeptAll (length es) (option_map (λ e. slice_set (slice_set es dst e.0) src e.1) o)
two_kept es dst src None all h = tt
two_kept es dst src (Some e) all h =
    (all_set (slice_set es dst e.0) src e.1 (all_set es dst e.0 all h.0) h.1, length-set (slice_set es dst e.0) src e.1 ∙ length-set es dst e.0)

edge_holds : (w : Width) (c : Condition) (way : Bool) (es : List AbsVal) (vs : List Value) (dst : ℕ) (operand : Operand) → IsWord operand → AllWell es → RegistersDescribe es vs →
    condition_of w c (value_at vs dst) (operand_value vs operand) ≡ Ok way → HoldAll (edge_by w c way es dst operand) vs
edge_holds w c way es vs dst (Register src) fits all z e =
    by_test (λ (o : Option (List AbsVal)). HoldAll o vs) (dst == src) _ _ (λ t. z)
    (λ f. two_hold es vs dst src (refined_known w c way (known_at es dst) (known_at es src)) z
    (refined_hold w c way (known_at es dst) (known_at es src) (value_at vs dst) (value_at vs src) (meant_at es dst all) (meant_at es src all) (stands_at es vs dst z) (stands_at es vs src z) e))
edge_holds w c way es vs dst (Immediate n) fits all z e =
    let m = taken w (cast_unsigned w64 n) in
    let small = taken_word w (cast_unsigned w64 n) fits in
    one_holds es vs dst (value.Number m) (refined_known w c way (known_at es dst) (Number (single m))) z
    (refined_hold w c way (known_at es dst) (Number (single m)) (value_at vs dst) (value.Number m) (meant_at es dst all) (single_set m small) (stands_at es vs dst z) (single_of m small)
    (decided_used w c (value_at vs dst) m (cast_unsigned w64 n) way refl e))

edge_kept : (w : Width) (c : Condition) (way : Bool) (es : List AbsVal) (dst : ℕ) (operand : Operand) → IsWord operand → AllWell es → KeptAll (length es) (edge_by w c way es dst operand)
edge_kept w c way es dst (Register src) fits all =
    by_test (λ (o : Option (List AbsVal)). KeptAll (length es) o) (dst == src) _ _ (λ t. (all, refl))
    (λ f. two_kept es dst src (refined_known w c way (known_at es dst) (known_at es src)) all
    (refined_meant w c way (known_at es dst) (known_at es src) (meant_at es dst all) (meant_at es src all)))
edge_kept w c way es dst (Immediate n) fits all =
    let m = taken w (cast_unsigned w64 n) in
    one_kept es dst (refined_known w c way (known_at es dst) (Number (single m))) all
    (refined_meant w c way (known_at es dst) (Number (single m)) (meant_at es dst all) (single_set m (taken_word w (cast_unsigned w64 n) fits)))

-- ---- states

-- There is an abstract state, and it describes s.
abbrev pub DescribedBy : Option AbsState → State → Type 0
DescribedBy None s = ⊥
DescribedBy (Some a) s = Describes a s

pub narrowed_describes : (c : Comparison) (way : Bool) (a : AbsState) (s : State) → IsWord c.operand → IsMeant a → Describes a s → decided_by c s.registers ≡ Ok way → DescribedBy (narrowed c way a) s
narrowed_describes c way a s fits m d e =
    by_edge (edge_known c way a.registers) (edge_holds c.width c.condition way a.registers s.registers c.dst c.operand fits m.well d.registers e)
  where
    by_edge : (o : Option (List AbsVal)) → HoldAll o s.registers → DescribedBy (option_map (λ known. record { registers = known; stack = a.stack }) o) s
    by_edge None h = h
    by_edge (Some es) h = record { registers = h; stack = d.stack; size = d.size }

pub narrowed_meant : (c : Comparison) (way : Bool) (a : AbsState) → IsWord c.operand → IsMeant a → IfSome (narrowed c way a) IsMeant
narrowed_meant c way a fits m =
    by_edge (edge_known c way a.registers) (edge_kept c.width c.condition way a.registers c.dst c.operand fits m.well)
  where
    by_edge : (o : Option (List AbsVal)) → KeptAll (length a.registers) o → IfSome (option_map (λ known. record { registers = known; stack = a.stack }) o) IsMeant
    by_edge None h = tt
    by_edge (Some es) h = record {
      count = h.1 ∙ m.count;
      well = h.0;
      flags = m.flags;
    }
