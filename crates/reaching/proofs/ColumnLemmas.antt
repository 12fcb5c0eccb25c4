-- Lemmas about columns: which units set a cell, found from the stack after each unit.
use Rattle.std.proofs.Common.{◌≡◌, ◌∙◌, ℕ, zero, suc, ◌+◌, ◌<◌, List, [], ◌∷◌, ◌++◌, Bool, true, false, Option, Some, None, refl, ap, arith, length, length-append, subst, sym}
use Rattle.std.specs.Prelude.{slice_get, nat_lt, not}
use Rattle.std.specs.Result.{result_ok}
use Rattle.std.proofs.lemmas.Bool.{ltb-true, ltb-false}
use Rattle.std.proofs.lemmas.Option.{same_Some, slice_get_within}
use Rattle.std.proofs.lemmas.Bool.Decides.{Decides-int_eq}
use Rattle.label.proofs.Ranks.{get_left, get_right}
use Rattle.semantics.specs.declared.value.Region.TheVariants.{Stack, Context}
use Rattle.insn.specs.declared.insn.Insn.{Insn}
use Rattle.insn.specs.declared.insn.Insn.TheVariants.{Arithmetic, Negate, SignExtend, Swap, Load, LoadSigned, Store, Call}
use Rattle.insn.specs.Program.{instruction_at}
use Rattle.absval.specs.declared.value.AbsVal.{AbsVal}
use Rattle.absmem.specs.Known.{Known}
use Rattle.verify.specs.declared.state.AbsState.{AbsState}
use Rattle.absval.specs.Table.{computed, negated_known, extended_known, swapped_known}
use Rattle.verify.specs.Registers.{known_at, operand_known, first_known}
use Rattle.verify.specs.MemoryTable.{load_given, signed_load_given}
use Rattle.verify.specs.Transfer.{assigned}
use Rattle.reaching.specs.declared.cells.CellContent.{CellContent}
use Rattle.reaching.specs.declared.cells.CellContent.TheVariants.{Unset, Byte, Piece}
use Rattle.reaching.specs.declared.subject.Subject.TheVariants.{Cell}
use Rattle.reaching.specs.Contents.{held_at, same_content}
use Rattle.reaching.specs.declared.changes.Column.{Column}
use Rattle.reaching.specs.declared.setters.Setters.{Setters}
use Rattle.reaching.specs.declared.ways.Way.{Way}
use Rattle.reaching.specs.Left.{left}
use Rattle.reaching.specs.Marks.{KnownByUnit, known_by}
use Rattle.reaching.specs.Setting.{set_by, of_units}
use Rattle.reaching.specs.Setters.{way_from, ways_from, way_at, passed_on, setters_over}
use Rattle.reaching.specs.Columns.{stack_behind, stacks_behind, stack_at, changed_in, IsColumn}

pub of_units_length : {X : Type 0} (tells : ℕ → X) (n : ℕ) → length (of_units tells n) ≡ n
of_units_length tells zero = refl
of_units_length tells (suc n) =
    let so_far : length (of_units tells n) ≡ n = of_units_length tells n in
    omega (arith, length-append (of_units tells n) (tells n ∷ []))

pub of_units_at : {X : Type 0} (tells : ℕ → X) (n unit : ℕ) → unit < n → slice_get (of_units tells n) unit ≡ Some (tells unit)
of_units_at tells zero unit lt = absurd (omega arith)
of_units_at tells (suc n) unit lt = by_test (nat_lt unit n) refl (of_units_at tells n)
  where
    room : length (of_units tells n) ≡ n
    room = of_units_length tells n

    by_test : (t : Bool) → nat_lt unit n ≡ t → ((k : ℕ) → k < n → slice_get (of_units tells n) k ≡ Some (tells k)) → slice_get (of_units tells n ++ tells n ∷ []) unit ≡ Some (tells unit)
    by_test true e before =
        let within : unit < n = ltb-true unit n e in
        let inside : unit < length (of_units tells n) = omega (arith, room) in
        get_left (of_units tells n) (tells n ∷ []) unit inside ∙ before unit within
    by_test false e before =
        let last : unit ≡ n = omega (arith, ltb-false unit n e) in
        let there : unit ≡ length (of_units tells n) + 0 = omega (arith, room) in
        get_right (of_units tells n) (tells n ∷ []) unit 0 there ∙ ap (λ (k : ℕ). Some (tells k)) (sym last)

same_itself : (c : CellContent) → same_content c c ≡ true
same_itself Unset = refl
same_itself Byte = refl
same_itself (Piece Stack offset) = (Decides-int_eq offset offset).1 refl
same_itself (Piece Context offset) = (Decides-int_eq offset offset).1 refl

-- ---- instructions that do not change the stack

assigned_stack : (a : AbsState) (dst : ℕ) (value : Option AbsVal) → (assigned a dst value).stack ≡ a.stack
assigned_stack a dst None = refl
assigned_stack a dst (Some value) = refl

kept : (a : AbsState) (cell : ℕ) (behind : Known) → behind ≡ a.stack → false ≡ not (same_content (held_at a.stack cell) (held_at behind cell))
kept a cell behind e = sym (ap (λ (known : Known). not (same_content (held_at a.stack cell) (held_at known cell))) e ∙ ap not (same_itself (held_at a.stack cell)))

pub changed_so : (cell : ℕ) (i : Option Insn) (known : Option AbsState) → changed_in cell known (stack_behind i known) ≡ set_by (Cell cell) i known
changed_so cell None None = refl
changed_so cell None (Some a) = refl
changed_so cell (Some i) None = refl
changed_so cell (Some (Store size base offset source)) (Some a) = refl
changed_so cell (Some (Call number)) (Some a) = refl
changed_so cell (Some (Arithmetic w operation dst operand)) (Some a) =
    kept a cell (left (Arithmetic w operation dst operand) a).stack (assigned_stack a dst (computed w operation (first_known a.registers operation dst) (operand_known a.registers operand)))
changed_so cell (Some (Negate w dst)) (Some a) = kept a cell (left (Negate w dst) a).stack (assigned_stack a dst (negated_known w (known_at a.registers dst)))
changed_so cell (Some (SignExtend w part dst src)) (Some a) = kept a cell (left (SignExtend w part dst src) a).stack (assigned_stack a dst (extended_known w part (known_at a.registers src)))
changed_so cell (Some (Swap order size dst)) (Some a) = kept a cell (left (Swap order size dst) a).stack (assigned_stack a dst (swapped_known order size (known_at a.registers dst)))
changed_so cell (Some (Load size dst base offset)) (Some a) =
    kept a cell (left (Load size dst base offset) a).stack (assigned_stack a dst (result_ok (load_given a.stack size (known_at a.registers base) offset)))
changed_so cell (Some (LoadSigned part dst base offset)) (Some a) =
    kept a cell (left (LoadSigned part dst base offset) a).stack (assigned_stack a dst (result_ok (signed_load_given a.stack part (known_at a.registers base) offset)))
changed_so cell (Some i) (Some a) = kept a cell a.stack refl

-- ---- the flag of a unit, found from the lists

pub sets_so : (program : List Insn) (survey : KnownByUnit) (stacks : List (Option Known)) (cell unit units : ℕ) (known : Option AbsState) (behind : Option Known) (flag : Bool) →
    unit < units → stacks ≡ stacks_behind program survey units → known ≡ known_by (survey unit) → behind ≡ stack_at (slice_get stacks unit) → flag ≡ changed_in cell known behind →
    flag ≡ set_by (Cell cell) (instruction_at program unit) (known_by (survey unit))
sets_so program survey stacks cell unit units known behind flag lt all here left so =
    let there : slice_get stacks unit ≡ Some (stack_behind (instruction_at program unit) (known_by (survey unit))) =
    ap (λ (s : List (Option Known)). slice_get s unit) all ∙ of_units_at (λ n. stack_behind (instruction_at program n) (known_by (survey n))) units unit lt in
    so ∙ ((λ k. changed_in cell (here k) ((left ∙ ap stack_at there) k)) ∙ changed_so cell (instruction_at program unit) (known_by (survey unit)))

pub way_so : (program : List Insn) (survey : KnownByUnit) (ways : List Way) (unit units : ℕ) (way : Way) →
    unit < units → ways ≡ ways_from program survey units → way ≡ way_at (slice_get ways unit) → way ≡ way_from unit (instruction_at program unit) (known_by (survey unit))
way_so program survey ways unit units way lt all so =
    so ∙ ap way_at (ap (λ (s : List Way). slice_get s unit) all ∙ of_units_at (λ n. way_from n (instruction_at program n) (known_by (survey n))) units unit lt)

-- The setters over one more unit.
pub flow_more : (program : List Insn) (survey : KnownByUnit) (cell n : ℕ) (before after : List Setters) (way : Way) (changed : Bool) →
    before ≡ setters_over program survey (Cell cell) n → way ≡ way_from n (instruction_at program n) (known_by (survey n)) → changed ≡ set_by (Cell cell) (instruction_at program n) (known_by (survey n)) →
    after ≡ passed_on before n way changed → after ≡ setters_over program survey (Cell cell) (n + 1)
flow_more program survey cell n before after way changed so_far leads sets more =
    let next : suc n ≡ n + 1 = omega arith in
    subst (λ (m : ℕ). after ≡ setters_over program survey (Cell cell) m) next
    (more ∙ λ k. passed_on (so_far k) n (leads k) (sets k))

-- With one more column, each column is still that of its cell.
pub columns_more : (program : List Insn) (survey : KnownByUnit) (columns : List Column) (column : Column) (n : ℕ) → length columns ≡ n →
    ((cell : ℕ) (c : Column) → slice_get columns cell ≡ Some c → IsColumn program survey cell c) → IsColumn program survey n column →
    (cell : ℕ) (c : Column) → slice_get (columns ++ column ∷ []) cell ≡ Some c → IsColumn program survey cell c
columns_more program survey columns column n room each last cell c found = by_test (nat_lt cell n) refl
  where
    whole : cell < length (columns ++ column ∷ [])
    whole = slice_get_within (columns ++ column ∷ []) cell c found

    by_test : (t : Bool) → nat_lt cell n ≡ t → IsColumn program survey cell c
    by_test true e =
        let within : cell < n = ltb-true cell n e in
        let inside : cell < length columns = omega (arith, room) in
        each cell c (sym (get_left columns (column ∷ []) cell inside) ∙ found)
    by_test false e =
        let all : length (columns ++ column ∷ []) ≡ length columns + 1 = length-append columns (column ∷ []) in
        let same : n ≡ cell = omega (arith, ltb-false cell n e, whole, all, room) in
        let there : cell ≡ length columns + 0 = omega (arith, room) in
        let is : column ≡ c = same_Some column c (sym (get_right columns (column ∷ []) cell 0 there) ∙ found) in
        subst (λ (v : Column). IsColumn program survey cell v) is (subst (λ (k : ℕ). IsColumn program survey k column) same last)
