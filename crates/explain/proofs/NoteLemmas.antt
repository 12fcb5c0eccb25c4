-- The notes grow unit by unit, and each instruction starts at a unit of the program.
use Rattle.std.proofs.Common.{◌≡◌, ◌∙◌, ℕ, zero, suc, ◌+◌, ◌-◌, ◌<◌, List, [], ◌++◌, Option, Some, None, ap, append_assoc, append-nil, arith, length, refl, subst, sym}
use Rattle.std.specs.Prelude.{IsSome, slice_get}
use Rattle.insn.specs.declared.insn.Insn.{Insn}
use Rattle.insn.specs.Program.{slots_of, instruction_at}
use Rattle.verify.specs.declared.state.AbsState.{AbsState}
use Rattle.verify.proofs.Edges.{start_inside}
use Rattle.reaching.specs.declared.mark.UnitMark.{UnitMark}
use Rattle.reaching.specs.declared.subject.Subject.{Subject}
use Rattle.reaching.specs.declared.subject.Subject.TheVariants.{Register}
use Rattle.reaching.specs.Marks.{KnownByUnit, known_by, marks}
use Rattle.explain.specs.Units.{Writing}
use Rattle.explain.specs.Notes.{note_text, notes_below, origin_notes}
use Rattle.explain.specs.Origins.{origin_of, from_origin}

-- One more note.
pub notes_more : (written : Writing) (before out new : List ℕ) (program : List Insn) (survey : KnownByUnit) (asked : Subject) (marked : List UnitMark) (n : ℕ) (insn : Option Insn) (known : Option AbsState) (mark : Option UnitMark) →
    insn ≡ instruction_at program n → known ≡ known_by (survey n) → mark ≡ slice_get marked n → out ≡ before ++ notes_below written program survey asked marked n → new ≡ out ++ note_text written asked n insn known mark →
    new ≡ before ++ notes_below written program survey asked marked (n + 1)
notes_more written before out new program survey asked marked n insn known mark at here so so_far more =
    let note : List ℕ = note_text written asked n (instruction_at program n) (known_by (survey n)) (slice_get marked n) in
    let next : suc n ≡ n + 1 = omega arith in
    subst (λ (m : ℕ). new ≡ before ++ notes_below written program survey asked marked m) next
    (more ∙ ((λ i. out ++ note_text written asked n (at i) (here i) (so i)) ∙ (ap (λ (l : List ℕ). l ++ note) so_far ∙ append_assoc before (notes_below written program survey asked marked n) note)))

pub starts_within : (program : List Insn) (unit : ℕ) (i : Insn) → Some i ≡ instruction_at program unit → unit < length (slots_of program)
starts_within program unit i at = start_inside program unit (subst (λ (o : Option Insn). IsSome o) at refl)

-- ---- the register from which the subject was computed

pub no_origin : (written : Writing) (program : List Insn) (survey : KnownByUnit) (marked : List UnitMark) (unit most : ℕ) → most ≡ 0 → origin_notes most written program survey marked unit ≡ []
unfolding origin_notes
no_origin written program survey marked unit zero e = refl
no_origin written program survey marked unit (suc n) e = absurd (omega arith)

abbrev pub deeper : ℕ → Writing → List Insn → KnownByUnit → ℕ → ℕ → List ℕ
deeper most written program survey r place =
    origin_notes most written program survey (marks program survey (Register r) place) place
    ++ notes_below written program survey (Register r) (marks program survey (Register r) place) place

pub origin_so : (written : Writing) (program : List Insn) (survey : KnownByUnit) (marked : List UnitMark) (unit most : ℕ) → 0 < most →
    origin_notes most written program survey marked unit ≡ from_origin (λ r place. deeper (most - 1) written program survey r place) (origin_of program survey marked unit)
unfolding origin_notes
origin_so written program survey marked unit zero e = absurd (omega arith)
origin_so written program survey marked unit (suc n) e =
    let same : n ≡ suc n - 1 = omega arith in
    ap (λ (k : ℕ). from_origin (λ r place. deeper k written program survey r place) (origin_of program survey marked unit)) same

pub none_noted : (written : Writing) (out : List ℕ) (program : List Insn) (survey : KnownByUnit) (marked : List UnitMark) (unit most : ℕ) → most ≡ 0 → out ≡ out ++ origin_notes most written program survey marked unit
none_noted written out program survey marked unit most e = sym (append-nil out) ∙ ap (λ (l : List ℕ). out ++ l) (sym (no_origin written program survey marked unit most e))

pub nothing_more : (written : Writing) (out : List ℕ) (program : List Insn) (survey : KnownByUnit) (marked : List UnitMark) (unit most : ℕ) → 0 < most → None ≡ origin_of program survey marked unit →
    out ≡ out ++ origin_notes most written program survey marked unit
nothing_more written out program survey marked unit most some none =
    let ends : origin_notes most written program survey marked unit ≡ [] =
    origin_so written program survey marked unit most some ∙ ap (λ (o : Option (ℕ × ℕ)). from_origin (λ r place. deeper (most - 1) written program survey r place) o) (sym none) in
    sym (append-nil out) ∙ ap (λ (l : List ℕ). out ++ l) (sym ends)

pub origins_more : (written : Writing) (out middle last : List ℕ) (program : List Insn) (survey : KnownByUnit) (marked items shown : List UnitMark) (unit : ℕ) (origin : ℕ × ℕ) (most : ℕ) → 0 < most →
    Some origin ≡ origin_of program survey marked unit → items ≡ marks program survey (Register origin.0) origin.1 → shown ≡ items → middle ≡ out ++ origin_notes (most - 1) written program survey shown origin.1 →
    last ≡ middle ++ notes_below written program survey (Register origin.0) shown origin.1 → last ≡ out ++ origin_notes most written program survey marked unit
origins_more written out middle last program survey marked items shown unit origin most some found all same before more =
    let first : shown ≡ marks program survey (Register origin.0) origin.1 = same ∙ all in
    let own : List ℕ = origin_notes (most - 1) written program survey shown origin.1 in
    let below : List ℕ = notes_below written program survey (Register origin.0) shown origin.1 in
    let parts : last ≡ out ++ (own ++ below) = more ∙ (ap (λ (l : List ℕ). l ++ below) before ∙ append_assoc out own below) in
    let there : last ≡ out ++ deeper (most - 1) written program survey origin.0 origin.1 =
    parts ∙ λ k. out ++ (origin_notes (most - 1) written program survey (first k) origin.1 ++ notes_below written program survey (Register origin.0) (first k) origin.1) in
    subst (λ (o : Option (ℕ × ℕ)). last ≡ out ++ from_origin (λ r place. deeper (most - 1) written program survey r place) o) found there
    ∙ ap (λ (l : List ℕ). out ++ l) (sym (origin_so written program survey marked unit most some))
