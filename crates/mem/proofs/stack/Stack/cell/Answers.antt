-- A cell as the code represents it.
use Rattle.std.proofs.Common.{◌≡◌, ◌∙◌, ◌-◌, ◌%◌, ap, refl, List, get_or, subst, to_z, of_z, rules, ℕ}
use Rattle.std.specs.Int.{w32, cast_signed}
use Rattle.std.proofs.lemmas.Int.{to_z-of_z}
use Rattle.semantics.specs.declared.value.Cell.{Cell}
use Rattle.semantics.specs.declared.value.Cell.TheVariants.{Empty, Byte, Piece}
use Rattle.mem.proofs.Kept.{kept_nothing, kept_byte, kept_piece}
use Rattle.mem.proofs.stack.Stack.cell.Goals as goal

pub returns-then-kind-eq0 : goal.returns-then-kind-eq0
returns-then-kind-eq0 c =
    subst (λ (l : List Cell). Empty ≡ get_or l c.args.place Empty) c.self.view_is
    (kept_nothing c.self.inside.kinds c.self.inside.bytes c.self.inside.offsets c.args.place c.requires c.if-kind-eq0.true)

pub returns-then-kind-eq-BYTE : goal.returns-then-kind-eq-BYTE
returns-then-kind-eq-BYTE c =
    subst (λ (l : List Cell). Byte (get_or c.self.inside.bytes c.args.place 0) ≡ get_or l c.args.place Empty) c.self.view_is
    (kept_byte c.self.inside.kinds c.self.inside.bytes c.self.inside.offsets c.args.place c.requires c.if-kind-eq-BYTE.true)

pub returns : goal.returns
returns c =
    let i = (get_or c.self.inside.kinds c.args.place 0 - 2) % 8 in
    let offset : to_z w32 (of_z w32 c.cast_signed.result) ≡ cast_signed w32 (get_or c.self.inside.offsets (c.args.place - i) 0) =
    to_z-of_z w32 c.cast_signed.result (search rules)
    ∙ (c.cast_signed.ensures ∙ ap (λ (n : ℕ). cast_signed w32 (get_or c.self.inside.offsets n 0)) c.saturating_sub-first.ensures) in
    subst (λ (l : List Cell). Piece i c.region_of.result (to_z w32 (of_z w32 c.cast_signed.result)) ≡ get_or l c.args.place Empty) c.self.view_is
    (kept_piece c.self.inside.kinds c.self.inside.bytes c.self.inside.offsets c.args.place i c.region_of.result _ c.requires c.if-kind-eq0.false c.if-kind-eq-BYTE.false refl c.region_of.ensures offset)
